use Rattle.std.proofs.Common.{sym}
use Rattle.shadow_segments.proofs.Pairs.{found, found_written}
use Rattle.shadow_segments.proofs.words.Words.at.Goals as goal

pub returns-then-unit-self-clause-state : goal.returns-then-unit-self-clause-state
returns-then-unit-self-clause-state c =
    (found_written c.self.inside.len c.self.inside.from c.self.inside.to c.self.inside.units.items c.self.inside.run _ c.self.view_is
    (c.self.invariant.0, c.self.invariant.1, c.self.invariant.3) c.args.unit c.index.result.now c.if-unit-self.true c.index.ensures).0

pub returns-then-unit-self-clause-place : goal.returns-then-unit-self-clause-place
returns-then-unit-self-clause-place c =
    (found_written c.self.inside.len c.self.inside.from c.self.inside.to c.self.inside.units.items c.self.inside.run _ c.self.view_is
    (c.self.invariant.0, c.self.invariant.1, c.self.invariant.3) c.args.unit c.index.result.now c.if-unit-self.true c.index.ensures).1

pub returns-else-unit-self-clause-state : goal.returns-else-unit-self-clause-state
returns-else-unit-self-clause-state c =
    (found c.self.inside.len c.self.inside.from c.self.inside.to c.self.inside.units.items c.self.inside.run _ c.self.view_is
    (c.self.invariant.0, c.self.invariant.1, c.self.invariant.3) c.args.unit c.behind.result (sym c.behind.ensures)).0

pub returns-else-unit-self-clause-place : goal.returns-else-unit-self-clause-place
returns-else-unit-self-clause-place c =
    (found c.self.inside.len c.self.inside.from c.self.inside.to c.self.inside.units.items c.self.inside.run _ c.self.view_is
    (c.self.invariant.0, c.self.invariant.1, c.self.invariant.3) c.args.unit c.behind.result (sym c.behind.ensures)).1
