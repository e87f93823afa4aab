use Rattle.shadow_segments.proofs.Pairs.{found_written}
use Rattle.shadow_segments.proofs.words.Words.written.Goals as goal

pub returns-then-unit-self-clause-state : goal.returns-then-unit-self-clause-state
returns-then-unit-self-clause-state g c =
    (found_written c.self.inside.len c.self.inside.from c.self.inside.to c.self.inside.units.items c.self.inside.run _ c.self.view_is
    (c.self.invariant.0, c.self.invariant.1, c.self.invariant.3) c.args.unit c.index.result.now c.if-unit-self.true c.index.ensures).0

pub returns-then-unit-self-clause-place : goal.returns-then-unit-self-clause-place
returns-then-unit-self-clause-place g c =
    (found_written c.self.inside.len c.self.inside.from c.self.inside.to c.self.inside.units.items c.self.inside.run _ c.self.view_is
    (c.self.invariant.0, c.self.invariant.1, c.self.invariant.3) c.args.unit c.index.result.now c.if-unit-self.true c.index.ensures).1
