use Rattle.std.proofs.Common.{◌+◌, ◌≤◌, length, ◌∙◌, arith}
use Rattle.shadow_segments.specs.Words.{pair_at}
use Rattle.shadow_segments.proofs.Pairs.{count_is, words_same, put_both}
use Rattle.shadow_segments.proofs.words.Words.set_both_behind.Goals as goal

pub overflow_add-unit : goal.overflow_add-unit
overflow_add-unit c = omega (arith, c.requires, c.self.invariant, (count_is _ _ _ c.self.view_is).0)

pub written_to-self-inside-requires-clause-inside :
    goal.written_to-self-inside-requires-clause-inside
written_to-self-inside-requires-clause-inside c =
    let room : c.args.unit + 1 ≤ c.self.inside.len = omega (arith, c.requires, (count_is _ _ _ c.self.view_is).0) in
    (omega (arith, c.self.invariant, c.self.inside.units.ok.0), omega (arith, c.self.invariant, c.self.inside.units.ok.0), omega (arith, c.self.invariant), room)

pub returns : goal.returns
returns c =
    let written = c.written_to-self-inside in
    let still =
    words_same c.self.inside.len (pair_at c.self.inside.units.items c.self.inside.from c.self.inside.to c.self.inside.run)
    (pair_at written.new.units.items written.result c.self.inside.to c.self.inside.run) written.ensures.same ∙ c.self.view_is in
    let long : written.result ≤ length written.new.units.items = omega (arith, written.ensures.to, written.new.units.ok.0) in
    put_both c.self.inside.len written.result c.self.inside.to written.new.units.items c.self.inside.run _ still c.args.unit c.args.pair (omega (arith, written.ensures.to)) long c.requires
