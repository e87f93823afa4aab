use Rattle.std.proofs.Common.{◌+◌, ◌≤◌, ◌∙◌, arith}
use Rattle.shadow_segments.specs.Words.{pair_at}
use Rattle.shadow_segments.proofs.Pairs.{count_is, words_same, released_each, released_run}
use Rattle.shadow_segments.proofs.words.Words.release_run.Goals as goal

pub written_to-self-inside-requires-clause-inside :
    goal.written_to-self-inside-requires-clause-inside
written_to-self-inside-requires-clause-inside c =
    let room : c.args.first + c.args.count ≤ c.self.inside.len = omega (arith, c.requires, (count_is _ _ _ c.self.view_is).0) in
    (omega (arith, c.self.invariant, c.self.inside.units.ok.0), omega (arith, c.self.invariant, c.self.inside.units.ok.0), omega (arith, c.self.invariant), room)

pub returns-then-ends_run : goal.returns-then-ends_run
returns-then-ends_run c =
    let ends = c.if-ends_run.ensures in
    released_run c.self.inside.len c.self.inside.from c.self.inside.to c.self.inside.units.items c.self.inside.run _ c.self.view_is
    c.keep_marks.new.units.items c.args.first c.args.count ends.1 ends.2 ends.0 c.requires c.keep_marks.ensures.inside c.keep_marks.ensures.others

pub returns-else-ends_run : goal.returns-else-ends_run
returns-else-ends_run c =
    let written = c.written_to-self-inside in
    let still =
    words_same c.self.inside.len (pair_at c.self.inside.units.items c.self.inside.from c.self.inside.to c.self.inside.run)
    (pair_at written.new.units.items written.result c.self.inside.to c.self.inside.run) written.ensures.same ∙ c.self.view_is in
    released_each c.self.inside.len written.result c.self.inside.to written.new.units.items c.self.inside.run _ still c.keep_marks-else-ends_run.new.units.items c.args.first c.args.count
    (omega (arith, written.ensures.to)) c.requires c.keep_marks-else-ends_run.ensures.inside c.keep_marks-else-ends_run.ensures.others
