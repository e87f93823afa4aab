use Rattle.std.proofs.Common.{◌-◌, arith, ◌∙◌}
use Rattle.shadow_segments.specs.Shadow.{test_of}
use Rattle.shadow_segments.proofs.Marks.{unit_within, test_view}
use Rattle.shadow_segments.proofs.Shadow.all_in_unit_written.Goals as goal

pub returns-clause-value : goal.returns-clause-value
returns-clause-value g c =
    c.passes.ensures
    ∙ test_view (test_of c.args.asked) _ _ c.args.unit c.in_ok-state.state c.args.from (c.args.to - c.args.from) c.self.view_is (unit_within _ _ c.args.unit c.self.view_is c.requires.inside)
    c.in_ok-state.ensures.value (omega (arith, c.requires.order, c.requires.small))
