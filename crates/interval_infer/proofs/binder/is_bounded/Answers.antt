use Rattle.std.proofs.Common.{rules, ◌≡◌, ◌∷◌, ◌∙◌, sym, false, Some, None, map}
use Rattle.c_syntax.specs.Formulas.{plain_cast_type}
use Rattle.c_syntax.specs.Logic.{plain_binder}
use Rattle.c_model.specs.Ranges.{bounded}
use Rattle.c_model.specs.TermRanges.{are_bounded, lowered, raised, tried_range}
use Rattle.interval_infer.proofs.Tried.{bounds_next, guard_is, none_within}
use Rattle.interval_infer.proofs.binder.is_bounded.Goals as goal

pub returns-in-None : goal.returns-in-None
returns-in-None c =
    let g = c.args.guard.now in
    let h = lowered g.below g.upper.range.hi in
    let r = tried_range (plain_cast_type g.first.kind) (raised g.first.above g.lower.range.lo) h in
    let e : bounded r ≡ None = search rules in
    sym (guard_is g ∙ none_within r (are_bounded r.lo (map plain_binder g.others.items) h) e)

pub returns-in-Some : goal.returns-in-Some
returns-in-Some c =
    let g = c.args.guard.now in
    let h = lowered g.below g.upper.range.hi in
    let bs = map plain_binder g.others.items in
    let r = tried_range (plain_cast_type g.first.kind) (raised g.first.above g.lower.range.lo) h in
    let e : bounded r ≡ Some c.in-Some.range = search rules in
    let i : c.bounds.result ≡ are_bounded c.in-Some.range.lo bs h = search rules in
    i ∙ sym (guard_is g ∙ bounds_next r c.in-Some.range bs h e)
