use Rattle.std.proofs.Common.{rules, ◌≡◌, ◌∷◌, ◌∙◌, ap, sym, true, false, Some, None, map, Option, cond, nat_eq}
use Rattle.c_syntax.specs.declared.annotation.Range.{Range}
use Rattle.c_syntax.specs.Formulas.{plain_cast_type}
use Rattle.c_syntax.specs.Logic.{plain_binder}
use Rattle.c_model.specs.Ranges.{bounded}
use Rattle.c_model.specs.TermRanges.{Seen, are_bounded, lowered, raised, range_seen, seen_binders, tried_range}
use Rattle.interval_infer.specs.Seen.{or_seen}
use Rattle.interval_infer.proofs.Tried.{guard_is, named_next, none_within, seen_is, within_next}
use Rattle.interval_infer.proofs.binder.range_behind.Goals as goal

pub returns-in_err-range : goal.returns-in_err-range
returns-in_err-range c = λ seen.
    let g = c.args.guard.now in
    let h = lowered g.below g.upper.range.hi in
    let r = tried_range (plain_cast_type g.first.kind) (raised g.first.above g.lower.range.lo) h in
    let e : bounded r ≡ None = search rules in
    let absurd : true ≡ false = sym c.requires.bounded ∙ guard_is g ∙ none_within r (are_bounded r.lo (map plain_binder g.others.items) h) e in
    cc

pub named-inside-requires : goal.named-inside-requires
named-inside-requires c =
    let g = c.args.guard.now in
    let h = lowered g.below g.upper.range.hi in
    let r = tried_range (plain_cast_type g.first.kind) (raised g.first.above g.lower.range.lo) h in
    let e : bounded r ≡ Some c.in_ok-range.range = search rules in
    let whole = within_next r c.in_ok-range.range (map plain_binder g.others.items) h e (sym (guard_is g) ∙ c.requires.bounded) in
    search (rules, whole)

pub returns : goal.returns
returns c = λ seen.
    let g = c.args.guard.now in
    let n = c.args.number in
    let h = lowered g.below g.upper.range.hi in
    let bs = map plain_binder g.others.items in
    let range = c.in_ok-range.range in
    let e : bounded (tried_range (plain_cast_type g.first.kind) (raised g.first.above g.lower.range.lo) h) ≡ Some range = search rules in
    let i : (s : Seen) → range_seen n (seen_binders range.lo bs h s) ≡ or_seen c.named-inside.result (range_seen n s) = λ s. search (rules, c.named-inside.ensures s) in
    let f : (o : Option Range) → or_seen c.own_range.result o ≡ or_seen c.named-inside.result (cond (nat_eq g.first.place.offset n) (Some range) o) = λ o. search (rules, c.own_range.ensures o) in
    ap (range_seen n) (seen_is g seen) ∙ named_next n (plain_binder g.first) bs g.lower.range.lo h range c.named-inside.result c.own_range.result e i f seen
