use Rattle.std.proofs.Common.{◌≡◌, ◌∷◌, map, true, false, rules, refl, sym, ap, ◌∙◌, subst, Some, Err, Ok, option_map}
use Rattle.std.specs.Box.{with_value}
use Rattle.c_syntax.specs.declared.annotation.Range.{Range}
use Rattle.c_syntax.specs.declared.logic.Guards as code_guards
use Rattle.c_syntax.specs.declared.logic.PredKind as pred
use Rattle.c_syntax.specs.declared.logic.TermKind as term
use Rattle.c_syntax.specs.declared.logic.ZoneKind as zone
use Rattle.c_syntax.specs.Ctypes.{plain_type}
use Rattle.c_syntax.specs.Formulas.{plain_cast_type}
use Rattle.c_syntax.specs.Logic.{Guarded, range_of}
use Rattle.std.specs.Prelude.{OnOk, ◌&&◌}
use Rattle.c_model.specs.TermRanges.{are_bounded, lowered, seen_binders}
use Rattle.c_syntax.specs.Logic.{Binary, Moved, plain_binder, plain_guards, plain_links, plain_pred, plain_pred_kind, plain_term, plain_term_kind, plain_zone_kind, plain_zones}
use Rattle.c_model.specs.Checked.{Good, pair_of}
use Rattle.c_model.specs.TermRanges.{binary_range, cast_range, has_extent, held_range, member_range, moved_range, ranged_links, ranged_pred, ranged_term}
use Rattle.c_model.specs.TermRanges.{ranged_zone, ranged_zones, unary_range}
use Rattle.c_scopes.specs.Answers.{Answers, both}
use Rattle.interval_infer.specs.Answers.{or_no_range}
use Rattle.interval_infer.proofs.Ranged.{at_in_place, named_in_place}
use Rattle.interval_infer.proofs.Ranged.{Is, IsPred, IsZone, variable_in_place, unary_in_place, cast_in_place, choice_in_place, choice_refused}
use Rattle.interval_infer.proofs.Ranged.{deref_in_place, member_in_place, address_in_place, two_in_place, two_refused, keeps_ranges}
use Rattle.interval_infer.proofs.Ranged.{elements_in_place, elements_outside, elements_refused, zones_in_place}
use Rattle.interval_infer.proofs.Ranged.{chain_in_place, connected_in_place, branch_in_place, links_in_place, in_order, refused_too}
use Rattle.interval_infer.proofs.Ranged.{quantified_in_place, quantified_refused, guard_in_place, bounded_more, unbounded_refused}
use Rattle.interval_infer.specs.Seen.{GuardsAnswer, are_guarded, plain_seen, seen_guards}
use Rattle.interval_infer.proofs.SeenNames.{seen_ordered}
use Rattle.interval_infer.proofs.annotation.+ranges.Goals as goal

pub range_kind-returns-in-Variable-clause-ranged :
    goal.range_kind-returns-in-Variable-clause-ranged
range_kind-returns-in-Variable-clause-ranged t c = λ r.
    variable_in_place (plain_seen c.args.seen.now) c.args.at c.args.kind.now (option_map plain_type c.args.ctype.now) r c.in-Variable.field-0 c.or_no_range.result c.in-Variable.is
    (c.or_no_range.ensures.is ∙ ap (λ o. or_no_range o c.args.at) c.place_range.ensures)

pub range_kind-returns-in-Named-clause-ranged : goal.range_kind-returns-in-Named-clause-ranged
range_kind-returns-in-Named-clause-ranged t c = λ r.
    named_in_place (plain_seen c.args.seen.now) c.args.at c.args.kind.now (option_map plain_type c.args.ctype.now) r c.in-Named.name c.or_no_range-in-Named.result c.in-Named.is
    (c.or_no_range-in-Named.ensures.is ∙ ap (λ o. or_no_range o c.args.at) c.named_range.ensures)

pub range_kind-returns-in-At-clause-ranged : goal.range_kind-returns-in-At-clause-ranged
range_kind-returns-in-At-clause-ranged t c = λ r.
    let is : c.args.kind.now ≡ term.At c.in-At.field-0 c.in-At.a = search rules in
    let ha : Answers (λ (s : Range). plain_term c.range_one-in-At.new.t) (ranged_term (plain_seen c.args.seen.now) (plain_term c.in-At.a)) c.range_one-in-At.result = search rules in
    at_in_place (plain_seen c.args.seen.now) c.args.at c.args.kind.now (option_map plain_type c.args.ctype.now) r c.in-At.field-0 c.in-At.a c.range_one-in-At.new.t c.range_one-in-At.result is ha
    c.range_one-in-At.ensures.value

pub range_kind-returns-in_ok-range_one-in-Unary-clause-ranged :
    goal.range_kind-returns-in_ok-range_one-in-Unary-clause-ranged
range_kind-returns-in_ok-range_one-in-Unary-clause-ranged t c = λ r.
    let is : c.args.kind.now ≡ term.Unary c.in-Unary.op c.in-Unary.a = search rules in
    let ha : Is (plain_seen c.args.seen.now) c.in-Unary.a (Ok tt) c.range_one.new.t = search rules in
    unary_in_place (plain_seen c.args.seen.now) c.args.at c.args.kind.now (option_map plain_type c.args.ctype.now) r c.in-Unary.op c.in-Unary.a c.range_one.new.t c.or_no_range-in-Unary.result is ha
    (c.or_no_range-in-Unary.ensures.is ∙ ap (λ o. or_no_range o c.args.at) (c.unary_range.ensures ∙ ap (unary_range c.in-Unary.op) c.in_ok-range_one-in-Unary.ensures.value))

pub range_kind-returns-in_ok-range_one-in-Cast-clause-ranged :
    goal.range_kind-returns-in_ok-range_one-in-Cast-clause-ranged
range_kind-returns-in_ok-range_one-in-Cast-clause-ranged t c = λ r.
    let is : c.args.kind.now ≡ term.Cast c.in-Cast.to c.in-Cast.a = search rules in
    let ha : Is (plain_seen c.args.seen.now) c.in-Cast.a (Ok tt) c.range_one-in-Cast.new.t = search rules in
    cast_in_place (plain_seen c.args.seen.now) c.args.at c.args.kind.now (option_map plain_type c.args.ctype.now) r c.in-Cast.to c.in-Cast.a c.range_one-in-Cast.new.t c.or_no_range-in-Cast.result is ha
    (c.or_no_range-in-Cast.ensures.is ∙ ap (λ o. or_no_range o c.args.at) (c.cast_range.ensures ∙ ap (cast_range (plain_cast_type c.in-Cast.to)) c.in_ok-range_one-in-Cast.ensures.value))

pub range_kind-returns-in_ok-range_one-in-Deref-clause-ranged :
    goal.range_kind-returns-in_ok-range_one-in-Deref-clause-ranged
range_kind-returns-in_ok-range_one-in-Deref-clause-ranged t c = λ r.
    let is : c.args.kind.now ≡ term.Deref c.in-Deref.a = search rules in
    let ha : Is (plain_seen c.args.seen.now) c.in-Deref.a (Ok tt) c.range_one-in-Deref.new.t = search rules in
    deref_in_place (plain_seen c.args.seen.now) c.args.at c.args.kind.now (option_map plain_type c.args.ctype.now) r c.in-Deref.a c.range_one-in-Deref.new.t c.or_no_range-in-Deref.result is ha
    (c.or_no_range-in-Deref.ensures.is ∙ ap (λ o. or_no_range o c.args.at) (c.held_range.ensures ∙ ap (λ s. held_range (option_map plain_type c.args.ctype.now) (Some s)) c.in_ok-range_one-in-Deref.ensures.value))

pub range_kind-returns-in_ok-range_place-in-Member-clause-ranged :
    goal.range_kind-returns-in_ok-range_place-in-Member-clause-ranged
range_kind-returns-in_ok-range_place-in-Member-clause-ranged t c = λ r.
    let is : c.args.kind.now ≡ term.Member c.in-Member.offset c.in-Member.a = search rules in
    let ha : Is (plain_seen c.args.seen.now) c.in-Member.a (Ok tt) c.range_place.new.t = search rules in
    member_in_place (plain_seen c.args.seen.now) c.args.at c.args.kind.now (option_map plain_type c.args.ctype.now) r c.in-Member.offset c.in-Member.a c.range_place.new.t c.or_no_range-in-Member.result is ha
    (c.or_no_range-in-Member.ensures.is ∙ ap (λ o. or_no_range o c.args.at) (c.held_range-in-Member.ensures
    ∙ ap (held_range (option_map plain_type c.args.ctype.now)) (c.member_range-address.ensures.is ∙ ap (member_range c.in-Member.offset) c.in_ok-range_place-in-Member.ensures.address)))

pub range_kind-returns-in_ok-range_place-in-Address-clause-ranged :
    goal.range_kind-returns-in_ok-range_place-in-Address-clause-ranged
range_kind-returns-in_ok-range_place-in-Address-clause-ranged t c = λ r.
    let is : c.args.kind.now ≡ term.Address c.in-Address.a = search rules in
    let ha : Is (plain_seen c.args.seen.now) c.in-Address.a (Ok tt) c.range_place-in-Address.new.t = search rules in
    address_in_place (plain_seen c.args.seen.now) c.args.at c.args.kind.now (option_map plain_type c.args.ctype.now) r c.in-Address.a c.range_place-in-Address.new.t c.or_no_range-in-Address.result is ha
    (c.or_no_range-in-Address.ensures.is ∙ ap (λ o. or_no_range o c.args.at) c.in_ok-range_place-in-Address.ensures.address)

pub range_kind-returns-in_ok-first-in-Binary-clause-ranged :
    goal.range_kind-returns-in_ok-first-in-Binary-clause-ranged
range_kind-returns-in_ok-first-in-Binary-clause-ranged t c = λ r.
    let is : c.args.kind.now ≡ term.Binary c.in-Binary.op c.in-Binary.a c.in-Binary.b = search rules in
    let good : pair_of (ranged_term (plain_seen c.args.seen.now) (plain_term c.in-Binary.a)) (ranged_term (plain_seen c.args.seen.now) (plain_term c.in-Binary.b)) ≡ Good (plain_term c.range_two.new.a, plain_term c.range_two.new.b) = search rules in
    let left : c.in_ok-first-in-Binary.first ≡ c.range_two.new.a.range = search rules in
    let right : c.in_ok-first-in-Binary.second ≡ c.range_two.new.b.range = search rules in
    two_in_place (plain_seen c.args.seen.now) c.args.at c.args.kind.now (option_map plain_type c.args.ctype.now) r
    (binary_range c.in-Binary.op) (λ s. Binary c.args.at (option_map plain_type c.args.ctype.now) s c.in-Binary.op)
    (term.Binary c.in-Binary.op c.in-Binary.a c.in-Binary.b)
    c.in-Binary.a c.range_two.new.a c.in-Binary.b c.range_two.new.b refl is c.or_no_range-in-Binary.result good
    (c.or_no_range-in-Binary.ensures.is ∙ ap (λ o. or_no_range o c.args.at) (c.binary_range.ensures ∙ (λ i. binary_range c.in-Binary.op (left i) (right i))))

pub range_kind-returns-in_ok-pointer-in-Moved-clause-ranged :
    goal.range_kind-returns-in_ok-pointer-in-Moved-clause-ranged
range_kind-returns-in_ok-pointer-in-Moved-clause-ranged t c = λ r.
    let is : c.args.kind.now ≡ term.Moved c.in-Moved.op c.in-Moved.size c.in-Moved.a c.in-Moved.b = search rules in
    let good : pair_of (ranged_term (plain_seen c.args.seen.now) (plain_term c.in-Moved.a)) (ranged_term (plain_seen c.args.seen.now) (plain_term c.in-Moved.b))
    ≡ Good (plain_term c.range_two-in-Moved.new.a, plain_term c.range_two-in-Moved.new.b) = search rules in
    let left : c.in_ok-pointer-in-Moved.pointer ≡ c.range_two-in-Moved.new.a.range = search rules in
    let right : c.in_ok-pointer-in-Moved.count ≡ c.range_two-in-Moved.new.b.range = search rules in
    two_in_place (plain_seen c.args.seen.now) c.args.at c.args.kind.now (option_map plain_type c.args.ctype.now) r
    (moved_range c.in-Moved.op c.in-Moved.size) (λ s. Moved c.args.at (option_map plain_type c.args.ctype.now) s c.in-Moved.op c.in-Moved.size)
    (term.Moved c.in-Moved.op c.in-Moved.size c.in-Moved.a c.in-Moved.b)
    c.in-Moved.a c.range_two-in-Moved.new.a c.in-Moved.b c.range_two-in-Moved.new.b refl is c.or_no_range-in-Moved.result good
    (c.or_no_range-in-Moved.ensures.is ∙ ap (λ o. or_no_range o c.args.at) (c.moved_range.ensures ∙ (λ i. moved_range c.in-Moved.op c.in-Moved.size (left i) (right i))))

pub range_kind-returns-in_ok-both-in-Choice-clause-ranged :
    goal.range_kind-returns-in_ok-both-in-Choice-clause-ranged
range_kind-returns-in_ok-both-in-Choice-clause-ranged t c = λ r.
    let is : c.args.kind.now ≡ term.Choice c.in-Choice.c c.in-Choice.a c.in-Choice.b = search rules in
    let hc : IsPred (plain_seen c.args.seen.now) c.in-Choice.c c.range_pred-condition.result c.range_pred-condition.new.p = search rules in
    let ha : Is (plain_seen c.args.seen.now) c.in-Choice.a c.range_term-first.result c.range_term-first.new.t = search rules in
    let hb : Is (plain_seen c.args.seen.now) c.in-Choice.b c.range_term-second.result c.range_term-second.new.t = search rules in
    let two : both c.range_term-first.result c.range_term-second.result ≡ c.both-branches.result = search rules in
    let good : both c.range_pred-condition.result c.both-branches.result ≡ Ok c.in_ok-both-in-Choice.field-0 = search rules in
    let whole = choice_in_place (plain_seen c.args.seen.now) c.args.at c.args.kind.now (option_map plain_type c.args.ctype.now) r c.in-Choice.c c.range_pred-condition.new.p c.in-Choice.a c.range_term-first.new.t
    c.in-Choice.b c.range_term-second.new.t c.range_pred-condition.result c.range_term-first.result c.range_term-second.result c.both-branches.result is hc ha hb two
    c.in_ok-both-in-Choice.field-0 good in
    rw c.hull.ensures whole

pub range_kind-returns-in_err-both-in-Choice-clause-ranged :
    goal.range_kind-returns-in_err-both-in-Choice-clause-ranged
range_kind-returns-in_err-both-in-Choice-clause-ranged t c = λ r.
    let is : c.args.kind.now ≡ term.Choice c.in-Choice.c c.in-Choice.a c.in-Choice.b = search rules in
    let hc : IsPred (plain_seen c.args.seen.now) c.in-Choice.c c.range_pred-condition.result c.range_pred-condition.new.p = search rules in
    let ha : Is (plain_seen c.args.seen.now) c.in-Choice.a c.range_term-first.result c.range_term-first.new.t = search rules in
    let hb : Is (plain_seen c.args.seen.now) c.in-Choice.b c.range_term-second.result c.range_term-second.new.t = search rules in
    let two : both c.range_term-first.result c.range_term-second.result ≡ c.both-branches.result = search rules in
    let bad : both c.range_pred-condition.result c.both-branches.result ≡ Err c.in_err-both-in-Choice.field-0.0 = search rules in
    let whole = choice_refused (plain_seen c.args.seen.now) c.args.at c.args.kind.now (option_map plain_type c.args.ctype.now) r c.in-Choice.c c.range_pred-condition.new.p c.in-Choice.a c.range_term-first.new.t
    c.in-Choice.b c.range_term-second.new.t c.range_pred-condition.result c.range_term-first.result c.range_term-second.result c.both-branches.result is hc ha hb two
    c.in_err-both-in-Choice.field-0.0
    (plain_term_kind c.args.at (term.Choice c.range_pred-condition.new.p c.range_term-first.new.t c.range_term-second.new.t) (option_map plain_type c.args.ctype.now)) bad in
    search (rules, whole)

pub range_place-address_range-requires : goal.range_place-address_range-requires
range_place-address_range-requires t c =
    let ha : Is (plain_seen c.args.seen.now) c.args.t.now (Ok tt) c.range_term.new.t = search rules in
    record { ranged = keeps_ranges (plain_seen c.args.seen.now) c.args.t.now c.range_term.new.t ha }

pub range_two-returns-in_err-both-clause-ranged : goal.range_two-returns-in_err-both-clause-ranged
range_two-returns-in_err-both-clause-ranged t c =
    let ha : Is (plain_seen c.args.seen.now) c.args.a.now c.range_term-first.result c.range_term-first.new.t = search rules in
    let hb : Is (plain_seen c.args.seen.now) c.args.b.now c.range_term-second.result c.range_term-second.new.t = search rules in
    let bad : both c.range_term-first.result c.range_term-second.result ≡ Err c.in_err-both.field-0.0 = search rules in
    let whole = two_refused (plain_seen c.args.seen.now) c.args.a.now c.range_term-first.new.t c.args.b.now c.range_term-second.new.t c.range_term-first.result c.range_term-second.result c.in_err-both.field-0.0 ha hb bad in
    search (rules, whole)

pub range_links-returns-in-Link-clause-ranged : goal.range_links-returns-in-Link-clause-ranged
range_links-returns-in-Link-clause-ranged t c =
    let ha : Is (plain_seen c.args.seen.now) c.in-Link.t c.range_term-first.result c.range_term-first.new.t = search rules in
    let hl : Answers (λ (u : Unit {0}). plain_links c.range_links-others.new.links) (ranged_links (plain_seen c.args.seen.now) (plain_links c.in-Link.rest.value)) c.range_links-others.result = search rules in
    let whole = links_in_place (plain_seen c.args.seen.now) c.in-Link.field-0 c.in-Link.field-1 c.in-Link.t c.range_term-first.new.t c.in-Link.rest.value c.range_links-others.new.links c.range_term-first.result c.range_links-others.result
    c.both.result ha hl c.both.ensures.is in
    search (rules, whole)

pub range_pred-returns-clause-ranged : goal.range_pred-returns-clause-ranged
range_pred-returns-clause-ranged t c =
    let is : c.deref_mut.result.now ≡ c.args.p.now.kind.value = search rules in
    let whole : IsPred (plain_seen c.args.seen.now) c.args.p.now c.range_pred_kind.result (record c.args.p.now { kind = with_value c.args.p.now.kind c.range_pred_kind.new.kind }) =
    subst (λ k. Answers (λ (u : Unit {0}). plain_pred_kind c.args.p.now.place c.range_pred_kind.new.kind) (ranged_pred (plain_seen c.args.seen.now) (plain_pred_kind c.args.p.now.place k)) c.range_pred_kind.result) is
    c.range_pred_kind.ensures.ranged in
    search (rules, whole)

pub range_pred_kind-returns-in-Chain-clause-ranged :
    goal.range_pred_kind-returns-in-Chain-clause-ranged
range_pred_kind-returns-in-Chain-clause-ranged t c =
    let at = c.args.at in
    let is : c.args.kind.now ≡ pred.Chain c.in-Chain.t c.in-Chain.links = search rules in
    let ha : Is (plain_seen c.args.seen.now) c.in-Chain.t c.range_term-first.result c.range_term-first.new.t = search rules in
    let hl : Answers (λ (u : Unit {0}). plain_links c.range_links-others.new.links) (ranged_links (plain_seen c.args.seen.now) (plain_links c.in-Chain.links)) c.range_links-others.result = search rules in
    let whole = chain_in_place (plain_seen c.args.seen.now) at c.args.kind.now c.both.result c.in-Chain.t c.range_term-first.new.t c.in-Chain.links c.range_links-others.new.links c.range_term-first.result c.range_links-others.result is ha hl
    c.both.ensures.is in
    search (rules, whole)

pub range_pred_kind-returns-in-Connected-clause-ranged :
    goal.range_pred_kind-returns-in-Connected-clause-ranged
range_pred_kind-returns-in-Connected-clause-ranged t c =
    let at = c.args.at in
    let is : c.args.kind.now ≡ pred.Connected c.in-Connected.field-0 c.in-Connected.p c.in-Connected.q = search rules in
    let hp : IsPred (plain_seen c.args.seen.now) c.in-Connected.p c.range_pred-first.result c.range_pred-first.new.p = search rules in
    let hq : IsPred (plain_seen c.args.seen.now) c.in-Connected.q c.range_pred-second.result c.range_pred-second.new.p = search rules in
    let whole = connected_in_place (plain_seen c.args.seen.now) at c.args.kind.now c.both-in-Connected.result c.in-Connected.field-0 c.in-Connected.p c.range_pred-first.new.p c.in-Connected.q c.range_pred-second.new.p c.range_pred-first.result
    c.range_pred-second.result is hp hq c.both-in-Connected.ensures.is in
    search (rules, whole)

pub range_pred_kind-returns-in-Choice-clause-ranged :
    goal.range_pred_kind-returns-in-Choice-clause-ranged
range_pred_kind-returns-in-Choice-clause-ranged t c =
    let at = c.args.at in
    let is : c.args.kind.now ≡ pred.Choice c.in-Choice.c c.in-Choice.p c.in-Choice.q = search rules in
    let hc : IsPred (plain_seen c.args.seen.now) c.in-Choice.c c.range_pred-condition.result c.range_pred-condition.new.p = search rules in
    let hp : IsPred (plain_seen c.args.seen.now) c.in-Choice.p c.range_pred-first-in-Choice.result c.range_pred-first-in-Choice.new.p = search rules in
    let hq : IsPred (plain_seen c.args.seen.now) c.in-Choice.q c.range_pred-second-in-Choice.result c.range_pred-second-in-Choice.new.p = search rules in
    let whole = branch_in_place (plain_seen c.args.seen.now) at c.args.kind.now c.both-in-Choice.result c.in-Choice.c c.range_pred-condition.new.p c.in-Choice.p c.range_pred-first-in-Choice.new.p c.in-Choice.q
    c.range_pred-second-in-Choice.new.p c.range_pred-condition.result c.range_pred-first-in-Choice.result c.range_pred-second-in-Choice.result c.both-branches.result is hc hp hq
    c.both-branches.ensures.is c.both-in-Choice.ensures.is in
    search (rules, whole)

pub range_zone_kind-returns-in_err-both-in-Elements-clause-ranged :
    goal.range_zone_kind-returns-in_err-both-in-Elements-clause-ranged
range_zone_kind-returns-in_err-both-in-Elements-clause-ranged t c = λ align.
    let is : c.args.kind.now ≡ zone.Elements c.in-Elements.a c.in-Elements.lo c.in-Elements.hi = search rules in
    let ha : Is (plain_seen c.args.seen.now) c.in-Elements.a c.range_term-pointer.result c.range_term-pointer.new.t = search rules in
    let hb : Is (plain_seen c.args.seen.now) c.in-Elements.lo c.range_term-first.result c.range_term-first.new.t = search rules in
    let hc : Is (plain_seen c.args.seen.now) c.in-Elements.hi c.range_term-second.result c.range_term-second.new.t = search rules in
    let two : both c.range_term-first.result c.range_term-second.result ≡ c.both-bounds.result = search rules in
    let bad : both c.range_term-pointer.result c.both-bounds.result ≡ Err c.in_err-both-in-Elements.field-0.0 = search rules in
    let whole = elements_refused (plain_seen c.args.seen.now) c.args.at c.args.size align c.args.kind.now c.in-Elements.a c.range_term-pointer.new.t c.in-Elements.lo c.range_term-first.new.t
    c.in-Elements.hi c.range_term-second.new.t c.range_term-pointer.result c.range_term-first.result c.range_term-second.result c.both-bounds.result is ha hb hc two
    c.in_err-both-in-Elements.field-0.0
    (λ (u : Unit {0}). plain_zone_kind c.args.at c.args.size align (zone.Elements c.range_term-pointer.new.t c.range_term-first.new.t c.range_term-second.new.t)) bad in
    search (rules, whole)

pub range_zone_kind-returns-then-has_extent-clause-ranged :
    goal.range_zone_kind-returns-then-has_extent-clause-ranged
range_zone_kind-returns-then-has_extent-clause-ranged t c = λ align.
    let is : c.args.kind.now ≡ zone.Elements c.in-Elements.a c.in-Elements.lo c.in-Elements.hi = search rules in
    let ha : Is (plain_seen c.args.seen.now) c.in-Elements.a c.range_term-pointer.result c.range_term-pointer.new.t = search rules in
    let hb : Is (plain_seen c.args.seen.now) c.in-Elements.lo c.range_term-first.result c.range_term-first.new.t = search rules in
    let hc : Is (plain_seen c.args.seen.now) c.in-Elements.hi c.range_term-second.result c.range_term-second.new.t = search rules in
    let two : both c.range_term-first.result c.range_term-second.result ≡ c.both-bounds.result = search rules in
    let good : both c.range_term-pointer.result c.both-bounds.result ≡ Ok c.in_ok-both-in-Elements.field-0 = search rules in
    let holds : has_extent c.args.size c.range_term-pointer.new.t.range c.range_term-first.new.t.range c.range_term-second.new.t.range ≡ true = search rules in
    elements_in_place (plain_seen c.args.seen.now) c.args.at c.args.size align c.args.kind.now c.in-Elements.a c.range_term-pointer.new.t c.in-Elements.lo c.range_term-first.new.t
    c.in-Elements.hi c.range_term-second.new.t c.range_term-pointer.result c.range_term-first.result c.range_term-second.result c.both-bounds.result is ha hb hc two
    c.in_ok-both-in-Elements.field-0 good holds

pub range_zone_kind-returns-else-has_extent-clause-ranged :
    goal.range_zone_kind-returns-else-has_extent-clause-ranged
range_zone_kind-returns-else-has_extent-clause-ranged t c = λ align.
    let is : c.args.kind.now ≡ zone.Elements c.in-Elements.a c.in-Elements.lo c.in-Elements.hi = search rules in
    let ha : Is (plain_seen c.args.seen.now) c.in-Elements.a c.range_term-pointer.result c.range_term-pointer.new.t = search rules in
    let hb : Is (plain_seen c.args.seen.now) c.in-Elements.lo c.range_term-first.result c.range_term-first.new.t = search rules in
    let hc : Is (plain_seen c.args.seen.now) c.in-Elements.hi c.range_term-second.result c.range_term-second.new.t = search rules in
    let two : both c.range_term-first.result c.range_term-second.result ≡ c.both-bounds.result = search rules in
    let good : both c.range_term-pointer.result c.both-bounds.result ≡ Ok c.in_ok-both-in-Elements.field-0 = search rules in
    let fails : has_extent c.args.size c.range_term-pointer.new.t.range c.range_term-first.new.t.range c.range_term-second.new.t.range ≡ false = search rules in
    let whole = elements_outside (plain_seen c.args.seen.now) c.args.at c.args.size align c.args.kind.now c.in-Elements.a c.range_term-pointer.new.t c.in-Elements.lo c.range_term-first.new.t
    c.in-Elements.hi c.range_term-second.new.t c.range_term-pointer.result c.range_term-first.result c.range_term-second.result c.both-bounds.result is ha hb hc two
    c.in_ok-both-in-Elements.field-0 c.no_range.result
    (λ (u : Unit {0}). plain_zone_kind c.args.at c.args.size align (zone.Elements c.range_term-pointer.new.t c.range_term-first.new.t c.range_term-second.new.t)) good fails c.no_range.ensures.is in
    search (rules, whole)

pub range_zone-returns-clause-ranged : goal.range_zone-returns-clause-ranged
range_zone-returns-clause-ranged t c =
    let z = c.args.z.now in
    let is : c.deref_mut.result.now ≡ z.kind.value = search rules in
    let whole : IsZone (plain_seen c.args.seen.now) z c.range_zone_kind.result (record z { kind = with_value z.kind c.range_zone_kind.new.kind }) =
    subst (λ k. Answers (λ (u : Unit {0}). plain_zone_kind z.place z.size z.align c.range_zone_kind.new.kind) (ranged_zone (plain_seen c.args.seen.now) (plain_zone_kind z.place z.size z.align k)) c.range_zone_kind.result) is
    (c.range_zone_kind.ensures.ranged z.align) in
    search (rules, whole)

pub range_zones-returns-in-More-clause-ranged : goal.range_zones-returns-in-More-clause-ranged
range_zones-returns-in-More-clause-ranged t c =
    let hz : IsZone (plain_seen c.args.seen.now) c.in-More.z c.range_zone-first.result c.range_zone-first.new.z = search rules in
    let hl : Answers (λ (u : Unit {0}). plain_zones c.range_zones-others.new.zones) (ranged_zones (plain_seen c.args.seen.now) (plain_zones c.in-More.rest.value)) c.range_zones-others.result = search rules in
    let whole = zones_in_place (plain_seen c.args.seen.now) c.in-More.z c.range_zone-first.new.z c.in-More.rest.value c.range_zones-others.new.zones c.range_zone-first.result c.range_zones-others.result c.both.result hz hl c.both.ensures.is in
    search (rules, whole)

pub range_term-returns-in_err-t-clause-ranged : goal.range_term-returns-in_err-t-clause-ranged
range_term-returns-in_err-t-clause-ranged t c =
    let at = c.args.t.now.place in
    let ctype = option_map plain_type c.args.t.now.ctype in
    let is : c.deref_mut.result.now ≡ c.args.t.now.kind.value = search rules in
    let h : Answers (plain_term_kind at c.range_kind.new.kind ctype) (ranged_term (plain_seen c.args.seen.now) (plain_term_kind at c.deref_mut.result.now ctype c.args.t.now.range)) (Err c.in_err-t.field-0.0) =
    c.in_err-t.ensures.ranged c.args.t.now.range in
    let whole = subst (λ k. Answers (λ (u : Unit {0}). plain_term_kind at c.range_kind.new.kind ctype c.args.t.now.range) (ranged_term (plain_seen c.args.seen.now) (plain_term_kind at k ctype c.args.t.now.range)) (Err c.in_err-t.field-0.0)) is
    (refused_too (plain_term_kind at c.range_kind.new.kind ctype) (λ (u : Unit {0}). plain_term_kind at c.range_kind.new.kind ctype c.args.t.now.range)
    (ranged_term (plain_seen c.args.seen.now) (plain_term_kind at c.deref_mut.result.now ctype c.args.t.now.range)) c.in_err-t.field-0.0 h) in
    search (rules, whole)

pub range_term-returns-clause-ordered : goal.range_term-returns-clause-ordered
range_term-returns-clause-ordered t c =
    in_order (plain_seen c.args.seen.now) (seen_ordered c.args.seen.now) c.args.t.now.place c.deref_mut.result.now c.range_kind.new.kind
    (option_map plain_type c.args.t.now.ctype) c.args.t.now.range c.in_ok-t.field-0 (c.in_ok-t.ensures.ranged c.args.t.now.range)

pub range_pred_kind-returns-in_ok-range_guards-in-Quantified-clause-ranged :
    goal.range_pred_kind-returns-in_ok-range_guards-in-Quantified-clause-ranged
range_pred_kind-returns-in_ok-range_guards-in-Quantified-clause-ranged t c =
    let at = c.args.at in
    let seen = plain_seen c.args.seen.now in
    let is : c.args.kind.now ≡ pred.Quantified c.in-Quantified.field-0 c.in-Quantified.guards c.in-Quantified.p = search rules in
    let hg : GuardsAnswer seen at (plain_guards c.in-Quantified.guards) (plain_guards c.range_guards.new.guards) (Ok tt) = search rules in
    let hp : Answers (λ (u : Unit {0}). plain_pred c.range_within.new.p) (ranged_pred (seen_guards (plain_guards c.range_guards.new.guards) seen) (plain_pred c.in-Quantified.p)) c.range_within.result = search rules in
    let whole = quantified_in_place seen at c.args.kind.now c.range_within.result c.in-Quantified.field-0 c.in-Quantified.guards c.range_guards.new.guards c.in-Quantified.p c.range_within.new.p is hg hp in
    search (rules, whole)

pub range_pred_kind-returns-in_err-range_guards-in-Quantified-clause-ranged :
    goal.range_pred_kind-returns-in_err-range_guards-in-Quantified-clause-ranged
range_pred_kind-returns-in_err-range_guards-in-Quantified-clause-ranged t c =
    let at = c.args.at in
    let seen = plain_seen c.args.seen.now in
    let is : c.args.kind.now ≡ pred.Quantified c.in-Quantified.field-0 c.in-Quantified.guards c.in-Quantified.p = search rules in
    let hg : GuardsAnswer seen at (plain_guards c.in-Quantified.guards) (plain_guards c.range_guards.new.guards) (Err c.in_err-range_guards-in-Quantified.field-0.0) = search rules in
    let whole = quantified_refused seen at c.args.kind.now c.in_err-range_guards-in-Quantified.field-0.0 c.in-Quantified.field-0 c.in-Quantified.guards c.range_guards.new.guards c.in-Quantified.p c.in-Quantified.p is hg in
    search (rules, whole)

pub range_guards-returns-then-is_bounded-clause-ranged :
    goal.range_guards-returns-then-is_bounded-clause-ranged
range_guards-returns-then-is_bounded-clause-ranged t c =
    let seen = plain_seen c.args.seen.now in
    let g = c.in-More.guard in
    let a = plain_term c.range_two.new.a in
    let b = plain_term c.range_two.new.b in
    let new = plain_guards c.range_rest.new.rest in
    let more : c.args.guards.now ≡ code_guards.More g c.in-More.rest = search rules in
    let e : pair_of (ranged_term seen (plain_term g.lower)) (ranged_term seen (plain_term g.upper)) ≡ Good (a, b) = search rules in
    let is : are_bounded (range_of a).lo (plain_binder g.first ∷ map plain_binder g.others.items) (lowered g.below (range_of b).hi) ≡ true = search rules in
    let h : GuardsAnswer (seen_binders (range_of a).lo (plain_binder g.first ∷ map plain_binder g.others.items) (lowered g.below (range_of b).hi) seen) c.args.at (plain_guards c.in-More.rest.value)
    new c.range_rest.result =
    search rules in
    let whole = guard_in_place seen c.args.at (plain_term g.lower) (plain_term g.upper) (plain_binder g.first) (map plain_binder g.others.items) g.below (plain_guards c.in-More.rest.value)
    a b new c.range_rest.result e is h in
    let there = subst (λ gs. GuardsAnswer seen c.args.at (plain_guards gs) (Guarded a (plain_binder g.first) (map plain_binder g.others.items) g.below b new) c.range_rest.result) (sym more) whole in
    search (rules, there)

pub range_guards-returns-then-is_bounded-clause-bounded :
    goal.range_guards-returns-then-is_bounded-clause-bounded
range_guards-returns-then-is_bounded-clause-bounded t c =
    let g = c.in-More.guard in
    let a = plain_term c.range_two.new.a in
    let b = plain_term c.range_two.new.b in
    let inside = are_bounded (range_of a).lo (plain_binder g.first ∷ map plain_binder g.others.items) (lowered g.below (range_of b).hi) in
    let is : inside ≡ true = search rules in
    let h : OnOk c.range_rest.result (are_guarded (plain_guards c.range_rest.new.rest) ≡ true) = search rules in
    let whole = bounded_more (plain_seen c.args.seen.now) c.range_rest.result inside (are_guarded (plain_guards c.range_rest.new.rest)) is h in
    search (rules, whole)

pub range_guards-returns-else-is_bounded-clause-ranged :
    goal.range_guards-returns-else-is_bounded-clause-ranged
range_guards-returns-else-is_bounded-clause-ranged t c = λ within p.
    let seen = plain_seen c.args.seen.now in
    let g = c.in-More.guard in
    let a = plain_term c.range_two.new.a in
    let b = plain_term c.range_two.new.b in
    let more : c.args.guards.now ≡ code_guards.More g c.in-More.rest = search rules in
    let e : pair_of (ranged_term seen (plain_term g.lower)) (ranged_term seen (plain_term g.upper)) ≡ Good (a, b) = search rules in
    let is : are_bounded (range_of a).lo (plain_binder g.first ∷ map plain_binder g.others.items) (lowered g.below (range_of b).hi) ≡ false = search rules in
    let whole = unbounded_refused seen c.args.at (plain_term g.lower) (plain_term g.upper) (plain_binder g.first) (map plain_binder g.others.items) g.below (plain_guards c.in-More.rest.value)
    a b (plain_guards c.in-More.rest.value) c.no_range.result e is c.no_range.ensures.is within p in
    search (rules, whole)
