use Rattle.std.proofs.Common.{◌≡◌, ℕ, ◌++◌, List, rules, sym, ◌∙◌, subst, true, false, not, [], Some, Ok, Err}
use Rattle.c_syntax.specs.declared.place.Place.{Place}
use Rattle.c_syntax.specs.Formulas.{plain_cast_type, Integers, Dot, Cast, Choice, Form, OfC, Result, plain_form, plain_form_kind, plain_form_links, plain_form_zone, plain_form_zones}
use Rattle.c_syntax.specs.Formulas as read
use Rattle.c_syntax.specs.Ctypes.{plain_type}
use Rattle.c_syntax.specs.declared.logic.Connective.TheVariants.{And, Implies}
use Rattle.c_syntax.specs.declared.logic.FormulaKind.TheVariants as kind
use Rattle.c_syntax.specs.declared.logic.FormulaLinks.TheVariants as links
use Rattle.c_syntax.specs.declared.logic.FormulaZone.TheVariants as zone
use Rattle.c_syntax.specs.declared.logic.FormulaZones.TheVariants as zones
use Rattle.c_syntax.specs.declared.logic.LogicType.TheVariants as logic_type
use Rattle.c_syntax.specs.Logic.{Another, Linked, plain_links, plain_term, plain_zones}
use Rattle.c_syntax.specs.declared.logic.MemoryQuestion.TheVariants.{ValidRead}
use Rattle.c_syntax.specs.declared.logic.Quantifier.TheVariants.{Exists, ForAll}
use Rattle.c_model.specs.Checked.{Good, faulty, given, one_part, pair_of, where_so}
use Rattle.c_model.specs.ExpressionTyping.{known_type, typed_type}
use Rattle.c_model.specs.AnnotationSights.{AnnotationSight, sight_at, with_binders}
use Rattle.c_model.specs.QuantifierGuards.{guarded_by, left_behind}
use Rattle.c_model.specs.QuantifierTyping.{bound_at, chain_conjunct, conjunction, existential, universal}
use Rattle.c_model.specs.PredicateTyping.{typed_conjuncts, typed_quantified, typed_upper}
use Rattle.c_model.specs.PredicateTyping.{Sorted, arrow, as_integer, as_predicate, as_value, at_label, binary_on, cast_integer, connected, dot, index, is_refused, no_label, object_zone, told, unary_on}
use Rattle.c_model.specs.PredicateTyping.{Side, cast, chosen, elements_zone, related, right_side, side_of, typed_form, typed_links, typed_zone, typed_zones, value_in}
use Rattle.c_scopes.specs.Answers.{Answers}
use Rattle.c_scopes.specs.declared.sight.Sight.{Sight}
use Rattle.c_scopes.specs.Sights.{plain_sight}
use Rattle.annot_typing.specs.Joined.{both_answered}
use Rattle.annot_typing.specs.Quantifiers.{plain_bounds, plain_conjuncts, plain_implication, plain_parts}
use Rattle.annot_typing.specs.Sights.{form_sight, plain_view}
use Rattle.annot_typing.proofs.Quantifiers.{first_of_all, guarded_is, seen_with}
use Rattle.annot_typing.specs.Relations.{plain_chain, plain_link, plain_side}
use Rattle.annot_typing.specs.Sorts.{plain_sorted, plain_three, plain_two}
use Rattle.annot_typing.specs.Zones.{plain_zone, plain_zone_and_rest}
use Rattle.c_scopes.proofs.Least.{one_refused}
use Rattle.annot_typing.proofs.Parts.{joined_answers}
use Rattle.annot_typing.proofs.Casts.{cast_refused, cast_answers}
use Rattle.annot_typing.proofs.Relations.{chain_answers, link_answers}
use Rattle.annot_typing.proofs.+form.Goals as goal

pub form::type_cast-returns-in-Err-clause-typed : goal.form::type_cast-returns-in-Err-clause-typed
form::type_cast-returns-in-Err-clause-typed t c =
    let p = plain_sight c.args.sight.now in
    let s = form_sight p c.args.clause in
    let to = plain_type c.in_ok-u.u in
    let copied : to ≡ plain_type c.args.to.now = search rules in
    let j : both_answered c.type_written-written.result c.type_value-operand.result ≡ Err c.in-Err.f = sym c.joined.ensures ∙ c.in-Err.is in
    let whole = cast_refused p c.args.place (known_type p to) (plain_type c.type_written-written.new.t) (typed_type p c.args.place to) (value_in (typed_form s (plain_form c.args.a.now))) (λ p. cast c.args.place p.0 p.1)
    c.type_written-written.result c.type_value-operand.result c.within_limits-limits.result c.type_written-written.ensures.typed c.type_value-operand.ensures.typed c.type_written-written.ensures.known
    c.within_limits-limits.ensures.checked c.in-Err.f c.both.result j c.both.ensures.is in
    subst (λ t. Answers plain_sorted (typed_form s (Cast c.args.place (OfC t) (plain_form c.args.a.now))) c.both.result) copied whole

pub form::type_cast-returns-in-Ok-clause-typed : goal.form::type_cast-returns-in-Ok-clause-typed
form::type_cast-returns-in-Ok-clause-typed t c =
    let p = plain_sight c.args.sight.now in
    let s = form_sight p c.args.clause in
    let to = plain_type c.in_ok-u.u in
    let copied : to ≡ plain_type c.args.to.now = search rules in
    let j : both_answered c.type_written-written.result c.type_value-operand.result ≡ Ok (tt, c.in-Ok.a) = sym c.joined.ensures ∙ c.in-Ok.is in
    let whole = cast_answers p c.args.place (known_type p to) (plain_type c.type_written-written.new.t) (typed_type p c.args.place to) (value_in (typed_form s (plain_form c.args.a.now))) (λ p. cast c.args.place p.0 p.1)
    c.type_written-written.result c.type_value-operand.result c.within_limits-limits.result c.type_written-written.ensures.typed c.type_value-operand.ensures.typed c.type_written-written.ensures.known
    c.within_limits-limits.ensures.checked c.in-Ok.a c.cast.result c.both-in-Ok.result j c.cast.ensures c.both-in-Ok.ensures.is in
    subst (λ t. Answers plain_sorted (typed_form s (Cast c.args.place (OfC t) (plain_form c.args.a.now))) c.both-in-Ok.result) copied whole

pub form::type_sides-returns-clause-typed : goal.form::type_sides-returns-clause-typed
form::type_sides-returns-clause-typed t c =
    let seen = λ (z : Sight). form_sight (plain_sight z) c.args.clause in
    let s = seen c.args.sight.now in
    let f = plain_form c.args.a.now in
    let v = value_in (typed_form s f) in
    let links = λ (left : Side). typed_links s left (plain_form_links c.args.links.now) in
    let here : Answers plain_links (links (plain_side c.side_of-side.result)) c.type_links-links.result =
    subst (λ z. Answers plain_links (typed_links (seen z) (plain_side c.side_of-side.result) (plain_form_links c.args.links.now)) c.type_links-links.result) c.type_value-first.ensures.same c.type_links-links.ensures.typed in
    subst (Answers plain_chain (pair_of v (links (side_of f v)))) (sym c.joined.ensures)
    (chain_answers plain_links links f v c.type_links-links.result c.type_value-first.result c.type_value-first.ensures.typed
    (subst (λ left. Answers plain_links (links left) c.type_links-links.result) c.side_of-side.ensures here))

pub form::type_link-returns-clause-typed : goal.form::type_link-returns-clause-typed
form::type_link-returns-clause-typed t c =
    let seen = λ (z : Sight). form_sight (plain_sight z) c.args.clause in
    let s = seen c.args.sight.now in
    let f = plain_form c.args.b.now in
    let v = value_in (typed_form s f) in
    let left = plain_side c.args.left in
    let links = λ (side : Side). typed_links s side (plain_form_links c.args.rest.now) in
    let whole = pair_of (one_part v (right_side c.args.place left (side_of f v))) (links (side_of f v)) in
    let x = c.right_side.result in
    let right = c.type_value-right.result in
    let here : Answers plain_links (links (plain_side c.side_of-side.result)) c.type_links-rest.result =
    subst (λ z. Answers plain_links (typed_links (seen z) (plain_side c.side_of-side.result) (plain_form_links c.args.rest.now)) c.type_links-rest.result) c.type_value-right.ensures.same c.type_links-rest.ensures.typed in
    subst (Answers plain_link whole) (sym c.joined.ensures) (link_answers plain_links links f v c.type_links-rest.result c.args.place left x right c.type_value-right.ensures.typed c.right_side.ensures.memory
    (subst (λ side. Answers plain_term (one_part v (right_side c.args.place left side)) x) c.side_of-side.ensures (c.right_side.ensures.typed v c.type_value-right.ensures.typed))
    (subst (λ side. Answers plain_links (links side) c.type_links-rest.result) c.side_of-side.ensures here))

pub form::type_two-returns-clause-typed : goal.form::type_two-returns-clause-typed
form::type_two-returns-clause-typed t c =
    let value = λ (z : Sight) (f : Form). value_in (typed_form (form_sight (plain_sight z) c.args.clause) f) in
    let a = plain_form c.args.a.now in
    let b = plain_form c.args.b.now in
    let z = c.args.sight.now in
    let here : Answers plain_sorted (value z b) c.type_value-second.result =
    subst (λ z. Answers plain_sorted (value z b) c.type_value-second.result) c.type_value-first.ensures.same c.type_value-second.ensures.typed in
    subst (Answers plain_two (pair_of (value z a) (value z b))) (sym c.joined.ensures)
    (joined_answers plain_sorted plain_sorted (value z a) (value z b) c.type_value-first.result c.type_value-second.result c.type_value-first.ensures.typed here)

pub form::type_three-returns-clause-typed : goal.form::type_three-returns-clause-typed
form::type_three-returns-clause-typed t c =
    let value = λ (z : Sight) (f : Form). value_in (typed_form (form_sight (plain_sight z) c.args.clause) f) in
    let first = plain_form c.args.c.now in
    let two = λ (z : Sight). pair_of (value z (plain_form c.args.a.now)) (value z (plain_form c.args.b.now)) in
    let z = c.args.sight.now in
    let here : Answers plain_two (two z) c.type_two-second.result =
    subst (λ z. Answers plain_two (two z) c.type_two-second.result) c.type_value-first.ensures.same c.type_two-second.ensures.typed in
    subst (Answers plain_three (pair_of (value z first) (two z))) (sym c.joined.ensures)
    (joined_answers plain_sorted plain_two (value z first) (two z) c.type_value-first.result c.type_two-second.result c.type_value-first.ensures.typed here)

pub form::type_first_zone-returns-clause-typed : goal.form::type_first_zone-returns-clause-typed
form::type_first_zone-returns-clause-typed t c =
    let seen = λ (z : Sight). form_sight (plain_sight z) c.args.clause in
    let first = typed_zone (seen c.args.sight.now) ValidRead c.args.place (plain_form_zone c.args.z.now) in
    let rest = λ (z : Sight). typed_zones (seen z) c.args.place (plain_form_zones c.args.rest.now) in
    let z = c.args.sight.now in
    let here : Answers plain_zones (rest z) c.type_zones-rest.result =
    subst (λ z. Answers plain_zones (rest z) c.type_zones-rest.result) c.type_zone-first.ensures.same c.type_zones-rest.ensures.typed in
    subst (Answers plain_zone_and_rest (pair_of first (rest z))) (sym c.joined.ensures)
    (joined_answers plain_zone plain_zones first (rest z) c.type_zone-first.result c.type_zones-rest.result c.type_zone-first.ensures.typed here)

pub form::type_kind-returns-in-Choice-clause-typed : goal.form::type_kind-returns-in-Choice-clause-typed
form::type_kind-returns-in-Choice-clause-typed t c =
    let s = form_sight (plain_sight c.args.sight.now) c.args.clause in
    let is : c.args.kind.now ≡ kind.Choice c.in-Choice.c c.in-Choice.a c.in-Choice.b = search rules in
    let whole : Answers plain_sorted (typed_form s (Choice c.args.place (plain_form c.in-Choice.c) (plain_form c.in-Choice.a) (plain_form c.in-Choice.b))) c.type_choice.result = search rules in
    subst (λ k. Answers plain_sorted (typed_form s (plain_form_kind c.args.place k)) c.type_choice.result) (sym is) whole

pub form::type_kind-returns-in-Result-clause-typed : goal.form::type_kind-returns-in-Result-clause-typed
form::type_kind-returns-in-Result-clause-typed t c =
    let s = form_sight (plain_sight c.args.sight.now) c.args.clause in
    let whole : Answers plain_sorted (typed_form s (Result c.args.place)) c.result_in.result = c.result_in.ensures (plain_sight c.args.sight.now) in
    subst (λ k. Answers plain_sorted (typed_form s (plain_form_kind c.args.place k)) c.result_in.result) (sym c.in-Result.is) whole

pub form::type_choice-returns-in_err-c-clause-typed : goal.form::type_choice-returns-in_err-c-clause-typed
form::type_choice-returns-in_err-c-clause-typed t c =
    let s = form_sight (plain_sight c.args.sight.now) c.args.clause in
    let value = λ (f : Form). value_in (typed_form s f) in
    let three = pair_of (value (plain_form c.args.c.now)) (pair_of (value (plain_form c.args.a.now)) (value (plain_form c.args.b.now))) in
    let e : c.from_residual.result ≡ Err c.in_err-c.field-0.0 = search rules in
    rw e (one_refused (λ p. chosen c.args.place p.0 (p.1).0 (p.1).1) plain_three plain_sorted three c.in_err-c.field-0.0 c.in_err-c.ensures.typed)

pub form::type_chain-returns-in_err-a-clause-typed : goal.form::type_chain-returns-in_err-a-clause-typed
form::type_chain-returns-in_err-a-clause-typed t c =
    let s = form_sight (plain_sight c.args.sight.now) c.args.clause in
    let f = plain_form c.args.a.now in
    let v = value_in (typed_form s f) in
    let sides = pair_of v (typed_links s (side_of f v) (plain_form_links c.args.links.now)) in
    let e : c.from_residual.result ≡ Err c.in_err-a.field-0.0 = search rules in
    rw e (one_refused (λ p. related c.args.place p.0 p.1) plain_chain plain_sorted sides c.in_err-a.field-0.0 c.in_err-a.ensures.typed)

pub form::type_links-returns-in_err-b-in-Link-clause-typed : goal.form::type_links-returns-in_err-b-in-Link-clause-typed
form::type_links-returns-in_err-b-in-Link-clause-typed t c =
    let s = form_sight (plain_sight c.args.sight.now) c.args.clause in
    let at = c.in-Link.place in
    let left = plain_side c.args.left in
    let f = plain_form c.in-Link.b in
    let v = value_in (typed_form s f) in
    let link = pair_of (one_part v (right_side at left (side_of f v))) (typed_links s (side_of f v) (plain_form_links c.in-Link.rest.value)) in
    let is : c.args.links.now ≡ links.Link at c.in-Link.relation c.in-Link.b c.in-Link.rest = search rules in
    let e : c.from_residual.result ≡ Err c.in_err-b-in-Link.field-0.0 = search rules in
    let refused : Answers plain_link link (Err c.in_err-b-in-Link.field-0.0) = search rules in
    subst (λ l. Answers plain_links (typed_links s left (plain_form_links l)) c.from_residual.result) (sym is)
    (rw e (one_refused (λ p. Good (Linked at c.in-Link.relation p.0 p.1)) plain_link plain_links link c.in_err-b-in-Link.field-0.0 refused))

pub form::type_zone-returns-in_err-a-in-Elements-clause-typed : goal.form::type_zone-returns-in_err-a-in-Elements-clause-typed
form::type_zone-returns-in_err-a-in-Elements-clause-typed t c =
    let s = form_sight (plain_sight c.args.sight.now) c.args.clause in
    let value = λ (f : Form). value_in (typed_form s f) in
    let three = pair_of (value (plain_form c.in-Elements.a)) (pair_of (value (plain_form c.in-Elements.lo)) (value (plain_form c.in-Elements.hi))) in
    let is : c.args.z.now ≡ zone.Elements c.in-Elements.plus c.in-Elements.a c.in-Elements.lo c.in-Elements.hi = search rules in
    let e : c.from_residual-in_err-a-in-Elements.result ≡ Err c.in_err-a-in-Elements.field-0.0 = search rules in
    let refused : Answers plain_three three (Err c.in_err-a-in-Elements.field-0.0) = search rules in
    subst (λ z. Answers plain_zone (typed_zone s c.args.question c.args.place (plain_form_zone z)) c.from_residual-in_err-a-in-Elements.result) (sym is)
    (rw e (one_refused (λ p. elements_zone s.here c.args.question c.in-Elements.plus p.0 (p.1).0 (p.1).1) plain_three plain_zone three c.in_err-a-in-Elements.field-0.0 refused))

pub form::type_zones-returns-in_err-z-in-More-clause-typed : goal.form::type_zones-returns-in_err-z-in-More-clause-typed
form::type_zones-returns-in_err-z-in-More-clause-typed t c =
    let s = form_sight (plain_sight c.args.sight.now) c.args.clause in
    let first = typed_zone s ValidRead c.args.place (plain_form_zone c.in-More.z) in
    let rest = typed_zones s c.args.place (plain_form_zones c.in-More.rest.value) in
    let is : c.args.zones.now ≡ zones.More c.in-More.z c.in-More.rest = search rules in
    let e : c.from_residual.result ≡ Err c.in_err-z-in-More.field-0.0 = search rules in
    let refused : Answers plain_zone_and_rest (pair_of first rest) (Err c.in_err-z-in-More.field-0.0) = search rules in
    subst (λ z. Answers plain_zones (typed_zones s c.args.place (plain_form_zones z)) c.from_residual.result) (sym is)
    (rw e (one_refused (λ p. Good (Another p.0 p.1)) plain_zone_and_rest plain_zones (pair_of first rest) c.in_err-z-in-More.field-0.0 refused))

pub quantified::type_implication-returns-clause-typed : goal.quantified::type_implication-returns-clause-typed
quantified::type_implication-returns-clause-typed t c =
    let seen = λ (z : Sight). form_sight (plain_sight z) c.args.clause in
    let z = c.args.sight.now in
    let names = c.args.names.now in
    let f = plain_form c.args.a.now in
    let g = plain_form c.args.b.now in
    let conjuncts = typed_conjuncts (seen z) c.args.inside.place (plain_cast_type c.args.inside.kind.now) names c.args.at f (typed_form (seen z) f) in
    let body = λ (y : Sight). value_in (typed_form (with_binders (seen y) names) g) in
    let all : c.deref.result.now ≡ c.args.clause.binders.now ++ names = search rules in
    let more = seen_with (plain_sight c.type_conjuncts-a.new.sight) c.args.clause c.deref.result.now names all in
    let here : Answers plain_sorted (body z) c.type_value-b.result =
    subst (λ y. Answers plain_sorted (body y) c.type_value-b.result) c.type_conjuncts-a.ensures.same (subst (λ u. Answers plain_sorted (value_in (typed_form u g)) c.type_value-b.result) more c.type_value-b.ensures.typed) in
    subst (Answers plain_implication (pair_of conjuncts (body z))) (sym c.joined.ensures)
    (joined_answers plain_conjuncts plain_sorted conjuncts (body z) c.type_conjuncts-a.result c.type_value-b.result c.type_conjuncts-a.ensures.typed here)

pub quantified::type_conjunction-returns-clause-typed : goal.quantified::type_conjunction-returns-clause-typed
quantified::type_conjunction-returns-clause-typed t c =
    let z = c.args.sight.now in
    let seen = λ (z : Sight). form_sight (plain_sight z) c.args.clause in
    let left = c.args.left.now in
    let f = plain_form c.args.a.now in
    let g = plain_form c.args.b.now in
    let at = c.args.inside.place in
    let k = plain_cast_type c.args.inside.kind.now in
    let first = typed_conjuncts (seen z) at k left c.args.at f (typed_form (seen z) f) in
    let guarded = λ (z : Sight). with_binders (seen z) (guarded_by left f) in
    let second = λ (u : AnnotationSight) (rest : List (Place × ℕ)). typed_conjuncts u at k rest c.args.at g (typed_form u g) in
    let rest : c.left_behind-rest.result.now ≡ left_behind left f = search rules in
    let all : c.deref.result.now ≡ c.args.clause.binders.now ++ guarded_by left f = search (rules, guarded_is left c.left_behind-rest.result.now f) in
    let more = seen_with (plain_sight c.type_conjuncts-a.new.sight) c.args.clause c.deref.result.now (guarded_by left f) all in
    let r = c.type_conjuncts-b.result in
    let there : Answers plain_conjuncts (second (guarded c.type_conjuncts-a.new.sight) c.left_behind-rest.result.now) r =
    subst (λ u. Answers plain_conjuncts (second u c.left_behind-rest.result.now) r) more c.type_conjuncts-b.ensures.typed in
    let here : Answers plain_conjuncts (second (guarded z) (left_behind left f)) r =
    subst (λ y. Answers plain_conjuncts (second (guarded y) (left_behind left f)) r) c.type_conjuncts-a.ensures.same
    (subst (λ rest. Answers plain_conjuncts (second (guarded c.type_conjuncts-a.new.sight) rest) r) rest there) in
    let both = pair_of first (second (guarded z) (left_behind left f)) in
    c.joined_conjuncts.ensures both (subst (Answers plain_parts both) (sym c.joined.ensures)
    (joined_answers plain_conjuncts plain_conjuncts first (second (guarded z) (left_behind left f)) c.type_conjuncts-a.result r c.type_conjuncts-a.ensures.typed here))

pub quantified::type_bounds-returns-clause-typed : goal.quantified::type_bounds-returns-clause-typed
quantified::type_bounds-returns-clause-typed t c =
    let seen = λ (z : Sight). form_sight (plain_sight z) c.args.clause in
    let z = c.args.sight.now in
    let lower = bound_at c.args.at (typed_form (seen z) (plain_form c.args.a.now)) in
    let upper = λ (z : Sight). typed_upper (seen z) c.args.inside.place (plain_form_links c.args.links.now) in
    let here : Answers plain_term (upper z) c.type_upper-upper.result =
    subst (λ y. Answers plain_term (upper y) c.type_upper-upper.result) c.type_bound-lower.ensures.same c.type_upper-upper.ensures.typed in
    subst (Answers plain_bounds (pair_of lower (upper z))) (sym c.joined.ensures)
    (joined_answers plain_term plain_term lower (upper z) c.type_bound-lower.result c.type_upper-upper.result c.type_bound-lower.ensures.typed here)

-- ---- a part that is refused

pub form::type_value-returns-in_err-a-clause-typed : goal.form::type_value-returns-in_err-a-clause-typed
form::type_value-returns-in_err-a-clause-typed t c =
    let s = form_sight (plain_sight c.args.sight.now) c.args.clause in
    let e : c.from_residual.result ≡ Err c.in_err-a.field-0.0 = search rules in
    rw e (one_refused as_value plain_sorted plain_sorted (typed_form s (plain_form c.args.f.now)) c.in_err-a.field-0.0 c.in_err-a.ensures.typed)

pub form::type_unary-returns-in_err-a-clause-typed : goal.form::type_unary-returns-in_err-a-clause-typed
form::type_unary-returns-in_err-a-clause-typed t c =
    let s = form_sight (plain_sight c.args.sight.now) c.args.clause in
    let e : c.from_residual.result ≡ Err c.in_err-a.field-0.0 = search rules in
    rw e (one_refused (unary_on c.args.place c.args.op) plain_sorted plain_sorted (typed_form s (plain_form c.args.a.now)) c.in_err-a.field-0.0 c.in_err-a.ensures.typed)

pub form::type_dot-returns-in_err-a-clause-typed : goal.form::type_dot-returns-in_err-a-clause-typed
form::type_dot-returns-in_err-a-clause-typed t c =
    let s = form_sight (plain_sight c.args.sight.now) c.args.clause in
    let e : c.from_residual.result ≡ Err c.in_err-a.field-0.0 = search rules in
    rw e (one_refused (dot s.here c.args.place c.args.name) plain_sorted plain_sorted (typed_form s (plain_form c.args.a.now)) c.in_err-a.field-0.0 c.in_err-a.ensures.typed)

pub form::type_arrow-returns-in_err-a-clause-typed : goal.form::type_arrow-returns-in_err-a-clause-typed
form::type_arrow-returns-in_err-a-clause-typed t c =
    let s = form_sight (plain_sight c.args.sight.now) c.args.clause in
    let e : c.from_residual.result ≡ Err c.in_err-a.field-0.0 = search rules in
    rw e (one_refused (arrow s.here c.args.place c.args.name) plain_sorted plain_sorted (value_in (typed_form s (plain_form c.args.a.now))) c.in_err-a.field-0.0 c.in_err-a.ensures.typed)

pub form::type_told-returns-in_err-a-clause-typed : goal.form::type_told-returns-in_err-a-clause-typed
form::type_told-returns-in_err-a-clause-typed t c =
    let s = form_sight (plain_sight c.args.sight.now) c.args.clause in
    let e : c.from_residual.result ≡ Err c.in_err-a.field-0.0 = search rules in
    rw e (one_refused (told c.args.place c.args.fact) plain_sorted plain_sorted (value_in (typed_form s (plain_form c.args.a.now))) c.in_err-a.field-0.0 c.in_err-a.ensures.typed)

pub quantified::type_bound-returns-in_err-a-clause-typed : goal.quantified::type_bound-returns-in_err-a-clause-typed
quantified::type_bound-returns-in_err-a-clause-typed t c =
    let s = form_sight (plain_sight c.args.sight.now) c.args.clause in
    let e : c.from_residual.result ≡ Err c.in_err-a.field-0.0 = search rules in
    rw e (one_refused (as_integer c.args.at) plain_sorted plain_term (value_in (typed_form s (plain_form c.args.a.now))) c.in_err-a.field-0.0 c.in_err-a.ensures.typed)

pub quantified::type_another-returns-in_err-a-clause-typed : goal.quantified::type_another-returns-in_err-a-clause-typed
quantified::type_another-returns-in_err-a-clause-typed t c =
    let s = form_sight (plain_sight c.args.sight.now) c.args.clause in
    let e : c.from_residual.result ≡ Err c.in_err-a.field-0.0 = search rules in
    rw e (one_refused (λ v. one_part (as_predicate c.args.at v) (λ p. Good (record { chains = []; others = Some p }))) plain_sorted plain_conjuncts (value_in (typed_form s (plain_form c.args.f.now))) c.in_err-a.field-0.0
    c.in_err-a.ensures.typed)

pub form::type_binary-returns-in_err-a-clause-typed : goal.form::type_binary-returns-in_err-a-clause-typed
form::type_binary-returns-in_err-a-clause-typed t c =
    let s = form_sight (plain_sight c.args.sight.now) c.args.clause in
    let value = λ (f : Form). value_in (typed_form s f) in
    let two = pair_of (value (plain_form c.args.a.now)) (value (plain_form c.args.b.now)) in
    let e : c.from_residual.result ≡ Err c.in_err-a.field-0.0 = search rules in
    rw e (one_refused (λ p. binary_on s.here c.args.place c.args.op p.0 p.1) plain_two plain_sorted two c.in_err-a.field-0.0 c.in_err-a.ensures.typed)

pub form::type_connected-returns-in_err-a-clause-typed : goal.form::type_connected-returns-in_err-a-clause-typed
form::type_connected-returns-in_err-a-clause-typed t c =
    let s = form_sight (plain_sight c.args.sight.now) c.args.clause in
    let value = λ (f : Form). value_in (typed_form s f) in
    let two = pair_of (value (plain_form c.args.a.now)) (value (plain_form c.args.b.now)) in
    let e : c.from_residual.result ≡ Err c.in_err-a.field-0.0 = search rules in
    rw e (one_refused (λ p. connected c.args.place c.args.connective p.0 p.1) plain_two plain_sorted two c.in_err-a.field-0.0 c.in_err-a.ensures.typed)

pub form::type_index-returns-in_err-a-clause-typed : goal.form::type_index-returns-in_err-a-clause-typed
form::type_index-returns-in_err-a-clause-typed t c =
    let s = form_sight (plain_sight c.args.sight.now) c.args.clause in
    let value = λ (f : Form). value_in (typed_form s f) in
    let two = pair_of (value (plain_form c.args.a.now)) (value (plain_form c.args.b.now)) in
    let e : c.from_residual.result ≡ Err c.in_err-a.field-0.0 = search rules in
    rw e (one_refused (λ p. index s.here c.args.place p.0 p.1) plain_two plain_sorted two c.in_err-a.field-0.0 c.in_err-a.ensures.typed)

pub form::type_zone-returns-in_err-a-in-Object-clause-typed : goal.form::type_zone-returns-in_err-a-in-Object-clause-typed
form::type_zone-returns-in_err-a-in-Object-clause-typed t c =
    let s = form_sight (plain_sight c.args.sight.now) c.args.clause in
    let is : c.args.z.now ≡ zone.Object c.in-Object.a = search rules in
    let e : c.from_residual.result ≡ Err c.in_err-a-in-Object.field-0.0 = search rules in
    let value = value_in (typed_form s (plain_form c.in-Object.a)) in
    let refused : Answers plain_sorted value (Err c.in_err-a-in-Object.field-0.0) = search rules in
    subst (λ z. Answers plain_zone (typed_zone s c.args.question c.args.place (plain_form_zone z)) c.from_residual.result) (sym is)
    (rw e (one_refused (object_zone s.here c.args.question c.args.place) plain_sorted plain_zone value c.in_err-a-in-Object.field-0.0 refused))

pub form::type_kind-returns-in_err-a-in-Cast-Integer-default-clause-typed :
    goal.form::type_kind-returns-in_err-a-in-Cast-Integer-default-clause-typed
form::type_kind-returns-in_err-a-in-Cast-Integer-default-clause-typed t c =
    let s = form_sight (plain_sight c.args.sight.now) c.args.clause in
    let a = c.in-Cast-Integer-default.a in
    let is : c.args.kind.now ≡ kind.Cast logic_type.Integer a = search rules in
    let e : c.from_residual.result ≡ Err c.in_err-a-in-Cast-Integer-default.field-0.0 = search rules in
    let value = value_in (typed_form s (plain_form a)) in
    let refused : Answers plain_sorted value (Err c.in_err-a-in-Cast-Integer-default.field-0.0) = search rules in
    subst (λ k. Answers plain_sorted (typed_form s (plain_form_kind c.args.place k)) c.from_residual.result) (sym is)
    (rw e (one_refused (cast_integer c.args.place Integers) plain_sorted plain_sorted value c.in_err-a-in-Cast-Integer-default.field-0.0 refused))

pub form::type_kind-returns-in-Dot-clause-typed : goal.form::type_kind-returns-in-Dot-clause-typed
form::type_kind-returns-in-Dot-clause-typed t c =
    let s = form_sight (plain_sight c.args.sight.now) c.args.clause in
    let is : c.args.kind.now ≡ kind.Dot c.in-Dot.a c.in-Dot.m = search rules in
    let whole : Answers plain_sorted (typed_form s (Dot c.args.place (plain_form c.in-Dot.a) c.in-Dot.m)) c.type_dot.result = search rules in
    subst (λ k. Answers plain_sorted (typed_form s (plain_form_kind c.args.place k)) c.type_dot.result) (sym is) whole

-- ---- labels

pub form::type_unlabelled-returns-in_err-type_value-clause-typed : goal.form::type_unlabelled-returns-in_err-type_value-clause-typed
form::type_unlabelled-returns-in_err-type_value-clause-typed t c =
    let s = form_sight (plain_sight c.args.sight.now) c.args.clause in
    let f = plain_form c.args.a.now in
    let value = value_in (typed_form s f) in
    let e : c.from_residual.result ≡ Err c.in_err-type_value.field-0.0 = search rules in
    let may : is_refused s f true ≡ false = search rules in
    subst (λ b. Answers plain_sorted (where_so (not b) (no_label c.args.place) (one_part value (λ a. faulty (no_label c.args.at)))) c.from_residual.result) (sym may)
    (rw e (one_refused (λ (a : Sorted). faulty (no_label c.args.at)) plain_sorted plain_sorted value c.in_err-type_value.field-0.0 c.in_err-type_value.ensures.typed))

pub form::type_seen-returns-in_err-a-in-Some-clause-typed : goal.form::type_seen-returns-in_err-a-in-Some-clause-typed
form::type_seen-returns-in_err-a-in-Some-clause-typed t c =
    let p = plain_sight c.args.sight.now in
    let f = plain_form c.args.a.now in
    let view = plain_view p c.in-Some.view in
    let seen : Some view ≡ sight_at (form_sight p c.args.clause) c.args.label = search rules in
    let e : c.from_residual.result ≡ Err c.in_err-a-in-Some.field-0.0 = search rules in
    subst (λ o. Answers plain_sorted (given o (no_label c.args.place) (λ u. one_part (value_in (typed_form u f)) (at_label c.args.place c.args.label))) c.from_residual.result) seen
    (rw e (one_refused (at_label c.args.place c.args.label) plain_sorted plain_sorted (value_in (typed_form view f)) c.in_err-a-in-Some.field-0.0 c.in_err-a-in-Some.ensures.typed))

-- ---- quantifiers

pub quantified::type_upper-returns-in-End-deref-clause-typed : goal.quantified::type_upper-returns-in-End-deref-clause-typed
quantified::type_upper-returns-in-End-deref-clause-typed t c =
    let s = form_sight (plain_sight c.args.sight.now) c.args.clause in
    let is : c.args.links.now ≡ links.Link c.in-Link.at c.in-Link.field-1 c.in-Link.a c.in-Link.rest = search rules in
    let last : c.in-Link.rest.value ≡ links.End = search rules in
    let bound : Answers plain_term (bound_at c.in-Link.at (typed_form s (plain_form c.in-Link.a))) c.type_bound.result = search rules in
    subst (λ l. Answers plain_term (typed_upper s c.args.place (plain_form_links l)) c.type_bound.result) (sym is)
    (subst (λ l. Answers plain_term (typed_upper s c.args.place (read.Linked c.in-Link.at c.in-Link.field-1 (plain_form c.in-Link.a) (plain_form_links l))) c.type_bound.result) (sym last) bound)

pub quantified::type_upper-returns-in-Link-deref-clause-typed : goal.quantified::type_upper-returns-in-Link-deref-clause-typed
quantified::type_upper-returns-in-Link-deref-clause-typed t c =
    let s = form_sight (plain_sight c.args.sight.now) c.args.clause in
    let is : c.args.links.now ≡ links.Link c.in-Link.at c.in-Link.field-1 c.in-Link.a c.in-Link.rest = search rules in
    let more = links.Link c.in-Link-deref.field-0 c.in-Link-deref.field-1 c.in-Link-deref.field-2 c.in-Link-deref.field-3 in
    let next : c.in-Link.rest.value ≡ more = search rules in
    let there : Answers plain_term (typed_upper s c.args.place (plain_form_links c.in-Link.rest.value)) c.type_upper.result = search rules in
    let upper : Answers plain_term (typed_upper s c.args.place (plain_form_links more)) c.type_upper.result =
    subst (λ l. Answers plain_term (typed_upper s c.args.place (plain_form_links l)) c.type_upper.result) next there in
    subst (λ l. Answers plain_term (typed_upper s c.args.place (plain_form_links l)) c.type_upper.result) (sym is)
    (subst (λ l. Answers plain_term (typed_upper s c.args.place (read.Linked c.in-Link.at c.in-Link.field-1 (plain_form c.in-Link.a) (plain_form_links l))) c.type_upper.result) (sym next) upper)

pub quantified::type_inside-returns-in-ForAll-Implies-clause-typed : goal.quantified::type_inside-returns-in-ForAll-Implies-clause-typed
quantified::type_inside-returns-in-ForAll-Implies-clause-typed t c =
    let s = form_sight (plain_sight c.args.sight.now) c.args.clause in
    let at = c.args.inside.place in
    let k = plain_cast_type c.args.inside.kind.now in
    let names = c.args.names.now in
    let place = c.args.f.now.place in
    let a = plain_form c.in-Connected.a in
    let b = plain_form c.in-Connected.b in
    let r = c.universal.result in
    let is : c.args.f.now.kind.value ≡ kind.Connected Implies c.in-Connected.a c.in-Connected.b = search rules in
    let all : c.args.quantifier ≡ ForAll = search rules in
    let parts = pair_of (typed_conjuncts s at k names place a (typed_form s a)) (value_in (typed_form (with_binders s names) b)) in
    let whole : Answers plain_sorted (one_part parts (λ p. universal at place p.0 p.1)) r = c.universal.ensures parts c.type_implication-parts.ensures.typed in
    subst (λ q. Answers plain_sorted (typed_quantified s at q k names (plain_form c.args.f.now)) r) (sym all)
    (subst (λ z. Answers plain_sorted (typed_quantified s at ForAll k names (plain_form_kind place z)) r) (sym is) whole)

pub quantified::type_inside-returns-in-Exists-And-clause-typed : goal.quantified::type_inside-returns-in-Exists-And-clause-typed
quantified::type_inside-returns-in-Exists-And-clause-typed t c =
    let s = form_sight (plain_sight c.args.sight.now) c.args.clause in
    let at = c.args.inside.place in
    let k = plain_cast_type c.args.inside.kind.now in
    let names = c.args.names.now in
    let place = c.args.f.now.place in
    let a = plain_form c.in-Connected.a in
    let b = plain_form c.in-Connected.b in
    let r = c.existential.result in
    let is : c.args.f.now.kind.value ≡ kind.Connected And c.in-Connected.a c.in-Connected.b = search rules in
    let some : c.args.quantifier ≡ Exists = search rules in
    let u = with_binders s (guarded_by names a) in
    let parts = conjunction place (typed_conjuncts s at k names place a (typed_form s a)) (typed_conjuncts u at k (left_behind names a) place b (typed_form u b)) in
    let whole : Answers plain_sorted (one_part parts (existential at)) r = c.existential.ensures parts c.type_conjunction-parts.ensures.typed in
    subst (λ q. Answers plain_sorted (typed_quantified s at q k names (plain_form c.args.f.now)) r) (sym some)
    (subst (λ z. Answers plain_sorted (typed_quantified s at Exists k names (plain_form_kind place z)) r) (sym is) whole)

pub quantified::type_conjuncts-returns-in-len1-up-clause-typed : goal.quantified::type_conjuncts-returns-in-len1-up-clause-typed
quantified::type_conjuncts-returns-in-len1-up-clause-typed t c =
    let s = form_sight (plain_sight c.args.sight.now) c.args.clause in
    let at = c.args.inside.place in
    let k = plain_cast_type c.args.inside.kind.now in
    let here = c.args.f.now.place in
    let a = plain_form c.in-Chain.a in
    let links = plain_form_links c.in-Chain.links in
    let r = c.chain_conjunct.result in
    let is : c.args.f.now.kind.value ≡ kind.Chain c.in-Chain.a c.in-Chain.links = search rules in
    let typed = typed_form s (read.Chain here a links) in
    let whole = c.chain_conjunct.ensures (bound_at here (typed_form s a)) (typed_upper s at links) c.type_bounds-bounds.ensures.typed c.args.at typed in
    let none : Place × ℕ = (record { line = 0; column = 0; offset = 0 }, 0) in
    let chained = λ (bs : List (Place × ℕ)). Answers plain_conjuncts (chain_conjunct at k bs c.args.at links (bound_at here (typed_form s a)) (typed_upper s at links) typed) r in
    subst (λ z. Answers plain_conjuncts (typed_conjuncts s at k c.args.left.now c.args.at (plain_form_kind here z) (typed_form s (plain_form_kind here z))) r) (sym is)
    (subst chained (first_of_all none c.args.left.now c.in-len1-up.len_at_least) whole)
