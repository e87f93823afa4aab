-- The code of every predicate is valid.
use Rattle.std.proofs.Common.{◌≡◌, ℕ, suc, ◌+◌, ◌-◌, ◌*◌, ◌≤◌, ℤ, pos, Bool, true, false, List, [], ◌∷◌, ◌++◌, length, Option, Some, None, slice_get, refl, subst, arith, ◌≤ℤ◌}
use Rattle.std.proofs.lemmas.Int.{ints}
use Rattle.c_syntax.specs.declared.logic.Quantifier.{Quantifier}
use Rattle.c_syntax.specs.declared.logic.Connective.TheVariants.{And}
use Rattle.c_syntax.specs.Logic.{LogicTerm, Links, NoLink, Linked, Predicate, range_of, Guards, NoGuard, Guarded}
use Rattle.c_syntax.specs.Logic as logic
use Rattle.c_syntax.specs.Programs.{TranslationUnit}
use Rattle.c_model.specs.Ranges.{width_of_range}
use Rattle.c_model.specs.TermRanges.{TermRanged, LinksRanged, PredicateRanged}
use Rattle.c_model.specs.Formed.{parentheses_around, operator_of_term, tokens_of_term, tokens_of_links, tokens_of_predicate, tokens_of_guards}
use Rattle.mon_syntax.specs.declared.tree.MonType.{MonType}
use Rattle.mon_syntax.specs.declared.tree.MonType.TheVariants.{I32, Ptr}
use Rattle.mon_syntax.specs.Registers.{Bindings}
use Rattle.mon_syntax.specs.Trees.{MonExpression, Register, Global, Constant, Binary, Minus, Flip, Cast, Load, If, MonStatements}
use Rattle.mon_syntax.specs.Valid.{Types, HasType, AreStatements, Labels, Signature, open_parens, depth_of_all}
use Rattle.c_effects.specs.Expressions.{before, one, set, in_type, pointer_to}
use Rattle.c_syntax.specs.Logic.{Zone, Zones, NoZone, Another}
use Rattle.c_model.specs.Formed.{tokens_of_zone, tokens_of_zones}
use Rattle.c_model.specs.Predicates.{alignment_of}
use Rattle.c_model.specs.TermRanges.{ZoneRanged, ZonesRanged}
use Rattle.mon_syntax.specs.declared.tree.MonType.TheVariants.{I64, I128}
use Rattle.mem_preds.specs.Questions.{type_of_fact}
use Rattle.c_syntax.specs.declared.logic.Label.TheVariants.{Here, Pre, Marked}
use Rattle.c_model.specs.PredicateTyping.{place_of_term}
use Rattle.c_model.specs.TermRanges.{Seen, GuardsRanged, lowered, seen_binders}
use Rattle.c_simulation.specs.Keeping.{Kept}
use Rattle.annot_simulation.specs.Held.{Held, kept_at, kept_code, sorts_held}
use Rattle.annot_simulation.specs.Pieces.{settled}
use Rattle.annot_simulation.specs.Validity.{AreOutside, HeldTyped, GuardsWritable, ValuesAreValid}
use Rattle.annot_simulation.specs.Pointers.{start_pointer, null, member_code, pointer_there, told_pointer}
use Rattle.annot_simulation.specs.Code.{Side, used_by, side_by, again, related_code, is_pointer_term, pointer_code, place_code, zone_code, zones_code}
use Rattle.annot_simulation.specs.Validity.{PointerWritable, PlaceWritable, ZoneWritable, ZonesWritable}
use Rattle.annot_simulation.proofs.Depths.{term_deep, pointer_deep, pred_deep, bounded_deep, guards_deep}
use Rattle.annot_simulation.proofs.Prefixes.{there_begins, pointer_begins, zones_begins, related_begins, again_begins, bounded_begins, guards_begins}
use Rattle.annot_simulation.proofs.ValidPointers.{PointerValid, pointer_more, start_valid, there_valid, number_read_valid, told_number_valid}
use Rattle.annot_simulation.proofs.ValidPointers.{told_pointer_valid, member_parens, member_valid, moved_valid, branch_pointer_valid, difference_valid}
use Rattle.annot_simulation.proofs.ValidZones.{ZoneValid, object_valid, elements_valid, zone_asked_valid, ZonesValid, none_valid, another_valid, separated_valid}
use Rattle.annot_simulation.specs.Code.{term_type, Reading}
use Rattle.annot_simulation.specs.Code.{Code, with_value, type_of_width, type_of, width_of, wider, working, is_total, binary_value, relation_code, is_known}
use Rattle.annot_simulation.specs.Code.{term_code, chain_code, guards_code, pred_code, truth_code, sure_readings, sure_readings_of_term, known_at_right, judged_by, judged_anew, judged_with}
use Rattle.annot_simulation.specs.Validity.{TermWritable, LinksWritable, PredicateWritable, Begins, IsValidCode, CodeIsValid}
use Rattle.annot_simulation.proofs.Variables.{integer_of_range}
use Rattle.annot_simulation.proofs.Typed.{begins_front, type_at, first_type, second_type_at, whole_width, in_type_typed}
use Rattle.annot_simulation.proofs.Typed.{in_type_parens}
use Rattle.annot_simulation.specs.Inside.{open_in_all}
use Rattle.annot_simulation.proofs.Opens.{open_before, open_one, open_if}
use Rattle.annot_simulation.proofs.Depths.{deep_before, deep_if, some_term, some_tokens}
use Rattle.annot_simulation.proofs.Prefixes.{operated_begins, connected_begins, term_begins, chain_begins, pred_begins, judged_begins}
use Rattle.annot_simulation.proofs.ValidParts.{flag_more, before_valid, expression, set_valid, number_valid, register_valid, FlagValid, Valid}
use Rattle.annot_simulation.proofs.ValidParts.{branch_valid, truth_valid, connected_valid}
use Rattle.c_model.specs.Quantifiers.{undecided}
use Rattle.quantifier_loops.specs.Laws.{IsNumber}
use Rattle.annot_simulation.specs.Binders.{bounded_code, bounds_relation}
use Rattle.annot_simulation.proofs.ValidBinders.{outside_more, bounded_written}
use Rattle.annot_simulation.proofs.Grows.{term_grows, pointer_grows, pred_grows, zone_grows, related_grows, side_grows, again_used, guards_grows}
use Rattle.annot_simulation.proofs.Inside.{guards_inside, pred_inside}
use Rattle.annot_simulation.proofs.ValidTerms.{pointer_parens, IsCode, number_code, variable_is_code, held_is_code, held_pointer_valid, kept_is_code, kept_pointer_valid, settled_is_code}
use Rattle.annot_simulation.proofs.ValidTerms.{unary_is_code, binary_is_code, cast_is_code, relation_is_code, side_is_code, nonzero_is_code, not_is_code, SideValid, again_valid, ended_valid, related_is_code}
use Rattle.annot_simulation.proofs.ValidTerms.{side_made, whole_of, whole_term, anywhere}

-- ---- everything

more_valid : (g : ℕ) (gs : List Signature) (ts : Types) (result : Option MonType) (ls : Labels) (c : Code) (n k : ℕ) → n ≤ k → Valid g gs ts result ls c I32 n 4 → Valid g gs ts result ls c I32 k 4
more_valid g gs ts result ls c n k le v = record {
  statements = v.statements;
  deep = omega (arith, v.deep, le);
  opened = omega (arith, v.opened, le);
  flag = flag_more g gs ts result ls c.flag n k le v.flag;
  typed = v.typed;
  parens = omega (arith, v.parens, le);
}

lowered_less : (below : Bool) (x : ℤ) → lowered below x ≤ℤ x
lowered_less true x = omega (arith, ints)
lowered_less false x = omega (arith, ints)

module _ (p : TranslationUnit) (bound : Bindings) (plan : List Kept) (g : ℕ) (gs : List Signature) (ts : Types) (result : Option MonType) (counted : IsNumber (length ts)) where
  mutual
    pub term_valid : (held : List Held) (seen : Seen) (ls : Labels) → HeldTyped ts held → (t : LogicTerm) → TermRanged seen t → TermWritable p bound plan g ts (sorts_held held) t → (known : List Reading) (rs : Types) → AreOutside ls (length rs)
        → tokens_of_term t ≤ 400 → Begins (term_code p bound plan t held known rs).used ts
        → IsCode p bound plan held seen g gs ts result ls (term_code p bound plan t held known rs) (type_of t) (tokens_of_term t) (parentheses_around 2 (operator_of_term t))
    term_valid held seen ls typed (logic.Number at t r n) q f known rs o few h = number_code p bound plan held seen g gs ts result ls r n rs q f
    term_valid held seen ls typed (logic.Letter at t r n) q f known rs o few h = number_code p bound plan held seen g gs ts result ls r n rs q f
    term_valid held seen ls typed (logic.Variable at t r x) q f known rs o few h = variable_is_code p bound plan held seen g gs ts result ls (is_known known (record { decl = x.decl; kind = term_type t })) r t x rs (integer_of_range t r f.0 q) f.1 h
    term_valid held seen ls typed (logic.Unary at t r op a) q f known rs o few h = unary_is_code p bound plan held seen g gs ts result ls at t r op a q (term_code p bound plan a held known rs)
        (anywhere p bound plan held seen g gs ts result ls a (term_code p bound plan a held known rs) (term_valid held seen ls typed a q.1 f known rs o (omega (arith, few)) h))
    term_valid held seen ls typed (logic.Binary at t r op a b) q f known rs o few h =
        let x = term_code p bound plan a held known rs in
        let y = term_code p bound plan b held known x.used in
        let k = type_of_width (working op (width_of_range r) (width_of a) (width_of b)) in
        let hy = operated_begins ts (is_total op (range_of b)) op (type_of_width (width_of_range r)) k (type_of b) x y (binary_value op (type_of_width (width_of_range r)) k (type_of a) (type_of b) (range_of b) x.value y.value) h in
        let hx = term_begins ts p bound plan b held known x.used hy in
        binary_is_code p bound plan held seen g gs ts result ls at t r op a b q x y (anywhere p bound plan held seen g gs ts result ls a (term_code p bound plan a held known rs)
        (term_valid held seen ls typed a q.1 f.0 known rs o (omega (arith, few)) hx)) (term_valid held seen ls typed b q.2 f.1 known x.used (outside_more ls (length rs) (length x.used) (omega (arith, term_grows p bound plan a held known rs)) o)
        (omega (arith, few)) hy) few h
    term_valid held seen ls typed (logic.Cast at t r to a) q f known rs o few h = cast_is_code p bound plan held seen g gs ts result ls at t r to a q f.0 (term_code p bound plan a held known rs)
        (anywhere p bound plan held seen g gs ts result ls a (term_code p bound plan a held known rs) (term_valid held seen ls typed a q.1 f.1 known rs o (omega (arith, few)) h))
    term_valid held seen ls typed (logic.Choice at t r c a b) q f known rs o few h =
        let more = known ++ sure_readings c in
        let w = type_of_width (width_of_range r) in
        let z = pred_code p bound plan c held known rs in
        let x = term_code p bound plan a held more z.used in
        let y = term_code p bound plan b held more x.used in
        let hy = begins_front y.used (I32 ∷ w ∷ []) ts h in
        let hx = term_begins ts p bound plan b held more x.used hy in
        let hz = term_begins ts p bound plan a held more z.used hx in
        branch_valid g gs ts result ls w z (with_value (in_type (type_of a) w x.value) x) (with_value (in_type (type_of b) w y.value) y)
        (tokens_of_predicate c) (tokens_of_term a) (tokens_of_term b) (suc (tokens_of_predicate c + tokens_of_term a + tokens_of_term b)) 0
        (pred_valid held seen ls typed c q.1 f.0 known rs o (omega (arith, few)) hz) (side_is_code p bound plan held seen g gs ts result ls a r x (tokens_of_term a)
        (anywhere p bound plan held seen g gs ts result ls a (term_code p bound plan a held more z.used) (term_valid held seen ls typed a q.2 f.1 more z.used
        (outside_more ls (length rs) (length z.used) (omega (arith, pred_grows p bound plan c held known rs)) o) (omega (arith, few)) hx)))
        (side_is_code p bound plan held seen g gs ts result ls b r y (tokens_of_term b) (anywhere p bound plan held seen g gs ts result ls b (term_code p bound plan b held more x.used)
        (term_valid held seen ls typed b q.3 f.2 more x.used (outside_more ls (length rs) (length x.used) (omega (arith, pred_grows p bound plan c held known rs, term_grows p bound plan a held more z.used)) o) (omega (arith, few)) hy)))
        (omega (arith, some_term a)) (omega arith) (omega arith) (some_term a) few h
    term_valid held seen ls typed (logic.Deref at t r a) q f known rs o few h =
        let c = pointer_code p bound plan a held known rs in
        let v = pointer_valid held seen ls typed a q.1 f.1 known rs o (omega (arith, few)) (begins_front c.used (I32 ∷ []) ts h) in
        let n = tokens_of_term a in
        number_read_valid g gs ts result ls (type_of_width (width_of_range r)) (term_type t) (whole_width (width_of_range r)) (whole_term p bound plan held seen g gs ts result ls t f.0) c (suc n) (3 * n - 2) few
        (pointer_more g gs ts result ls c n (suc n) (omega arith) v)
        (omega (arith, some_term a)) (omega (arith, v.offset_parens)) (omega (arith, some_term a)) h (term_deep p bound plan (logic.Deref at t r a) held known rs)
    term_valid held seen ls typed (logic.Member at t r d a) q f known rs o few h =
        let c = place_code p bound plan a held known rs in
        let v = place_valid held seen ls typed a q.1 f.2 known rs o (omega (arith, few)) (begins_front c.used (I32 ∷ []) ts h) in
        let n = tokens_of_term a in
        let small : n ≤ 400 = omega (arith, few) in
        number_read_valid g gs ts result ls (type_of_width (width_of_range r)) (term_type t) (whole_width (width_of_range r)) (whole_term p bound plan held seen g gs ts result ls t f.0) (member_code d c) (suc n) (3 * n - 1) few
        (member_valid g gs ts result ls d c n f.1 small v)
        (omega (arith, some_term a)) (member_parens g gs ts result ls d c n small v) (omega (arith, some_term a)) h (term_deep p bound plan (logic.Member at t r d a) held known rs)
    term_valid held seen ls typed (logic.Difference at t r n a b) q f known rs o few h =
        let c = pointer_code p bound plan a held known rs in
        let d = pointer_code p bound plan b held known c.used in
        let hd = begins_front d.used (I32 ∷ I32 ∷ Ptr ∷ Ptr ∷ I64 ∷ I64 ∷ []) ts h in
        let hc = pointer_begins ts p bound plan b held known c.used hd in
        let k = suc (tokens_of_term a + tokens_of_term b) in
        difference_valid g gs ts result ls c d (tokens_of_term a) (tokens_of_term b) k few (pointer_valid held seen ls typed a q.1 f.1 known rs o (omega (arith, few)) hc)
        (pointer_valid held seen ls typed b q.2 f.2 known c.used (outside_more ls (length rs) (length c.used) (omega (arith, pointer_grows p bound plan a held known rs)) o) (omega (arith, few)) hd) (omega arith) (omega arith)
        (type_of_width (width_of_range r)) n (whole_width (width_of_range r)) f.0 h (term_deep p bound plan (logic.Difference at t r n a b) held known rs)
    term_valid held seen ls typed (logic.Told at t r e a) q f known rs o few h =
        let c = pointer_code p bound plan a held known rs in
        let v = pointer_valid held seen ls typed a q.1 f.1 known rs o (omega (arith, few)) (begins_front c.used (I32 ∷ type_of_fact e ∷ []) ts h) in
        told_number_valid g gs ts result ls (type_of_width (width_of_range r)) (whole_width (width_of_range r)) e f.0 c (tokens_of_term a) (omega (arith, few)) v h (term_deep p bound plan (logic.Told at t r e a) held known rs)
    term_valid held seen ls typed (logic.Named at t r x) q f known rs o few h = held_is_code p bound plan held seen g gs ts result ls r x.decl rs typed f
    term_valid held seen ls typed (logic.At at t r Here a) q f known rs o few h =
        let c = term_code p bound plan a held known rs in
        subst (λ r. IsCode p bound plan held seen g gs ts result ls (settled (type_of a) c) (type_of_width (width_of_range r)) (tokens_of_term a) 0) q.0
        (settled_is_code p bound plan held seen g gs ts result ls (type_of a) c (tokens_of_term a) (some_term a) few
        (anywhere p bound plan held seen g gs ts result ls a c (term_valid held seen ls typed a q.1 f known rs o few (begins_front c.used (I32 ∷ type_of a ∷ []) ts h))) h)
    term_valid held seen ls typed (logic.At at t r Pre a) q f known rs o few h =
        subst (λ r. IsCode p bound plan held seen g gs ts result ls (kept_code (kept_at (place_of_term a).offset plan) rs) (type_of_width (width_of_range r)) (tokens_of_term a) 0) q.0 (kept_is_code p bound plan held seen g gs ts result ls a rs f)
    term_valid held seen ls typed (logic.At at t r (Marked l) a) q f known rs o few h =
        subst (λ r. IsCode p bound plan held seen g gs ts result ls (kept_code (kept_at (place_of_term a).offset plan) rs) (type_of_width (width_of_range r)) (tokens_of_term a) 0) q.0 (kept_is_code p bound plan held seen g gs ts result ls a rs f)
    term_valid held seen ls typed _ q f known rs o few h = absurd f

    pub pointer_valid : (held : List Held) (seen : Seen) (ls : Labels) → HeldTyped ts held → (t : LogicTerm) → TermRanged seen t → PointerWritable p bound plan g ts (sorts_held held) t → (known : List Reading) (rs : Types)
        → AreOutside ls (length rs) → tokens_of_term t ≤ 400 → Begins (pointer_code p bound plan t held known rs).used ts
        → PointerValid g gs ts result ls (pointer_code p bound plan t held known rs) (tokens_of_term t)
    pointer_valid held seen ls typed (logic.Variable at t r x) q f known rs o few h =
        there_valid g gs ts result ls (is_known known (record { decl = x.decl; kind = term_type t })) t (start_pointer (pointer_to p bound x.decl) rs) 1 (omega arith)
        (start_valid g gs ts result ls (pointer_to p bound x.decl) rs f (let l = pointer_parens p bound x.decl in omega (arith, l))) h
    pointer_valid held seen ls typed (logic.Null at t r) q f known rs o few h = start_valid g gs ts result ls null rs (refl, refl) (omega arith)
    pointer_valid held seen ls typed (logic.Deref at t r a) q f known rs o few h =
        let c = pointer_code p bound plan a held known rs in
        let v = pointer_valid held seen ls typed a q.1 f known rs o (omega (arith, few)) (there_begins ts false t c h) in
        pointer_more g gs ts result ls (pointer_there false t c) (tokens_of_term a) (suc (tokens_of_term a)) (omega arith) (there_valid g gs ts result ls false t c (tokens_of_term a) (omega (arith, few)) v h)
    pointer_valid held seen ls typed (logic.Member at t r d a) q f known rs o few h =
        let c = place_code p bound plan a held known rs in
        let v = place_valid held seen ls typed a q.1 f.1 known rs o (omega (arith, few)) (there_begins ts false t (member_code d c) h) in
        there_valid g gs ts result ls false t (member_code d c) (suc (tokens_of_term a)) few (member_valid g gs ts result ls d c (tokens_of_term a) f.0 (omega (arith, few)) v) h
    pointer_valid held seen ls typed (logic.Address at t r a) q f known rs o few h =
        pointer_more g gs ts result ls (place_code p bound plan a held known rs) (tokens_of_term a) (suc (tokens_of_term a)) (omega arith) (place_valid held seen ls typed a q.1 f known rs o (omega (arith, few)) h)
    pointer_valid held seen ls typed (logic.Moved at t r op n a b) q f known rs o few h =
        let c = pointer_code p bound plan a held known rs in
        let d = term_code p bound plan b held known c.used in
        let hc = term_begins ts p bound plan b held known c.used h in
        moved_valid g gs ts result ls op n c (type_of b) d (tokens_of_term a) (tokens_of_term b) f.0 (whole_of p bound plan held seen g gs ts result ls b) (omega (arith, few)) (some_term b)
        (pointer_valid held seen ls typed a q.1 f.1 known rs o (omega (arith, few)) hc)
        (anywhere p bound plan held seen g gs ts result ls b d (term_valid held seen ls typed b q.2 f.2 known c.used (outside_more ls (length rs) (length c.used) (omega (arith, pointer_grows p bound plan a held known rs)) o) (omega (arith, few)) h))
    pointer_valid held seen ls typed (logic.Cast at t r to a) q f known rs o few h =
        pointer_more g gs ts result ls (pointer_code p bound plan a held known rs) (tokens_of_term a) (suc (tokens_of_term a)) (omega arith) (pointer_valid held seen ls typed a q.1 f known rs o (omega (arith, few)) h)
    pointer_valid held seen ls typed (logic.Choice at t r c a b) q f known rs o few h =
        let more = known ++ sure_readings c in
        let z = pred_code p bound plan c held known rs in
        let x = pointer_code p bound plan a held more z.used in
        let y = pointer_code p bound plan b held more x.used in
        let hy = begins_front y.used (I32 ∷ Ptr ∷ I128 ∷ []) ts h in
        let hx = pointer_begins ts p bound plan b held more x.used hy in
        let hz = pointer_begins ts p bound plan a held more z.used hx in
        branch_pointer_valid g gs ts result ls z x y (tokens_of_predicate c) (tokens_of_term a) (tokens_of_term b) (suc (tokens_of_predicate c + tokens_of_term a + tokens_of_term b)) few
        (pred_valid held seen ls typed c q.1 f.0 known rs o (omega (arith, few)) hz) (pointer_valid held seen ls typed a q.2 f.1 more z.used (outside_more ls (length rs) (length z.used) (omega (arith, pred_grows p bound plan c held known rs)) o)
        (omega (arith, few)) hx) (pointer_valid held seen ls typed b q.3 f.2 more x.used (outside_more ls (length rs) (length x.used) (omega (arith, pred_grows p bound plan c held known rs, pointer_grows p bound plan a held more z.used)) o)
        (omega (arith, few)) hy)
        (omega (arith, some_term a)) (omega arith) (omega arith) h
    pointer_valid held seen ls typed (logic.Told at t r e a) q f known rs o few h =
        let c = pointer_code p bound plan a held known rs in
        let v = pointer_valid held seen ls typed a q.1 f known rs o (omega (arith, few)) (begins_front c.used (I32 ∷ Ptr ∷ []) ts h) in
        pointer_more g gs ts result ls (told_pointer c) (tokens_of_term a) (suc (tokens_of_term a)) (omega arith) (told_pointer_valid g gs ts result ls c (tokens_of_term a) (omega (arith, few)) v h)
    pointer_valid held seen ls typed (logic.Named at t r x) q f known rs o few h = held_pointer_valid p bound plan held seen g gs ts result ls x.decl rs typed f
    pointer_valid held seen ls typed (logic.At at t r Here a) q f known rs o few h = pointer_valid held seen ls typed a q.1 f known rs o few h
    pointer_valid held seen ls typed (logic.At at t r Pre a) q f known rs o few h = kept_pointer_valid p bound plan held seen g gs ts result ls a rs f
    pointer_valid held seen ls typed (logic.At at t r (Marked l) a) q f known rs o few h = kept_pointer_valid p bound plan held seen g gs ts result ls a rs f
    pointer_valid held seen ls typed _ q f known rs o few h = absurd f

    place_valid : (held : List Held) (seen : Seen) (ls : Labels) → HeldTyped ts held → (t : LogicTerm) → TermRanged seen t → PlaceWritable p bound plan g ts (sorts_held held) t → (known : List Reading) (rs : Types) → AreOutside ls (length rs)
        → tokens_of_term t ≤ 400 → Begins (place_code p bound plan t held known rs).used ts
        → PointerValid g gs ts result ls (place_code p bound plan t held known rs) (tokens_of_term t)
    place_valid held seen ls typed (logic.Variable at t r x) q f known rs o few h =
        start_valid g gs ts result ls (pointer_to p bound x.decl) rs f (let l = pointer_parens p bound x.decl in omega (arith, l))
    place_valid held seen ls typed (logic.Deref at t r a) q f known rs o few h =
        pointer_more g gs ts result ls (pointer_code p bound plan a held known rs) (tokens_of_term a) (suc (tokens_of_term a)) (omega arith) (pointer_valid held seen ls typed a q.1 f known rs o (omega (arith, few)) h)
    place_valid held seen ls typed (logic.Member at t r d a) q f known rs o few h =
        member_valid g gs ts result ls d (place_code p bound plan a held known rs) (tokens_of_term a) f.0 (omega (arith, few)) (place_valid held seen ls typed a q.1 f.1 known rs o (omega (arith, few)) h)
    place_valid held seen ls typed _ q f known rs o few h = absurd f

    zone_valid : (held : List Held) (seen : Seen) (ls : Labels) → HeldTyped ts held → (z : Zone) → ZoneRanged seen z → ZoneWritable p bound plan g ts (sorts_held held) z → (known : List Reading) (rs : Types) → AreOutside ls (length rs)
        → tokens_of_zone z ≤ 400 → Begins (zone_code p bound plan z held known rs).pointer.used ts
        → ZoneValid g gs ts result ls (zone_code p bound plan z held known rs) (tokens_of_zone z)
    zone_valid held seen ls typed (logic.Object at n m a) q f known rs o few h = object_valid g gs ts result ls n (pointer_code p bound plan a held known rs) (tokens_of_term a) f.0 (pointer_valid held seen ls typed a q f.1 known rs o few h)
    zone_valid held seen ls typed (logic.Elements at n m a lo hi) q f known rs o few h =
        let c = pointer_code p bound plan a held known rs in
        let x = term_code p bound plan lo held known c.used in
        let y = term_code p bound plan hi held known x.used in
        let hx = term_begins ts p bound plan hi held known x.used h in
        let hc = term_begins ts p bound plan lo held known c.used hx in
        elements_valid g gs ts result ls n c (type_of lo) (type_of hi) x y (tokens_of_term a) (tokens_of_term lo) (tokens_of_term hi) f.0 (whole_of p bound plan held seen g gs ts result ls lo) (whole_of p bound plan held seen g gs ts result ls hi)
        (some_term a) (some_term lo) (some_term hi)
        (pointer_valid held seen ls typed a q.1 f.1 known rs o (omega (arith, few)) hc) (anywhere p bound plan held seen g gs ts result ls lo x
        (term_valid held seen ls typed lo q.2 f.2 known c.used (outside_more ls (length rs) (length c.used) (omega (arith, pointer_grows p bound plan a held known rs)) o) (omega (arith, few)) hx))
        (anywhere p bound plan held seen g gs ts result ls hi y (term_valid held seen ls typed hi q.3 f.3 known x.used
        (outside_more ls (length rs) (length x.used) (omega (arith, pointer_grows p bound plan a held known rs, term_grows p bound plan lo held known c.used)) o) (omega (arith, few)) h))

    zones_valid : (held : List Held) (seen : Seen) (ls : Labels) → HeldTyped ts held → (zs : Zones) → ZonesRanged seen zs → ZonesWritable p bound plan g ts (sorts_held held) zs → (known : List Reading) (rs : Types) → AreOutside ls (length rs)
        → tokens_of_zones zs ≤ 400 → Begins (zones_code p bound plan zs held known rs).used ts
        → ZonesValid g gs ts result ls (zones_code p bound plan zs held known rs) (tokens_of_zones zs)
    zones_valid held seen ls typed NoZone q f known rs o few h = none_valid g gs ts result ls rs
    zones_valid held seen ls typed (Another z rest) q f known rs o few h =
        let c = zone_code p bound plan z held known rs in
        let hc = zones_begins ts p bound plan rest held known c.pointer.used h in
        another_valid g gs ts result ls c (zones_code p bound plan rest held known c.pointer.used) (tokens_of_zone z) (tokens_of_zones rest) (zone_valid held seen ls typed z q.0 f.0 known rs o (omega (arith, few)) hc)
        (zones_valid held seen ls typed rest q.1 f.1 known c.pointer.used (outside_more ls (length rs) (length c.pointer.used) (omega (arith, zone_grows p bound plan z held known rs)) o) (omega (arith, few)) h)

    chain_valid : (held : List Held) (seen : Seen) (ls : Labels) → HeldTyped ts held → (t : LogicTerm) (x : Side) (l : Links) (m : ℕ) → LinksRanged seen l → LinksWritable p bound plan g ts (sorts_held held) l → (known : List Reading)
        → AreOutside ls (length (used_by x)) → 1 ≤ m → m + tokens_of_links l ≤ 400 → SideValid p bound plan held seen g gs ts result ls x t m
        → Begins (chain_code p bound plan t x l held known).used ts
        → IsCode p bound plan held seen g gs ts result ls (chain_code p bound plan t x l held known) I32 (m + tokens_of_links l) 4
    chain_valid held seen ls typed t x NoLink m q f known o some few v h = ended_valid p bound plan held seen g gs ts result ls x t m (used_by x) v
    chain_valid held seen ls typed t x (Linked at r u NoLink) m q f known o some few v h =
        let c = pointer_code p bound plan u held known (used_by x) in
        let d = term_code p bound plan u held known (used_by x) in
        let y = side_by (is_pointer_term u) c d in
        let n = tokens_of_term u in
        let hy = related_begins ts r t u x y h in
        let vy = side_made p bound plan held seen g gs ts result ls u c d n (pointer_deep p bound plan u held known (used_by x)) f.0 (λ w b. pointer_valid held seen ls typed u q.0 w known (used_by x) o (omega (arith, few)) b)
        (λ w b. anywhere p bound plan held seen g gs ts result ls u d (term_valid held seen ls typed u q.0 w known (used_by x) o (omega (arith, few)) b)) hy in
        related_is_code p bound plan held seen g gs ts result ls r t u x y m n (m + suc (n + 0)) v vy some (some_term u) (omega arith) few h
    chain_valid held seen ls typed t x (Linked at r u (Linked at2 r2 v rest)) m q f known o some few vx h =
        let c = pointer_code p bound plan u held known (used_by x) in
        let d = term_code p bound plan u held known (used_by x) in
        let y = side_by (is_pointer_term u) c d in
        let more = known ++ (sure_readings_of_term t ++ sure_readings_of_term u) in
        let n = tokens_of_term u in
        let z = related_code r t u x y in
        let start = again y z.used in
        let e = chain_code p bound plan u start (Linked at2 r2 v rest) held more in
        let he = connected_begins ts And z e h in
        let hz = again_begins ts y z.used (chain_begins ts p bound plan u start (Linked at2 r2 v rest) held more he) in
        let hy = related_begins ts r t u x y hz in
        let vy = side_made p bound plan held seen g gs ts result ls u c d n (pointer_deep p bound plan u held known (used_by x)) f.0 (λ w b. pointer_valid held seen ls typed u q.0 w known (used_by x) o (omega (arith, few)) b)
        (λ w b. anywhere p bound plan held seen g gs ts result ls u d (term_valid held seen ls typed u q.0 w known (used_by x) o (omega (arith, few)) b)) hy in
        let l = tokens_of_links (Linked at2 r2 v rest) in
        connected_valid g gs ts result ls And z e (m + suc n) (n + l) (m + suc (n + l)) (related_is_code p bound plan held seen g gs ts result ls r t u x y m n (m + suc n) vx vy some (some_term u) (omega arith) (omega (arith, few)) hz)
        (chain_valid held seen ls typed u start (Linked at2 r2 v rest) n q.1 f.1 more
        (outside_more ls (length (used_by x)) (length (used_by start)) (omega (
          arith,
          again_used y z.used,
          related_grows r t u x y,
          side_grows (is_pointer_term u) c d (used_by x) (pointer_grows p bound plan u held known (used_by x))
              (term_grows p bound plan u held known (used_by x)),
        )) o) (some_term u) (omega (arith, few)) (again_valid p bound plan held seen g gs ts result ls u y z.used n vy) he) (omega (arith, some_term v)) (omega (arith, some))
        (omega (arith, some_term u)) few h

    pred_valid : (held : List Held) (seen : Seen) (ls : Labels) → HeldTyped ts held → (q : Predicate) → PredicateRanged seen q → PredicateWritable p bound plan g ts (sorts_held held) q → (known : List Reading) (rs : Types)
        → AreOutside ls (length rs) → tokens_of_predicate q ≤ 400 → Begins (pred_code p bound plan q held known rs).used ts
        → IsCode p bound plan held seen g gs ts result ls (pred_code p bound plan q held known rs) I32 (tokens_of_predicate q) 4
    pred_valid held seen ls typed (logic.Truth at b) q f known rs o few h = truth_valid g gs ts result ls b rs 4
    pred_valid held seen ls typed (logic.NonZero at t) q f known rs o few h = nonzero_is_code p bound plan held seen g gs ts result ls t (term_code p bound plan t held known rs)
        (anywhere p bound plan held seen g gs ts result ls t (term_code p bound plan t held known rs) (term_valid held seen ls typed t q f known rs o few h))
    pred_valid held seen ls typed (logic.Chain at t links) q f known rs o few h =
        let c = pointer_code p bound plan t held known rs in
        let d = term_code p bound plan t held known rs in
        let x = side_by (is_pointer_term t) c d in
        let n = tokens_of_term t in
        let hx = chain_begins ts p bound plan t x links held known h in
        let vx = side_made p bound plan held seen g gs ts result ls t c d n (pointer_deep p bound plan t held known rs) f.0 (λ w b. pointer_valid held seen ls typed t q.0 w known rs o (omega (arith, few)) b)
        (λ w b. anywhere p bound plan held seen g gs ts result ls t d (term_valid held seen ls typed t q.0 w known rs o (omega (arith, few)) b)) hx in
        chain_valid held seen ls typed t x links n q.1 f.1 known
        (outside_more ls (length rs) (length (used_by x)) (side_grows (is_pointer_term t) c d rs (pointer_grows p bound plan t held known rs) (term_grows p bound plan t held known rs)) o) (some_term t) few vx h
    pred_valid held seen ls typed (logic.Not at a) q f known rs o few h = not_is_code p bound plan held seen g gs ts result ls (pred_code p bound plan a held known rs) (tokens_of_predicate a)
        (pred_valid held seen ls typed a q f known rs o (omega (arith, few)) h)
    pred_valid held seen ls typed (logic.Connected at c a b) q f known rs o few h =
        let x = pred_code p bound plan a held known rs in
        let ks = known_at_right c known a in
        let y = pred_code p bound plan b held ks x.used in
        let hy = connected_begins ts c x y h in
        let hx = pred_begins ts p bound plan b held ks x.used hy in
        connected_valid g gs ts result ls c x y (tokens_of_predicate a) (tokens_of_predicate b) (suc (tokens_of_predicate a + tokens_of_predicate b))
        (pred_valid held seen ls typed a q.0 f.0 known rs o (omega (arith, few)) hx) (pred_valid held seen ls typed b q.1 f.1 ks x.used (outside_more ls (length rs) (length x.used) (omega (arith, pred_grows p bound plan a held known rs)) o)
        (omega (arith, few)) hy) (omega arith) (omega arith)
        (some_tokens b) few h
    pred_valid held seen ls typed (logic.Branch at c a b) q f known rs o few h =
        let more = known ++ sure_readings c in
        let z = pred_code p bound plan c held known rs in
        let x = pred_code p bound plan a held more z.used in
        let y = pred_code p bound plan b held more x.used in
        let hy = begins_front y.used (I32 ∷ I32 ∷ []) ts h in
        let hx = pred_begins ts p bound plan b held more x.used hy in
        let hz = pred_begins ts p bound plan a held more z.used hx in
        branch_valid g gs ts result ls I32 z x y (tokens_of_predicate c) (tokens_of_predicate a) (tokens_of_predicate b) (suc (tokens_of_predicate c + tokens_of_predicate a + tokens_of_predicate b)) 4
        (pred_valid held seen ls typed c q.0 f.0 known rs o (omega (arith, few)) hz) (pred_valid held seen ls typed a q.1 f.1 more z.used (outside_more ls (length rs) (length z.used) (omega (arith, pred_grows p bound plan c held known rs)) o)
        (omega (arith, few)) hx)
        (pred_valid held seen ls typed b q.2 f.2 more x.used (outside_more ls (length rs) (length x.used) (omega (arith, pred_grows p bound plan c held known rs, pred_grows p bound plan a held more z.used)) o) (omega (arith, few)) hy)
        (omega (arith, some_tokens a)) (omega arith) (omega arith) (some_tokens a) few h
    pred_valid held seen ls typed (logic.Asks at e z) q f known rs o few h =
        let c = zone_code p bound plan z held known rs in
        let v = zone_valid held seen ls typed z q f known rs o (omega (arith, few)) (begins_front c.pointer.used (I32 ∷ []) ts h) in
        zone_asked_valid g gs ts result ls e (alignment_of z) c (tokens_of_zone z) (omega (arith, few)) v h (pred_deep p bound plan (logic.Asks at e z) held known rs)
    pred_valid held seen ls typed (logic.Separated at zs) q f known rs o few h =
        let c = zones_code p bound plan zs held known rs in
        let v = zones_valid held seen ls typed zs q f known rs o (omega (arith, few)) (begins_front c.used (I32 ∷ I32 ∷ []) ts h) in
        separated_valid g gs ts result ls c (tokens_of_zones zs) (omega (arith, few)) v h (pred_deep p bound plan (logic.Separated at zs) held known rs)
    pred_valid held seen ls typed (logic.Quantified at q guards e) z f known rs o few h =
        more_valid g gs ts result ls (guards_code p bound plan q guards (pred_code p bound plan e) held known rs) (tokens_of_guards guards + tokens_of_predicate e) (suc (tokens_of_guards guards + tokens_of_predicate e)) (omega arith)
        (guards_valid q guards e (λ held seen ls typed z f known rs o h. pred_valid held seen ls typed e z f known rs o (omega (arith, few)) h) held seen ls typed z f known rs o (omega (arith, few)) h)

    -- what stands within guards is valid wherever the names have registers
    guards_valid : (q : Quantifier) (guards : Guards) (e : Predicate)
        → ((held : List Held) (seen : Seen) (ls : Labels) → HeldTyped ts held → PredicateRanged seen e → PredicateWritable p bound plan g ts (sorts_held held) e → (known : List Reading) (rs : Types) → AreOutside ls (length rs)
        → Begins (pred_code p bound plan e held known rs).used ts → Valid g gs ts result ls (pred_code p bound plan e held known rs) I32 (tokens_of_predicate e) 4)
        → (held : List Held) (seen : Seen) (ls : Labels) → HeldTyped ts held → GuardsRanged seen guards (λ seen. PredicateRanged seen e) → GuardsWritable p bound plan g ts (sorts_held held) guards (λ ns. PredicateWritable p bound plan g ts ns e)
        → (known : List Reading) (rs : Types) → AreOutside ls (length rs) → tokens_of_guards guards + tokens_of_predicate e ≤ 400 → Begins (guards_code p bound plan q guards (pred_code p bound plan e) held known rs).used ts
        → Valid g gs ts result ls (guards_code p bound plan q guards (pred_code p bound plan e) held known rs) I32 (tokens_of_guards guards + tokens_of_predicate e) 4
    guards_valid q NoGuard e inside held seen ls typed z f known rs o few h =
        more_valid g gs ts result ls (pred_code p bound plan e held known rs) (tokens_of_predicate e) (tokens_of_guards NoGuard + tokens_of_predicate e) (omega arith) (inside held seen ls typed z f known rs o h)
    guards_valid q (Guarded a y ys below b rest) e inside held seen ls typed z f known rs o few h =
        let inner = pred_code p bound plan e in
        let u = term_code p bound plan a held known rs in
        let v = term_code p bound plan b held known u.used in
        let wide = wider (width_of a) (width_of b) in
        let k = type_of_width wide in
        let more = known ++ (sure_readings_of_term a ++ sure_readings_of_term b) in
        let least = (range_of a).lo in
        let most = lowered below (range_of b).hi in
        let from = in_type (type_of a) k u.value in
        let to = in_type (type_of b) k v.value in
        let within = λ (names : List Held) (js : Types). guards_code p bound plan q rest inner names more js in
        let c = bounded_code q below k from to least most (y ∷ ys) within held v.used in
        let ta = tokens_of_term a in
        let tb = tokens_of_term b in
        let n = tokens_of_guards rest + tokens_of_predicate e in
        let na = length ys + suc (length ys) + ta + tb + n in
        let grows_a = term_grows p bound plan a held known rs in
        let grows_b = term_grows p bound plan b held known u.used in
        let hc = begins_front c.used (I32 ∷ I32 ∷ []) ts h in
        let hv = bounded_begins ts q below k from to least most (y ∷ ys) within held v.used (λ names js b. guards_begins ts p bound plan q rest inner names more js (λ names known js b. pred_begins ts p bound plan e names known js b) b) hc in
        let hu = term_begins ts p bound plan b held known u.used hv in
        let some_a = some_term a in
        let some_b = some_term b in
        let some_e = some_tokens e in
        let ou = outside_more ls (length rs) (length u.used) (omega (arith, grows_a)) o in
        let ov = outside_more ls (length rs) (length v.used) (omega (arith, grows_a, grows_b)) o in
        let va = anywhere p bound plan held seen g gs ts result ls a u (term_valid held seen ls typed a z.0 f.0 known rs o (omega (arith, few)) hu) in
        let vb = anywhere p bound plan held seen g gs ts result ls b v (term_valid held seen ls typed b z.1 f.1 known u.used ou (omega (arith, few)) hv) in
        let pa = in_type_parens (type_of a) k u.value (3 * ta + 1) (omega arith) (omega (arith, va.parens)) in
        let pb = in_type_parens (type_of b) k v.value (3 * tb + 1) (omega arith) (omega (arith, vb.parens)) in
        let w = bounded_written g gs ts result na (3 * na + 2) (omega (arith, some_a)) (omega arith) (omega (arith, few)) counted (range_of a) (range_of b) q most (lowered_less below (range_of b).hi) within
        (λ ns. GuardsWritable p bound plan g ts ns rest (λ ns. PredicateWritable p bound plan g ts ns e))
        (λ ls names js out typed f h.
        let x = guards_valid q rest e inside names (seen_binders least (y ∷ ys) most seen) ls typed z.3 f more js out (omega (arith, few)) h in
        let d = within names js in record {
          statements = x.statements;
          opened = omega (arith, x.opened);
          flag = flag_more g gs ts result ls d.flag n na (omega arith) x.flag;
          typed = x.typed;
          parens = omega (arith, x.parens);
        })
        (λ names js. guards_inside p bound plan q rest inner names more js (λ names known js. pred_inside p bound plan e names known js))
        (λ names js. guards_grows p bound plan q rest inner names more js (λ names known js. pred_grows p bound plan e names known js))
        (λ names js b. guards_begins ts p bound plan q rest inner names more js (λ names known js b. pred_begins ts p bound plan e names known js b) b)
        below from to least (y ∷ ys) ls held v.used (omega (arith, ints))
        (record { typed = in_type_typed g ts (type_of a) k u.value (whole_width (width_of a)) (whole_width wide) va.typed; parens = omega (arith, pa, some_e) })
        (record { typed = in_type_typed g ts (type_of b) k v.value (whole_width (width_of b)) (whole_width wide) vb.typed; parens = omega (arith, pb, some_e) }) ov typed f.2 hc in
        let d = bounded_deep q below k from to least most (y ∷ ys) within held v.used (suc (n + n)) (omega (arith, some_e))
        (λ names js. let x = guards_deep p bound plan q rest inner (tokens_of_predicate e) some_e names more js (λ names known js. pred_deep p bound plan e names known js) in omega (arith, x)) in
        branch_valid g gs ts result ls I32 (relation_code (bounds_relation below) a b u v) c (truth_code (undecided q) c.used) (ta + suc tb) na 1 (2 * suc (length ys) + ta + tb + tokens_of_guards rest + tokens_of_predicate e) 4
        (relation_is_code p bound plan held seen g gs ts result ls (bounds_relation below) a b u v ta tb (ta + suc tb) va vb some_a some_b (omega arith))
        (record { statements = w.statements; deep = omega (arith, d, some_a, some_b); opened = w.opened; flag = w.flag; typed = w.typed; parens = omega (arith, w.parens) })
        (truth_valid g gs ts result ls (undecided q) c.used 4) (omega (arith, some_e)) (omega arith) (omega (arith, some_a, some_b)) (omega (arith, some_a)) few h

-- ---- the flag and the truth in registers

module _ (p : TranslationUnit) (bound : Bindings) (plan : List Kept) (held : List Held) (seen : Seen) (g : ℕ) (gs : List Signature) (ts : Types) (result : Option MonType) (ls : Labels) where
  by_valid : (a : MonStatements) (f : ℕ) (e : MonExpression) (rs : Types) (n : ℕ) → n ≤ 1300 → AreStatements g gs ts result ls a → depth_of_all a ≤ 1300 → open_in_all a ≤ 1300 → slice_get ts f ≡ Some I32 → HasType g ts e I32
      → open_parens e ≤ n → Begins (rs ++ I32 ∷ []) ts
      → IsValidCode g gs ts result ls (judged_by a f e rs)
  by_valid a f e rs n few h d o at typed parens b =
      let at2 = type_at rs ts I32 b in
      let on = set (length rs) e in
      let off = set (length rs) (Constant I32 (pos 0)) in record {
        statements =
            before_valid g gs ts result ls a (one (If (Register f) on off)) h (
              (
                register_valid g gs ts result ls f I32 at,
                set_valid g gs ts result ls (length rs) e I32 at2 (expression g gs ts result ls e I32 n typed parens (omega (arith, few))),
                set_valid g gs ts result ls (length rs) (Constant I32 (pos 0)) I32 at2 (number_valid g gs ts result ls (pos 0) (refl, refl)),
              ),
              tt,
            );
        deep = deep_before a (one (If (Register f) on off)) 1300 d (let l = deep_if (Register f) on off 1 (omega arith) (omega arith) in omega (arith, l));
        parens =
            open_before a (one (If (Register f) on off)) 1300 o
            (open_if (Register f) on off 1300 (omega arith) (open_one e (length rs) 1300 (omega (arith, parens, few))) (open_one (Constant I32 (pos 0)) (length rs) 1300 (omega arith)));
        flag_type = at;
        truth_type = at2;
      }

  module _ (c : Code) (n : ℕ) (few : n ≤ 400) (v : IsCode p bound plan held seen g gs ts result ls c I32 n 4) where
    anew_valid : (e : MonExpression) → HasType g ts e I32 → open_parens e ≤ 1300 → Begins ((c.used ++ I32 ∷ []) ++ I32 ∷ []) ts → IsValidCode g gs ts result ls (judged_anew e c)
    anew_valid e typed parens b =
        let first = begins_front (c.used ++ I32 ∷ []) (I32 ∷ []) ts b in
        let at = type_at c.used ts I32 first in
        by_valid (before c.stmts (set (length c.used) e)) (length c.used) c.value (c.used ++ I32 ∷ []) (3 * n + 2) (omega (arith, few))
        (before_valid g gs ts result ls c.stmts (set (length c.used) e) v.statements (set_valid g gs ts result ls (length c.used) e I32 at (expression g gs ts result ls e I32 1300 typed parens (omega arith))))
        (deep_before c.stmts (set (length c.used) e) 1300 (omega (arith, v.deep, few)) (omega arith))
        (open_before c.stmts (set (length c.used) e) 1300 (omega (arith, v.opened, few)) (open_one e (length c.used) 1300 parens)) at v.typed (omega (arith, v.parens)) b

    flagged : (f : Option MonExpression) → FlagValid g gs ts result ls f n → Begins (judged_with f c).used ts → IsValidCode g gs ts result ls (judged_with f c)
    flagged None h b = anew_valid (Constant I32 (pos 1)) (refl, refl) (omega arith) b
    flagged (Some (Register f)) h b = by_valid c.stmts f c.value c.used (3 * n + 2) (omega (arith, few)) v.statements (omega (arith, v.deep, few)) (omega (arith, v.opened, few)) h.0 v.typed (omega (arith, v.parens)) b
    flagged (Some (Global x)) h b = let l = h.1 in anew_valid (Global x) h.0 (omega (arith, few, l)) b
    flagged (Some (Constant t z)) h b = let l = h.1 in anew_valid (Constant t z) h.0 (omega (arith, few, l)) b
    flagged (Some (Binary op t x y)) h b = let l = h.1 in anew_valid (Binary op t x y) h.0 (omega (arith, few, l)) b
    flagged (Some (Minus t x)) h b = let l = h.1 in anew_valid (Minus t x) h.0 (omega (arith, few, l)) b
    flagged (Some (Flip t x)) h b = let l = h.1 in anew_valid (Flip t x) h.0 (omega (arith, few, l)) b
    flagged (Some (Cast t x)) h b = let l = h.1 in anew_valid (Cast t x) h.0 (omega (arith, few, l)) b
    flagged (Some (Load t x)) h b = let l = h.1 in anew_valid (Load t x) h.0 (omega (arith, few, l)) b

pub code_is_valid : CodeIsValid
code_is_valid p bound plan held seen g gs ts result ls q rs ranged counted typed out writable few b =
    let c = pred_code p bound plan q held [] rs in
    let v = pred_valid p bound plan g gs ts result counted held seen ls typed q ranged writable [] rs out few (judged_begins ts c.flag c b) in
    flagged p bound plan held seen g gs ts result ls c (tokens_of_predicate q) few v c.flag v.flag b

-- ---- the code of a term

pub values_are_valid : ValuesAreValid
values_are_valid p bound plan held seen g gs ts result ls t rs ranged counted typed out writable few b =
    let c = term_code p bound plan t held [] rs in
    let inner = begins_front c.used (I32 ∷ type_of t ∷ []) ts b in
    let some = some_term t in
    let v = settled_is_code p bound plan held seen g gs ts result ls (type_of t) c (tokens_of_term t) some few
    (anywhere p bound plan held seen g gs ts result ls t c (term_valid p bound plan g gs ts result counted held seen ls typed t ranged writable [] rs out few inner)) b in
    record {
      statements = v.statements;
      deep = omega (arith, v.deep, few);
      parens = omega (arith, v.opened, few);
      flag_type = first_type c.used ts I32 (type_of t) b;
      value_type = second_type_at c.used ts I32 (type_of t) b;
    }
