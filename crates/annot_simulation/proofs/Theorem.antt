-- The code of every predicate judges it.
use Rattle.std.proofs.Common.{◌≡◌, ℕ, suc, ◌<◌, ◌≤◌, ℤ, pos, Bool, true, false, ◌&&◌, List, [], ◌∷◌, ◌++◌, length, length-append, slice_get, slice_set, Option, Some, None, refl, sym, ap, ◌∙◌, subst, arith}
use Rattle.c_syntax.specs.declared.annotation.Relation.{Relation}
use Rattle.c_syntax.specs.declared.annotation.Relation.TheVariants.{Ne}
use Rattle.c_syntax.specs.declared.annotation.Range.{Range}
use Rattle.c_syntax.specs.declared.expression.BinOp.{BinOp}
use Rattle.c_syntax.specs.Ctypes.{PlainType}
use Rattle.c_syntax.specs.declared.logic.Connective.{Connective}
use Rattle.c_syntax.specs.declared.logic.Connective.TheVariants.{And, Xor, Or, Implies, Iff}
use Rattle.c_syntax.specs.declared.place.Place.{Place}
use Rattle.c_syntax.specs.declared.logic.Quantifier.{Quantifier}
use Rattle.c_syntax.specs.Logic.{LogicTerm, Links, NoLink, Linked, Predicate, Guards, NoGuard, Guarded, range_of}
use Rattle.c_syntax.specs.Logic as logic
use Rattle.c_model.specs.Integers.{truth}
use Rattle.c_model.specs.Logic.{Environment, Mathematical, Answer, Says, SaysNothing, OutOfSteps, related, relates, said}
use Rattle.c_model.specs.QuietPredicates.{IsQuiet}
use Rattle.c_model.proofs.Along.{steps_of, steps_guarded, steps_pred}
use Rattle.interval_infer.specs.Terms.{NamesFit, StateFits}
use Rattle.c_model.specs.Memory.{Value, Integer}
use Rattle.c_model.specs.Predicates.{term, chain, pred, guarded}
use Rattle.c_model.specs.Ranges.{width_of_range}
use Rattle.c_model.specs.TermRanges.{Seen, TermRanged, LinksRanged, PredicateRanged, GuardsRanged, lowered}
use Rattle.mon_syntax.specs.declared.tree.MonType.{MonType}
use Rattle.mon_syntax.specs.declared.tree.MonType.TheVariants.{I32}
use Rattle.mon_syntax.specs.declared.tree.MonOp.TheVariants as mon
use Rattle.mon_syntax.specs.Arithmetic.{operate}
use Rattle.mon_syntax.specs.BlockMemory.{is_some}
use Rattle.mon_syntax.specs.Meaning.{Done, Next}
use Rattle.mon_syntax.specs.Trees.{MonExpression, Register, Global, Constant, Binary, Minus, Flip, Cast, Load, If, MonStatements}
use Rattle.c_effects.specs.Expressions.{before, one, set}
use Rattle.std.proofs.Common.{option_map}
use Rattle.std.proofs.lemmas.Int.{ints}
use Rattle.c_syntax.specs.declared.expression.Use.{Use}
use Rattle.c_syntax.specs.declared.logic.BlockFact.TheVariants.{BaseAddr, BlockLength, Offset}
use Rattle.c_syntax.specs.declared.types.Width.TheVariants.{W64, W128}
use Rattle.c_syntax.specs.Ctypes as ctype
use Rattle.c_syntax.specs.Formulas.{Integers, OfC}
use Rattle.c_syntax.specs.Logic.{Zone, Zones, NoZone, Another}
use Rattle.c_model.specs.Logic.{TermValue, Addressed, as_address, addressed, held_at, told, elements_apart, difference, all_apart, asks as asks_of}
use Rattle.c_model.specs.Memory.{Null, Into}
use Rattle.c_model.specs.MemoryQuestions.{Address, address_of, null_address, address_farther, has_pointer}
use Rattle.c_model.specs.Predicates.{place, zone, zones, alignment_of, in_type as typed_value}
use Rattle.c_model.specs.State.{Scope, find, start_of}
use Rattle.c_model.specs.TermRanges.{ZoneRanged, ZonesRanged, offset_range, held_range, member_range, address_range, cast_range}
use Rattle.mon_syntax.specs.declared.tree.MonType.TheVariants.{I64, I128, Ptr}
use Rattle.mon_syntax.specs.Arithmetic.{wrap, access_bytes}
use Rattle.c_effects.specs.Expressions.{in_type, pointer_to, register_type}
use Rattle.mem_preds.specs.Questions.{size_of, type_of_fact}
use Rattle.c_syntax.specs.declared.logic.Label.TheVariants.{Here, Pre, Marked}
use Rattle.c_simulation.specs.Keeping.{Kept}
use Rattle.annot_simulation.specs.Binders.{bounded_code}
use Rattle.annot_simulation.specs.Held.{Held, Sorted, sorts_held}
use Rattle.annot_simulation.specs.Pieces.{term_type}
use Rattle.annot_simulation.specs.Pointers.{PointerCode, start_pointer, null, member_code, moved_code, branch_pointer, number_read, pointer_read, pointer_known, pointer_there, told_pointer, difference_code, elements_code, zone_asked, separated_code}
use Rattle.annot_simulation.specs.Code.{is_known, Side, OfNumber, OfPointer, used_by, side_by, again, related_code, is_pointer_term, pointer_code, place_code, zone_code, zones_code}
use Rattle.annot_simulation.specs.Does.{HasIntegers, HasPointers, found_by, PointerFound, PlaceFound, ZoneFound, ZonesFound, SideFound}
use Rattle.annot_simulation.proofs.Held.{held_codes, held_pointer_codes, kept_codes, kept_pointer_codes, number_in, stands_sorted}
use Rattle.annot_simulation.proofs.Addresses.{PointerCodes, start_codes, zero_lies, member_codes, moved_codes, moved_is}
use Rattle.annot_simulation.proofs.Asked.{number_read_codes, pointer_read_codes, pointer_known_codes}
use Rattle.annot_simulation.proofs.Compared.{BothPointers, both_pointers, of_both}
use Rattle.annot_simulation.proofs.Distances.{difference_codes}
use Rattle.annot_simulation.proofs.Facts.{told_number_codes, told_pointer_codes}
use Rattle.annot_simulation.proofs.PointerChoices.{branch_pointer_codes}
use Rattle.annot_simulation.proofs.Sides.{relation_there, relation_truth, SideCodes, IsSide, side_made, again_side, both_sides, related_codes}
use Rattle.annot_simulation.proofs.Zones.{ZoneCodes, object_codes, elements_codes, elements_is, asked_codes, ZonesCodes, no_zones_codes, another_codes, separated_codes}
use Rattle.annot_simulation.proofs.Variables.{is_held, known_is_read, related_there}
use Rattle.annot_simulation.proofs.Grows.{bounded_grows, guards_grows, pointer_grows, place_grows, zone_grows, zones_grows, there_grows, related_grows, side_grows, again_used}
use Rattle.annot_simulation.proofs.Exact.{value_of, Fits, wrap_in, fits_right}
use Rattle.annot_simulation.specs.Code.{Reading}
use Rattle.annot_simulation.specs.Code.{Code, Judgement, with_value as code_with_value, type_of_width, type_of, width_of, connected as connected_code, term_code, chain_code, pred_code, sure_readings}
use Rattle.annot_simulation.specs.Code.{sure_readings_of_term, known_at_right, truth_code, wider, guards_code}
use Rattle.annot_simulation.specs.Code.{working, is_total, binary_value}
use Rattle.annot_simulation.specs.Does.{Setting, with_steps, runs, Stands, RangesHold, TermFound, LinksFound, PredicateFound, GuardsFound}
use Rattle.c_simulation.specs.SameRegisters.{Same}
use Rattle.annot_simulation.proofs.Steps.{same_all, same_less, same_trans, same_set, get-set_same, after_runs, HasNumber, constant_has, operation, set_runs, if_true, if_false}
use Rattle.annot_simulation.proofs.Parts.{truths, chosen, Codes, both_run, changed, sure_codes, settled_runs}
use Rattle.annot_simulation.proofs.Exact.{is_number}
use Rattle.annot_simulation.proofs.Quiet.{says, said_by, relation_says, related_quiet, chain_quiet, chain_says, choice_address, pred_quiet}
use Rattle.annot_simulation.proofs.Variables.{AllRead, read-append, some_same, relation_read, pred_read, known_right, known_strict}
use Rattle.annot_simulation.proofs.Grows.{longer, operated_grows, term_grows, chain_grows, pred_grows, connected_grows}
use Rattle.annot_simulation.proofs.Connected.{connected_runs}
use Rattle.annot_simulation.proofs.Told.{Told, branch_told, codes_of, connected_told, denied_told, told_of}
use Rattle.annot_simulation.proofs.Binders.{moved}
use Rattle.annot_simulation.proofs.Bounds.{bounds_told}
use Rattle.annot_simulation.proofs.Terms.{value, term_lies, term_fits, number_codes, variable_codes, unary_codes, binary_codes, cast_codes, choice_codes}

-- ---- truths

truths_there : (u : Option Bool) → is_some (truths u) ≡ is_some u
truths_there None = refl
truths_there (Some b) = refl

-- ---- pointers and places

alignment_is : (ks : List Kept) (scope : Scope) (ns : Sorted) (z : Zone) → ZoneFound ks scope ns z → access_bytes (size_of (alignment_of z)) ≡ alignment_of z
alignment_is ks scope ns (logic.Object at n m a) f = f.0
alignment_is ks scope ns (logic.Elements at n m a lo hi) f = f.0

address_back : (o : Option Address) → as_address (addressed o) ≡ o
address_back None = refl
address_back (Some x) = refl

cast_keeps : (to u : PlainType) → to ≡ ctype.Ptr u → (o : Option TermValue) → as_address o ≡ as_address (typed_value to o)
cast_keeps to u e o = by o ∙ ap (λ k. as_address (typed_value k o)) (sym e)
  where
    by : (o : Option TermValue) → as_address o ≡ as_address (typed_value (ctype.Ptr u) o)
    by None = refl
    by (Some (Mathematical z)) = refl
    by (Some (Addressed x)) = refl

-- the range of a member's address
address_parts : (d : ℕ) (o : Option Range) (r : Range) → member_range d o ≡ Some r → (a : Range) × (o ≡ Some a) × (member_range d (Some a) ≡ Some r)
address_parts d None r e = absurd cc
address_parts d (Some a) r e = (a, refl, e)

member_parts : (t : Option PlainType) (d : ℕ) (o : Option Range) (r : Range) → held_range t (member_range d o) ≡ Some r
    → (a : Range) × (m : Range) × (o ≡ Some a) × (member_range d (Some a) ≡ Some m) × (held_range t (Some m) ≡ Some r)
member_parts t d None r e = absurd cc
member_parts t d (Some a) r e = by (member_range d (Some a)) refl e
  where
    by : (p : Option Range) → member_range d (Some a) ≡ p → held_range t p ≡ Some r → (b : Range) × (m : Range) × (Some a ≡ Some b) × (member_range d (Some b) ≡ Some m) × (held_range t (Some m) ≡ Some r)
    by None q f = absurd cc
    by (Some m) q f = (a, m, refl, q, f)

-- the sort of a side
side_found : (w : Setting) (x : Side) (t : LogicTerm) → IsSide w x t → SideFound w.plan w.now.scope (sorts_held w.held) t
side_found w (OfNumber c) t f = subst (λ m. found_by m (PointerFound w.plan w.now.scope (sorts_held w.held) t) (TermFound w.plan w.now.scope (sorts_held w.held) t)) (sym f.0) f.1
side_found w (OfPointer c) t f = subst (λ m. found_by m (PointerFound w.plan w.now.scope (sorts_held w.held) t) (TermFound w.plan w.now.scope (sorts_held w.held) t)) (sym f.0) f.1

-- what is known where code runs
pub record Ready (w : Setting) (rs : List MonType) (regs : List Value) : Type 0 where
  pub low : w.low ≤ length rs
  pub near : Same w.low w.regs regs

ready_after : (w : Setting) (rs js : List MonType) (regs mid : List Value) → length rs ≤ length js → Ready w rs regs → Same (length rs) regs mid → Ready w js mid
ready_after w rs js regs mid le r s = record { low = omega (arith, r.low, le); near = same_trans w.low (length rs) w.regs regs mid r.low r.near s }

abbrev tcode : Setting → LogicTerm → List Reading → List MonType → Code
tcode w t known rs = term_code w.unit w.bound w.plan t w.held known rs

abbrev pcode : Setting → Predicate → List Reading → List MonType → Code
pcode w q known rs = pred_code w.unit w.bound w.plan q w.held known rs

abbrev lcode : Setting → LogicTerm → List Reading → List MonType → PointerCode
lcode w t known rs = pointer_code w.unit w.bound w.plan t w.held known rs

module _ (w : Setting) (stands : Stands w) (ranges : RangesHold w.seen w.now w.names) where
  abbrev val : LogicTerm → Option ℤ
  val = value w stands ranges

  -- ---- relations and chains

  nonzero_codes : (t : LogicTerm) → TermRanged w.seen t → TermFound w.plan w.now.scope (sorts_held w.held) t → (c : Code) (rs : List MonType) (regs : List Value) → Codes w c (val t) rs regs
      → Codes w (code_with_value (Binary mon.Ne (type_of t) c.value (Constant (type_of t) (pos 0))) c) (truths (said_by (related w.now.store Ne (term t w.now w.names) (Some (Mathematical (pos 0))) 0))) rs regs
  nonzero_codes t q f c rs regs h =
      changed w c (Binary mon.Ne (type_of t) c.value (Constant (type_of t) (pos 0))) (val t) (truths (said_by (related w.now.store Ne (term t w.now w.names) (Some (Mathematical (pos 0))) 0))) rs regs h
      (ap (λ o. is_some (truths o)) (relation_says w.now.store Ne (term t w.now w.names) (Some (Mathematical (pos 0))) (number_in w stands t f) (λ y q. cc))
      ∙ relation_there (val t) (Some (pos 0)) (relates Ne) ∙ and_true (is_some (val t)))
      (λ later has z e.
      let i = relation_truth (val t) (Some (pos 0)) (relates Ne) z (sym (ap truths (relation_says w.now.store Ne (term t w.now w.names) (Some (Mathematical (pos 0))) (number_in w stands t f) (λ y q. cc))) ∙ e) in
      let zero_is : i.1 ≡ pos 0 = some_same i.1 (pos 0) (sym i.3) in
      operation w mon.Ne (type_of t) c.value (Constant (type_of t) (pos 0)) later i.0 (pos 0) z (is_number (width_of t)) (has i.0 i.2) (constant_has w (type_of t) (pos 0) later (is_number (width_of t)))
      (ap (λ y. Some (truth (relates Ne i.0 y))) (sym zero_is) ∙ ap Some i.4))
    where
      and_true : (b : Bool) → (b && true) ≡ b
      and_true true = refl
      and_true false = refl

  lazy_last : (u : Option Bool) → chosen u (Some true) (Some false) ≡ u
  lazy_last None = refl
  lazy_last (Some true) = refl
  lazy_last (Some false) = refl

  -- the last relation of a chain
  last_says : (r : Relation) (t u : LogicTerm) (at : Place) → said_by (chain (term t w.now w.names) (Linked at r u NoLink) w.now w.names 0) ≡ said_by (related w.now.store r (term t w.now w.names) (term u w.now w.names) 0)
  last_says r t u at = chain_says r (term t w.now w.names) u NoLink w.now w.names ∙ lazy_last (said_by (related w.now.store r (term t w.now w.names) (term u w.now w.names) 0))

  -- how many registers the operands of an operator take
  term_room : (at : Place) (t : Option PlainType) (r : Range) (op : BinOp) (a b : LogicTerm) (known : List Reading) (rs : List MonType)
      → length (tcode w b known (tcode w a known rs).used).used ≤ length (tcode w (logic.Binary at t r op a b) known rs).used
  term_room at t r op a b known rs =
      let x = tcode w a known rs in
      let y = tcode w b known x.used in
      operated_grows (is_total op (range_of b)) op (type_of_width (width_of_range r)) (type_of_width (working op (width_of_range r) (width_of a) (width_of b))) (type_of b) x y
      (binary_value op (type_of_width (width_of_range r)) (type_of_width (working op (width_of_range r) (width_of a) (width_of b))) (type_of a) (type_of b) (range_of b) x.value y.value)

  -- a number, in 128 bits
  wide : (t : LogicTerm) → TermFound w.plan w.now.scope (sorts_held w.held) t → TermRanged w.seen t → (z : ℤ) → val t ≡ Some z → wrap I128 z ≡ z
  wide t f q z e = wrap_in W128 z (fits_right W128 (width_of t) z (term_fits w stands ranges t f q z e))

  -- ---- places

  variable_place : (x : Use) → (number : ℕ) → find x.decl w.now.scope ≡ Some number → (rs : List MonType) (regs : List Value) → w.low ≤ length rs → Same w.low w.regs regs
      → PointerCodes w (start_pointer (pointer_to w.unit w.bound x.decl) rs) (option_map address_of (start_of (find x.decl w.now.scope))) offset_range rs regs
  variable_place x number found rs regs le near =
      start_codes w (pointer_to w.unit w.bound x.decl) (Into number 0) (option_map address_of (start_of (find x.decl w.now.scope))) offset_range rs regs (ap (λ o. option_map address_of (start_of o)) found) (omega arith)
      (record { above = omega (arith, ints); below = omega (arith, ints) }) (λ later s. stands.points x.decl number found later (same_trans w.low (length rs) w.regs regs later le near s))

  -- what a place of pointers or an array holds
  there_codes : (known : Bool) (t : Option PlainType) → HasPointers t → (r : Range) (o : Option Address) (c : PointerCode) (a : Range) → held_range t (Some a) ≡ Some r → (rs : List MonType) (regs : List Value) → length rs ≤ length c.used
      → length (pointer_there known t c).used ≤ length regs → (known ≡ true → (u : PlainType) → t ≡ Some (ctype.Ptr u) → (x : Address) × (o ≡ Some x) × (has_pointer w.now.store x ≡ true))
      → PointerCodes w c o a rs regs → PointerCodes w (pointer_there known t c) (as_address (held_at w.now.store t o)) r rs regs
  there_codes false (Some (ctype.Ptr u)) p r o c a e rs regs le room k h =
      subst (λ r. PointerCodes w (pointer_read c) (as_address (held_at w.now.store (Some (ctype.Ptr u)) o)) r rs regs) (some_same offset_range r e) (pointer_read_codes w stands.store_is stands.sound u c a rs regs le room o h)
  there_codes true (Some (ctype.Ptr u)) p r o c a e rs regs le room k h =
      let i = k refl u refl in
      subst (λ o. PointerCodes w (pointer_known c) (as_address (held_at w.now.store (Some (ctype.Ptr u)) o)) r rs regs) (sym i.1)
      (subst (λ r. PointerCodes w (pointer_known c) (as_address (held_at w.now.store (Some (ctype.Ptr u)) (Some i.0))) r rs regs) (some_same offset_range r e)
      (pointer_known_codes w stands.store_is stands.sound u c a rs regs le i.0 i.2 room (subst (λ o. PointerCodes w c o a rs regs) i.1 h)))
  there_codes known (Some (ctype.Array u n)) p r o c a e rs regs le room k h =
      subst (λ y. PointerCodes w c y r rs regs) (by o) (subst (λ r. PointerCodes w c o r rs regs) (some_same a r e) h)
    where
      by : (o : Option Address) → o ≡ as_address (held_at w.now.store (Some (ctype.Array u n)) o)
      by None = refl
      by (Some x) = refl
  there_codes known None p r o c a e rs regs le room k h = absurd p
  there_codes known (Some (ctype.Int i)) p r o c a e rs regs le room k h = absurd p
  there_codes known (Some (ctype.Struct n)) p r o c a e rs regs le room k h = absurd p
  there_codes known (Some ctype.Void) p r o c a e rs regs le room k h = absurd p
  there_codes known (Some (ctype.Named x)) p r o c a e rs regs le room k h = absurd p
  there_codes known (Some (ctype.StructTag x tag)) p r o c a e rs regs le room k h = absurd p
  there_codes known (Some (ctype.EnumTag x at)) p r o c a e rs regs le room k h = absurd p

  -- a variable of pointers that is known to hold one
  known_place : (known : List Reading) → AllRead w.now known → (t : Option PlainType) (x number : ℕ) → find x w.now.scope ≡ Some number → is_known known (record { decl = x; kind = term_type t }) ≡ true
      → (u : PlainType) → t ≡ Some (ctype.Ptr u) → (a : Address) × (option_map address_of (start_of (find x w.now.scope)) ≡ Some a) × (has_pointer w.now.store a ≡ true)
  known_place known all t x number found is u e =
      let h = known_is_read w.now known (record { decl = x; kind = term_type t }) all is in (
        address_of (Into h.number 0),
        ap (λ o. option_map address_of (start_of o)) h.found,
        sym (ap (λ t. is_held w.now.store (term_type t) h.number) e) ∙ h.holds,
      )

  -- a number that is read at a place
  read_codes : (whole : LogicTerm) → TermFound w.plan w.now.scope (sorts_held w.held) whole → TermRanged w.seen whole → (t : Option PlainType) → HasIntegers t → (o : Option Address) → term whole w.now w.names ≡ held_at w.now.store t o
      → (c : PointerCode) (a : Range) (rs : List MonType) (regs : List Value) → length rs ≤ length c.used → length (c.used ++ I32 ∷ []) ≤ length regs → PointerCodes w c o a rs regs
      → Codes w (number_read (type_of_width (width_of whole)) (term_type t) c) (val whole) rs regs
  read_codes whole f q t int o is c a rs regs le room h =
      subst (λ u. Codes w (number_read (type_of_width (width_of whole)) (term_type u) c) (val whole) rs regs) (sym int.1)
      (subst (λ v. Codes w (number_read (type_of_width (width_of whole)) (register_type int.0) c) v rs regs) (sym there)
      (number_read_codes w stands.store_is stands.sound int.0 (width_of whole) c a rs regs le room o h (λ z e. term_fits w stands ranges whole f q z (there ∙ e))))
    where
      there : val whole ≡ value_of (held_at w.now.store (Some (ctype.Int int.0)) o)
      there = ap value_of is ∙ ap (λ u. value_of (held_at w.now.store u o)) int.1

  -- a distance
  apart_codes : (at : Place) (t : Option PlainType) (r : Range) (n : ℕ) (a b : LogicTerm) → TermRanged w.seen (logic.Difference at t r n a b) → TermFound w.plan w.now.scope (sorts_held w.held) (logic.Difference at t r n a b) → (c d : PointerCode)
      → (rs : List MonType) (regs : List Value) → length rs ≤ length d.used → length (difference_code (type_of_width (width_of_range r)) n c d).used ≤ length regs
      → BothPointers w c d (as_address (term a w.now w.names)) (as_address (term b w.now w.names)) (range_of a) (range_of b) rs regs
      → Codes w (difference_code (type_of_width (width_of_range r)) n c d) (val (logic.Difference at t r n a b)) rs regs
  apart_codes at t r n a b q f c d rs regs le room h =
      subst (λ o. Codes w (difference_code (type_of_width (width_of_range r)) n c d) o rs regs) is
      (difference_codes w stands.store_is stands.sound (width_of_range r) n f.0 c d (as_address (term a w.now w.names)) (as_address (term b w.now w.names)) (range_of a) (range_of b) rs regs le room h
      (λ z e.
      let fits = term_fits w stands ranges (logic.Difference at t r n a b) f q z (sym is ∙ e) in
      (wrap_in W64 z (subst (λ r. Fits (width_of_range r) z) (sym q.0) fits), fits))).codes
    where
      is : of_both w (as_address (term a w.now w.names)) (as_address (term b w.now w.names)) (λ x y. value_of (elements_apart w.now.store n x y)) ≡ val (logic.Difference at t r n a b)
      is = by (as_address (term a w.now w.names)) (as_address (term b w.now w.names))
        where
          by : (o p : Option Address) → of_both w o p (λ x y. value_of (elements_apart w.now.store n x y)) ≡ value_of (difference w.now.store n o p)
          by None p = refl
          by (Some x) None = refl
          by (Some x) (Some y) = refl

-- ---- steps

with_stands : (w : Setting) (n : ℕ) → Stands w → Stands (with_steps n w)
with_stands w n st = record {
  store_is = st.store_is;
  points = st.points;
  held = λ x h e. let i = st.held x h e in record { value = i.value; sorted = i.sorted; starts = i.starts; is = i.is; holds = i.holds };
  keeps = λ at k e. let i = st.keeps at k e in record { below = i.below; gives = i.gives };
  sound = st.sound;
}

ready_with : (w : Setting) (n : ℕ) (rs : List MonType) (regs : List Value) → Ready w rs regs → Ready (with_steps n w) rs regs
ready_with w n rs regs r = record { low = r.low; near = r.near }

-- no answer leaves more steps than there were
says_left : (A : Answer) (n k : ℕ) (b : Bool) → steps_of A ≤ n → A ≡ Says b k → k ≤ n
says_left A n k b le e = let s : steps_of A ≡ k = ap steps_of e in omega (arith, s, le)

nothing_left : (A : Answer) (n k : ℕ) → steps_of A ≤ n → A ≡ SaysNothing k → k ≤ n
nothing_left A n k le e = let s : steps_of A ≡ k = ap steps_of e in omega (arith, s, le)

-- what is read in a condition that takes no step
condition_read : (w : Setting) (stands : Stands w) (c : Predicate) → IsQuiet c → PredicateRanged w.seen c → PredicateFound w.plan w.now.scope (sorts_held w.held) c → (v : Bool) → says c w.now w.names ≡ Some v → AllRead w.now (sure_readings c)
condition_read w stands c quiet q f v p =
    pred_read w.plan (sorts_held w.held) w.seen w.now w.names (stands_sorted w stands) stands.sound.together c q f 0 v 0 (pred_quiet c quiet w.now w.names 0 ∙ ap (λ u. said u 0) p)

-- the part inside guards, wherever these names are held and these variables known
abbrev Within : Setting → (List Held → List Reading → List MonType → Code) → (Environment → ℕ → Answer) → (Seen → Type 0) → (Sorted → Type 0) → Type 0
Within w inner P R F =
    (hs : List Held) (m : Seen) (e : Environment) (low : ℕ) (base : List Value) (n : ℕ) (known : List Reading) → AllRead w.now known → (js : List MonType) (regs : List Value) → Stands (moved w hs m e low base n) → NamesFit m w.now e → R m
    → F (sorts_held hs)
    → low ≤ length js → Same low base regs → length (inner hs known js).used ≤ length regs → n ≤ w.turns → Told (moved w hs m e low base n) (inner hs known js) (P e n) js regs

-- ---- everything

mutual
  pub term_does : (w : Setting) (stands : Stands w) (ranges : RangesHold w.seen w.now w.names) → w.target.steps ≤ w.turns → (t : LogicTerm) → TermRanged w.seen t → TermFound w.plan w.now.scope (sorts_held w.held) t → (known : List Reading)
      → AllRead w.now known → (rs : List MonType) (regs : List Value) → Ready w rs regs
      → length (tcode w t known rs).used ≤ length regs
      → Codes w (tcode w t known rs) (value_of (term t w.now w.names)) rs regs
  term_does w stands ranges lt (logic.Number at t r n) q f known all rs regs ready room = number_codes w stands ranges r n rs regs
  term_does w stands ranges lt (logic.Letter at t r n) q f known all rs regs ready room = number_codes w stands ranges r n rs regs
  term_does w stands ranges lt (logic.Variable at t r x) q f known all rs regs ready room = variable_codes w stands ranges at t r x q f rs regs ready.low ready.near known all room
  term_does w stands ranges lt (logic.Unary at t r op a) q f known all rs regs ready room = unary_codes w stands ranges at t r op a q f (tcode w a known rs) rs regs (term_does w stands ranges lt a q.1 f known all rs regs ready room)
  term_does w stands ranges lt (logic.Binary at t r op a b) q f known all rs regs ready room =
      let x = tcode w a known rs in
      let y = tcode w b known x.used in
      let gx = term_grows w.unit w.bound w.plan a w.held known rs in
      let gy = term_grows w.unit w.bound w.plan b w.held known x.used in
      let gz = term_room w stands ranges at t r op a b known rs in
      let cx = term_does w stands ranges lt a q.1 f.0 known all rs regs ready (omega (arith, gy, gz, room)) in
      let cy = term_does w stands ranges lt b q.2 f.1 known all x.used cx.end (ready_after w rs x.used regs cx.end gx ready cx.same) (omega (arith, gz, room, cx.same.long)) in
      binary_codes w stands ranges at t r op a b q f x y rs regs (both_run w x y (value_of (term a w.now w.names)) (value_of (term b w.now w.names)) rs regs gx gy cx cy) (omega (arith, gx, gy)) room
  term_does w stands ranges lt (logic.Cast at t r to a) q f known all rs regs ready room = cast_codes w stands ranges at t r to a q f (tcode w a known rs) rs regs (term_does w stands ranges lt a q.1 f.1 known all rs regs ready room)
  term_does w stands ranges lt (logic.Choice at t r c a b) q f known all rs regs ready room =
      let more = known ++ sure_readings c in
      let z = pcode w c known rs in
      let x = tcode w a more z.used in
      let y = tcode w b more x.used in
      let gz = pred_grows w.unit w.bound w.plan c w.held known rs in
      let gx = term_grows w.unit w.bound w.plan a w.held more z.used in
      let gy = term_grows w.unit w.bound w.plan b w.held more x.used in
      let two = length-append y.used (I32 ∷ type_of_width (width_of_range r) ∷ []) in
      let quiet = pred_quiet c f.0 w.now w.names in
      let told = pred_does w stands ranges lt c q.1 f.1 known all rs regs ready (omega (arith, gx, gy, two, room)) in
      let cz = codes_of w z (says c w.now w.names) rs regs (subst (λ (A : Answer). Told w z A rs regs) (quiet w.target.steps) told) in
      let there = λ (v : Bool) (p : says c w.now w.names ≡ Some v). read-append w.now known (sure_readings c) all (condition_read w stands c f.0 q.1 f.1 v p) in
      choice_codes w stands ranges at t r c a b q f z x y rs regs gz gx gy (omega (arith, two, room)) cz
      (λ p. term_does w stands ranges lt a q.2 f.2 more (there true p) z.used cz.end
      (ready_after w rs z.used regs cz.end gz ready cz.same)
      (omega (arith, gy, two, room, cz.same.long)))
      (λ p. term_does w stands ranges lt b q.3 f.3 more (there false p) x.used cz.end
      (ready_after w rs x.used regs cz.end (omega (arith, gz, gx)) ready cz.same)
      (omega (arith, two, room, cz.same.long)))
  term_does w stands ranges lt (logic.Deref at t r a) q f known all rs regs ready room =
      let c = lcode w a known rs in
      let gc = pointer_grows w.unit w.bound w.plan a w.held known rs in
      let h = pointer_does w stands ranges lt a q.1 f.1 known all rs regs ready (omega (arith, room, length-append c.used (I32 ∷ []))) in
      read_codes w stands ranges (logic.Deref at t r a) f q t f.0 (as_address (term a w.now w.names)) refl c (range_of a) rs regs gc room h
  term_does w stands ranges lt (logic.Member at t r d a) q f known all rs regs ready room =
      let c = place_code w.unit w.bound w.plan a w.held known rs in
      let gc = place_grows w.unit w.bound w.plan a w.held known rs in
      let m = member_parts t d (address_range a) r q.0 in
      let h = place_does w stands ranges lt a q.1 f.1 m.0 m.2 known all rs regs ready (omega (arith, room, length-append c.used (I32 ∷ []))) in
      read_codes w stands ranges (logic.Member at t r d a) f q t f.0 (option_map (λ x. address_farther x (pos d)) (place a w.now w.names)) refl (member_code d c) m.1 rs regs gc room
      (member_codes w d c (place a w.now w.names) m.0 m.1 rs regs m.3 h)
  term_does w stands ranges lt (logic.Difference at t r n a b) q f known all rs regs ready room =
      let c = lcode w a known rs in
      let d = lcode w b known c.used in
      let gc = pointer_grows w.unit w.bound w.plan a w.held known rs in
      let gd = pointer_grows w.unit w.bound w.plan b w.held known c.used in
      let six = length-append d.used (I32 ∷ I32 ∷ Ptr ∷ Ptr ∷ I64 ∷ I64 ∷ []) in
      let h = pointer_does w stands ranges lt a q.1 f.1 known all rs regs ready (omega (arith, gd, six, room)) in
      let g = pointer_does w stands ranges lt b q.2 f.2 known all c.used h.end (ready_after w rs c.used regs h.end gc ready h.same) (omega (arith, six, room, h.same.long)) in
      apart_codes w stands ranges at t r n a b q f c d rs regs (omega (arith, gc, gd)) room
      (both_pointers w c d (as_address (term a w.now w.names)) (as_address (term b w.now w.names)) (range_of a) (range_of b) rs regs gc gd h g)
  term_does w stands ranges lt (logic.Told at t r g a) q f known all rs regs ready room =
      let c = lcode w a known rs in
      let gc = pointer_grows w.unit w.bound w.plan a w.held known rs in
      let h = pointer_does w stands ranges lt a q.1 f.1 known all rs regs ready (omega (arith, room, length-append c.used (I32 ∷ type_of_fact g ∷ []))) in
      told_number_codes w stands.store_is g f.0 (width_of_range r) c (range_of a) rs regs gc room (as_address (term a w.now w.names)) h (λ z e. term_fits w stands ranges (logic.Told at t r g a) f q z e)
  term_does w stands ranges lt (logic.Named at t r x) q f known all rs regs ready room =
      held_codes w stands x.decl (type_of_width (width_of_range r)) f (λ z e. wrap_in (width_of_range r) z (term_fits w stands ranges (logic.Named at t r x) f q z e)) rs regs ready.low ready.near
  term_does w stands ranges lt (logic.At at t r Here a) q f known all rs regs ready room =
      let c = tcode w a known rs in
      let two = length-append c.used (I32 ∷ type_of a ∷ []) in
      let h = term_does w stands ranges lt a q.1 f known all rs regs ready (omega (arith, two, room)) in
      settled_runs w (type_of a) c (value_of (term a w.now w.names)) rs regs (term_grows w.unit w.bound w.plan a w.held known rs) (omega (arith, two, room)) h
  term_does w stands ranges lt (logic.At at t r Pre a) q f known all rs regs ready room = kept_codes w stands None a f.0 rs regs ready.low ready.near f.1 f.2
  term_does w stands ranges lt (logic.At at t r (Marked l) a) q f known all rs regs ready room = kept_codes w stands (Some l) a f.0 rs regs ready.low ready.near f.1 f.2
  term_does w stands ranges lt _ q f known all rs regs ready room = absurd f

  pub pointer_does : (w : Setting) (stands : Stands w) (ranges : RangesHold w.seen w.now w.names) → w.target.steps ≤ w.turns → (t : LogicTerm) → TermRanged w.seen t → PointerFound w.plan w.now.scope (sorts_held w.held) t → (known : List Reading)
      → AllRead w.now known → (rs : List MonType) (regs : List Value) → Ready w rs regs
      → length (lcode w t known rs).used ≤ length regs
      → PointerCodes w (lcode w t known rs) (as_address (term t w.now w.names)) (range_of t) rs regs
  pointer_does w stands ranges lt (logic.Variable at t r x) q f known all rs regs ready room =
      there_codes w stands ranges (is_known known (record { decl = x.decl; kind = term_type t })) t f.0 r (option_map address_of (start_of (find x.decl w.now.scope))) (start_pointer (pointer_to w.unit w.bound x.decl) rs) offset_range q rs regs
      (omega arith) room (λ is u e. known_place w stands ranges known all t x.decl f.1 f.2 is u e) (variable_place w stands ranges x f.1 f.2 rs regs ready.low ready.near)
  pointer_does w stands ranges lt (logic.Null at t r) q f known all rs regs ready room =
      start_codes w null Null (Some null_address) r rs regs refl tt (zero_lies w r q) (λ later s. refl)
  pointer_does w stands ranges lt (logic.Deref at t r a) q f known all rs regs ready room =
      let c = lcode w a known rs in
      let gc = pointer_grows w.unit w.bound w.plan a w.held known rs in
      let gt = there_grows false t c in
      there_codes w stands ranges false t f.0 r (as_address (term a w.now w.names)) c (range_of a) q.0 rs regs gc room (λ is u e. absurd cc) (pointer_does w stands ranges lt a q.1 f.1 known all rs regs ready (omega (arith, gt, room)))
  pointer_does w stands ranges lt (logic.Member at t r d a) q f known all rs regs ready room =
      let c = place_code w.unit w.bound w.plan a w.held known rs in
      let gc = place_grows w.unit w.bound w.plan a w.held known rs in
      let gt = there_grows false t (member_code d c) in
      let m = member_parts t d (address_range a) r q.0 in
      there_codes w stands ranges false t f.0 r (option_map (λ x. address_farther x (pos d)) (place a w.now w.names)) (member_code d c) m.1 m.4 rs regs gc room (λ is u e. absurd cc)
      (member_codes w d c (place a w.now w.names) m.0 m.1 rs regs m.3 (place_does w stands ranges lt a q.1 f.1 m.0 m.2 known all rs regs ready (omega (arith, gt, room))))
  pointer_does w stands ranges lt (logic.Address at t r a) q f known all rs regs ready room =
      subst (λ o. PointerCodes w (place_code w.unit w.bound w.plan a w.held known rs) o r rs regs) (sym (address_back (place a w.now w.names))) (place_does w stands ranges lt a q.1 f r q.0 known all rs regs ready room)
  pointer_does w stands ranges lt (logic.Moved at t r op n a b) q f known all rs regs ready room =
      let c = lcode w a known rs in
      let d = tcode w b known c.used in
      let gc = pointer_grows w.unit w.bound w.plan a w.held known rs in
      let gd = term_grows w.unit w.bound w.plan b w.held known c.used in
      let h = pointer_does w stands ranges lt a q.1 f.0 known all rs regs ready (omega (arith, gd, room)) in
      let g = term_does w stands ranges lt b q.2 f.1 known all c.used h.end (ready_after w rs c.used regs h.end gc ready h.same) (omega (arith, room, h.same.long)) in
      subst (λ o. PointerCodes w (moved_code op n c (type_of b) d) o r rs regs) (sym (moved_is op n (term a w.now w.names) (term b w.now w.names)))
      (moved_codes w op n c (type_of b) d (as_address (term a w.now w.names)) (value_of (term b w.now w.names)) (range_of a) (range_of b) r rs regs q.0 (λ z e. term_lies w stands ranges b f.1 q.2 z e) (λ z e. wide w stands ranges b f.1 q.2 z e) gc
      gd h g)
  pointer_does w stands ranges lt (logic.Cast at t r Integers a) q f known all rs regs ready room = absurd f.0
  pointer_does w stands ranges lt (logic.Cast at t r (OfC to) a) q f known all rs regs ready room =
      let h = pointer_does w stands ranges lt a q.1 f.1 known all rs regs ready room in
      let same_range : range_of a ≡ r = some_same (range_of a) r (ap (λ k. cast_range (OfC k) (range_of a)) (sym f.0.1) ∙ q.0) in
      subst (λ o. PointerCodes w (lcode w a known rs) o r rs regs) (cast_keeps to f.0.0 f.0.1 (term a w.now w.names))
      (subst (λ r. PointerCodes w (lcode w a known rs) (as_address (term a w.now w.names)) r rs regs) same_range h)
  pointer_does w stands ranges lt (logic.Choice at t r c a b) q f known all rs regs ready room =
      let more = known ++ sure_readings c in
      let z = pcode w c known rs in
      let x = lcode w a more z.used in
      let y = lcode w b more x.used in
      let gz = pred_grows w.unit w.bound w.plan c w.held known rs in
      let gx = pointer_grows w.unit w.bound w.plan a w.held more z.used in
      let gy = pointer_grows w.unit w.bound w.plan b w.held more x.used in
      let three = length-append y.used (I32 ∷ Ptr ∷ I128 ∷ []) in
      let quiet = pred_quiet c f.0 w.now w.names in
      let told = pred_does w stands ranges lt c q.1 f.1 known all rs regs ready (omega (arith, gx, gy, three, room)) in
      let cz = codes_of w z (says c w.now w.names) rs regs (subst (λ (A : Answer). Told w z A rs regs) (quiet w.target.steps) told) in
      let there = λ (v : Bool) (p : says c w.now w.names ≡ Some v). read-append w.now known (sure_readings c) all (condition_read w stands c f.0 q.1 f.1 v p) in
      subst (λ o. PointerCodes w (branch_pointer z x y) o r rs regs) (sym (choice_address c a b w.now w.names))
      (subst (λ r. PointerCodes w (branch_pointer z x y) (chosen (says c w.now w.names) (as_address (term a w.now w.names)) (as_address (term b w.now w.names))) r rs regs) q.0
      (branch_pointer_codes w z x y (says c w.now w.names) (as_address (term a w.now w.names)) (as_address (term b w.now w.names)) (range_of a) (range_of b) rs z.used x.used regs gz (omega (arith, gz, gx)) (omega (arith, gz, gx, gy)) gy room cz
      (λ p. pointer_does w stands ranges lt a q.2 f.2 more (there true p) z.used cz.end
      (ready_after w rs z.used regs cz.end gz ready cz.same)
      (omega (arith, gy, three, room, cz.same.long)))
      (λ p. pointer_does w stands ranges lt b q.3 f.3 more (there false p) x.used cz.end
      (ready_after w rs x.used regs cz.end (omega (arith, gz, gx)) ready cz.same) (omega (arith, three, room, cz.same.long)))))
  pointer_does w stands ranges lt (logic.Told at t r BaseAddr a) q f known all rs regs ready room =
      let c = lcode w a known rs in
      let gc = pointer_grows w.unit w.bound w.plan a w.held known rs in
      let h = pointer_does w stands ranges lt a q.1 f.1 known all rs regs ready (omega (arith, room, length-append c.used (I32 ∷ Ptr ∷ []))) in
      subst (λ r. PointerCodes w (told_pointer c) (as_address (told w.now.store BaseAddr (as_address (term a w.now w.names)))) r rs regs) q.0
      (told_pointer_codes w stands.store_is c (range_of a) rs regs gc room (as_address (term a w.now w.names)) h)
  pointer_does w stands ranges lt (logic.Told at t r BlockLength a) q f known all rs regs ready room = absurd f.0
  pointer_does w stands ranges lt (logic.Told at t r Offset a) q f known all rs regs ready room = absurd f.0
  pointer_does w stands ranges lt (logic.Named at t r x) q f known all rs regs ready room = held_pointer_codes w stands x.decl r f q rs regs ready.low ready.near
  pointer_does w stands ranges lt (logic.At at t r Here a) q f known all rs regs ready room =
      subst (λ r. PointerCodes w (lcode w a known rs) (as_address (term a w.now w.names)) r rs regs) q.0 (pointer_does w stands ranges lt a q.1 f known all rs regs ready room)
  pointer_does w stands ranges lt (logic.At at t r Pre a) q f known all rs regs ready room = kept_pointer_codes w stands None a f.0 rs regs ready.low ready.near f.2 r f.3 f.1 q.0
  pointer_does w stands ranges lt (logic.At at t r (Marked l) a) q f known all rs regs ready room = kept_pointer_codes w stands (Some l) a f.0 rs regs ready.low ready.near f.2 r f.3 f.1 q.0
  pointer_does w stands ranges lt _ q f known all rs regs ready room = absurd f

  place_does : (w : Setting) (stands : Stands w) (ranges : RangesHold w.seen w.now w.names) → w.target.steps ≤ w.turns → (t : LogicTerm) → TermRanged w.seen t → PlaceFound w.plan w.now.scope (sorts_held w.held) t → (r : Range)
      → address_range t ≡ Some r → (known : List Reading) → AllRead w.now known → (rs : List MonType) (regs : List Value)
      → Ready w rs regs
      → length (place_code w.unit w.bound w.plan t w.held known rs).used ≤ length regs → PointerCodes w (place_code w.unit w.bound w.plan t w.held known rs) (place t w.now w.names) r rs regs
  place_does w stands ranges lt (logic.Variable at t r0 x) q f r e known all rs regs ready room =
      subst (λ r. PointerCodes w (start_pointer (pointer_to w.unit w.bound x.decl) rs) (option_map address_of (start_of (find x.decl w.now.scope))) r rs regs) (some_same offset_range r e)
      (variable_place w stands ranges x f.0 f.1 rs regs ready.low ready.near)
  place_does w stands ranges lt (logic.Deref at t r0 a) q f r e known all rs regs ready room =
      subst (λ r. PointerCodes w (lcode w a known rs) (as_address (term a w.now w.names)) r rs regs) (some_same (range_of a) r e) (pointer_does w stands ranges lt a q.1 f known all rs regs ready room)
  place_does w stands ranges lt (logic.Member at t r0 d a) q f r e known all rs regs ready room =
      let m = address_parts d (address_range a) r e in
      member_codes w d (place_code w.unit w.bound w.plan a w.held known rs) (place a w.now w.names) m.0 r rs regs m.2 (place_does w stands ranges lt a q.1 f m.0 m.1 known all rs regs ready room)
  place_does w stands ranges lt _ q f r e known all rs regs ready room = absurd f

  zone_does : (w : Setting) (stands : Stands w) (ranges : RangesHold w.seen w.now w.names) → w.target.steps ≤ w.turns → (z : Zone) → ZoneRanged w.seen z → ZoneFound w.plan w.now.scope (sorts_held w.held) z → (known : List Reading)
      → AllRead w.now known → (rs : List MonType) (regs : List Value) → Ready w rs regs
      → length (zone_code w.unit w.bound w.plan z w.held known rs).pointer.used ≤ length regs → ZoneCodes w (zone_code w.unit w.bound w.plan z w.held known rs) (zone z w.now w.names) rs regs
  zone_does w stands ranges lt (logic.Object at n m a) q f known all rs regs ready room =
      object_codes w n (lcode w a known rs) (as_address (term a w.now w.names)) (range_of a) rs regs (pointer_does w stands ranges lt a q f.1 known all rs regs ready room)
  zone_does w stands ranges lt (logic.Elements at n m a lo hi) q f known all rs regs ready room =
      let c = lcode w a known rs in
      let x = tcode w lo known c.used in
      let y = tcode w hi known x.used in
      let gc = pointer_grows w.unit w.bound w.plan a w.held known rs in
      let gx = term_grows w.unit w.bound w.plan lo w.held known c.used in
      let gy = term_grows w.unit w.bound w.plan hi w.held known x.used in
      let h = pointer_does w stands ranges lt a q.1 f.1 known all rs regs ready (omega (arith, gx, gy, room)) in
      let g = term_does w stands ranges lt lo q.2 f.2 known all c.used h.end (ready_after w rs c.used regs h.end gc ready h.same) (omega (arith, gy, room, h.same.long)) in
      let e = term_does w stands ranges lt hi q.3 f.3 known all x.used g.end (ready_after w c.used x.used h.end g.end gx (ready_after w rs c.used regs h.end gc ready h.same) g.same) (omega (arith, room, h.same.long, g.same.long)) in
      subst (λ o. ZoneCodes w (elements_code n c (type_of lo) (type_of hi) x y) o rs regs) (sym (elements_is n (term a w.now w.names) (term lo w.now w.names) (term hi w.now w.names)))
      (elements_codes w n c (type_of lo) (type_of hi) x y (as_address (term a w.now w.names)) (value_of (term lo w.now w.names)) (value_of (term hi w.now w.names)) (range_of a) (range_of lo) (range_of hi) rs regs q.0
      (λ z e. term_lies w stands ranges lo f.2 q.2 z e) (λ z e. term_lies w stands ranges hi f.3 q.3 z e) (λ z e. wide w stands ranges lo f.2 q.2 z e) (λ z e. wide w stands ranges hi f.3 q.3 z e) gc gx gy h g e)

  zones_does : (w : Setting) (stands : Stands w) (ranges : RangesHold w.seen w.now w.names) → w.target.steps ≤ w.turns → (zs : Zones) → ZonesRanged w.seen zs → ZonesFound w.plan w.now.scope (sorts_held w.held) zs → (known : List Reading)
      → AllRead w.now known → (rs : List MonType) (regs : List Value) → Ready w rs regs
      → length (zones_code w.unit w.bound w.plan zs w.held known rs).used ≤ length regs → ZonesCodes w (zones_code w.unit w.bound w.plan zs w.held known rs) (zones zs w.now w.names) rs regs
  zones_does w stands ranges lt NoZone q f known all rs regs ready room = no_zones_codes w rs regs
  zones_does w stands ranges lt (Another z rest) q f known all rs regs ready room =
      let c = zone_code w.unit w.bound w.plan z w.held known rs in
      let ds = zones_code w.unit w.bound w.plan rest w.held known c.pointer.used in
      let gz = zone_grows w.unit w.bound w.plan z w.held known rs in
      let gr = zones_grows w.unit w.bound w.plan rest w.held known c.pointer.used in
      let h = zone_does w stands ranges lt z q.0 f.0 known all rs regs ready (omega (arith, gr, room)) in
      another_codes w c ds (zone z w.now w.names) (zones rest w.now w.names) rs regs gz gr h
      (zones_does w stands ranges lt rest q.1 f.1 known all c.pointer.used h.end (ready_after w rs c.pointer.used regs h.end gz ready h.same) (omega (arith, room, h.same.long)))

  chain_does : (w : Setting) (stands : Stands w) (ranges : RangesHold w.seen w.now w.names) → w.target.steps ≤ w.turns → (t : LogicTerm) (x : Side) (l : Links) → TermRanged w.seen t → IsSide w x t → LinksRanged w.seen l
      → LinksFound w.plan w.now.scope (sorts_held w.held) t l → (known : List Reading) → AllRead w.now known
      → (rs : List MonType) (regs : List Value)
      → Ready w rs regs → length rs ≤ length (used_by x) → SideCodes w x t rs regs → length (chain_code w.unit w.bound w.plan t x l w.held known).used ≤ length regs
      → Codes w (chain_code w.unit w.bound w.plan t x l w.held known) (truths (said_by (chain (term t w.now w.names) l w.now w.names 0))) rs regs
  chain_does w stands ranges lt t x NoLink q f h g known all rs regs ready gx cx room = record {
    end = cx.end;
    same = cx.same;
    is = cx.is;
    holds = λ later s. record { flag_is = refl; value_is = λ z e. ap (λ z. Some (Integer z)) (some_same (pos 1) z e) };
  }
  chain_does w stands ranges lt t x (Linked at r u NoLink) q f h g known all rs regs ready gx cx room =
      let c = lcode w u known (used_by x) in
      let d = tcode w u known (used_by x) in
      let y = side_by (is_pointer_term u) c d in
      let gy = side_grows (is_pointer_term u) c d (used_by x) (pointer_grows w.unit w.bound w.plan u w.held known (used_by x)) (term_grows w.unit w.bound w.plan u w.held known (used_by x)) in
      let gr = related_grows r t u x y in
      let next = ready_after w rs (used_by x) regs cx.end gx ready cx.same in
      let cy = side_made w u c d (used_by x) cx.end g.1 (λ f room. pointer_does w stands ranges lt u h.0 f known all (used_by x) cx.end next room) (λ f room. term_does w stands ranges lt u h.0 f known all (used_by x) cx.end next room)
      (omega (arith, gr, room, cx.same.long)) in
      subst (λ o. Codes w (related_code r t u x y) (truths o) rs regs) (sym (last_says w stands ranges r t u at))
      (related_codes w stands ranges r t u rs regs q h.0 x y f cy.sort g.0 (omega (arith, gx, gy)) room (both_sides w x y t u rs regs gx gy cx cy.codes)).codes
  chain_does w stands ranges lt t x (Linked at r u (Linked at2 r2 v rest)) q f h g known all rs regs ready gx cx room =
      let c = lcode w u known (used_by x) in
      let d = tcode w u known (used_by x) in
      let y = side_by (is_pointer_term u) c d in
      let z = related_code r t u x y in
      let more = known ++ (sure_readings_of_term t ++ sure_readings_of_term u) in
      let links = Linked at2 r2 v rest in
      let start = again y z.used in
      let tail = chain_code w.unit w.bound w.plan u start links w.held more in
      let gy = side_grows (is_pointer_term u) c d (used_by x) (pointer_grows w.unit w.bound w.plan u w.held known (used_by x)) (term_grows w.unit w.bound w.plan u w.held known (used_by x)) in
      let gr = related_grows r t u x y in
      let ga = again_used y z.used in
      let gd = chain_grows w.unit w.bound w.plan u start links w.held more in
      let gc = connected_grows And z tail in
      let next = ready_after w rs (used_by x) regs cx.end gx ready cx.same in
      let cy = side_made w u c d (used_by x) cx.end g.1 (λ f room. pointer_does w stands ranges lt u h.0 f known all (used_by x) cx.end next room) (λ f room. term_does w stands ranges lt u h.0 f known all (used_by x) cx.end next room)
      (omega (arith, gr, ga, gd, gc, room, cx.same.long)) in
      let cz = related_codes w stands ranges r t u rs regs q h.0 x y f cy.sort g.0 (omega (arith, gx, gy)) (omega (arith, ga, gd, gc, room)) (both_sides w x y t u rs regs gx gy cx cy.codes) in
      let whole = chain_says r (term t w.now w.names) u links w.now w.names in
      subst (λ o. Codes w (connected_code And z tail) (truths o) rs regs) (sym whole)
      (connected_runs w And z tail (said_by (related w.now.store r (term t w.now w.names) (term u w.now w.names) 0)) (said_by (chain (term u w.now w.names) links w.now w.names 0))
      rs regs (omega (arith, gx, gy, gr)) (omega (arith, ga, gd)) room cz.codes
      (λ b p.
      let i = related_there w.now.store r (term t w.now w.names) (term u w.now w.names) b p in
      let a = again_side w stands u y z.used cz.codes.end cz.second i.1.0 i.1.1 cy.sort in
      chain_does w stands ranges lt u start (Linked at2 r2 v rest) h.0 a.sort h.1 g.2 more
      (read-append w.now known (sure_readings_of_term t ++ sure_readings_of_term u) all
      (relation_read w.plan (sorts_held w.held) w.seen w.now w.names (stands_sorted w stands) stands.sound.together r t u q h.0 (side_found w x t f) g.1 b p)) z.used cz.codes.end
      (ready_after w rs z.used regs cz.codes.end (omega (arith, gx, gy, gr)) ready cz.codes.same) (omega (arith, ga)) a.codes (omega (arith, gc, room, cz.codes.same.long))))

  pub pred_does : (w : Setting) (stands : Stands w) (ranges : RangesHold w.seen w.now w.names) → w.target.steps ≤ w.turns → (p : Predicate) → PredicateRanged w.seen p → PredicateFound w.plan w.now.scope (sorts_held w.held) p → (known : List Reading)
      → AllRead w.now known
      → (rs : List MonType) (regs : List Value) → Ready w rs regs → length (pcode w p known rs).used ≤ length regs → Told w (pcode w p known rs) (pred p w.now w.names w.target.steps) rs regs
  pred_does w stands ranges lt (logic.Truth at b) q f known all rs regs ready room =
      told_of w (truth_code b rs) (Some b) rs regs (sure_codes w (Constant I32 (truth b)) (Some (truth b)) (truth b) rs regs refl (λ later s. refl))
  pred_does w stands ranges lt (logic.NonZero at t) q f known all rs regs ready room =
      let c = code_with_value (Binary mon.Ne (type_of t) (tcode w t known rs).value (Constant (type_of t) (pos 0))) (tcode w t known rs) in
      subst (λ (A : Answer). Told w c A rs regs) (sym (related_quiet w.now.store Ne (term t w.now w.names) (Some (Mathematical (pos 0))) w.target.steps))
      (told_of w c (said_by (related w.now.store Ne (term t w.now w.names) (Some (Mathematical (pos 0))) 0)) rs regs
      (nonzero_codes w stands ranges t q f (tcode w t known rs) rs regs (term_does w stands ranges lt t q f known all rs regs ready room)))
  pred_does w stands ranges lt (logic.Chain at t links) q f known all rs regs ready room =
      let c = lcode w t known rs in
      let d = tcode w t known rs in
      let x = side_by (is_pointer_term t) c d in
      let gx = side_grows (is_pointer_term t) c d rs (pointer_grows w.unit w.bound w.plan t w.held known rs) (term_grows w.unit w.bound w.plan t w.held known rs) in
      let gl = chain_grows w.unit w.bound w.plan t x links w.held known in
      let cx = side_made w t c d rs regs f.0 (λ f room. pointer_does w stands ranges lt t q.0 f known all rs regs ready room) (λ f room. term_does w stands ranges lt t q.0 f known all rs regs ready room) (omega (arith, gl, room)) in
      subst (λ (A : Answer). Told w (chain_code w.unit w.bound w.plan t x links w.held known) A rs regs) (sym (chain_quiet (term t w.now w.names) links w.now w.names w.target.steps))
      (told_of w (chain_code w.unit w.bound w.plan t x links w.held known) (said_by (chain (term t w.now w.names) links w.now w.names 0)) rs regs
      (chain_does w stands ranges lt t x links q.0 cx.sort q.1 f.1 known all rs regs ready gx cx.codes room))
  pred_does w stands ranges lt (logic.Not at p) q f known all rs regs ready room =
      denied_told w (pcode w p known rs) (pred p w.now w.names w.target.steps) rs regs (pred_does w stands ranges lt p q f known all rs regs ready room)
  pred_does w stands ranges lt (logic.Connected at c a b) q f known all rs regs ready room =
      let n = w.target.steps in
      let x = pcode w a known rs in
      let ks = known_at_right c known a in
      let y = pcode w b ks x.used in
      let gx = pred_grows w.unit w.bound w.plan a w.held known rs in
      let gy = pred_grows w.unit w.bound w.plan b w.held ks x.used in
      let gc = connected_grows c x y in
      let falls = steps_pred a w.now w.names n in
      let cx = pred_does w stands ranges lt a q.0 f.0 known all rs regs ready (omega (arith, gy, gc, room)) in
      let right = λ (end : List Value) (k : ℕ) (same : Same (length rs) regs end) (le : k ≤ n) (there : AllRead w.now ks).
      pred_does (with_steps k w) (with_stands w k stands) ranges (omega (arith, le, lt)) b q.1 f.1 ks there x.used end (ready_with w k x.used end (ready_after w rs x.used regs end gx ready same)) (omega (arith, gc, room, same.long)) in
      connected_told w c x y (pred a w.now w.names n) (pred b w.now w.names) rs regs gx gy room cx (
        λ end k v same e. right end k same (says_left (pred a w.now w.names n) n k v falls e) (known_right w.plan (sorts_held w.held) w.seen w.now w.names (stands_sorted w stands) stands.sound.together c known a q.0 f.0 all n v k e),
        λ s end k same e. right end k same (nothing_left (pred a w.now w.names n) n k falls e) (known_strict w.now c s known a all),
      )
  pred_does w stands ranges lt (logic.Branch at c a b) q f known all rs regs ready room =
      let n = w.target.steps in
      let more = known ++ sure_readings c in
      let z = pcode w c known rs in
      let x = pcode w a more z.used in
      let y = pcode w b more x.used in
      let gz = pred_grows w.unit w.bound w.plan c w.held known rs in
      let gx = pred_grows w.unit w.bound w.plan a w.held more z.used in
      let gy = pred_grows w.unit w.bound w.plan b w.held more x.used in
      let two = length-append y.used (I32 ∷ I32 ∷ []) in
      let falls = steps_pred c w.now w.names n in
      let cz = pred_does w stands ranges lt c q.0 f.0 known all rs regs ready (omega (arith, gx, gy, two, room)) in
      let there = λ (v : Bool) (k : ℕ) (e : pred c w.now w.names n ≡ Says v k).
      read-append w.now known (sure_readings c) all (pred_read w.plan (sorts_held w.held) w.seen w.now w.names (stands_sorted w stands) stands.sound.together c q.0 f.0 n v k e) in
      branch_told w z x y (pred c w.now w.names n) (pred a w.now w.names) (pred b w.now w.names) rs z.used x.used regs gz (omega (arith, gz, gx)) (omega (arith, gz, gx, gy)) gy (omega (arith, two, room)) cz
      (λ end k same e held.
      let le = says_left (pred c w.now w.names n) n k true falls e in
      pred_does (with_steps k w) (with_stands w k stands) ranges (omega (arith, le, lt)) a q.1 f.1 more (there true k e) z.used end (ready_with w k z.used end (ready_after w rs z.used regs end gz ready same))
      (omega (arith, gy, two, room, same.long)))
      (λ end k same e.
      let le = says_left (pred c w.now w.names n) n k false falls e in
      pred_does (with_steps k w) (with_stands w k stands) ranges (omega (arith, le, lt)) b q.2 f.2 more (there false k e) x.used end (ready_with w k x.used end (ready_after w rs x.used regs end (omega (arith, gz, gx)) ready same))
      (omega (arith, two, room, same.long)))
  pred_does w stands ranges lt (logic.Quantified at q gs p) qq f known all rs regs ready room =
      guards_does w ranges.state q gs p (λ hs m e low base n known all js regs st ft r f le near room lt. pred_does (moved w hs m e low base n) st (record { state = ranges.state; names = ft }) lt p r f known all js regs
      (record { low = le; near = near }) room)
      w.held w.seen w.names w.low w.regs w.target.steps known all rs regs stands ranges.names qq f ready.low ready.near room lt
  pred_does w stands ranges lt (logic.Asks at g z) q f known all rs regs ready room =
      let c = zone_code w.unit w.bound w.plan z w.held known rs in
      let gz = zone_grows w.unit w.bound w.plan z w.held known rs in
      let h = zone_does w stands ranges lt z q f known all rs regs ready (omega (arith, room, length-append c.pointer.used (I32 ∷ []))) in
      told_of w (zone_asked g (alignment_of z) c) (option_map (asks_of g w.now.store (alignment_of z)) (zone z w.now w.names)) rs regs
      (subst (λ m. Codes w (zone_asked g (alignment_of z) c) (truths (option_map (asks_of g w.now.store m) (zone z w.now w.names))) rs regs) (alignment_is w.plan w.now.scope (sorts_held w.held) z f)
      (asked_codes w stands.store_is g (alignment_of z) c rs regs gz room (zone z w.now w.names) h))
  pred_does w stands ranges lt (logic.Separated at zs) q f known all rs regs ready room =
      let c = zones_code w.unit w.bound w.plan zs w.held known rs in
      let gz = zones_grows w.unit w.bound w.plan zs w.held known rs in
      let h = zones_does w stands ranges lt zs q f known all rs regs ready (omega (arith, room, length-append c.used (I32 ∷ I32 ∷ []))) in
      told_of w (separated_code c) (option_map all_apart (zones zs w.now w.names)) rs regs (separated_codes w c rs regs gz room (zones zs w.now w.names) h)

  guards_does : (w : Setting) → StateFits w.now → (q : Quantifier) (gs : Guards) (p : Predicate) → Within w (pred_code w.unit w.bound w.plan p) (pred p w.now) (λ m. PredicateRanged m p) (λ ns. PredicateFound w.plan w.now.scope ns p)
      → Within w (guards_code w.unit w.bound w.plan q gs (pred_code w.unit w.bound w.plan p)) (guarded q gs (pred p w.now) w.now) (λ m. GuardsRanged m gs (λ m. PredicateRanged m p))
      (λ ns. GuardsFound w.plan w.now.scope ns gs (λ ns. PredicateFound w.plan w.now.scope ns p))
  guards_does w fits q NoGuard p inside hs m e low base n known all js regs st ft r f le near room lt = inside hs m e low base n known all js regs st ft r f le near room lt
  guards_does w fits q (Guarded a y ys below b rest) p inside hs m e low base n known all js regs st ft r f le near room lt =
      let v = moved w hs m e low base n in
      let ranges : RangesHold m w.now e = record { state = fits; names = ft } in
      let ready : Ready v js regs = record { low = le; near = near } in
      let x = tcode v a known js in
      let z = tcode v b known x.used in
      let k = type_of_width (wider (width_of a) (width_of b)) in
      let more = known ++ (sure_readings_of_term a ++ sure_readings_of_term b) in
      let inner2 = λ (names : List Held) (js2 : List MonType). guards_code w.unit w.bound w.plan q rest (pred_code w.unit w.bound w.plan p) names more js2 in
      let grows2 = λ (names : List Held) (js2 : List MonType). guards_grows w.unit w.bound w.plan q rest (pred_code w.unit w.bound w.plan p) names more js2 (λ names known js. pred_grows w.unit w.bound w.plan p names known js) in
      let c = bounded_code q below k (in_type (type_of a) k x.value) (in_type (type_of b) k z.value) (range_of a).lo (lowered below (range_of b).hi) (y ∷ ys) inner2 hs z.used in
      let gx = term_grows w.unit w.bound w.plan a hs known js in
      let gz = term_grows w.unit w.bound w.plan b hs known x.used in
      let gc = bounded_grows q below k (in_type (type_of a) k x.value) (in_type (type_of b) k z.value) (range_of a).lo (lowered below (range_of b).hi) (y ∷ ys) inner2 hs z.used grows2 in
      let two = length-append c.used (I32 ∷ I32 ∷ []) in
      let cx = term_does v st ranges lt a r.0 f.0 known all js regs ready (omega (arith, gz, gc, two, room)) in
      let cz = term_does v st ranges lt b r.1 f.1 known all x.used cx.end (ready_after v js x.used regs cx.end gx ready cx.same) (omega (arith, gc, two, room, cx.same.long)) in
      bounds_told w fits q a y ys below b inner2 (guarded q rest (pred p w.now) w.now) (λ m2. GuardsRanged m2 rest (λ m. PredicateRanged m p)) (λ ns. GuardsFound w.plan w.now.scope ns rest (λ ns. PredicateFound w.plan w.now.scope ns p)) known all
      (λ there names m2 e2 low2 base2 n2 js2 regs2 st2 ft2 r2 f2 le2 near2 room2 lt2. guards_does w fits q rest p inside names m2 e2 low2 base2 n2 more there js2 regs2 st2 ft2 r2 f2 le2 near2 room2 lt2)
      grows2 (steps_guarded q rest (pred p w.now) w.now (steps_pred p w.now)) hs m e low base n js regs st ft r.0 r.1 r.2 r.3 f.0 f.1 f.2 le near x z gx gz cx cz room lt
