-- The translated annotations of loops are valid.
use Rattle.std.proofs.Common.{◌≡◌, ◌≤◌, ℕ, pos, false, List, [], ◌∷◌, length, Option, Some, slice_get, refl, subst, arith}
use Rattle.c_syntax.specs.declared.types.Width.{Width}
use Rattle.c_syntax.specs.declared.types.Width.TheVariants.{W32, W64, W128}
use Rattle.c_syntax.specs.Logic.{LogicTerm, ClauseBody, Raw, Holds, Behaviors, Annotation}
use Rattle.c_syntax.specs.Logic as logic
use Rattle.c_syntax.specs.Programs.{TranslationUnit}
use Rattle.c_model.specs.AnnotationSights.{AnnotationSight}
use Rattle.c_model.specs.Formed.{IsShortClause, TermNumbered, tokens_of_term}
use Rattle.c_model.specs.Predicates.{variant, variant_in}
use Rattle.c_model.specs.TermRanges.{TermRanged}
use Rattle.c_model.specs.TypedPredicates.{AnnotationsTyped, ClauseTyped, IsIntegerTerm, TermTyped}
use Rattle.c_model.specs.Unranged.{ClauseRanged}
use Rattle.mon_syntax.specs.declared.tree.MonType.{MonType}
use Rattle.mon_syntax.specs.declared.tree.MonType.TheVariants.{I32}
use Rattle.mon_syntax.specs.Registers.{Bindings}
use Rattle.mon_syntax.specs.Trees.{Assert, Constant, Register}
use Rattle.mon_syntax.specs.Valid.{Types, IsExpression, AreStatements, Labels, Signature, has_label}
use Rattle.quantifier_loops.specs.Laws.{IsNumber}
use Rattle.quantifier_loops.specs.Upward.{tried_label}
use Rattle.c_effects.specs.Expressions.{one}
use Rattle.c_simulation.specs.Keeping.{Kept}
use Rattle.annot_simulation.specs.Code.{Valuation, type_of, type_of_width, valuation, width_of}
use Rattle.annot_simulation.specs.Numbered.{AreNumbered, IsNumbered}
use Rattle.annot_simulation.specs.Plan.{in_annotations, in_clause, in_term}
use Rattle.annot_simulation.specs.Validity.{Begins, IsValidValuation}
use Rattle.annot_simulation.proofs.Found.{EachOf}
use Rattle.annot_simulation.specs.Beside.{NoNames}
use Rattle.annot_simulation.proofs.ValidCode.{values_are_valid}
use Rattle.annot_simulation.proofs.ValidParts.{before_valid}
use Rattle.instrument.specs.LoopClauses.{behind_invariant, behind_invariants, compared_with, invariant_code, invariants_code, smaller, wanted}
use Rattle.instrument.proofs.RangedTrees.{AreRangedClauses}
use Rattle.instrument.proofs.Tables.{invariants_begin, begins_then}
use Rattle.instrument.proofs.Typed.{Knows, count_of_globals}
use Rattle.instrument.proofs.ValidAsserts.{assertion_valid, none_typed, stand}
use Rattle.instrument.proofs.Writable.{IsKeptTerm, left, right, term_writable}

-- ---- invariants

module _ (unit : TranslationUnit) (ts : Types) (bound : Bindings) (plan : List Kept) (view : AnnotationSight) (knows : Knows unit ts bound view.here) (alone : NoNames view.clause) (unbound : view.binders ≡ [])
    (many : IsNumber (length ts)) (gs : List Signature) (result : Option MonType) (ls : Labels) (outside : (i : ℕ) → has_label ls (tried_label i) ≡ false) where
  abbrev globals : ℕ
  globals = count_of_globals unit

  pub invariants_valid : (rs : Types) (l : List Annotation) → AreRangedClauses l → AnnotationsTyped view l → EachOf (IsKeptTerm unit bound plan globals ts) (in_annotations l) → AreNumbered l
      → Begins (behind_invariants unit bound plan rs l) ts → AreStatements globals gs ts result ls (invariants_code unit bound plan rs l)
  invariants_valid rs [] p q h k b = tt
  invariants_valid rs (a ∷ l) p q h k b =
      let here = behind_invariant unit bound plan rs a a.body in
      let Kept = IsKeptTerm unit bound plan globals ts in
      let first = begins_then here (behind_invariants unit bound plan here l) ts (invariants_begin unit bound plan here l) b in
      before_valid globals gs ts result ls (invariant_code unit bound plan rs a a.body) (invariants_code unit bound plan here l) (by a.body first)
      (invariants_valid here l (record { are = p.are.1; ranged = p.ranged.1 }) q.1 (right Kept (in_clause a.body) (in_annotations l) h) k.1 b)
    where
      by : (c : ClauseBody) → Begins (behind_invariant unit bound plan rs a c) ts → AreStatements globals gs ts result ls (invariant_code unit bound plan rs a c)
      by (Raw f) first = assertion_valid unit ts bound plan view knows alone unbound many gs result ls outside rs a p.are.0.body q.0 (left (IsKeptTerm unit bound plan globals ts) (in_clause a.body) (in_annotations l) h) p.ranged.0 k.0 first
      by (Holds x) first = assertion_valid unit ts bound plan view knows alone unbound many gs result ls outside rs a p.are.0.body q.0 (left (IsKeptTerm unit bound plan globals ts) (in_clause a.body) (in_annotations l) h) p.ranged.0 k.0 first
      by (logic.Value t) first = tt
      by (Behaviors names) first = assertion_valid unit ts bound plan view knows alone unbound many gs result ls outside rs a p.are.0.body q.0 (left (IsKeptTerm unit bound plan globals ts) (in_clause a.body) (in_annotations l) h) p.ranged.0 k.0 first

  -- the value of a variant
  pub value_valid : (rs : Types) (t : LogicTerm) → TermNumbered t → tokens_of_term t ≤ 400 → IsIntegerTerm t → TermTyped view t → EachOf (IsKeptTerm unit bound plan globals ts) (in_term t) → TermRanged [] t
      → Begins (valuation unit bound plan [] t rs).used ts → IsValidValuation globals gs ts result ls t (valuation unit bound plan [] t rs)
  value_valid rs t numbered few integer typed h ranged b =
      values_are_valid unit bound plan [] [] globals gs ts result ls t rs ranged many (none_typed unit ts bound plan view knows alone unbound) (λ i le is. outside i)
      (term_writable unit bound plan globals ts (IsKeptTerm unit bound plan globals ts) [] view (stand unit ts bound plan view knows alone unbound) t numbered typed h integer) few b

-- ---- a variant

-- what is known of it by its text
pub record IsVariant (unit : TranslationUnit) (plan : List Kept) (globals : ℕ) (ts : Types) (view : AnnotationSight) (bound : Bindings) (v : Annotation × LogicTerm) : Type 0 where
  pub numbered : IsNumbered v.0
  pub term : TermNumbered v.1
  pub few : tokens_of_term v.1 ≤ 400
  pub integer : IsIntegerTerm v.1
  pub typed : TermTyped view v.1
  pub kept : EachOf (IsKeptTerm unit bound plan globals ts) (in_term v.1)
  pub ranged : TermRanged [] v.1

pub is_variant : (unit : TranslationUnit) (plan : List Kept) (globals : ℕ) (ts : Types) (view : AnnotationSight) (bound : Bindings) (annots : List Annotation) (v : Annotation × LogicTerm) → variant annots ≡ Some v → AreRangedClauses annots
    → AnnotationsTyped view annots → EachOf (IsKeptTerm unit bound plan globals ts) (in_annotations annots) → AreNumbered annots → IsVariant unit plan globals ts view bound v
is_variant unit plan globals ts view bound [] v e p q h k = absurd cc
is_variant unit plan globals ts view bound (a ∷ rest) v e p q h k =
    let Kept = IsKeptTerm unit bound plan globals ts in
    by (λ f. is_variant unit plan globals ts view bound rest v f (record { are = p.are.1; ranged = p.ranged.1 }) q.1 (right Kept (in_clause a.body) (in_annotations rest) h) k.1) a.body e p.are.0.body p.ranged.0 q.0
    (left Kept (in_clause a.body) (in_annotations rest) h)
  where
    by : (variant rest ≡ Some v → IsVariant unit plan globals ts view bound v) → (c : ClauseBody) → variant_in a c (variant rest) ≡ Some v → IsShortClause c → ClauseRanged [] c → ClauseTyped view c
        → EachOf (IsKeptTerm unit bound plan globals ts) (in_clause c) → IsVariant unit plan globals ts view bound v
    by others (Raw f) e s r q h = others e
    by others (Holds x) e s r q h = others e
    by others (logic.Value t) e s r q h =
        let same : (a, t) ≡ v = cc in
        subst (IsVariant unit plan globals ts view bound) same (record { numbered = k.0; term = s.0; few = s.1; integer = q.0; typed = q.1; kept = h; ranged = r })
    by others (Behaviors names) e s r q h = others e

module _ (globals : ℕ) (gs : List Signature) (ts : Types) (result : Option MonType) (ls : Labels) where
  always : IsExpression globals ts (Constant I32 (pos 1)) I32
  always = record { typed = (refl, refl); within = omega arith }

  register_valid : (r : ℕ) → slice_get ts r ≡ Some I32 → IsExpression globals ts (Register r) I32
  register_valid r h = record { typed = h; within = omega arith }

  pub wanted_valid : (a : Annotation) (t : LogicTerm) (v : Valuation) → IsNumbered a → IsValidValuation globals gs ts result ls t v → AreStatements globals gs ts result ls (wanted a v)
  wanted_valid a t v k h =
      before_valid globals gs ts result ls v.stmts (one (Assert (Register v.flag) (Constant I32 (pos 1)) a.number a.place.line a.kind)) h.statements ((register_valid v.flag h.flag_type, always, k.number, k.line), tt)

  smaller_valid : (w : Width) (old new : ℕ) → slice_get ts old ≡ Some (type_of_width w) → slice_get ts new ≡ Some (type_of_width w) → IsExpression globals ts (smaller (type_of_width w) old new) I32
  smaller_valid W32 old new p q = record { typed = (refl, refl, (refl, refl, (refl, refl), p), (refl, refl, q, p)); within = omega arith }
  smaller_valid W64 old new p q = record { typed = (refl, refl, (refl, refl, (refl, refl), p), (refl, refl, q, p)); within = omega arith }
  smaller_valid W128 old new p q = record { typed = (refl, refl, (refl, refl, (refl, refl), p), (refl, refl, q, p)); within = omega arith }

  pub compared_valid : (a : Annotation) (t : LogicTerm) (old : ℕ) (v : Valuation) → IsNumbered a → slice_get ts old ≡ Some (type_of t) → IsValidValuation globals gs ts result ls t v
      → AreStatements globals gs ts result ls (compared_with a (type_of t) old v)
  compared_valid a t old v k there h =
      before_valid globals gs ts result ls (wanted a v) (one (Assert (Constant I32 (pos 1)) (smaller (type_of t) old v.value) a.number a.place.line a.kind)) (wanted_valid a t v k h)
      ((always, smaller_valid (width_of t) old v.value there h.value_type, k.number, k.line), tt)
