-- Translated annotations are valid.
use Rattle.std.proofs.Common.{◌≡◌, ℕ, pos, false, List, [], ◌∷◌, ◌++◌, length, Option, Some, slice_get, refl, subst, inl, arith}
use Rattle.c_syntax.specs.declared.expression.Use.{Use}
use Rattle.c_syntax.specs.Ctypes.{PlainType}
use Rattle.c_syntax.specs.Logic.{ClauseBody, Raw, Holds, Value, Behaviors, Annotation}
use Rattle.c_syntax.specs.Programs.{TranslationUnit}
use Rattle.c_model.specs.AnnotationSights.{AnnotationSight}
use Rattle.c_model.specs.ExpressionTyping.{Sight}
use Rattle.c_model.specs.Formed.{IsShortClause}
use Rattle.c_model.specs.TypedPredicates.{IsBound, ClauseTyped, AnnotationsTyped}
use Rattle.c_model.specs.TypedTrees.{Denotes}
use Rattle.c_model.specs.Unranged.{ClauseRanged}
use Rattle.mon_syntax.specs.declared.tree.MonType.{MonType}
use Rattle.mon_syntax.specs.declared.tree.MonType.TheVariants.{I32, Ptr}
use Rattle.mon_syntax.specs.Registers.{Bindings}
use Rattle.mon_syntax.specs.Trees.{Constant, Register, Assert}
use Rattle.mon_syntax.specs.Valid.{Types, HasType, IsExpression, AreStatements, Labels, Signature, has_label}
use Rattle.quantifier_loops.specs.Laws.{IsNumber}
use Rattle.quantifier_loops.specs.Upward.{tried_label}
use Rattle.c_effects.specs.Expressions.{one, pointer_to}
use Rattle.c_simulation.specs.Keeping.{Kept}
use Rattle.annot_simulation.specs.Code.{clause_judgement, nothing_said, assertion, assertions, behind_assertion, behind_assertions}
use Rattle.annot_simulation.specs.Numbered.{IsNumbered, AreNumbered}
use Rattle.annot_simulation.specs.Plan.{in_annotations, in_clause}
use Rattle.annot_simulation.specs.Validity.{IsValidCode, Begins, HeldTyped}
use Rattle.annot_simulation.proofs.Asserted.{behind_begins}
use Rattle.annot_simulation.proofs.Found.{EachOf}
use Rattle.annot_simulation.specs.Beside.{NoNames}
use Rattle.annot_simulation.proofs.ValidCode.{code_is_valid}
use Rattle.annot_simulation.proofs.ValidParts.{before_valid}
use Rattle.instrument.proofs.RangedTrees.{AreRangedAsserts}
use Rattle.instrument.proofs.Typed.{Knows, begins_front, count_of_globals, register_at, seen, pointer_typed}
use Rattle.instrument.proofs.Writable.{CanStand, IsKeptTerm, left, right, predicate_writable}

-- what is in sight has pointers
pub pointer_has : (unit : TranslationUnit) (ts : Types) (bound : Bindings) (s : Sight) → Knows unit ts bound s → (x : Use) (t : PlainType) → Denotes s x t → HasType (count_of_globals unit) ts (pointer_to unit bound x.decl) Ptr
pointer_has unit ts bound s knows x t d = pointer_typed unit ts bound s knows x.decl (seen unit ts bound s knows x t d).has

module _ (unit : TranslationUnit) (ts : Types) (bound : Bindings) (plan : List Kept) (view : AnnotationSight) (knows : Knows unit ts bound view.here) (alone : NoNames view.clause) (unbound : view.binders ≡ []) where
  abbrev globals : ℕ
  globals = count_of_globals unit

  pub stand : CanStand unit bound plan globals ts [] view (IsKeptTerm unit bound plan globals ts)
  stand = record {
    object = pointer_has unit ts bound view.here knows;
    name = λ t x i. absurd (alone t x i);
    binder = λ x i. absurd (subst (λ bs. IsBound bs x) unbound i);
    kept = λ l a u e h. h;
  }

  -- no name is held
  pub none_typed : HeldTyped ts []
  none_typed x h e = absurd cc

  module _ (many : IsNumber (length ts)) (gs : List Signature) (result : Option MonType) (ls : Labels) (outside : (i : ℕ) → has_label ls (tried_label i) ≡ false) where
    abbrev Are : MonType → ℕ → Type 0
    Are t r = slice_get ts r ≡ Some t

    register_valid : (r : ℕ) → Are I32 r → IsExpression globals ts (Register r) I32
    register_valid r h = record { typed = h; within = omega arith }

    -- what isn't judged by itself
    nothing_valid : (rs : Types) → Begins (nothing_said rs).used ts → IsValidCode globals gs ts result ls (nothing_said rs)
    nothing_valid rs b =
        let r = length rs in
        let q = length (rs ++ I32 ∷ []) in
        let flag : Are I32 r = register_at rs ts I32 (begins_front (rs ++ I32 ∷ []) (I32 ∷ []) ts b) in
        let truth : Are I32 q = register_at (rs ++ I32 ∷ []) ts I32 b in
        let zero : IsExpression globals ts (Constant I32 (pos 0)) I32 = record { typed = (refl, refl); within = omega arith } in
        record {
          statements = ((I32, flag, zero), ((register_valid r flag, ((I32, truth, zero), tt), ((I32, truth, zero), tt)), tt));
          deep = omega arith;
          parens = omega arith;
          flag_type = flag;
          truth_type = truth;
        }

    clause_valid : (rs : Types) (c : ClauseBody) → IsShortClause c → ClauseTyped view c → EachOf (IsKeptTerm unit bound plan globals ts) (in_clause c) → ClauseRanged [] c → Begins (clause_judgement unit bound plan [] c rs).used ts
        → IsValidCode globals gs ts result ls (clause_judgement unit bound plan [] c rs)
    clause_valid rs (Raw f) p q h r b = absurd p
    clause_valid rs (Holds c) p q h r b =
        code_is_valid unit bound plan [] [] globals gs ts result ls c rs r many none_typed (λ i le is. outside i)
        (predicate_writable unit bound plan globals ts (IsKeptTerm unit bound plan globals ts) [] view stand c p.numbered q (inl alone) h) p.short b
    clause_valid rs (Value t) p q h r b = nothing_valid rs b
    clause_valid rs (Behaviors names) p q h r b = absurd q

    pub assertion_valid : (rs : Types) (a : Annotation) → IsShortClause a.body → ClauseTyped view a.body → EachOf (IsKeptTerm unit bound plan globals ts) (in_clause a.body) → ClauseRanged [] a.body → IsNumbered a
        → Begins (behind_assertion unit bound plan [] rs a) ts → AreStatements globals gs ts result ls (assertion unit bound plan [] rs a)
    assertion_valid rs a p q h r k b =
        let j = clause_judgement unit bound plan [] a.body rs in
        let v = clause_valid rs a.body p q h r b in
        before_valid globals gs ts result ls j.stmts (one (Assert (Register j.flag) (Register j.truth) a.number a.place.line a.kind)) v.statements
        ((register_valid j.flag v.flag_type, register_valid j.truth v.truth_type, k.number, k.line), tt)

    pub assertions_valid : (rs : Types) (l : List Annotation) → AreRangedAsserts l → AnnotationsTyped view l → EachOf (IsKeptTerm unit bound plan globals ts) (in_annotations l) → AreNumbered l
        → Begins (behind_assertions unit bound plan [] rs l) ts → AreStatements globals gs ts result ls (assertions unit bound plan [] rs l)
    assertions_valid rs [] p q h k b = tt
    assertions_valid rs (a ∷ l) p q h k b =
        let here = behind_assertion unit bound plan [] rs a in
        let Kept = IsKeptTerm unit bound plan globals ts in
        before_valid globals gs ts result ls (assertion unit bound plan [] rs a) (assertions unit bound plan [] here l)
        (assertion_valid rs a p.are.0.body q.0 (left Kept (in_clause a.body) (in_annotations l) h) p.ranged.0 k.0 (behind_begins ts unit bound plan [] here l b))
        (assertions_valid here l (record { are = p.are.1; ranged = p.ranged.1 }) q.1 (right Kept (in_clause a.body) (in_annotations l) h) k.1 b)
