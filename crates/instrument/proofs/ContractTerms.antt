-- The terms that a function's contract keeps are those at the beginning of a call: they keep their ranges, and what they read is found there.
use Rattle.std.proofs.Common.{◌≡◌, ◌⊎◌, inl, inr, ℕ, zero, suc, Bool, true, false, cond, nat_eq, List, [], ◌∷◌, ◌++◌, Option, Some, None, slice_get, refl, sym, ap, ◌∙◌, subst}
use Rattle.std.proofs.lemmas.Bool.{eq-eqb}
use Rattle.c_syntax.specs.declared.annotation.Kind.{Kind}
use Rattle.c_syntax.specs.declared.annotation.Kind.TheVariants as kind
use Rattle.c_syntax.specs.declared.expression.Use.{Use}
use Rattle.c_syntax.specs.Ctypes.{PlainType}
use Rattle.c_syntax.specs.Statements.{Declaration}
use Rattle.c_syntax.specs.Logic.{ClauseBody, Raw, Holds, Behaviors, Annotation}
use Rattle.c_syntax.specs.Logic as logic
use Rattle.c_syntax.specs.Programs.{NamedBehavior, FunctionContract, Function, TranslationUnit}
use Rattle.c_model.specs.AnnotationSights.{AnnotationSight, under_label}
use Rattle.c_model.specs.AnnotationTyping.{numbers_of_parameters}
use Rattle.c_model.specs.ContractTyping.{sight_of_clause}
use Rattle.c_model.specs.ExpressionTyping.{Sight, Object}
use Rattle.c_model.specs.Formed.{number_of}
use Rattle.c_model.specs.State.{Scope, find}
use Rattle.c_model.specs.TermRanges.{Seen}
use Rattle.c_model.specs.TypedAnnotations.{ClausesTyped, BehaviorsTyped, ContractStands, IsOwn, OfFunction, OfFile}
use Rattle.c_model.specs.TypedPredicates.{ClauseTyped}
use Rattle.c_model.specs.TypedTrees.{Denotes}
use Rattle.c_model.specs.Unranged.{ClauseRanged, AnnotationsRanged}
use Rattle.c_model.specs.UnrangedPrograms.{BehaviorsRanged}
use Rattle.annot_simulation.specs.Plan.{Entry, IsIn, in_annotations, in_behaviors, in_clause, in_contract}
use Rattle.annot_simulation.proofs.Found.{under_found}
use Rattle.annot_simulation.proofs.TypedEntries.{EntryStands, sight_of, predicate_stands, term_alone, value_stands}
use Rattle.instrument.proofs.Births.{names_of, with_numbers}
use Rattle.instrument.proofs.CheckedFunctions.{AtBeginning}
use Rattle.instrument.proofs.KeptFunctions.{IsSeen, in_either}
use Rattle.instrument.proofs.Numbers.{numbers_in}

-- ---- what is in scope

abbrev Among : ℕ → List ℕ → Type 0
Among x [] = ⊥
Among x (y ∷ ys) = (y ≡ x) ⊎ Among x ys

abbrev IsThere : ℕ → Scope → Type 0
IsThere x scope = (number : ℕ) × (find x scope ≡ Some number)

found_among : (x : ℕ) (scope : Scope) → Among x (names_of scope) → IsThere x scope
found_among x [] i = absurd i
found_among x (e ∷ rest) i = by (nat_eq e.0 x) refl i (λ i. found_among x rest i)
  where
    by : (t : Bool) → nat_eq e.0 x ≡ t → (e.0 ≡ x) ⊎ Among x (names_of rest) → (Among x (names_of rest) → IsThere x rest) → (number : ℕ) × (cond t (Some e.1) (find x rest) ≡ Some number)
    by true t i go = (e.1, refl)
    by false t (inl same) go = let here : nat_eq e.0 x ≡ true = eq-eqb e.0 x same in absurd cc
    by false t (inr i) go = go i

among_older : (x : ℕ) (ds : List Declaration) (living : List ℕ) → Among x living → Among x (with_numbers ds living)
among_older x [] living i = i
among_older x (d ∷ ds) living i = among_older x ds (number_of d ∷ living) (inr i)

among_newer : (x n : ℕ) (ds : List Declaration) (d : Declaration) (living : List ℕ) → slice_get ds n ≡ Some d → x ≡ number_of d → Among x (with_numbers ds living)
among_newer x n [] d living e same = absurd cc
among_newer x zero (y ∷ ds) d living e same = let is : y ≡ d = cc in among_older x ds (number_of y ∷ living) (inl (ap number_of is ∙ sym same))
among_newer x (suc n) (y ∷ ds) d living e same = among_newer x n ds d (number_of y ∷ living) e same

among_globals : (x n : ℕ) (ds : List Declaration) (d : Declaration) → slice_get ds n ≡ Some d → x ≡ number_of d → Among x (numbers_in ds)
among_globals x n [] d e same = absurd cc
among_globals x zero (y ∷ ds) d e same = let is : y ≡ d = cc in inl (ap number_of is ∙ sym same)
among_globals x (suc n) (y ∷ ds) d e same = inr (among_globals x n ds d e same)

module _ (p : TranslationUnit) (f : Function) where
  own_among : (b : Object) → IsOwn p f b → Among b.decl (with_numbers f.params (numbers_in p.globals))
  own_among b (OfFunction n d e at t) = among_newer b.decl n f.params d (numbers_in p.globals) e at
  own_among b (OfFile n d e at t) = among_older b.decl f.params (numbers_in p.globals) (among_globals b.decl n p.globals d e at)

  module _ (c : FunctionContract) (stands : ContractStands p f c) where
    abbrev here : Sight
    here = stands.seen

    abbrev formals : List ℕ
    formals = numbers_of_parameters f.params

    abbrev views : Kind → AnnotationSight
    views = sight_of_clause here formals f.result

    -- an object that the contract names is there
    pub own_there : (scope : Scope) → AtBeginning p f scope → (x : Use) (t : PlainType) → Denotes here x t → IsThere x.decl scope
    own_there scope names x t d =
        found_among x.decl scope
        (subst (Among x.decl) (sym names) (subst (λ y. Among y (with_numbers f.params (numbers_in p.globals))) (sym d.decl) (own_among d.object (stands.owned x.name d.object d.found))))

    -- ---- the entries of a clause

    abbrev pub IsKept : Entry → Type 0
    IsKept x = (x.0 ≡ None) × IsSeen (AtBeginning p f) x

    either : (xs ys : List Entry) (x : Entry) → IsIn x (xs ++ ys) → (IsIn x xs → IsKept x) → (IsIn x ys → IsKept x) → IsKept x
    either xs ys x i f g = by (in_either xs ys x i)
      where
        by : IsIn x xs ⊎ IsIn x ys → IsKept x
        by (inl j) = f j
        by (inr j) = g j

    -- it is one of the beginning, where the contract stands
    pub of_kind : (k : Kind) (o : Option ℕ) (v : Sight) → sight_of (views k) o ≡ Some v → (o ≡ None) × (v ≡ here)
    of_kind kind.Ensures None v e = (refl, cc)
    of_kind kind.Ensures (Some l) v e = absurd cc
    of_kind kind.Assert None v e = absurd cc
    of_kind kind.Assert (Some l) v e = absurd cc
    of_kind kind.Requires None v e = absurd cc
    of_kind kind.Requires (Some l) v e = absurd cc
    of_kind kind.Assumes None v e = absurd cc
    of_kind kind.Assumes (Some l) v e = absurd cc
    of_kind kind.Complete None v e = absurd cc
    of_kind kind.Complete (Some l) v e = absurd cc
    of_kind kind.Disjoint None v e = absurd cc
    of_kind kind.Disjoint (Some l) v e = absurd cc
    of_kind kind.Invariant None v e = absurd cc
    of_kind kind.Invariant (Some l) v e = absurd cc
    of_kind kind.Variant None v e = absurd cc
    of_kind kind.Variant (Some l) v e = absurd cc
    of_kind kind.Rte None v e = absurd cc
    of_kind kind.Rte (Some l) v e = absurd cc

    entry_kept : (seen : Seen) (k : Kind) (x : Entry) → EntryStands (views k) seen x → IsKept x
    entry_kept seen k x e =
        let is = of_kind k x.0 e.sight e.there in (
          is.0,
          (
            term_alone seen (under_label (views k) e.sight) (λ t x i. i) (λ x i. i) x.1 e.typed e.ranged,
            λ scope names. under_found (views k) e.sight scope (λ x t d. own_there scope names x t (subst (λ v. Denotes v x t) is.1 d)) x.1 e.typed e.side,
          ),
        )

    clause_kept : (seen : Seen) (k : Kind) (b : ClauseBody) → ClauseTyped (views k) b → ClauseRanged seen b → (x : Entry) → IsIn x (in_clause b) → IsKept x
    clause_kept seen k (Raw g) q r x i = absurd q
    clause_kept seen k (Holds b) q r x i = entry_kept seen k x (predicate_stands (views k) seen b q r x i)
    clause_kept seen k (logic.Value t) q r x i = entry_kept seen k x (value_stands (views k) seen t q.0 q.1 r x i)
    clause_kept seen k (Behaviors names) q r x i = absurd q

    clauses_kept : (seen : Seen) (annots : List Annotation) → ClausesTyped views annots → AnnotationsRanged seen annots → (x : Entry) → IsIn x (in_annotations annots) → IsKept x
    clauses_kept seen [] q r x i = absurd i
    clauses_kept seen (a ∷ rest) q r x i = either (in_clause a.body) (in_annotations rest) x i (λ j. clause_kept seen a.kind a.body q.0 r.0 x j) (λ j. clauses_kept seen rest q.2 r.1 x j)

    behaviors_kept : (seen : Seen) (bs : List NamedBehavior) → BehaviorsTyped views bs → BehaviorsRanged seen bs → (x : Entry) → IsIn x (in_behaviors bs) → IsKept x
    behaviors_kept seen [] q r x i = absurd i
    behaviors_kept seen (b ∷ bs) q r x i = either (in_annotations b.clauses) (in_behaviors bs) x i (λ j. clauses_kept seen b.clauses q.0 r.0 x j) (λ j. behaviors_kept seen bs q.1 r.1 x j)

    pub contract_kept : (seen : Seen) → AnnotationsRanged seen c.clauses → BehaviorsRanged seen c.behaviors → (x : Entry) → IsIn x (in_contract (Some c)) → IsKept x
    contract_kept seen own others x i =
        either (in_annotations c.clauses) (in_behaviors c.behaviors) x i (λ j. clauses_kept seen c.clauses stands.typed.clauses own x j)
        (λ j. behaviors_kept seen c.behaviors stands.typed.behaviors others x j)
