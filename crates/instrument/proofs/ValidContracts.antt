-- The code at passages of labels and that of a contract's checks is valid.
use Rattle.std.proofs.Common.{◌≡◌, ◌⊎◌, inl, inr, ℕ, suc, ◌+◌, ◌<◌, ◌≤◌, Bool, true, false, cond, List, [], ◌∷◌, ◌++◌, length, Option, Some, None, refl, sym, ap, ◌∙◌, subst, arith}
use Rattle.c_syntax.specs.declared.annotation.Kind.{Kind}
use Rattle.c_syntax.specs.declared.annotation.Kind.TheVariants as kind
use Rattle.c_syntax.specs.declared.expression.Use.{Use}
use Rattle.c_syntax.specs.Ctypes.{PlainType}
use Rattle.c_syntax.specs.Logic.{ClauseBody, Raw, Holds, Behaviors, Predicate, Annotation}
use Rattle.c_syntax.specs.Logic as logic
use Rattle.c_syntax.specs.Programs.{NamedBehavior, FunctionContract, Function, TranslationUnit}
use Rattle.c_model.specs.AnnotationSights.{AnnotationSight, sight_at}
use Rattle.c_model.specs.AnnotationTyping.{numbers_of_parameters}
use Rattle.c_model.specs.ContractChecks.{Check, result_number, is_requires, is_assumes, is_ensures, is_complete, is_disjoint, of_kind, of_behaviors, entry_checks, leave_checks}
use Rattle.c_model.specs.ContractTyping.{named_behaviors, names_of_behaviors, sight_of_clause}
use Rattle.c_model.specs.ExpressionTyping.{Sight, is_void}
use Rattle.c_model.specs.Formed.{IsShortClause, tokens_of_predicate}
use Rattle.c_model.specs.FormedContracts.{AreClausesOf, BehaviorsFormed, ContractFormed, IsBehaviorKind, IsCoverKind, IsOwnKind, NamesBehaviors}
use Rattle.c_model.specs.PredicateTyping.{sort_of, sort_of_type}
use Rattle.c_model.specs.TermRanges.{Seen, PredicateRanged}
use Rattle.c_model.specs.TypedAnnotations.{AreAmong, BehaviorsTyped, ClausesTyped, ContractStands, CoversTyped, IsSaidBy}
use Rattle.c_model.specs.TypedPredicates.{ClauseTyped}
use Rattle.c_model.specs.TypedTrees.{Denotes}
use Rattle.c_model.specs.Unranged.{AnnotationsRanged, ClauseRanged}
use Rattle.c_model.specs.UnrangedPrograms.{BehaviorsRanged}
use Rattle.mon_syntax.specs.declared.tree.MonType.TheVariants.{Ptr}
use Rattle.mon_syntax.specs.Registers.{Bindings}
use Rattle.mon_syntax.specs.Valid.{Types, HasType}
use Rattle.c_effects.specs.Expressions.{pointer_to}
use Rattle.c_simulation.specs.Keeping.{Kept, is_pointer_sort}
use Rattle.annot_code.specs.Checks.{annotations_of}
use Rattle.annot_simulation.specs.ContractValidity.{AreCheckable, AreKeepable, ClauseWritable}
use Rattle.annot_simulation.specs.Held.{Held, sort_held, sorts_held}
use Rattle.annot_simulation.specs.Numbered.{AreNumbered}
use Rattle.annot_simulation.specs.Plan.{Entry, in_annotations, in_behaviors, in_clause, in_contract}
use Rattle.annot_simulation.specs.Validity.{PredicateWritable}
use Rattle.annot_simulation.proofs.Found.{EachOf, past_label}
use Rattle.instrument.specs.Limits.{ContractHasNumbers}
use Rattle.instrument.proofs.ContractGood.{are_named, no_value}
use Rattle.instrument.proofs.Keepable.{KeepableAt}
use Rattle.instrument.proofs.KeptRegisters.{PlanTyped}
use Rattle.instrument.proofs.Writable.{CanStand, IsKeptTerm, left, right, predicate_writable, typed_apart, under_writable}

-- ---- passages of labels

-- the terms of a label can be kept, where there are pointers to what is in sight
pub are_keepable : (p : TranslationUnit) (bound : Bindings) (globals : ℕ) (ts : Types) (There : Sight → Type 0) → ((v : Sight) → There v → (x : Use) (t : PlainType) → Denotes v x t → HasType globals ts (pointer_to p bound x.decl) Ptr)
    → (l : Option ℕ) (ks : List Kept) → KeepableAt ks There l → PlanTyped ts ks → AreKeepable p bound globals ts l ks
are_keepable p bound globals ts There objects l [] h typed = tt
are_keepable p bound globals ts There objects l (k ∷ ks) h typed = (
  λ same.
      let e = h.0 same in
      (e.0.ranged, under_writable p bound globals ts e.0.view e.0.sight (objects e.0.sight e.1) k.term e.0.numbered e.0.typed e.0.side, e.0.few, typed.0),
  are_keepable p bound globals ts There objects l ks h.1 typed.1,
)

-- ---- checks

module _ (p : TranslationUnit) (bound : Bindings) (plan : List Kept) (held : List Held) (seen : Seen) (globals : ℕ) (ts : Types) (bs : List NamedBehavior) (count : ℕ) where
  -- what is known of checks besides the numbers of their annotations
  abbrev Checkable : List Check → Type 0
  Checkable [] = Unit {0}
  Checkable (c ∷ cs) =
      ClauseWritable p bound plan held seen globals ts bs c.annotation.body × ((k : ℕ) → c.behavior ≡ Some k → k < count)
      × (is_assumes c.annotation.kind ≡ true → (q : Predicate) × (c.annotation.body ≡ Holds q)) × Checkable cs

  numbered : (cs : List Check) → AreNumbered (annotations_of cs) → Checkable cs → AreCheckable p bound plan held seen globals ts bs count cs
  numbered [] n f = tt
  numbered (c ∷ cs) n f = (n.0, f.0, f.1, f.2, numbered cs n.1 f.3)

  -- a predicate that keeps its ranges, can be written and is short
  abbrev CanWrite : Predicate → Type 0
  CanWrite q = PredicateRanged seen q × PredicateWritable p bound plan globals ts (sorts_held held) q × (tokens_of_predicate q ≤ 400)

  -- clauses of a kind, each a predicate
  abbrev KindCan : (Kind → Bool) → List Annotation → Type 0
  KindCan is [] = Unit {0}
  KindCan is (a ∷ rest) = (is a.kind ≡ true → (q : Predicate) × (a.body ≡ Holds q) × CanWrite q) × KindCan is rest

  abbrev BehaviorsCan : (Kind → Bool) → List NamedBehavior → Type 0
  BehaviorsCan is [] = Unit {0}
  BehaviorsCan is (b ∷ cs) = KindCan is b.clauses × BehaviorsCan is cs

  both : (xs ys : List Check) → Checkable xs → Checkable ys → Checkable (xs ++ ys)
  both [] ys f g = g
  both (x ∷ xs) ys f g = (f.0, f.1, f.2, both xs ys f.3 g)

  of_clauses : (is : Kind → Bool) (o : Option ℕ) → ((k : ℕ) → o ≡ Some k → k < count) → (annots : List Annotation) → KindCan is annots → Checkable (of_kind is o annots)
  of_clauses is o below [] g = tt
  of_clauses is o below (a ∷ rest) g = by (is a.kind) refl (of_clauses is o below rest g.1)
    where
      by : (t : Bool) → is a.kind ≡ t → Checkable (of_kind is o rest) → Checkable (cond t (record { annotation = a; behavior = o } ∷ of_kind is o rest) (of_kind is o rest))
      by false e later = later
      by true e later =
          let q = g.0 e in
          (subst (ClauseWritable p bound plan held seen globals ts bs) (sym q.1) q.2, below, λ assumes. (q.0, q.1), later)

  of_all_behaviors : (is : Kind → Bool) (k : ℕ) (cs : List NamedBehavior) → k + length cs ≤ count → BehaviorsCan is cs → Checkable (of_behaviors is k cs)
  of_all_behaviors is k [] le g = tt
  of_all_behaviors is k (c ∷ cs) le g =
      both (of_kind is (Some k) c.clauses) (of_behaviors is (suc k) cs) (of_clauses is (Some k) (λ j e. let same : k ≡ j = cc in omega (arith, le, same)) c.clauses g.0) (of_all_behaviors is (suc k) cs (omega (arith, le)) g.1)

  -- clauses that name behaviors
  no_assumption : (k : Kind) → IsCoverKind k → is_assumes k ≡ true → ⊥
  no_assumption kind.Complete c e = cc
  no_assumption kind.Disjoint c e = cc
  no_assumption kind.Requires c e = c
  no_assumption kind.Assumes c e = c
  no_assumption kind.Ensures c e = c
  no_assumption kind.Assert c e = c
  no_assumption kind.Invariant c e = c
  no_assumption kind.Variant c e = c
  no_assumption kind.Rte c e = c

  cover_can : (b : ClauseBody) → NamesBehaviors b → AreAmong (names_of_behaviors bs) (named_behaviors b) → ClauseWritable p bound plan held seen globals ts bs b
  cover_can (Raw g) n among = absurd n
  cover_can (Holds q) n among = absurd n
  cover_can (logic.Value t) n among = absurd n
  cover_can (Behaviors names) n among = are_named bs names among

  of_covers : (is : Kind → Bool) (annots : List Annotation) → AreClausesOf IsCoverKind NamesBehaviors annots → CoversTyped (names_of_behaviors bs) annots → Checkable (of_kind is None annots)
  of_covers is [] formed typed = tt
  of_covers is (a ∷ rest) formed typed = by (is a.kind) (of_covers is rest formed.1 typed.1)
    where
      by : (t : Bool) → Checkable (of_kind is None rest) → Checkable (cond t (record { annotation = a; behavior = None } ∷ of_kind is None rest) (of_kind is None rest))
      by false later = later
      by true later = (cover_can a.body formed.0.body typed.0, λ k e. absurd cc, λ e. absurd (no_assumption a.kind formed.0.kind e), later)

  -- ---- clauses that are typed

  module _ (views : Kind → AnnotationSight) (P : Kind → Entry → Type 0) where
    -- where clauses of such kinds stand
    abbrev StandBy : (Kind → Bool) → Type 0
    StandBy is = (k : Kind) → is k ≡ true → CanStand p bound plan globals ts (sorts_held held) (views k) (P k)

    clause_can : (k : Kind) → CanStand p bound plan globals ts (sorts_held held) (views k) (P k) → (b : ClauseBody) → (k ≡ kind.Variant → ⊥) → IsSaidBy k b → ClauseTyped (views k) b → ClauseRanged seen b → IsShortClause b
        → EachOf (P k) (in_clause b) → (q : Predicate) × (b ≡ Holds q) × CanWrite q
    clause_can k stand (Raw g) other said t r s h = absurd t
    clause_can k stand (Holds q) other said t r s h =
        (q, refl, (r, predicate_writable p bound plan globals ts (P k) (sorts_held held) (views k) stand q s.numbered t (inr (typed_apart (views k) q t)) h, s.short))
    clause_can k stand (logic.Value x) other said t r s h = absurd (other (no_value k x said))
    clause_can k stand (Behaviors names) other said t r s h = absurd t

    -- each entry is as all kinds want it
    abbrev EachKind : List Entry → Type 0
    EachKind xs = (k : Kind) → EachOf (P k) xs

    kind_left : (a b : List Entry) → EachKind (a ++ b) → EachKind a
    kind_left a b h k = left (P k) a b (h k)

    kind_right : (a b : List Entry) → EachKind (a ++ b) → EachKind b
    kind_right a b h k = right (P k) a b (h k)

    clauses_can : (is : Kind → Bool) → StandBy is → (IsKind : Kind → Type 0) → (IsKind kind.Variant → ⊥) → (annots : List Annotation) → ClausesTyped views annots → AnnotationsRanged seen annots → AreClausesOf IsKind IsShortClause annots
        → EachKind (in_annotations annots)
        → KindCan is annots
    clauses_can is stand IsKind others [] t r s h = tt
    clauses_can is stand IsKind others (a ∷ rest) t r s h = (
      λ e. clause_can a.kind (stand a.kind e) a.body (λ same. others (subst IsKind same s.0.kind)) t.1 t.0 r.0 s.0.body (kind_left (in_clause a.body) (in_annotations rest) h a.kind),
      clauses_can is stand IsKind others rest t.2 r.1 s.1 (kind_right (in_clause a.body) (in_annotations rest) h),
    )

    behaviors_can : (is : Kind → Bool) → StandBy is → (cs : List NamedBehavior) → BehaviorsTyped views cs → BehaviorsRanged seen cs → BehaviorsFormed IsShortClause cs → EachKind (in_behaviors cs) → BehaviorsCan is cs
    behaviors_can is stand [] t r s h = tt
    behaviors_can is stand (b ∷ cs) t r s h = (
      clauses_can is stand IsBehaviorKind (λ i. i) b.clauses t.0 r.0 s.0 (kind_left (in_annotations b.clauses) (in_behaviors cs) h),
      behaviors_can is stand cs t.1 r.1 s.1 (kind_right (in_annotations b.clauses) (in_behaviors cs) h),
    )

-- ---- all checks of a contract

module _ (p : TranslationUnit) (f : Function) (c : FunctionContract) (stands : ContractStands p f c) (formed : ContractFormed IsShortClause c) (seen : Seen) (own : AnnotationsRanged seen c.clauses)
    (others : BehaviorsRanged seen c.behaviors) (flag : ℕ) (numbers : ContractHasNumbers flag (Some c)) (globals : ℕ) (ts : Types) (bound : Bindings)
    (objects : (x : Use) (t : PlainType) → Denotes stands.seen x t → HasType globals ts (pointer_to p bound x.decl) Ptr) where
  abbrev views : Kind → AnnotationSight
  views = sight_of_clause stands.seen (numbers_of_parameters f.params) f.result

  abbrev bs : List NamedBehavior
  bs = c.behaviors

  -- at the beginning no name and no label is known
  no_past : (l : Option ℕ) (u : AnnotationSight) → sight_at (views kind.Requires) (past_label l) ≡ Some u → ⊥
  no_past None u e = cc
  no_past (Some l) u e = cc

  first : CanStand p bound [] globals ts [] (views kind.Requires) (λ x. Unit {0})
  first = record { object = objects; name = λ t x i. absurd i; binder = λ x i. absurd i; kept = λ l a u e h. absurd (no_past l u e) }

  at_entry : (k : Kind) → is_requires k ≡ true ⊎ is_assumes k ≡ true → CanStand p bound [] globals ts [] (views k) (λ x. Unit {0})
  at_entry kind.Requires h = first
  at_entry kind.Assumes h = first
  at_entry kind.Assert h = first
  at_entry kind.Complete h = first
  at_entry kind.Disjoint h = first
  at_entry kind.Invariant h = first
  at_entry kind.Variant h = first
  at_entry kind.Rte h = first
  at_entry kind.Ensures (inl e) = absurd cc
  at_entry kind.Ensures (inr e) = absurd cc

  pub entry_checkable : AreCheckable p bound [] [] seen globals ts bs (length bs) (entry_checks c)
  entry_checkable =
      let count = length bs in
      let Wanted : Kind → Entry → Type 0 = λ k x. Unit {0} in
      let requires : (k : Kind) → is_requires k ≡ true → CanStand p bound [] globals ts [] (views k) (λ x. Unit {0}) = λ k e. at_entry k (inl e) in
      let assumes : (k : Kind) → is_assumes k ≡ true → CanStand p bound [] globals ts [] (views k) (λ x. Unit {0}) = λ k e. at_entry k (inr e) in
      let first_own = of_kind is_requires None c.clauses in
      let assumed = of_behaviors is_assumes 0 bs in
      let required = of_behaviors is_requires 0 bs in
      let complete = of_kind is_complete None c.covers in
      let disjoint = of_kind is_disjoint None c.covers in
      numbered p bound [] [] seen globals ts bs count (entry_checks c) numbers.0
      (both p bound [] [] seen globals ts bs count first_own (assumed ++ (required ++ (complete ++ disjoint)))
      (of_clauses p bound [] [] seen globals ts bs count is_requires None (λ k e. absurd cc) c.clauses
      (clauses_can p bound [] [] seen globals ts bs count views Wanted is_requires requires IsOwnKind (λ i. i) c.clauses stands.typed.clauses own formed.clauses (λ k x i. tt)))
      (both p bound [] [] seen globals ts bs count assumed (required ++ (complete ++ disjoint))
      (of_all_behaviors p bound [] [] seen globals ts bs count is_assumes 0 bs (omega arith)
      (behaviors_can p bound [] [] seen globals ts bs count views Wanted is_assumes assumes bs stands.typed.behaviors others formed.behaviors (λ k x i. tt)))
      (both p bound [] [] seen globals ts bs count required (complete ++ disjoint)
      (of_all_behaviors p bound [] [] seen globals ts bs count is_requires 0 bs (omega arith)
      (behaviors_can p bound [] [] seen globals ts bs count views Wanted is_requires requires bs stands.typed.behaviors others formed.behaviors (λ k x i. tt)))
      (both p bound [] [] seen globals ts bs count complete disjoint (of_covers p bound [] [] seen globals ts bs count is_complete c.covers formed.covers stands.typed.covers)
      (of_covers p bound [] [] seen globals ts bs count is_disjoint c.covers formed.covers stands.typed.covers)))))

  -- at the end the terms of the contract are kept, and what the function gives has a name
  module _ (plan : List Kept) (held : List Held) (result : is_void f.result ≡ false → sort_held result_number (sorts_held held) ≡ Some (is_pointer_sort (sort_of_type f.result))) where
    abbrev HasOwn : Entry → Type 0
    HasOwn = IsKeptTerm p bound plan globals ts

    last : CanStand p bound plan globals ts (sorts_held held) (views kind.Ensures) HasOwn
    last = record {
      object = objects;
      name = λ t x i. ap (λ d. sort_held d (sorts_held held)) i.0 ∙ result i.2 ∙ ap (λ t. Some (is_pointer_sort (sort_of t))) (sym i.1);
      binder = λ x i. absurd i;
      kept = λ l a u e h. h;
    }

    at_end : (k : Kind) → is_ensures k ≡ true → CanStand p bound plan globals ts (sorts_held held) (views k) HasOwn
    at_end kind.Ensures e = last
    at_end kind.Requires e = absurd cc
    at_end kind.Assumes e = absurd cc
    at_end kind.Assert e = absurd cc
    at_end kind.Complete e = absurd cc
    at_end kind.Disjoint e = absurd cc
    at_end kind.Invariant e = absurd cc
    at_end kind.Variant e = absurd cc
    at_end kind.Rte e = absurd cc

    pub leave_checkable : EachOf HasOwn (in_contract (Some c)) → AreCheckable p bound plan held seen globals ts bs (length bs) (leave_checks c)
    leave_checkable h =
        let count = length bs in
        let mine = left HasOwn (in_annotations c.clauses) (in_behaviors bs) h in
        let theirs = right HasOwn (in_annotations c.clauses) (in_behaviors bs) h in
        numbered p bound plan held seen globals ts bs count (leave_checks c) numbers.1
        (both p bound plan held seen globals ts bs count (of_kind is_ensures None c.clauses) (of_behaviors is_ensures 0 bs)
        (of_clauses p bound plan held seen globals ts bs count is_ensures None (λ k e. absurd cc) c.clauses
        (clauses_can p bound plan held seen globals ts bs count views (λ k. HasOwn) is_ensures at_end IsOwnKind (λ i. i) c.clauses stands.typed.clauses own formed.clauses (λ k. mine)))
        (of_all_behaviors p bound plan held seen globals ts bs count is_ensures 0 bs (omega arith)
        (behaviors_can p bound plan held seen globals ts bs count views (λ k. HasOwn) is_ensures at_end bs stands.typed.behaviors others formed.behaviors (λ k. theirs))))
