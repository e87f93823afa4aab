-- The clauses of a function's contract are typed and keep their ranges where they are checked (`ClausesStand`).
use Rattle.std.proofs.Common.{◌≡◌, ◌⊎◌, inl, inr, ℕ, suc, ◌+◌, ◌<◌, ◌≤◌, Bool, true, false, cond, ◌||◌, nat_eq, List, [], ◌∷◌, ◌++◌, length, Option, Some, None, refl, sym, subst, arith}
use Rattle.c_syntax.specs.declared.place.Place.{Place}
use Rattle.c_syntax.specs.declared.annotation.Kind.{Kind}
use Rattle.c_syntax.specs.declared.annotation.Kind.TheVariants as kind
use Rattle.c_syntax.specs.Logic.{ClauseBody, LogicTerm, Raw, Holds, Behaviors, Predicate, Annotation}
use Rattle.c_syntax.specs.Logic as logic
use Rattle.c_syntax.specs.Programs.{NamedBehavior, FunctionContract, Function, TranslationUnit}
use Rattle.c_model.specs.AnnotationSights.{AnnotationSight, AtEnd}
use Rattle.c_model.specs.AnnotationTyping.{numbers_of_parameters}
use Rattle.c_model.specs.ContractChecks.{Check, is_requires, is_assumes, is_ensures, is_complete, is_disjoint, of_kind, of_behaviors, entry_checks, leave_checks}
use Rattle.c_model.specs.ContractTyping.{sight_of_clause, names_of_behaviors, named_behaviors}
use Rattle.c_model.specs.ExpressionTyping.{Sight, is_among}
use Rattle.c_model.specs.FormedContracts.{AreClausesOf, IsCoverKind, NamesBehaviors}
use Rattle.c_model.specs.TermRanges.{Seen, PredicateRanged}
use Rattle.c_model.specs.TypedAnnotations.{ClausesTyped, BehaviorsTyped, AreAmong, CoversTyped, ContractStands, IsSaidBy}
use Rattle.c_model.specs.TypedPredicates.{ClauseTyped, PredicateTyped}
use Rattle.c_model.specs.Unranged.{ClauseRanged, AnnotationsRanged}
use Rattle.c_model.specs.UnrangedPrograms.{BehaviorsRanged}
use Rattle.annot_simulation.specs.Beside.{ResultSorted}
use Rattle.annot_simulation.specs.ContractCode.{named_flags}
use Rattle.annot_simulation.specs.ContractDoes.{AreGood}
use Rattle.annot_simulation.specs.ContractDoes as checks
use Rattle.annot_simulation.specs.Does as code
use Rattle.annot_simulation.specs.Does.{Planned, PredicateFound}
use Rattle.annot_simulation.specs.Held.{sorts_held}
use Rattle.annot_simulation.specs.Plan.{Entry, IsIn, in_annotations, in_behaviors, in_clause, in_contract, in_predicate}
use Rattle.annot_simulation.proofs.Found.{typed_found}
use Rattle.instrument.proofs.Writable.{typed_apart}
use Rattle.annot_simulation.proofs.TypedEntries.{sight_of, predicate_stands, predicate_alone}
use Rattle.interval_infer.specs.Judged.{seen_in}
use Rattle.instrument.specs.Limits.{CoversFew}
use Rattle.instrument.specs.Translation.{first_flag, held_of, plan_of}
use Rattle.instrument.proofs.CheckedFunctions.{AtBeginning, ClausesStand}
use Rattle.instrument.proofs.ContractTerms.{own_there}
use Rattle.instrument.proofs.KeptFunctions.{in_front, in_back}

-- ---- checks among others

module _ (v : code.Setting) (bs : List NamedBehavior) (h : ℕ) where
  good_both : (count : ℕ) (xs ys : List Check) → AreGood v bs h count xs → AreGood v bs h count ys → AreGood v bs h count (xs ++ ys)
  good_both count [] ys f g = g
  good_both count (x ∷ xs) ys f g = (f.0, good_both count xs ys f.1 g)

  -- a predicate that keeps its ranges and is found is good
  abbrev Good : Predicate → Type 0
  Good q = PredicateRanged v.seen q × PredicateFound v.plan v.now.scope (sorts_held v.held) q

  -- clauses of a kind, each a predicate
  abbrev KindGood : (Kind → Bool) → List Annotation → Type 0
  KindGood is [] = Unit {0}
  KindGood is (a ∷ rest) = (is a.kind ≡ true → (q : Predicate) × (a.body ≡ Holds q) × Good q) × KindGood is rest

  abbrev BehaviorsGood : (Kind → Bool) → List NamedBehavior → Type 0
  BehaviorsGood is [] = Unit {0}
  BehaviorsGood is (c ∷ cs) = KindGood is c.clauses × BehaviorsGood is cs

  own_good : (is : Kind → Bool) (count : ℕ) (annots : List Annotation) → KindGood is annots → AreGood v bs h count (of_kind is None annots)
  own_good is count [] g = tt
  own_good is count (a ∷ rest) g = by (is a.kind) refl (own_good is count rest g.1)
    where
      by : (t : Bool) → is a.kind ≡ t → AreGood v bs h count (of_kind is None rest) → AreGood v bs h count (cond t (record { annotation = a; behavior = None } ∷ of_kind is None rest) (of_kind is None rest))
      by false e later = later
      by true e later = let q = g.0 e in (subst (λ b. checks.ClauseGood v bs h b) (sym q.1) q.2, later)

  one_good : (is : Kind → Bool) (count k : ℕ) → k < count → ((a : Kind) → is a ≡ true → is_assumes a ≡ true → v.names ≡ []) → (annots : List Annotation) → KindGood is annots → AreGood v bs h count (of_kind is (Some k) annots)
  one_good is count k lt names [] g = tt
  one_good is count k lt names (a ∷ rest) g = by (is a.kind) refl (one_good is count k lt names rest g.1)
    where
      by : (t : Bool) → is a.kind ≡ t → AreGood v bs h count (of_kind is (Some k) rest)
          → AreGood v bs h count (cond t (record { annotation = a; behavior = Some k } ∷ of_kind is (Some k) rest) (of_kind is (Some k) rest))
      by false e later = later
      by true e later =
          let q = g.0 e in
          ((subst (λ b. checks.ClauseGood v bs h b) (sym q.1) q.2, lt, λ assumes. (q.0, q.1, names a.kind e assumes)), later)

  others_good : (is : Kind → Bool) (count k : ℕ) (cs : List NamedBehavior) → k + length cs ≤ count → ((a : Kind) → is a ≡ true → is_assumes a ≡ true → v.names ≡ []) → BehaviorsGood is cs
      → AreGood v bs h count (of_behaviors is k cs)
  others_good is count k [] le names g = tt
  others_good is count k (c ∷ cs) le names g =
      good_both count (of_kind is (Some k) c.clauses) (of_behaviors is (suc k) cs) (one_good is count k (omega (arith, le)) names c.clauses g.0) (others_good is count (suc k) cs (omega (arith, le)) names g.1)

-- ---- kinds

-- what isn't of a variant is no value
pub no_value : (k : Kind) (t : LogicTerm) → IsSaidBy k (logic.Value t) → k ≡ kind.Variant
no_value kind.Variant t h = refl
no_value kind.Requires t h = absurd h
no_value kind.Assumes t h = absurd h
no_value kind.Ensures t h = absurd h
no_value kind.Assert t h = absurd h
no_value kind.Complete t h = absurd h
no_value kind.Disjoint t h = absurd h
no_value kind.Invariant t h = absurd h
no_value kind.Rte t h = absurd h

entry_kind : (k : Kind) → is_requires k ≡ true ⊎ is_assumes k ≡ true → k ≡ kind.Variant → ⊥
entry_kind k (inl e) same = let no : is_requires kind.Variant ≡ true = subst (λ k. is_requires k ≡ true) same e in cc
entry_kind k (inr e) same = let no : is_assumes kind.Variant ≡ true = subst (λ k. is_assumes k ≡ true) same e in cc

end_kind : (k : Kind) → is_ensures k ≡ true → k ≡ kind.Variant → ⊥
end_kind k e same = let no : is_ensures kind.Variant ≡ true = subst (λ k. is_ensures k ≡ true) same e in cc

-- ---- a contract

module _ (p : TranslationUnit) (f : Function) (c : FunctionContract) (stands : ContractStands p f c) (seen : Seen) where
  abbrev views : Kind → AnnotationSight
  views = sight_of_clause stands.seen (numbers_of_parameters f.params) f.result

  -- at the beginning
  module _ (v : code.Setting) (plan : v.plan ≡ []) (held : v.held ≡ []) (none : v.seen ≡ []) (names : AtBeginning p f v.now.scope) where
    abbrev view : AnnotationSight
    view = views kind.Requires

    no_entry : (q : Predicate) → PredicateTyped view q → PredicateRanged seen q → (x : Entry) → IsIn x (in_predicate q) → Planned [] x.0 x.1
    no_entry q typed ranged x i = let e = predicate_stands view seen q typed ranged x i in absurd (by x.0 e.sight e.there)
      where
        by : (o : Option ℕ) (s : Sight) → sight_of view o ≡ Some s → ⊥
        by None s e = cc
        by (Some l) s e = cc

    begin_good : (q : Predicate) → PredicateTyped view q → PredicateRanged seen q → PredicateRanged v.seen q × PredicateFound v.plan v.now.scope (sorts_held v.held) q
    begin_good q typed ranged = (
      subst (λ m. PredicateRanged m q) (sym none) (predicate_alone seen view (λ t x i. i) (λ x i. i) q typed ranged),
      subst (λ ks. PredicateFound ks v.now.scope (sorts_held v.held) q) (sym plan)
          (subst (λ hs. PredicateFound [] v.now.scope (sorts_held hs) q) (sym held)
          (typed_found view v.now.scope [] [] (λ x t d. own_there p f c stands v.now.scope names x t d) tt (λ x i. absurd i) q (inl (λ t x i. i)) (no_entry q typed ranged) typed)),
    )

  -- at the end, where the terms of the contract are kept
  module _ (v : code.Setting) (same : v.seen ≡ seen) (names : AtBeginning p f v.now.scope) (sorted : ResultSorted (AtEnd (numbers_of_parameters f.params) f.result) (sorts_held v.held))
      (kept : (x : Entry) → IsIn x (in_contract (Some c)) → Planned v.plan x.0 x.1) where
    abbrev last : AnnotationSight
    last = views kind.Ensures

    end_good : (q : Predicate) → PredicateTyped last q → PredicateRanged seen q → ((x : Entry) → IsIn x (in_predicate q) → Planned v.plan x.0 x.1) → PredicateRanged v.seen q × PredicateFound v.plan v.now.scope (sorts_held v.held) q
    end_good q typed ranged planned = (
      subst (λ m. PredicateRanged m q) (sym same) ranged,
      typed_found last v.now.scope v.plan (sorts_held v.held) (λ x t d. own_there p f c stands v.now.scope names x t d) sorted (λ x i. absurd i) q (inr (typed_apart last q typed)) planned typed,
    )

  -- ---- by their kinds

  at_entry : (k : Kind) → is_requires k ≡ true ⊎ is_assumes k ≡ true → views k ≡ views kind.Requires
  at_entry kind.Requires h = refl
  at_entry kind.Assumes h = refl
  at_entry kind.Assert h = refl
  at_entry kind.Complete h = refl
  at_entry kind.Disjoint h = refl
  at_entry kind.Invariant h = refl
  at_entry kind.Variant h = refl
  at_entry kind.Rte h = refl
  at_entry kind.Ensures (inl e) = absurd cc
  at_entry kind.Ensures (inr e) = absurd cc

  at_end : (k : Kind) → is_ensures k ≡ true → k ≡ kind.Ensures
  at_end kind.Ensures e = refl
  at_end kind.Requires e = absurd cc
  at_end kind.Assumes e = absurd cc
  at_end kind.Assert e = absurd cc
  at_end kind.Complete e = absurd cc
  at_end kind.Disjoint e = absurd cc
  at_end kind.Invariant e = absurd cc
  at_end kind.Variant e = absurd cc
  at_end kind.Rte e = absurd cc

  not_assumes : (k : Kind) → is_ensures k ≡ true → is_assumes k ≡ true → ⊥
  not_assumes k e h = let same = at_end k e in let no : is_assumes kind.Ensures ≡ true = subst (λ k. is_assumes k ≡ true) same h in cc

  not_both : (k : Kind) → is_requires k ≡ true → is_assumes k ≡ true → ⊥
  not_both kind.Requires e h = cc
  not_both kind.Assumes e h = cc
  not_both kind.Ensures e h = cc
  not_both kind.Assert e h = cc
  not_both kind.Complete e h = cc
  not_both kind.Disjoint e h = cc
  not_both kind.Invariant e h = cc
  not_both kind.Variant e h = cc
  not_both kind.Rte e h = cc

  -- a clause that is typed is a predicate
  predicate_of : (k : Kind) (s : AnnotationSight) (b : ClauseBody) → (k ≡ kind.Variant → ⊥) → IsSaidBy k b → ClauseTyped s b → ClauseRanged seen b → (q : Predicate) × (b ≡ Holds q) × PredicateTyped s q × PredicateRanged seen q
  predicate_of k s (Raw g) other said t r = absurd t
  predicate_of k s (Holds q) other said t r = (q, refl, t, r)
  predicate_of k s (logic.Value x) other said t r = absurd (other (no_value k x said))
  predicate_of k s (Behaviors names) other said t r = absurd t

  module _ (v : code.Setting) (plan : v.plan ≡ []) (held : v.held ≡ []) (none : v.seen ≡ []) (names : AtBeginning p f v.now.scope) (bs : List NamedBehavior) (h : ℕ) where
    clauses_begin : (is : Kind → Bool) → ((k : Kind) → is k ≡ true → is_requires k ≡ true ⊎ is_assumes k ≡ true) → (annots : List Annotation) → ClausesTyped views annots → AnnotationsRanged seen annots → KindGood v bs h is annots
    clauses_begin is kinds [] t r = tt
    clauses_begin is kinds (a ∷ rest) t r = (
      λ e.
          let q = predicate_of a.kind (views kind.Requires) a.body (entry_kind a.kind (kinds a.kind e)) t.1 (subst (λ s. ClauseTyped s a.body) (at_entry a.kind (kinds a.kind e)) t.0) r.0 in
          (q.0, q.1, begin_good v plan held none names q.0 q.2 q.3),
      clauses_begin is kinds rest t.2 r.1,
    )

    behaviors_begin : (is : Kind → Bool) → ((k : Kind) → is k ≡ true → is_requires k ≡ true ⊎ is_assumes k ≡ true) → (cs : List NamedBehavior) → BehaviorsTyped views cs → BehaviorsRanged seen cs → BehaviorsGood v bs h is cs
    behaviors_begin is kinds [] t r = tt
    behaviors_begin is kinds (b ∷ cs) t r = (clauses_begin is kinds b.clauses t.0 r.0, behaviors_begin is kinds cs t.1 r.1)

  module _ (v : code.Setting) (same : v.seen ≡ seen) (names : AtBeginning p f v.now.scope) (sorted : ResultSorted (AtEnd (numbers_of_parameters f.params) f.result) (sorts_held v.held))
      (kept : (x : Entry) → IsIn x (in_contract (Some c)) → Planned v.plan x.0 x.1) (h : ℕ) where
    abbrev bs : List NamedBehavior
    bs = c.behaviors

    clauses_end : (annots : List Annotation) → ClausesTyped views annots → AnnotationsRanged seen annots → ((x : Entry) → IsIn x (in_annotations annots) → Planned v.plan x.0 x.1) → KindGood v bs h is_ensures annots
    clauses_end [] t r planned = tt
    clauses_end (a ∷ rest) t r planned = (
      λ e.
          let q = predicate_of a.kind (views kind.Ensures) a.body (end_kind a.kind e) t.1 (subst (λ k. ClauseTyped (views k) a.body) (at_end a.kind e) t.0) r.0 in
          (q.0, q.1, end_good v same names sorted kept q.0 q.2 q.3 (λ x i. planned x (in_front (in_clause a.body) (in_annotations rest) x (subst (λ b. IsIn x (in_clause b)) (sym q.1) i)))),
      clauses_end rest t.2 r.1 (λ x i. planned x (in_back (in_clause a.body) (in_annotations rest) x i)),
    )

    behaviors_end : (cs : List NamedBehavior) → BehaviorsTyped views cs → BehaviorsRanged seen cs → ((x : Entry) → IsIn x (in_behaviors cs) → Planned v.plan x.0 x.1) → BehaviorsGood v bs h is_ensures cs
    behaviors_end [] t r planned = tt
    behaviors_end (b ∷ cs) t r planned = (
      clauses_end b.clauses t.0 r.0 (λ x i. planned x (in_front (in_annotations b.clauses) (in_behaviors cs) x i)),
      behaviors_end cs t.1 r.1 (λ x i. planned x (in_back (in_annotations b.clauses) (in_behaviors cs) x i)),
    )

    -- all that is checked at the end
    pub leave_good : AnnotationsRanged seen c.clauses → BehaviorsRanged seen c.behaviors → AreGood v c.behaviors h (length c.behaviors) (leave_checks c)
    leave_good own others =
        let count = length c.behaviors in
        good_both v c.behaviors h count (of_kind is_ensures None c.clauses) (of_behaviors is_ensures 0 c.behaviors)
        (own_good v c.behaviors h is_ensures count c.clauses (clauses_end c.clauses stands.typed.clauses own (λ x i. kept x (in_front (in_annotations c.clauses) (in_behaviors c.behaviors) x i))))
        (others_good v c.behaviors h is_ensures count 0 c.behaviors (omega arith) (λ k e a. absurd (not_assumes k e a))
        (behaviors_end c.behaviors stands.typed.behaviors others (λ x i. kept x (in_back (in_annotations c.clauses) (in_behaviors c.behaviors) x i))))

-- ---- clauses that name behaviors

is_named : (bs : List NamedBehavior) (x : ℕ) → is_among x (names_of_behaviors bs) ≡ true → checks.IsNamed bs x
is_named [] x e = absurd cc
is_named (b ∷ bs) x e = by (nat_eq x b.name) e (λ h. is_named bs x h)
  where
    by : (t : Bool) → (t || is_among x (names_of_behaviors bs)) ≡ true → (is_among x (names_of_behaviors bs) ≡ true → checks.IsNamed bs x) → cond t (Unit {0}) (checks.IsNamed bs x)
    by true e go = tt
    by false e go = go e

pub are_named : (bs : List NamedBehavior) (names : List (Place × ℕ)) → AreAmong (names_of_behaviors bs) names → checks.AreNamed bs names
are_named bs [] h = tt
are_named bs (x ∷ xs) h = (is_named bs x.1 h.0, are_named bs xs h.1)

module _ (v : code.Setting) (bs : List NamedBehavior) (h : ℕ) where
  cover_good : (b : ClauseBody) → NamesBehaviors b → AreAmong (names_of_behaviors bs) (named_behaviors b) → length (named_flags (named_behaviors b) h bs) < 2147483647 → checks.ClauseGood v bs h b
  cover_good (Raw g) n among few = absurd n
  cover_good (Holds q) n among few = absurd n
  cover_good (logic.Value t) n among few = absurd n
  cover_good (Behaviors names) n among few = (are_named bs names among, few)

  covers_good : (is : Kind → Bool) (count : ℕ) (annots : List Annotation) → AreClausesOf IsCoverKind NamesBehaviors annots → CoversTyped (names_of_behaviors bs) annots → CoversFew h bs annots
      → AreGood v bs h count (of_kind is None annots)
  covers_good is count [] formed typed few = tt
  covers_good is count (a ∷ rest) formed typed few = by (is a.kind) (covers_good is count rest formed.1 typed.1 few.1)
    where
      by : (t : Bool) → AreGood v bs h count (of_kind is None rest) → AreGood v bs h count (cond t (record { annotation = a; behavior = None } ∷ of_kind is None rest) (of_kind is None rest))
      by false later = later
      by true later = (cover_good a.body formed.0.body typed.0 few.0, later)

-- ---- both ends

module _ (p : TranslationUnit) (f : Function) (c : FunctionContract) (stands : ContractStands p f c) (seen : Seen) (own : AnnotationsRanged seen c.clauses) (others : BehaviorsRanged seen c.behaviors) where
  -- all that is checked at the beginning
  pub entry_good : (v : code.Setting) → v.plan ≡ [] → v.held ≡ [] → v.seen ≡ [] → v.names ≡ [] → AtBeginning p f v.now.scope → (h : ℕ) → AreClausesOf IsCoverKind NamesBehaviors c.covers → CoversFew h c.behaviors c.covers
      → AreGood v c.behaviors h (length c.behaviors) (entry_checks c)
  entry_good v plan held none empty names h covers few =
      let bs = c.behaviors in
      let count = length bs in
      let own_requires = own_good v bs h is_requires count c.clauses (clauses_begin p f c stands seen v plan held none names bs h is_requires (λ k e. inl e) c.clauses stands.typed.clauses own) in
      let assumes = others_good v bs h is_assumes count 0 bs (omega arith) (λ k e a. empty) (behaviors_begin p f c stands seen v plan held none names bs h is_assumes (λ k e. inr e) bs stands.typed.behaviors others) in
      let requires = others_good v bs h is_requires count 0 bs (omega arith) (λ k e a. empty) (behaviors_begin p f c stands seen v plan held none names bs h is_requires (λ k e. inl e) bs stands.typed.behaviors others) in
      let complete = covers_good v bs h is_complete count c.covers covers stands.typed.covers few in
      let disjoint = covers_good v bs h is_disjoint count c.covers covers stands.typed.covers few in
      let all_complete = of_kind is_complete None c.covers in
      let all_disjoint = of_kind is_disjoint None c.covers in
      let all_requires = of_behaviors is_requires 0 bs in
      good_both v bs h count (of_kind is_requires None c.clauses) (of_behaviors is_assumes 0 bs ++ (all_requires ++ (all_complete ++ all_disjoint))) own_requires
      (good_both v bs h count (of_behaviors is_assumes 0 bs) (all_requires ++ (all_complete ++ all_disjoint)) assumes
      (good_both v bs h count all_requires (all_complete ++ all_disjoint) requires (good_both v bs h count all_complete all_disjoint complete disjoint)))

-- a function whose contract is typed and keeps its ranges, and gives a value that is `\result` there
pub record ContractKnown (p : TranslationUnit) (f : Function) (c : FunctionContract) : Type 0 where
  pub stands : ContractStands p f c
  pub own : AnnotationsRanged (seen_in f.result) c.clauses
  pub others : BehaviorsRanged (seen_in f.result) c.behaviors
  pub covers : AreClausesOf IsCoverKind NamesBehaviors c.covers
  pub few : CoversFew (first_flag f) c.behaviors c.covers
  pub sorted : ResultSorted (AtEnd (numbers_of_parameters f.params) f.result) (sorts_held (held_of f))

pub clauses_stand : (p : TranslationUnit) (f : Function) → ((c : FunctionContract) → f.contract ≡ Some c → ContractKnown p f c)
    → ((c : FunctionContract) → f.contract ≡ Some c → (x : Entry) → IsIn x (in_contract (Some c)) → Planned (plan_of f) x.0 x.1) → ClausesStand p f
clauses_stand p f known kept = record {
  entry = λ c is v plan held none empty names. let k = known c is in entry_good p f c k.stands (seen_in f.result) k.own k.others v plan held none empty names (first_flag f) k.covers k.few;
  leave = λ c is v plan held same names.
      let k = known c is in
      leave_good p f c k.stands (seen_in f.result) v same names (subst (λ hs. ResultSorted (AtEnd (numbers_of_parameters f.params) f.result) (sorts_held hs)) (sym held) k.sorted)
      (λ x i. subst (λ ks. Planned ks x.0 x.1) (sym plan) (kept c is x i)) (first_flag f) k.own k.others;
}
