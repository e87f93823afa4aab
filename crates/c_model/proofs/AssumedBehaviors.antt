-- Behind the checks at the beginning of a call a behavior holds exactly where all its `assumes` are true there.
use Rattle.std.proofs.Common.{◌≡◌, ℕ, zero, suc, ◌+◌, ◌⊎◌, inl, inr, refl, sym, ap, ◌∙◌, subst, arith, List, [], ◌∷◌, ◌++◌, Option, Some, None, Bool, true, false, cond, slice_get}
use Rattle.std.specs.List.{AllByRecursion}
use Rattle.c_syntax.specs.declared.annotation.Kind.{Kind}
use Rattle.c_syntax.specs.declared.annotation.Kind.TheVariants as kind
use Rattle.c_syntax.specs.Logic as logic
use Rattle.c_syntax.specs.Logic.{ClauseBody, Raw, Holds, Behaviors, Annotation}
use Rattle.c_syntax.specs.Programs.{NamedBehavior, FunctionContract}
use Rattle.c_model.specs.State.{State, Outcome, Normal, Stop, Evaluation, on_outcome, ◌>>=◌, ◌>>◌, give}
use Rattle.c_model.specs.Logic.{Answer, Says, SaysNothing, OutOfSteps, judged}
use Rattle.c_model.specs.Predicates.{clause}
use Rattle.c_model.specs.ContractChecks.{Check, is_requires, is_assumes, is_ensures, is_complete, is_disjoint, of_kind, of_behaviors, entry_checks, all_hold, holds_at, without, named_holds, covered}
use Rattle.c_model.specs.ContractChecks.{assumed, assumption, demand, of_behavior, checked, all_checked, entry}
use Rattle.c_model.specs.ContractLaws.{IsAssumption, IsSaid, IsByAssumptions, BehaviorsHoldByAssumptions}

-- ---- which behaviors hold

without_kept : (j k : ℕ) (hs : List Bool) → holds_at k (without j hs) ≡ true → holds_at k hs ≡ true
without_kept j k [] e = e
without_kept zero zero (h ∷ hs) e = absurd cc
without_kept zero (suc k) (h ∷ hs) e = e
without_kept (suc j) zero (h ∷ hs) e = e
without_kept (suc j) (suc k) (h ∷ hs) e = without_kept j k hs e

without_own : (k : ℕ) (hs : List Bool) → holds_at k (without k hs) ≡ false
without_own k [] = refl
without_own zero (h ∷ hs) = refl
without_own (suc k) (h ∷ hs) = without_own k hs

without_other : (j k : ℕ) (hs : List Bool) → holds_at k hs ≡ true → holds_at k (without j hs) ≡ false → j ≡ k
without_other j k [] e f = absurd cc
without_other zero zero (h ∷ hs) e f = refl
without_other zero (suc k) (h ∷ hs) e f = let no : true ≡ false = sym e ∙ f in absurd cc
without_other (suc j) zero (h ∷ hs) e f = let no : true ≡ false = sym e ∙ f in absurd cc
without_other (suc j) (suc k) (h ∷ hs) e f = ap suc (without_other j k hs e f)

all_at : (bs : List NamedBehavior) (k : ℕ) (b : NamedBehavior) → slice_get bs k ≡ Some b → holds_at k (all_hold bs) ≡ true
all_at [] k b e = absurd cc
all_at (c ∷ bs) zero b e = refl
all_at (c ∷ bs) (suc k) b e = all_at bs k b e

both_ways : (h : Bool) → h ≡ true → h ≡ false → ⊥
both_ways h e f = let no : true ≡ false = sym e ∙ f in absurd cc

-- ---- kinds

assumes_is : (k : Kind) → is_assumes k ≡ true → k ≡ kind.Assumes
assumes_is kind.Assert e = absurd cc
assumes_is kind.Requires e = absurd cc
assumes_is kind.Assumes e = refl
assumes_is kind.Ensures e = absurd cc
assumes_is kind.Complete e = absurd cc
assumes_is kind.Disjoint e = absurd cc
assumes_is kind.Invariant e = absurd cc
assumes_is kind.Variant e = absurd cc
assumes_is kind.Rte e = absurd cc

no_requires : (k : Kind) → is_requires k ≡ true → is_assumes k ≡ true → ⊥
no_requires k e f = let is = assumes_is k f in both_ways (is_requires k) e (ap is_requires is)

-- ---- checks, which leave a state but for its steps

module _ (s : State) where
  abbrev stepped : ℕ → State
  stepped n = record s { steps = n }

  abbrev EndsSo : {A : Type 0} → (A → Type 0) → Outcome A → Type 0
  EndsSo P (Normal a t) = (n : ℕ) × (t ≡ stepped n) × P a
  EndsSo P (Stop e t) = Unit {0}

  bound : {A B : Type 0} (P : A → Type 0) (Q : B → Type 0) (o : Outcome A) (f : A → Evaluation B) → EndsSo P o → ((a : A) → P a → (n : ℕ) → EndsSo Q (f a (stepped n))) → EndsSo Q (on_outcome o f)
  bound P Q (Normal a t) f h k = subst (λ t. EndsSo Q (f a t)) (sym h.1) (k a h.2 h.0)
  bound P Q (Stop e t) f h k = tt

  wider : {A : Type 0} (P Q : A → Type 0) → ((a : A) → P a → Q a) → (o : Outcome A) → EndsSo P o → EndsSo Q o
  wider P Q f (Normal a t) h = (h.0, h.1, f a h.2)
  wider P Q f (Stop e t) h = tt

  abbrev Any : {A : Type 0} → A → Type 0
  Any a = Unit {0}

  judged_so : (a : Annotation) (x : Answer) (n : ℕ) → EndsSo Any (judged a x (stepped n))
  judged_so a (Says true m) n = (m, refl, tt)
  judged_so a (Says false m) n = tt
  judged_so a (SaysNothing m) n = tt
  judged_so a OutOfSteps n = tt

  module _ (bs : List NamedBehavior) (k : ℕ) where
    demand_so : (a : Annotation) (b : ClauseBody) (hs : List Bool) (n : ℕ) → EndsSo Any (demand bs [] a b hs (stepped n))
    demand_so a (Raw f) hs n = judged_so a (clause a.body (stepped n) [] n) n
    demand_so a (Holds p) hs n = judged_so a (clause a.body (stepped n) [] n) n
    demand_so a (logic.Value t) hs n = judged_so a (clause a.body (stepped n) [] n) n
    demand_so a (Behaviors names) hs n = judged_so a (Says (covered a.kind (named_holds names bs hs)) n) n

    -- what a check does to the behavior k
    record Went (a : Annotation) (o : Option ℕ) (hs after : List Bool) : Type 0 where
      kept : holds_at k after ≡ true → holds_at k hs ≡ true
      told : holds_at k after ≡ true → o ≡ Some k → is_assumes a.kind ≡ true → IsSaid s a true
      lost : holds_at k hs ≡ true → holds_at k after ≡ false → (o ≡ Some k) × (is_assumes a.kind ≡ true) × IsSaid s a false

    -- where it changes nothing
    same : (a : Annotation) (o : Option ℕ) (hs : List Bool) → (holds_at k hs ≡ true → o ≡ Some k → is_assumes a.kind ≡ true → IsSaid s a true) → Went a o hs hs
    same a o hs h = record { kept = λ e. e; told = h; lost = λ e f. absurd (both_ways (holds_at k hs) e f) }

    -- a demand, which is no `assumes`
    demanded : (a : Annotation) (o : Option ℕ) (hs : List Bool) (n : ℕ) → (o ≡ Some k → is_assumes a.kind ≡ true → ⊥) → EndsSo (Went a o hs) ((demand bs [] a a.body hs >> give hs) (stepped n))
    demanded a o hs n never =
        bound Any (Went a o hs) (demand bs [] a a.body hs (stepped n)) (λ u. give hs) (demand_so a a.body hs n) (λ u v m. (m, refl, same a o hs (λ e f g. absurd (never f g))))

    assumed_so : (a : Annotation) (j : ℕ) (hs : List Bool) (n : ℕ) → holds_at j hs ≡ true → is_assumes a.kind ≡ true → (x : Answer) → clause a.body (stepped n) [] n ≡ x → EndsSo (Went a (Some j) hs) (assumed a j hs x (stepped n))
    assumed_so a j hs n y z (Says true m) e = (m, refl, same a (Some j) hs (λ f g i. record { before = n; after = m; is = e }))
    assumed_so a j hs n y z (Says false m) e = (
      m,
      refl,
      record {
        kept = without_kept j k hs;
        told = λ f g i. let same : j ≡ k = cc in absurd (both_ways (holds_at k (without j hs)) f (subst (λ j. holds_at k (without j hs) ≡ false) (sym same) (without_own k hs)));
        lost = λ f g. (ap Some (without_other j k hs f g), z, record { before = n; after = m; is = e });
      },
    )
    assumed_so a j hs n y z (SaysNothing m) e = tt
    assumed_so a j hs n y z OutOfSteps e = tt

    of_behavior_so : (a : Annotation) (j : ℕ) (hs : List Bool) (n : ℕ) → holds_at j hs ≡ true → (t : Bool) → is_assumes a.kind ≡ t → EndsSo (Went a (Some j) hs) (of_behavior bs [] a j hs t (stepped n))
    of_behavior_so a j hs n y true e = assumed_so a j hs n y e (clause a.body (stepped n) [] n) refl
    of_behavior_so a j hs n y false e = demanded a (Some j) hs n (λ f g. both_ways (is_assumes a.kind) g e)

    checked_so : (a : Annotation) (o : Option ℕ) (hs : List Bool) (n : ℕ) → EndsSo (Went a o hs) (checked bs [] a o hs (stepped n))
    checked_so a None hs n = demanded a None hs n (λ f g. absurd cc)
    checked_so a (Some j) hs n = by (holds_at j hs) refl
      where
        by : (t : Bool) → holds_at j hs ≡ t → EndsSo (Went a (Some j) hs) (cond t (of_behavior bs [] a j hs (is_assumes a.kind)) (give hs) (stepped n))
        by true e = of_behavior_so a j hs n e (is_assumes a.kind) refl
        by false e = (n, refl, same a (Some j) hs (λ f g i. let same : j ≡ k = cc in absurd (both_ways (holds_at k hs) f (subst (λ j. holds_at j hs ≡ false) same e))))

    -- ---- all checks

    abbrev IsTold : Check → Type 0
    IsTold c = c.behavior ≡ Some k → is_assumes c.annotation.kind ≡ true → IsSaid s c.annotation true

    abbrev IsLost : List Check → Type 0
    IsLost [] = ⊥
    IsLost (c ∷ cs) = ((c.behavior ≡ Some k) × (is_assumes c.annotation.kind ≡ true) × IsSaid s c.annotation false) ⊎ IsLost cs

    record AllWent (cs : List Check) (hs after : List Bool) : Type 0 where
      kept : holds_at k after ≡ true → holds_at k hs ≡ true
      told : holds_at k after ≡ true → AllByRecursion IsTold cs
      lost : holds_at k hs ≡ true → holds_at k after ≡ false → IsLost cs

    further : (c : Check) (cs : List Check) (hs middle after : List Bool) → Went c.annotation c.behavior hs middle → AllWent cs middle after → AllWent (c ∷ cs) hs after
    further c cs hs middle after w v = record { kept = λ e. w.kept (v.kept e); told = λ e. (w.told (v.kept e), v.told e); lost = λ e f. lost e f (holds_at k middle) refl }
      where
        lost : holds_at k hs ≡ true → holds_at k after ≡ false → (t : Bool) → holds_at k middle ≡ t → IsLost (c ∷ cs)
        lost e f true g = inr (v.lost g f)
        lost e f false g = inl (w.lost e g)

    all_so : (cs : List Check) (hs : List Bool) (n : ℕ) → EndsSo (AllWent cs hs) (all_checked bs [] cs hs (stepped n))
    all_so [] hs n = (n, refl, record { kept = λ e. e; told = λ e. tt; lost = λ e f. absurd (both_ways (holds_at k hs) e f) })
    all_so (c ∷ cs) hs n =
        bound (Went c.annotation c.behavior hs) (AllWent (c ∷ cs) hs) (checked bs [] c.annotation c.behavior hs (stepped n)) (all_checked bs [] cs) (checked_so c.annotation c.behavior hs n)
        (λ middle w m. wider (AllWent cs middle) (AllWent (c ∷ cs) hs) (λ after v. further c cs hs middle after w v) (all_checked bs [] cs middle (stepped m)) (all_so cs middle m))

-- ---- the checks at the beginning of a call

all_front : (P : Check → Type 0) (xs ys : List Check) → AllByRecursion P (xs ++ ys) → AllByRecursion P xs
all_front P [] ys h = tt
all_front P (x ∷ xs) ys h = (h.0, all_front P xs ys h.1)

all_rest : (P : Check → Type 0) (xs ys : List Check) → AllByRecursion P (xs ++ ys) → AllByRecursion P ys
all_rest P [] ys h = h
all_rest P (x ∷ xs) ys h = all_rest P xs ys h.1

all_joined : (P : Check → Type 0) (xs ys : List Check) → AllByRecursion P xs → AllByRecursion P ys → AllByRecursion P (xs ++ ys)
all_joined P [] ys h k = k
all_joined P (x ∷ xs) ys h k = (h.0, all_joined P xs ys h.1 k)

-- each one of a kind is among its checks
kind_at : (P : Check → Type 0) (is : Kind → Bool) (o : Option ℕ) (xs : List Annotation) → AllByRecursion P (of_kind is o xs) → (n : ℕ) (a : Annotation) → slice_get xs n ≡ Some a → is a.kind ≡ true → P (record { annotation = a; behavior = o })
kind_at P is o [] h n a e k = absurd cc
kind_at P is o (x ∷ xs) h zero a e k =
    let same : x ≡ a = cc in
    let here : is x.kind ≡ true = ap (λ (x : Annotation). is x.kind) same ∙ k in
    subst (λ x. P (record { annotation = x; behavior = o })) same (subst (λ t. AllByRecursion P (cond t (record { annotation = x; behavior = o } ∷ of_kind is o xs) (of_kind is o xs))) here h).0
kind_at P is o (x ∷ xs) h (suc n) a e k = kind_at P is o xs (by (is x.kind) h) n a e k
  where
    by : (t : Bool) → AllByRecursion P (cond t (record { annotation = x; behavior = o } ∷ of_kind is o xs) (of_kind is o xs)) → AllByRecursion P (of_kind is o xs)
    by true g = g.1
    by false g = g

behavior_at : (P : Check → Type 0) (is : Kind → Bool) (j : ℕ) (bs : List NamedBehavior) → AllByRecursion P (of_behaviors is j bs) → (k : ℕ) (b : NamedBehavior) → slice_get bs k ≡ Some b → AllByRecursion P (of_kind is (Some (j + k)) b.clauses)
behavior_at P is j [] h k b e = absurd cc
behavior_at P is j (c ∷ bs) h zero b e =
    let same : c ≡ b = cc in
    let here : j ≡ j + 0 = omega arith in
    subst (λ n. AllByRecursion P (of_kind is (Some n) b.clauses)) here (subst (λ (c : NamedBehavior). AllByRecursion P (of_kind is (Some j) c.clauses)) same (all_front P (of_kind is (Some j) c.clauses) (of_behaviors is (suc j) bs) h))
behavior_at P is j (c ∷ bs) h (suc k) b e =
    let here : suc j + k ≡ j + suc k = omega arith in
    subst (λ n. AllByRecursion P (of_kind is (Some n) b.clauses)) here (behavior_at P is (suc j) bs (all_rest P (of_kind is (Some j) c.clauses) (of_behaviors is (suc j) bs) h) k b e)

-- what is so of each one of a kind is so of its checks
all_of_kind : (P : Check → Type 0) (is : Kind → Bool) (o : Option ℕ) (xs : List Annotation) → ((n : ℕ) (a : Annotation) → slice_get xs n ≡ Some a → is a.kind ≡ true → P (record { annotation = a; behavior = o })) → AllByRecursion P (of_kind is o xs)
all_of_kind P is o [] h = tt
all_of_kind P is o (x ∷ xs) h = by (all_of_kind P is o xs (λ n a e k. h (suc n) a e k)) (is x.kind) refl
  where
    by : AllByRecursion P (of_kind is o xs) → (t : Bool) → is x.kind ≡ t → AllByRecursion P (cond t (record { annotation = x; behavior = o } ∷ of_kind is o xs) (of_kind is o xs))
    by rest true e = (h zero x refl e, rest)
    by rest false e = rest

all_of_behaviors : (P : Check → Type 0) (is : Kind → Bool) (j : ℕ) (bs : List NamedBehavior)
    → ((k : ℕ) (b : NamedBehavior) → slice_get bs k ≡ Some b → (n : ℕ) (a : Annotation) → slice_get b.clauses n ≡ Some a → is a.kind ≡ true → P (record { annotation = a; behavior = Some (j + k) }))
    → AllByRecursion P (of_behaviors is j bs)
all_of_behaviors P is j [] h = tt
all_of_behaviors P is j (c ∷ bs) h =
    let here : j + 0 ≡ j = omega arith in
    all_joined P (of_kind is (Some j) c.clauses) (of_behaviors is (suc j) bs)
    (all_of_kind P is (Some j) c.clauses (λ n a e k. subst (λ m. P (record { annotation = a; behavior = Some m })) here (h zero c refl n a e k)))
    (all_of_behaviors P is (suc j) bs (λ i b e n a f k. let there : j + suc i ≡ suc j + i = omega arith in subst (λ m. P (record { annotation = a; behavior = Some m })) there (h (suc i) b e n a f k)))

module _ (c : FunctionContract) (k : ℕ) (b : NamedBehavior) (at : slice_get c.behaviors k ≡ Some b) where
  -- an `assumes` of the behavior k is one of b
  abbrev IsItsOwn : Check → Type 0
  IsItsOwn x = x.behavior ≡ Some k → is_assumes x.annotation.kind ≡ true → IsAssumption b x.annotation

  none : (is : Kind → Bool) (xs : List Annotation) → AllByRecursion IsItsOwn (of_kind is None xs)
  none is xs = all_of_kind IsItsOwn is None xs (λ n a e f g h. absurd cc)

  assumptions : AllByRecursion IsItsOwn (of_behaviors is_assumes 0 c.behaviors)
  assumptions = all_of_behaviors IsItsOwn is_assumes 0 c.behaviors (λ j d e n a f g h i.
      let number : 0 + j ≡ k = cc in
      let same : j ≡ k = omega (arith, number) in
      let one : Some d ≡ Some b = sym e ∙ (ap (slice_get c.behaviors) same ∙ at) in
      let its : d ≡ b = cc in
      record { number = n; is = subst (λ (d : NamedBehavior). slice_get d.clauses n ≡ Some a) its f; kind = assumes_is a.kind g })

  requirements : AllByRecursion IsItsOwn (of_behaviors is_requires 0 c.behaviors)
  requirements = all_of_behaviors IsItsOwn is_requires 0 c.behaviors (λ j d e n a f g h i. absurd (no_requires a.kind g i))

  own : AllByRecursion IsItsOwn (entry_checks c)
  own =
      all_joined IsItsOwn (of_kind is_requires None c.clauses) _ (none is_requires c.clauses)
      (all_joined IsItsOwn (of_behaviors is_assumes 0 c.behaviors) _ assumptions
      (all_joined IsItsOwn (of_behaviors is_requires 0 c.behaviors) _ requirements
      (all_joined IsItsOwn (of_kind is_complete None c.covers) (of_kind is_disjoint None c.covers) (none is_complete c.covers) (none is_disjoint c.covers))))

  module _ (s : State) where
    lost_one : (cs : List Check) → AllByRecursion IsItsOwn cs → IsLost s c.behaviors k cs → (a : Annotation) × IsAssumption b a × IsSaid s a false
    lost_one [] h m = absurd m
    lost_one (x ∷ cs) h (inl m) = (x.annotation, h.0 m.0 m.1, m.2)
    lost_one (x ∷ cs) h (inr m) = lost_one cs h.1 m

    told_one : AllByRecursion (IsTold s c.behaviors k) (entry_checks c) → (a : Annotation) → IsAssumption b a → IsSaid s a true
    told_one h a i =
        let all = all_front (IsTold s c.behaviors k) (of_behaviors is_assumes 0 c.behaviors) _ (all_rest (IsTold s c.behaviors k) (of_kind is_requires None c.clauses) _ h) in
        let each = behavior_at (IsTold s c.behaviors k) is_assumes 0 c.behaviors all k b at in
        let here : 0 + k ≡ k = omega arith in
        kind_at (IsTold s c.behaviors k) is_assumes (Some (0 + k)) b.clauses each i.number a i.is (ap is_assumes i.kind) (ap Some here) (ap is_assumes i.kind)

pub behaviors_hold_by_assumptions : BehaviorsHoldByAssumptions
behaviors_hold_by_assumptions c s t hs e k b at = record {
  each = λ y a i. told_one c k b at s (went.told y) a i;
  one = λ z. lost_one c k b at s (entry_checks c) (own c k b at) (went.lost (all_at c.behaviors k b at) z);
}
  where
    went : AllWent s c.behaviors k (entry_checks c) (all_hold c.behaviors) hs
    went = (subst (EndsSo s (AllWent s c.behaviors k (entry_checks c) (all_hold c.behaviors))) e (all_so s c.behaviors k (entry_checks c) (all_hold c.behaviors) s.steps)).2
