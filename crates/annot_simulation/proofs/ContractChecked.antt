-- The code of the checks of a contract does what the checks do: it goes on with the flags of the behaviors that hold, or stops where one is broken.
use Rattle.std.proofs.Common.{◌≡◌, ℕ, zero, suc, ◌+◌, ◌<◌, ◌≤◌, ◌⊎◌, inl, inr, ⊎_elim, ℤ, pos, Bool, true, false, cond, not, int_lt, int_le, List, [], ◌∷◌, ◌++◌, length, length-set, Option, Some, None, slice_get, slice_set, map, nat_eq}
use Rattle.std.proofs.Common.{length-append}
use Rattle.std.proofs.Common.{refl, sym, ap, ◌∙◌, subst, arith}
use Rattle.std.proofs.lemmas.Int.{ints}
use Rattle.std.specs.List.{list_any}
use Rattle.c_syntax.specs.declared.annotation.Kind.{Kind}
use Rattle.c_syntax.specs.declared.types.Width.TheVariants.{W32}
use Rattle.c_syntax.specs.declared.types.How.TheVariants as how
use Rattle.c_syntax.specs.declared.place.Place.{Place}
use Rattle.c_syntax.specs.declared.annotation.Kind.TheVariants.{Assert as AssertKind, Requires, Assumes, Ensures, Complete, Disjoint, Invariant, Variant, Rte}
use Rattle.c_syntax.specs.Logic.{Predicate, ClauseBody, Raw, Holds, Behaviors, Annotation}
use Rattle.c_syntax.specs.Logic as logic
use Rattle.c_syntax.specs.Programs.{NamedBehavior}
use Rattle.c_model.specs.ContractChecks.{Check, is_assumes, holds_at, without, assumed, demand, of_behavior, checked, all_checked, at_most_one, covered, named_holds, holds_named}
use Rattle.c_model.specs.Integers.{truth}
use Rattle.c_model.specs.Memory.{Value, Integer}
use Rattle.c_model.specs.Logic.{Environment, Answer, Says, SaysNothing, OutOfSteps, judged}
use Rattle.c_model.specs.Predicates.{clause, pred}
use Rattle.c_model.specs.MonitoredRuns.{machine_end}
use Rattle.c_model.specs.MonitoredRuns as machine
use Rattle.c_model.specs.State.{State, Spent, Final, Broken, Outcome, Normal, Stop, Over, on_outcome, ◌>>◌, give}
use Rattle.c_model.specs.TermRanges.{PredicateRanged}
use Rattle.c_model.proofs.Along.{steps_of, steps_pred}
use Rattle.c_model.proofs.Blocks.{slice_get-slice_set_other}
use Rattle.mon_syntax.specs.declared.tree.MonType.{MonType}
use Rattle.mon_syntax.specs.declared.tree.MonType.TheVariants.{I32}
use Rattle.mon_syntax.specs.declared.tree.MonOp.TheVariants.{Add, Lt, Le}
use Rattle.mon_syntax.specs.Arithmetic.{wrap}
use Rattle.mon_syntax.specs.BlockMemory.{over_blocks, integer_of}
use Rattle.mon_syntax.specs.Meaning.{Done, Stops, Next, then_do, at_next, with_value}
use Rattle.mon_syntax.specs.Meaning.{◌>>=◌ as bind}
use Rattle.mon_syntax.specs.Meaning as monitored
use Rattle.mon_syntax.specs.Trees.{MonExpression, Register, Constant, Binary, Assert, MonStatements, NoStatement, Then}
use Rattle.c_effects.specs.Expressions.{before, one, set}
use Rattle.c_simulation.specs.Keeping.{Kept, GivesTerm, kept_value, registers_of}
use Rattle.c_simulation.specs.SameRegisters.{Same, Stays}
use Rattle.c_simulation.proofs.Registers.{stays_same, stays_trans}
use Rattle.annot_simulation.specs.Code.{Judgement, pred_code, nothing_said, judgement, asserted, clause_judgement, behind_assertion}
use Rattle.annot_simulation.specs.ContractCode.{assumption_code, behavior_code, behind_check, behind_checks, behind_cover, behind_demand, check_code, checks_code, count, counted_by, counted_by_cover, counted_by_demand, cover_asked}
use Rattle.annot_simulation.specs.ContractCode.{cover_code, cover_truth}
use Rattle.annot_simulation.specs.ContractCode.{demand_code, flag_named, flags_from, named_flags, summed}
use Rattle.annot_simulation.specs.ContractDoes.{Flagged, left_with, from_here, Demanded, Met, Failed, Checked, Goes, Breaks, StandsFor, IsNamed, AreNamed, ClauseGood, IsGood, AreGood, ChecksFollow}
use Rattle.annot_simulation.specs.Does.{Did, Setting, HasKept, runs, with_steps, Stands, PredicateFound, Judges}
use Rattle.annot_simulation.specs.Held.{sorts_held}
use Rattle.annot_simulation.proofs.Exact.{wrap_in}
use Rattle.annot_simulation.proofs.Grows.{pred_grows, longer}
use Rattle.annot_simulation.proofs.Snapshots.{gives_moved, stays_all}
use Rattle.annot_simulation.proofs.Steps.{same_all, same_trans, same_set, set_first, operation, get-set_same, after_runs, after_to, stopped, writes_none, HasNumber, set_runs, if_true, if_false, constant_has}
use Rattle.annot_simulation.proofs.Outcomes.{code_judges, judged_with_grows}

-- ---- flags of behaviors

pub flagged_moved : (h : ℕ) (hs : List Bool) (regs after : List Value) → ((j : ℕ) → h ≤ j → j < h + length hs → slice_get after j ≡ slice_get regs j) → Flagged h hs regs → Flagged h hs after
flagged_moved h [] regs after same f = tt
flagged_moved h (b ∷ hs) regs after same f = (same h (omega arith) (omega arith) ∙ f.0, flagged_moved (suc h) hs regs after (λ j le lt. same j (omega (arith, le)) (omega (arith, lt))) f.1)

flag_at : (h : ℕ) (hs : List Bool) (regs : List Value) (k : ℕ) → k < length hs → Flagged h hs regs → slice_get regs (h + k) ≡ Some (Integer (truth (holds_at k hs)))
flag_at h [] regs k lt f = absurd (omega arith)
flag_at h (b ∷ hs) regs zero lt f = subst (λ j. slice_get regs j ≡ Some (Integer (truth b))) (omega arith) f.0
flag_at h (b ∷ hs) regs (suc k) lt f = subst (λ j. slice_get regs j ≡ Some (Integer (truth (holds_at k hs)))) (omega arith) (flag_at (suc h) hs regs k (omega arith) f.1)

-- a behavior that holds so far, and whether it goes on to hold
abbrev held_then : ℕ → List Bool → Bool → List Bool
held_then k hs b = cond b hs (without k hs)

long_without : (k : ℕ) (hs : List Bool) → length (without k hs) ≡ length hs
long_without k [] = refl
long_without zero (h ∷ hs) = refl
long_without (suc k) (h ∷ hs) = ap suc (long_without k hs)

long_then : (k : ℕ) (hs : List Bool) (b : Bool) → length (held_then k hs b) ≡ length hs
long_then k hs true = refl
long_then k hs false = long_without k hs

flagged_set : (h : ℕ) (hs : List Bool) (regs : List Value) (k : ℕ) (b : Bool) → holds_at k hs ≡ true → (h + length hs) ≤ length regs → Flagged h hs regs → Flagged h (held_then k hs b) (slice_set regs (h + k) (Integer (truth b)))
flagged_set h [] regs k b holds room f = absurd cc
flagged_set h (x ∷ hs) regs zero true holds room f =
    let is : x ≡ true = holds in
    let there : h + 0 ≡ h = omega arith in (
      ap (λ j. slice_get (slice_set regs j (Integer (pos 1))) h) there ∙ get-set_same regs h (Integer (pos 1)) (omega (arith, room)) ∙ ap (λ y. Some (Integer (truth y))) (sym is),
      flagged_moved (suc h) hs regs (slice_set regs (h + 0) (Integer (pos 1))) (λ j le lt. slice_get-slice_set_other regs (h + 0) j (Integer (pos 1)) (λ e. omega (arith, e, le))) f.1,
    )
flagged_set h (x ∷ hs) regs zero false holds room f =
    let there : h + 0 ≡ h = omega arith in (
      ap (λ j. slice_get (slice_set regs j (Integer (pos 0))) h) there ∙ get-set_same regs h (Integer (pos 0)) (omega (arith, room)),
      flagged_moved (suc h) hs regs (slice_set regs (h + 0) (Integer (pos 0))) (λ j le lt. slice_get-slice_set_other regs (h + 0) j (Integer (pos 0)) (λ e. omega (arith, e, le))) f.1,
    )
flagged_set h (x ∷ hs) regs (suc k) true holds room f =
    let there : h + suc k ≡ suc h + k = omega arith in (
      slice_get-slice_set_other regs (h + suc k) h (Integer (pos 1)) (λ e. omega (arith, e)) ∙ f.0,
      subst (λ j. Flagged (suc h) hs (slice_set regs j (Integer (pos 1)))) (sym there) (flagged_set (suc h) hs regs k true holds (omega (arith, room)) f.1),
    )
flagged_set h (x ∷ hs) regs (suc k) false holds room f =
    let there : h + suc k ≡ suc h + k = omega arith in (
      slice_get-slice_set_other regs (h + suc k) h (Integer (pos 0)) (λ e. omega (arith, e)) ∙ f.0,
      subst (λ j. Flagged (suc h) (without k hs) (slice_set regs j (Integer (pos 0)))) (sym there) (flagged_set (suc h) hs regs k false holds (omega (arith, room)) f.1),
    )

-- ---- an assert

module _ (w : Setting) where
  abbrev go : MonStatements → monitored.Does over_blocks
  go b = monitored.exec_all over_blocks w.globals b w.calls w.turns

  abbrev judges : ℕ → ℕ → Kind → ℤ → ℤ → List Value → Did
  judges number line kind d v regs = monitored.judged over_blocks d v (machine.Broken number line kind how.Undefined) (machine.Broken number line kind how.False) (Done (Next regs) w.target []) w.target.steps

  assert_first : (number line : ℕ) (kind : Kind) (d v : MonExpression) (b : MonStatements) (i j : ℤ) (regs : List Value) → HasNumber w d regs i → HasNumber w v regs j
      → runs w (Then (Assert d v number line kind) b) regs ≡ then_do (judges number line kind i j regs) (at_next (go b))
  assert_first number line kind d v b i j regs p q =
      ap (λ o. then_do (with_value (bind o integer_of) w.target.steps (λ i. with_value (monitored.eval_number over_blocks w.globals v regs w.target.mem) w.target.steps (λ j. judges number line kind i j regs))) (at_next (go b))) p
      ∙ ap (λ o. then_do (with_value (bind o integer_of) w.target.steps (λ j. judges number line kind i j regs)) (at_next (go b))) q

  assert_holds : (number line : ℕ) (kind : Kind) (d v : MonExpression) (b : MonStatements) (regs : List Value) → HasNumber w d regs (pos 1) → HasNumber w v regs (pos 1) → runs w (Then (Assert d v number line kind) b) regs ≡ runs w b regs
  assert_holds number line kind d v b regs p q = assert_first number line kind d v b (pos 1) (pos 1) regs p q ∙ writes_none (runs w b regs)

judgement_grows : (w : Setting) (q : Predicate) (rs : List MonType) → length rs ≤ length (judgement w.unit w.bound w.plan w.held q rs).used
judgement_grows w q rs =
    let c = pred_code w.unit w.bound w.plan q w.held [] rs in
    omega (arith, pred_grows w.unit w.bound w.plan q w.held [] rs, judged_with_grows c.flag c)

nothing_grows : (rs : List MonType) → length rs ≤ length (nothing_said rs).used
nothing_grows rs = omega (arith, longer rs (I32 ∷ []), longer (rs ++ I32 ∷ []) (I32 ∷ []))

clause_grows : (w : Setting) (c : ClauseBody) (rs : List MonType) → length rs ≤ length (clause_judgement w.unit w.bound w.plan w.held c rs).used
clause_grows w (Raw f) rs = nothing_grows rs
clause_grows w (Holds q) rs = judgement_grows w q rs
clause_grows w (logic.Value t) rs = nothing_grows rs
clause_grows w (Behaviors names) rs = nothing_grows rs

module _ (w : Setting) (n m : ℕ) (stands : StandsFor n m w) where
  -- registers that the checks leave alone hold what they held
  further : (regs later : List Value) → Stays n m w.low w.regs regs → Same w.low regs later → Stays n m w.low w.regs later
  further regs later stays same = stays_trans n m w.low w.low w.regs regs later (omega arith) stays (stays_same n m w.low regs later same)

  kept_here : (regs : List Value) → Stays n m w.low w.regs regs → (k : Kept) → HasKept w k → (k.register + registers_of k.term ≤ n) ⊎ (m ≤ k.register) → GivesTerm k.term (kept_value k w.now.marks) k.register regs
  kept_here regs stays k h out =
      gives_moved k.term (kept_value k w.now.marks) k.register w.regs regs
      (λ j le lt. stays.kept j (omega (arith, lt, h.below)) (⊎_elim (λ a. inl (omega (arith, lt, a))) (λ b. inr (omega (arith, le, b))) out)) h.gives

  stands_here : (i : ℕ) (regs : List Value) → Stays n m w.low w.regs regs → Stands (from_here i w regs)
  stands_here i regs stays = record {
    store_is = stands.apart.store_is;
    points = λ x number found later same. stands.apart.points x number found later (further regs later stays same);
    held = λ x h f.
        let a = stands.held x h f in
        record { value = a.value; sorted = a.sorted; starts = a.starts; is = a.is i; holds = λ later same. a.holds later (further regs later stays same) };
    keeps = λ at k f. let a = stands.keeps at k f in record { below = a.0.below; gives = kept_here regs stays k a.0 a.1 };
    sound = stands.apart.sound;
  }

  module _ (a : Annotation) (q : Predicate) (ranged : PredicateRanged w.seen q) (found : PredicateFound w.plan w.now.scope (sorts_held w.held) q) (i : ℕ) (enough : i ≤ w.turns) (rs : List MonType) (low : w.low ≤ length rs) (regs : List Value)
      (stays : Stays n m w.low w.regs regs) (room : length (judgement w.unit w.bound w.plan w.held q rs).used ≤ length regs) where
    abbrev j : Judgement
    j = judgement w.unit w.bound w.plan w.held q rs

    abbrev wi : Setting
    wi = with_steps i w

    abbrev answer : Answer
    answer = pred q (left_with i w.now) w.names i

    does : Judges (from_here i w regs) rs j answer
    does = code_judges (from_here i w regs) q rs (stands_here i regs stays) (stands.ranges i) ranged found enough low room

    falls : steps_of answer ≤ i
    falls = steps_pred q (left_with i w.now) w.names i

    abbrev test : MonStatements
    test = one (Assert (Register j.flag) (Register j.truth) a.number a.place.line a.kind)

    assertion_does : Demanded w i (judged a answer (left_with i w.now)) (runs wi (asserted a j) regs) rs regs
    assertion_does = by answer falls does
      where
        by : (A : Answer) → steps_of A ≤ i → Judges (from_here i w regs) rs j A → Demanded w i (judged a A (left_with i w.now)) (runs wi (asserted a j) regs) rs regs
        by (Says true k) le d =
            Met k d.after le d.same refl
            (after_to wi k j.stmts test regs d.after d.is
            ∙ assert_holds (with_steps k w) a.number a.place.line a.kind (Register j.flag) (Register j.truth) NoStatement d.after d.holds.flag_is d.holds.truth_is)
        by (Says false k) le d =
            Failed (Broken a.number a.place.line a.kind how.False) (machine.Broken a.number a.place.line a.kind how.False) k refl refl
            (after_to wi k j.stmts test regs d.after d.is
            ∙ assert_first (with_steps k w) a.number a.place.line a.kind (Register j.flag) (Register j.truth) NoStatement (pos 1) (pos 0) d.after d.holds.flag_is d.holds.truth_is)
        by (SaysNothing k) le d =
            Failed (Broken a.number a.place.line a.kind how.Undefined) (machine.Broken a.number a.place.line a.kind how.Undefined) k refl refl
            (after_to wi k j.stmts test regs d.after d.is
            ∙ assert_first (with_steps k w) a.number a.place.line a.kind (Register j.flag) (Register j.truth) NoStatement (pos 0) (pos 0) d.after d.holds.flag_is d.holds.truth_is)
        by OutOfSteps le d = Failed Spent machine.Spent 0 refl refl (stopped wi j.stmts test regs machine.Spent 0 d)

    module _ (h : ℕ) (hs : List Bool) (k : ℕ) (lt : k < length hs) (holds : holds_at k hs ≡ true) (in_rs : (h + length hs) ≤ length rs) (flagged : Flagged h hs regs) where
      abbrev rest : MonStatements
      rest = Then (Assert (Register j.flag) (Constant I32 (pos 1)) a.number a.place.line a.kind) (set (h + k) (Register j.truth))

      abbrev code : MonStatements
      code = assumption_code a (h + k) j

      assumption_does : Checked w i h hs (assumed a k hs answer (left_with i w.now)) (runs wi code regs) rs regs
      assumption_does = by answer falls does
        where
          moved : (end : List Value) → Same (length rs) regs end → Flagged h hs end
          moved end same = flagged_moved h hs regs end (λ i le lt. same.below i (omega (arith, lt, in_rs))) flagged

          long : (end : List Value) → Same (length rs) regs end → (h + length hs) ≤ length end
          long end same = let g = same.long in let u = judgement_grows w q rs in omega (arith, in_rs, g, room, u)

          kept : (b : Bool) (end : List Value) → Same (length rs) regs end → Stays h (h + length hs) (length rs) regs (slice_set end (h + k) (Integer (truth b)))
          kept b end same = record {
            long = length-set end (h + k) (Integer (truth b)) ∙ same.long;
            kept = λ i below out.
                slice_get-slice_set_other end (h + k) i (Integer (truth b)) (⊎_elim (λ x. λ e. omega (arith, e, x)) (λ y. λ e. omega (arith, e, y, lt)) out)
                ∙ same.below i below;
          }

          assigned : (b : Bool) (l : ℕ) (end : List Value) → runs wi j.stmts regs ≡ Done (Next end) (record w.target { steps = l }) [] → slice_get end j.flag ≡ Some (Integer (pos 1)) → slice_get end j.truth ≡ Some (Integer (truth b))
              → runs wi code regs ≡ Done (Next (slice_set end (h + k) (Integer (truth b)))) (record w.target { steps = l }) []
          assigned b l end is p t =
              after_to wi l j.stmts rest regs end is
              ∙ assert_holds (with_steps l w) a.number a.place.line a.kind (Register j.flag) (Constant I32 (pos 1)) (set (h + k) (Register j.truth)) end p refl
              ∙ set_runs (with_steps l w) (h + k) (Register j.truth) end (truth b) t

          by : (A : Answer) → steps_of A ≤ i → Judges (from_here i w regs) rs j A → Checked w i h hs (assumed a k hs A (left_with i w.now)) (runs wi code regs) rs regs
          by (SaysNothing l) le d =
              Breaks (Broken a.number a.place.line a.kind how.Undefined) (machine.Broken a.number a.place.line a.kind how.Undefined) l refl refl
              (after_to wi l j.stmts rest regs d.after d.is
              ∙ assert_first (with_steps l w) a.number a.place.line a.kind (Register j.flag) (Constant I32 (pos 1)) (set (h + k) (Register j.truth)) (pos 0) (pos 1) d.after d.holds.flag_is refl)
          by (Says true l) le d =
              Goes l hs (slice_set d.after (h + k) (Integer (truth true))) le refl (kept true d.after d.same) (flagged_set h hs d.after k true holds (long d.after d.same) (moved d.after d.same)) refl
              (assigned true l d.after d.is d.holds.flag_is d.holds.truth_is)
          by (Says false l) le d =
              Goes l (without k hs) (slice_set d.after (h + k) (Integer (truth false))) le (long_without k hs) (kept false d.after d.same) (flagged_set h hs d.after k false holds (long d.after d.same) (moved d.after d.same)) refl
              (assigned false l d.after d.is d.holds.flag_is d.holds.truth_is)
          by OutOfSteps le d = Breaks Spent machine.Spent 0 refl refl (stopped wi j.stmts rest regs machine.Spent 0 d)

-- ---- a clause that names behaviors

-- how many of them hold
abbrev pub how_many : List Bool → ℕ
how_many [] = 0
how_many (b ∷ bs) = cond b (suc (how_many bs)) (how_many bs)

-- these registers, each below c, hold these truths
abbrev Read : ℕ → List ℕ → List Bool → List Value → Type 0
Read c [] [] regs = Unit {0}
Read c [] (x ∷ xs) regs = ⊥
Read c (f ∷ fs) [] regs = ⊥
Read c (f ∷ fs) (x ∷ xs) regs = (f < c) × (slice_get regs f ≡ Some (Integer (truth x))) × Read c fs xs regs

read_moved : (c : ℕ) (fs : List ℕ) (xs : List Bool) (regs after : List Value) → Same c regs after → Read c fs xs regs → Read c fs xs after
read_moved c [] [] regs after same r = tt
read_moved c [] (x ∷ xs) regs after same r = absurd r
read_moved c (f ∷ fs) [] regs after same r = absurd r
read_moved c (f ∷ fs) (x ∷ xs) regs after same r = (r.0, same.below f r.0 ∙ r.1, read_moved c fs xs regs after same r.2)

-- none below so many is wrapped
fits_count : (k : ℕ) → k < 2147483648 → wrap I32 (pos k) ≡ pos k
fits_count k lt = wrap_in W32 (pos k) (record { sfits = omega (arith, lt) })

module _ (w : Setting) (c : ℕ) where
  record Summed (a : MonStatements) (total : ℕ) (regs : List Value) : Type 0 where
    after : List Value
    same : Same c regs after
    is : runs w a regs ≡ Done (Next after) w.target []
    total_is : slice_get after c ≡ Some (Integer (pos total))

  summed_does : (fs : List ℕ) (xs : List Bool) (k : ℕ) (regs : List Value) → c < length regs → (k + length fs) < 2147483648 → Read c fs xs regs → slice_get regs c ≡ Some (Integer (pos k)) → Summed (summed c fs) (k + how_many xs) regs
  summed_does [] [] k regs room few r at = record { after = regs; same = same_all c regs; is = refl; total_is = at ∙ ap (λ n. Some (Integer (pos n))) (omega arith) }
  summed_does [] (x ∷ xs) k regs room few r at = absurd r
  summed_does (f ∷ fs) [] k regs room few r at = absurd r
  summed_does (f ∷ fs) (true ∷ xs) k regs room few r at =
      let next = slice_set regs c (Integer (pos (k + 1))) in
      let same : Same c regs next = same_set c c regs (Integer (pos (k + 1))) (omega arith) in
      let rest = summed_does fs xs (k + 1) next (omega (arith, room, length-set regs c (Integer (pos (k + 1))))) (omega (arith, few)) (read_moved c fs xs regs next same r.2) (get-set_same regs c (Integer (pos (k + 1))) room) in record {
        after = rest.after;
        same = same_trans c c regs next rest.after (omega arith) same rest.same;
        is =
            set_first w c (Binary Add I32 (Register c) (Register f)) (summed c fs) regs (pos (k + 1))
            (operation w Add I32 (Register c) (Register f) regs (pos k) (pos 1) (pos (k + 1)) refl at r.1 (ap Some (fits_count (k + 1) (omega (arith, few)))))
            ∙ rest.is;
        total_is = rest.total_is ∙ ap (λ n. Some (Integer (pos n))) (omega arith);
      }
  summed_does (f ∷ fs) (false ∷ xs) k regs room few r at =
      let next = slice_set regs c (Integer (pos k)) in
      let same : Same c regs next = same_set c c regs (Integer (pos k)) (omega arith) in
      let zero_more : k + 0 ≡ k = omega arith in
      let rest = summed_does fs xs k next (omega (arith, room, length-set regs c (Integer (pos k)))) (omega (arith, few)) (read_moved c fs xs regs next same r.2) (get-set_same regs c (Integer (pos k)) room) in record {
        after = rest.after;
        same = same_trans c c regs next rest.after (omega arith) same rest.same;
        is =
            set_first w c (Binary Add I32 (Register c) (Register f)) (summed c fs) regs (pos k)
            (operation w Add I32 (Register c) (Register f) regs (pos k) (pos 0) (pos k) refl at r.1 (ap Some (ap (λ n. wrap I32 (pos n)) zero_more ∙ fits_count k (omega (arith, few)))))
            ∙ rest.is;
        total_is = rest.total_is;
      }

some_counted : (xs : List Bool) → int_lt (pos 0) (pos (how_many xs)) ≡ list_any (λ (b : Bool). b) xs
some_counted [] = refl
some_counted (true ∷ xs) = grind (arith, ints)
some_counted (false ∷ xs) = some_counted xs

one_counted : (xs : List Bool) → int_le (pos (how_many xs)) (pos 1) ≡ at_most_one xs
one_counted [] = refl
one_counted (true ∷ xs) = by xs
  where
    by : (ys : List Bool) → int_le (pos (suc (how_many ys))) (pos 1) ≡ not (list_any (λ (b : Bool). b) ys)
    by [] = refl
    by (true ∷ ys) = grind (arith, ints)
    by (false ∷ ys) = by ys
one_counted (false ∷ xs) = one_counted xs

-- a register becomes the number of those that hold
module _ (w : Setting) (c : ℕ) (fs : List ℕ) (xs : List Bool) (regs : List Value) (room : c < length regs) (few : length fs < 2147483647) (r : Read c fs xs regs) where
  abbrev first : List Value
  first = slice_set regs c (Integer (pos 0))

  same_first : Same c regs first
  same_first = same_set c c regs (Integer (pos 0)) (omega arith)

  sum : Summed w c (summed c fs) (0 + how_many xs) first
  sum = summed_does w c fs xs 0 first (let g = length-set regs c (Integer (pos 0)) in omega (arith, g, room)) (omega (arith, few)) (read_moved c fs xs regs first same_first r) (get-set_same regs c (Integer (pos 0)) room)

  counts : Summed w c (count c fs) (how_many xs) regs
  counts = record {
    after = sum.after;
    same = same_trans c c regs first sum.after (omega arith) same_first sum.same;
    is = set_first w c (Constant I32 (pos 0)) (summed c fs) regs (pos 0) refl ∙ sum.is;
    total_is = sum.total_is ∙ ap (λ n. Some (Integer (pos n))) (omega arith);
  }

-- what is asked where a register has that number
module _ (w : Setting) (a : Annotation) (c : ℕ) (xs : List Bool) (regs : List Value) (number : slice_get regs c ≡ Some (Integer (pos (how_many xs)))) where
  at_most : HasNumber w (Binary Le I32 (Register c) (Constant I32 (pos 1))) regs (truth (at_most_one xs))
  at_most = operation w Le I32 (Register c) (Constant I32 (pos 1)) regs (pos (how_many xs)) (pos 1) (truth (at_most_one xs)) refl number (constant_has w I32 (pos 1) regs refl) (ap (λ b. Some (truth b)) (one_counted xs))

  at_least : HasNumber w (Binary Lt I32 (Constant I32 (pos 0)) (Register c)) regs (truth (list_any (λ (b : Bool). b) xs))
  at_least = operation w Lt I32 (Constant I32 (pos 0)) (Register c) regs (pos 0) (pos (how_many xs)) (truth (list_any (λ (b : Bool). b) xs)) refl (constant_has w I32 (pos 0) regs refl) number (ap (λ b. Some (truth b)) (some_counted xs))

  truth_is : (k : Kind) → HasNumber w (cover_truth k c) regs (truth (covered k xs))
  truth_is Disjoint = at_most
  truth_is AssertKind = at_least
  truth_is Requires = at_least
  truth_is Assumes = at_least
  truth_is Ensures = at_least
  truth_is Complete = at_least
  truth_is Invariant = at_least
  truth_is Variant = at_least
  truth_is Rte = at_least

  asked_true : covered a.kind xs ≡ true → runs w (cover_asked a c) regs ≡ Done (Next regs) w.target []
  asked_true p = assert_holds w a.number a.place.line a.kind (Constant I32 (pos 1)) (cover_truth a.kind c) NoStatement regs refl (truth_is a.kind ∙ ap (λ b. Some (Integer (truth b))) p)

  asked_false : covered a.kind xs ≡ false → runs w (cover_asked a c) regs ≡ Stops (machine.Broken a.number a.place.line a.kind how.False) w.target.steps []
  asked_false p = assert_first w a.number a.place.line a.kind (Constant I32 (pos 1)) (cover_truth a.kind c) NoStatement (pos 1) (pos 0) regs refl (truth_is a.kind ∙ ap (λ b. Some (Integer (truth b))) p)

-- ---- the flags that names stand for

record FlagOf (h c : ℕ) (f : ℕ) (b : Bool) (regs : List Value) : Type 0 where
  under : f < c
  is : slice_get regs f ≡ Some (Integer (truth b))

flag_named_is : (x h c : ℕ) (bs : List NamedBehavior) (hs : List Bool) (regs : List Value) → length hs ≡ length bs → (h + length hs) ≤ c → IsNamed bs x → Flagged h hs regs → FlagOf h c (flag_named x h bs) (holds_named x bs hs) regs
flag_named_is x h c [] hs regs long room i f = absurd i
flag_named_is x h c (b ∷ bs) [] regs long room i f = absurd (omega arith)
flag_named_is x h c (b ∷ bs) (y ∷ hs) regs long room i f = by (nat_eq x b.name) i (λ i. flag_named_is x (suc h) c bs hs regs (omega (arith, long)) (omega (arith, room)) i f.1)
  where
    by : (t : Bool) → cond t (Unit {0}) (IsNamed bs x) → (IsNamed bs x → FlagOf (suc h) c (flag_named x (suc h) bs) (holds_named x bs hs) regs) → FlagOf h c (cond t h (flag_named x (suc h) bs)) (cond t y (holds_named x bs hs)) regs
    by true i rest = record { under = omega (arith, room); is = f.0 }
    by false i rest = let g = rest i in record { under = g.under; is = g.is }

read_all : (h c : ℕ) (bs : List NamedBehavior) (hs : List Bool) (regs : List Value) → length hs ≡ length bs → (h + length hs) ≤ c → Flagged h hs regs → Read c (flags_from h bs) hs regs
read_all h c [] [] regs long room f = tt
read_all h c [] (y ∷ hs) regs long room f = absurd (omega arith)
read_all h c (b ∷ bs) [] regs long room f = absurd (omega arith)
read_all h c (b ∷ bs) (y ∷ hs) regs long room f = (omega (arith, room), f.0, read_all (suc h) c bs hs regs (omega (arith, long)) (omega (arith, room)) f.1)

read_names : (names : List (Place × ℕ)) (h c : ℕ) (bs : List NamedBehavior) (hs : List Bool) (regs : List Value) → length hs ≡ length bs → (h + length hs) ≤ c → AreNamed bs names → Flagged h hs regs
    → Read c (map (λ (n : Place × ℕ). flag_named n.1 h bs) names) (map (λ (n : Place × ℕ). holds_named n.1 bs hs) names) regs
read_names [] h c bs hs regs long room i f = tt
read_names (n ∷ names) h c bs hs regs long room i f = let x = flag_named_is n.1 h c bs hs regs long room i.0 f in (x.under, x.is, read_names names h c bs hs regs long room i.1 f)

-- ---- the number of behaviors that hold

-- a register below `high` and behind the flags has that number, where it was counted
abbrev Counted : ℕ → ℕ → Option ℕ → List Bool → List Value → Type 0
Counted h high None hs regs = Unit {0}
Counted h high (Some c) hs regs = (c < high) × (h + length hs ≤ c) × (slice_get regs c ≡ Some (Integer (pos (how_many hs))))

counted_moved : (h high up : ℕ) (o : Option ℕ) (hs : List Bool) (regs after : List Value) → high ≤ up → ((j : ℕ) → j < high → h + length hs ≤ j → slice_get after j ≡ slice_get regs j) → Counted h high o hs regs → Counted h up o hs after
counted_moved h high up None hs regs after le same x = tt
counted_moved h high up (Some c) hs regs after le same x = (omega (arith, x.0, le), x.1, same c x.0 x.1 ∙ x.2)

-- ---- checks in their order

module _ (w : Setting) (bs : List NamedBehavior) (h : ℕ) where
  cover_grows : (names : List (Place × ℕ)) (o : Option ℕ) (rs : List MonType) → length rs ≤ length (behind_cover w.unit w.bound w.plan w.held bs h names o rs)
  cover_grows [] None rs = longer rs (I32 ∷ [])
  cover_grows [] (Some c) rs = omega arith
  cover_grows (x ∷ xs) o rs = longer rs (I32 ∷ [])

  demand_grows : (o : Option ℕ) (rs : List MonType) (a : Annotation) (c : ClauseBody) → length rs ≤ length (behind_demand w.unit w.bound w.plan w.held bs h o rs a c)
  demand_grows o rs a (Raw f) = clause_grows w a.body rs
  demand_grows o rs a (Holds q) = clause_grows w a.body rs
  demand_grows o rs a (logic.Value t) = clause_grows w a.body rs
  demand_grows o rs a (Behaviors names) = cover_grows names o rs

  check_grows : (counted : Option ℕ) (rs : List MonType) (a : Annotation) (o : Option ℕ) → length rs ≤ length (behind_check w.unit w.bound w.plan w.held bs h counted rs a o)
  check_grows counted rs a None = demand_grows counted rs a a.body
  check_grows counted rs a (Some k) = by (is_assumes a.kind)
    where
      by : (t : Bool) → length rs ≤ length (cond t (behind_assertion w.unit w.bound w.plan w.held rs a) (behind_demand w.unit w.bound w.plan w.held bs h counted rs a a.body))
      by true = clause_grows w a.body rs
      by false = demand_grows counted rs a a.body

  pub checks_grow : (counted : Option ℕ) (rs : List MonType) (cs : List Check) → length rs ≤ length (behind_checks w.unit w.bound w.plan w.held bs h counted rs cs)
  checks_grow counted rs [] = omega arith
  checks_grow counted rs (c ∷ cs) =
      let x = check_grows counted rs c.annotation c.behavior in
      let y = checks_grow (counted_by w.unit w.bound w.plan w.held bs h counted rs c.annotation c.behavior) (behind_check w.unit w.bound w.plan w.held bs h counted rs c.annotation c.behavior) cs in
      omega (arith, x, y)

-- a demand is met, and the number of behaviors stands where it is said, or it fails
data Demands (w : Setting) (i h up : ℕ) (o : Option ℕ) (hs : List Bool) (r : Outcome (Unit {0})) (q : Did) (rs : List MonType) (regs : List Value) : Type 0 where
  Meets : (k : ℕ) (after : List Value) → k ≤ i → Same (length rs) regs after → Counted h up o hs after → r ≡ Normal tt (left_with k w.now)
      → q ≡ Done (Next after) (record w.target { steps = k }) [] → Demands w i h up o hs r q rs regs
  Fails : (e : Final) (z : machine.Final) (k : ℕ) → machine_end e ≡ Some z → r ≡ Stop (Over e) (left_with k w.now) → q ≡ Stops z k [] → Demands w i h up o hs r q rs regs

-- so do checks
data Checks (w : Setting) (i h up : ℕ) (o : Option ℕ) (hs : List Bool) (r : Outcome (List Bool)) (q : Did) (rs : List MonType) (regs : List Value) : Type 0 where
  GoesSo : (k : ℕ) (held : List Bool) (after : List Value) → k ≤ i → length held ≡ length hs → Stays h (h + length hs) (length rs) regs after → Flagged h held after → Counted h up o held after
      → r ≡ Normal held (left_with k w.now) → q ≡ Done (Next after) (record w.target { steps = k }) [] → Checks w i h up o hs r q rs regs
  BreaksSo : (e : Final) (z : machine.Final) (k : ℕ) → machine_end e ≡ Some z → r ≡ Stop (Over e) (left_with k w.now) → q ≡ Stops z k [] → Checks w i h up o hs r q rs regs

-- a demand that takes no register of its own
demands : (w : Setting) (i h up : ℕ) (o : Option ℕ) (hs : List Bool) (r : Outcome (Unit {0})) (q : Did) (rs : List MonType) (regs : List Value) → length rs ≤ up → Counted h (length rs) o hs regs → Demanded w i r q rs regs
    → Demands w i h up o hs r q rs regs
demands w i h up o hs r q rs regs le x (Met k after less same e f) = Meets k after less same (counted_moved h (length rs) up o hs regs after le (λ j lt out. same.below j lt) x) e f
demands w i h up o hs r q rs regs le x (Failed e z k i2 p f) = Fails e z k i2 p f

module _ (w : Setting) (bs : List NamedBehavior) (h i : ℕ) (hs : List Bool) (long : length hs ≡ length bs) (rs : List MonType) (in_rs : h + length hs ≤ length rs) (regs : List Value) (flagged : Flagged h hs regs) (a : Annotation) where
  abbrev stepped : Setting
  stepped = with_steps i w

  abbrev says : List Bool → Outcome (Unit {0})
  says xs = judged a (Says (covered a.kind xs) i) (left_with i w.now)

  -- it is asked where the number stands
  asks_number : (up : ℕ) (o : Option ℕ) (c : ℕ) (xs : List Bool) (a0 : MonStatements) (mid : List Value) → runs stepped a0 regs ≡ Done (Next mid) stepped.target [] → Same (length rs) regs mid → slice_get mid c ≡ Some (Integer (pos (how_many xs)))
      → Counted h up o hs mid
      → Demands w i h up o hs (says xs) (runs stepped (before a0 (cover_asked a c)) regs) rs regs
  asks_number up o c xs a0 mid is same number x = by (covered a.kind xs) refl
    where
      by : (t : Bool) → covered a.kind xs ≡ t → Demands w i h up o hs (judged a (Says t i) (left_with i w.now)) (runs stepped (before a0 (cover_asked a c)) regs) rs regs
      by true p = Meets i mid (omega arith) same x refl (after_runs stepped a0 (cover_asked a c) regs mid is ∙ asked_true stepped a c xs mid number p)
      by false p = Fails (Broken a.number a.place.line a.kind how.False) (machine.Broken a.number a.place.line a.kind how.False) i refl refl (after_runs stepped a0 (cover_asked a c) regs mid is ∙ asked_false stepped a c xs mid number p)

  covers : (names : List (Place × ℕ)) (o : Option ℕ) → AreNamed bs names → length (named_flags names h bs) < 2147483647 → Counted h (length rs) o hs regs → length (behind_cover w.unit w.bound w.plan w.held bs h names o rs) ≤ length regs
      → Demands w i h (length (behind_cover w.unit w.bound w.plan w.held bs h names o rs)) (counted_by_cover w.unit w.bound w.plan w.held bs h names o rs) hs (says (named_holds names bs hs))
      (runs stepped (cover_code w.unit w.bound w.plan w.held bs h names o rs a) regs) rs regs
  covers [] None named few x room =
      let c = length rs in
      let two = length-append rs (I32 ∷ []) in
      let s = counts stepped c (flags_from h bs) hs regs (omega (arith, two, room)) few (read_all h c bs hs regs long in_rs flagged) in
      asks_number (length (rs ++ I32 ∷ [])) (Some c) c hs (count c (flags_from h bs)) s.after s.is s.same s.total_is (omega (arith, two), in_rs, s.total_is)
  covers [] (Some c) named few x room = asks_number (length rs) (Some c) c hs NoStatement regs refl (same_all (length rs) regs) x.2 x
  covers (n ∷ names) o named few x room =
      let c = length rs in
      let two = length-append rs (I32 ∷ []) in
      let fs = named_flags (n ∷ names) h bs in
      let xs = named_holds (n ∷ names) bs hs in
      let s = counts stepped c fs xs regs (omega (arith, two, room)) few (read_names (n ∷ names) h c bs hs regs long in_rs named flagged) in
      asks_number (length (rs ++ I32 ∷ [])) o c xs (count c fs) s.after s.is s.same s.total_is (counted_moved h (length rs) (length (rs ++ I32 ∷ [])) o hs regs s.after (omega (arith, two)) (λ j lt out. s.same.below j lt) x)

module _ (w : Setting) (n m : ℕ) (stands : StandsFor n m w) (bs : List NamedBehavior) (h : ℕ) where
  module _ (i : ℕ) (enough : i ≤ w.turns) (hs : List Bool) (long : length hs ≡ length bs) (rs : List MonType) (low : w.low ≤ length rs) (in_rs : h + length hs ≤ length rs) (regs : List Value)
      (flagged : Flagged h hs regs) (stays : Stays n m w.low w.regs regs) (o : Option ℕ) (x : Counted h (length rs) o hs regs) (a : Annotation) where
    abbrev here : State
    here = left_with i w.now

    abbrev there : Setting
    there = with_steps i w

    abbrev clause_of : ClauseBody → Judgement
    clause_of c = clause_judgement w.unit w.bound w.plan w.held c rs

    abbrev dcode : ClauseBody → MonStatements
    dcode c = demand_code w.unit w.bound w.plan w.held bs h o rs a c

    abbrev dbehind : ClauseBody → List MonType
    dbehind c = behind_demand w.unit w.bound w.plan w.held bs h o rs a c

    abbrev dcounted : ClauseBody → Option ℕ
    dcounted c = counted_by_demand w.unit w.bound w.plan w.held bs h o rs c

    -- a clause, where the annotation has this body
    abbrev Met_by : ClauseBody → Type 0
    Met_by c = Demanded w i (judged a (clause c here w.names i) here) (runs there (asserted a (clause_of c)) regs) rs regs

    demand_of : (c : ClauseBody) → a.body ≡ c → ClauseGood w bs h c → length (dbehind c) ≤ length regs → Demands w i h (length (dbehind c)) (dcounted c) hs (demand bs w.names a c hs here) (runs there (dcode c) regs) rs regs
    demand_of (Raw f) e good room = absurd good
    demand_of (Holds q) e good room =
        let used : length (clause_of a.body).used ≡ length (judgement w.unit w.bound w.plan w.held q rs).used = ap (λ c. length (clause_of c).used) e in
        demands w i h (length (dbehind (Holds q))) o hs (demand bs w.names a (Holds q) hs here) (runs there (dcode (Holds q)) regs) rs regs (demand_grows w bs h o rs a (Holds q)) x
        (subst Met_by (sym e) (assertion_does w n m stands a q good.0 good.1 i enough rs low regs stays (omega (arith, used, room))))
    demand_of (logic.Value t) e good room = absurd good
    demand_of (Behaviors names) e good room = covers w bs h i hs long rs in_rs regs flagged a names o good.0 good.1 x room

    -- a demand changes no flag
    checked_by : (up : ℕ) (p : Option ℕ) (r : Outcome (Unit {0})) (q : Did) → Demands w i h up p hs r q rs regs → Checks w i h up p hs (on_outcome r (λ _. give hs)) q rs regs
    checked_by up p r q (Meets k after le same y e f) =
        GoesSo k hs after le refl (record { long = same.long; kept = λ i lt out. same.below i lt }) (flagged_moved h hs regs after (λ i le lt. same.below i (omega (arith, lt, in_rs))) flagged) y (ap (λ r. on_outcome r (λ _. give hs)) e) f
    checked_by up p r q (Fails e z k i2 s f) = BreaksSo e z k i2 (ap (λ r. on_outcome r (λ _. give hs)) s) f

    demand_checked : ClauseGood w bs h a.body → length (dbehind a.body) ≤ length regs → Checks w i h (length (dbehind a.body)) (dcounted a.body) hs ((demand bs w.names a a.body hs >> give hs) here) (runs there (dcode a.body) regs) rs regs
    demand_checked good room = checked_by (length (dbehind a.body)) (dcounted a.body) (demand bs w.names a a.body hs here) (runs there (dcode a.body) regs) (demand_of a.body refl good room)

    -- where what it counted is forgotten
    forgotten : (up : ℕ) (p : Option ℕ) (r : Outcome (List Bool)) (q : Did) → length rs ≤ up → Checks w i h up p hs r q rs regs → ((held : List Bool) (k : ℕ) → r ≡ Normal held (left_with k w.now) → held ≡ hs) → Checks w i h up o hs r q rs regs
    forgotten up p r q le (GoesSo k held after less l s f y e g) same =
        let is = same held k e in
        GoesSo k held after less l s f
        (subst (λ held. Counted h up o held after) (sym is)
        (counted_moved h (length rs) up o hs regs after le (λ j lt out. s.kept j lt (inr out)) x)) e g
    forgotten up p r q le (BreaksSo e z k i2 s g) same = BreaksSo e z k i2 s g

    -- an `assumes` may end a behavior
    uncounted : (up : ℕ) (r : Outcome (List Bool)) (q : Did) → Checked w i h hs r q rs regs → Checks w i h up None hs r q rs regs
    uncounted up r q (Goes k held after le l s f p g) = GoesSo k held after le l s f tt p g
    uncounted up r q (Breaks e z k i2 p g) = BreaksSo e z k i2 p g

    module _ (k : ℕ) (lt : k < length hs) (good : ClauseGood w bs h a.body) (assumes : is_assumes a.kind ≡ true → (q : Predicate) × (a.body ≡ Holds q) × (w.names ≡ [])) where
      flag_is : HasNumber there (Register (h + k)) regs (truth (holds_at k hs))
      flag_is = flag_at h hs regs k lt flagged

      abbrev Assumed_by : ClauseBody → Environment → Type 0
      Assumed_by c e = Checked w i h hs (assumed a k hs (clause c here e i) here) (runs there (assumption_code a (h + k) (clause_of c)) regs) rs regs

      abbrev used_by_kind : Bool → List MonType
      used_by_kind t = cond t (clause_of a.body).used (dbehind a.body)

      same_hold : (held : List Bool) (l : ℕ) → (demand bs w.names a a.body hs >> give hs) here ≡ Normal held (left_with l w.now) → held ≡ hs
      same_hold held l e = by (demand bs w.names a a.body hs here) e
        where
          by : (r : Outcome (Unit {0})) → on_outcome r (λ _. give hs) ≡ Normal held (left_with l w.now) → held ≡ hs
          by (Normal u s) e = cc
          by (Stop f s) e = absurd cc

      -- where the behavior holds so far
      asked : (t : Bool) → is_assumes a.kind ≡ t → holds_at k hs ≡ true → length (used_by_kind t) ≤ length regs
          → Checks w i h (length (used_by_kind t)) (cond t None o) hs (of_behavior bs w.names a k hs t here) (runs there (behavior_code w.unit w.bound w.plan w.held bs h o rs a k t) regs) rs regs
      asked true p holds room =
          let q = assumes p in
          let fine : ClauseGood w bs h (Holds q.0) = subst (ClauseGood w bs h) q.1 good in
          let used : length (clause_of a.body).used ≡ length (judgement w.unit w.bound w.plan w.held q.0 rs).used = ap (λ c. length (clause_of c).used) q.1 in
          uncounted (length (clause_of a.body).used) (of_behavior bs w.names a k hs true here) (runs there (behavior_code w.unit w.bound w.plan w.held bs h o rs a k true) regs)
          (subst (λ c. Assumed_by c []) (sym q.1) (subst (Assumed_by (Holds q.0)) q.2 (assumption_does w n m stands a q.0 fine.0 fine.1 i enough rs low regs stays (omega (arith, used, room)) h hs k lt holds in_rs flagged)))
      asked false p holds room =
          forgotten (length (dbehind a.body)) (dcounted a.body) (of_behavior bs w.names a k hs false here) (runs there (behavior_code w.unit w.bound w.plan w.held bs h o rs a k false) regs) (demand_grows w bs h o rs a a.body)
          (demand_checked good room) same_hold

      kind_grows : (t : Bool) → length rs ≤ length (used_by_kind t)
      kind_grows true = clause_grows w a.body rs
      kind_grows false = demand_grows w bs h o rs a a.body

      counted_kind : (t : Bool) → Counted h (length (used_by_kind t)) (cond t None o) hs regs
      counted_kind true = tt
      counted_kind false = counted_moved h (length rs) (length (dbehind a.body)) o hs regs regs (demand_grows w bs h o rs a a.body) (λ j lt out. refl) x

      behavior_checked : length (used_by_kind (is_assumes a.kind)) ≤ length regs
          → Checks w i h (length (used_by_kind (is_assumes a.kind))) (cond (is_assumes a.kind) None o) hs (checked bs w.names a (Some k) hs here) (runs there (check_code w.unit w.bound w.plan w.held bs h o rs a (Some k)) regs) rs regs
      behavior_checked room = by (holds_at k hs) refl
        where
          code : MonStatements
          code = behavior_code w.unit w.bound w.plan w.held bs h o rs a k (is_assumes a.kind)

          by : (t : Bool) → holds_at k hs ≡ t
              → Checks w i h (length (used_by_kind (is_assumes a.kind))) (cond (is_assumes a.kind) None o) hs (cond t (of_behavior bs w.names a k hs (is_assumes a.kind)) (give hs) here)
              (runs there (check_code w.unit w.bound w.plan w.held bs h o rs a (Some k)) regs) rs regs
          by true p =
              subst (λ q. Checks w i h (length (used_by_kind (is_assumes a.kind))) (cond (is_assumes a.kind) None o) hs (of_behavior bs w.names a k hs (is_assumes a.kind) here) q rs regs)
              (sym (if_true there (Register (h + k)) (behavior_code w.unit w.bound w.plan w.held bs h o rs a k (is_assumes a.kind)) NoStatement regs (flag_is ∙ ap (λ b. Some (Integer (truth b))) p)))
              (asked (is_assumes a.kind) refl p room)
          by false p =
              GoesSo i hs regs (omega arith) refl (stays_all h (h + length hs) (length rs) regs) flagged (counted_kind (is_assumes a.kind)) refl
              (if_false there (Register (h + k)) (behavior_code w.unit w.bound w.plan w.held bs h o rs a k (is_assumes a.kind)) NoStatement regs (flag_is ∙ ap (λ b. Some (Integer (truth b))) p))

    one_checked : (b : Option ℕ) → IsGood w bs h (length hs) a b → length (behind_check w.unit w.bound w.plan w.held bs h o rs a b) ≤ length regs
        → Checks w i h (length (behind_check w.unit w.bound w.plan w.held bs h o rs a b)) (counted_by w.unit w.bound w.plan w.held bs h o rs a b) hs (checked bs w.names a b hs here)
        (runs there (check_code w.unit w.bound w.plan w.held bs h o rs a b) regs) rs regs
    one_checked None good room = demand_checked good room
    one_checked (Some k) good room = behavior_checked k good.1 good.0 good.2 room

module _ (w : Setting) (n m : ℕ) (stands : StandsFor n m w) (bs : List NamedBehavior) (h : ℕ) (behind : n ≤ h) where
  abbrev code_of_check : Option ℕ → List MonType → Annotation → Option ℕ → MonStatements
  code_of_check = check_code w.unit w.bound w.plan w.held bs h

  abbrev code_of_checks : Option ℕ → List MonType → List Check → MonStatements
  code_of_checks = checks_code w.unit w.bound w.plan w.held bs h

  abbrev behind_one : Option ℕ → List MonType → Annotation → Option ℕ → List MonType
  behind_one = behind_check w.unit w.bound w.plan w.held bs h

  abbrev behind_all : Option ℕ → List MonType → List Check → List MonType
  behind_all = behind_checks w.unit w.bound w.plan w.held bs h

  -- checks with so many steps left, where these behaviors hold
  abbrev Follow : Option ℕ → List MonType → List Check → ℕ → List Bool → List Value → Type 0
  Follow o rs cs i hs regs = Checked w i h hs (all_checked bs w.names cs hs (left_with i w.now)) (runs (with_steps i w) (code_of_checks o rs cs) regs) rs regs

  -- the code of checks does what they do, in their order, from so many steps on
  pub checks_follow : (cs : List Check) (i : ℕ) → i ≤ w.turns → (hs : List Bool) → length hs ≡ length bs → AreGood w bs h (length hs) cs → h + length hs ≤ m → (o : Option ℕ) (rs : List MonType) → w.low ≤ length rs → h + length hs ≤ length rs
      → (regs : List Value) → length (behind_all o rs cs) ≤ length regs → Flagged h hs regs → Counted h (length rs) o hs regs → Stays n m w.low w.regs regs
      → Checked w i h hs (all_checked bs w.names cs hs (left_with i w.now)) (runs (with_steps i w) (code_of_checks o rs cs) regs) rs regs
  checks_follow [] i enough hs long good before_end o rs low in_rs regs room flagged x stays = Goes i hs regs (omega arith) refl (stays_all h (h + length hs) (length rs) regs) flagged refl refl
  checks_follow (c ∷ cs) i enough hs long good before_end o rs low in_rs regs room flagged x stays =
      by (one_checked w n m stands bs h i enough hs long rs low in_rs regs flagged stays o x c.annotation c.behavior good.0 (omega (arith, room, more)))
      (λ k held after le l s f y. checks_follow cs k (omega (arith, le, enough)) held (l ∙ long) (subst (λ i. AreGood w bs h i cs) (sym l) good.1) (omega (arith, l, before_end))
      (counted_by w.unit w.bound w.plan w.held bs h o rs c.annotation c.behavior)
      (behind_one o rs c.annotation c.behavior) (omega (arith, low, grows)) (omega (arith, l, in_rs, grows)) after (let g = s.long in omega (arith, g, room)) f y (further held after l s))
    where
      grows : length rs ≤ length (behind_one o rs c.annotation c.behavior)
      grows = check_grows w bs h o rs c.annotation c.behavior

      more : length (behind_one o rs c.annotation c.behavior) ≤ length (behind_all (counted_by w.unit w.bound w.plan w.held bs h o rs c.annotation c.behavior) (behind_one o rs c.annotation c.behavior) cs)
      more = checks_grow w bs h (counted_by w.unit w.bound w.plan w.held bs h o rs c.annotation c.behavior) (behind_one o rs c.annotation c.behavior) cs

      further : (held : List Bool) (after : List Value) → length held ≡ length hs → Stays h (h + length hs) (length rs) regs after → Stays n m w.low w.regs after
      further held after l s = record {
        long = s.long ∙ stays.long;
        kept = λ i lt out. s.kept i (omega (arith, lt, low)) (⊎_elim (λ a. inl (omega (arith, a, behind))) (λ b. inr (omega (arith, b, before_end))) out) ∙ stays.kept i lt out;
      }

      joined : (k : ℕ) (held : List Bool) (after : List Value) → k ≤ i → length held ≡ length hs → Stays h (h + length hs) (length rs) regs after → checked bs w.names c.annotation c.behavior hs (left_with i w.now) ≡ Normal held (left_with k w.now)
          → runs (with_steps i w) (code_of_check o rs c.annotation c.behavior) regs ≡ Done (Next after) (record w.target { steps = k }) []
          → Follow (counted_by w.unit w.bound w.plan w.held bs h o rs c.annotation c.behavior) (behind_one o rs c.annotation c.behavior) cs k held after → Follow o rs (c ∷ cs) i hs regs
      joined k held after le l s p f (Goes j last end le2 l2 s2 g p2 f2) =
          Goes j last end (omega (arith, le, le2)) (l2 ∙ l)
          (record {
            long = s2.long ∙ s.long;
            kept = λ i lt out. s2.kept i (omega (arith, lt, grows)) (⊎_elim (λ a. inl a) (λ b. inr (omega (arith, b, l))) out) ∙ s.kept i lt out;
          })
          g (ap (λ r. on_outcome r (all_checked bs w.names cs)) p ∙ p2)
          (after_to (with_steps i w) k (code_of_check o rs c.annotation c.behavior) (code_of_checks (counted_by w.unit w.bound w.plan w.held bs h o rs c.annotation c.behavior) (behind_one o rs c.annotation c.behavior) cs) regs after f ∙ f2)
      joined k held after le l s p f (Breaks e z j i2 p2 f2) =
          Breaks e z j i2 (ap (λ r. on_outcome r (all_checked bs w.names cs)) p ∙ p2)
          (after_to (with_steps i w) k (code_of_check o rs c.annotation c.behavior) (code_of_checks (counted_by w.unit w.bound w.plan w.held bs h o rs c.annotation c.behavior) (behind_one o rs c.annotation c.behavior) cs) regs after f ∙ f2)

      by : Checks w i h (length (behind_one o rs c.annotation c.behavior)) (counted_by w.unit w.bound w.plan w.held bs h o rs c.annotation c.behavior) hs (checked bs w.names c.annotation c.behavior hs (left_with i w.now))
          (runs (with_steps i w) (code_of_check o rs c.annotation c.behavior) regs) rs regs
          → ((k : ℕ) (held : List Bool) (after : List Value) → k ≤ i → length held ≡ length hs → Stays h (h + length hs) (length rs) regs after → Flagged h held after
          → Counted h (length (behind_one o rs c.annotation c.behavior)) (counted_by w.unit w.bound w.plan w.held bs h o rs c.annotation c.behavior) held after
          → Follow (counted_by w.unit w.bound w.plan w.held bs h o rs c.annotation c.behavior) (behind_one o rs c.annotation c.behavior) cs k held after)
          → Follow o rs (c ∷ cs) i hs regs
      by (GoesSo k held after le l s f y p g) rest = joined k held after le l s p g (rest k held after le l s f y)
      by (BreaksSo e z k i2 p g) rest =
          Breaks e z k i2 (ap (λ r. on_outcome r (all_checked bs w.names cs)) p)
          (stopped (with_steps i w) (code_of_check o rs c.annotation c.behavior) (code_of_checks (counted_by w.unit w.bound w.plan w.held bs h o rs c.annotation c.behavior) (behind_one o rs c.annotation c.behavior) cs) regs z k g)

pub checks_follow_all : ChecksFollow
checks_follow_all w n m stands bs h behind cs i enough hs long good before_end rs low in_rs regs room flagged stays = checks_follow w n m stands bs h behind cs i enough hs long good before_end None rs low in_rs regs room flagged tt stays
