-- `switch`: the search finds the case that the source chooses, and the items run from there on, until a `break`.
use Rattle.std.proofs.Common.{◌≡◌, inr, ℕ, zero, suc, ◌+◌, ◌<◌, ◌≤◌, ℤ, pos, Bool, true, false, cond, nat_le, List, [], ◌++◌, length, Option, Some, None, option_map, slice_get, slice_set, refl, sym, ap, ◌∙◌, subst, arith, append_assoc}
use Rattle.std.proofs.lemmas.Bool.Decides.{nat_tests}
use Rattle.std.proofs.lemmas.Int.{ints}
use Rattle.std.proofs.lemmas.List.{append-nil}
use Rattle.std.specs.Ordering.{int_eq}
use Rattle.c_syntax.specs.declared.types.CInt.{CInt}
use Rattle.c_syntax.specs.Expressions.{Expression, Node, Number}
use Rattle.c_syntax.specs.Layouts.{IntegerType}
use Rattle.c_syntax.specs.Statements.{Cases, NoCase, AnotherCase}
use Rattle.c_syntax.specs.Programs.{TranslationUnit}
use Rattle.c_model.specs.Integers.{truth}
use Rattle.c_model.specs.Memory.{Value, Integer, kill_from}
use Rattle.c_model.specs.State.{State, Outcome, Evaluation, on_outcome, ◌>>◌}
use Rattle.c_model.specs.Meaning.{is_case_of, case_of, default_of, chosen_case, after_switch}
use Rattle.c_model.proofs.Agreement.{extends_trans}
use Rattle.mon_syntax.specs.declared.tree.MonOp.TheVariants.{Eq, Le}
use Rattle.mon_syntax.specs.declared.tree.MonType.TheVariants.{U64}
use Rattle.mon_syntax.specs.Registers.{Bindings, RegisterTable}
use Rattle.mon_syntax.specs.Meaning.{Done, Next, Goes, writes, then_do, at_next, at_label, choose, exec_all}
use Rattle.mon_syntax.specs.BlockMemory.{over_blocks}
use Rattle.mon_syntax.specs.LiveBlocks.{live_in}
use Rattle.mon_syntax.specs.Trees.{MonExpression, MonStatements, NoStatement, Then, Register, Constant, Binary, Labelled, Goto}
use Rattle.c_effects.specs.Expressions.{register_type, before, one, set}
use Rattle.track_scopes.specs.Lives.{AreFrom, AreBefore}
use Rattle.instrument.specs.Translation.{Spot, in_switch, case_label, test_case, tests_of_cases, search, where_reached, others_in_block, after_items, items, next_cases}
use Rattle.c_simulation.specs.Labels.{end_label, next_label}
use Rattle.c_simulation.specs.Keeping.{Kept}
use Rattle.c_simulation.specs.SameRegisters.{Same, Stays}
use Rattle.c_simulation.specs.Standing.{Target, Did, Setting, runs, Has, IsOf, Here, IsKept, Standing, Beside}
use Rattle.c_simulation.specs.Reaching.{Reaches, Valued}
use Rattle.c_simulation.specs.Following.{Passes, Follows, GoesOn, Breaks, Continues, IsLeft, IsOver, IsUndefined, written}
use Rattle.c_simulation.proofs.Results.{writes_none, written_then, one_is, before_is}
use Rattle.c_simulation.proofs.Registers.{get-set_same, same_all, same_less, same_set, same_trans, stays_same, stays_trans}
use Rattle.c_simulation.proofs.Following.{left_end, anchored_same, kept_same, follows_then}
use Rattle.c_simulation.proofs.Evaluating.{behind_setup, set_runs, if_runs}
use Rattle.c_simulation.proofs.Reaching.{follows_before}
use Rattle.c_simulation.proofs.Integers.{is_number}
use Rattle.c_simulation.proofs.Values.{operation, constant_has}
use Rattle.instrument.proofs.Deaths.{kill_none, all_before}
use Rattle.instrument.proofs.Births.{anchored_higher, pointed_append, pointed_same}
use Rattle.instrument.proofs.Blocks.{Meets, meets_after, meets_later}
use Rattle.instrument.proofs.Loops.{same_label}

-- a truth chooses
choose_truth : {A : Type 0} (b : Bool) (p q : A) → choose (truth b) p q ≡ cond b p q
choose_truth true p q = refl
choose_truth false p q = refl

-- the register has the index of the chosen case
abbrev pub HasIndex : ℕ → ℕ → List Value → Type 0
HasIndex j c regs = slice_get regs j ≡ Some (Integer (pos c))

-- ---- the search

-- over registers, of which v has the number z
module _ (w : Setting) (n : ℕ) (t : Target) (levels v j : ℕ) (k : CInt) (z : ℤ) (regs : List Value) (has : slice_get regs v ≡ Some (Integer z)) where
  -- where the tests of the cases from the index i on lead
  abbrev led : ℕ → Option ℕ → Did
  led i None = Done (Next regs) t []
  led i (Some c) = Done (Goes (case_label levels) (slice_set regs j (Integer (pos (i + c))))) t []

  led_later : (i : ℕ) (o : Option ℕ) → led (suc i) o ≡ led i (option_map suc o)
  led_later i None = refl
  led_later i (Some c) =
      let sum : suc i + c ≡ i + suc c = omega arith in
      ap (λ m. Done (Goes (case_label levels) (slice_set regs j (Integer (pos m)))) t []) sum

  -- the index is set, and the search ends
  goes_there : (i : ℕ) → runs w n t (before (set j (Constant U64 (pos i))) (one (Goto (case_label levels)))) regs ≡ led i (Some 0)
  goes_there i =
      let sum : i ≡ i + 0 = omega arith in
      behind_setup w n t (set j (Constant U64 (pos i))) (one (Goto (case_label levels))) regs (slice_set regs j (Integer (pos i))) (set_runs w n t j (Constant U64 (pos i)) regs (Integer (pos i)) refl)
      ∙ one_is w.globals (Goto (case_label levels)) w.calls n (slice_set regs j (Integer (pos i))) t
      ∙ ap (λ m. Done (Goes (case_label levels) (slice_set regs j (Integer (pos m)))) t []) sum

  test_is : (i : ℕ) (value : Option Expression) → runs w n t (test_case levels (register_type k) v j i value) regs ≡ cond (is_case_of z value) (led i (Some 0)) (led i None)
  test_is i (Some (Node at u (Number m l))) =
      let found = before (set j (Constant U64 (pos i))) (one (Goto (case_label levels))) in
      let test = Binary Eq (register_type k) (Register v) (Constant (register_type k) m) in
      let is : Has w test regs t.mem (Integer (truth (int_eq z m))) = operation w regs t.mem Eq (register_type k) (Register v) (Constant (register_type k) m) z m (is_number k) has (constant_has w regs t.mem (register_type k) m (is_number k)) in
      let other_way : int_eq z m ≡ int_eq m z = grind (arith, ints) in
      if_runs w n t test found NoStatement regs (truth (int_eq z m)) is
      ∙ choose_truth (int_eq z m) (runs w n t found regs) (Done (Next regs) t [])
      ∙ ap (λ b. cond b (runs w n t found regs) (Done (Next regs) t [])) other_way
      ∙ ap (λ q. cond (int_eq m z) q (Done (Next regs) t [])) (goes_there i)
  test_is i _ = refl

  tests_are : (cases : Cases) (i : ℕ) → runs w n t (tests_of_cases levels (register_type k) v j i cases) regs ≡ led i (case_of z cases)
  tests_are NoCase i = refl
  tests_are (AnotherCase at value body rest) i =
      let others = tests_of_cases levels (register_type k) v j (suc i) rest in
      before_is w.globals (test_case levels (register_type k) v j i value) others w.calls n regs t
      ∙ ap (λ q. then_do q (at_next (exec_all over_blocks w.globals others w.calls n))) (test_is i value)
      ∙ by (is_case_of z value) (tests_are rest (suc i))
    where
      by : (b : Bool) → runs w n t (tests_of_cases levels (register_type k) v j (suc i) rest) regs ≡ led (suc i) (case_of z rest)
          → then_do (cond b (led i (Some 0)) (led i None)) (at_next (exec_all over_blocks w.globals (tests_of_cases levels (register_type k) v j (suc i) rest) w.calls n))
          ≡ led i (cond b (Some 0) (option_map suc (case_of z rest)))
      by true e = refl
      by false e = writes_none (runs w n t (tests_of_cases levels (register_type k) v j (suc i) rest) regs) ∙ e ∙ led_later i (case_of z rest)

  -- the registers after the search
  abbrev landed : Option ℕ → List Value
  landed None = regs
  landed (Some c) = slice_set regs j (Integer (pos c))

  search_ends : (cases : Cases) → runs w n t (one (Labelled (tests_of_cases levels (register_type k) v j 0 cases) (case_label levels))) regs ≡ Done (Next (landed (case_of z cases))) t []
  search_ends cases =
      one_is w.globals (Labelled (tests_of_cases levels (register_type k) v j 0 cases) (case_label levels)) w.calls n regs t
      ∙ ap (λ q. then_do q (at_label (case_label levels))) (tests_are cases 0)
      ∙ by (case_of z cases)
    where
      by : (o : Option ℕ) → then_do (led 0 o) (at_label (case_label levels)) ≡ Done (Next (landed o)) t []
      by None = refl
      by (Some c) =
          let sum : 0 + c ≡ c = omega arith in
          ap (λ b. writes [] (cond b (Done (Next (slice_set regs j (Integer (pos (0 + c))))) t []) (Done (Goes (case_label levels) (slice_set regs j (Integer (pos (0 + c))))) t []))) (same_label (case_label levels))
          ∙ ap (λ m. Done (Next (slice_set regs j (Integer (pos m)))) t []) sum

-- the search, over registers of which the first ones are kept, ends with the index of the chosen case
pub record Lands (w : Setting) (n : ℕ) (t : Target) (j c : ℕ) (code : MonStatements) (regs : List Value) : Type 0 where
  pub after : List Value
  pub run : runs w n t code regs ≡ Done (Next after) t []
  pub has : HasIndex j c after
  pub same : Same j regs after

pub search_lands : (w : Setting) (n : ℕ) (t : Target) (levels v j : ℕ) (k : CInt) (z : ℤ) (cases : Cases) (regs : List Value) → slice_get regs v ≡ Some (Integer z) → v < j → j < length regs
    → Lands w n t j (chosen_case (Integer z) cases) (search levels (register_type k) v j cases) regs
search_lands w n t levels v j k z cases regs has lt long = record {
  after = landed w n t levels v j k z first there (case_of z cases);
  run = behind_setup w n t (set j (Constant U64 (pos (default_of cases)))) tests regs first (set_runs w n t j (Constant U64 (pos (default_of cases))) regs (Integer (pos (default_of cases))) refl) ∙ search_ends w n t levels v j k z first there cases;
  has = has_chosen (case_of z cases);
  same = kept (case_of z cases);
}
  where
    tests : MonStatements
    tests = one (Labelled (tests_of_cases levels (register_type k) v j 0 cases) (case_label levels))

    first : List Value
    first = slice_set regs j (Integer (pos (default_of cases)))

    begun : Same j regs first
    begun = same_set j j regs (Integer (pos (default_of cases))) (omega arith)

    there : slice_get first v ≡ Some (Integer z)
    there = begun.below v lt ∙ has

    has_chosen : (o : Option ℕ) → HasIndex j (elim o [ None ↦ default_of cases | Some c ↦ c ]) (landed w n t levels v j k z first there o)
    has_chosen None = get-set_same regs j (Integer (pos (default_of cases))) long
    has_chosen (Some c) = get-set_same first j (Integer (pos c)) (omega (arith, begun.long, long))

    kept : (o : Option ℕ) → Same j regs (landed w n t levels v j k z first there o)
    kept None = begun
    kept (Some c) = same_trans j j regs first (slice_set first j (Integer (pos c))) (omega arith) begun (same_set j j first (Integer (pos c)) (omega arith))

-- ---- a part that is done where the index of the chosen case, c, is at most some number

module _ (w : Setting) (n : ℕ) (t : Target) (j c : ℕ) (regs : List Value) (has : HasIndex j c regs) where
  where_runs : (i : ℕ) (a : MonStatements) → runs w n t (one (where_reached j i a)) regs ≡ cond (nat_le c i) (runs w n t a regs) (Done (Next regs) t [])
  where_runs i a =
      let test = Binary Le U64 (Register j) (Constant U64 (pos i)) in
      if_runs w n t test a NoStatement regs (truth (nat_le c i)) (operation w regs t.mem Le U64 (Register j) (Constant U64 (pos i)) (pos c) (pos i) refl has refl)
      ∙ choose_truth (nat_le c i) (runs w n t a regs) (Done (Next regs) t [])

  pub reached : (i : ℕ) (a : MonStatements) → c ≤ i → runs w n t (one (where_reached j i a)) regs ≡ runs w n t a regs
  reached i a le =
      let is : nat_le c i ≡ true = grind (arith, nat_tests) in
      where_runs i a ∙ ap (λ b. cond b (runs w n t a regs) (Done (Next regs) t [])) is

  pub passed : (i : ℕ) (a : MonStatements) → i < c → runs w n t (one (where_reached j i a)) regs ≡ Done (Next regs) t []
  passed i a lt =
      let is : nat_le c i ≡ false = grind (arith, nat_tests) in
      where_runs i a ∙ ap (λ b. cond b (runs w n t a regs) (Done (Next regs) t [])) is

  -- the items of cases in front of the chosen one are passed over
  passed_over : (cases : Cases) (spot : Spot) (r : RegisterTable) (i k : ℕ) → i + k ≤ c → runs w n t (next_cases w.unit w.plan spot r j i k cases) regs ≡ Done (Next regs) t []
  passed_over NoCase spot r i k le = refl
  passed_over (AnotherCase at v body rest) spot r i zero le = refl
  passed_over (AnotherCase at v body rest) spot r i (suc k) le =
      behind_setup w n t (one (where_reached j i (items w.unit w.plan spot r body))) (next_cases w.unit w.plan spot (after_items w.unit w.plan body r) j (suc i) k rest) regs regs (passed i (items w.unit w.plan spot r body) (omega (arith, le)))
      ∙ passed_over rest spot (after_items w.unit w.plan body r) (suc i) k (omega (arith, le))

  -- where nothing is done behind the test of a block, nothing would be done without it
  pub block_runs : (i : ℕ) (a b : MonStatements) → (i < c → runs w n t a regs ≡ Done (Next regs) t []) → runs w n t (Then (where_reached j i a) b) regs ≡ runs w n t (before a b) regs
  block_runs i a b nothing =
      before_is w.globals (one (where_reached j i a)) b w.calls n regs t
      ∙ ap (λ q. then_do q (at_next (exec_all over_blocks w.globals b w.calls n))) (where_runs i a ∙ by (nat_le c i) refl)
      ∙ sym (before_is w.globals a b w.calls n regs t)
    where
      by : (s : Bool) → nat_le c i ≡ s → cond s (runs w n t a regs) (Done (Next regs) t []) ≡ runs w n t a regs
      by true e = refl
      by false e = sym (nothing (grind (arith, nat_tests)))

  -- so it is with the block of a case and of those that stand behind it in the block
  pub block_is : (spot : Spot) (r later : RegisterTable) (i : ℕ) (a b : MonStatements) (rest : Cases)
      → runs w n t (Then (where_reached j (i + others_in_block) (Then (where_reached j i a) (next_cases w.unit w.plan spot later j (suc i) others_in_block rest))) b) regs
      ≡ runs w n t (Then (where_reached j i a) (before (next_cases w.unit w.plan spot later j (suc i) others_in_block rest) b)) regs
  block_is spot r later i a b rest =
      block_runs (i + others_in_block) (Then (where_reached j i a) (next_cases w.unit w.plan spot later j (suc i) others_in_block rest)) b (λ lt.
      behind_setup w n t (one (where_reached j i a)) (next_cases w.unit w.plan spot later j (suc i) others_in_block rest) regs regs (passed i a (omega (arith, lt)))
      ∙ passed_over rest spot later (suc i) others_in_block (omega (arith, lt)))

-- ---- items, case by case

-- the cases from the index i on are left to do but for the first m, where the chosen one has the index c
abbrev pub Left : ℕ → ℕ → ℕ → Type 0
Left c i zero = c ≤ i
Left c i (suc m) = c ≡ i + suc m

-- no next case stands in a block that was begun
pub none_begun : (p : TranslationUnit) (plan : List Kept) (spot : Spot) (r : RegisterTable) (j i : ℕ) (cases : Cases) → next_cases p plan spot r j i 0 cases ≡ NoStatement
none_begun p plan spot r j i NoCase = refl
none_begun p plan spot r j i (AnotherCase at v body rest) = refl

-- all of them
pub all_left : (c : ℕ) → Left c 0 c
all_left zero = omega arith
all_left (suc c) = omega arith

left_later : (c i m : ℕ) → Left c i (suc m) → Left c (suc i) m
left_later c i zero e = omega (arith, e)
left_later c i (suc m) e = omega (arith, e)

module _ (w : Setting) (n : ℕ) (h : Here) (spot : Spot) (low : ℕ) (living : List ℕ) (j c : ℕ) where
  -- what a part of the source does, and a part of the target, where the index of the chosen case is c
  abbrev pub CasesDo : Bindings → Evaluation (Unit {0}) → MonStatements → Type 0
  CasesDo bound x a = (regs : List Value) (from : State) (t : Target) → Meets w h spot low bound living regs from t → from.steps ≤ n → HasIndex j c regs → w.plan_to ≤ j
      → Follows w h low regs Next from (x from) (runs w n t a regs)

  -- a case, which is chosen or behind the chosen one, or is passed over
  pub case_follows : (lt : j < low) (bound later : Bindings) (i : ℕ) (whole : ℕ → Evaluation (Unit {0})) (x : Evaluation (Unit {0})) (y : ℕ → Evaluation (Unit {0})) (a b : MonStatements) → whole 0 ≡ x >> y 0 → ((m : ℕ) → whole (suc m) ≡ y m)
      → ((regs : List Value) (from : State) (t : Target) → Meets w h spot low bound living regs from t → from.steps ≤ n → Follows w h low regs Next from (x from) (runs w n t a regs))
      → ((regs : List Value) (s : State) (t : Target) → Meets w h spot low bound living regs s t → Meets w h spot low later living regs s t)
      → ((m : ℕ) → Left c (suc i) m → CasesDo later (y m) b) → (m : ℕ) → Left c i m → CasesDo bound (whole m) (Then (where_reached j i a) b)
  case_follows lt bound later i whole x y a b first others f again g zero le = λ regs from t m steps has behind.
      subst (λ z. Follows w h low regs Next from (z from) (runs w n t (Then (where_reached j i a) b) regs)) (sym first)
      (subst (λ q. Follows w h low regs Next from ((x >> y 0) from) q)
      (sym (before_is w.globals (one (where_reached j i a)) b w.calls n regs t ∙ ap (λ q. then_do q (at_next (exec_all over_blocks w.globals b w.calls n))) (reached w n t j c regs has i a le)))
      (follows_then w h low regs Next from (x from) (runs w n t a regs) (y 0) (exec_all over_blocks w.globals b w.calls n) (f regs from t m steps)
      (λ to after u o same keeps l be. g 0 (omega (arith, le)) after to u (again after to u (meets_after w h spot low bound living regs after from to t u o same keeps l be m)) (omega (arith, steps, l.spent))
      (same.kept j lt (inr behind) ∙ has) behind)))
  case_follows lt bound later i whole x y a b first others f again g (suc m) e = λ regs from t meets steps has behind.
      subst (λ z. Follows w h low regs Next from (z from) (runs w n t (Then (where_reached j i a) b) regs)) (sym (others m))
      (subst (λ q. Follows w h low regs Next from (y m from) q) (sym (behind_setup w n t (one (where_reached j i a)) b regs regs (passed w n t j c regs has i a (omega (arith, e)))))
      (g m (left_later c i m e) regs from t (again regs from t meets) steps has behind))

-- ---- the whole

-- a switch, which begins where so many blocks were born
module _ (w : Setting) (h : Here) (base levels : ℕ) where
  -- its items
  abbrev pub in_items : Here
  in_items = record {
    inner = [];
    between = h.inner ++ h.between;
    outer = h.outer;
    left = base;
    loop = h.loop;
    breaks = true;
    looped = h.looped;
    levels = levels;
    innermost = h.innermost;
    result = h.result;
  }

  meets_items : (spot : Spot) (low high : ℕ) (bound : Bindings) (living : List ℕ) (regs after : List Value) (s : State) (t : Target) → base ≡ length s.store → low ≤ high → Same low regs after → Meets w h spot low bound living regs s t
      → Meets w in_items (in_switch spot) high bound living after s t
  meets_items spot low high bound living regs after s t e le same m = record {
    standing = record {
      anchored = anchored_higher w low high bound after s.scope le (anchored_same w low bound regs after s.scope same r.anchored);
      active = r.active;
      live = r.live ∙ sym (append_assoc h.inner h.between (h.outer ++ w.around));
      since_left = tt;
      before_left = all_older;
      since_loop = r.since_loop;
      before_loop = r.before_loop;
      since_call = subst (AreFrom w.base) (sym (append_assoc h.inner h.between h.outer)) r.since_call;
      before_call = r.before_call;
      nested = r.nested;
      deeper = omega (arith, e, r.deeper, r.longer);
      longer = omega (arith, e);
      bounded = r.bounded;
      registers = same.long ∙ r.registers;
      kept = record { below = omega (arith, le, kept.below); planned = kept.planned; given = kept.given; keeps = kept.keeps };
    };
    beside = m.beside;
    inside = tt;
    between =
        pointed_append w.plan_to high after spot.inside spot.between h.inner h.between
        (pointed_same w.plan_to low high regs after spot.inside h.inner le (λ j lt more. same.below j lt) m.inside)
        (pointed_same w.plan_to low high regs after spot.between h.between le (λ j lt more. same.below j lt) m.between);
    outside = pointed_same w.plan_to low high regs after spot.outside h.outer le (λ j lt more. same.below j lt) m.outside;
    names = m.names;
    result = m.result;
  }
    where
      r : Standing w h low bound regs s
      r = m.standing

      kept : IsKept w low s.marks after
      kept = kept_same w low s.marks regs after same r.kept

      all_older : AreBefore base ((h.inner ++ h.between) ++ (h.outer ++ w.around))
      all_older = subst (AreBefore base) (r.live ∙ sym (append_assoc h.inner h.between (h.outer ++ w.around))) (subst (λ i. AreBefore i (live_in s.store)) (sym e) (all_before s.store))

  -- where a `break` leaves it, what was born in it is dead, so that the blocks are those of the source
  all_dead : (from s : State) (o : List ℕ) (t : Target) → AreBefore base (live_in from.store) → Passes from s o → Beside w (kill_from base s.store) s t → Beside w s.store s t
  all_dead from s o t none l b = record { store_is = b.store_is ∙ kill_none base s.store (subst (AreBefore base) (sym l.live) none); frames = b.frames; steps = b.steps; input = b.input }

  caught : (regs : List Value) (t : Target) (o : List ℕ) → then_do (Done (Goes (end_label levels) regs) t o) (at_label (end_label levels)) ≡ Done (Next regs) t o
  caught regs t o =
      ap (λ b. writes o (cond b (Done (Next regs) t []) (Done (Goes (end_label levels) regs) t []))) (same_label (end_label levels))
      ∙ ap (Done (Next regs) t) (append-nil o)

  -- the label behind it catches a `break`, and nothing else
  module _ (low high : ℕ) (le : low ≤ high) (regs mid : List Value) (same : Same low regs mid) where
    stay : (after : List Value) → Stays w.plan_from w.plan_to high mid after → Stays w.plan_from w.plan_to low regs after
    stay after m = stays_trans w.plan_from w.plan_to low high regs mid after le (stays_same w.plan_from w.plan_to low regs mid same) m

    abbrev labelled : Did → Did
    labelled q = then_do q (at_label (end_label levels))

    items_end : (from : State) (r : Outcome (Unit {0})) (q : Did) → AreBefore base (live_in from.store) → Follows w in_items high mid Next from r q → Follows w h low regs Next from (after_switch r) (labelled q)
    items_end from r q none (GoesOn s after t o m g l b e f) =
        GoesOn s after t o (stay after m) g l b (ap after_switch e) (ap labelled f ∙ ap (Done (Next after) t) (append-nil o))
    items_end from r q none (Breaks s after t o i m g l b e f) =
        GoesOn s after t o (stay after m) g l (all_dead from s o t none l b) (ap after_switch e) (ap labelled f ∙ caught after t o)
    items_end from r q none (Continues s after t o i m g l b e f) =
        Continues s after t o i (stay after m) g l b (ap after_switch e) (ap labelled f ∙ ap (Done (Goes (next_label h.innermost) after) t) (append-nil o))
    items_end from r q none (IsLeft v s after t o i m g x l b e f) =
        IsLeft v s after t o i (stay after m) g x l b (ap after_switch e) (ap labelled f ∙ left_end levels w.result v after t o)
    items_end from r q none (IsOver x z s o d e l f) = IsOver x z s o d (ap after_switch e) l (ap labelled f)
    items_end from r q none (IsUndefined at s o e l ext) =
        IsUndefined at s o (ap after_switch e) l (extends_trans o (written q) _ ext (written_then q (at_label (end_label levels))))

-- A switch: what is behind the word reaches a number of the type, which a register takes, and the next register the index of the chosen case.
module _ (w : Setting) (n : ℕ) (h : Here) (spot : Spot) (low : ℕ) (bound : Bindings) (living : List ℕ) (k : CInt) (value : Evaluation Value) (setup : MonStatements) (code : MonExpression) (v : ℕ)
    (reaches : (regs : List Value) (from : State) (t : Target) → Meets w h spot low bound living regs from t → from.steps ≤ n → Reaches w (Valued w (IntegerType k) v code) low regs from (value from) (runs w n t setup regs))
    (cases : Cases) (body : ℕ → Evaluation (Unit {0})) (a : MonStatements) (below : low ≤ v) (enough : suc (suc v) ≤ w.registers) where
  abbrev j : ℕ
  j = suc v

  abbrev levels : ℕ
  levels = spot.levels + 1

  abbrev whole : MonStatements
  whole = one (Labelled a (end_label levels))

  abbrev behind_value : MonStatements
  behind_value = before (set v code) (before (search levels (register_type k) v j cases) whole)

  pub switch_follows : ((base c : ℕ) (regs : List Value) (from : State) (t : Target) → Meets w (in_items w h base levels) (in_switch spot) (suc j) bound living regs from t → from.steps ≤ n → HasIndex j c regs → w.plan_to ≤ j
      → Follows w (in_items w h base levels) (suc j) regs Next from (body c from) (runs w n t a regs))
      → (regs : List Value) (from : State) (t : Target) → Meets w h spot low bound living regs from t → from.steps ≤ n
      → Follows w h low regs Next from (on_outcome (value from) (λ x s. after_switch (body (chosen_case x cases) s))) (runs w n t (before setup behind_value) regs)
  switch_follows f regs from t m steps =
      follows_before w n h (Valued w (IntegerType k) v code) low regs Next from t (value from) setup behind_value (λ x s. after_switch (body (chosen_case x cases) s)) (reaches regs from t m steps)
      (λ x to after u o same later be has. by x to after u (meets_later w h spot low bound living regs after from to t u o same later be m) (omega (arith, steps, later.spent)) has.0 has.1)
    where
      by : (x : Value) (to : State) (after : List Value) (u : Target) → Meets w h spot low bound living after to u → to.steps ≤ n → IsOf (IntegerType k) x → ((later : List Value) → Same v after later → Has w code later u.mem x)
          → Follows w h low after Next to (after_switch (body (chosen_case x cases) to)) (runs w n u behind_value after)
      by x to after u m less fit has =
          let z = fit.0 in
          let given = slice_set after v x in
          let long : length after ≡ w.registers = m.standing.registers in
          let first : Same v after given = same_set v v after x (omega arith) in
          let there : slice_get given v ≡ Some (Integer z) = get-set_same after v x (omega (arith, long, enough)) ∙ ap Some fit.1 in
          let end = search_lands w n u levels v j k z cases given there (omega arith) (omega (arith, first.long, long, enough)) in
          let c = chosen_case (Integer z) cases in
          let base = length to.store in
          let same : Same low after end.after = same_trans low low after given end.after (omega arith) (same_less low v after given below first) (same_less low j given end.after (omega (arith, below)) end.same) in
          let run : runs w n u behind_value after ≡ then_do (runs w n u a end.after) (at_label (end_label levels)) =
          behind_setup w n u (set v code) (before (search levels (register_type k) v j cases) whole) after given (set_runs w n u v code after x (has after (same_all v after)))
          ∙ behind_setup w n u (search levels (register_type k) v j cases) whole given end.after end.run
          ∙ one_is w.globals (Labelled a (end_label levels)) w.calls n end.after u in
          subst (λ y. Follows w h low after Next to (after_switch (body (chosen_case y cases) to)) (runs w n u behind_value after)) (sym fit.1)
          (subst (λ q. Follows w h low after Next to (after_switch (body c to)) q) (sym run)
          (items_end w h base levels low (suc j) (omega (arith, below)) after end.after same to (body c to) (runs w n u a end.after) (all_before to.store)
          (f base c end.after to u (meets_items w h base levels spot low (suc j) bound living after end.after to u refl (omega (arith, below)) same m) less end.has (omega (arith, below, m.standing.kept.below)))))
