-- Loops, turn by turn: invariants and condition in front, the step, the variant, which is kept, the body, what stands after it, and the comparison.
use Rattle.std.proofs.Common.{◌≡◌, inr, ℕ, zero, suc, ◌+◌, ◌<◌, ◌≤◌, ℤ, pos, Bool, true, false, cond, List, [], ◌++◌, length, Some, None, slice_get, refl, sym, ap, ◌∙◌, subst, arith}
use Rattle.std.proofs.lemmas.List.{append-nil}
use Rattle.std.proofs.lemmas.Slice.Eq.{bytes_eq-Decides}
use Rattle.std.specs.Ordering.{int_eq}
use Rattle.std.specs.Prelude.{bytes_eq}
use Rattle.c_model.specs.Memory.{Value, Integer, kill_from}
use Rattle.c_syntax.specs.Logic.{LogicTerm, Annotation}
use Rattle.c_model.specs.Predicates.{value_of}
use Rattle.c_model.specs.Predicates as source_clauses
use Rattle.c_model.specs.State.{State, Scope, Spent, Outcome, Evaluation, on_outcome, ◌>>=◌, ◌>>◌, give, done, step, step_from}
use Rattle.c_model.specs.Meaning.{after_body}
use Rattle.c_model.specs.Meaning as source
use Rattle.c_model.proofs.Agreement.{extends_trans}
use Rattle.mon_syntax.specs.Registers.{Bindings}
use Rattle.c_model.specs.MonitoredRuns as machine
use Rattle.mon_syntax.specs.Meaning.{Result, Done, Stops, Flow, Next, Goes, writes, then_do, at_next, at_label, choose}
use Rattle.mon_syntax.specs.Meaning as monitored
use Rattle.mon_syntax.specs.BlockMemory.{over_blocks}
use Rattle.mon_syntax.specs.LiveBlocks.{LiveBlock, live_in}
use Rattle.mon_syntax.specs.Trees.{MonExpression, Goto, Labelled, Loop, MonStatements, NoStatement, Then}
use Rattle.c_effects.specs.Expressions.{before, one}
use Rattle.track_scopes.specs.Lives.{AreBefore}
use Rattle.instrument.specs.Translation.{Spot, in_loop, leave_where_zero, loop}
use Rattle.c_simulation.specs.Labels.{end_label, next_label}
use Rattle.c_simulation.specs.SameRegisters.{Same, Stays}
use Rattle.c_simulation.specs.Standing.{Keeps, Target, Did, Setting, runs, Here, Standing, Beside, Anchored, IsAnchored, InRegister, AtGlobal, IsInSight}
use Rattle.c_simulation.proofs.Results.{writes_none, written_then, one_is, before_is, rest_first}
use Rattle.c_simulation.specs.Following.{written}
use Rattle.c_simulation.proofs.Registers.{same_all, same_less, stays_same}
use Rattle.c_simulation.proofs.Expressions.{handed_on}
use Rattle.instrument.proofs.Deaths.{kill_none, all_before}
use Rattle.c_simulation.specs.Reaching.{Reaches, Arrives, Anything, Tested}
use Rattle.c_simulation.specs.Reaching as reaching
use Rattle.c_simulation.proofs.Following.{left_next, left_end, left_turn, later_same, onward, passes_later, follows_choice, follows_then, anywhere, standing_as}
use Rattle.c_simulation.proofs.Reaching.{follows_reached, reached_follows, reached_lower, test_runs}
use Rattle.c_simulation.specs.Following.{Later, Passes, Follows, GoesOn, Breaks, Continues, IsLeft, IsOver, IsUndefined}
use Rattle.instrument.proofs.Births.{pointed_append, pointed_same, all_apart}
use Rattle.instrument.proofs.Blocks.{Meets, meets_after, meets_later}

-- a label catches its own jump
pub same_label : (l : List ℕ) → bytes_eq l l ≡ true
same_label l = (bytes_eq-Decides l l).1 refl

-- ---- what follows a choice is asked for in each case

then_choice : {S B C : Type 0} (z : ℤ) (p q : Result S B) (go : B → S → Result S C) → then_do (choose z p q) go ≡ choose z (then_do p go) (then_do q go)
then_choice z p q go = by (int_eq z (pos 0))
  where
    by : (t : Bool) → then_do (cond t q p) go ≡ cond t (then_do q go) (then_do p go)
    by true = refl
    by false = refl

-- ---- a step

abbrev pub stepped : State → ℕ → State
stepped s k = record s { steps = k }

abbrev pub target_stepped : Target → ℕ → Target
target_stepped t k = record t { steps = k }

pub meets_stepped : (w : Setting) (h : Here) (spot : Spot) (low : ℕ) (bound : Bindings) (living : List ℕ) (regs : List Value) (s : State) (t : Target) (k : ℕ) → Meets w h spot low bound living regs s t
    → Meets w h spot low bound living regs (stepped s k) (target_stepped t k)
meets_stepped w h spot low bound living regs s t k m = record {
  standing = standing_as w h low low bound bound regs regs s (stepped s k) h.breaks h.looped m.standing m.standing.anchored refl refl (omega arith) m.standing.bounded refl m.standing.kept;
  beside = record { store_is = m.beside.store_is; frames = m.beside.frames; steps = refl; input = m.beside.input };
  inside = m.inside;
  between = m.between;
  outside = m.outside;
  names = m.names;
  result = m.result;
}

later_stepped : (s to : State) (k : ℕ) (o : List ℕ) → s.steps ≡ suc k → Passes (stepped s k) to o → Passes s to o
later_stepped s to k o e l = record { scope = l.scope; calls = l.calls; live = l.live; longer = l.longer; bounded = l.bounded; spent = omega (arith, e, l.spent); output = l.output; marks = refl }

from_stepped : (w : Setting) (h : Here) (low : ℕ) (regs : List Value) (on : List Value → Flow Value) (s : State) (k : ℕ) (r : Outcome (Unit {0})) (q : Did) → s.steps ≡ suc k → Follows w h low regs on (stepped s k) r q
    → Follows w h low regs on s r q
from_stepped w h low regs on s k r q x (GoesOn to after t o m g l b e f) = GoesOn to after t o m g (later_stepped s to k o x l) b e f
from_stepped w h low regs on s k r q x (Breaks to after t o i m g l b e f) = Breaks to after t o i m g (later_stepped s to k o x l) b e f
from_stepped w h low regs on s k r q x (Continues to after t o i m g l b e f) = Continues to after t o i m g (later_stepped s to k o x l) b e f
from_stepped w h low regs on s k r q x (IsLeft v to after t o i m g y l b e f) = IsLeft v to after t o i m g y (later_stepped s to k o x l) b e f
from_stepped w h low regs on s k r q x (IsOver y z to o d e l f) = IsOver y z to o d e l f
from_stepped w h low regs on s k r q x (IsUndefined at to o e l ext) = IsUndefined at to o e l ext

-- ---- registers below a number, and below a greater one

stays_less : (n m low high : ℕ) (regs after : List Value) → low ≤ high → Stays n m high regs after → Stays n m low regs after
stays_less n m low high regs after le h = record { long = h.long; kept = λ j lt out. h.kept j (omega (arith, lt, le)) out }

anchored_wider : (w : Setting) (low high : ℕ) (bound : Bindings) (regs : List Value) (scope : Scope) → low ≤ high → Anchored w low bound regs scope → Anchored w high bound regs scope
anchored_wider w low high bound regs scope le h x number e = by (h x number e)
  where
    by_anchor : IsAnchored w low bound regs x number → IsAnchored w high bound regs x number
    by_anchor (InRegister r b lt behind has) = InRegister r b (omega (arith, lt, le)) behind has
    by_anchor (AtGlobal b there has) = AtGlobal b there has

    by : IsInSight w low bound regs x number → IsInSight w high bound regs x number
    by s = record { own = s.own; anchor = by_anchor s.anchor }

-- more registers are told of where statements begin behind them
pub meets_higher : (w : Setting) (h : Here) (spot : Spot) (low high : ℕ) (bound : Bindings) (living : List ℕ) (regs : List Value) (s : State) (t : Target) → low ≤ high → Meets w h spot low bound living regs s t
    → Meets w h spot high bound living regs s t
meets_higher w h spot low high bound living regs s t le m = record {
  standing = standing_as w h low high bound bound regs regs s s h.breaks h.looped m.standing (anchored_wider w low high bound regs s.scope le m.standing.anchored) refl refl (omega arith) m.standing.bounded refl
      (record { below = omega (arith, m.standing.kept.below, le); planned = m.standing.kept.planned; given = m.standing.kept.given; keeps = m.standing.kept.keeps });
  beside = m.beside;
  inside = pointed_same w.plan_to low high regs regs spot.inside h.inner le (λ j lt more. refl) m.inside;
  between = pointed_same w.plan_to low high regs regs spot.between h.between le (λ j lt more. refl) m.between;
  outside = pointed_same w.plan_to low high regs regs spot.outside h.outer le (λ j lt more. refl) m.outside;
  names = m.names;
  result = m.result;
}

-- what is reached over registers that stay below a greater number
reached_same : (w : Setting) (low high : ℕ) (regs : List Value) (from : State) (r : Outcome (Unit {0})) (q : Did) → low ≤ high → Reaches w Anything high regs from r q
    → Reaches w (λ x after to u. Same high regs after) low regs from r q
reached_same w low high regs from r q le (Arrives x s after t o same l b e f h) = Arrives x s after t o (same_less low high regs after le same) l b e f same
reached_same w low high regs from r q le (reaching.IsOver x z s o d e l f) = reaching.IsOver x z s o d e l f
reached_same w low high regs from r q le (reaching.IsUndefined at s o e l ext) = reaching.IsUndefined at s o e l ext

-- a loop, which begins where so many blocks were born
module _ (w : Setting) (h : Here) (base : ℕ) (spot : Spot) (low : ℕ) (bound : Bindings) (living : List ℕ) (n : ℕ) where
  abbrev loops : ℕ
  loops = spot.levels + 1

  -- the blocks of the call's variables that live around the body
  abbrev others_of : List LiveBlock
  others_of = h.inner ++ (h.between ++ h.outer)

  -- the body of the loop, and its turns, which end by a jump to its label
  abbrev pub in_body : Here
  in_body = record {
    inner = [];
    between = [];
    outer = others_of;
    left = base;
    loop = base;
    breaks = true;
    looped = true;
    levels = loops;
    innermost = loops;
    result = h.result;
  }

  abbrev pub in_turn : Here
  in_turn = record in_body { breaks = false; looped = false }

  abbrev pub Meet : List Value → State → Target → Type 0
  Meet regs s t = Meets w in_turn (in_loop spot) low bound living regs s t

  abbrev pub MeetInBody : List Value → State → Target → Type 0
  MeetInBody regs s t = Meets w in_body (in_loop spot) low bound living regs s t

  abbrev pub Turns : List Value → State → Outcome (Unit {0}) → Did → Type 0
  Turns regs from r q = Follows w in_turn low regs (Goes (end_label loops)) from r q

  abbrev pub Go : Type 0
  Go = List Value → Target → Did

  pub meets_body : (regs : List Value) (s : State) (t : Target) → Meet regs s t → MeetInBody regs s t
  meets_body regs s t m = record {
    standing = standing_as w in_turn low low bound bound regs regs s s true true m.standing m.standing.anchored refl refl (omega arith) m.standing.bounded refl m.standing.kept;
    beside = m.beside;
    inside = m.inside;
    between = m.between;
    outside = m.outside;
    names = m.names;
    result = m.result;
  }

  -- where the loop begins
  pub meets_turn : (regs : List Value) (s : State) (t : Target) → base ≡ length s.store → Meets w h spot low bound living regs s t → Meet regs s t
  meets_turn regs s t e m = record {
    standing = record {
      anchored = r.anchored;
      active = r.active;
      live = live_is;
      since_left = tt;
      before_left = all_older;
      since_loop = tt;
      before_loop = all_older;
      since_call = r.since_call;
      before_call = r.before_call;
      nested = omega (arith, e, r.nested, r.deeper, r.longer);
      deeper = omega arith;
      longer = omega (arith, e);
      bounded = r.bounded;
      registers = r.registers;
      kept = r.kept;
    };
    beside = m.beside;
    inside = tt;
    between = tt;
    outside =
        pointed_append w.plan_to low regs spot.inside (spot.between ++ spot.outside) h.inner (h.between ++ h.outer) m.inside
        (pointed_append w.plan_to low regs spot.between spot.outside h.between h.outer m.between m.outside);
    names = m.names;
    result = m.result;
  }
    where
      r : Standing w h low bound regs s
      r = m.standing

      live_is : live_in s.store ≡ others_of ++ w.around
      live_is = r.live ∙ sym (all_apart h.inner h.between h.outer w.around)

      all_older : AreBefore base (others_of ++ w.around)
      all_older = subst (AreBefore base) live_is (subst (λ i. AreBefore i (live_in s.store)) (sym e) (all_before s.store))

  meet_later : (regs after : List Value) (s to : State) (t u : Target) (o : List ℕ) → Same low regs after → Later s to o → Beside w to.store to u → Meet regs s t → Meet after to u
  meet_later regs after s to t u o same l b m = meets_later w in_turn (in_loop spot) low bound living regs after s to t u o same l b m

  meet_after : (regs after : List Value) (s to : State) (t u : Target) (o : List ℕ) → Stays w.plan_from w.plan_to low regs after → Keeps w.plan to.marks after → Passes s to o → Beside w to.store to u → Meet regs s t → Meet after to u
  meet_after regs after s to t u o same keeps l b m = meets_after w in_turn (in_loop spot) low bound living regs after s to t u o same keeps l b m

  -- ---- the body, after which a `continue` goes on

  body_on : (regs : List Value) (t : Target) (o : List ℕ) (g : Go) → then_do (then_do (Done (Next regs) t o) (at_label (next_label loops))) (at_next g) ≡ writes o (g regs t)
  body_on regs t o g = ap (λ o. writes o (g regs t)) (append-nil o)

  body_continues : (regs : List Value) (t : Target) (o : List ℕ) (g : Go) → then_do (then_do (Done (Goes (next_label loops) regs) t o) (at_label (next_label loops))) (at_next g) ≡ writes o (g regs t)
  body_continues regs t o g =
      ap (λ b. then_do (writes o (cond b (Done (Next regs) t []) (Done (Goes (next_label loops) regs) t []))) (at_next g)) (same_label (next_label loops))
      ∙ body_on regs t o g

  body_breaks : (regs : List Value) (t : Target) (o : List ℕ) (g : Go) → then_do (then_do (Done (Goes (end_label loops) regs) t o) (at_label (next_label loops))) (at_next g) ≡ Done (Goes (end_label loops) regs) t o
  body_breaks regs t o g = ap (Done (Goes (end_label loops) regs) t) (append-nil (o ++ []) ∙ append-nil o)

  -- where the body is left, what was born in it is dead, so that the blocks are those of the source
  all_dead : (from s : State) (o : List ℕ) (t : Target) → AreBefore base (live_in from.store) → Passes from s o → Beside w (kill_from base s.store) s t → Beside w s.store s t
  all_dead from s o t none l b = record { store_is = b.store_is ∙ kill_none base s.store (subst (AreBefore base) (sym l.live) none); frames = b.frames; steps = b.steps; input = b.input }

  -- a loop's body, over which the registers below `high` stay, and then what comes after it
  follows_body : (high : ℕ) → low ≤ high → (regs : List Value) (from : State) (r : Outcome (Unit {0})) (q : Did) (again : Evaluation (Unit {0})) (g : Go) → AreBefore base (live_in from.store)
      → Follows w in_body high regs Next from r q
      → ((s : State) (after : List Value) (t : Target) (o : List ℕ) → Stays w.plan_from w.plan_to high regs after → Keeps w.plan s.marks after → Passes from s o → Beside w s.store s t → Turns after s (again s) (g after t))
      → Turns regs from (after_body r again) (then_do (then_do q (at_label (next_label loops))) (at_next g))
  follows_body high le regs from r q again g none (GoesOn s after t o m g2 l b e e') k =
      subst (λ r. Turns regs from (after_body r again) (then_do (then_do q (at_label (next_label loops))) (at_next g))) (sym e)
      (subst (λ q. Turns regs from (again s) q) (sym (ap (λ q. then_do (then_do q (at_label (next_label loops))) (at_next g)) e' ∙ body_on after t o g))
      (onward w in_turn low regs after (Goes (end_label loops)) from s o _ _ (stays_less w.plan_from w.plan_to low high regs after le m) l (k s after t o m g2 l b)))
  follows_body high le regs from r q again g none (Continues s after t o i m g2 l b e e') k =
      subst (λ r. Turns regs from (after_body r again) (then_do (then_do q (at_label (next_label loops))) (at_next g))) (sym e)
      (subst (λ q. Turns regs from (again s) q) (sym (ap (λ q. then_do (then_do q (at_label (next_label loops))) (at_next g)) e' ∙ body_continues after t o g))
      (onward w in_turn low regs after (Goes (end_label loops)) from s o _ _ (stays_less w.plan_from w.plan_to low high regs after le m) l (k s after t o m g2 l (all_dead from s o t none l b))))
  follows_body high le regs from r q again g none (Breaks s after t o i m g2 l b e e') k =
      GoesOn s after t o (stays_less w.plan_from w.plan_to low high regs after le m) g2 l (all_dead from s o t none l b) (ap (λ r. after_body r again) e)
      (ap (λ q. then_do (then_do q (at_label (next_label loops))) (at_next g)) e' ∙ body_breaks after t o g)
  follows_body high le regs from r q again g none (IsLeft v s after t o i m g2 x l b e e') k =
      IsLeft v s after t o i (stays_less w.plan_from w.plan_to low high regs after le m) g2 x l b (ap (λ r. after_body r again) e)
      (ap (λ q. then_do (then_do q (at_label (next_label loops))) (at_next g)) e' ∙ ap (λ q. then_do q (at_next g)) (left_turn loops w.result v after t o) ∙ left_next w.result v after t o g)
  follows_body high le regs from r q again g none (IsOver y z s o d e l e') k =
      IsOver y z s o d (ap (λ r. after_body r again) e) l (ap (λ q. then_do (then_do q (at_label (next_label loops))) (at_next g)) e')
  follows_body high le regs from r q again g none (IsUndefined at s o e l ext) k =
      let labelled = then_do q (at_label (next_label loops)) in
      IsUndefined at s o (ap (λ r. after_body r again) e) l (extends_trans o (written labelled) _ (extends_trans o (written q) _ ext (written_then q (at_label (next_label loops)))) (written_then labelled (at_next g)))

  -- ---- the label after the loop catches the jump

  caught : (regs : List Value) (t : Target) (o : List ℕ) → then_do (Done (Goes (end_label loops) regs) t o) (at_label (end_label loops)) ≡ Done (Next regs) t o
  caught regs t o =
      ap (λ b. writes o (cond b (Done (Next regs) t []) (Done (Goes (end_label loops) regs) t []))) (same_label (end_label loops))
      ∙ ap (Done (Next regs) t) (append-nil o)

  follows_label : (regs : List Value) (from : State) (r : Outcome (Unit {0})) (q : Did) → Turns regs from r q → Follows w in_turn low regs Next from r (then_do q (at_label (end_label loops)))
  follows_label regs from r q (GoesOn s after t o m g l b e e') = GoesOn s after t o m g l b e (ap (λ q. then_do q (at_label (end_label loops))) e' ∙ caught after t o)
  follows_label regs from r q (Breaks s after t o i m g l b e e') = absurd cc
  follows_label regs from r q (Continues s after t o i m g l b e e') = absurd cc
  follows_label regs from r q (IsLeft v s after t o i m g x l b e e') = IsLeft v s after t o i m g x l b e (ap (λ q. then_do q (at_label (end_label loops))) e' ∙ left_end loops w.result v after t o)
  follows_label regs from r q (IsOver y z s o d e l e') = IsOver y z s o d e l (ap (λ q. then_do q (at_label (end_label loops))) e')
  follows_label regs from r q (IsUndefined at s o e l ext) = IsUndefined at s o e l (extends_trans o (written q) _ ext (written_then q (at_label (end_label loops))))

  -- a whole loop, from its turns
  pub loop_follows : (from : State) (r : Outcome (Unit {0})) (regs : List Value) (t : Target) (front kept a b : MonStatements)
      → Turns regs from r (monitored.turns over_blocks n (monitored.exec_all over_blocks w.globals front w.calls n) (monitored.exec_all over_blocks w.globals (before kept (Then (Labelled a (next_label loops)) b)) w.calls n) regs t)
      → Follows w h low regs Next from r (runs w n t (one (loop loops front kept a b)) regs)
  loop_follows from r regs t front kept a b f =
      let round = Loop front (before kept (Then (Labelled a (next_label loops)) b)) in
      subst (λ q. Follows w h low regs Next from r q)
      (sym (one_is w.globals (loop loops front kept a b) w.calls n regs t ∙ ap (λ q. then_do q (at_label (end_label loops))) (one_is w.globals round w.calls n regs t)))
      (anywhere w in_turn h low regs Next from r _ refl refl refl (follows_label regs from r _ f))

  -- ---- conditions

  -- a condition of the source and the target's statements for it, which leave the loop where it is 0
  pub record Tests (condition : Evaluation Value) (front : MonStatements) : Type 0 where
    pub goes : (regs : List Value) (s : State) (t : Target) → Meet regs s t → s.steps ≤ n → (turn : Evaluation (Unit {0})) (go : Go)
        → ((to : State) (after : List Value) (u : Target) → Meet after to u → to.steps ≤ s.steps → Turns after to (turn to) (go after u))
        → Turns regs s (on_outcome (condition s) (λ v. source.choose v turn done)) (then_do (runs w n t front regs) (at_next go))

  -- a condition that is left out is true
  pub no_test : Tests (give (Integer (pos 1))) NoStatement
  no_test = record {
    goes = λ regs s t m le turn go k. subst (λ q. Turns regs s (turn s) q) (sym (writes_none (go regs t))) (k s regs t m (omega arith));
  }

  -- one whose statements reach what it tests
  module _ (condition : Evaluation Value) (setup : MonStatements) (c : MonExpression) (high : ℕ) (tested : (regs : List Value) (s : State) (t : Target) → Meet regs s t → s.steps ≤ n
      → Reaches w (Tested w high c) low regs s (condition s) (runs w n t setup regs)) where
    abbrev leaves : MonStatements
    leaves = leave_where_zero loops c

    -- the jump, where the condition is 0
    jump_follows : (v : Value) (s : State) (t : Target) (regs : List Value) (turn : Evaluation (Unit {0})) (go : Go) → Meet regs s t → Tested w high c v regs s t → Turns regs s (turn s) (go regs t)
        → Turns regs s (source.choose v turn done s) (then_do (runs w n t leaves regs) (at_next go))
    jump_follows v s t regs turn go m test goes =
        let is = test_runs w n high c NoStatement (one (Goto (end_label loops))) v regs s t test in
        let stay = runs w n t NoStatement regs in
        let jump = runs w n t (one (Goto (end_label loops))) regs in
        subst (λ q. Turns regs s (source.choose v turn done s) (then_do q (at_next go))) (sym is.2)
        (subst (λ q. Turns regs s (source.choose v turn done s) q) (sym (then_choice is.0 stay jump (at_next go)))
        (follows_choice w in_turn low regs (Goes (end_label loops)) s s v is.0 turn done _ _ is.1
        (subst (λ q. Turns regs s (turn s) q) (sym (writes_none (go regs t))) goes)
        (GoesOn s regs t [] (stays_same w.plan_from w.plan_to low regs regs (same_all low regs)) m.standing.kept.keeps (passes_later s s [] (later_same s m.standing.bounded)) m.beside refl refl)))

    pub tests : Tests condition (before setup leaves)
    tests = record { goes = by }
      where
        by : (regs : List Value) (s : State) (t : Target) → Meet regs s t → s.steps ≤ n → (turn : Evaluation (Unit {0})) (go : Go)
            → ((to : State) (after : List Value) (u : Target) → Meet after to u → to.steps ≤ s.steps → Turns after to (turn to) (go after u))
            → Turns regs s (on_outcome (condition s) (λ v. source.choose v turn done)) (then_do (runs w n t (before setup leaves) regs) (at_next go))
        by regs s t m le turn go k =
            let chosen = on_outcome (condition s) (λ v. source.choose v turn done) in
            subst (λ q. Turns regs s chosen (then_do q (at_next go))) (sym (before_is w.globals setup leaves w.calls n regs t))
            (subst (λ q. Turns regs s chosen q)
            (rest_first (runs w n t setup regs) (λ r u. then_do (monitored.exec_all over_blocks w.globals leaves w.calls n r u) (at_next go)) (monitored.exec_all over_blocks w.globals leaves w.calls n) go (λ r u. refl))
            (follows_reached w in_turn (Tested w high c) low regs (Goes (end_label loops)) s (condition s) (runs w n t setup regs) (λ v. source.choose v turn done)
            (λ r u. then_do (monitored.exec_all over_blocks w.globals leaves w.calls n r u) (at_next go)) (tested regs s t m le)
            (λ v to after u o same later be test.
            let m2 = meet_later regs after s to t u o same later be m in
            jump_follows v to u after turn go m2 test (k to after u m2 later.spent))))

  -- a part in front of a condition
  pub part_tests : (part : Evaluation (Unit {0})) (code : MonStatements) (condition : Evaluation Value) (front : MonStatements)
      → ((regs : List Value) (s : State) (t : Target) → Meet regs s t → s.steps ≤ n → Follows w in_turn low regs Next s (part s) (runs w n t code regs)) → Tests condition front
      → Tests (part >> condition) (before code front)
  part_tests part code condition front part_follows front_tests = record { goes = by }
    where
      by : (regs : List Value) (s : State) (t : Target) → Meet regs s t → s.steps ≤ n → (turn : Evaluation (Unit {0})) (go : Go)
          → ((to : State) (after : List Value) (u : Target) → Meet after to u → to.steps ≤ s.steps → Turns after to (turn to) (go after u))
          → Turns regs s (on_outcome ((part >> condition) s) (λ v. source.choose v turn done)) (then_do (runs w n t (before code front) regs) (at_next go))
      by regs s t m le turn go k =
          let chosen = λ (v : Value). source.choose v turn done in
          let behind = λ (r : List Value) (u : Target). then_do (monitored.exec_all over_blocks w.globals front w.calls n r u) (at_next go) in
          subst (λ x. Turns regs s x (then_do (runs w n t (before code front) regs) (at_next go))) (handed_on (part s) (λ _. condition) chosen)
          (subst (λ q. Turns regs s (on_outcome (part s) (λ _. condition >>= chosen)) (then_do q (at_next go))) (sym (before_is w.globals code front w.calls n regs t))
          (subst (λ q. Turns regs s (on_outcome (part s) (λ _. condition >>= chosen)) q)
          (rest_first (runs w n t code regs) behind (monitored.exec_all over_blocks w.globals front w.calls n) go (λ r u. refl))
          (follows_then w in_turn low regs (Goes (end_label loops)) s (part s) (runs w n t code regs) (condition >>= chosen) behind (part_follows regs s t m le)
          (λ to after u o same keeps l be.
          front_tests.goes after to u (meet_after regs after s to t u o same keeps l be m) (omega (arith, le, l.spent)) turn go
          (λ to2 after2 u2 m2 less. k to2 after2 u2 m2 (omega (arith, less, l.spent)))))))

  -- ---- turns

  -- a turn of the source behind its step, and what then comes, and the target's statements for it
  pub record Rounds (turn : Evaluation (Unit {0}) → Evaluation (Unit {0})) (code : MonStatements) : Type 0 where
    pub goes : (regs : List Value) (s : State) (t : Target) → Meet regs s t → s.steps ≤ n → (again : Evaluation (Unit {0})) (go : Go)
        → ((to : State) (after : List Value) (u : Target) → Meet after to u → to.steps ≤ s.steps → Turns after to (again to) (go after u))
        → Turns regs s (turn again s) (then_do (runs w n t code regs) (at_next go))

  -- no step is left
  spent : (regs : List Value) (s : State) (f : Evaluation (Unit {0})) (q : Did) → s.steps ≡ 0 → q ≡ Stops machine.Spent s.steps [] → Turns regs s ((step >> f) s) q
  spent regs s f q e x = IsOver Spent machine.Spent s [] refl (ap (λ k. on_outcome (step_from k s) (λ _. f)) e) (sym (append-nil s.output)) x

  -- a step, and what then comes
  behind_step : (regs : List Value) (s : State) (k : ℕ) (f : Evaluation (Unit {0})) (q : Did) → s.steps ≡ suc k → Turns regs (stepped s k) (f (stepped s k)) q → Turns regs s ((step >> f) s) q
  behind_step regs s k f q e h =
      subst (λ r. Turns regs s r q) (sym (ap (λ i. on_outcome (step_from i s) (λ _. f)) e)) (from_stepped w in_turn low regs (Goes (end_label loops)) s k (f (stepped s k)) q e h)

  meet_stepped : (regs : List Value) (s : State) (t : Target) (k : ℕ) → Meet regs s t → Meet regs (stepped s k) (target_stepped t k)
  meet_stepped regs s t k m = meets_stepped w in_turn (in_loop spot) low bound living regs s t k m

  -- `while` and `for`: the turns with what stands in front of the step
  module _ (condition : Evaluation Value) (front : MonStatements) (front_tests : Tests condition front) (turn : Evaluation (Unit {0}) → Evaluation (Unit {0})) (code : MonStatements) (rounds : Rounds turn code) where
    abbrev others : ℕ → Go
    others j = monitored.turns over_blocks j (monitored.exec_all over_blocks w.globals front w.calls n) (monitored.exec_all over_blocks w.globals code w.calls n)

    -- where a turn is left
    abbrev next_turn : ℕ → Go
    next_turn j r u = monitored.step_from u.steps (λ k. then_do (monitored.exec_all over_blocks w.globals code w.calls n r (target_stepped u k)) (at_next (others j)))

    turn_follows : (j : ℕ) (regs : List Value) (s : State) (t : Target) → Meet regs s t → s.steps ≤ suc j → s.steps ≤ n → ((to : State) (after : List Value) (u : Target) → Meet after to u → to.steps ≤ j → to.steps ≤ n
        → Turns after to (source.turns (suc j) condition turn to) (others j after u)) → Turns regs s ((step >> turn (source.turns (suc j) condition turn)) s) (next_turn j regs t)
    turn_follows j regs s t m le ln go =
        subst (λ i. Turns regs s ((step >> turn again) s) (monitored.step_from i (λ k. then_do (runs w n (target_stepped t k) code regs) (at_next (others j))))) (sym m.beside.steps) (by s.steps refl)
      where
        again : Evaluation (Unit {0})
        again = source.turns (suc j) condition turn

        by : (i : ℕ) → s.steps ≡ i → Turns regs s ((step >> turn again) s) (monitored.step_from i (λ k. then_do (runs w n (target_stepped t k) code regs) (at_next (others j))))
        by zero e = spent regs s (turn again) (Stops machine.Spent 0 []) e (ap (λ k. Stops machine.Spent k []) (sym e))
        by (suc k) e =
            behind_step regs s k (turn again) (then_do (runs w n (target_stepped t k) code regs) (at_next (others j))) e
            (rounds.goes regs (stepped s k) (target_stepped t k) (meet_stepped regs s t k m) (omega (arith, e, ln)) again (others j)
            (λ to after u m2 l. go to after u m2 (omega (arith, e, le, l)) (omega (arith, e, ln, l))))

    pub turns_follow : (j : ℕ) (regs : List Value) (s : State) (t : Target) → Meet regs s t → s.steps ≤ j → s.steps ≤ n → Turns regs s (source.turns (suc j) condition turn s) (others j regs t)
    turns_follow zero regs s t m le ln =
        front_tests.goes regs s t m ln (step >> turn (source.turns 0 condition turn)) (λ r u. Stops machine.Spent 0 []) (λ to after u m2 less.
        spent after to (turn (source.turns 0 condition turn)) (Stops machine.Spent 0 []) (omega (arith, le, less)) (ap (λ k. Stops machine.Spent k []) (omega (arith, le, less))))
    turns_follow (suc j) regs s t m le ln =
        front_tests.goes regs s t m ln (step >> turn (source.turns (suc j) condition turn)) (next_turn j) (λ to after u m2 less.
        turn_follows j after to u m2 (omega (arith, le, less)) (omega (arith, ln, less)) (λ to2 after2 u2 m3 l3 l4. turns_follow j after2 to2 u2 m3 l3 l4))

  -- ---- a body, over which the registers below `high` stay

  module _ (high : ℕ) (wide : low ≤ high) (body : Evaluation (Unit {0})) (a : MonStatements)
      (body_follows : (regs : List Value) (s : State) (t : Target) → Meets w in_body (in_loop spot) high bound living regs s t → s.steps ≤ n → Follows w in_body high regs Next s (body s) (runs w n t a regs)) where
    abbrev labelled : MonStatements → MonStatements
    labelled b = Then (Labelled a (next_label loops)) b

    -- where statements stand that are registers' own up to `high`
    abbrev pub MeetHigh : List Value → State → Target → Type 0
    MeetHigh regs s t = Meets w in_turn (in_loop spot) high bound living regs s t

    meet_high : (regs : List Value) (s : State) (t : Target) → Meet regs s t → MeetHigh regs s t
    meet_high regs s t m = meets_higher w in_turn (in_loop spot) low high bound living regs s t wide m

    meet_body : (regs : List Value) (s : State) (t : Target) → Meet regs s t → Meets w in_body (in_loop spot) high bound living regs s t
    meet_body regs s t m = meets_higher w in_body (in_loop spot) low high bound living regs s t wide (meets_body regs s t m)

    -- the body, and what stands after it
    body_round : (b : MonStatements) (again : Evaluation (Unit {0})) (go : Go) (regs : List Value) (s : State) (t : Target) → Meet regs s t → s.steps ≤ n
        → ((to : State) (after : List Value) (u : Target) → Stays w.plan_from w.plan_to high regs after → Meet after to u → to.steps ≤ s.steps → Turns after to (again to) (then_do (runs w n u b after) (at_next go)))
        → Turns regs s (after_body (body s) again) (then_do (runs w n t (labelled b) regs) (at_next go))
    body_round b again go regs s t m le k =
        let behind = λ (r : List Value) (u : Target). then_do (monitored.exec_all over_blocks w.globals b w.calls n r u) (at_next go) in
        subst (λ q. Turns regs s (after_body (body s) again) q)
        (rest_first (then_do (runs w n t a regs) (at_label (next_label loops))) behind (monitored.exec_all over_blocks w.globals b w.calls n) go (λ r t. refl))
        (follows_body high wide regs s (body s) (runs w n t a regs) again behind (subst (AreBefore base) (sym m.standing.live) m.standing.before_loop)
        (body_follows regs s t (meet_body regs s t m) le)
        (λ to after u o same keeps l be.
        k to after u same (meet_after regs after s to t u o (stays_less w.plan_from w.plan_to low high regs after wide same) keeps l be m) l.spent))

    -- `do`
    module _ (condition : Evaluation Value) (b : MonStatements) (b_tests : Tests condition b) where
      abbrev do_others : ℕ → Go
      do_others j = monitored.turns over_blocks j (monitored.exec_all over_blocks w.globals NoStatement w.calls n) (monitored.exec_all over_blocks w.globals (labelled b) w.calls n)

      pub do_turns_follow : (j : ℕ) (regs : List Value) (s : State) (t : Target) → Meet regs s t → s.steps ≤ j → s.steps ≤ n → Turns regs s (source.do_turns (suc j) condition body s) (do_others j regs t)
      do_turns_follow zero regs s t m le ln =
          spent regs s (λ s. after_body (body s) (condition >>= λ v. source.choose v (source.do_turns 0 condition body) done)) (Stops machine.Spent 0 []) (omega (arith, le)) (ap (λ k. Stops machine.Spent k []) (omega (arith, le)))
      do_turns_follow (suc j) regs s t m le ln =
          subst (λ q. Turns regs s (source.do_turns (suc (suc j)) condition body s) q) (sym (writes_none (monitored.step_from t.steps (λ k. then_do (runs w n (target_stepped t k) (labelled b) regs) (at_next (do_others j))))))
          (subst (λ i. Turns regs s (source.do_turns (suc (suc j)) condition body s) (monitored.step_from i (λ k. then_do (runs w n (target_stepped t k) (labelled b) regs) (at_next (do_others j))))) (sym m.beside.steps)
          (by (λ to after u m2 l2 l3. do_turns_follow j after to u m2 l2 l3) s.steps refl))
        where
          again : Evaluation (Unit {0})
          again = condition >>= λ v. source.choose v (source.do_turns (suc j) condition body) done

          by : ((to : State) (after : List Value) (u : Target) → Meet after to u → to.steps ≤ j → to.steps ≤ n → Turns after to (source.do_turns (suc j) condition body to) (do_others j after u)) → (i : ℕ) → s.steps ≡ i
              → Turns regs s (source.do_turns (suc (suc j)) condition body s) (monitored.step_from i (λ k. then_do (runs w n (target_stepped t k) (labelled b) regs) (at_next (do_others j))))
          by rest zero e = spent regs s (λ s. after_body (body s) again) (Stops machine.Spent 0 []) e (ap (λ k. Stops machine.Spent k []) (sym e))
          by rest (suc k) e =
              behind_step regs s k (λ s. after_body (body s) again) (then_do (runs w n (target_stepped t k) (labelled b) regs) (at_next (do_others j))) e
              (body_round b again (do_others j) regs (stepped s k) (target_stepped t k) (meet_stepped regs s t k m) (omega (arith, e, ln)) (λ to after u same m2 l2.
              b_tests.goes after to u m2 (omega (arith, e, ln, l2)) (source.do_turns (suc j) condition body) (do_others j)
              (λ to2 after2 u2 m3 less. rest to2 after2 u2 m3 (omega (arith, e, le, l2, less)) (omega (arith, e, ln, l2, less)))))

    -- what stands after the body of a `while` or a `for`
    module _ (behind : Evaluation (Unit {0})) (b : MonStatements) (behind_reaches : (regs : List Value) (s : State) (t : Target) → MeetHigh regs s t → s.steps ≤ n → Reaches w Anything high regs s (behind s) (runs w n t b regs)) where
      -- the registers below `high` stay
      behind_keeps : (regs : List Value) (s : State) (t : Target) → Meet regs s t → s.steps ≤ n → Reaches w (λ x after to u. Same high regs after) low regs s (behind s) (runs w n t b regs)
      behind_keeps regs s t m le = reached_same w low high regs s (behind s) (runs w n t b regs) wide (behind_reaches regs s t (meet_high regs s t m) le)

      -- a turn without a variant
      pub plain_rounds : Rounds (source.turn_with None body behind) (labelled b)
      plain_rounds = record {
        goes = λ regs s t m le again go k. body_round b (behind >> again) go regs s t m le (λ to after u same m2 l2.
            follows_reached w in_turn (λ x after2 to2 u2. Same high after after2) low after (Goes (end_label loops)) to (behind to) (runs w n u b after) (λ _. again) go (behind_keeps after to u m2 (omega (arith, le, l2)))
            (λ _ to2 after2 u2 o same2 l be _. k to2 after2 u2 (meet_later after after2 to to2 u u2 o same2 l be m2) (omega (arith, l2, l.spent))));
      }

      -- A turn with a variant: its value is kept in a register below `high`, and compared at the end.
      module _ (v : Annotation × LogicTerm) (kept compared : MonStatements) (x : ℕ) (least : low ≤ x) (below : x < high)
          (keeps : (regs : List Value) (s : State) (t : Target) → Meet regs s t → s.steps ≤ n → Reaches w (λ old after to u. slice_get after x ≡ Some (Integer old)) low regs s (value_of v.0 v.1 s) (runs w n t kept regs))
          (compares : (old : ℤ) (regs : List Value) (s : State) (t : Target) → MeetHigh regs s t → slice_get regs x ≡ Some (Integer old) → s.steps ≤ n
          → Reaches w Anything high regs s ((value_of v.0 v.1 >>= source_clauses.compared v.0 old) s) (runs w n t compared regs)) where
        abbrev end_of_turn : ℤ → Evaluation (Unit {0})
        end_of_turn old = behind >> (value_of v.0 v.1 >>= source_clauses.compared v.0 old)

        -- what stands after the body, and the comparison
        end_follows : (old : ℤ) (regs : List Value) (s : State) (t : Target) → Meet regs s t → slice_get regs x ≡ Some (Integer old) → s.steps ≤ n
            → Follows w in_turn low regs Next s (end_of_turn old s) (runs w n t (before b compared) regs)
        end_follows old regs s t m has le =
            subst (λ q. Follows w in_turn low regs Next s (end_of_turn old s) q) (sym (before_is w.globals b compared w.calls n regs t))
            (follows_reached w in_turn (λ y after to u. Same high regs after) low regs Next s (behind s) (runs w n t b regs) (λ _. value_of v.0 v.1 >>= source_clauses.compared v.0 old)
            (monitored.exec_all over_blocks w.globals compared w.calls n) (behind_keeps regs s t m le)
            (λ _ to after u o same l be all_same.
            let m2 = meet_later regs after s to t u o same l be m in
            reached_follows w in_turn Anything low after to ((value_of v.0 v.1 >>= source_clauses.compared v.0 old) to) (runs w n u compared after) m2.standing.kept
            (reached_lower w Anything low high after to ((value_of v.0 v.1 >>= source_clauses.compared v.0 old) to) (runs w n u compared after) wide
            (compares old after to u (meet_high after to u m2) (all_same.below x below ∙ has) (omega (arith, le, l.spent))))))

        -- the body, after the variant is kept
        kept_round : (again : Evaluation (Unit {0})) (go : Go) (old : ℤ) (regs : List Value) (s : State) (t : Target) → Meet regs s t → slice_get regs x ≡ Some (Integer old) → s.steps ≤ n
            → ((to : State) (after : List Value) (u : Target) → Meet after to u → to.steps ≤ s.steps → Turns after to (again to) (go after u))
            → Turns regs s (after_body (body s) (end_of_turn old >> again)) (then_do (runs w n t (labelled (before b compared)) regs) (at_next go))
        kept_round again go old regs s t m has le k =
            body_round (before b compared) (end_of_turn old >> again) go regs s t m le (λ to after u same m2 l2.
            follows_then w in_turn low after (Goes (end_label loops)) to (end_of_turn old to) (runs w n u (before b compared) after) again go
            (end_follows old after to u m2 (same.kept x below (inr (omega (arith, least, m.standing.kept.below))) ∙ has) (omega (arith, le, l2)))
            (λ to2 after2 u2 o same2 keeps2 l be. k to2 after2 u2 (meet_after after after2 to to2 u u2 o same2 keeps2 l be m2) (omega (arith, l2, l.spent))))

        pub variant_rounds : Rounds (source.turn_with (Some v) body behind) (before kept (labelled (before b compared)))
        variant_rounds = record {
          goes = λ regs s t m le again go k.
              let rest = labelled (before b compared) in
              let turn = λ (old : ℤ) (s : State). after_body (body s) (end_of_turn old >> again) in
              let then_rest = λ (r : List Value) (u : Target). then_do (monitored.exec_all over_blocks w.globals rest w.calls n r u) (at_next go) in
              subst (λ q. Turns regs s (on_outcome (value_of v.0 v.1 s) turn) (then_do q (at_next go))) (sym (before_is w.globals kept rest w.calls n regs t))
              (subst (λ q. Turns regs s (on_outcome (value_of v.0 v.1 s) turn) q)
              (rest_first (runs w n t kept regs) then_rest (monitored.exec_all over_blocks w.globals rest w.calls n) go (λ r u. refl))
              (follows_reached w in_turn (λ old after to u. slice_get after x ≡ Some (Integer old)) low regs (Goes (end_label loops)) s (value_of v.0 v.1 s) (runs w n t kept regs) turn then_rest (keeps regs s t m le)
              (λ old to after u o same l be has.
              kept_round again go old after to u (meet_later regs after s to t u o same l be m) has (omega (arith, le, l.spent))
              (λ to2 after2 u2 m3 less. k to2 after2 u2 m3 (omega (arith, less, l.spent))))));
        }
