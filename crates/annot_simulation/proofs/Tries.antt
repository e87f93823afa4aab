-- The code of the values of a binder tries them one by one, as the quantifier does.
use Rattle.std.proofs.Common.{◌≡◌, ℕ, zero, suc, ◌<◌, ◌≤◌, ℤ, pos, ◌+ℤ◌, ◌≤ℤ◌, ◌<ℤ◌, int_le, int_lt, Bool, true, false, not, if◌then◌else◌, List, [], ◌∷◌, ◌++◌, length, length-append, Option, Some, None, slice_get, slice_set, refl, sym, ap}
use Rattle.std.proofs.Common.{◌∙◌, subst, arith}
use Rattle.std.proofs.lemmas.Int.{ints, clamps}
use Rattle.std.specs.Int.{int_max}
use Rattle.c_syntax.specs.declared.types.Width.{Width}
use Rattle.c_syntax.specs.declared.logic.Quantifier.{Quantifier}
use Rattle.c_syntax.specs.declared.logic.Quantifier.TheVariants.{ForAll, Exists}
use Rattle.c_model.specs.Integers.{truth}
use Rattle.c_model.specs.Logic.{Answer, Says, SaysNothing, OutOfSteps}
use Rattle.c_model.specs.Memory.{Value, Integer}
use Rattle.c_model.specs.MonitoredRuns.{Spent}
use Rattle.c_model.specs.Quantifiers.{undecided, deciding, tries, values}
use Rattle.c_model.specs.TermRanges.{raised}
use Rattle.c_model.proofs.Along.{steps_of}
use Rattle.c_model.proofs.Blocks.{slice_get-slice_set_other}
use Rattle.mon_syntax.specs.declared.tree.MonType.{MonType}
use Rattle.mon_syntax.specs.declared.tree.MonType.TheVariants.{I32}
use Rattle.mon_syntax.specs.declared.tree.MonOp.TheVariants.{Add, Le, Lt}
use Rattle.mon_syntax.specs.Arithmetic.{wrap}
use Rattle.mon_syntax.specs.BlockMemory.{over_blocks, integer_of}
use Rattle.mon_syntax.specs.Meaning.{Done, Stops, Flow, Next, Goes, Returns, writes, then_do, at_next, at_label, with_value, choose}
use Rattle.mon_syntax.specs.Meaning.{◌>>=◌ as bind}
use Rattle.mon_syntax.specs.Meaning as monitored
use Rattle.mon_syntax.specs.Trees.{MonExpression, Register, Constant, Binary, If, Set, MonStatements, NoStatement, Then}
use Rattle.c_effects.specs.Expressions.{before, one, set}
use Rattle.c_simulation.specs.SameRegisters.{Same}
use Rattle.quantifier_loops.specs.Tries.{Between, first_behind, from_first, guarded, is_one_behind, noted, noted_as, nothing_noted, one_try}
use Rattle.quantifier_loops.specs.Upward.{Doing, tried_label, unless_set, up, upward}
use Rattle.quantifier_loops.proofs.Trying.{Keeps, upward_does}
use Rattle.quantifier_loops.proofs.Values.{between_fits, values_more, values_next, values_none}
use Rattle.annot_simulation.specs.Binders.{tries_code}
use Rattle.annot_simulation.specs.Code.{Code, type_of_width}
use Rattle.annot_simulation.specs.Does.{Did, Setting, Target, with_steps, runs}
use Rattle.annot_simulation.proofs.Steps.{same_all, same_trans, same_set, get-set_same, after_to, stopped, writes_none, last_is, HasNumber, constant_has, operation, set_first, set_runs, if_true, if_false}
use Rattle.annot_simulation.proofs.Parts.{Holds, guarded_true, guarded_false}
use Rattle.annot_simulation.proofs.Exact.{is_number}
use Rattle.annot_simulation.proofs.Told.{Told}

-- registers after one is set
abbrev put : ℕ → ℤ → List Value → List Value
put r z regs = slice_set regs r (Integer z)

put_other : (r j : ℕ) (z : ℤ) (regs : List Value) → (j ≡ r → ⊥) → slice_get (put r z regs) j ≡ slice_get regs j
put_other r j z regs d = slice_get-slice_set_other regs r j (Integer z) d

-- ---- what decides

-- whether trying goes on
abbrev is_open : Quantifier → Bool → Bool
is_open ForAll b = b
is_open Exists b = not b

open_is : (q : Quantifier) (b : Bool) → is_open q b ≡ true → undecided q ≡ b
open_is ForAll true e = refl
open_is ForAll false e = absurd cc
open_is Exists true e = absurd cc
open_is Exists false e = refl

deciding_open : (q : Quantifier) (b : Bool) (j : ℕ) (rest : ℕ → Answer) → is_open q b ≡ true → deciding q (Says b j) rest ≡ rest j
deciding_open ForAll true j rest e = refl
deciding_open ForAll false j rest e = absurd cc
deciding_open Exists true j rest e = absurd cc
deciding_open Exists false j rest e = refl

deciding_closed : (q : Quantifier) (b : Bool) (j : ℕ) (rest : ℕ → Answer) → is_open q b ≡ false → deciding q (Says b j) rest ≡ Says b j
deciding_closed ForAll true j rest e = absurd cc
deciding_closed ForAll false j rest e = refl
deciding_closed Exists true j rest e = refl
deciding_closed Exists false j rest e = absurd cc

deciding_nothing : (q : Quantifier) (j : ℕ) (rest : ℕ → Answer) → deciding q (SaysNothing j) rest ≡ SaysNothing j
deciding_nothing ForAll j rest = refl
deciding_nothing Exists j rest = refl

deciding_out : (q : Quantifier) (rest : ℕ → Answer) → deciding q OutOfSteps rest ≡ OutOfSteps
deciding_out ForAll rest = refl
deciding_out Exists rest = refl

-- ---- one value is noted

noted_open : (w : Setting) (q : Quantifier) (b : Bool) (r : ℕ) (e : MonExpression) (regs : List Value) → is_open q b ≡ true → HasNumber w e regs (truth b) → runs w (noted q r e) regs ≡ Done (Next regs) w.target []
noted_open w ForAll true r e regs f h = if_true w e NoStatement (noted_as r (pos 0)) regs h
noted_open w ForAll false r e regs f h = absurd cc
noted_open w Exists true r e regs f h = absurd cc
noted_open w Exists false r e regs f h = if_false w e (noted_as r (pos 1)) NoStatement regs h

-- one register, and then another
two_set : (w : Setting) (a b : ℕ) (x y : ℤ) (regs : List Value) → runs w (Then (Set a (Constant I32 x)) (set b (Constant I32 y))) regs ≡ Done (Next (put b y (put a x regs))) w.target []
two_set w a b x y regs = set_first w a (Constant I32 x) (set b (Constant I32 y)) regs x (constant_has w I32 x regs refl) ∙ set_runs w b (Constant I32 y) (put a x regs) y (constant_has w I32 y (put a x regs) refl)

noted_closed : (w : Setting) (q : Quantifier) (b : Bool) (r : ℕ) (e : MonExpression) (regs : List Value) → is_open q b ≡ false → HasNumber w e regs (truth b)
    → runs w (noted q r e) regs ≡ Done (Next (put (suc (suc r)) (pos 1) (put (suc r) (truth b) regs))) w.target []
noted_closed w ForAll true r e regs f h = absurd cc
noted_closed w ForAll false r e regs f h = if_false w e NoStatement (noted_as r (pos 0)) regs h ∙ two_set w (suc r) (suc (suc r)) (pos 0) (pos 1) regs
noted_closed w Exists true r e regs f h = if_true w e (noted_as r (pos 1)) NoStatement regs h ∙ two_set w (suc r) (suc (suc r)) (pos 1) (pos 1) regs
noted_closed w Exists false r e regs f h = absurd cc

-- ---- the loop

-- from registers in which the loop begins
module _ (w : Setting) (q : Quantifier) (width : Width) (to : MonExpression) (lo h : ℤ) (c : Code) (p : ℤ → ℕ → Answer) (r : ℕ) (first : List Value) where
  abbrev k : MonType
  k = type_of_width width

  abbrev index : ℕ
  index = suc (suc (suc r))

  abbrev stop : ℕ
  stop = suc (suc r)

  abbrev tried : MonStatements
  tried = one_try q r c.stmts c.flag c.value

  abbrev inside : Doing
  inside = monitored.exec_all over_blocks w.globals tried w.calls w.turns

  -- with so many steps
  abbrev having : ℕ → Target
  having n = record w.target { steps = n }

  -- between two values
  pub record Trying (regs : List Value) : Type 0 where
    pub same : Same r first regs
    pub flag_is : slice_get regs r ≡ Some (Integer (pos 1))
    pub truth_is : slice_get regs (suc r) ≡ Some (Integer (truth (undecided q)))
    pub stop_is : slice_get regs stop ≡ Some (Integer (pos 0))

  -- behind one: what is noted, where none before it decided
  record Noted (i : ℕ) (v : ℤ) (flag says stops : Bool) (mid : List Value) (d : Did) : Type 0 where
    end : List Value
    is : d ≡ Done (Next end) (having i) []
    same : Same r first end
    index_is : slice_get end index ≡ Some (Integer v)
    flag_is : Trying mid → slice_get end r ≡ Some (Integer (truth flag))
    truth_is : Trying mid → slice_get end (suc r) ≡ Some (Integer (truth says))
    stop_is : Trying mid → slice_get end stop ≡ Some (Integer (truth stops))

  abbrev TriedAs : ℤ → Answer → List Value → Did → Type 0
  TriedAs v (Says b i) mid d = Noted i v true b (not (is_open q b)) mid d
  TriedAs v (SaysNothing i) mid d = Noted i v false (undecided q) true mid d
  TriedAs v OutOfSteps mid d = d ≡ Stops Spent 0 []

  -- behind all
  pub record Left (j : ℕ) (flag : Bool) (says : Option Bool) (d : Did) : Type 0 where
    pub end : List Value
    pub is : d ≡ Done (Next end) (having j) []
    pub same : Same r first end
    pub flag_is : slice_get end r ≡ Some (Integer (truth flag))
    pub truth_is : (b : Bool) → says ≡ Some b → slice_get end (suc r) ≡ Some (Integer (truth b))

  abbrev pub LoopTold : Answer → Did → Type 0
  LoopTold (Says b j) d = Left j true (Some b) d
  LoopTold (SaysNothing j) d = Left j false None d
  LoopTold OutOfSteps d = d ≡ Stops Spent 0 []

  truth_some : (b x : Bool) → Some b ≡ Some x → Some (Integer (truth b)) ≡ Some (Integer (truth x))
  truth_some b x e = let same_truth : b ≡ x = cc in ap (λ b. Some (Integer (truth b))) same_truth

  -- a jump to the label of the loop ends there
  caught_told : (l : List ℕ) (A : Answer) (d : Did) → LoopTold A d → LoopTold A (then_do d (at_label l))
  caught_told l (Says b j) d m = record { end = m.end; is = ap (λ d. then_do d (at_label l)) m.is; same = m.same; flag_is = m.flag_is; truth_is = m.truth_is }
  caught_told l (SaysNothing j) d m = record { end = m.end; is = ap (λ d. then_do d (at_label l)) m.is; same = m.same; flag_is = m.flag_is; truth_is = m.truth_is }
  caught_told l OutOfSteps d m = ap (λ d. then_do d (at_label l)) m

  module _ (js : List MonType) (long : length js ≡ suc index) (more : length js ≤ length c.used) (room : length c.used ≤ length first)
      (body : (v : ℤ) (n : ℕ) (mid : List Value) → lo ≤ℤ v → v ≤ℤ h → n ≤ w.turns → Same r first mid → slice_get mid index ≡ Some (Integer v) → Told (with_steps n w) c (p v n) js mid) where
    -- both registers behind the flag are set
    two_same : (a : ℕ) (x : ℤ) (mid : List Value) → r ≤ a → Same r first mid → Same r first (put stop (pos 1) (put a x mid))
    two_same a x mid le s =
        same_trans r r first (put a x mid) (put stop (pos 1) (put a x mid)) (omega arith) (same_trans r r first mid (put a x mid) (omega arith) s (same_set r a mid (Integer x) le))
        (same_set r stop (put a x mid) (Integer (pos 1)) (omega arith))

    index_below : index < length first
    index_below = omega (arith, long, more, room)

    -- a value is tried
    one_tried : (v : ℤ) (n : ℕ) (mid : List Value) → lo ≤ℤ v → v ≤ℤ h → n ≤ w.turns → Same r first mid → slice_get mid index ≡ Some (Integer v) → TriedAs v (p v n) mid (runs (with_steps n w) tried mid)
    one_tried v n mid le below enough near at = by (p v n) (body v n mid le below enough near at)
      where
        rest : MonStatements
        rest = guarded c.flag (noted q r c.value) (nothing_noted r)

        by : (A : Answer) → Told (with_steps n w) c A js mid → TriedAs v A mid (runs (with_steps n w) tried mid)
        by (Says b i) d = of_open (is_open q b) refl
          where
            here : Holds (with_steps n w) c.flag c.value (Some (truth b)) d.end
            here = d.holds d.end (same_all (length c.used) d.end)

            same : Same r first d.end
            same = same_trans r (length js) first mid d.end (omega (arith, long)) near d.same

            leads : runs (with_steps n w) tried mid ≡ runs (with_steps i w) (noted q r c.value) d.end
            leads = after_to (with_steps n w) i c.stmts rest mid d.end d.is ∙ guarded_true (with_steps i w) c.flag (noted q r c.value) (nothing_noted r) d.end here.flag_is

            of_open : (o : Bool) → is_open q b ≡ o → Noted i v true b (not o) mid (runs (with_steps n w) tried mid)
            of_open true o = record {
              end = d.end;
              is = leads ∙ noted_open (with_steps i w) q b r c.value d.end o (here.value_is (truth b) refl);
              same = same;
              flag_is = λ t. d.same.below r (omega (arith, long)) ∙ t.flag_is;
              truth_is = λ t. d.same.below (suc r) (omega (arith, long)) ∙ t.truth_is ∙ ap (λ b. Some (Integer (truth b))) (open_is q b o);
              stop_is = λ t. d.same.below stop (omega (arith, long)) ∙ t.stop_is;
              index_is = d.same.below index (omega (arith, long)) ∙ at;
            }
            of_open false o = record {
              end = put stop (pos 1) (put (suc r) (truth b) d.end);
              is = leads ∙ noted_closed (with_steps i w) q b r c.value d.end o (here.value_is (truth b) refl);
              same = two_same (suc r) (truth b) d.end (omega arith) same;
              flag_is = λ t.
                  put_other stop r (pos 1) (put (suc r) (truth b) d.end) (λ e. omega (arith, e)) ∙ put_other (suc r) r (truth b) d.end (λ e. omega (arith, e))
                  ∙ d.same.below r (omega (arith, long)) ∙ t.flag_is;
              truth_is = λ t. put_other stop (suc r) (pos 1) (put (suc r) (truth b) d.end) (λ e. omega (arith, e)) ∙ get-set_same d.end (suc r) (Integer (truth b)) (omega (arith, index_below, same.long));
              stop_is = λ t. get-set_same (put (suc r) (truth b) d.end) stop (Integer (pos 1)) (omega (
                arith,
                index_below,
                (same_trans r r first d.end (put (suc r) (truth b) d.end) (omega arith) same (same_set r (suc r) d.end (Integer (truth b)) (omega arith))).long,
              ));
              index_is =
                  put_other stop index (pos 1) (put (suc r) (truth b) d.end) (λ e. omega (arith, e)) ∙ put_other (suc r) index (truth b) d.end (λ e. omega (arith, e))
                  ∙ d.same.below index (omega (arith, long)) ∙ at;
            }
        by (SaysNothing i) d =
            let here = d.holds d.end (same_all (length c.used) d.end) in
            let same = same_trans r (length js) first mid d.end (omega (arith, long)) near d.same in
            record {
              end = put stop (pos 1) (put r (pos 0) d.end);
              is =
                  after_to (with_steps n w) i c.stmts rest mid d.end d.is ∙ guarded_false (with_steps i w) c.flag (noted q r c.value) (nothing_noted r) d.end here.flag_is
                  ∙ two_set (with_steps i w) r stop (pos 0) (pos 1) d.end;
              same = two_same r (pos 0) d.end (omega arith) same;
              flag_is = λ t. put_other stop r (pos 1) (put r (pos 0) d.end) (λ e. omega (arith, e)) ∙ get-set_same d.end r (Integer (pos 0)) (omega (arith, index_below, same.long));
              truth_is = λ t.
                  put_other stop (suc r) (pos 1) (put r (pos 0) d.end) (λ e. omega (arith, e)) ∙ put_other r (suc r) (pos 0) d.end (λ e. omega (arith, e))
                  ∙ d.same.below (suc r) (omega (arith, long)) ∙ t.truth_is;
              stop_is = λ t. get-set_same (put r (pos 0) d.end) stop (Integer (pos 1)) (omega (arith, index_below, (same_trans r r first d.end (put r (pos 0) d.end) (omega arith) same (same_set r r d.end (Integer (pos 0)) (omega arith))).long));
              index_is =
                  put_other stop index (pos 1) (put r (pos 0) d.end) (λ e. omega (arith, e)) ∙ put_other r index (pos 0) d.end (λ e. omega (arith, e))
                  ∙ d.same.below index (omega (arith, long)) ∙ at;
            }
        by OutOfSteps d = stopped (with_steps n w) c.stmts rest mid Spent 0 d

    -- ---- what the loop asks of it

    abbrev Stays : List Value → Target → Type 0
    Stays regs t = Same r first regs × (t ≡ having t.steps)

    module _ (falls : (v : ℤ) (n : ℕ) → steps_of (p v n) ≤ n) where
      -- what stays behind a value
      noted_keeps : (i n : ℕ) (v : ℤ) (flag says stops : Bool) (mid : List Value) (d : Did) (regs after : List Value) (u : Target) (o : List ℕ) → Noted i v flag says stops mid d → d ≡ Done (Next after) u o → i ≤ n → Same r first regs
          → Stays after u × (slice_get after index ≡ Some (Integer v)) × (length after ≡ length regs) × (u.steps ≤ n)
      noted_keeps i n v flag says stops mid d regs after u o m e le s =
          let both : Done (Next m.end) (having i) [] ≡ Done (Next after) u o = sym m.is ∙ e in
          let same_end : m.end ≡ after = ap end_of both in
          let same_target : having i ≡ u = ap target_of both in (
            (subst (Same r first) same_end m.same, subst (λ (u : Target). u ≡ having u.steps) same_target refl),
            subst (λ a. slice_get a index ≡ Some (Integer v)) same_end m.index_is,
            sym (ap length same_end) ∙ m.same.long ∙ sym s.long,
            subst (λ (u : Target). u.steps ≤ n) same_target le,
          )
        where
          end_of : Did → List Value
          end_of (Done (Next a) t o) = a
          end_of (Done (Goes l a) t o) = a
          end_of (Done (Returns x) t o) = after
          end_of (Stops f n o) = after

          target_of : Did → Target
          target_of (Done a t o) = t
          target_of (Stops f n o) = u

      value_keeps : (v : ℤ) (regs after : List Value) (t u : Target) (o : List ℕ) → lo ≤ℤ v → v ≤ℤ h → Stays regs t → slice_get regs index ≡ Some (Integer v) → t.steps ≤ w.turns → inside regs t ≡ Done (Next after) u o
          → Stays after u × (slice_get after index ≡ Some (Integer v)) × (length after ≡ length regs) × (u.steps ≤ t.steps)
      value_keeps v regs after t u o le below stays at enough d = by (p v t.steps) (falls v t.steps) (one_tried v t.steps regs le below enough stays.0 at)
        where
          here : runs (with_steps t.steps w) tried regs ≡ Done (Next after) u o
          here = ap (λ (t : Target). inside regs t) (sym stays.1) ∙ d

          by : (A : Answer) → steps_of A ≤ t.steps → TriedAs v A regs (runs (with_steps t.steps w) tried regs) → Stays after u × (slice_get after index ≡ Some (Integer v)) × (length after ≡ length regs) × (u.steps ≤ t.steps)
          by (Says b i) li m = noted_keeps i t.steps v true b (not (is_open q b)) regs (runs (with_steps t.steps w) tried regs) regs after u o m here li stays.0
          by (SaysNothing i) li m = noted_keeps i t.steps v false (undecided q) true regs (runs (with_steps t.steps w) tried regs) regs after u o m here li stays.0
          by OutOfSteps li m = let no : Stops Spent 0 [] ≡ Done (Next after) u o = sym m ∙ here in absurd cc

      -- all values from one on
      abbrev UpTold : ℕ → Type 0
      UpTold j = (v : ℤ) (n : ℕ) (mid : List Value) → values v h ≡ j → lo ≤ℤ v → n ≤ w.turns → Trying mid → LoopTold (tries q j v p n) (up inside index stop j v mid (having n))

      up_told : (j : ℕ) → UpTold j
      up_told zero v n mid e le enough t = record {
        end = mid;
        is = refl;
        same = t.same;
        flag_is = t.flag_is;
        truth_is = λ b f. t.truth_is ∙ truth_some (undecided q) b f;
      }
      up_told (suc j) v zero mid e le enough t = refl
      up_told (suc j) v (suc n) mid e le enough t = by (up_told j) (p v n) (falls v n) (one_tried v n here le (values_more v h j e) (omega (arith, enough)) trying.same at)
        where
          here : List Value
          here = put index v mid

          at : slice_get here index ≡ Some (Integer v)
          at = get-set_same mid index (Integer v) (omega (arith, index_below, t.same.long))

          trying : Trying here
          trying = record {
            same = same_trans r r first mid here (omega arith) t.same (same_set r index mid (Integer v) (omega arith));
            flag_is = put_other index r v mid (λ e. omega (arith, e)) ∙ t.flag_is;
            truth_is = put_other index (suc r) v mid (λ e. omega (arith, e)) ∙ t.truth_is;
            stop_is = put_other index stop v mid (λ e. omega (arith, e)) ∙ t.stop_is;
          }

          rest : ℕ → Answer
          rest = tries q j (v +ℤ pos 1) p

          others : Doing
          others = up inside index stop j (v +ℤ pos 1)

          whole : Did
          whole = then_do (runs (with_steps n w) tried here) (at_next (unless_set stop others))

          -- behind a value that was noted
          goes_on : (i : ℕ) (flag says stops : Bool) → (m : Noted i v flag says stops here (runs (with_steps n w) tried here)) → whole ≡ choose (truth stops) (Done (Next m.end) (having i) []) (others m.end (having i))
          goes_on i flag says stops m =
              ap (λ d. then_do d (at_next (unless_set stop others))) m.is
              ∙ writes_none (unless_set stop others m.end (having i))
              ∙ ap (λ o. with_value (bind o integer_of) i (λ z. choose z (Done (Next m.end) (having i) []) (others m.end (having i)))) (m.stop_is trying)

          ends : (i : ℕ) (flag says : Bool) → (m : Noted i v flag says true here (runs (with_steps n w) tried here)) → (o : Option Bool) → ((b : Bool) → o ≡ Some b → Some (Integer (truth says)) ≡ Some (Integer (truth b))) → Left i flag o whole
          ends i flag says m o f = record { end = m.end; is = goes_on i flag says true m; same = m.same; flag_is = m.flag_is trying; truth_is = λ b g. m.truth_is trying ∙ f b g }

          says_more : UpTold j → (b : Bool) (i : ℕ) → i ≤ n → (o : Bool) → is_open q b ≡ o → Noted i v true b (not o) here (runs (with_steps n w) tried here) → LoopTold (deciding q (Says b i) rest) whole
          says_more others_told b i li true o m =
              subst (λ a. LoopTold a whole) (sym (deciding_open q b i rest o))
              (subst (λ d. LoopTold (rest i) d) (sym (goes_on i true b false m))
              (others_told (v +ℤ pos 1) i m.end (values_next v h j e) (omega (arith, ints, le)) (omega (arith, li, enough)) (record {
                same = m.same;
                flag_is = m.flag_is trying;
                truth_is = m.truth_is trying ∙ ap (λ b. Some (Integer (truth b))) (sym (open_is q b o));
                stop_is = m.stop_is trying;
              })))
          says_more others_told b i li false o m = subst (λ a. LoopTold a whole) (sym (deciding_closed q b i rest o)) (ends i true b m (Some b) (λ x g. truth_some b x g))

          by : UpTold j → (B : Answer) → steps_of B ≤ n → TriedAs v B here (runs (with_steps n w) tried here) → LoopTold (deciding q B rest) whole
          by others_told (Says b i) li m = says_more others_told b i li (is_open q b) refl m
          by others_told (SaysNothing i) li m = subst (λ a. LoopTold a whole) (sym (deciding_nothing q i rest)) (ends i false (undecided q) m None (λ b g. absurd cc))
          by others_told OutOfSteps li m = subst (λ a. LoopTold a whole) (sym (deciding_out q rest)) (ap (λ d. then_do d (at_next (unless_set stop others))) m)

      -- the loop from the first value on
      pub loop_told : (from : MonExpression) (regs : List Value) → (lo ≤ℤ h → wrap k lo ≡ lo) → (lo ≤ℤ h → wrap k h ≡ h) → ((later : List Value) → Same r first later → HasNumber w to later h) → w.target.steps ≤ w.turns → HasNumber w from regs lo
          → Trying regs → LoopTold (tries q (values lo h) lo p w.target.steps) (runs w (one (upward k index from to tried stop)) regs)
      loop_told from regs lo_fits h_fits to_has enough from_has t =
          subst (λ d. LoopTold (tries q (values lo h) lo p w.target.steps) d) (sym leads)
          (caught_told (tried_label index) (tries q (values lo h) lo p w.target.steps) (up inside index stop (values lo h) lo (put index lo regs) w.target)
          (up_told (values lo h) lo w.target.steps (put index lo regs) refl (omega (arith, ints)) enough (record {
            same = same_trans r r first regs (put index lo regs) (omega arith) t.same (same_set r index regs (Integer lo) (omega arith));
            flag_is = put_other index r lo regs (λ e. omega (arith, e)) ∙ t.flag_is;
            truth_is = put_other index (suc r) lo regs (λ e. omega (arith, e)) ∙ t.truth_is;
            stop_is = put_other index stop lo regs (λ e. omega (arith, e)) ∙ t.stop_is;
          })))
        where
          leads : runs w (one (upward k index from to tried stop)) regs ≡ then_do (up inside index stop (values lo h) lo (put index lo regs) w.target) (at_label (tried_label index))
          leads =
              last_is w (monitored.exec over_blocks w.globals (upward k index from to tried stop) w.calls w.turns regs w.target)
              ∙ upward_does w.globals w.calls w.turns k index stop to tried lo h Stays (is_number width) lo_fits h_fits (λ regs t s. to_of regs t s)
              (λ regs t v s. (same_trans r r first regs (put index v regs) (omega arith) s.0 (same_set r index regs (Integer v) (omega arith)), s.1))
              (λ regs t n s. (s.0, ap (λ (t : Target). record t { steps = n }) s.1))
              (λ v regs after t u o le below s at few d. let g = value_keeps v regs after t u o le below s at few d in record { holds = g.0; index_is = g.1; long = g.2; fewer = g.3 })
              from regs w.target (omega (arith, index_below, t.same.long)) from_has (t.same, refl) enough
            where
              to_of : (regs : List Value) (t : Target) → Stays regs t → monitored.eval over_blocks w.globals to regs t.mem ≡ Some (Integer h)
              to_of regs t s = ap (λ (t : Target). monitored.eval over_blocks w.globals to regs t.mem) s.1 ∙ to_has regs s.0

-- ---- a binder

-- the first value, which is at least the least one
abbrev pub from_least : Option ℤ → ℤ → ℤ
from_least None x = x
from_least (Some z) x = int_max x z

raised_more : (above : Bool) (x : ℤ) → x ≤ℤ raised above x
raised_more true x = omega (arith, ints)
raised_more false x = omega (arith, ints)

from_more : (o : Option ℤ) (x : ℤ) → x ≤ℤ from_least o x
from_more None x = omega (arith, ints)
from_more (Some z) x = omega (arith, ints, clamps)

module _ (w : Setting) (q : Quantifier) (above : Bool) (width : Width) (least : Option ℤ) (u to : MonExpression) (l h : ℤ) (c : Code) (p : ℤ → ℕ → Answer) (rs : List MonType) (regs : List Value) where
  abbrev n : ℕ
  n = w.target.steps

  abbrev r : ℕ
  r = length rs

  abbrev kind : MonType
  kind = type_of_width width

  abbrev last_register : ℕ
  last_register = suc (suc (suc r))

  abbrev js : List MonType
  js = rs ++ I32 ∷ I32 ∷ I32 ∷ type_of_width width ∷ []

  abbrev begins : ℤ
  begins = raised above l

  abbrev lo : ℤ
  lo = from_least least (raised above l)

  abbrev bounds : Between
  bounds = record { above = above; kind = type_of_width width; least = least; from = u; to = to }

  abbrev code : Code
  code = tries_code q bounds r c

  module _ (long : length js ≤ length c.used) (room : length c.used ≤ length regs) (u_has : (later : List Value) → Same r regs later → HasNumber w u later l) (to_has : (later : List Value) → Same r regs later → HasNumber w to later h)
      (l_fits : wrap (type_of_width width) l ≡ l) (h_fits : raised above l ≤ℤ h → wrap (type_of_width width) h ≡ h)
      (body : (v : ℤ) (n : ℕ) (mid : List Value) → lo ≤ℤ v → v ≤ℤ h → n ≤ w.turns → Same r regs mid → slice_get mid (suc (suc (suc r))) ≡ Some (Integer v) → Told (with_steps n w) c (p v n) js mid) (falls : (v : ℤ) (n : ℕ) → steps_of (p v n) ≤ n)
      (enough : n ≤ w.turns) where
    js_long : length js ≡ suc (suc (suc (suc r)))
    js_long = omega (arith, length-append rs (I32 ∷ I32 ∷ I32 ∷ type_of_width width ∷ []))

    index_room : suc (suc (suc (suc r))) ≤ length regs
    index_room = omega (arith, js_long, long, room)

    abbrev begun : List Value
    begun = put (suc (suc r)) (pos 0) (put (suc r) (truth (undecided q)) (put r (pos 1) regs))

    a1 : Same r regs (put r (pos 1) regs)
    a1 = same_set r r regs (Integer (pos 1)) (omega arith)

    a2 : Same (suc r) (put r (pos 1) regs) (put (suc r) (truth (undecided q)) (put r (pos 1) regs))
    a2 = same_set (suc r) (suc r) (put r (pos 1) regs) (Integer (truth (undecided q))) (omega arith)

    a3 : Same (suc (suc r)) (put (suc r) (truth (undecided q)) (put r (pos 1) regs)) begun
    a3 = same_set (suc (suc r)) (suc (suc r)) (put (suc r) (truth (undecided q)) (put r (pos 1) regs)) (Integer (pos 0)) (omega arith)

    begun_same : Same r regs begun
    begun_same = same_trans r (suc r) regs (put r (pos 1) regs) begun (omega arith) a1 (same_trans (suc r) (suc (suc r)) (put r (pos 1) regs) (put (suc r) (truth (undecided q)) (put r (pos 1) regs)) begun (omega arith) a2 a3)

    -- the registers behind the start
    trying : Trying w q width to lo h c p r regs begun
    trying = record {
      same = begun_same;
      flag_is =
          put_other (suc (suc r)) r (pos 0) (put (suc r) (truth (undecided q)) (put r (pos 1) regs)) (λ e. omega (arith, e)) ∙ put_other (suc r) r (truth (undecided q)) (put r (pos 1) regs) (λ e. omega (arith, e))
          ∙ get-set_same regs r (Integer (pos 1)) (omega (arith, index_room));
      truth_is =
          put_other (suc (suc r)) (suc r) (pos 0) (put (suc r) (truth (undecided q)) (put r (pos 1) regs)) (λ e. omega (arith, e))
          ∙ get-set_same (put r (pos 1) regs) (suc r) (Integer (truth (undecided q))) (omega (arith, index_room, a1.long));
      stop_is = get-set_same (put (suc r) (truth (undecided q)) (put r (pos 1) regs)) (suc (suc r)) (Integer (pos 0)) (omega (arith, index_room, a1.long, a2.long));
    }

    -- the index is set, and all before it stays
    still_trying : (z : ℤ) (mid : List Value) → Trying w q width to lo h c p r regs mid → Trying w q width to lo h c p r regs (put last_register z mid)
    still_trying z mid t = record {
      same = same_trans r r regs mid (put last_register z mid) (omega arith) t.same (same_set r last_register mid (Integer z) (omega arith));
      flag_is = put_other last_register r z mid (λ e. omega (arith, e)) ∙ t.flag_is;
      truth_is = put_other last_register (suc r) z mid (λ e. omega (arith, e)) ∙ t.truth_is;
      stop_is = put_other last_register (suc (suc r)) z mid (λ e. omega (arith, e)) ∙ t.stop_is;
    }

    abbrev test : MonExpression
    test = is_one_behind bounds

    abbrev inner : MonStatements
    inner = one_try q r c.stmts c.flag c.value

    abbrev loops : MonStatements
    loops = from_first least bounds last_register inner (suc (suc r))

    abbrev tested : MonStatements
    tested = one (If test loops NoStatement)

    abbrev stop_first : MonStatements
    stop_first = Then (Set (suc (suc r)) (Constant I32 (pos 0))) tested

    abbrev truth_first : MonStatements
    truth_first = Then (Set (suc r) (Constant I32 (truth (undecided q)))) stop_first

    starts : runs w code.stmts regs ≡ runs w tested begun
    starts =
        set_first w r (Constant I32 (pos 1)) truth_first regs (pos 1) (constant_has w I32 (pos 1) regs refl)
        ∙ set_first w (suc r) (Constant I32 (truth (undecided q))) stop_first (put r (pos 1) regs) (truth (undecided q)) (constant_has w I32 (truth (undecided q)) (put r (pos 1) regs) refl)
        ∙ set_first w (suc (suc r)) (Constant I32 (pos 0)) tested (put (suc r) (truth (undecided q)) (put r (pos 1) regs)) (pos 0) (constant_has w I32 (pos 0) (put (suc r) (truth (undecided q)) (put r (pos 1) regs)) refl)

    told_left : (A : Answer) → LoopTold w q width to lo h c p r regs A (runs w code.stmts regs) → Told w code A rs regs
    told_left (Says b j) m = record {
      end = m.end;
      same = m.same;
      is = m.is;
      holds = λ later s. record {
        flag_is = s.below r (omega (arith, js_long, long)) ∙ m.flag_is;
        value_is = λ z f. s.below (suc r) (omega (arith, js_long, long)) ∙ m.truth_is b refl ∙ (let same_truth : truth b ≡ z = cc in ap (λ z. Some (Integer z)) same_truth);
      };
    }
    told_left (SaysNothing j) m = record {
      end = m.end;
      same = m.same;
      is = m.is;
      holds = λ later s. record { flag_is = s.below r (omega (arith, js_long, long)) ∙ m.flag_is; value_is = λ z f. absurd cc };
    }
    told_left OutOfSteps m = m

    abbrev answer : Answer
    answer = tries q (values lo h) lo p n

    -- where there is a value behind the lower bound
    module _ (some : begins ≤ℤ h) (from_has : HasNumber w (first_behind bounds) begun begins) where
      lo_fits : lo ≤ℤ h → wrap kind lo ≡ lo
      lo_fits le = between_fits kind l lo h (omega (arith, ints, raised_more above l, from_more least (raised above l))) le l_fits (h_fits some)

      -- the loop, from registers in which its first value stands ready
      looped : (from : MonExpression) (mid : List Value) → HasNumber w from mid lo → Trying w q width to lo h c p r regs mid → LoopTold w q width to lo h c p r regs answer (runs w (one (upward kind last_register from to inner (suc (suc r)))) mid)
      looped from mid has t = loop_told w q width to lo h c p r regs js js_long long room (λ v n mid a b d s i. body v n mid a b d s i) falls from mid lo_fits (λ le. h_fits some) to_has enough has t

      first_told : (o : Option ℤ) → least ≡ o → LoopTold w q width to lo h c p r regs answer (runs w (from_first o bounds last_register inner (suc (suc r))) begun)
      first_told None e = looped (first_behind bounds) begun (subst (λ z. HasNumber w (first_behind bounds) begun z) (sym (ap (λ o. from_least o begins) e)) from_has) trying
      first_told (Some z) e =
          subst (λ d. LoopTold w q width to lo h c p r regs answer d) (sym (set_first w last_register (first_behind bounds) (Then (If below (set last_register (Constant kind z)) NoStatement) loop) begun begins from_has))
          (by (int_lt begins z) refl)
        where
          loop : MonStatements
          loop = one (upward kind last_register (Register last_register) to inner (suc (suc r)))

          below : MonExpression
          below = Binary Lt kind (Register last_register) (Constant kind z)

          first : List Value
          first = put last_register begins begun

          first_is : slice_get first last_register ≡ Some (Integer begins)
          first_is = get-set_same begun last_register (Integer begins) (omega (arith, index_room, begun_same.long))

          lo_is : lo ≡ int_max begins z
          lo_is = ap (λ o. from_least o begins) e

          below_has : (t : Bool) → int_lt begins z ≡ t → HasNumber w below first (truth t)
          below_has t f = operation w Lt kind (Register last_register) (Constant kind z) first begins z (truth t) (is_number width) first_is (constant_has w kind z first (is_number width)) (ap (λ b. Some (truth b)) f)

          leads : (mid : List Value) → runs w (one (If below (set last_register (Constant kind z)) NoStatement)) first ≡ Done (Next mid) w.target []
              → runs w (Then (If below (set last_register (Constant kind z)) NoStatement) loop) first ≡ runs w loop mid
          leads mid f = after_to w w.target.steps (one (If below (set last_register (Constant kind z)) NoStatement)) loop first mid f

          by : (t : Bool) → int_lt begins z ≡ t → LoopTold w q width to lo h c p r regs answer (runs w (Then (If below (set last_register (Constant kind z)) NoStatement) loop) first)
          by true f =
              let next = put last_register z first in
              let s = (same_set r last_register begun (Integer begins) (omega arith)).long in
              subst (λ d. LoopTold w q width to lo h c p r regs answer d)
              (sym (leads next (if_true w below (set last_register (Constant kind z)) NoStatement first (below_has true f) ∙ set_runs w last_register (Constant kind z) first z (constant_has w kind z first (is_number width)))))
              (looped (Register last_register) next
              (get-set_same first last_register (Integer z) (omega (arith, index_room, begun_same.long, s)) ∙ (let same_first : z ≡ lo = omega (arith, ints, clamps, lo_is, f) in ap (λ z. Some (Integer z)) same_first))
              (still_trying z first (still_trying begins begun trying)))
          by false f =
              subst (λ d. LoopTold w q width to lo h c p r regs answer d) (sym (leads first (if_false w below (set last_register (Constant kind z)) NoStatement first (below_has false f))))
              (looped (Register last_register) first (first_is ∙ (let same_first : begins ≡ lo = omega (arith, ints, clamps, lo_is, f) in ap (λ z. Some (Integer z)) same_first)) (still_trying begins begun trying))

      some_told : HasNumber w test begun (truth true) → Told w code answer rs regs
      some_told there = told_left answer (subst (λ d. LoopTold w q width to lo h c p r regs answer d) (sym (starts ∙ if_true w test loops NoStatement begun there)) (first_told least refl))

    -- where there is none
    none_told : h <ℤ begins → HasNumber w test begun (truth false) → Told w code answer rs regs
    none_told gt there =
        subst (λ j. Told w code (tries q j lo p n) rs regs) (sym (values_none lo h (omega (arith, ints, gt, from_more least begins)))) (told_left (Says (undecided q) n) (record {
          end = begun;
          is = starts ∙ if_false w test loops NoStatement begun there;
          same = begun_same;
          flag_is = trying.flag_is;
          truth_is = λ b e. trying.truth_is ∙ (let same_truth : undecided q ≡ b = cc in ap (λ b. Some (Integer (truth b))) same_truth);
        }))

    pub tries_told : Told w code answer rs regs
    tries_told = by above refl
      where
        choice : (t : Bool) → HasNumber w test begun (truth t) → (t ≡ true → begins ≤ℤ h) → (t ≡ false → h <ℤ begins) → (begins ≤ℤ h → HasNumber w (first_behind bounds) begun begins) → Told w code answer rs regs
        choice true has le gt from = some_told (le refl) (from (le refl)) has
        choice false has le gt from = none_told (gt refl) has

        by : (a : Bool) → above ≡ a → Told w code answer rs regs
        by true e =
            let begins_is : begins ≡ (l +ℤ pos 1) = ap (λ a. raised a l) e in
            choice (int_lt l h) (subst (λ a. HasNumber w (is_one_behind (record bounds { above = a })) begun (truth (int_lt l h))) (sym e)
            (operation w Lt kind u to begun l h (truth (int_lt l h)) (is_number width) (u_has begun begun_same) (to_has begun begun_same) refl))
            (λ f. omega (arith, ints, begins_is, f)) (λ f. omega (arith, ints, begins_is, f)) (λ le.
            subst (λ a. HasNumber w (first_behind (record bounds { above = a })) begun (raised a l)) (sym e)
            (operation w Add kind u (Constant kind (pos 1)) begun l (pos 1) (l +ℤ pos 1) (is_number width) (u_has begun begun_same) (constant_has w kind (pos 1) begun (is_number width))
            (ap Some (between_fits kind l (l +ℤ pos 1) h (omega (arith, ints)) (omega (arith, ints, begins_is, le)) l_fits (h_fits le)))))
        by false e =
            let begins_is : begins ≡ l = ap (λ a. raised a l) e in
            choice (int_le l h) (subst (λ a. HasNumber w (is_one_behind (record bounds { above = a })) begun (truth (int_le l h))) (sym e)
            (operation w Le kind u to begun l h (truth (int_le l h)) (is_number width) (u_has begun begun_same) (to_has begun begun_same) refl))
            (λ f. omega (arith, ints, begins_is, f)) (λ f. omega (arith, ints, begins_is, f)) (λ le.
            subst (λ a. HasNumber w (first_behind (record bounds { above = a })) begun (raised a l)) (sym e) (u_has begun begun_same))
