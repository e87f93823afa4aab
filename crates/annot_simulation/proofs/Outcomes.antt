-- The code of every predicate judges it, and that of every integer term gives its value, in registers.
use Rattle.std.proofs.Common.{◌≡◌, ℕ, suc, ◌<◌, ◌≤◌, ℤ, pos, Bool, true, false, List, [], ◌∷◌, ◌++◌, length, length-append, slice_get, slice_set, Option, Some, None, refl, sym, ap, ◌∙◌, subst, arith}
use Rattle.c_syntax.specs.Logic.{LogicTerm}
use Rattle.c_model.specs.Integers.{truth}
use Rattle.c_model.specs.Logic.{TermValue, Mathematical, Addressed, Answer, Says, SaysNothing, OutOfSteps, said}
use Rattle.c_model.specs.Memory.{Value, Integer}
use Rattle.c_model.specs.MonitoredRuns.{Spent}
use Rattle.c_model.specs.Predicates.{term, pred}
use Rattle.mon_syntax.specs.declared.tree.MonType.{MonType}
use Rattle.mon_syntax.specs.declared.tree.MonType.TheVariants.{I32}
use Rattle.mon_syntax.specs.BlockMemory.{is_some}
use Rattle.mon_syntax.specs.Meaning.{Done, Stops, Next}
use Rattle.mon_syntax.specs.Trees.{MonExpression, Register, Global, Constant, Binary, Minus, Flip, Cast, Load, If, MonStatements, NoStatement}
use Rattle.c_effects.specs.Expressions.{before, one, set}
use Rattle.c_simulation.specs.SameRegisters.{Same}
use Rattle.annot_simulation.specs.Code.{Code, judged_by, judged_anew, judged_with, pred_code, term_code, take, type_of}
use Rattle.annot_simulation.specs.Does.{Setting, Stands, CodeJudges, CodeValues, Finishes, IsJudged, IsValued, Judges, IsSpent, runs, with_steps}
use Rattle.annot_simulation.proofs.Exact.{value_of}
use Rattle.annot_simulation.proofs.Grows.{longer, pred_grows, term_grows}
use Rattle.annot_simulation.proofs.Held.{number_in}
use Rattle.annot_simulation.proofs.Parts.{truths, FlagIs, settled_runs}
use Rattle.annot_simulation.proofs.Quiet.{IsNoPointer}
use Rattle.annot_simulation.proofs.Steps.{same_all, same_less, same_trans, same_set, get-set_same, after_to, stopped, HasNumber, set_runs, if_true, if_false}
use Rattle.annot_simulation.proofs.Terms.{from_value}
use Rattle.annot_simulation.proofs.Theorem.{Ready, pred_does, term_does}
use Rattle.annot_simulation.proofs.Told.{CodesTo, Told}

truths_there : (u : Option Bool) → is_some (truths u) ≡ is_some u
truths_there None = refl
truths_there (Some b) = refl

-- ---- the flag and the truth in registers

module _ (w : Setting) (rs : List MonType) where
  -- a register that is the flag
  by_register : (u : Option Bool) (n : ℕ) (a : MonStatements) (f : ℕ) (e : MonExpression) (js : List MonType) (mid : List Value) → length rs ≤ length js → length js < length w.regs → Same (length rs) w.regs mid
      → runs w a w.regs ≡ Done (Next mid) (record w.target { steps = n }) [] → ((later : List Value) → Same (length js) mid later → slice_get later f ≡ Some (Integer (truth (is_some u))))
      → ((later : List Value) → Same (length js) mid later → (b : Bool) → u ≡ Some b → HasNumber w e later (truth b))
      → Judges w rs (judged_by a f e js) (said u n)
  by_register u n a f e js mid le room same is flag_is value_is = by u flag_is value_is
    where
      on : MonStatements
      on = set (length js) e

      off : MonStatements
      off = set (length js) (Constant I32 (pos 0))

      last : MonStatements
      last = one (If (Register f) on off)

      end : Bool → List Value
      end x = slice_set mid (length js) (Integer (truth x))

      end_same : (x : Bool) → Same (length js) mid (end x)
      end_same x = same_set (length js) (length js) mid (Integer (truth x)) (omega arith)

      at : (x : Bool) → slice_get (end x) (length js) ≡ Some (Integer (truth x))
      at x = get-set_same mid (length js) (Integer (truth x)) (omega (arith, room, same.long))

      ends : (x : Bool) (P : List Value → Type 0) → runs (with_steps n w) last mid ≡ Done (Next (end x)) (record w.target { steps = n }) [] → P (end x) → Finishes w (before a last) (length rs) n P
      ends x P leads holds = record {
        after = end x;
        same = same_trans (length rs) (length js) w.regs mid (end x) le same (end_same x);
        is = after_to w n a last w.regs mid is ∙ leads;
        holds = holds;
      }

      by : (v : Option Bool) → ((later : List Value) → Same (length js) mid later → slice_get later f ≡ Some (Integer (truth (is_some v))))
          → ((later : List Value) → Same (length js) mid later → (b : Bool) → v ≡ Some b → HasNumber w e later (truth b)) → Judges w rs (judged_by a f e js) (said v n)
      by None flag value =
          ends false (IsJudged f (length js) None) (if_false (with_steps n w) (Register f) on off mid (flag mid (same_all (length js) mid)) ∙ set_runs (with_steps n w) (length js) (Constant I32 (pos 0)) mid (pos 0) refl)
          (record { flag_is = flag (end false) (end_same false); truth_is = at false })
      by (Some b) flag value =
          ends b (IsJudged f (length js) (Some b)) (if_true (with_steps n w) (Register f) on off mid (flag mid (same_all (length js) mid)) ∙ set_runs (with_steps n w) (length js) e mid (truth b) (value mid (same_all (length js) mid) b refl))
          (record { flag_is = flag (end b) (end_same b); truth_is = at b })

  module _ (c : Code) (u : Option Bool) (n : ℕ) (le : length rs ≤ length c.used) (h : CodesTo w n c (truths u) rs w.regs) where
    value_holds : (later : List Value) → Same (length c.used) h.end later → (b : Bool) → u ≡ Some b → HasNumber w c.value later (truth b)
    value_holds later s b q = (h.holds later s).value_is (truth b) (ap truths q)

    long_one : length (c.used ++ I32 ∷ []) ≡ suc (length c.used)
    long_one = omega (arith, length-append c.used (I32 ∷ []))

    -- the flag in a register of its own
    anew : (e : MonExpression) → HasNumber w e h.end (truth (is_some u)) → length (judged_anew e c).used ≤ length w.regs → Judges w rs (judged_anew e c) (said u n)
    anew e has room =
        by_register u n (before c.stmts (set (length c.used) e)) (length c.used) c.value (c.used ++ I32 ∷ []) mid (omega (arith, le, long_one)) (omega (arith, room, longer_two))
        (same_trans (length rs) (length c.used) w.regs h.end mid le h.same mid_same)
        (after_to w n c.stmts (set (length c.used) e) w.regs h.end h.is ∙ set_runs (with_steps n w) (length c.used) e h.end (truth (is_some u)) has)
        (λ later s. s.below (length c.used) (omega (arith, long_one)) ∙ get-set_same h.end (length c.used) (Integer (truth (is_some u))) (omega (arith, room, long_one, longer_two, h.same.long)))
        (λ later s. value_holds later (same_trans (length c.used) (length c.used) h.end mid later (omega arith) mid_same (same_less (length c.used) (length (c.used ++ I32 ∷ [])) mid later (omega (arith, long_one)) s)))
      where
        mid : List Value
        mid = slice_set h.end (length c.used) (Integer (truth (is_some u)))

        mid_same : Same (length c.used) h.end mid
        mid_same = same_set (length c.used) (length c.used) h.end (Integer (truth (is_some u))) (omega arith)

        longer_two : length ((c.used ++ I32 ∷ []) ++ I32 ∷ []) ≡ suc (length (c.used ++ I32 ∷ []))
        longer_two = omega (arith, length-append (c.used ++ I32 ∷ []) (I32 ∷ []))

    flag_number : (e : MonExpression) (later : List Value) → HasNumber w e later (truth (is_some (truths u))) → HasNumber w e later (truth (is_some u))
    flag_number e later has = has ∙ ap (λ b. Some (Integer (truth b))) (truths_there u)

    by_flag : (f : Option MonExpression) → ((later : List Value) → Same (length c.used) h.end later → FlagIs w f (is_some (truths u)) later) → length (judged_with f c).used ≤ length w.regs → Judges w rs (judged_with f c) (said u n)
    by_flag None flag room = anew (Constant I32 (pos 1)) (ap (λ b. Some (Integer (truth b))) (sym (sym (truths_there u) ∙ flag h.end (same_all (length c.used) h.end)))) room
    by_flag (Some (Register f)) flag room =
        by_register u n c.stmts f c.value c.used h.end le (omega (arith, room, long_one)) h.same h.is (λ later s. flag_number (Register f) later (flag later s)) value_holds
    by_flag (Some (Global g)) flag room = anew (Global g) (flag_number (Global g) h.end (flag h.end (same_all (length c.used) h.end))) room
    by_flag (Some (Constant t z)) flag room = anew (Constant t z) (flag_number (Constant t z) h.end (flag h.end (same_all (length c.used) h.end))) room
    by_flag (Some (Binary op t a b)) flag room = anew (Binary op t a b) (flag_number (Binary op t a b) h.end (flag h.end (same_all (length c.used) h.end))) room
    by_flag (Some (Minus t a)) flag room = anew (Minus t a) (flag_number (Minus t a) h.end (flag h.end (same_all (length c.used) h.end))) room
    by_flag (Some (Flip t a)) flag room = anew (Flip t a) (flag_number (Flip t a) h.end (flag h.end (same_all (length c.used) h.end))) room
    by_flag (Some (Cast t a)) flag room = anew (Cast t a) (flag_number (Cast t a) h.end (flag h.end (same_all (length c.used) h.end))) room
    by_flag (Some (Load t a)) flag room = anew (Load t a) (flag_number (Load t a) h.end (flag h.end (same_all (length c.used) h.end))) room

  spent_judged : (f : Option MonExpression) (c : Code) → runs w c.stmts w.regs ≡ Stops Spent 0 [] → IsSpent w (judged_with f c).stmts
  spent_judged None c h = stopped w (before c.stmts (set (length c.used) (Constant I32 (pos 1)))) _ w.regs Spent 0 (stopped w c.stmts _ w.regs Spent 0 h)
  spent_judged (Some (Register f)) c h = stopped w c.stmts _ w.regs Spent 0 h
  spent_judged (Some (Global g)) c h = stopped w (before c.stmts (set (length c.used) (Global g))) _ w.regs Spent 0 (stopped w c.stmts _ w.regs Spent 0 h)
  spent_judged (Some (Constant t z)) c h = stopped w (before c.stmts (set (length c.used) (Constant t z))) _ w.regs Spent 0 (stopped w c.stmts _ w.regs Spent 0 h)
  spent_judged (Some (Binary op t a b)) c h = stopped w (before c.stmts (set (length c.used) (Binary op t a b))) _ w.regs Spent 0 (stopped w c.stmts _ w.regs Spent 0 h)
  spent_judged (Some (Minus t a)) c h = stopped w (before c.stmts (set (length c.used) (Minus t a))) _ w.regs Spent 0 (stopped w c.stmts _ w.regs Spent 0 h)
  spent_judged (Some (Flip t a)) c h = stopped w (before c.stmts (set (length c.used) (Flip t a))) _ w.regs Spent 0 (stopped w c.stmts _ w.regs Spent 0 h)
  spent_judged (Some (Cast t a)) c h = stopped w (before c.stmts (set (length c.used) (Cast t a))) _ w.regs Spent 0 (stopped w c.stmts _ w.regs Spent 0 h)
  spent_judged (Some (Load t a)) c h = stopped w (before c.stmts (set (length c.used) (Load t a))) _ w.regs Spent 0 (stopped w c.stmts _ w.regs Spent 0 h)

  judged_told : (c : Code) (A : Answer) → length rs ≤ length c.used → length (judged_with c.flag c).used ≤ length w.regs → Told w c A rs w.regs → Judges w rs (judged_with c.flag c) A
  judged_told c (Says b n) le room h = by_flag c (Some b) n le h c.flag (λ later s. (h.holds later s).flag_is) room
  judged_told c (SaysNothing n) le room h = by_flag c None n le h c.flag (λ later s. (h.holds later s).flag_is) room
  judged_told c OutOfSteps le room h = spent_judged c.flag c h

pub judged_with_grows : (f : Option MonExpression) (c : Code) → length c.used ≤ length (judged_with f c).used
judged_with_grows None c = omega (arith, longer c.used (I32 ∷ []), longer (c.used ++ I32 ∷ []) (I32 ∷ []))
judged_with_grows (Some (Register f)) c = longer c.used (I32 ∷ [])
judged_with_grows (Some (Global g)) c = omega (arith, longer c.used (I32 ∷ []), longer (c.used ++ I32 ∷ []) (I32 ∷ []))
judged_with_grows (Some (Constant t z)) c = omega (arith, longer c.used (I32 ∷ []), longer (c.used ++ I32 ∷ []) (I32 ∷ []))
judged_with_grows (Some (Binary op t a b)) c = omega (arith, longer c.used (I32 ∷ []), longer (c.used ++ I32 ∷ []) (I32 ∷ []))
judged_with_grows (Some (Minus t a)) c = omega (arith, longer c.used (I32 ∷ []), longer (c.used ++ I32 ∷ []) (I32 ∷ []))
judged_with_grows (Some (Flip t a)) c = omega (arith, longer c.used (I32 ∷ []), longer (c.used ++ I32 ∷ []) (I32 ∷ []))
judged_with_grows (Some (Cast t a)) c = omega (arith, longer c.used (I32 ∷ []), longer (c.used ++ I32 ∷ []) (I32 ∷ []))
judged_with_grows (Some (Load t a)) c = omega (arith, longer c.used (I32 ∷ []), longer (c.used ++ I32 ∷ []) (I32 ∷ []))

pub code_judges : CodeJudges
code_judges w p rs stands ranges q f enough low room =
    let c = pred_code w.unit w.bound w.plan p w.held [] rs in
    let h = pred_does w stands ranges enough p q f [] tt rs w.regs (record { low = low; near = same_all w.low w.regs }) (omega (arith, room, judged_with_grows c.flag c)) in
    judged_told w rs c (pred p w.now w.names w.target.steps) (pred_grows w.unit w.bound w.plan p w.held [] rs) room h

-- ---- the flag and the number of a term

number_there : (o : Option TermValue) → IsNoPointer o → is_some (value_of o) ≡ is_some o
number_there None no_pointer = refl
number_there (Some (Mathematical z)) no_pointer = refl
number_there (Some (Addressed x)) no_pointer = absurd (no_pointer x refl)

number_of : (o : Option TermValue) → IsNoPointer o → (H : ℤ → Type 0) → ((z : ℤ) → value_of o ≡ Some z → H z) → (v : TermValue) → o ≡ Some v → (z : ℤ) × (v ≡ Mathematical z) × H z
number_of o no_pointer H has (Mathematical z) e = (z, refl, has z (ap value_of e))
number_of o no_pointer H has (Addressed x) e = absurd (no_pointer x e)

pub code_values : CodeValues
code_values w t rs stands ranges q f enough low room =
    let c = term_code w.unit w.bound w.plan t w.held [] rs in
    let two = length-append c.used (I32 ∷ type_of t ∷ []) in
    let grown = term_grows w.unit w.bound w.plan t w.held [] rs in
    let h = term_does w stands ranges enough t q f [] tt rs w.regs (record { low = low; near = same_all w.low w.regs }) (omega (arith, room, two)) in
    let g = settled_runs w (type_of t) c (value_of (term t w.now w.names)) rs w.regs grown (omega (arith, room, two)) h in
    let here = g.holds g.end (same_all (length (c.used ++ I32 ∷ type_of t ∷ [])) g.end) in
    let no_pointer = number_in w stands t f in
    record {
      after = g.end;
      same = g.same;
      is = g.is;
      holds = record {
        flag_is = here.flag_is ∙ ap (λ b. Some (Integer (truth b))) (number_there (term t w.now w.names) no_pointer);
        value_is = λ v e. number_of (term t w.now w.names) no_pointer (λ z. slice_get g.end (suc (length c.used)) ≡ Some (Integer z)) (λ z k. here.value_is z k) v e;
      };
    }
