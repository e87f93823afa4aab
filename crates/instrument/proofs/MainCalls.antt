-- The call of main with a contract: what the contract asks at the beginning, the body, which gives 0 at its closing brace (C99 5.1.2.2.3), what the contract
-- asks at the end, and the end of the run.
use Rattle.std.proofs.Common.{◌≡◌, ◌⊎◌, inl, inr, ℕ, ◌+◌, ◌<◌, ◌≤◌, ℤ, pos, Bool, true, List, [], ◌++◌, length, append_assoc, Option, Some, None, slice_get, slice_set, refl, sym, ap, ◌∙◌, subst, arith}
use Rattle.std.proofs.lemmas.List.{append-nil}
use Rattle.c_syntax.specs.declared.place.Place.{Place}
use Rattle.c_syntax.specs.declared.types.CInt.TheVariants.{I32}
use Rattle.c_syntax.specs.Ctypes.{int_type}
use Rattle.c_syntax.specs.Programs.{FunctionContract, Function}
use Rattle.c_model.specs.ContractChecks.{all_checked, all_hold, entry_checks, leave_checks, result_is, entry}
use Rattle.c_model.specs.Integers.{fits}
use Rattle.c_model.specs.Memory.{Value, Integer}
use Rattle.c_model.specs.Meaning.{after_main, ran, ran_to}
use Rattle.c_model.specs.MonitoredRuns.{machine_end}
use Rattle.c_model.specs.MonitoredRuns as machine
use Rattle.c_model.specs.Reports.{Extends, agrees_at, Agrees}
use Rattle.c_model.specs.State as source
use Rattle.c_model.specs.State.{State, Final, Leaves, Returns, Over, Undefined, Outcome, Normal, Stop, Evaluation, on_outcome, ◌>>=◌, ◌>>◌, done, stop, answered}
use Rattle.c_model.proofs.Agreement.{extends_trans}
use Rattle.mon_syntax.specs.declared.tree.MonType.TheVariants as mon_type
use Rattle.mon_syntax.specs.Registers.{Bindings}
use Rattle.mon_syntax.specs.Meaning.{Result, Done, Stops, Flow, Next, Goes, writes, then_do, at_next, at_label, at_return, exec_all, exit_of, with_value}
use Rattle.mon_syntax.specs.Meaning as monitored
use Rattle.mon_syntax.specs.BlockMemory.{over_blocks, integer_of}
use Rattle.mon_syntax.specs.Trees.{MonStatements, Then, Labelled}
use Rattle.mon_syntax.specs.Trees as tree
use Rattle.c_effects.specs.Expressions.{before, one, set}
use Rattle.instrument.specs.Translation.{Spot, outermost}
use Rattle.c_simulation.specs.Keeping.{StandBelow}
use Rattle.c_simulation.specs.Labels.{leave_label}
use Rattle.c_simulation.specs.SameRegisters.{Stays}
use Rattle.c_simulation.specs.Standing.{Target, Did, Setting, runs, Keeps, Beside}
use Rattle.c_simulation.specs.Following.{Passes, IsResult, Follows, GoesOn, Breaks, Continues, IsLeft, IsOver, IsUndefined, written}
use Rattle.c_simulation.proofs.Results.{writes_none, written_writes, written_then, before_is, one_is}
use Rattle.c_simulation.proofs.Evaluating.{set_runs}
use Rattle.c_simulation.proofs.Registers.{get-set_same, keeps_same, keeps_set, stays_set, stays_trans}
use Rattle.c_simulation.proofs.Following.{later_same, passes_later, passes_trans}
use Rattle.instrument.proofs.Blocks.{Meets, meets_after}
use Rattle.instrument.proofs.CallEnds.{at_body}
use Rattle.instrument.proofs.ContractCalls.{Flagged, ChecksDo, ChecksPass, ChecksStop, inside, here_inside, meets_inside, beside_behind, flagged_same, passes_fewer, beside_fewer}

-- ---- what the body comes to

-- this number, at the closing brace or by a `return`
pub data Comes (x : Outcome (Unit {0})) (i : ℤ) (to : State) : Type 0 where
  AtBrace : i ≡ pos 0 → x ≡ Normal tt to → Comes x i to
  ByReturn : x ≡ Stop (Leaves (Returns (Some (Integer i)))) to → Comes x i to

module _ (w : Setting) (r h low : ℕ) where
  pub data MainAnswers (from : State) (regs : List Value) (x : Outcome (Unit {0})) (q : Did) : Type 0 where
    MainGives : (i : ℤ) (to : State) (after : List Value) (t : Target) (o : List ℕ) → fits I32 i ≡ true → Comes x i to → Stays w.plan_from h low regs after → Keeps w.plan to.marks after
        → slice_get after r ≡ Some (Integer i) → Passes from to o → Beside w to.store to t → q ≡ Done (Next after) t o → MainAnswers from regs x q
    MainEnds : (e : Final) (z : machine.Final) (to : State) (o : List ℕ) → machine_end e ≡ Some z → x ≡ Stop (Over e) to → to.output ≡ from.output ++ o → q ≡ Stops z to.steps o → MainAnswers from regs x q
    MainUndefined : (at : Place) (to : State) (o : List ℕ) → x ≡ Stop (Over (Undefined at)) to → to.output ≡ from.output ++ o → Extends o (written q) → MainAnswers from regs x q

-- the number goes into the register of the result at the closing brace
abbrev pub brace : ℕ → MonStatements
brace r = set r (tree.Constant mon_type.I32 (pos 0))

module _ (w : Setting) (r h low : ℕ) (planned : StandBelow r w.plan) (from_there : w.plan_from ≤ r) (lt : r < h) (within : h ≤ w.plan_to) (n : ℕ) (f : Function) (is_int : f.result ≡ int_type) (from : State) (regs : List Value)
    (room : r < length regs) where
  abbrev braced : Did → Did
  braced q = then_do (then_do q (at_next (exec_all over_blocks w.globals (brace r) w.calls n))) (at_label leave_label)

  pub main_answers : (x : Outcome (Unit {0})) (q : Did) → Follows (inside w r h from) (here_inside from f.result) low regs Next from x q → MainAnswers w r h low from regs x (braced q)
  main_answers x q (GoesOn to after t o same keeps l b e g) =
      MainGives (pos 0) to taken t o refl (AtBrace refl e)
      (stays_trans w.plan_from h low low regs after taken (omega arith) same (stays_set w.plan_from h low r after (Integer (pos 0)) from_there lt)) (keeps_set r w.plan to.marks after (Integer (pos 0)) planned keeps)
      (get-set_same after r (Integer (pos 0)) (omega (arith, room, same.long))) l (record { store_is = b.store_is; frames = b.frames; steps = b.steps; input = b.input })
      (ap braced g ∙ ap (λ q. then_do (writes o q) (at_label leave_label)) (set_runs w n t r (tree.Constant mon_type.I32 (pos 0)) after (Integer (pos 0)) refl) ∙ ap (Done (Next taken) t) (append-nil (o ++ []) ∙ append-nil o))
    where
      taken : List Value
      taken = slice_set after r (Integer (pos 0))
  main_answers x q (Breaks to after t o i m keeps l b e g) = absurd cc
  main_answers x q (Continues to after t o i m keeps l b e g) = absurd cc
  main_answers x q (IsLeft None to after t o i same keeps holds l b e g) = absurd (subst (λ k. IsResult k None) is_int i)
  main_answers x q (IsLeft (Some v) to after t o i same keeps holds l b e g) =
      let is : IsResult int_type (Some v) = subst (λ k. IsResult k (Some v)) is_int i in
      MainGives is.0 to after t o is.2 (ByReturn (e ∙ ap (λ v. Stop (Leaves (Returns (Some v))) to) is.1)) same keeps (holds ∙ ap Some is.1) l
      (beside_behind w r h low planned from_there lt within f from regs to o t l b) (ap braced g ∙ ap (Done (Next after) t) (append-nil (o ++ []) ∙ append-nil o))
  main_answers x q (IsOver e z to o d c l g) = MainEnds e z to o d c l (ap braced g)
  main_answers x q (IsUndefined at to o c l ext) =
      let mid = then_do q (at_next (exec_all over_blocks w.globals (brace r) w.calls n)) in
      MainUndefined at to o c l (extends_trans o (written q) (written (braced q)) ext
      (extends_trans (written q) (written mid) (written (braced q)) (written_then q (at_next (exec_all over_blocks w.globals (brace r) w.calls n))) (written_then mid (at_label leave_label))))

-- ---- the end of the run

output_of_exit : (z : Option ℤ) (n : ℕ) (o : List ℕ) → (exit_of over_blocks z n o).output ≡ o
output_of_exit None n o = refl
output_of_exit (Some z) n o = refl

pub ran_output : (q : Result Target Value) → (monitored.ran over_blocks q).output ≡ written q
ran_output (Done v s o) = output_of_exit (integer_of v) s.steps o
ran_output (Stops e n o) = refl

-- both sides exit with the number
exits : (i : ℤ) (to : State) (t : Target) (o : List ℕ) → to.output ≡ o → t.steps ≡ to.steps → Agrees (ran_to (source.Exits i) to) (monitored.ran over_blocks (Done (Integer i) t o))
exits i to t o e steps = (λ j. record { final = machine.Exits i; output = sym e j; left = steps j })

-- or stop
stops : (e : Final) (z : machine.Final) (to : State) (o : List ℕ) → machine_end e ≡ Some z → to.output ≡ o → Agrees (ran_to e to) (monitored.ran over_blocks (Stops z to.steps o))
stops e z to o d x = subst (λ f. agrees_at f to.output to.steps (record { final = z; output = o; left = to.steps })) (sym d) (λ j. record { final = z; output = sym x j; left = to.steps })

module _ (s : State) (c : FunctionContract) (hs : List Bool) (x : Outcome (Unit {0})) (i : ℤ) (to : State) where
  abbrev asked : Outcome (List Bool)
  asked = all_checked c.behaviors (result_is (Integer i)) (leave_checks c) hs to

  after_comes : Comes x i to → (held : List Bool) (k : ℕ) → asked ≡ Normal held (record to { steps = k }) → ran (answered s (after_main (Some c) hs x)) ≡ ran_to (source.Exits i) (record to { steps = k })
  after_comes (AtBrace zero e) held k y =
      ap (λ x. ran (answered s (after_main (Some c) hs x))) e
      ∙ ap (λ j. ran (answered s (on_outcome (all_checked c.behaviors (result_is (Integer j)) (leave_checks c) hs to) (λ _. done)))) (sym zero)
      ∙ ap (λ q. ran (answered s (on_outcome q (λ _. done)))) y
      ∙ ap (λ j. ran_to (source.Exits j) (record to { steps = k })) (sym zero)
  after_comes (ByReturn e) held k y =
      ap (λ x. ran (answered s (after_main (Some c) hs x))) e
      ∙ ap (λ q. ran (answered s (on_outcome (on_outcome q (λ _. done)) (λ _. stop (Leaves (Returns (Some (Integer i)))))))) y

  after_stops : Comes x i to → (e : Final) (k : ℕ) → asked ≡ Stop (Over e) (record to { steps = k }) → ran (answered s (after_main (Some c) hs x)) ≡ ran_to e (record to { steps = k })
  after_stops (AtBrace zero g) e k y =
      ap (λ x. ran (answered s (after_main (Some c) hs x))) g
      ∙ ap (λ j. ran (answered s (on_outcome (all_checked c.behaviors (result_is (Integer j)) (leave_checks c) hs to) (λ _. done)))) (sym zero)
      ∙ ap (λ q. ran (answered s (on_outcome q (λ _. done)))) y
  after_stops (ByReturn g) e k y =
      ap (λ x. ran (answered s (after_main (Some c) hs x))) g
      ∙ ap (λ q. ran (answered s (on_outcome (on_outcome q (λ _. done)) (λ _. stop (Leaves (Returns (Some (Integer i)))))))) y

-- where main's call begins, with a frame; it has no parameters. What was written before is in front
module _ (w : Setting) (s from : State) (n low : ℕ) (regs : List Value) (t0 : Target) (spot : Spot) (bound : Bindings) (living : List ℕ) (m0 : Meets w (at_body w.base [] int_type) spot low bound living regs from t0)
    (o0 : List ℕ) (output : from.output ≡ o0) (r h m : ℕ) (planned : StandBelow r w.plan) (from_there : w.plan_from ≤ r) (lt : r < h) (flags : h ≤ m) (own : m ≤ w.plan_to) (there : r < low) where
  within : h ≤ w.plan_to
  within = omega (arith, flags, own)

  abbrev last : MonStatements
  last = one (tree.Return (Some (tree.Register r)))

  abbrev ends : Did → machine.Ran
  ends q = monitored.ran over_blocks (then_do (writes o0 q) (at_return over_blocks (Integer (pos 0))))

  module _ (c : FunctionContract) (leave_code : MonStatements) where
    abbrev LeaveDoes : List Bool → ℤ → State → List Value → Target → Type 0
    LeaveDoes hs i to after t = ChecksDo h m low after to t (all_checked c.behaviors (result_is (Integer i)) (leave_checks c) hs to) (runs w n t leave_code after)

    code_is : (after later : List Value) (t u : Target) → runs w n t leave_code after ≡ Done (Next later) u [] → runs w n t (before leave_code last) after ≡ runs w n u last later
    code_is after later t u g = before_is w.globals leave_code last w.calls n after t ∙ ap (λ q. then_do q (at_next (exec_all over_blocks w.globals last w.calls n))) g ∙ writes_none (runs w n u last later)

    main_leaves : (hs : List Bool) (x : Outcome (Unit {0})) (i : ℤ) (to : State) (after : List Value) (t : Target) (o : List ℕ)
        → Comes x i to → slice_get after r ≡ Some (Integer i) → Passes from to o → Beside w to.store to t → LeaveDoes hs i to after t
        → Agrees (ran (answered s (after_main (Some c) hs x))) (ends (writes o (runs w n t (before leave_code last) after)))
    main_leaves hs x i to after t o comes holds l b (ChecksPass k held later le long fl st e g) =
        let u : Target = record t { steps = k } in
        let has : slice_get later r ≡ Some (Integer i) = st.kept r there (inl lt) ∙ holds in
        let returns : runs w n u last later ≡ Done (monitored.Returns (Some (Integer i))) u [] =
        one_is w.globals (tree.Return (Some (tree.Register r))) w.calls n later u ∙ ap (λ y. with_value y u.steps (λ z. Done (monitored.Returns (Some z)) u [])) has in
        subst (λ a. Agrees a (ends (writes o (runs w n t (before leave_code last) after)))) (sym (after_comes s c hs x i to comes held k e))
        (subst (λ q. Agrees (ran_to (source.Exits i) (record to { steps = k })) (ends (writes o q))) (sym (code_is after later t u g ∙ returns))
        (exits i (record to { steps = k }) (monitored.left_frame over_blocks u) ((o0 ++ (o ++ [])) ++ []) (l.output ∙ ap (λ x. x ++ o) output ∙ sym (append-nil (o0 ++ (o ++ [])) ∙ ap (λ x. o0 ++ x) (append-nil o))) refl))
    main_leaves hs x i to after t o comes holds l b (ChecksStop e z k d y g) =
        subst (λ a. Agrees a (ends (writes o (runs w n t (before leave_code last) after)))) (sym (after_stops s c hs x i to comes e k y))
        (subst (λ q. Agrees (ran_to e (record to { steps = k })) (ends (writes o q)))
        (sym (before_is w.globals leave_code last w.calls n after t ∙ ap (λ q. then_do q (at_next (exec_all over_blocks w.globals last w.calls n))) g))
        (stops e z (record to { steps = k }) (o0 ++ (o ++ [])) d (l.output ∙ ap (λ x. x ++ o) output ∙ sym (ap (λ x. o0 ++ x) (append-nil o)))))

    -- ---- the body, whose contract is checked behind it

    module _ (body_code : MonStatements) (x : Evaluation (Unit {0})) where
      abbrev behind_entry_code : MonStatements
      behind_entry_code = Then (Labelled body_code leave_label) (before leave_code last)

      abbrev labelled_runs : List Value → Target → Did
      labelled_runs regs2 t2 = then_do (runs w n t2 body_code regs2) (at_label leave_label)

      -- from where the body begins
      main_ran : (hs : List Bool) (begins : State) (regs2 : List Value) (t2 : Target) → Passes from begins [] → h + length hs ≡ m → Flagged h hs regs2
          → ((i : ℤ) (to : State) (after : List Value) (t : Target) (o : List ℕ) → fits I32 i ≡ true → slice_get after r ≡ Some (Integer i) → Keeps w.plan to.marks after → Flagged h hs after
          → Stays w.plan_from h low regs2 after → Passes begins to o → Beside w to.store to t → LeaveDoes hs i to after t)
          → MainAnswers w r h low begins regs2 (x begins) (labelled_runs regs2 t2)
          → Agrees (ran (answered s (after_main (Some c) hs (x begins)))) (ends (runs w n t2 behind_entry_code regs2))
      main_ran hs begins regs2 t2 p long fl leave_does (MainGives i to after t o fit comes same keeps holds l b g) =
          subst (λ q. Agrees (ran (answered s (after_main (Some c) hs (x begins)))) (ends (then_do q (at_next (exec_all over_blocks w.globals (before leave_code last) w.calls n))))) (sym g)
          (main_leaves hs (x begins) i to after t o comes holds (passes_trans from begins to [] o p l) b
          (leave_does i to after t o fit holds keeps (flagged_same h hs regs2 after (λ j le below. same.kept j (omega (arith, below, long, own, m0.standing.kept.below)) (inr le)) fl) same l b))
      main_ran hs begins regs2 t2 p long fl leave_does (MainEnds e z to o d y l g) =
          subst (λ u. Agrees (ran (answered s (after_main (Some c) hs u))) (ends (runs w n t2 behind_entry_code regs2))) (sym y)
          (subst (λ q. Agrees (ran_to e to) (ends (then_do q (at_next (exec_all over_blocks w.globals (before leave_code last) w.calls n))))) (sym g)
          (stops e z to (o0 ++ o) d (l ∙ ap (λ u. u ++ o) (p.output ∙ append-nil from.output ∙ output))))
      main_ran hs begins regs2 t2 p long fl leave_does (MainUndefined at to o y l ext) =
          let whole = runs w n t2 behind_entry_code regs2 in
          let far = extends_trans o (written (labelled_runs regs2 t2)) (written whole) ext (written_then (labelled_runs regs2 t2) (at_next (exec_all over_blocks w.globals (before leave_code last) w.calls n))) in
          let front : Extends (o0 ++ o) (written (writes o0 whole)) = record { rest = far.rest; is = written_writes o0 whole ∙ ap (λ u. o0 ++ u) far.is ∙ sym (append_assoc o0 o far.rest) } in
          let end = then_do (writes o0 whole) (at_return over_blocks (Integer (pos 0))) in
          let all : Extends (o0 ++ o) (written end) = extends_trans (o0 ++ o) (written (writes o0 whole)) (written end) front (written_then (writes o0 whole) (at_return over_blocks (Integer (pos 0)))) in
          subst (λ u. Agrees (ran (answered s (after_main (Some c) hs u))) (ends whole)) (sym y)
          (record { rest = all.rest; is = ran_output end ∙ all.is ∙ ap (λ u. u ++ all.rest) (sym (l ∙ ap (λ u. u ++ o) (p.output ∙ append-nil from.output ∙ output))) })

      -- the whole, from where the call begins
      module _ (entry_code : MonStatements) where
        abbrev pub EntryDoes : Type 0
        EntryDoes = ChecksDo h m low regs from t0 (all_checked c.behaviors [] (entry_checks c) (all_hold c.behaviors) from) (runs w n t0 entry_code regs)

        abbrev pub BodyAnswers : Type 0
        BodyAnswers =
            (regs2 : List Value) (begins : State) (t2 : Target) → Meets (inside w r h begins) (here_inside begins int_type) (outermost (Some r) []) low bound living regs2 begins t2 → begins.steps ≤ from.steps → length regs2 ≡ length regs
            → MainAnswers w r h low begins regs2 (x begins) (labelled_runs regs2 t2)

        abbrev pub LeavesDo : Type 0
        LeavesDo =
            (hs : List Bool) (i : ℤ) (begins to : State) (regs2 after : List Value) (t : Target) (o : List ℕ) → h + length hs ≡ m → fits I32 i ≡ true → slice_get after r ≡ Some (Integer i)
            → Keeps w.plan to.marks after → Flagged h hs after → Stays w.plan_from h low regs2 after → Stays h m low regs regs2 → Passes from to o → Beside w to.store to t → LeaveDoes hs i to after t

        pub main_follows : EntryDoes → BodyAnswers → LeavesDo
            → Agrees (ran (answered s ((entry (Some c) >>= λ hs u. after_main (Some c) hs (x u)) from))) (ends (runs w n t0 (before entry_code behind_entry_code) regs))
        main_follows (ChecksPass k hs regs2 le long fl st e g) body leaves_do =
            subst (λ q. Agrees (ran (answered s (on_outcome q (λ hs u. after_main (Some c) hs (x u))))) (ends (runs w n t0 (before entry_code behind_entry_code) regs))) (sym e)
            (subst (λ q. Agrees (ran (answered s (after_main (Some c) hs (x begins)))) (ends q))
            (sym (before_is w.globals entry_code behind_entry_code w.calls n regs t0 ∙ ap (λ q. then_do q (at_next (exec_all over_blocks w.globals behind_entry_code w.calls n))) g ∙ writes_none (runs w n t2 behind_entry_code regs2)))
            (main_ran hs begins regs2 t2 passes long fl
            (λ i to after t o fit holds keeps flagged st2 l b. leaves_do hs i begins to regs2 after t o long fit holds keeps flagged st2 st (passes_trans from begins to [] o passes l) b)
            (body regs2 begins t2 (meets_inside w r h low planned from_there lt within (at_body w.base [] int_type) spot bound living int_type regs2 begins t2 meets) le st.long)))
          where
            begins : State
            begins = record from { steps = k }

            t2 : Target
            t2 = record t0 { steps = k }

            passes : Passes from begins []
            passes = passes_fewer from from [] k le (passes_later from from [] (later_same from m0.standing.bounded))

            same : Stays w.plan_from w.plan_to low regs regs2
            same = record { long = st.long; kept = λ j below apart. st.kept j below (by j apart) }
              where
                by : (j : ℕ) → (j < w.plan_from) ⊎ (w.plan_to ≤ j) → (j < h) ⊎ (m ≤ j)
                by j (inl before) = inl (omega (arith, before, from_there, lt))
                by j (inr behind) = inr (omega (arith, behind, own))

            keeps : Keeps w.plan from.marks regs2
            keeps =
                keeps_same r r w.plan from.marks regs regs2 (omega arith) planned (record { long = st.long; below = λ j before. st.kept j (omega (arith, before, there)) (inl (omega (arith, before, lt))) })
                m0.standing.kept.keeps

            meets : Meets w (at_body w.base [] int_type) spot low bound living regs2 begins t2
            meets = meets_after w (at_body w.base [] int_type) spot low bound living regs regs2 from begins t0 t2 [] same keeps passes (beside_fewer w from t0 k m0.beside) m0
        main_follows (ChecksStop e z k d y g) body leaves_do =
            subst (λ q. Agrees (ran (answered s (on_outcome q (λ hs u. after_main (Some c) hs (x u))))) (ends (runs w n t0 (before entry_code behind_entry_code) regs))) (sym y)
            (subst (λ q. Agrees (ran_to e (record from { steps = k })) (ends q))
            (sym (before_is w.globals entry_code behind_entry_code w.calls n regs t0 ∙ ap (λ q. then_do q (at_next (exec_all over_blocks w.globals behind_entry_code w.calls n))) g))
            (stops e z (record from { steps = k }) (o0 ++ []) d (output ∙ sym (append-nil o0))))
