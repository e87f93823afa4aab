-- More turns and deeper calls than steps change nothing, and no step is gained.
use Rattle.std.proofs.Common.{◌≡◌, ℕ, zero, suc, ◌≤◌, ◌<◌, ℤ, pos, Bool, true, false, if◌then◌else◌, List, [], Option, Some, None, slice_get, bytes_eq, codes, refl, ap, ◌∙◌, arith}
use Rattle.std.specs.Ordering.{int_eq}
use Rattle.c_model.specs.State.{Input}
use Rattle.c_model.specs.MonitoredRuns.{Spent}
use Rattle.mon_syntax.specs.Trees.{MonStatement, Set, Store, Step, Assert, PutChar, GetChar, Exit, PrintText, PrintSigned, PrintUnsigned, PrintString, Act, Call, If, Loop, Labelled, Goto, Return, MonStatements, NoStatement, Then}
use Rattle.mon_syntax.specs.Trees.{MonFunction, MonitoredProgram}
use Rattle.mon_syntax.specs.Memory.{Memory, Reply, Gives, IsFull, Faults}
use Rattle.mon_syntax.specs.Meaning.{State, Result, Done, Stops, Flow, Next, Goes, Returns, writes, then_do, at_next, at_label, with_value, choose, step_from, got, with_read, replied, printed, Calls, Does, turns}
use Rattle.mon_syntax.specs.Meaning.{at_return, exit_of, ran, function_named, eval, eval_all, eval_number, exec, exec_all, body_runs, level, run}
use Rattle.mon_syntax.specs.Steps.{steps_after}

-- ---- results

-- two parts do the same from so many steps, and gain none
abbrev Fit : {Mem A : Type 0} → ℕ → Result (State Mem) A → Result (State Mem) A → Type 0
Fit n x y = (x ≡ y) × (steps_after x ≤ n)

steps-writes : {Mem A : Type 0} (o : List ℕ) (x : Result (State Mem) A) → steps_after (writes o x) ≡ steps_after x
steps-writes o (Done a s p) = refl
steps-writes o (Stops e n p) = refl

-- the second part of a sequence, from the same result of the first
fit_behind : {Mem A B : Type 0} (n : ℕ) (x : Result (State Mem) A) (f g : A → State Mem → Result (State Mem) B) → steps_after x ≤ n → ((a : A) (s : State Mem) → s.steps ≤ n → Fit s.steps (f a s) (g a s)) → Fit n (then_do x f) (then_do x g)
fit_behind n (Done a s o) f g h go =
    let k = go a s h in
    (ap (writes o) k.0, omega (arith, steps-writes o (f a s), k.1, h))
fit_behind n (Stops e m o) f g h go = (refl, h)

fit_then : {Mem A B : Type 0} (n : ℕ) (x y : Result (State Mem) A) (f g : A → State Mem → Result (State Mem) B) → Fit n x y → ((a : A) (s : State Mem) → s.steps ≤ n → Fit s.steps (f a s) (g a s)) → Fit n (then_do x f) (then_do y g)
fit_then n x y f g h go =
    let k = fit_behind n x f g h.1 go in
    (k.0 ∙ ap (λ z. then_do z g) h.0, k.1)

fit_value : {Mem A B : Type 0} (a : Option A) (n : ℕ) (f g : A → Result (State Mem) B) → ((x : A) → Fit n (f x) (g x)) → Fit n (with_value a n f) (with_value a n g)
fit_value None n f g h = (refl, omega arith)
fit_value (Some a) n f g h = h a

fit_read : {Mem A : Type 0} (o : Option (ℤ × Input)) (n : ℕ) (f g : ℤ → Input → Result (State Mem) A) → ((z : ℤ) (r : Input) → Fit n (f z r) (g z r))
    → Fit n (with_read o n f) (with_read o n g)
fit_read None n f g h = (refl, omega arith)
fit_read (Some (z, r)) n f g h = h z r

fit_if : {Mem A : Type 0} (n : ℕ) (b : Bool) (x x' y y' : Result (State Mem) A) → Fit n x x' → Fit n y y' → Fit n (if b then x else y) (if b then x' else y')
fit_if n true x x' y y' h h' = h
fit_if n false x x' y y' h h' = h'

fit_choose : {Mem A : Type 0} (n : ℕ) (z : ℤ) (x x' y y' : Result (State Mem) A) → Fit n x x' → Fit n y y' → Fit n (choose z x y) (choose z x' y')
fit_choose n z x x' y y' h h' = fit_if n (int_eq z (pos 0)) y y' x x' h' h

-- a step makes room for one turn or call more
fit_step : {Mem A : Type 0} (n : ℕ) (f g : ℕ → Result (State Mem) A) → ((k : ℕ) → k < n → Fit k (f k) (g k)) → Fit n (step_from n f) (step_from n g)
fit_step zero f g h = (refl, omega arith)
fit_step (suc n) f g h =
    let k = h n (omega arith) in
    (k.0, omega (arith, k.1))

-- where no step is left
fit_spent : {Mem A : Type 0} (n : ℕ) (g : ℕ → Result (State Mem) A) → n ≤ 0 → Fit n (Stops Spent 0 []) (step_from n g)
fit_spent zero g l = (refl, omega arith)
fit_spent (suc n) g l = absurd (omega (arith, l))

spent_fit : {Mem A : Type 0} (n : ℕ) (g : ℕ → Result (State Mem) A) → n ≤ 0 → Fit n (step_from n g) (Stops Spent 0 [])
spent_fit zero g l = (refl, omega arith)
spent_fit (suc n) g l = absurd (omega (arith, l))

-- over a memory, with the pointers to the starts of the globals
module _ (M : Memory) (gs : List M.Val) where
  -- what two statements do from at most k steps, and what two calls do
  abbrev FitDoes : ℕ → Does M → Does M → Type 0
  FitDoes k f g = (regs : List M.Val) (s : State M.Mem) → s.steps ≤ k → Fit s.steps (f regs s) (g regs s)

  abbrev CallsFit : ℕ → Calls M → Calls M → Type 0
  CallsFit k c d = (f : ℕ) (args : List M.Val) (s : State M.Mem) → s.steps ≤ k → Fit s.steps (c f args s) (d f args s)

  does_less : (j k : ℕ) (f g : Does M) → j ≤ k → FitDoes k f g → FitDoes j f g
  does_less j k f g le h regs s l = h regs s (omega (arith, le, l))

  fit_next : (k : ℕ) (f g : Does M) → FitDoes k f g → (a : Flow M.Val) (s : State M.Mem) → s.steps ≤ k → Fit s.steps (at_next f a s) (at_next g a s)
  fit_next k f g h (Next r) s l = h r s l
  fit_next k f g h (Goes i r) s l = (refl, omega arith)
  fit_next k f g h (Returns v) s l = (refl, omega arith)

  -- one turn: what stands before the step, the step, what stands after it, and the other turns
  abbrev turn : Does M → Does M → Does M → Does M
  turn before behind again regs s =
      then_do (before regs s) (at_next (λ r t. step_from t.steps (λ k. then_do (behind r (record t { steps = k })) (at_next again))))

  fit_turn : (k : ℕ) (f f' g g' again again' : Does M) → FitDoes k f f' → FitDoes k g g' → ((j : ℕ) → j < k → FitDoes j again again') → FitDoes k (turn f g again) (turn f' g' again')
  fit_turn k f f' g g' again again' hf hg h regs s l =
      fit_then s.steps (f regs s) (f' regs s) _ _ (hf regs s l) (λ a t lt.
      fit_next t.steps _ _ (λ r u lu.
      fit_step u.steps _ _ (λ j lj.
      fit_then j (g r (record u { steps = j })) (g' r (record u { steps = j })) _ _ (hg r (record u { steps = j }) (omega (arith, l, lt, lu, lj))) (λ b v lv.
      fit_next j again again' (h j (omega (arith, l, lt, lu, lj))) b v lv))) a t (omega arith))

  -- with no step left no turn is the same as one, which ends before its step
  fit_no_turn : (k : ℕ) (f f' g g' again : Does M) → k ≤ 0 → FitDoes k f f' → FitDoes k (turns M 0 f g) (turn f' g' again)
  fit_no_turn k f f' g g' again le hf regs s l =
      fit_then s.steps (f regs s) (f' regs s) _ _ (hf regs s l) (λ a t lt.
      fit_next t.steps _ _ (λ r u lu. fit_spent u.steps _ (omega (arith, le, l, lt, lu))) a t (omega arith))

  no_turn_fit : (k : ℕ) (f f' g g' again : Does M) → k ≤ 0 → FitDoes k f f' → FitDoes k (turn f g again) (turns M 0 f' g')
  no_turn_fit k f f' g g' again le hf regs s l =
      fit_then s.steps (f regs s) (f' regs s) _ _ (hf regs s l) (λ a t lt.
      fit_next t.steps _ _ (λ r u lu. spent_fit u.steps _ (omega (arith, le, l, lt, lu))) a t (omega arith))

  fit_turns : (m n k : ℕ) (f f' g g' : Does M) → k ≤ m → k ≤ n → FitDoes k f f' → FitDoes k g g' → FitDoes k (turns M m f g) (turns M n f' g')
  fit_turns zero zero k f f' g g' lm ln hf hg = λ regs s l.
      fit_then s.steps (f regs s) (f' regs s) _ _ (hf regs s l) (λ a t lt.
      fit_next t.steps _ _ (λ r u lu. (refl, omega arith)) a t (omega arith))
  fit_turns zero (suc n) k f f' g g' lm ln hf hg = fit_no_turn k f f' g g' (turns M n f' g') lm hf
  fit_turns (suc m) zero k f f' g g' lm ln hf hg = no_turn_fit k f f' g g' (turns M m f g) ln hf
  fit_turns (suc m) (suc n) k f f' g g' lm ln hf hg =
      fit_turn k f f' g g' (turns M m f g) (turns M n f' g') hf hg (λ j lj.
      fit_turns m n j f f' g g' (omega (arith, lm, lj)) (omega (arith, ln, lj)) (does_less j k f f' (omega (arith, lj)) hf) (does_less j k g g' (omega (arith, lj)) hg))

  -- ---- statements

  fit_label : (l : List ℕ) (a : Flow M.Val) (s : State M.Mem) → Fit s.steps (at_label l a s) (at_label l a s)
  fit_label l (Next r) s = (refl, omega arith)
  fit_label l (Goes i r) s = fit_if s.steps (bytes_eq l i) _ _ _ _ (refl, omega arith) (refl, omega arith)
  fit_label l (Returns v) s = (refl, omega arith)

  steps-replied : (x : Reply M.Mem M.Val) (s : State M.Mem) → steps_after (replied M x s) ≤ s.steps
  steps-replied (Gives v m) s = omega arith
  steps-replied (IsFull g) s = omega arith
  steps-replied Faults s = omega arith

  fit_printed : (string : List ℕ × Bool) (regs : List M.Val) (s : State M.Mem) → Fit s.steps (printed M string regs s) (printed M string regs s)
  fit_printed string regs s = fit_if s.steps string.1 _ _ _ _ (refl, omega arith) (refl, omega arith)

  mutual
    fit_exec : (a : MonStatement) (k m n : ℕ) (c d : Calls M) → k ≤ m → k ≤ n → CallsFit k c d → FitDoes k (exec M gs a c m) (exec M gs a d n)
    fit_exec (Set x e) k m n c d lm ln h regs s l = fit_value (eval M gs e regs s.mem) s.steps _ _ (λ v. (refl, omega arith))
    fit_exec (Store x t e) k m n c d lm ln h regs s l =
        fit_value (slice_get regs x) s.steps _ _ (λ p. fit_value (eval M gs e regs s.mem) s.steps _ _ (λ v. fit_value (M.store t p v s.mem) s.steps _ _ (λ i. (refl, omega arith))))
    fit_exec Step k m n c d lm ln h regs s l = fit_step s.steps _ _ (λ j lj. (refl, omega arith))
    fit_exec (Assert e1 e2 number line kind) k m n c d lm ln h regs s l =
        fit_value (eval_number M gs e1 regs s.mem) s.steps _ _ (λ i. fit_value (eval_number M gs e2 regs s.mem) s.steps _ _ (λ j.
        fit_choose s.steps i _ _ _ _ (fit_choose s.steps j _ _ _ _ (refl, omega arith) (refl, omega arith)) (refl, omega arith)))
    fit_exec (PutChar r e) k m n c d lm ln h regs s l = fit_value (eval_number M gs e regs s.mem) s.steps _ _ (λ i. (refl, omega arith))
    fit_exec (GetChar r) k m n c d lm ln h regs s l = fit_read (got s.input.bytes s.input.tail) s.steps _ _ (λ z i. (refl, omega arith))
    fit_exec (Exit e) k m n c d lm ln h regs s l = fit_value (eval_number M gs e regs s.mem) s.steps _ _ (λ i. (refl, omega arith))
    fit_exec (PrintText bytes) k m n c d lm ln h regs s l = (refl, omega arith)
    fit_exec (PrintSigned e) k m n c d lm ln h regs s l = fit_value (eval_number M gs e regs s.mem) s.steps _ _ (λ i. (refl, omega arith))
    fit_exec (PrintUnsigned e) k m n c d lm ln h regs s l = fit_value (eval_number M gs e regs s.mem) s.steps _ _ (λ i. (refl, omega arith))
    fit_exec (PrintString e) k m n c d lm ln h regs s l = fit_value (eval M gs e regs s.mem) s.steps _ _ (λ p. fit_printed (M.string p s.mem) regs s)
    fit_exec (Act r f args) k m n c d lm ln h regs s l =
        fit_value (eval_all M gs args regs s.mem) s.steps _ _
        (λ vs. fit_behind s.steps (replied M (M.act f vs s.mem) s) _ _ (steps-replied (M.act f vs s.mem) s) (λ v t lt. (refl, omega arith)))
    fit_exec (Call r f args) k m n c d lm ln h regs s l =
        fit_value (eval_all M gs args regs s.mem) s.steps _ _ (λ vs. fit_then s.steps _ _ _ _ (h f vs s l) (λ v t lt. (refl, omega arith)))
    fit_exec (If e a b) k m n c d lm ln h regs s l =
        fit_value (eval_number M gs e regs s.mem) s.steps _ _ (λ i. fit_choose s.steps i _ _ _ _ (fit_exec_all a k m n c d lm ln h regs s l) (fit_exec_all b k m n c d lm ln h regs s l))
    fit_exec (Loop a b) k m n c d lm ln h regs s l =
        fit_turns m n s.steps _ _ _ _ (omega (arith, lm, l)) (omega (arith, ln, l)) (does_less s.steps k _ _ l (fit_exec_all a k m n c d lm ln h)) (does_less s.steps k _ _ l (fit_exec_all b k m n c d lm ln h)) regs s (omega arith)
    fit_exec (Labelled a i) k m n c d lm ln h regs s l =
        fit_then s.steps _ _ _ _ (fit_exec_all a k m n c d lm ln h regs s l) (λ x t lt. fit_label i x t)
    fit_exec (Goto i) k m n c d lm ln h regs s l = (refl, omega arith)
    fit_exec (Return None) k m n c d lm ln h regs s l = (refl, omega arith)
    fit_exec (Return (Some e)) k m n c d lm ln h regs s l = fit_value (eval M gs e regs s.mem) s.steps _ _ (λ v. (refl, omega arith))

    fit_exec_all : (a : MonStatements) (k m n : ℕ) (c d : Calls M) → k ≤ m → k ≤ n → CallsFit k c d → FitDoes k (exec_all M gs a c m) (exec_all M gs a d n)
    fit_exec_all NoStatement k m n c d lm ln h regs s l = (refl, omega arith)
    fit_exec_all (Then a rest) k m n c d lm ln h regs s l =
        fit_then s.steps _ _ _ _ (fit_exec a k m n c d lm ln h regs s l) (λ x t lt.
        fit_next k (exec_all M gs rest c m) (exec_all M gs rest d n) (fit_exec_all rest k m n c d lm ln h) x t (omega (arith, l, lt)))

  -- ---- programs

  fit_return : (z : M.Val) (a : Flow M.Val) (s : State M.Mem) → Fit s.steps (at_return M z a s) (at_return M z a s)
  fit_return z (Next r) s = (refl, omega arith)
  fit_return z (Goes i r) s = (refl, omega arith)
  fit_return z (Returns None) s = (refl, omega arith)
  fit_return z (Returns (Some v)) s = (refl, omega arith)

  fit_body : (o : Option MonFunction) (k m n : ℕ) (c d : Calls M) → k ≤ m → k ≤ n → CallsFit k c d → (args : List M.Val) (s : State M.Mem) → s.steps ≤ k → Fit s.steps (body_runs M gs o c m args s) (body_runs M gs o d n args s)
  fit_body None k m n c d lm ln h args s l = (refl, omega arith)
  fit_body (Some f) k m n c d lm ln h args s l =
      fit_behind s.steps (replied M (M.enter s.mem) s) _ _ (steps-replied (M.enter s.mem) s) (λ v t lt.
      fit_then t.steps _ _ _ _ (fit_exec_all f.body k m n c d lm ln h _ t (omega (arith, l, lt))) (λ x u lu. fit_return _ x u))

  fit_level : (fs : List MonFunction) (m n k : ℕ) → k ≤ m → k ≤ n → CallsFit k (level M gs fs m) (level M gs fs n)
  fit_level fs zero zero k lm ln f args s l = (refl, omega arith)
  fit_level fs zero (suc n) k lm ln f args s l = fit_spent s.steps _ (omega (arith, lm, l))
  fit_level fs (suc m) zero k lm ln f args s l = spent_fit s.steps _ (omega (arith, ln, l))
  fit_level fs (suc m) (suc n) k lm ln f args s l =
      fit_step s.steps _ _ (λ j lj.
      fit_body (slice_get fs f) j m n (level M gs fs m) (level M gs fs n) (omega (arith, lm, l, lj)) (omega (arith, ln, l, lj)) (fit_level fs m n j (omega (arith, lm, l, lj)) (omega (arith, ln, l, lj))) args (record s { steps = j }) (omega arith))

  left-ran : (x : Result (State M.Mem) M.Val) → (ran M x).left ≡ steps_after x
  left-ran (Done v s o) = by (M.number_of v)
    where
      by : (z : Option ℤ) → (exit_of M z s.steps o).left ≡ s.steps
      by None = refl
      by (Some z) = refl
  left-ran (Stops e n o) = refl

  -- ---- what follows

  abbrev main_at : MonitoredProgram → ℕ → M.Mem → Input → ℕ → Result (State M.Mem) M.Val
  main_at p k mem input n =
      body_runs M gs (function_named (codes "main") p.functions) (level M gs p.functions k) k [] (record { mem = mem; steps = n; input = input })

  fit_main : (p : MonitoredProgram) (m k : ℕ) (mem : M.Mem) (input : Input) (n : ℕ) → n ≤ m → n ≤ k → Fit n (main_at p m mem input n) (main_at p k mem input n)
  fit_main p m k mem input n lm lk =
      fit_body (function_named (codes "main") p.functions) n m k (level M gs p.functions m) (level M gs p.functions k) lm lk (fit_level p.functions m k n lm lk) [] (record { mem = mem; steps = n; input = input }) (omega arith)

  -- what a statement does is the same with any number of turns and calls from the steps on
  pub exec_fuel : (fs : List MonFunction) (a : MonStatement) (m n : ℕ) (regs : List M.Val) (s : State M.Mem) → s.steps ≤ m → s.steps ≤ n → exec M gs a (level M gs fs m) m regs s ≡ exec M gs a (level M gs fs n) n regs s
  exec_fuel fs a m n regs s lm ln =
      (fit_exec a s.steps m n (level M gs fs m) (level M gs fs n) lm ln (fit_level fs m n s.steps lm ln) regs s (omega arith)).0

  -- no step is gained
  pub steps_fall : (fs : List MonFunction) (a : MonStatement) (n : ℕ) (regs : List M.Val) (s : State M.Mem) → s.steps ≤ n → steps_after (exec M gs a (level M gs fs n) n regs s) ≤ s.steps
  steps_fall fs a n regs s l =
      (fit_exec a s.steps n n (level M gs fs n) (level M gs fs n) l l (fit_level fs n n s.steps l l) regs s (omega arith)).1

  -- a loop is one turn and then the loop again
  pub one_turn : (fs : List MonFunction) (a b : MonStatements) (n : ℕ) (regs : List M.Val) (s : State M.Mem) → s.steps ≤ n
      → exec M gs (Loop a b) (level M gs fs n) n regs s ≡ turn (exec_all M gs a (level M gs fs n) n) (exec_all M gs b (level M gs fs n) n) (exec M gs (Loop a b) (level M gs fs n) n) regs s
  one_turn fs a b n regs s l = by n (exec_all M gs a (level M gs fs n) n) (exec_all M gs b (level M gs fs n) n) l (fits a) (fits b)
    where
      fits : (x : MonStatements) → FitDoes s.steps (exec_all M gs x (level M gs fs n) n) (exec_all M gs x (level M gs fs n) n)
      fits x = fit_exec_all x s.steps n n (level M gs fs n) (level M gs fs n) l l (fit_level fs n n s.steps l l)

      by : (i : ℕ) (f g : Does M) → s.steps ≤ i → FitDoes s.steps f f → FitDoes s.steps g g → turns M i f g regs s ≡ turn f g (turns M i f g) regs s
      by zero f g le hf hg = (fit_no_turn s.steps f f g g (turns M 0 f g) le hf regs s (omega arith)).0
      by (suc i) f g le hf hg =
          (fit_turn s.steps f f g g (turns M i f g) (turns M (suc i) f g) hf hg (λ j lj.
          fit_turns i (suc i) j f f g g (omega (arith, le, lj)) (omega (arith, le, lj)) (does_less j s.steps f f (omega (arith, lj)) hf) (does_less j s.steps g g (omega (arith, lj)) hg)) regs s (omega arith)).0

-- a run leaves no more steps than it had
pub run_spends : (M : Memory) (p : MonitoredProgram) (mem : M.Mem) (input : Input) (n : ℕ) → (run M p mem input n).left ≤ n
run_spends M p mem input n =
    let gs = M.starts p.globals in
    omega (arith, left-ran M gs (main_at M gs p n mem input n), (fit_main M gs p n n mem input n (omega arith) (omega arith)).1)

-- a run is the same with any number of turns and calls from its steps on
pub run_at : (M : Memory) (p : MonitoredProgram) (mem : M.Mem) (input : Input) (n k : ℕ) → n ≤ k → run M p mem input n
    ≡ ran M (body_runs M (M.starts p.globals) (function_named (codes "main") p.functions) (level M (M.starts p.globals) p.functions k) k []
    (record { mem = mem; steps = n; input = input }))
run_at M p mem input n k l = ap (ran M) (fit_main M (M.starts p.globals) p n k mem input n (omega arith) l).0
