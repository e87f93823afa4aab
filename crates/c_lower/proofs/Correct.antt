-- Calls of functions, and whole programs: the code does what the program means.
use Rattle.std.proofs.Common.{◌≡◌, ℕ, zero, suc, ◌+◌, ◌≤◌, ℤ, pos, List, [], ◌∷◌, ◌++◌, length, Option, Some, None, refl, sym, ap, ◌∙◌, subst, arith, append-nil, le_trans}
use Rattle.std.specs.Prelude.{slice_get, codes}
use Rattle.c_model.specs.State.{Input}
use Rattle.c_model.specs.MonitoredRuns.{Fault, Ran}
use Rattle.mon_syntax.specs.Trees.{MonFunction, MonitoredProgram}
use Rattle.mon_syntax.specs.Memory.{Memory, Reply, Gives, IsFull, Faults}
use Rattle.mon_syntax.specs.Meaning.{State, Result, Done, Stops, Next, Goes, Returns, writes, then_do, step_from, zero_result, replied, Calls, exec_all, left_frame, at_return, body_runs, level, exit_of, ran, function_named, run}
use Rattle.mon_syntax.specs.Meaning as meaning
use Rattle.c_lower.specs.declared.code.Entry.{Entry}
use Rattle.c_lower.specs.declared.code.Instr.{Instr}
use Rattle.c_lower.specs.declared.code.Instr.TheVariants as instr
use Rattle.c_lower.specs.Code.{OpenLabel, statements_code, function_code, functions_code, entries_from, entry_named}
use Rattle.c_lower.specs.Machine as stack
use Rattle.c_lower.specs.Machine.{Frame, Course, Over, puts, with_some, stepped, registers, changed, called, exited, started, begins}
use Rattle.c_lower.specs.Lowered.{KeepsNumbers, RunsAs}
use Rattle.c_lower.proofs.Courses.{ended}
use Rattle.c_lower.proofs.Placed.{HasAt, has_front, has_back, has_behind, FunctionAt, named_at, numbered_at}
use Rattle.c_lower.proofs.Registers.{zero_result_is, registers_are}
use Rattle.c_lower.proofs.Runs as machine
use Rattle.c_lower.proofs.Taken.{writes-nil, all_taken}

-- the course of a run that is over
abbrev course_of : Ran → Course
course_of r = Over r.final r.left r.output

module _ (M : Memory) (gs : List M.Val) (es : List Entry) (code : List Instr) where
  abbrev Moment : Type 0
  Moment = machine.Moment M gs es code

  abbrev Outcome : Type 0
  Outcome = machine.Outcome M gs es code

  abbrev runs : ℕ → Moment → Course
  runs k c = stack.runs M gs es code k c

  abbrev Comes : Moment → List ℕ → Moment → Type 0
  Comes c o d = machine.Comes M gs es code c o d

  abbrev Reaches : Moment → Course → Type 0
  Reaches c x = machine.Reaches M gs es code c x

  abbrev Performs : Moment → ℕ → List OpenLabel → ℕ → Outcome → Type 0
  Performs c p ls total x = machine.Performs M gs es code c p ls total x

  -- at this place, with this value on the operands
  abbrev valued : Moment → ℕ → M.Val → List M.Val → State M.Mem → Moment
  valued c p v r s = machine.valued M gs es code c p v r s

  abbrev came : Moment → ℕ → List M.Val → State M.Mem → Moment
  came c p r s = machine.came M gs es code c p r s

  abbrev state_of : Moment → State M.Mem
  state_of c = machine.state_of M gs es code c

  -- the end of a body that gives 0
  zero_pushed : (c : Moment) (p : ℕ) (r : List M.Val) (s : State M.Mem) (o : List ℕ) → slice_get code p ≡ Some (instr.Push (pos 0))
      → Comes c o (came c p r s) → Comes c o (valued c (p + 1) (M.number (pos 0)) r s)
  zero_pushed c p r s o at k =
      let d1 = came c p r s in
      let d2 = valued c (p + 1) (M.number (pos 0)) r s in
      machine.comes_quiet M gs es code c d1 d2 o k (machine.quiet_step M gs es code d1 d2 (instr.Push (pos 0)) at (λ next. refl))

  -- ---- the end of a call

  -- a body in this frame, above these frames
  abbrev inside : Moment → Frame M.Val → List (Frame M.Val) → Moment
  inside c f fs = record c { frames = f ∷ fs }

  -- what it does: it goes back to where the frame says, with its value
  abbrev BodyDoes : Moment → Frame M.Val → List (Frame M.Val) → Result (State M.Mem) M.Val → Type 0
  BodyDoes c f fs (Done v s o) =
      Comes (inside c f fs) o (valued (record c { frames = fs }) f.back v f.registers s) × (s.steps ≤ c.steps)
  BodyDoes c f fs (Stops e n o) = Reaches (inside c f fs) (Over e n o)

  goes_back : (c : Moment) (f : Frame M.Val) (fs : List (Frame M.Val)) (p : ℕ) (v : M.Val) (r : List M.Val) (s : State M.Mem) (o : List ℕ)
      → slice_get code p ≡ Some instr.Return → Comes (inside c f fs) o (valued (inside c f fs) p v r s) → s.steps ≤ c.steps
      → BodyDoes c f fs (Done v (left_frame M s) (o ++ []))
  goes_back c f fs p v r s o at k le =
      let d = inside c f fs in
      let d1 = valued d p v r s in
      let d2 = valued (record c { frames = fs }) f.back v f.registers (left_frame M s) in (
        subst (λ w. Comes d w d2) (sym (append-nil o))
            (machine.comes_quiet M gs es code d d1 d2 o k (machine.quiet_step M gs es code d1 d2 instr.Return at (λ next. refl))),
        le,
      )

  body_does : (c : Moment) (f : Frame M.Val) (fs : List (Frame M.Val)) (p total : ℕ) (x : Outcome) → HasAt code p (instr.Push (pos 0) ∷ (instr.Return ∷ []))
      → Performs (inside c f fs) p [] total x → BodyDoes c f fs (then_do x (at_return M (M.number (pos 0))))
  body_does c f fs p total (Done (Next r) s o) has k =
      goes_back c f fs (p + 1) (M.number (pos 0)) r s o has.1.0 (zero_pushed (inside c f fs) p r s o has.0 k.0) k.1
  body_does c f fs p total (Done (Goes i r) s o) has k = subst (λ w. Reaches (inside c f fs) (Over Fault s.steps w)) (sym (append-nil o)) k.0
  body_does c f fs p total (Done (Returns None) s o) has k = goes_back c f fs k.0 (M.number (pos 0)) k.1 s o k.2 k.3 k.4
  body_does c f fs p total (Done (Returns (Some v)) s o) has k = goes_back c f fs k.0 v k.1 s o k.2 k.3 k.4
  body_does c f fs p total (Stops e n o) has k = k

  -- ---- the end of `main`, which has no frame around it

  abbrev alone : Moment → Moment
  alone c = record c { frames = [] }

  exit_written : (z : Option ℤ) (k : ℕ) (o : List ℕ) → puts o (exited M z k) ≡ course_of (exit_of M z k (o ++ []))
  exit_written None k o = refl
  exit_written (Some z) k o = refl

  run_ends : (c : Moment) (p : ℕ) (v : M.Val) (r : List M.Val) (s : State M.Mem) (o : List ℕ) → slice_get code p ≡ Some instr.Return
      → Comes (alone c) o (valued (alone c) p v r s) → Reaches (alone c) (course_of (exit_of M (M.number_of v) s.steps (o ++ [])))
  run_ends c p v r s o at k =
      let d = valued (alone c) p v r s in
      let x = exited M (M.number_of v) s.steps in
      subst (Reaches (alone c)) (exit_written (M.number_of v) s.steps o)
      (machine.comes_reach M gs es code (alone c) d o x k (machine.reach_step M gs es code d instr.Return x at (λ next. refl)))

  main_does : (c : Moment) (p total : ℕ) (x : Outcome) → HasAt code p (instr.Push (pos 0) ∷ (instr.Return ∷ [])) → Performs (alone c) p [] total x
      → Reaches (alone c) (course_of (ran M (then_do x (at_return M (M.number (pos 0))))))
  main_does c p total (Done (Next r) s o) has k =
      run_ends c (p + 1) (M.number (pos 0)) r s o has.1.0 (zero_pushed (alone c) p r s o has.0 k.0)
  main_does c p total (Done (Goes i r) s o) has k = subst (λ w. Reaches (alone c) (Over Fault s.steps w)) (sym (append-nil o)) k.0
  main_does c p total (Done (Returns None) s o) has k = run_ends c k.0 (M.number (pos 0)) k.1 s o k.2 k.3
  main_does c p total (Done (Returns (Some v)) s o) has k = run_ends c k.0 v k.1 s o k.2 k.3
  main_does c p total (Stops e n o) has k = k

  -- ---- bodies

  -- the place after the statements of a body
  abbrev body_end : MonFunction → Entry → ℕ → ℕ
  body_end f e behind = e.start + length (statements_code f.body (2 + behind) [])

  end_at : (f : MonFunction) (e : Entry) (behind : ℕ) → HasAt code e.start (function_code f behind)
      → HasAt code (body_end f e behind) (instr.Push (pos 0) ∷ (instr.Return ∷ []))
  end_at f e behind has = has_back code e.start (statements_code f.body (2 + behind) []) _ has

  module _ (keeps : KeepsNumbers M) (calls : Calls M) (n : ℕ) (calls_run : machine.CallsRun M gs es code calls n) where
    -- what a body does, from its entry
    body_performs : (f : MonFunction) (e : Entry) (behind : ℕ) (c : Moment) → c.steps ≤ n → c.place ≡ e.start → HasAt code e.start (function_code f behind)
        → Performs c (body_end f e behind) [] (body_end f e behind + (2 + behind)) (exec_all M gs f.body calls n c.registers (state_of c))
    body_performs f e behind c les ep has =
        let cb = statements_code f.body (2 + behind) [] in
        let at = subst (λ p. HasAt code p cb) (sym ep) (has_front code e.start cb _ has) in
        let e1 : c.place + length cb ≡ body_end f e behind = omega (arith, ep) in
        let e2 : c.place + length cb + (2 + behind) ≡ body_end f e behind + (2 + behind) = omega (arith, ep) in
        machine.ends_at M gs es code c _ _ [] (body_end f e behind + (2 + behind)) _ e1
        (machine.statements_run M gs es code keeps calls n calls_run f.body c (2 + behind) [] _ les tt e2 at)

    -- ---- calls

    -- the beginning of a call's body: its frame goes back after the call
    abbrev entered : Moment → ℕ → ℕ → List M.Val → M.Mem → ℕ → Moment
    entered c p start regs m k =
        record { place = start; stack = c.stack; registers = regs; frames = record { back = p + 1; registers = c.registers } ∷ c.frames; mem = m; steps = k; input = c.input }

    abbrev calling : Moment → ℕ → List M.Val → Moment
    calling c p args = machine.calling M gs es code c p args

    abbrev CallDoes : Moment → ℕ → List M.Val → Result (State M.Mem) M.Val → Type 0
    CallDoes c p args x = machine.CallDoes M gs es code c p args x

    comes_back : (c : Moment) (p : ℕ) (args : List M.Val) (start : ℕ) (regs : List M.Val) (m : M.Mem) (k : ℕ) (x : Result (State M.Mem) M.Val)
        → k ≤ c.steps → machine.Quiet M gs es code (calling c p args) (entered c p start regs m k)
        → BodyDoes (entered c p start regs m k) (record { back = p + 1; registers = c.registers }) c.frames x → CallDoes c p args x
    comes_back c p args start regs m k (Done v s o) le l h =
        ((λ j. let b = h.0 j in let a = l b.0 in (a.0, a.1 ∙ b.1)), le_trans h.1 le)
    comes_back c p args start regs m k (Stops e n o) le l h =
        machine.quiet_reach M gs es code (calling c p args) (entered c p start regs m k) (Over e n o) l h

    -- what the machine does from a call on, where its step is taken and so many are left
    abbrev Enters : Moment → ℕ → List M.Val → ℕ → Entry → Reply M.Mem M.Val → Type 0
    Enters c p args k e y =
        (i : ℕ) → Reaches (calling c p args) (changed M y k (λ v m. runs i (entered c p e.start (registers (M.number (pos 0)) e.registers args) m k)))

    enter_does : (f : MonFunction) (e : Entry) (behind : ℕ) (c : Moment) (p : ℕ) (args : List M.Val) (k : ℕ) → k ≤ n → k ≤ c.steps
        → e.registers ≡ length f.parameters + length f.registers → HasAt code e.start (function_code f behind) → (y : Reply M.Mem M.Val)
        → Enters c p args k e y
        → CallDoes c p args (then_do (replied M y (record (state_of c) { steps = k }))
        (λ v t. then_do (exec_all M gs f.body calls n (meaning.registers M (f.parameters ++ f.registers) args) t) (at_return M (zero_result M f.result))))
    enter_does f e behind c p args k le les er has (Gives v m) op =
        let regs = meaning.registers M (f.parameters ++ f.registers) args in
        let d = entered c p e.start regs m k in
        let zero = M.number (pos 0) in
        let x = λ (z : M.Val). then_do (exec_all M gs f.body calls n regs (state_of d)) (at_return M z) in
        let body = body_does d (record { back = p + 1; registers = c.registers }) c.frames (body_end f e behind) (body_end f e behind + (2 + behind)) _
        (end_at f e behind has) (body_performs f e behind d le refl has) in
        let op' = subst (λ l. machine.Quiet M gs es code (calling c p args) (entered c p e.start l m k)) (registers_are M keeps f e args er) op in
        let does = subst (CallDoes c p args) (sym (writes-nil (x zero))) (comes_back c p args e.start regs m k (x zero) les op' body) in
        subst (λ z. CallDoes c p args (writes [] (x z))) (sym (zero_result_is M keeps f.result)) does
    enter_does f e behind c p args k le les er has (IsFull g) op = op 0
    enter_does f e behind c p args k le les er has Faults op = op 0

    some_does : (of_function : Option MonFunction) (oe : Option Entry) (c : Moment) (p : ℕ) (args : List M.Val) (k : ℕ) → k ≤ n → k ≤ c.steps
        → FunctionAt code of_function oe
        → ((i : ℕ) → Reaches (calling c p args) (with_some oe k (λ e. changed M (M.enter c.mem) k
        (λ v m. runs i (entered c p e.start (registers (M.number (pos 0)) e.registers args) m k)))))
        → CallDoes c p args (body_runs M gs of_function calls n args (record (state_of c) { steps = k }))
    some_does None None c p args k le les h op = op 0
    some_does None (Some e) c p args k le les h op = absurd h
    some_does (Some f) None c p args k le les h op = absurd h
    some_does (Some f) (Some e) c p args k le les h op = enter_does f e h.1 c p args k le les h.0 h.2 (M.enter c.mem) op

    -- ---- `main`

    enter_main : (f : MonFunction) (e : Entry) (behind : ℕ) (input : Input) → e.registers ≡ length f.parameters + length f.registers
        → HasAt code e.start (function_code f behind) → (y : Reply M.Mem M.Val) (mem : M.Mem)
        → (j : ℕ) × (changed M y n (λ v m. runs j (started M e m input n))
        ≡ course_of (ran M (then_do (replied M y (record { mem = mem; steps = n; input = input }))
        (λ v t. then_do (exec_all M gs f.body calls n (meaning.registers M (f.parameters ++ f.registers) []) t) (at_return M (zero_result M f.result))))))
    enter_main f e behind input er has (Gives v m) mem =
        let d : Moment = started M e m input n in
        let zero = M.number (pos 0) in
        let x = λ (regs : List M.Val) (z : M.Val). then_do (exec_all M gs f.body calls n regs (state_of d)) (at_return M z) in
        let regs = registers zero e.registers [] in
        let zeros = sym (zero_result_is M keeps f.result) in
        let r = main_does d (body_end f e behind) (body_end f e behind + (2 + behind)) _ (end_at f e behind has) (body_performs f e behind d (omega arith) refl has) in (
          r.0,
          r.1 ∙ ap (λ z. course_of (ran M z)) (sym (writes-nil (x regs zero)))
              ∙ (λ i. course_of (ran M (writes [] (x (registers_are M keeps f e [] er i) (zeros i))))),
        )
    enter_main f e behind input er has (IsFull g) mem = (0, refl)
    enter_main f e behind input er has Faults mem = (0, refl)

    main_runs : (of_main : Option MonFunction) (oe : Option Entry) (mem : M.Mem) (input : Input) → FunctionAt code of_main oe
        → (j : ℕ) × (begins M gs es oe code j mem input n ≡ course_of (ran M (body_runs M gs of_main calls n [] (record { mem = mem; steps = n; input = input }))))
    main_runs None None mem input h = (0, refl)
    main_runs None (Some e) mem input h = absurd h
    main_runs (Some f) None mem input h = absurd h
    main_runs (Some f) (Some e) mem input h = enter_main f e h.1 input h.0 h.2 (M.enter mem) mem

  -- ---- calls of functions that stand in the code

  module _ (keeps : KeepsNumbers M) (fs : List MonFunction) (placed : (f : ℕ) → FunctionAt code (slice_get fs f) (slice_get es f)) where
    -- a call, whose arguments are taken off
    called_with : (f k : ℕ) (c : Moment) (args : List M.Val) (p : ℕ) → slice_get code p ≡ Some (instr.Call f k) → length args ≡ k → (j : ℕ)
        → runs (suc j) (machine.calling M gs es code c p args) ≡ called M es f args c.stack (machine.calling M gs es code c p args) (runs j)
    called_with f k c args p at e j =
        machine.step M gs es code (machine.calling M gs es code c p args) (instr.Call f k) at j ∙ all_taken k args c.stack c.steps _ e

    -- the same, where so many steps are left
    called_from : (f k : ℕ) (c : Moment) (args : List M.Val) (p q : ℕ) → slice_get code p ≡ Some (instr.Call f k) → length args ≡ k → c.steps ≡ q → (j : ℕ)
        → runs (suc j) (machine.calling M gs es code c p args)
        ≡ stepped q (λ n. with_some (slice_get es f) n (λ e. changed M (M.enter c.mem) n (λ v m. runs j (record {
          place = e.start;
          stack = c.stack;
          registers = registers (M.number (pos 0)) e.registers args;
          frames = record { back = p + 1; registers = c.registers } ∷ c.frames;
          mem = m;
          steps = n;
          input = c.input;
        }))))
    called_from f k c args p q at e eq j =
        called_with f k c args p at e j
        ∙ ap (λ z. stepped z (λ n. with_some (slice_get es f) n (λ e. changed M (M.enter c.mem) n (λ v m. runs j (record {
          place = e.start;
          stack = c.stack;
          registers = registers (M.number (pos 0)) e.registers args;
          frames = record { back = p + 1; registers = c.registers } ∷ c.frames;
          mem = m;
          steps = n;
          input = c.input;
        }))))) eq

    call_does : (calls : Calls M) (n : ℕ) → machine.CallsRun M gs es code calls n → (f k : ℕ) (c : Moment) (args : List M.Val) (p q : ℕ)
        → slice_get code p ≡ Some (instr.Call f k) → length args ≡ k → c.steps ≡ q → q ≤ suc n
        → machine.CallDoes M gs es code c p args (step_from q (λ m. body_runs M gs (slice_get fs f) calls n args (record (state_of c) { steps = m })))
    call_does calls n run f k c args p zero at ea eq le = (1, called_from f k c args p zero at ea eq 0)
    call_does calls n run f k c args p (suc m) at ea eq le =
        some_does keeps calls n run (slice_get fs f) (slice_get es f) c p args m (omega (arith, le)) (omega (arith, eq)) (placed f)
        (λ j. (suc j, called_from f k c args p (suc m) at ea eq j))

    -- as deep as there are steps
    level_runs : (n : ℕ) → machine.CallsRun M gs es code (level M gs fs n) n
    level_runs zero f k c args p at ea le = (1, called_from f k c args p zero at ea (omega (arith, le)) 0)
    level_runs (suc n) f k c args p at ea le = call_does (level M gs fs n) n (level_runs n) f k c args p c.steps at ea refl le

-- the code of a program does what the program means, over each memory that keeps numbers
pub lowered : (M : Memory) → KeepsNumbers M → (m : MonitoredProgram)
    → RunsAs M m (entries_from 0 m.functions) (entry_named (codes "main") 0 m.functions) (functions_code m.functions)
lowered M keeps m mem input n =
    let fs = m.functions in
    let gs = M.starts m.globals in
    let code = functions_code fs in
    let es = entries_from 0 fs in
    let oe = entry_named (codes "main") 0 fs in
    let has = has_behind code [] in
    let calls_run = level_runs M gs es code keeps fs (numbered_at code fs 0 has) n in
    let r = main_runs M gs es code keeps (level M gs fs n) n calls_run (function_named (codes "main") fs) oe mem input (named_at code (codes "main") fs 0 has) in
    ended M gs es oe code mem input n r.0 (run M m mem input n) r.1
