-- The machine does with a program's code what the program means.
use Rattle.std.proofs.Common.{◌≡◌, ℕ, zero, suc, ◌+◌, ◌-◌, ◌≤◌, ℤ, pos, ◌+ℤ◌, ◌*ℤ◌, List, [], ◌∷◌, ◌++◌, length, map, Option, Some, None, Bool, true, false, refl, sym, ap, ◌∙◌, subst, arith, append-nil, length-append, le_trans}
use Rattle.std.specs.Prelude.{◌^◌, slice_get, slice_set, bytes_eq, if◌then◌else◌, unsigned_abs}
use Rattle.std.specs.Fmt.{signed_decimal}
use Rattle.std.specs.Int.{int_rem_euclid}
use Rattle.std.specs.Option.{option_or}
use Rattle.std.specs.Ordering.{int_eq}
use Rattle.c_syntax.specs.declared.annotation.Kind.{Kind}
use Rattle.c_syntax.specs.declared.types.How.TheVariants as how
use Rattle.c_model.specs.Integers.{byte_of}
use Rattle.c_model.specs.Operators.{floor_quotient}
use Rattle.c_model.specs.State.{Input}
use Rattle.c_model.specs.MonitoredRuns.{Final, Exits, Broken, Fault, Spent, Full, ReadFault}
use Rattle.mon_syntax.specs.declared.tree.MonOp.{MonOp}
use Rattle.mon_syntax.specs.declared.tree.MonType.{MonType}
use Rattle.mon_syntax.specs.Trees.{MonExpression, Register, Global, Constant, Binary, Minus, Flip, Cast, Load, MonStatement, Set, Store, Step, Assert, PutChar, GetChar, Exit}
use Rattle.mon_syntax.specs.Trees.{PrintText, PrintSigned, PrintUnsigned, PrintString, Act, Call, If, Loop, Labelled, Goto, Return}
use Rattle.mon_syntax.specs.Trees.{MonStatements, NoStatement, Then}
use Rattle.mon_syntax.specs.Arithmetic.{is_pointer, wrap, operate, minus, flipped}
use Rattle.mon_syntax.specs.Memory.{Memory, Reply, Gives, IsFull, Faults}
use Rattle.mon_syntax.specs.Meaning.{State, Result, Done, Stops, Flow, Next, Goes, Returns, writes, then_do, at_next, at_label, ◌>>=◌, with_value, choose, step_from, given_to, got, with_read, number_or_none}
use Rattle.mon_syntax.specs.Meaning.{on_numbers, eval, eval_all, eval_number, replied, printed, Calls, Does, turns, exec, exec_all}
use Rattle.c_lower.specs.declared.code.Entry.{Entry}
use Rattle.c_lower.specs.declared.code.Instr.{Instr}
use Rattle.c_lower.specs.declared.code.Instr.TheVariants as instr
use Rattle.c_lower.specs.Code.{is_short, operator_code, expression_code, arguments_code, OpenLabel, behind_label, goto_code, result_code, returned_code, choice_code, statement_code, statements_code}
use Rattle.c_lower.specs.Machine.{Machine, Course, Over, puts, with_some, on_read, on_string, stepped, on_with, at_with, changed, act, runs}
use Rattle.c_lower.specs.Lowered.{KeepsNumbers}
use Rattle.c_lower.proofs.Taken.{some_then, two_then, puts-puts, puts-nil, writes-nil, onto, all_taken}
use Rattle.c_lower.proofs.Registers.{constant_is}
use Rattle.c_lower.proofs.Placed.{HasAt, has_front, has_back, Within, within_more, within_last, Below, label_below, label_last, high_and_low, length_two, length_choice, length_loop}

module _ (M : Memory) (gs : List M.Val) (es : List Entry) (code : List Instr) where
  -- ---- how the machine comes from one moment of a run to another

  abbrev pub Moment : Type 0
  Moment = Machine M.Mem M.Val

  -- what a statement does
  abbrev pub Outcome : Type 0
  Outcome = Result (State M.Mem) (Flow M.Val)

  abbrev pub state_of : Moment → State M.Mem
  state_of c = record { mem = c.mem; steps = c.steps; input = c.input }

  -- at this place, with these registers and this state
  abbrev pub came : Moment → ℕ → List M.Val → State M.Mem → Moment
  came c p r s = record { place = p; stack = c.stack; registers = r; frames = c.frames; mem = s.mem; steps = s.steps; input = s.input }

  -- it comes from one to the other, and writes nothing
  abbrev pub Quiet : Moment → Moment → Type 0
  Quiet c d = (k : ℕ) → (j : ℕ) × (runs M gs es code j c ≡ runs M gs es code k d)

  -- it comes there, and writes this
  abbrev pub Comes : Moment → List ℕ → Moment → Type 0
  Comes c o d = (k : ℕ) → (j : ℕ) × (runs M gs es code j c ≡ puts o (runs M gs es code k d))

  -- it comes to this course
  abbrev pub Reaches : Moment → Course → Type 0
  Reaches c x = (j : ℕ) × (runs M gs es code j c ≡ x)

  abbrev pub Ends : Moment → Final → ℕ → List ℕ → Type 0
  Ends c e n o = Reaches c (Over e n o)

  pub step : (c : Moment) (i : Instr) → slice_get code c.place ≡ Some i → (k : ℕ) → runs M gs es code (suc k) c ≡ act M gs es (Some i) (runs M gs es code k) c
  step c i h k = ap (λ o. act M gs es o (runs M gs es code k) c) h

  pub quiet_step : (c d : Moment) (i : Instr) → slice_get code c.place ≡ Some i → ((next : Moment → Course) → act M gs es (Some i) next c ≡ next d) → Quiet c d
  quiet_step c d i h e k = (suc k, step c i h k ∙ e (runs M gs es code k))

  comes_step : (c d : Moment) (i : Instr) (o : List ℕ) → slice_get code c.place ≡ Some i
      → ((next : Moment → Course) → act M gs es (Some i) next c ≡ puts o (next d)) → Comes c o d
  comes_step c d i o h e k = (suc k, step c i h k ∙ e (runs M gs es code k))

  pub reach_step : (c : Moment) (i : Instr) (x : Course) → slice_get code c.place ≡ Some i → ((next : Moment → Course) → act M gs es (Some i) next c ≡ x) → Reaches c x
  reach_step c i x h f = (1, step c i h 0 ∙ f (runs M gs es code 0))

  pub quiet_on : (c d e : Moment) → Quiet c d → Quiet d e → Quiet c e
  quiet_on c d e l m k = let b = m k in let a = l b.0 in (a.0, a.1 ∙ b.1)

  pub quiet_reach : (c d : Moment) (x : Course) → Quiet c d → Reaches d x → Reaches c x
  quiet_reach c d x l m = let a = l m.0 in (a.0, a.1 ∙ m.1)

  as_comes : (c d : Moment) → Quiet c d → Comes c [] d
  as_comes c d l k = let a = l k in (a.0, a.1 ∙ sym (puts-nil (runs M gs es code k d)))

  comes_on : (c d e : Moment) (o p : List ℕ) → Comes c o d → Comes d p e → Comes c (o ++ p) e
  comes_on c d e o p l m k =
      let b = m k in
      let a = l b.0 in
      (a.0, a.1 ∙ ap (puts o) b.1 ∙ puts-puts o p (runs M gs es code k e))

  pub comes_quiet : (c d e : Moment) (o : List ℕ) → Comes c o d → Quiet d e → Comes c o e
  comes_quiet c d e o l m k = let b = m k in let a = l b.0 in (a.0, a.1 ∙ ap (puts o) b.1)

  pub comes_reach : (c d : Moment) (o : List ℕ) (x : Course) → Comes c o d → Reaches d x → Reaches c (puts o x)
  comes_reach c d o x l m = let a = l m.0 in (a.0, a.1 ∙ ap (puts o) m.1)

  to_place : (c d : Moment) (s : List M.Val) (p q : ℕ) → p ≡ q → Quiet c (at_with M d p s) → Quiet c (at_with M d q s)
  to_place c d s p q e l = subst (λ n. Quiet c (at_with M d n s)) e l

  stays : (c : Moment) (p : ℕ) → c.place ≡ p → Quiet c (at_with M c p c.stack)
  stays c p e = to_place c c c.stack c.place p e (λ k. (k, refl))

  -- ---- expressions

  -- what an expression's code does, which has so many instructions
  abbrev GivesOne : Moment → ℕ → Option M.Val → Type 0
  GivesOne c n None = Ends c Fault c.steps []
  GivesOne c n (Some v) = Quiet c (at_with M c (c.place + n) (v ∷ c.stack))

  -- the last instruction of an expression
  last_step : (c d : Moment) (n : ℕ) (i : Instr) (o : Option M.Val) → slice_get code d.place ≡ Some i
      → ((next : Moment → Course) → act M gs es (Some i) next d ≡ with_some o c.steps (λ v. next (at_with M c (c.place + n) (v ∷ c.stack)))) → Quiet c d
      → GivesOne c n o
  last_step c d n i None h e l = quiet_reach c d (Over Fault c.steps []) l (reach_step d i (Over Fault c.steps []) h e)
  last_step c d n i (Some v) h e l =
      quiet_on c d (at_with M c (c.place + n) (v ∷ c.stack)) l (quiet_step d (at_with M c (c.place + n) (v ∷ c.stack)) i h e)

  two_run : (i : Instr) (value_of : M.Val → M.Val → Option M.Val) (ca cb : List Instr) (oa ob : Option M.Val) (c : Moment)
      → ((next : Moment → Course) (p : ℕ) (x y : M.Val) (t : List M.Val)
      → act M gs es (Some i) next (at_with M c p (y ∷ x ∷ t)) ≡ with_some (value_of x y) c.steps (λ v. next (at_with M c (p + 1) (v ∷ t))))
      → HasAt code c.place (ca ++ (cb ++ i ∷ [])) → GivesOne c (length ca) oa
      → ((x : M.Val) → GivesOne (at_with M c (c.place + length ca) (x ∷ c.stack)) (length cb) ob)
      → GivesOne c (length (ca ++ (cb ++ i ∷ []))) (oa >>= λ x. ob >>= λ y. value_of x y)
  two_run i value_of ca cb None ob c op has ra rb = ra
  two_run i value_of ca cb (Some x) None c op has ra rb =
      quiet_reach c (at_with M c (c.place + length ca) (x ∷ c.stack)) (Over Fault c.steps []) ra (rb x)
  two_run i value_of ca cb (Some x) (Some y) c op has ra rb =
      let c1 = at_with M c (c.place + length ca) (x ∷ c.stack) in
      let c2 = at_with M c (c.place + length ca + length cb) (y ∷ x ∷ c.stack) in
      let at = (has_back code (c.place + length ca) cb (i ∷ []) (has_back code c.place ca (cb ++ i ∷ []) has)).0 in
      let len : c.place + length ca + length cb + 1 ≡ c.place + length (ca ++ (cb ++ i ∷ [])) = omega (arith, length_two ca cb i) in
      last_step c c2 (length (ca ++ (cb ++ i ∷ []))) i (value_of x y) at
      (λ next. op next c2.place x y c.stack ∙ ap (λ p. with_some (value_of x y) c.steps (λ v. next (at_with M c p (v ∷ c.stack)))) len)
      (quiet_on c c1 c2 ra (rb x))

  one_run : (i : Instr) (value_of : M.Val → Option M.Val) (ca : List Instr) (oa : Option M.Val) (c : Moment)
      → ((next : Moment → Course) (p : ℕ) (x : M.Val) (t : List M.Val)
      → act M gs es (Some i) next (at_with M c p (x ∷ t)) ≡ with_some (value_of x) c.steps (λ v. next (at_with M c (p + 1) (v ∷ t))))
      → HasAt code c.place (ca ++ i ∷ []) → GivesOne c (length ca) oa → GivesOne c (length (ca ++ i ∷ [])) (oa >>= value_of)
  one_run i value_of ca None c op has ra = ra
  one_run i value_of ca (Some x) c op has ra =
      let c1 = at_with M c (c.place + length ca) (x ∷ c.stack) in
      let at = (has_back code c.place ca (i ∷ []) has).0 in
      let len : c.place + length ca + 1 ≡ c.place + length (ca ++ i ∷ []) = omega (arith, length-append ca (i ∷ [])) in
      last_step c c1 (length (ca ++ i ∷ [])) i (value_of x) at
      (λ next. op next c1.place x c.stack ∙ ap (λ p. with_some (value_of x) c.steps (λ v. next (at_with M c p (v ∷ c.stack)))) len) ra

  -- an operator on the topmost number
  number_run : (i : Instr) (f : ℤ → ℤ) (ca : List Instr) (oa : Option M.Val) (c : Moment)
      → ((next : Moment → Course) (p : ℕ) (x : M.Val) (t : List M.Val)
      → act M gs es (Some i) next (at_with M c p (x ∷ t)) ≡ with_some (M.number_of x) c.steps (λ z. next (at_with M c (p + 1) (M.number (f z) ∷ t))))
      → HasAt code c.place (ca ++ i ∷ []) → GivesOne c (length ca) oa
      → GivesOne c (length (ca ++ i ∷ [])) (oa >>= λ x. M.number_of x >>= λ z. Some (M.number (f z)))
  number_run i f ca oa c op has ra =
      one_run i (λ x. M.number_of x >>= λ z. Some (M.number (f z))) ca oa c
      (λ next p x t. op next p x t ∙ some_then (M.number_of x) (λ z. Some (M.number (f z))) c.steps (λ v. next (at_with M c (p + 1) (v ∷ t)))) has ra

  -- a number of more than 64 bits
  wide_run : KeepsNumbers M → (c : Moment) (high : ℤ) (low : ℕ) (z : ℤ) → (high *ℤ pos (2 ^ 64)) +ℤ pos low ≡ z
      → HasAt code c.place (instr.Push high ∷ instr.Extend low ∷ []) → GivesOne c 2 (Some (M.number z))
  wide_run keeps c high low z e has =
      let whole = (high *ℤ pos (2 ^ 64)) +ℤ pos low in
      let c1 = at_with M c (c.place + 1) (M.number high ∷ c.stack) in
      let end : c.place + 1 + 1 ≡ c.place + 2 = omega arith in
      last_step c c1 2 (instr.Extend low) (Some (M.number z)) has.1.0 (λ next.
      ap (λ o. with_some o c.steps (λ y. next (at_with M c (c.place + 1 + 1) (M.number ((y *ℤ pos (2 ^ 64)) +ℤ pos low) ∷ c.stack)))) (keeps.numbers high)
      ∙ ap (λ y. next (at_with M c (c.place + 1 + 1) (M.number y ∷ c.stack))) e
      ∙ ap (λ p. next (at_with M c p (M.number z ∷ c.stack))) end) (quiet_step c c1 (instr.Push high) has.0 (λ next. refl))

  constant_run : KeepsNumbers M → (c : Moment) (z : ℤ) (b : Bool)
      → HasAt code c.place (if b then instr.Push z ∷ []
      else (instr.Push (floor_quotient z (2 ^ 64)) ∷ instr.Extend (unsigned_abs (int_rem_euclid z (pos (2 ^ 64)))) ∷ []))
      → GivesOne c (length (if b then instr.Push z ∷ []
      else (instr.Push (floor_quotient z (2 ^ 64)) ∷ instr.Extend (unsigned_abs (int_rem_euclid z (pos (2 ^ 64)))) ∷ []))) (Some (M.number z))
  constant_run keeps c z true has = last_step c c 1 (instr.Push z) (Some (M.number z)) has.0 (λ next. refl) (λ k. (k, refl))
  constant_run keeps c z false has =
      wide_run keeps c (floor_quotient z (2 ^ 64)) (unsigned_abs (int_rem_euclid z (pos (2 ^ 64)))) z (high_and_low z) has

  -- an operator, of which the first operand is a pointer or a number
  operator_acts : (op : MonOp) (t : MonType) (b : Bool) (c : Moment) (next : Moment → Course) (p : ℕ) (x y : M.Val) (s : List M.Val)
      → act M gs es (Some (if b then instr.Pointed op else instr.Binary op t)) next (at_with M c p (y ∷ x ∷ s))
      ≡ with_some (if b then M.pointed op x y c.mem else on_numbers M op t x y) c.steps (λ v. next (at_with M c (p + 1) (v ∷ s)))
  operator_acts op t true c next p x y s = refl
  operator_acts op t false c next p x y s =
      two_then (M.number_of x) (M.number_of y) (λ i j. number_or_none M (operate op t i j)) c.steps (λ v. next (at_with M c (p + 1) (v ∷ s)))

  expression_runs : KeepsNumbers M → (e : MonExpression) (c : Moment) → HasAt code c.place (expression_code e)
      → GivesOne c (length (expression_code e)) (eval M gs e c.registers c.mem)
  expression_runs keeps (Register r) c has =
      last_step c c 1 (instr.Get r) (slice_get c.registers r) has.0 (λ next. refl) (λ k. (k, refl))
  expression_runs keeps (Global g) c has =
      last_step c c 1 (instr.Global g) (slice_get gs g) has.0 (λ next. refl) (λ k. (k, refl))
  expression_runs keeps (Constant t z) c has =
      subst (λ v. GivesOne c (length (expression_code (Constant t z))) (Some v)) (sym (constant_is M keeps t z)) (constant_run keeps c z (is_short z) has)
  expression_runs keeps (Binary op t a b) c has =
      let c1 = λ (x : M.Val). at_with M c (c.place + length (expression_code a)) (x ∷ c.stack) in
      two_run (operator_code op t) (λ x y. if is_pointer t then M.pointed op x y c.mem else on_numbers M op t x y) (expression_code a)
      (expression_code b) (eval M gs a c.registers c.mem) (eval M gs b c.registers c.mem) c
      (operator_acts op t (is_pointer t) c) has (expression_runs keeps a c (has_front code c.place (expression_code a) _ has))
      (λ x. expression_runs keeps b (c1 x) (has_front code _ (expression_code b) _ (has_back code c.place (expression_code a) _ has)))
  expression_runs keeps (Minus t a) c has =
      number_run (instr.Minus t) (minus t) (expression_code a) (eval M gs a c.registers c.mem) c (λ next p x s. refl) has
      (expression_runs keeps a c (has_front code c.place (expression_code a) _ has))
  expression_runs keeps (Flip t a) c has =
      number_run (instr.Flip t) (flipped t) (expression_code a) (eval M gs a c.registers c.mem) c (λ next p x s. refl) has
      (expression_runs keeps a c (has_front code c.place (expression_code a) _ has))
  expression_runs keeps (Cast t a) c has =
      number_run (instr.Cast t) (wrap t) (expression_code a) (eval M gs a c.registers c.mem) c (λ next p x s. refl) has
      (expression_runs keeps a c (has_front code c.place (expression_code a) _ has))
  expression_runs keeps (Load t a) c has =
      one_run (instr.Load t) (λ x. M.load t x c.mem) (expression_code a) (eval M gs a c.registers c.mem) c (λ next p x s. refl) has
      (expression_runs keeps a c (has_front code c.place (expression_code a) _ has))

  -- what the code of arguments does, which has so many instructions
  abbrev GivesAll : Moment → ℕ → ℕ → Option (List M.Val) → Type 0
  GivesAll c n k None = Ends c Fault c.steps []
  GivesAll c n k (Some vs) = Quiet c (at_with M c (c.place + n) (onto vs c.stack)) × (length vs ≡ k)

  more_arguments : (ca cs : List Instr) (k : ℕ) (oa : Option M.Val) (os : Option (List M.Val)) (c : Moment) → GivesOne c (length ca) oa
      → ((v : M.Val) → GivesAll (at_with M c (c.place + length ca) (v ∷ c.stack)) (length cs) k os)
      → GivesAll c (length (ca ++ cs)) (suc k) (oa >>= λ v. os >>= λ vs. Some (v ∷ vs))
  more_arguments ca cs k None os c ra rs = ra
  more_arguments ca cs k (Some v) None c ra rs =
      quiet_reach c (at_with M c (c.place + length ca) (v ∷ c.stack)) (Over Fault c.steps []) ra (rs v)
  more_arguments ca cs k (Some v) (Some vs) c ra rs =
      let all = onto vs (v ∷ c.stack) in
      let c1 = at_with M c (c.place + length ca) (v ∷ c.stack) in
      let len : c.place + length ca + length cs ≡ c.place + length (ca ++ cs) = omega (arith, length-append ca cs) in
      (to_place c c all _ _ len (quiet_on c c1 (at_with M c (c.place + length ca + length cs) all) ra (rs v).0), ap suc (rs v).1)

  arguments_run : KeepsNumbers M → (args : List MonExpression) (c : Moment) → HasAt code c.place (arguments_code args)
      → GivesAll c (length (arguments_code args)) (length args) (eval_all M gs args c.registers c.mem)
  arguments_run keeps [] c has = let e : c.place ≡ c.place + 0 = omega arith in (stays c _ e, refl)
  arguments_run keeps (a ∷ args) c has =
      let ca = expression_code a in
      more_arguments ca (arguments_code args) (length args) (eval M gs a c.registers c.mem) (eval_all M gs args c.registers c.mem) c
      (expression_runs keeps a c (has_front code c.place ca _ has))
      (λ v. arguments_run keeps args (at_with M c (c.place + length ca) (v ∷ c.stack)) (has_back code c.place ca _ has))

  -- ---- where control goes

  -- a jump to a label leads there, if there is such a label; at total the code ends
  abbrev Lands : Moment → ℕ → List M.Val → State M.Mem → List ℕ → Option ℕ → Type 0
  Lands c total r s o None = Ends c Fault s.steps o
  Lands c total r s o (Some a) = Comes c o (came c (total - a) r s)

  abbrev pub value_or_zero : Option M.Val → M.Val
  value_or_zero None = M.number (pos 0)
  value_or_zero (Some v) = v

  -- with a value on the stack
  abbrev pub valued : Moment → ℕ → M.Val → List M.Val → State M.Mem → Moment
  valued c p v r s = record { place = p; stack = v ∷ c.stack; registers = r; frames = c.frames; mem = s.mem; steps = s.steps; input = s.input }

  -- the machine does what the statement does: it comes to the place p, or to a label's end, or to a `Return` with the value
  abbrev pub Performs : Moment → ℕ → List OpenLabel → ℕ → Outcome → Type 0
  Performs c p ls total (Done (Next r) s o) = Comes c o (came c p r s) × (s.steps ≤ c.steps)
  Performs c p ls total (Done (Goes l r) s o) = Lands c total r s o (behind_label ls l) × (s.steps ≤ c.steps)
  Performs c p ls total (Done (Returns v) s o) =
      (q : ℕ) × (r : List M.Val) × (slice_get code q ≡ Some instr.Return) × Comes c o (valued c q (value_or_zero v) r s) × (s.steps ≤ c.steps)
  Performs c p ls total (Stops e n o) = Ends c e n o

  lands_later : (c : Moment) (p1 : ℕ) (r1 : List M.Val) (s1 : State M.Mem) (total : ℕ) (r : List M.Val) (s : State M.Mem) (o p : List ℕ) (a : Option ℕ)
      → Comes c o (came c p1 r1 s1) → Lands (came c p1 r1 s1) total r s p a → Lands c total r s (o ++ p) a
  lands_later c p1 r1 s1 total r s o p None l k = comes_reach c (came c p1 r1 s1) o (Over Fault s.steps p) l k
  lands_later c p1 r1 s1 total r s o p (Some a) l k = comes_on c (came c p1 r1 s1) (came c (total - a) r s) o p l k

  -- what comes after
  after_comes : (c : Moment) (p1 : ℕ) (r1 : List M.Val) (s1 : State M.Mem) (o : List ℕ) (p : ℕ) (ls : List OpenLabel) (total : ℕ) (x : Outcome)
      → Comes c o (came c p1 r1 s1) → s1.steps ≤ c.steps → Performs (came c p1 r1 s1) p ls total x → Performs c p ls total (writes o x)
  after_comes c p1 r1 s1 o p ls total (Done (Next r) s q) l le k =
      (comes_on c (came c p1 r1 s1) (came c p r s) o q l k.0, le_trans k.1 le)
  after_comes c p1 r1 s1 o p ls total (Done (Goes i r) s q) l le k =
      (lands_later c p1 r1 s1 total r s o q (behind_label ls i) l k.0, le_trans k.1 le)
  after_comes c p1 r1 s1 o p ls total (Done (Returns v) s q) l le k =
      (k.0, k.1, k.2, comes_on c (came c p1 r1 s1) (valued c k.0 (value_or_zero v) k.1 s) o q l k.3, le_trans k.4 le)
  after_comes c p1 r1 s1 o p ls total (Stops e n q) l le k = comes_reach c (came c p1 r1 s1) o (Over e n q) l k

  -- the same where nothing is written
  after_quiet : (c : Moment) (p1 : ℕ) (r1 : List M.Val) (s1 : State M.Mem) (p : ℕ) (ls : List OpenLabel) (total : ℕ) (x : Outcome)
      → Quiet c (came c p1 r1 s1) → s1.steps ≤ c.steps → Performs (came c p1 r1 s1) p ls total x → Performs c p ls total x
  after_quiet c p1 r1 s1 p ls total x l le k =
      subst (Performs c p ls total) (writes-nil x) (after_comes c p1 r1 s1 [] p ls total x (as_comes c (came c p1 r1 s1) l) le k)

  -- one statement and then another
  seq_run : (c : Moment) (p1 p : ℕ) (ls : List OpenLabel) (total : ℕ) (x : Outcome) (go : Does M) → Performs c p1 ls total x
      → ((r : List M.Val) (s : State M.Mem) → s.steps ≤ c.steps → Performs (came c p1 r s) p ls total (go r s)) → Performs c p ls total (then_do x (at_next go))
  seq_run c p1 p ls total (Done (Next r) s o) go k h = after_comes c p1 r s o p ls total (go r s) k.0 k.1 (h r s k.1)
  seq_run c p1 p ls total (Done (Goes i r) s o) go k h =
      subst (λ q. Performs c p ls total (Done (Goes i r) s q)) (sym (append-nil o)) k
  seq_run c p1 p ls total (Done (Returns v) s o) go k h =
      subst (λ q. Performs c p ls total (Done (Returns v) s q)) (sym (append-nil o)) k
  seq_run c p1 p ls total (Stops e n o) go k h = k

  -- another place at the end
  pub ends_at : (c : Moment) (p q : ℕ) (ls : List OpenLabel) (total : ℕ) (x : Outcome) → p ≡ q → Performs c p ls total x → Performs c q ls total x
  ends_at c p q ls total x e k = subst (λ n. Performs c n ls total x) e k

  -- a jump at the end
  next_on : (c : Moment) (p1 p : ℕ) (ls : List OpenLabel) (total : ℕ) (x : Outcome)
      → ((r : List M.Val) (s : State M.Mem) → Quiet (came c p1 r s) (came c p r s)) → Performs c p1 ls total x → Performs c p ls total x
  next_on c p1 p ls total (Done (Next r) s o) j k = (comes_quiet c (came c p1 r s) (came c p r s) o k.0 (j r s), k.1)
  next_on c p1 p ls total (Done (Goes i r) s o) j k = k
  next_on c p1 p ls total (Done (Returns v) s o) j k = k
  next_on c p1 p ls total (Stops e n o) j k = k

  -- ---- labels

  label_choice : (b : Bool) (c : Moment) (p : ℕ) (i : List ℕ) (total behind : ℕ) (ls : List OpenLabel) (r : List M.Val) (s : State M.Mem) (o : List ℕ)
      → p ≡ total - behind → Lands c total r s o (option_or (if b then Some behind else None) (behind_label ls i)) → s.steps ≤ c.steps
      → Performs c p ls total (Done (if b then Next r else Goes i r) s o)
  label_choice true c p i total behind ls r s o e k le = (subst (λ z. Comes c o (came c z r s)) (sym e) k, le)
  label_choice false c p i total behind ls r s o e k le = (k, le)

  label_ends : (b : Bool) (i : List ℕ) (r : List M.Val) (s : State M.Mem) (o : List ℕ)
      → writes o (if b then Done (Next r) s [] else Done (Goes i r) s []) ≡ Done (if b then Next r else Goes i r) s o
  label_ends true i r s o = ap (λ q. Done (Next r) s q) (append-nil o)
  label_ends false i r s o = ap (λ q. Done (Goes i r) s q) (append-nil o)

  label_run : (c : Moment) (p : ℕ) (l : List ℕ) (total behind : ℕ) (ls : List OpenLabel) (x : Outcome) → p ≡ total - behind
      → Performs c p (ls ++ record { label = l; behind = behind } ∷ []) total x → Performs c p ls total (then_do x (at_label l))
  label_run c p l total behind ls (Done (Next r) s o) e k =
      subst (λ q. Performs c p ls total (Done (Next r) s q)) (sym (append-nil o)) k
  label_run c p l total behind ls (Done (Goes i r) s o) e k =
      subst (Performs c p ls total) (sym (label_ends (bytes_eq l i) i r s o))
      (label_choice (bytes_eq l i) c p i total behind ls r s o e (subst (λ z. Lands c total r s o z) (label_last ls l behind i) k.0) k.1)
  label_run c p l total behind ls (Done (Returns v) s o) e k =
      subst (λ q. Performs c p ls total (Done (Returns v) s q)) (sym (append-nil o)) k
  label_run c p l total behind ls (Stops e' n o) e k = k

  goto_run : (c : Moment) (o : Option ℕ) (total behind : ℕ) → Below o behind → c.place + length (goto_code o behind) + behind ≡ total
      → HasAt code c.place (goto_code o behind) → Lands c total c.registers (state_of c) [] o
  goto_run c None total behind h e has = reach_step c instr.Fail (Over Fault c.steps []) has.0 (λ next. refl)
  goto_run c (Some a) total behind h e has =
      let f : c.place + 1 + (behind - a) ≡ total - a = omega arith in
      as_comes c _ (to_place c c c.stack _ _ f (quiet_step c _ (instr.GoOn (behind - a)) has.0 (λ next. refl)))

  -- ---- statements that end with the value of an expression

  value_run : (c : Moment) (ca : List Instr) (p : ℕ) (ls : List OpenLabel) (total : ℕ) (o : Option M.Val) (go : M.Val → Outcome) → GivesOne c (length ca) o
      → ((v : M.Val) → Quiet c (at_with M c (c.place + length ca) (v ∷ c.stack)) → Performs c p ls total (go v))
      → Performs c p ls total (with_value o c.steps go)
  value_run c ca p ls total None go g h = g
  value_run c ca p ls total (Some v) go g h = h v g

  counted_step : (c d : Moment) (i : Instr) (p : ℕ) (ls : List OpenLabel) (total : ℕ) (o : Option ℤ) (go : ℤ → Outcome) (go_on : ℤ → (Moment → Course)
      → Course) → slice_get code d.place ≡ Some i → ((next : Moment → Course) → act M gs es (Some i) next d ≡ with_some o c.steps (λ z. go_on z next))
      → Quiet c d → ((z : ℤ) → ((k : ℕ) → Reaches c (go_on z (runs M gs es code k))) → Performs c p ls total (go z))
      → Performs c p ls total (with_value o c.steps go)
  counted_step c d i p ls total None go go_on at op q h = quiet_reach c d (Over Fault c.steps []) q (reach_step d i (Over Fault c.steps []) at op)
  counted_step c d i p ls total (Some z) go go_on at op q h =
      h z (λ k. let a = q (suc k) in (a.0, a.1 ∙ step d i at k ∙ op (runs M gs es code k)))

  -- what one instruction does with the number that an expression's code gave
  counted_run : (c : Moment) (ca : List Instr) (i : Instr) (p : ℕ) (ls : List OpenLabel) (total : ℕ) (o : Option M.Val) (go : ℤ → Outcome) (go_on : ℤ
      → (Moment → Course) → Course) → slice_get code (c.place + length ca) ≡ Some i
      → ((next : Moment → Course) (v : M.Val)
      → act M gs es (Some i) next (at_with M c (c.place + length ca) (v ∷ c.stack)) ≡ with_some (M.number_of v) c.steps (λ z. go_on z next))
      → GivesOne c (length ca) o → ((z : ℤ) → ((k : ℕ) → Reaches c (go_on z (runs M gs es code k))) → Performs c p ls total (go z))
      → Performs c p ls total (with_value (o >>= M.number_of) c.steps go)
  counted_run c ca i p ls total None go go_on at op g h = g
  counted_run c ca i p ls total (Some v) go go_on at op g h =
      counted_step c (at_with M c (c.place + length ca) (v ∷ c.stack)) i p ls total (M.number_of v) go go_on at (λ next. op next v) g h

  -- a number in decimal
  print_run : (c : Moment) (e : MonExpression) (ls : List OpenLabel) (total : ℕ) → KeepsNumbers M
      → HasAt code c.place (expression_code e ++ instr.PutNumber ∷ [])
      → Performs c (c.place + length (expression_code e ++ instr.PutNumber ∷ [])) ls total
      (with_value (eval_number M gs e c.registers c.mem) c.steps (λ z. Done (Next c.registers) (state_of c) (signed_decimal z)))
  print_run c e ls total keeps has =
      let ce = expression_code e in
      let at = (has_back code c.place ce _ has).0 in
      let len : c.place + length ce + 1 ≡ c.place + length (ce ++ instr.PutNumber ∷ []) = omega (arith, length-append ce (instr.PutNumber ∷ [])) in
      ends_at c _ _ ls total _ len (counted_run c ce instr.PutNumber (c.place + length ce + 1) ls total (eval M gs e c.registers c.mem) _
      (λ z next. puts (signed_decimal z) (next (at_with M c (c.place + length ce + 1) c.stack))) at (λ next v. refl)
      (expression_runs keeps e c (has_front code c.place ce _ has)) (λ z q. (q, omega arith)))

  -- a string at a pointer
  string_done : (c d : Moment) (p : ℕ) (ls : List OpenLabel) (total : ℕ) (string : List ℕ × Bool) → slice_get code d.place ≡ Some instr.PutString
      → ((next : Moment → Course) → act M gs es (Some instr.PutString) next d ≡ on_string string c.steps (next (at_with M c p c.stack))) → Quiet c d
      → Performs c p ls total (printed M string c.registers (state_of c))
  string_done c d p ls total string at op q = by string.1 op
    where
      by : (b : Bool) → ((next : Moment → Course) → act M gs es (Some instr.PutString) next d ≡ (if b then puts string.0 (next (at_with M c p c.stack)) else Over Fault c.steps string.0))
          → Performs c p ls total (if b then Done (Next c.registers) (state_of c) string.0 else Stops Fault c.steps string.0)
      by true f = ((λ k. let a = q (suc k) in (a.0, a.1 ∙ step d instr.PutString at k ∙ f (runs M gs es code k))), omega arith)
      by false f = quiet_reach c d (Over Fault c.steps string.0) q (reach_step d instr.PutString (Over Fault c.steps string.0) at f)

  string_run : (c : Moment) (e : MonExpression) (ls : List OpenLabel) (total : ℕ) → KeepsNumbers M
      → HasAt code c.place (expression_code e ++ instr.PutString ∷ [])
      → Performs c (c.place + length (expression_code e ++ instr.PutString ∷ [])) ls total
      (with_value (eval M gs e c.registers c.mem) c.steps (λ p. printed M (M.string p c.mem) c.registers (state_of c)))
  string_run c e ls total keeps has =
      let ce = expression_code e in
      let at = (has_back code c.place ce _ has).0 in
      let len : c.place + length ce + 1 ≡ c.place + length (ce ++ instr.PutString ∷ []) = omega (arith, length-append ce (instr.PutString ∷ [])) in
      ends_at c _ _ ls total _ len (value_run c ce (c.place + length ce + 1) ls total (eval M gs e c.registers c.mem) _
      (expression_runs keeps e c (has_front code c.place ce _ has))
      (λ p q. string_done c (at_with M c (c.place + length ce) (p ∷ c.stack)) (c.place + length ce + 1) ls total (M.string p c.mem) at (λ next. refl) q))

  -- a text
  text_run : (bytes : List ℕ) (c : Moment) → HasAt code c.place (map instr.PutByte bytes)
      → Comes c bytes (at_with M c (c.place + length (map instr.PutByte bytes)) c.stack)
  text_run [] c has = let e : c.place ≡ c.place + 0 = omega arith in as_comes c _ (stays c _ e)
  text_run (b ∷ bytes) c has =
      let rest = length (map instr.PutByte bytes) in
      let c1 = at_with M c (c.place + 1) c.stack in
      let c2 = at_with M c (c.place + 1 + rest) c.stack in
      let c3 = at_with M c (c.place + suc rest) c.stack in
      let e : c.place + 1 + rest ≡ c.place + suc rest = omega arith in
      comes_quiet c c2 c3 (b ∷ bytes)
      (comes_on c c1 c2 (b ∷ []) bytes (comes_step c c1 (instr.PutByte b) (b ∷ []) has.0 (λ next. refl)) (text_run bytes c1 has.1)) (stays c2 _ e)

  -- the value of a call into a register, or away
  result_run : (c : Moment) (r : Option ℕ) (p : ℕ) (v : M.Val) → slice_get code p ≡ Some (result_code r)
      → Quiet (at_with M c p (v ∷ c.stack)) (came c (p + 1) (given_to r v c.registers) (state_of c))
  result_run c None p v at = quiet_step (at_with M c p (v ∷ c.stack)) (came c (p + 1) c.registers (state_of c)) instr.Drop at (λ next. refl)
  result_run c (Some r) p v at =
      quiet_step (at_with M c p (v ∷ c.stack)) (came c (p + 1) (slice_set c.registers r v) (state_of c)) (instr.Put r) at (λ next. refl)

  -- the next byte of the input into a register, or away
  read_run : (c : Moment) (r : Option ℕ) (p : ℕ) (ls : List OpenLabel) (total : ℕ) (o : Option (ℤ × Input)) → got c.input.bytes c.input.tail ≡ o
      → p ≡ c.place + 1 + 1 → HasAt code c.place (instr.GetChar ∷ (result_code r ∷ []))
      → Performs c p ls total
      (with_read o c.steps (λ z input. Done (Next (given_to r (M.number z) c.registers)) (record (state_of c) { input = input }) []))
  read_run c r p ls total None e len has =
      reach_step c instr.GetChar (Over ReadFault c.steps []) has.0
      (λ next. ap (λ o. on_read o c.steps (λ z input. next (record (on_with M c (M.number z ∷ c.stack)) { input = input }))) e)
  read_run c r p ls total (Some (z, input)) e len has =
      let c1 = came c (c.place + 1) c.registers (record (state_of c) { input = input }) in
      let c2 = came c1 (c1.place + 1) (given_to r (M.number z) c1.registers) (state_of c1) in
      let q = quiet_step c (at_with M c1 c1.place (M.number z ∷ c1.stack)) instr.GetChar has.0
      (λ next. ap (λ o. on_read o c.steps (λ z input. next (record (on_with M c (M.number z ∷ c.stack)) { input = input }))) e) in
      ends_at c (c.place + 1 + 1) p ls total (Done (Next (given_to r (M.number z) c.registers)) (record (state_of c) { input = input }) []) (sym len)
      (as_comes c c2 (quiet_on c (at_with M c1 c1.place (M.number z ∷ c1.stack)) c2 q (result_run c1 r c1.place (M.number z) has.1.0)), omega arith)

  -- ---- calls

  -- a call at a place, with its arguments
  abbrev pub calling : Moment → ℕ → List M.Val → Moment
  calling c p args = at_with M c p (onto args c.stack)

  -- what it does: it comes to the next place, with its value
  abbrev pub CallDoes : Moment → ℕ → List M.Val → Result (State M.Mem) M.Val → Type 0
  CallDoes c p args (Done v t o) = Comes (calling c p args) o (valued c (p + 1) v c.registers t) × (t.steps ≤ c.steps)
  CallDoes c p args (Stops e n o) = Ends (calling c p args) e n o

  -- with at most so many steps the machine does what calls of functions do
  abbrev pub CallsRun : Calls M → ℕ → Type 0
  CallsRun calls n =
      (f k : ℕ) (c : Moment) (args : List M.Val) (p : ℕ) → slice_get code p ≡ Some (instr.Call f k) → length args ≡ k → c.steps ≤ n
      → CallDoes c p args (calls f args (state_of c))

  call_ends : (c : Moment) (r : Option ℕ) (p q : ℕ) (args : List M.Val) (ls : List OpenLabel) (total : ℕ) (x : Result (State M.Mem) M.Val)
      → p + 1 + 1 ≡ q → slice_get code (p + 1) ≡ Some (result_code r) → Quiet c (calling c p args) → CallDoes c p args x
      → Performs c q ls total (then_do x (λ v t. Done (Next (given_to r v c.registers)) t []))
  call_ends c r p q args ls total (Done v t o) e at l k =
      let c1 = calling c p args in
      let c2 = valued c (p + 1) v c.registers t in
      let c3 = came c (p + 1 + 1) (given_to r v c.registers) t in
      let there = comes_quiet c c2 c3 o (comes_on c c1 c2 [] o (as_comes c c1 l) k.0) (result_run (came c (p + 1) c.registers t) r (p + 1) v at) in
      ends_at c (p + 1 + 1) q ls total (Done (Next (given_to r v c.registers)) t (o ++ [])) e
      (subst (λ w. Comes c w c3) (sym (append-nil o)) there, k.1)
  call_ends c r p q args ls total (Stops e' n o) e at l k = quiet_reach c (calling c p args) (Over e' n o) l k

  -- a change of memory
  change_run : (c : Moment) (p : ℕ) (args : List M.Val) (i : Instr) (y : Reply M.Mem M.Val) → slice_get code p ≡ Some i
      → ((next : Moment → Course) → act M gs es (Some i) next (calling c p args)
      ≡ changed M y c.steps (λ v m. next (valued c (p + 1) v c.registers (record (state_of c) { mem = m })))) → CallDoes c p args (replied M y (state_of c))
  change_run c p args i (Gives v m) at op =
      let c1 = calling c p args in
      (as_comes c1 _ (quiet_step c1 (valued c (p + 1) v c.registers (record (state_of c) { mem = m })) i at op), omega arith)
  change_run c p args i (IsFull g) at op = reach_step (calling c p args) i (Over (Full g) c.steps []) at op
  change_run c p args i Faults at op = reach_step (calling c p args) i (Over Fault c.steps []) at op

  -- an instruction that changes the memory and goes on, where it can be done
  changed_run : (c d : Moment) (i : Instr) (ls : List OpenLabel) (total : ℕ) (o : Option M.Mem) → slice_get code d.place ≡ Some i
      → ((next : Moment → Course) → act M gs es (Some i) next d
      ≡ with_some o c.steps (λ m. next (came c (d.place + 1) c.registers (record (state_of c) { mem = m })))) → Quiet c d
      → Performs c (d.place + 1) ls total (with_value o c.steps (λ m. Done (Next c.registers) (record (state_of c) { mem = m }) []))
  changed_run c d i ls total None at op q = quiet_reach c d (Over Fault c.steps []) q (reach_step d i (Over Fault c.steps []) at op)
  changed_run c d i ls total (Some m) at op q =
      let end = came c (d.place + 1) c.registers (record (state_of c) { mem = m }) in
      (as_comes c end (quiet_on c d end q (quiet_step d end i at op)), omega arith)

  with_all : (c : Moment) (ca : List Instr) (k p : ℕ) (ls : List OpenLabel) (total : ℕ) (o : Option (List M.Val)) (go : List M.Val → Outcome)
      → GivesAll c (length ca) k o
      → ((vs : List M.Val) → length vs ≡ k → Quiet c (calling c (c.place + length ca) vs) → Performs c p ls total (go vs))
      → Performs c p ls total (with_value o c.steps go)
  with_all c ca k p ls total None go g h = g
  with_all c ca k p ls total (Some vs) go g h = h vs g.1 g.0

  -- arguments, a call of any kind, and what becomes of its value
  call_run : KeepsNumbers M → (r : Option ℕ) (args : List MonExpression) (i : Instr) (does : List M.Val → Result (State M.Mem) M.Val) (c : Moment)
      (ls : List OpenLabel) (total : ℕ) → HasAt code c.place (arguments_code args ++ (i ∷ (result_code r ∷ [])))
      → ((vs : List M.Val) → length vs ≡ length args → slice_get code (c.place + length (arguments_code args)) ≡ Some i
      → CallDoes c (c.place + length (arguments_code args)) vs (does vs))
      → Performs c (c.place + length (arguments_code args ++ (i ∷ (result_code r ∷ [])))) ls total
      (with_value (eval_all M gs args c.registers c.mem) c.steps (λ vs. then_do (does vs) (λ v t. Done (Next (given_to r v c.registers)) t [])))
  call_run keeps r args i does c ls total has run =
      let ca = arguments_code args in
      let p = c.place + length ca in
      let back = has_back code c.place ca _ has in
      let len : p + 1 + 1 ≡ c.place + length (ca ++ (i ∷ (result_code r ∷ []))) = omega (arith, length-append ca (i ∷ (result_code r ∷ []))) in
      with_all c ca (length args) _ ls total (eval_all M gs args c.registers c.mem) _ (arguments_run keeps args c (has_front code c.place ca _ has)) (λ vs e q.
      call_ends c r p _ vs ls total (does vs) len back.1.0 q (run vs e back.0))

  -- ---- assertions

  assert_ends : (c : Moment) (undefined false_ : Final) (i : Instr) (p : ℕ) (ls : List OpenLabel) (total : ℕ) (d : Moment) (b b' : Bool) → p ≡ d.place + 1
      → slice_get code d.place ≡ Some i → Quiet c d
      → ((next : Moment → Course) → act M gs es (Some i) next d
      ≡ (if b then Over undefined c.steps [] else (if b' then Over false_ c.steps [] else next (at_with M c (d.place + 1) c.stack))))
      → Performs c p ls total (if b then Stops undefined c.steps [] else (if b' then Stops false_ c.steps [] else Done (Next c.registers) (state_of c) []))
  assert_ends c undefined false_ i p ls total d true b' e at q op = quiet_reach c d (Over undefined c.steps []) q
      (reach_step d i (Over undefined c.steps []) at op)
  assert_ends c undefined false_ i p ls total d false true e at q op = quiet_reach c d (Over false_ c.steps []) q
      (reach_step d i (Over false_ c.steps []) at op)
  assert_ends c undefined false_ i p ls total d false false e at q op =
      (as_comes c _ (to_place c c c.stack _ _ (sym e) (quiet_on c d (at_with M c (d.place + 1) c.stack) q (quiet_step d _ i at op))), omega arith)

  -- how an assertion is judged
  abbrev judgement : Final → Final → Moment → ℤ → ℤ → Outcome
  judgement undefined false_ c i j =
      choose i (choose j (Done (Next c.registers) (state_of c) []) (Stops false_ c.steps [])) (Stops undefined c.steps [])

  assert_some : (c : Moment) (undefined false_ : Final) (i : Instr) (p : ℕ) (ls : List OpenLabel) (total : ℕ) (d : Moment) (ox oy : Option ℤ)
      → p ≡ d.place + 1 → slice_get code d.place ≡ Some i → Quiet c d
      → ((next : Moment → Course) → act M gs es (Some i) next d
      ≡ with_some ox c.steps (λ x. with_some oy c.steps
      (λ y. choose x (choose y (next (at_with M c (d.place + 1) c.stack)) (Over false_ c.steps [])) (Over undefined c.steps []))))
      → Performs c p ls total (with_value ox c.steps (λ x. with_value oy c.steps (λ y. judgement undefined false_ c x y)))
  assert_some c undefined false_ i p ls total d None oy e at q op = quiet_reach c d (Over Fault c.steps []) q (reach_step d i (Over Fault c.steps []) at op)
  assert_some c undefined false_ i p ls total d (Some x) None e at q op = quiet_reach c d (Over Fault c.steps []) q
      (reach_step d i (Over Fault c.steps []) at op)
  assert_some c undefined false_ i p ls total d (Some x) (Some y) e at q op =
      assert_ends c undefined false_ i p ls total d (int_eq x (pos 0)) (int_eq y (pos 0)) e at q op

  -- where the second expression has no value, the first may have no number
  both_fault : (c : Moment) (p : ℕ) (ls : List OpenLabel) (total : ℕ) (o : Option ℤ) (go : ℤ → ℤ → Outcome) → Ends c Fault c.steps []
      → Performs c p ls total (with_value o c.steps (λ i. with_value None c.steps (λ j. go i j)))
  both_fault c p ls total None go h = h
  both_fault c p ls total (Some i) go h = h

  assert_run : (c : Moment) (number line : ℕ) (kind : Kind) (ca cb : List Instr) (ls : List OpenLabel) (total : ℕ) (oa ob : Option M.Val)
      → HasAt code c.place (ca ++ (cb ++ instr.Assert number line kind ∷ [])) → GivesOne c (length ca) oa
      → ((x : M.Val) → GivesOne (at_with M c (c.place + length ca) (x ∷ c.stack)) (length cb) ob)
      → Performs c (c.place + length (ca ++ (cb ++ instr.Assert number line kind ∷ []))) ls total
      (with_value (oa >>= M.number_of) c.steps
      (λ i. with_value (ob >>= M.number_of) c.steps (λ j. judgement (Broken number line kind how.Undefined) (Broken number line kind how.False) c i j)))
  assert_run c number line kind ca cb ls total None ob has ra rb = ra
  assert_run c number line kind ca cb ls total (Some x) None has ra rb =
      both_fault c (c.place + length (ca ++ (cb ++ instr.Assert number line kind ∷ []))) ls total (M.number_of x)
      (λ i j. judgement (Broken number line kind how.Undefined) (Broken number line kind how.False) c i j)
      (quiet_reach c (at_with M c (c.place + length ca) (x ∷ c.stack)) (Over Fault c.steps []) ra (rb x))
  assert_run c number line kind ca cb ls total (Some x) (Some y) has ra rb =
      let i = instr.Assert number line kind in
      let c1 = at_with M c (c.place + length ca) (x ∷ c.stack) in
      let c2 = at_with M c (c.place + length ca + length cb) (y ∷ x ∷ c.stack) in
      let at = (has_back code (c.place + length ca) cb (i ∷ []) (has_back code c.place ca (cb ++ i ∷ []) has)).0 in
      let len : c.place + length (ca ++ (cb ++ i ∷ [])) ≡ c.place + length ca + length cb + 1 = omega (arith, length_two ca cb i) in
      assert_some c (Broken number line kind how.Undefined) (Broken number line kind how.False) i _ ls total c2 (M.number_of x) (M.number_of y) len at
      (quiet_on c c1 c2 ra (rb x)) (λ next. refl)

  -- ---- choices and loops

  if_run : (b : Bool) (c d0 d1 : Moment) (p : ℕ) (ls : List OpenLabel) (total : ℕ) (x y : Outcome)
      → ((k : ℕ) → Reaches c (if b then runs M gs es code k d0 else runs M gs es code k d1)) → (Quiet c d0 → Performs c p ls total x)
      → (Quiet c d1 → Performs c p ls total y) → Performs c p ls total (if b then x else y)
  if_run true c d0 d1 p ls total x y q hx hy = hx q
  if_run false c d0 d1 p ls total x y q hx hy = hy q

  -- with so many steps left
  abbrev stepping : Moment → ℕ → Moment
  stepping c n = came c (c.place + 1) c.registers (record (state_of c) { steps = n })

  step_run : (c : Moment) (p : ℕ) (ls : List OpenLabel) (total : ℕ) (q : ℕ) (go : ℕ → Outcome) → c.steps ≡ q → slice_get code c.place ≡ Some instr.Step
      → ((k : ℕ) → suc k ≡ c.steps → Performs (stepping c k) p ls total (go k)) → Performs c p ls total (step_from q go)
  step_run c p ls total zero go e at h = (1, step c instr.Step at 0 ∙ ap (λ n. stepped n (λ m. runs M gs es code 0 (stepping c m))) e)
  step_run c p ls total (suc k) go e at h =
      after_quiet c (c.place + 1) c.registers (record (state_of c) { steps = k }) p ls total (go k)
      (λ j. (suc j, step c instr.Step at j ∙ ap (λ n. stepped n (λ m. runs M gs es code j (stepping c m))) e)) (omega (arith, e)) (h k (sym e))

  -- a loop's turns, from before_at, where what stands before its step begins; the step is at step_at, and a jump back to it at back_at
  turns_run : (n : ℕ) (c : Moment) (step_at before_at back_at p back : ℕ) (ls : List OpenLabel) (total : ℕ) (before behind : Does M)
      → slice_get code step_at ≡ Some instr.Step → slice_get code back_at ≡ Some (instr.GoBack back) → back_at - back ≡ step_at
      → ((r : List M.Val) (s : State M.Mem) → s.steps ≤ n → Performs (came c before_at r s) back_at ls total (before r s))
      → ((r : List M.Val) (s : State M.Mem) → s.steps ≤ n → Performs (came c (step_at + 1) r s) before_at ls total (behind r s)) → (m : ℕ) → m ≤ n
      → (r : List M.Val) (s : State M.Mem) → s.steps ≤ m → Performs (came c before_at r s) p ls total (turns M m before behind r s)
  turns_run n c step_at before_at back_at p back ls total before behind is_step is_back e run_before run_behind zero le r s les =
      seq_run (came c before_at r s) back_at p ls total (before r s) (λ r t. Stops Spent 0 []) (run_before r s (omega (arith, le, les))) (λ r1 s1 le1.
      let z : s1.steps ≡ 0 = omega (arith, le1, les) in
      let b = to_place (came c back_at r1 s1) (came c back_at r1 s1) c.stack _ _ e
      (quiet_step (came c back_at r1 s1) _ (instr.GoBack back) is_back (λ next. refl)) in
      quiet_reach (came c back_at r1 s1) (came c step_at r1 s1) (Over Spent 0 []) b
      (1, step (came c step_at r1 s1) instr.Step is_step 0 ∙ ap (λ n. stepped n (λ m. runs M gs es code 0 (stepping (came c step_at r1 s1) m))) z))
  turns_run n c step_at before_at back_at p back ls total before behind is_step is_back e run_before run_behind (suc m) le r s les =
      seq_run (came c before_at r s) back_at p ls total (before r s) _ (run_before r s (omega (arith, le, les))) (λ r1 s1 le1.
      let b = to_place (came c back_at r1 s1) (came c back_at r1 s1) c.stack _ _ e
      (quiet_step (came c back_at r1 s1) _ (instr.GoBack back) is_back (λ next. refl)) in
      after_quiet (came c back_at r1 s1) step_at r1 s1 p ls total _ b (omega arith) (step_run (came c step_at r1 s1) p ls total s1.steps _ refl is_step (λ k ek.
      seq_run (came c (step_at + 1) r1 (record s1 { steps = k })) before_at p ls total _ (turns M m before behind)
      (run_behind r1 (record s1 { steps = k }) (omega (arith, ek, le1, les, le))) (λ r2 s2 le2.
      turns_run n c step_at before_at back_at p back ls total before behind is_step is_back e run_before run_behind m (omega (arith, le)) r2 s2
      (omega (arith, le2, ek, le1, les))))))

  -- ---- statements

  module _ (keeps : KeepsNumbers M) (calls : Calls M) (n : ℕ) (calls_run : CallsRun calls n) where
    -- the value of an expression, from its code before other code
    value_here : (e : MonExpression) (c : Moment) (rest : List Instr) → HasAt code c.place (expression_code e ++ rest)
        → GivesOne c (length (expression_code e)) (eval M gs e c.registers c.mem)
    value_here e c rest has = expression_runs keeps e c (has_front code c.place (expression_code e) rest has)

    set_run : (r : ℕ) (e : MonExpression) (c : Moment) (ls : List OpenLabel) (total : ℕ) → HasAt code c.place (expression_code e ++ instr.Put r ∷ [])
        → Performs c (c.place + length (expression_code e ++ instr.Put r ∷ [])) ls total
        (with_value (eval M gs e c.registers c.mem) c.steps (λ v. Done (Next (slice_set c.registers r v)) (state_of c) []))
    set_run r e c ls total has =
        let ce = expression_code e in
        let at = (has_back code c.place ce _ has).0 in
        let len : c.place + length ce + 1 ≡ c.place + length (ce ++ instr.Put r ∷ []) = omega (arith, length-append ce (instr.Put r ∷ [])) in
        ends_at c _ _ ls total _ len (value_run c ce (c.place + length ce + 1) ls total (eval M gs e c.registers c.mem) _ (value_here e c _ has) (λ v q.
        let c1 = at_with M c (c.place + length ce) (v ∷ c.stack) in (
          as_comes c _ (quiet_on c c1 (came c (c.place + length ce + 1) (slice_set c.registers r v) (state_of c)) q
              (quiet_step c1 _ (instr.Put r) at (λ next. refl))),
          omega arith,
        )))

    -- the value that is stored, whose code begins above the pointer
    stored_run : (t : MonType) (v : M.Val) (oe : Option M.Val) (ce : List Instr) (c : Moment) (p : ℕ) (ls : List OpenLabel) (total : ℕ)
        → slice_get code (c.place + 1 + length ce) ≡ Some (instr.Store t) → c.place + 1 + length ce + 1 ≡ p
        → Quiet c (at_with M c (c.place + 1) (v ∷ c.stack)) → GivesOne (at_with M c (c.place + 1) (v ∷ c.stack)) (length ce) oe
        → Performs c p ls total (with_value oe c.steps (λ w. with_value (M.store t v w c.mem) c.steps
        (λ m. Done (Next c.registers) (record (state_of c) { mem = m }) [])))
    stored_run t v None ce c p ls total at end q g = quiet_reach c (at_with M c (c.place + 1) (v ∷ c.stack)) (Over Fault c.steps []) q g
    stored_run t v (Some w) ce c p ls total at end q g =
        let c1 = at_with M c (c.place + 1) (v ∷ c.stack) in
        let c2 = at_with M c (c.place + 1 + length ce) (w ∷ v ∷ c.stack) in
        ends_at c _ p ls total _ end (changed_run c c2 (instr.Store t) ls total (M.store t v w c.mem) at (λ next. refl) (quiet_on c c1 c2 q g))

    store_run : (r : ℕ) (t : MonType) (e : MonExpression) (o : Option M.Val) (c : Moment) (ls : List OpenLabel) (total : ℕ) → slice_get c.registers r ≡ o
        → HasAt code c.place (instr.Get r ∷ (expression_code e ++ instr.Store t ∷ []))
        → Performs c (c.place + length (instr.Get r ∷ (expression_code e ++ instr.Store t ∷ []))) ls total
        (with_value o c.steps (λ p. with_value (eval M gs e c.registers c.mem) c.steps (λ v. with_value (M.store t p v c.mem) c.steps
        (λ m. Done (Next c.registers) (record (state_of c) { mem = m }) []))))
    store_run r t e None c ls total h has =
        reach_step c (instr.Get r) (Over Fault c.steps []) has.0 (λ next. ap (λ o. with_some o c.steps (λ v. next (on_with M c (v ∷ c.stack)))) h)
    store_run r t e (Some p) c ls total h has =
        let ce = expression_code e in
        let c1 = at_with M c (c.place + 1) (p ∷ c.stack) in
        let q = quiet_step c c1 (instr.Get r) has.0 (λ next. ap (λ o. with_some o c.steps (λ v. next (on_with M c (v ∷ c.stack)))) h) in
        let at = (has_back code (c.place + 1) ce _ has.1).0 in
        let len : c.place + 1 + length ce + 1 ≡ c.place + length (instr.Get r ∷ (ce ++ instr.Store t ∷ [])) = omega (arith, length-append ce (instr.Store t ∷ [])) in
        stored_run t p (eval M gs e c.registers c.mem) ce c _ ls total at len q (value_here e c1 _ has.1)

    putchar_run : (r : Option ℕ) (e : MonExpression) (c : Moment) (ls : List OpenLabel) (total : ℕ)
        → HasAt code c.place (expression_code e ++ (instr.PutChar ∷ (result_code r ∷ [])))
        → Performs c (c.place + length (expression_code e ++ (instr.PutChar ∷ (result_code r ∷ [])))) ls total
        (with_value (eval_number M gs e c.registers c.mem) c.steps
        (λ z. Done (Next (given_to r (M.number (pos (byte_of z))) c.registers)) (state_of c) (byte_of z ∷ [])))
    putchar_run r e c ls total has =
        let ce = expression_code e in
        let back = has_back code c.place ce _ has in
        let p = c.place + length ce + 1 in
        let end = instr.PutChar ∷ (result_code r ∷ []) in
        let len : p + 1 ≡ c.place + length (ce ++ end) = omega (arith, length-append ce end) in
        ends_at c _ _ ls total _ len (counted_run c ce instr.PutChar (p + 1) ls total (eval M gs e c.registers c.mem) _
        (λ z next. puts (byte_of z ∷ []) (next (at_with M c p (M.number (pos (byte_of z)) ∷ c.stack)))) back.0 (λ next v. refl) (value_here e c _ has)
        (λ z q.
        let v = M.number (pos (byte_of z)) in (
          comes_quiet c (at_with M c p (v ∷ c.stack)) (came c (p + 1) (given_to r v c.registers) (state_of c)) (byte_of z ∷ []) q
              (result_run c r p v back.1.0),
          omega arith,
        )))

    exit_run : (e : MonExpression) (c : Moment) (p : ℕ) (ls : List OpenLabel) (total : ℕ) → HasAt code c.place (expression_code e ++ instr.Exit ∷ [])
        → Performs c p ls total (with_value (eval_number M gs e c.registers c.mem) c.steps (λ z. Stops (Exits z) c.steps []))
    exit_run e c p ls total has =
        let ce = expression_code e in
        let at = (has_back code c.place ce _ has).0 in
        counted_run c ce instr.Exit p ls total (eval M gs e c.registers c.mem) _ (λ z next. Over (Exits z) c.steps []) at (λ next v. refl) (value_here e c _ has)
        (λ z q. q 0)

    return_run : (e : Option MonExpression) (c : Moment) (p : ℕ) (ls : List OpenLabel) (total : ℕ)
        → HasAt code c.place (returned_code e ++ instr.Return ∷ []) → Performs c p ls total (exec M gs (Return e) calls n c.registers (state_of c))
    return_run None c p ls total has = (
      c.place + 1,
      c.registers,
      has.1.0,
      as_comes c _
          (quiet_step c (valued c (c.place + 1) (M.number (pos 0)) c.registers (state_of c)) (instr.Push (pos 0)) has.0 (λ next. refl)),
      omega arith,
    )
    return_run (Some e) c p ls total has =
        let ce = expression_code e in
        let at = (has_back code c.place ce _ has).0 in
        value_run c ce p ls total (eval M gs e c.registers c.mem) _ (value_here e c _ has) (λ v q. (c.place + length ce, c.registers, at, as_comes c _ q, omega arith))

    mutual
      statement_runs : (a : MonStatement) (c : Moment) (behind : ℕ) (ls : List OpenLabel) (total : ℕ) → c.steps ≤ n → Within ls behind
          → c.place + length (statement_code a behind ls) + behind ≡ total → HasAt code c.place (statement_code a behind ls)
          → Performs c (c.place + length (statement_code a behind ls)) ls total (exec M gs a calls n c.registers (state_of c))
      statement_runs (Set r e) c behind ls total les w eN has = set_run r e c ls total has
      statement_runs (Store r t e) c behind ls total les w eN has = store_run r t e (slice_get c.registers r) c ls total refl has
      statement_runs Step c behind ls total les w eN has =
          step_run c (c.place + 1) ls total c.steps _ refl has.0 (λ k ek. (as_comes (stepping c k) _ (λ j. (j, refl)), omega arith))
      statement_runs (Assert d v number line kind) c behind ls total les w eN has =
          let cd = expression_code d in
          let cv = expression_code v in
          assert_run c number line kind cd cv ls total (eval M gs d c.registers c.mem) (eval M gs v c.registers c.mem) has (value_here d c _ has)
          (λ x. value_here v (at_with M c (c.place + length cd) (x ∷ c.stack)) _ (has_back code c.place cd _ has))
      statement_runs (PutChar r e) c behind ls total les w eN has = putchar_run r e c ls total has
      statement_runs (GetChar r) c behind ls total les w eN has =
          read_run c r _ ls total (got c.input.bytes c.input.tail) refl (omega arith) has
      statement_runs (Exit e) c behind ls total les w eN has = exit_run e c _ ls total has
      statement_runs (PrintText bytes) c behind ls total les w eN has = (text_run bytes c has, omega arith)
      statement_runs (PrintSigned e) c behind ls total les w eN has = print_run c e ls total keeps has
      statement_runs (PrintUnsigned e) c behind ls total les w eN has = print_run c e ls total keeps has
      statement_runs (PrintString e) c behind ls total les w eN has = string_run c e ls total keeps has
      statement_runs (Act r f args) c behind ls total les w eN has =
          call_run keeps r args (instr.Act f (length args)) (λ vs. replied M (M.act f vs c.mem) (state_of c)) c ls total has (λ vs e at.
          change_run c _ vs (instr.Act f (length args)) (M.act f vs c.mem) at (λ next. all_taken (length args) vs c.stack c.steps _ e))
      statement_runs (Call r f args) c behind ls total les w eN has =
          call_run keeps r args (instr.Call f (length args)) (λ vs. calls f vs (state_of c)) c ls total has
          (λ vs e at. calls_run f (length args) c vs _ at e les)
      statement_runs (If e a b) c behind ls total les w eN has =
          let cb = statements_code b behind ls in
          let ca = statements_code a (1 + length cb + behind) ls in
          let ce = expression_code e in
          let h = has_back code c.place ce _ has in
          let at2 = has_back code (c.place + length ce + 1) ca _ h.1 in
          let la = length_choice ce ca cb in
          let d0 = at_with M c (c.place + length ce + 1 + (length ca + 1)) c.stack in
          let d1 = at_with M c (c.place + length ce + 1) c.stack in
          let end = c.place + length (choice_code ce ca cb) in
          let e0 : c.place + length ce + 1 + (length ca + 1) + length cb ≡ end = omega (arith, la) in
          let e1 : c.place + length ce + 1 + length ca + 1 + length cb ≡ end = omega (arith, la) in
          let n0 : c.place + length ce + 1 + (length ca + 1) + length cb + behind ≡ total = omega (arith, la, eN) in
          let n1 : c.place + length ce + 1 + length ca + (1 + length cb + behind) ≡ total = omega (arith, la, eN) in
          let p0 : c.place + length ce + 1 + length ca + 1 ≡ c.place + length ce + 1 + (length ca + 1) = omega arith in
          counted_run c ce (instr.SkipIfZero (length ca + 1)) end ls total (eval M gs e c.registers c.mem) _ (λ z next. choose z (next d1) (next d0)) h.0
          (λ next v. refl) (value_here e c _ has) (λ z k.
          if_run (int_eq z (pos 0)) c d0 d1 end ls total _ _ k
          (λ l. after_quiet c _ c.registers (state_of c) end ls total _ l (omega arith)
          (ends_at d0 _ _ ls total _ e0 (statements_run b d0 behind ls total les w n0 (subst (λ z. HasAt code z cb) p0 at2.1)))) (λ l.
          after_quiet c _ c.registers (state_of c) end ls total _ l (omega arith)
          (next_on d1 (c.place + length ce + 1 + length ca) end ls total _
          (λ r s. to_place (came c (c.place + length ce + 1 + length ca) r s) (came c (c.place + length ce + 1 + length ca) r s) c.stack _ _ e1
          (quiet_step (came c (c.place + length ce + 1 + length ca) r s) _ (instr.GoOn (length cb)) at2.0 (λ next. refl)))
          (statements_run a d1 (1 + length cb + behind) ls total les (within_more ls behind (1 + length cb + behind) (omega arith) w) n1
          (has_front code _ ca _ h.1)))))
      statement_runs (Loop a b) c behind ls total les w eN has =
          let ca = statements_code a (1 + behind) ls in
          let cb = statements_code b (length ca + 1 + behind) ls in
          let back = length cb + length ca + 1 in
          let step_at = c.place + 1 in
          let before_at = c.place + 1 + 1 + length cb in
          let back_at = before_at + length ca in
          let la = length_loop ca cb in
          let h2 = has_back code (c.place + 1 + 1) cb _ has.1.1 in
          let is_back = (has_back code before_at ca _ h2).0 in
          let eb : back_at - back ≡ step_at = omega arith in
          let start : c.place + 1 + (length cb + 1) ≡ before_at = omega arith in
          let na : before_at + length ca + (1 + behind) ≡ total = omega (arith, la, eN) in
          let nb : c.place + 1 + 1 + length cb + (length ca + 1 + behind) ≡ total = omega (arith, la, eN) in
          after_quiet c before_at c.registers (state_of c) _ ls total _
          (to_place c c c.stack _ _ start (quiet_step c _ (instr.GoOn (length cb + 1)) has.0 (λ next. refl))) (omega arith)
          (turns_run n c step_at before_at back_at _ back ls total (exec_all M gs a calls n) (exec_all M gs b calls n) has.1.0 is_back eb
          (λ r s le. statements_run a (came c before_at r s) (1 + behind) ls total le (within_more ls behind (1 + behind) (omega arith) w) na
          (has_front code before_at ca _ h2))
          (λ r s le. statements_run b (came c (step_at + 1) r s) (length ca + 1 + behind) ls total le
          (within_more ls behind (length ca + 1 + behind) (omega arith) w) nb (has_front code (c.place + 1 + 1) cb _ has.1.1)) n (omega arith)
          c.registers (state_of c) les)
      statement_runs (Labelled a l) c behind ls total les w eN has =
          let ls' = ls ++ record { label = l; behind = behind } ∷ [] in
          let e : c.place + length (statements_code a behind ls') ≡ total - behind = omega (arith, eN) in
          label_run c _ l total behind ls _ e (statements_run a c behind ls' total les (within_last ls l behind w) eN has)
      statement_runs (Goto l) c behind ls total les w eN has =
          (goto_run c (behind_label ls l) total behind (label_below ls l behind w) eN has, omega arith)
      statement_runs (Return e) c behind ls total les w eN has = return_run e c _ ls total has

      pub statements_run : (a : MonStatements) (c : Moment) (behind : ℕ) (ls : List OpenLabel) (total : ℕ) → c.steps ≤ n → Within ls behind
          → c.place + length (statements_code a behind ls) + behind ≡ total → HasAt code c.place (statements_code a behind ls)
          → Performs c (c.place + length (statements_code a behind ls)) ls total (exec_all M gs a calls n c.registers (state_of c))
      statements_run NoStatement c behind ls total les w eN has =
          let e : c.place ≡ c.place + 0 = omega arith in
          (as_comes c _ (stays c _ e), omega arith)
      statements_run (Then a rest) c behind ls total les w eN has =
          let cr = statements_code rest behind ls in
          let ca = statement_code a (length cr + behind) ls in
          let len = length-append ca cr in
          let e : c.place + length ca + length cr ≡ c.place + length (ca ++ cr) = omega (arith, len) in
          let na : c.place + length ca + (length cr + behind) ≡ total = omega (arith, len, eN) in
          let nr : c.place + length ca + length cr + behind ≡ total = omega (arith, len, eN) in
          ends_at c _ _ ls total _ e (seq_run c (c.place + length ca) _ ls total _ (exec_all M gs rest calls n)
          (statement_runs a c (length cr + behind) ls total les (within_more ls behind (length cr + behind) (omega arith) w) na
          (has_front code c.place ca cr has))
          (λ r s le. statements_run rest (came c (c.place + length ca) r s) behind ls total (le_trans le les) w nr (has_back code c.place ca cr has)))
