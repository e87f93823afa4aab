-- Ours: the meaning of monitored C.
-- What a program in monitored C does, over any memory.
use Rattle.std.specs.Prelude.{ℕ, zero, suc, ◌%◌, ℤ, pos, negsuc, List, [], ◌∷◌, ◌++◌, length, map, drop, ◌&&◌, Option, Some, None, if◌then◌else◌, slice_get}
use Rattle.std.specs.Prelude.{slice_set, bytes_eq, codes, Bool}
use Rattle.std.specs.Ordering.{int_eq}
use Rattle.std.specs.Fmt.{signed_decimal}
use Rattle.c_syntax.specs.declared.types.How.TheVariants as how
use Rattle.c_model.specs.Integers.{byte_of}
use Rattle.c_model.specs.State.{Input, InputTail, EndOfInput, InputFault}
use Rattle.c_model.specs.MonitoredRuns.{Final, Exits, Broken, Fault, Spent, Full, ReadFault, Ran}
use Rattle.mon_syntax.specs.declared.tree.MonType.{MonType}
use Rattle.mon_syntax.specs.declared.tree.MonOp.{MonOp}
use Rattle.mon_syntax.specs.Trees.{MonExpression, Register, Global, Constant, Binary, Minus, Flip, Cast, Load, MonStatement, Set, Store, Step, Assert}
use Rattle.mon_syntax.specs.Trees.{PutChar, GetChar, Exit, MonRegister, PrintString}
use Rattle.mon_syntax.specs.Trees.{PrintText, PrintSigned, PrintUnsigned, Act, Call, If, Loop, Labelled, Goto, Return, MonStatements, NoStatement, Then}
use Rattle.mon_syntax.specs.Trees.{MonFunction, MonitoredProgram}
use Rattle.mon_syntax.specs.Arithmetic.{is_pointer, wrap, operate, minus, flipped}
use Rattle.mon_syntax.specs.Memory.{Memory, Reply, Gives, IsFull, Faults}

-- the memory, the steps that are left, and the input
pub record State (Mem : Type 0) : Type 0 where
  pub mem : Mem
  pub steps : ℕ
  pub input : Input

-- what a part does: it gives a value, with the state after it and the bytes that it wrote, or the run ends there, with the
-- steps left and the bytes written
pub data Result (S A : Type 0) : Type 0 where
  Done : A → S → List ℕ → Result S A
  Stops : Final → ℕ → List ℕ → Result S A

-- where control goes from a statement, with the registers: to the next one, to the end of a labelled body, out of the call
pub data Flow (V : Type 0) : Type 0 where
  Next : List V → Flow V
  Goes : List ℕ → List V → Flow V
  Returns : Option V → Flow V

-- these bytes are written first
abbrev pub writes : {S A : Type 0} → List ℕ → Result S A → Result S A
writes o (Done a s p) = Done a s (o ++ p)
writes o (Stops e n p) = Stops e n (o ++ p)

-- one part and then another
abbrev pub then_do : {S A B : Type 0} → Result S A → (A → S → Result S B) → Result S B
then_do (Done a s o) go = writes o (go a s)
then_do (Stops e n o) go = Stops e n o

-- goes on where control comes to the next statement
abbrev pub at_next : {S V : Type 0} → (List V → S → Result S (Flow V)) → Flow V → S → Result S (Flow V)
at_next go (Next r) s = go r s
at_next go (Goes l r) s = Done (Goes l r) s []
at_next go (Returns v) s = Done (Returns v) s []

-- a jump to this label ends here
abbrev pub at_label : {S V : Type 0} → List ℕ → Flow V → S → Result S (Flow V)
at_label l (Next r) s = Done (Next r) s []
at_label l (Goes k r) s = if bytes_eq l k then Done (Next r) s [] else Done (Goes k r) s []
at_label l (Returns v) s = Done (Returns v) s []

infixl 10 ◌>>=◌
-- there is no value where a part has none
abbrev pub ◌>>=◌ : {A B : Type 0} → Option A → (A → Option B) → Option B
None >>= go = None
(Some a) >>= go = go a

-- goes on with a value; without one the machine faults, with so many steps left
abbrev pub with_value : {S A B : Type 0} → Option A → ℕ → (A → Result S B) → Result S B
with_value None n go = Stops Fault n []
with_value (Some a) n go = go a

-- 0 chooses the second
abbrev pub choose : {A : Type 0} → ℤ → A → A → A
choose z a b = if int_eq z (pos 0) then b else a

-- one step, where one is left
abbrev pub step_from : {S A : Type 0} → ℕ → (ℕ → Result S A) → Result S A
step_from zero go = Stops Spent 0 []
step_from (suc n) go = go n

-- the value that a register is given, where one is named
abbrev pub given_to : {V : Type 0} → Option ℕ → V → List V → List V
given_to None v regs = regs
given_to (Some r) v regs = slice_set regs r v

-- what is after the bytes of an input: -1 at its end, and nothing at a fault, which stays
abbrev pub got_behind : InputTail → Option (ℤ × Input)
got_behind EndOfInput = Some (negsuc 0, record { bytes = []; tail = EndOfInput })
got_behind InputFault = None

-- the next byte of an input, and what is left of it (C99 7.19.7.6)
abbrev pub got : List ℕ → InputTail → Option (ℤ × Input)
got [] tail = got_behind tail
got (b ∷ bs) tail = Some (pos (b % 256), record { bytes = bs; tail = tail })

-- goes on with what was read; at a fault of the input the run ends, with so many steps left
abbrev pub with_read : {S A : Type 0} → Option (ℤ × Input) → ℕ → (ℤ → Input → Result S A) → Result S A
with_read None n go = Stops ReadFault n []
with_read (Some (z, input)) n go = go z input

module _ (M : Memory) where
  abbrev pub number_or_none : Option ℤ → Option M.Val
  number_or_none None = None
  number_or_none (Some z) = Some (M.number z)

  -- a value of a type; 0 of type ptr is the null pointer
  abbrev pub constant : MonType → ℤ → M.Val
  constant t z = if is_pointer t && int_eq z (pos 0) then M.null else M.number z

  -- what registers hold at first, and what a body gives that comes to its end: 0
  abbrev pub zeros : List MonRegister → List M.Val
  zeros rs = map (λ (r : MonRegister). constant r.kind (pos 0)) rs

  abbrev pub zero_result : Option MonType → M.Val
  zero_result None = M.number (pos 0)
  zero_result (Some t) = constant t (pos 0)

  -- the registers of a call: the arguments, and then 0 in each
  abbrev pub registers : List MonRegister → List M.Val → List M.Val
  registers rs args = args ++ drop (length args) (zeros rs)

  -- an operator on two numbers; there is no value at a zero divisor, and where a number is wanted and there is none
  abbrev pub on_numbers : MonOp → MonType → M.Val → M.Val → Option M.Val
  on_numbers op t x y = M.number_of x >>= λ i. M.number_of y >>= λ j. number_or_none (operate op t i j)

  -- what a change of memory does
  abbrev pub replied : Reply M.Mem M.Val → State M.Mem → Result (State M.Mem) M.Val
  replied (Gives v m) s = Done v (record s { mem = m }) []
  replied (IsFull g) s = Stops (Full g) s.steps []
  replied Faults s = Stops Fault s.steps []

  -- what a call of each function does
  abbrev pub Calls : Type 0
  Calls = ℕ → List M.Val → State M.Mem → Result (State M.Mem) M.Val

  -- the bytes of a string are written; where no 0 ends them the machine faults
  abbrev pub printed : List ℕ × Bool → List M.Val → State M.Mem → Result (State M.Mem) (Flow M.Val)
  printed string regs s = if string.1 then Done (Next regs) s string.0 else Stops Fault s.steps string.0

  -- what statements do
  abbrev pub Does : Type 0
  Does = List M.Val → State M.Mem → Result (State M.Mem) (Flow M.Val)

  -- an assertion stops where it is undefined (0), else where it is false (0)
  abbrev pub judged : ℤ → ℤ → Final → Final → Result (State M.Mem) (Flow M.Val) → ℕ → Result (State M.Mem) (Flow M.Val)
  judged d v undefined false_ go n = choose d (choose v go (Stops false_ n [])) (Stops undefined n [])

  -- at most n turns of a loop: what stands before its step, the step, what stands after it
  abbrev pub turns : ℕ → Does → Does → Does
  turns zero before behind regs s = then_do (before regs s) (at_next (λ r t. Stops Spent 0 []))
  turns (suc n) before behind regs s =
      then_do (before regs s) (at_next (λ r t. step_from t.steps (λ k. then_do (behind r (record t { steps = k })) (at_next (turns n before behind)))))

  abbrev pub left_frame : State M.Mem → State M.Mem
  left_frame s = record s { mem = M.leave s.mem }

  -- what a body's end gives its caller: this value where it comes to its end
  abbrev pub at_return : M.Val → Flow M.Val → State M.Mem → Result (State M.Mem) M.Val
  at_return z (Next r) s = Done z (left_frame s) []
  at_return z (Goes l r) s = Stops Fault s.steps []
  at_return z (Returns None) s = Done z (left_frame s) []
  at_return z (Returns (Some v)) s = Done v (left_frame s) []

  abbrev pub exit_of : Option ℤ → ℕ → List ℕ → Ran
  exit_of None n o = record { final = Fault; output = o; left = n }
  exit_of (Some z) n o = record { final = Exits z; output = o; left = n }

  -- the end of the whole run
  abbrev pub ran : Result (State M.Mem) M.Val → Ran
  ran (Done v s o) = exit_of (M.number_of v) s.steps o
  ran (Stops e n o) = record { final = e; output = o; left = n }

-- the function of a name
abbrev pub function_named : List ℕ → List MonFunction → Option MonFunction
function_named name [] = None
function_named name (f ∷ fs) = if bytes_eq f.name name then Some f else function_named name fs

-- over a memory, with the pointers to the starts of the globals
module _ (M : Memory) (gs : List M.Val) where
  -- the value of an expression, where it has one
  abbrev pub eval : MonExpression → List M.Val → M.Mem → Option M.Val
  eval (Register r) regs m = slice_get regs r
  eval (Global g) regs m = slice_get gs g
  eval (Constant t z) regs m = Some (constant M t z)
  eval (Binary op t a b) regs m =
      eval a regs m >>= λ x. eval b regs m >>= λ y. if is_pointer t then M.pointed op x y m else on_numbers M op t x y
  eval (Minus t a) regs m = eval a regs m >>= λ x. M.number_of x >>= λ i. Some (M.number (minus t i))
  eval (Flip t a) regs m = eval a regs m >>= λ x. M.number_of x >>= λ i. Some (M.number (flipped t i))
  eval (Cast t a) regs m = eval a regs m >>= λ x. M.number_of x >>= λ i. Some (M.number (wrap t i))
  eval (Load t a) regs m = eval a regs m >>= λ x. M.load t x m

  -- the values of arguments, from left to right
  abbrev pub eval_all : List MonExpression → List M.Val → M.Mem → Option (List M.Val)
  eval_all [] regs m = Some []
  eval_all (e ∷ es) regs m = eval e regs m >>= λ v. eval_all es regs m >>= λ vs. Some (v ∷ vs)

  abbrev pub eval_number : MonExpression → List M.Val → M.Mem → Option ℤ
  eval_number e regs m = eval e regs m >>= M.number_of

  abbrev mutual
    pub exec : MonStatement → Calls M → ℕ → Does M
    exec (Set x e) calls n regs s = with_value (eval e regs s.mem) s.steps (λ v. Done (Next (slice_set regs x v)) s [])
    exec (Store x t e) calls n regs s =
        with_value (slice_get regs x) s.steps (λ p. with_value (eval e regs s.mem) s.steps (λ v.
        with_value (M.store t p v s.mem) s.steps (λ m. Done (Next regs) (record s { mem = m }) [])))
    exec Step calls n regs s = step_from s.steps (λ k. Done (Next regs) (record s { steps = k }) [])
    exec (Assert d v number line kind) calls n regs s =
        with_value (eval_number d regs s.mem) s.steps (λ i. with_value (eval_number v regs s.mem) s.steps (λ j.
        judged M i j (Broken number line kind how.Undefined) (Broken number line kind how.False) (Done (Next regs) s []) s.steps))
    exec (PutChar x e) calls n regs s =
        with_value (eval_number e regs s.mem) s.steps (λ i. Done (Next (given_to x (M.number (pos (byte_of i))) regs)) s (byte_of i ∷ []))
    exec (GetChar x) calls n regs s =
        with_read (got s.input.bytes s.input.tail) s.steps (λ z input. Done (Next (given_to x (M.number z) regs)) (record s { input = input }) [])
    exec (Act x f args) calls n regs s =
        with_value (eval_all args regs s.mem) s.steps (λ vs. then_do (replied M (M.act f vs s.mem) s) (λ v t. Done (Next (given_to x v regs)) t []))
    exec (Call x f args) calls n regs s =
        with_value (eval_all args regs s.mem) s.steps (λ vs. then_do (calls f vs s) (λ v t. Done (Next (given_to x v regs)) t []))
    exec (Exit e) calls n regs s = with_value (eval_number e regs s.mem) s.steps (λ i. Stops (Exits i) s.steps [])
    exec (PrintText bytes) calls n regs s = Done (Next regs) s bytes
    exec (PrintSigned e) calls n regs s = with_value (eval_number e regs s.mem) s.steps (λ i. Done (Next regs) s (signed_decimal i))
    exec (PrintUnsigned e) calls n regs s = with_value (eval_number e regs s.mem) s.steps (λ i. Done (Next regs) s (signed_decimal i))
    exec (PrintString e) calls n regs s = with_value (eval e regs s.mem) s.steps (λ p. printed M (M.string p s.mem) regs s)
    exec (If e a b) calls n regs s = with_value (eval_number e regs s.mem) s.steps (λ i. choose i (exec_all a calls n regs s) (exec_all b calls n regs s))
    exec (Loop a b) calls n regs s = turns M n (exec_all a calls n) (exec_all b calls n) regs s
    exec (Labelled a l) calls n regs s = then_do (exec_all a calls n regs s) (at_label l)
    exec (Goto l) calls n regs s = Done (Goes l regs) s []
    exec (Return None) calls n regs s = Done (Returns None) s []
    exec (Return (Some e)) calls n regs s = with_value (eval e regs s.mem) s.steps (λ v. Done (Returns (Some v)) s [])

    pub exec_all : MonStatements → Calls M → ℕ → Does M
    exec_all NoStatement calls n regs s = Done (Next regs) s []
    exec_all (Then a rest) calls n regs s = then_do (exec a calls n regs s) (at_next (exec_all rest calls n))

  -- a frame, and the body of a function
  abbrev pub body_runs : Option MonFunction → Calls M → ℕ → List M.Val → State M.Mem → Result (State M.Mem) M.Val
  body_runs None calls n args s = Stops Fault s.steps []
  body_runs (Some f) calls n args s =
      then_do (replied M (M.enter s.mem) s) (λ v t. then_do (exec_all f.body calls n (registers M (f.parameters ++ f.registers) args) t)
      (at_return M (zero_result M f.result)))

  -- a call, where calls go at most n deep and each loop makes at most n turns
  abbrev pub level : List MonFunction → ℕ → Calls M
  level fs zero f args s = Stops Spent 0 []
  level fs (suc n) f args s = step_from s.steps (λ k. body_runs (slice_get fs f) (level fs n) n args (record s { steps = k }))

-- the run of a program from a memory, on an input with n steps
abbrev pub run : (M : Memory) → MonitoredProgram → M.Mem → Input → ℕ → Ran
run M m mem input n =
    let gs = M.starts m.globals in
    ran M (body_runs M gs (function_named (codes "main") m.functions) (level M gs m.functions n) n [] (record { mem = mem; steps = n; input = input }))
