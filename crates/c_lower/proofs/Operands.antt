-- Operands along code: a statement's code finds its operands and leaves none, an expression's code leaves one.
use Rattle.std.proofs.Common.{◌≡◌, ℕ, suc, ◌+◌, ◌≤◌, ℤ, pos, Bool, true, false, List, [], ◌∷◌, ◌++◌, length, Option, Some, None, map, refl, ap, subst, ◌∙◌, arith, append_assoc}
use Rattle.std.specs.Prelude.{◌^◌, leb, if◌then◌else◌, unsigned_abs}
use Rattle.std.specs.Int.{int_rem_euclid}
use Rattle.std.proofs.lemmas.Bool.{le-leb}
use Rattle.c_model.specs.Operators.{floor_quotient}
use Rattle.mon_syntax.specs.declared.tree.MonOp.{MonOp}
use Rattle.mon_syntax.specs.declared.tree.MonType.{MonType}
use Rattle.mon_syntax.specs.Arithmetic.{is_pointer}
use Rattle.mon_syntax.specs.Trees.{MonExpression, Register, Global, Constant, Binary, Minus, Flip, Cast, Load, MonStatement, Set, Store, Step, Assert, PutChar, GetChar, Exit}
use Rattle.mon_syntax.specs.Trees.{PrintText, PrintSigned, PrintUnsigned, PrintString, Act, Call, If, Loop, Labelled, Goto, Return}
use Rattle.mon_syntax.specs.Trees.{MonStatements, NoStatement, Then, MonFunction}
use Rattle.mon_syntax.specs.Meaning.{◌>>=◌}
use Rattle.c_lower.specs.declared.code.Instr.{Instr}
use Rattle.c_lower.specs.declared.code.Instr.TheVariants as instr
use Rattle.c_lower.specs.Code.{is_short, expression_code, arguments_code, OpenLabel, behind_label, goto_code, result_code, returned_code, choice_code, loop_code, statement_code, statements_code, function_code, functions_code}
use Rattle.c_lower.specs.Sound.{operands_of, operands_after, operands_behind}

-- the instructions find their operands, and lead from so many to so many
abbrev pub Leads : ℕ → List Instr → ℕ → Type 0
Leads n is m = operands_behind n is ≡ Some m

counted-append : (n : ℕ) (a b : List Instr) → operands_behind n (a ++ b) ≡ (operands_behind n a >>= λ k. operands_behind k b)
counted-append n [] b = refl
counted-append n (i ∷ a) b = by (leb (operands_of i).taken n) (counted-append (operands_after n i) a b)
  where
    by : (t : Bool) → operands_behind (operands_after n i) (a ++ b)
        ≡ (operands_behind (operands_after n i) a >>= λ k. operands_behind k b)
        → (if t then operands_behind (operands_after n i) (a ++ b) else None)
        ≡ ((if t then operands_behind (operands_after n i) a else None) >>= λ k. operands_behind k b)
    by true h = h
    by false h = refl

pub leads_on : (n k m : ℕ) (a b : List Instr) → Leads n a k → Leads k b m → Leads n (a ++ b) m
leads_on n k m a b g h = counted-append n a b ∙ ap (λ o. o >>= λ j. operands_behind j b) g ∙ h

-- one instruction
pub leads_by : (i : Instr) (n m : ℕ) → (operands_of i).taken ≤ n → operands_after n i ≡ m → Leads n (i ∷ []) m
leads_by i n m le e = ap (λ t. if t then Some (operands_after n i) else None) (le-leb (operands_of i).taken n le) ∙ ap Some e

-- an expression's code and then an instruction
leads_then : (a : List Instr) (i : Instr) (n k m : ℕ) → Leads n a k → (operands_of i).taken ≤ k → operands_after k i ≡ m
    → Leads n (a ++ i ∷ []) m
leads_then a i n k m h le e = leads_on n k m a (i ∷ []) h (leads_by i k m le e)

constant_leads : (z : ℤ) (n : ℕ) (b : Bool)
    → Leads n (if b then instr.Push z ∷ []
    else (instr.Push (floor_quotient z (2 ^ 64)) ∷ instr.Extend (unsigned_abs (int_rem_euclid z (pos (2 ^ 64)))) ∷ [])) (suc n)
constant_leads z n true = leads_by (instr.Push z) n (suc n) (omega arith) (omega arith)
constant_leads z n false =
    leads_then (instr.Push (floor_quotient z (2 ^ 64)) ∷ []) (instr.Extend (unsigned_abs (int_rem_euclid z (pos (2 ^ 64))))) n (suc n) (suc n)
    (leads_by (instr.Push (floor_quotient z (2 ^ 64))) n (suc n) (omega arith) (omega arith)) (omega arith) (omega arith)

-- an operator after its second operand's code
operator_leads : (op : MonOp) (t : MonType) (b : Bool) (a : List Instr) (n : ℕ) → Leads (suc n) a (suc (suc n))
    → Leads (suc n) (a ++ (if b then instr.Pointed op else instr.Binary op t) ∷ []) (suc n)
operator_leads op t true a n h = leads_then a (instr.Pointed op) (suc n) (suc (suc n)) (suc n) h (omega arith) (omega arith)
operator_leads op t false a n h = leads_then a (instr.Binary op t) (suc n) (suc (suc n)) (suc n) h (omega arith) (omega arith)

pub expression_leads : (e : MonExpression) (n : ℕ) → Leads n (expression_code e) (suc n)
expression_leads (Register r) n = leads_by (instr.Get r) n (suc n) (omega arith) (omega arith)
expression_leads (Global g) n = leads_by (instr.Global g) n (suc n) (omega arith) (omega arith)
expression_leads (Constant t z) n = constant_leads z n (is_short z)
expression_leads (Binary op t a b) n =
    leads_on n (suc n) (suc n) (expression_code a) _ (expression_leads a n)
    (operator_leads op t (is_pointer t) (expression_code b) n (expression_leads b (suc n)))
expression_leads (Minus t a) n =
    leads_then (expression_code a) (instr.Minus t) n (suc n) (suc n) (expression_leads a n) (omega arith) (omega arith)
expression_leads (Flip t a) n =
    leads_then (expression_code a) (instr.Flip t) n (suc n) (suc n) (expression_leads a n) (omega arith) (omega arith)
expression_leads (Cast t a) n =
    leads_then (expression_code a) (instr.Cast t) n (suc n) (suc n) (expression_leads a n) (omega arith) (omega arith)
expression_leads (Load t a) n =
    leads_then (expression_code a) (instr.Load t) n (suc n) (suc n) (expression_leads a n) (omega arith) (omega arith)

-- arguments leave an operand each
arguments_lead : (args : List MonExpression) (n : ℕ) → Leads n (arguments_code args) (length args + n)
arguments_lead [] n = let e : n ≡ 0 + n = omega arith in ap Some e
arguments_lead (a ∷ args) n =
    let e : length args + suc n ≡ suc (length args) + n = omega arith in
    subst (Leads n (arguments_code (a ∷ args))) e
    (leads_on n (suc n) (length args + suc n) (expression_code a) (arguments_code args) (expression_leads a n) (arguments_lead args (suc n)))

-- an instruction that takes all of them, and leaves its value
pub call_leads : (args : List MonExpression) (i : Instr) → (operands_of i).taken ≡ length args → (operands_of i).given ≡ 1 → Leads 0 (arguments_code args ++ i ∷ []) 1
call_leads args i t g =
    leads_then (arguments_code args) i 0 (length args + 0) 1 (arguments_lead args 0) (omega (arith, t)) (omega (arith, t, g))

-- an expression's code and an instruction that takes its value
taking : (e : MonExpression) (i : Instr) → (operands_of i).taken ≡ 1 → (operands_of i).given ≡ 0 → Leads 0 (expression_code e ++ i ∷ []) 0
taking e i t g = leads_then (expression_code e) i 0 1 0 (expression_leads e 0) (omega (arith, t)) (omega (arith, t, g))

-- code that leaves no operand, and more of it
pub plain_on : (a b : List Instr) → Leads 0 a 0 → Leads 0 b 0 → Leads 0 (a ++ b) 0
plain_on a b g h = leads_on 0 0 0 a b g h

text_leads : (bytes : List ℕ) → Leads 0 (map instr.PutByte bytes) 0
text_leads [] = refl
text_leads (b ∷ bytes) = text_leads bytes

result_leads : (r : Option ℕ) → Leads 1 (result_code r ∷ []) 0
result_leads None = refl
result_leads (Some r) = refl

-- a call, and what becomes of its value
called_leads : (args : List MonExpression) (i : Instr) (r : Option ℕ) → (operands_of i).taken ≡ length args → (operands_of i).given ≡ 1
    → Leads 0 (arguments_code args ++ (i ∷ (result_code r ∷ []))) 0
called_leads args i r t g =
    subst (λ is. Leads 0 is 0) (append_assoc (arguments_code args) (i ∷ []) (result_code r ∷ []))
    (leads_on 0 1 0 (arguments_code args ++ i ∷ []) (result_code r ∷ []) (call_leads args i t g) (result_leads r))

goto_leads : (o : Option ℕ) (behind : ℕ) → Leads 0 (goto_code o behind) 0
goto_leads None behind = refl
goto_leads (Some a) behind = refl

returned_leads : (e : Option MonExpression) → Leads 0 (returned_code e) 1
returned_leads None = refl
returned_leads (Some e) = expression_leads e 0

pub test_leads : (e : MonExpression) (n : ℕ) → Leads 0 (expression_code e ++ instr.SkipIfZero n ∷ []) 0
test_leads e n = taking e (instr.SkipIfZero n) refl refl

choice_leads : (e : MonExpression) (a b : List Instr) → Leads 0 a 0 → Leads 0 b 0 → Leads 0 (choice_code (expression_code e) a b) 0
choice_leads e a b g h = leads_on 0 1 0 (expression_code e) _ (expression_leads e 0) (plain_on a (instr.GoOn (length b) ∷ b) g h)

loop_leads : (a b : List Instr) → Leads 0 a 0 → Leads 0 b 0 → Leads 0 (loop_code a b) 0
loop_leads a b g h = plain_on b _ h (plain_on a (instr.GoBack (length b + length a + 1) ∷ []) g refl)

mutual
  pub statement_leads : (a : MonStatement) (behind : ℕ) (ls : List OpenLabel) → Leads 0 (statement_code a behind ls) 0
  statement_leads (Set r e) behind ls = taking e (instr.Put r) refl refl
  statement_leads (Store r t e) behind ls =
      leads_on 0 1 0 (instr.Get r ∷ []) (expression_code e ++ instr.Store t ∷ []) (leads_by (instr.Get r) 0 1 (omega arith) (omega arith))
      (leads_then (expression_code e) (instr.Store t) 1 2 0 (expression_leads e 1) (omega arith) (omega arith))
  statement_leads Step behind ls = refl
  statement_leads (Assert d v number line kind) behind ls =
      leads_on 0 1 0 (expression_code d) _ (expression_leads d 0)
      (leads_then (expression_code v) (instr.Assert number line kind) 1 2 0 (expression_leads v 1) (omega arith) (omega arith))
  statement_leads (PutChar r e) behind ls = leads_on 0 1 0 (expression_code e) _ (expression_leads e 0) (result_leads r)
  statement_leads (GetChar r) behind ls = result_leads r
  statement_leads (Exit e) behind ls = taking e instr.Exit refl refl
  statement_leads (PrintText bytes) behind ls = text_leads bytes
  statement_leads (PrintSigned e) behind ls = taking e instr.PutNumber refl refl
  statement_leads (PrintUnsigned e) behind ls = taking e instr.PutNumber refl refl
  statement_leads (PrintString e) behind ls = taking e instr.PutString refl refl
  statement_leads (Act r f args) behind ls = called_leads args (instr.Act f (length args)) r refl refl
  statement_leads (Call r f args) behind ls = called_leads args (instr.Call f (length args)) r refl refl
  statement_leads (If e a b) behind ls =
      choice_leads e (statements_code a (1 + length (statements_code b behind ls) + behind) ls) (statements_code b behind ls) (statements_lead a _ ls)
      (statements_lead b behind ls)
  statement_leads (Loop a b) behind ls =
      loop_leads (statements_code a (1 + behind) ls) (statements_code b (length (statements_code a (1 + behind) ls) + 1 + behind) ls)
      (statements_lead a (1 + behind) ls) (statements_lead b _ ls)
  statement_leads (Labelled a l) behind ls = statements_lead a behind (ls ++ record { label = l; behind = behind } ∷ [])
  statement_leads (Goto l) behind ls = goto_leads (behind_label ls l) behind
  statement_leads (Return e) behind ls = leads_on 0 1 0 (returned_code e) (instr.Return ∷ []) (returned_leads e) refl

  pub statements_lead : (a : MonStatements) (behind : ℕ) (ls : List OpenLabel) → Leads 0 (statements_code a behind ls) 0
  statements_lead NoStatement behind ls = refl
  statements_lead (Then a rest) behind ls =
      plain_on (statement_code a (length (statements_code rest behind ls) + behind) ls) (statements_code rest behind ls) (statement_leads a _ ls)
      (statements_lead rest behind ls)

pub function_leads : (f : MonFunction) (behind : ℕ) → Leads 0 (function_code f behind) 0
function_leads f behind = plain_on (statements_code f.body (2 + behind) []) (instr.Push (pos 0) ∷ (instr.Return ∷ []))
    (statements_lead f.body (2 + behind) []) refl

pub functions_lead : (fs : List MonFunction) → Leads 0 (functions_code fs) 0
functions_lead [] = refl
functions_lead (f ∷ fs) =
    plain_on (function_code f (length (functions_code fs))) (functions_code fs) (function_leads f (length (functions_code fs))) (functions_lead fs)
