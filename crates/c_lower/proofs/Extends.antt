-- In a program's code low bits come right after the high ones, which are pushed.
use Rattle.std.proofs.Common.{◌≡◌, ◌⊎◌, inl, inr, ⊎_elim, ℕ, zero, suc, ◌+◌, ℤ, pos, Bool, true, false, List, [], ◌∷◌, ◌++◌, length, Option, Some, None, map, refl, ap, subst}
use Rattle.std.specs.Prelude.{◌^◌, slice_get, if◌then◌else◌, unsigned_abs}
use Rattle.std.specs.Int.{int_rem_euclid}
use Rattle.std.proofs.lemmas.Option.{none-some, same_Some}
use Rattle.c_model.specs.Operators.{floor_quotient}
use Rattle.mon_syntax.specs.declared.tree.MonOp.{MonOp}
use Rattle.mon_syntax.specs.declared.tree.MonType.{MonType}
use Rattle.mon_syntax.specs.Arithmetic.{is_pointer}
use Rattle.mon_syntax.specs.Trees.{MonExpression, Register, Global, Constant, Binary, Minus, Flip, Cast, Load, MonStatement, Set, Store, Step, Assert, PutChar, GetChar, Exit}
use Rattle.mon_syntax.specs.Trees.{PrintText, PrintSigned, PrintUnsigned, PrintString, Act, Call, If, Loop, Labelled, Goto, Return}
use Rattle.mon_syntax.specs.Trees.{MonStatements, NoStatement, Then, MonFunction}
use Rattle.c_lower.specs.declared.code.Instr.{Instr}
use Rattle.c_lower.specs.declared.code.Instr.TheVariants as instr
use Rattle.c_lower.specs.Code.{is_short, expression_code, arguments_code, OpenLabel, behind_label, goto_code, result_code, returned_code, statement_code, statements_code, function_code, functions_code}
use Rattle.c_lower.specs.Sound.{IsPushedBefore}

abbrev is_push : Option Instr → Bool
is_push (Some (instr.Push z)) = true
is_push o = false

-- the instruction may stand right after this one, if any
abbrev MayFollow : Instr → Option Instr → Type 0
MayFollow (instr.Extend low) before = is_push before ≡ true
MayFollow i before = Unit {0}

abbrev Follow : List Instr → Option Instr → Type 0
Follow [] before = Unit {0}
Follow (i ∷ is) before = MayFollow i before × Follow is (Some i)

-- code that may stand after any instruction
abbrev IsFree : List Instr → Type 0
IsFree is = (before : Option Instr) → Follow is before

follow_on : (a b : List Instr) (before : Option Instr) → Follow a before → IsFree b → Follow (a ++ b) before
follow_on [] b before h k = k before
follow_on (i ∷ a) b before h k = (h.0, follow_on a b (Some i) h.1 k)

free_on : (a b : List Instr) → IsFree a → IsFree b → IsFree (a ++ b)
free_on a b h k before = follow_on a b before (h before) k

constant_free : (z : ℤ) (b : Bool)
    → IsFree (if b then instr.Push z ∷ [] else (instr.Push (floor_quotient z (2 ^ 64)) ∷ instr.Extend (unsigned_abs (int_rem_euclid z (pos (2 ^ 64)))) ∷ []))
constant_free z true before = (tt, tt)
constant_free z false before = (tt, (refl, tt))

operator_free : (op : MonOp) (t : MonType) (b : Bool) → IsFree ((if b then instr.Pointed op else instr.Binary op t) ∷ [])
operator_free op t true before = (tt, tt)
operator_free op t false before = (tt, tt)

expression_free : (e : MonExpression) → IsFree (expression_code e)
expression_free (Register r) before = (tt, tt)
expression_free (Global g) before = (tt, tt)
expression_free (Constant t z) before = constant_free z (is_short z) before
expression_free (Binary op t a b) before =
    free_on (expression_code a) _ (expression_free a) (free_on (expression_code b) _ (expression_free b) (operator_free op t (is_pointer t))) before
expression_free (Minus t a) before = free_on (expression_code a) (instr.Minus t ∷ []) (expression_free a) (λ q. (tt, tt)) before
expression_free (Flip t a) before = free_on (expression_code a) (instr.Flip t ∷ []) (expression_free a) (λ q. (tt, tt)) before
expression_free (Cast t a) before = free_on (expression_code a) (instr.Cast t ∷ []) (expression_free a) (λ q. (tt, tt)) before
expression_free (Load t a) before = free_on (expression_code a) (instr.Load t ∷ []) (expression_free a) (λ q. (tt, tt)) before

arguments_free : (args : List MonExpression) → IsFree (arguments_code args)
arguments_free [] before = tt
arguments_free (e ∷ args) before = free_on (expression_code e) (arguments_code args) (expression_free e) (arguments_free args) before

text_free : (bytes : List ℕ) → IsFree (map instr.PutByte bytes)
text_free [] before = tt
text_free (b ∷ bytes) before = (tt, text_free bytes (Some (instr.PutByte b)))

result_free : (r : Option ℕ) → IsFree (result_code r ∷ [])
result_free None before = (tt, tt)
result_free (Some r) before = (tt, tt)

returned_free : (e : Option MonExpression) → IsFree (returned_code e)
returned_free None before = (tt, tt)
returned_free (Some e) before = expression_free e before

goto_free : (o : Option ℕ) (behind : ℕ) → IsFree (goto_code o behind)
goto_free None behind before = (tt, tt)
goto_free (Some a) behind before = (tt, tt)

mutual
  statement_free : (a : MonStatement) (behind : ℕ) (ls : List OpenLabel) → IsFree (statement_code a behind ls)
  statement_free (Set r e) behind ls = free_on (expression_code e) (instr.Put r ∷ []) (expression_free e) (λ q. (tt, tt))
  statement_free (Store r t e) behind ls = λ before. (tt, follow_on (expression_code e) (instr.Store t ∷ []) (Some (instr.Get r)) (expression_free e (Some (instr.Get r))) (λ q. (tt, tt)))
  statement_free Step behind ls = λ q. (tt, tt)
  statement_free (Assert d v number line kind) behind ls =
      free_on (expression_code d) _ (expression_free d) (free_on (expression_code v) (instr.Assert number line kind ∷ []) (expression_free v) (λ q. (tt, tt)))
  statement_free (PutChar r e) behind ls = free_on (expression_code e) _ (expression_free e) (λ q. (tt, result_free r (Some instr.PutChar)))
  statement_free (GetChar r) behind ls = λ q. (tt, result_free r (Some instr.GetChar))
  statement_free (Exit e) behind ls = free_on (expression_code e) (instr.Exit ∷ []) (expression_free e) (λ q. (tt, tt))
  statement_free (PrintText bytes) behind ls = text_free bytes
  statement_free (PrintSigned e) behind ls = free_on (expression_code e) (instr.PutNumber ∷ []) (expression_free e) (λ q. (tt, tt))
  statement_free (PrintUnsigned e) behind ls = free_on (expression_code e) (instr.PutNumber ∷ []) (expression_free e) (λ q. (tt, tt))
  statement_free (PrintString e) behind ls = free_on (expression_code e) (instr.PutString ∷ []) (expression_free e) (λ q. (tt, tt))
  statement_free (Act r f args) behind ls = free_on (arguments_code args) _ (arguments_free args) (λ q. (tt, result_free r (Some (instr.Act f (length args)))))
  statement_free (Call r f args) behind ls = free_on (arguments_code args) _ (arguments_free args) (λ q. (tt, result_free r (Some (instr.Call f (length args)))))
  statement_free (If e a b) behind ls =
      let cb = statements_code b behind ls in
      let ca = statements_code a (1 + length cb + behind) ls in
      let skip = instr.SkipIfZero (length ca + 1) in
      let pass = instr.GoOn (length cb) in
      free_on (expression_code e) (skip ∷ (ca ++ (pass ∷ cb))) (expression_free e)
      (λ q. (tt, follow_on ca (pass ∷ cb) (Some skip) (statements_free a (1 + length cb + behind) ls (Some skip)) (λ o. (tt, statements_free b behind ls (Some pass)))))
  statement_free (Loop a b) behind ls = λ before.
      let ca = statements_code a (1 + behind) ls in
      let cb = statements_code b (length ca + 1 + behind) ls in
      let turn = instr.GoBack (length cb + length ca + 1) in
      (tt, (tt, follow_on cb (ca ++ turn ∷ []) (Some instr.Step) (statements_free b (length ca + 1 + behind) ls (Some instr.Step)) (free_on ca (turn ∷ []) (statements_free a (1 + behind) ls) (λ q. (tt, tt)))))
  statement_free (Labelled a l) behind ls = statements_free a behind (ls ++ record { label = l; behind = behind } ∷ [])
  statement_free (Goto l) behind ls = goto_free (behind_label ls l) behind
  statement_free (Return e) behind ls = free_on (returned_code e) (instr.Return ∷ []) (returned_free e) (λ q. (tt, tt))

  statements_free : (a : MonStatements) (behind : ℕ) (ls : List OpenLabel) → IsFree (statements_code a behind ls)
  statements_free NoStatement behind ls = λ q. tt
  statements_free (Then a rest) behind ls =
      let cr = statements_code rest behind ls in
      free_on (statement_code a (length cr + behind) ls) cr (statement_free a (length cr + behind) ls) (statements_free rest behind ls)

function_free : (f : MonFunction) (behind : ℕ) → IsFree (function_code f behind)
function_free f behind = free_on (statements_code f.body (2 + behind) []) _ (statements_free f.body (2 + behind) []) (λ q. (tt, (tt, tt)))

functions_free : (fs : List MonFunction) → IsFree (functions_code fs)
functions_free [] = λ q. tt
functions_free (f ∷ fs) = free_on (function_code f (length (functions_code fs))) (functions_code fs) (function_free f (length (functions_code fs))) (functions_free fs)

-- ---- places

push_is : (i : Instr) → is_push (Some i) ≡ true → (z : ℤ) × (i ≡ instr.Push z)
push_is (instr.Push z) e = (z, refl)
push_is i e = absurd cc

after_at : (is : List Instr) (before : Option Instr) (p low : ℕ) → Follow is before → slice_get is p ≡ Some (instr.Extend low) → ((p ≡ 0) × (is_push before ≡ true)) ⊎ IsPushedBefore is p
after_at [] before p low h at = absurd (none-some _ at)
after_at (i ∷ is) before zero low h at = inl (refl, subst (λ x. MayFollow x before) (same_Some i (instr.Extend low) at) h.0)
after_at (i ∷ is) before (suc p) low h at = ⊎_elim here there (after_at is (Some i) p low h.1 at)
  where
    here : (p ≡ 0) × (is_push (Some i) ≡ true) → ((suc p ≡ 0) × (is_push before ≡ true)) ⊎ IsPushedBefore (i ∷ is) (suc p)
    here (none, push) = let z = push_is i push in inr (record { before = 0; number = z.0; is_before = ap suc none; pushed = ap Some z.1 })

    there : IsPushedBefore is p → ((suc p ≡ 0) × (is_push before ≡ true)) ⊎ IsPushedBefore (i ∷ is) (suc p)
    there b = inr (record { before = suc b.before; number = b.number; is_before = ap suc b.is_before; pushed = b.pushed })

pub pushed_before : (fs : List MonFunction) (p low : ℕ) → slice_get (functions_code fs) p ≡ Some (instr.Extend low) → IsPushedBefore (functions_code fs) p
pushed_before fs p low at = ⊎_elim (λ b. absurd (cc (b.1))) (λ b. b) (after_at (functions_code fs) None p low (functions_free fs None) at)
