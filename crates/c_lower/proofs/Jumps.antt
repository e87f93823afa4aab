-- Jumps of a program's code lead to the bounds of statements, where no operand is on the stack; a jump back leads to a step.
use Rattle.std.proofs.Common.{◌≡◌, ℕ, zero, suc, ◌+◌, ◌-◌, ◌≤◌, ◌<◌, ℤ, pos, Bool, true, false, List, [], ◌∷◌, ◌++◌, length, take, Option, Some, None, map, refl, sym, ap, ◌∙◌, subst, arith, append_assoc, append-nil, length-append, le_trans}
use Rattle.std.specs.Prelude.{◌^◌, slice_get, bytes_eq, if◌then◌else◌, unsigned_abs, IfSome}
use Rattle.std.specs.Int.{int_rem_euclid}
use Rattle.std.specs.Option.{option_or}
use Rattle.std.proofs.lemmas.List.{take_more}
use Rattle.std.proofs.lemmas.Option.{slice_get_within, get_or_from_slice_get}
use Rattle.c_model.specs.Operators.{floor_quotient}
use Rattle.mon_syntax.specs.declared.tree.MonOp.{MonOp}
use Rattle.mon_syntax.specs.declared.tree.MonType.{MonType}
use Rattle.mon_syntax.specs.Arithmetic.{is_pointer}
use Rattle.mon_syntax.specs.Trees.{MonExpression, Register, Global, Constant, Binary, Minus, Flip, Cast, Load, MonStatement, Set, Store, Step, Assert, PutChar, GetChar, Exit}
use Rattle.mon_syntax.specs.Trees.{PrintText, PrintSigned, PrintUnsigned, PrintString, Act, Call, If, Loop, Labelled, Goto, Return}
use Rattle.mon_syntax.specs.Trees.{MonStatements, NoStatement, Then, MonFunction}
use Rattle.c_lower.specs.declared.code.Entry.{Entry}
use Rattle.c_lower.specs.declared.code.Instr.{Instr}
use Rattle.c_lower.specs.declared.code.Instr.TheVariants as instr
use Rattle.c_lower.specs.Code.{is_short, expression_code, arguments_code, OpenLabel, behind_label, goto_code, result_code, returned_code, choice_code, loop_code, statement_code, statements_code, function_code, functions_code, entry_at, entries_from}
use Rattle.c_lower.specs.Code.{entry_named}
use Rattle.c_lower.specs.Sound.{operands_of, operands_behind, target, IsEmptyAt, IsSound}
use Rattle.c_lower.proofs.Placed.{length_choice, length_loop, HasAt, has_front, has_back, has_join, has_behind}
use Rattle.c_lower.proofs.Extends.{pushed_before}
use Rattle.c_lower.proofs.Operands.{Leads, leads_on, call_leads, test_leads, statement_leads, statements_lead, function_leads, functions_lead}

-- ---- instructions that neither jump nor call nor return

abbrev pub is_call : Instr → Bool
is_call (instr.Call f k) = true
is_call instr.Return = true
is_call i = false

abbrev pub Stays : Instr → Type 0
Stays i = (p : ℕ) → (target p i ≡ None) × (is_call i ≡ false)

abbrev pub AllStay : List Instr → Type 0
AllStay [] = Unit {0}
AllStay (i ∷ is) = Stays i × AllStay is

stay_on : (a b : List Instr) → AllStay a → AllStay b → AllStay (a ++ b)
stay_on [] b g h = h
stay_on (i ∷ a) b g h = (g.0, stay_on a b g.1 h)

stay_then : (a : List Instr) (i : Instr) → AllStay a → Stays i → AllStay (a ++ i ∷ [])
stay_then a i g h = stay_on a (i ∷ []) g (h, tt)

constant_stays : (z : ℤ) (b : Bool)
    → AllStay (if b then instr.Push z ∷ [] else (instr.Push (floor_quotient z (2 ^ 64)) ∷ instr.Extend (unsigned_abs (int_rem_euclid z (pos (2 ^ 64)))) ∷ []))
constant_stays z true = ((λ p. (refl, refl)), tt)
constant_stays z false = ((λ p. (refl, refl)), ((λ p. (refl, refl)), tt))

operator_stays : (op : MonOp) (t : MonType) (b : Bool) → Stays (if b then instr.Pointed op else instr.Binary op t)
operator_stays op t true p = (refl, refl)
operator_stays op t false p = (refl, refl)

expression_stays : (e : MonExpression) → AllStay (expression_code e)
expression_stays (Register r) = ((λ p. (refl, refl)), tt)
expression_stays (Global g) = ((λ p. (refl, refl)), tt)
expression_stays (Constant t z) = constant_stays z (is_short z)
expression_stays (Binary op t a b) =
    stay_on (expression_code a) _ (expression_stays a) (stay_then (expression_code b) _ (expression_stays b) (operator_stays op t (is_pointer t)))
expression_stays (Minus t a) = stay_then (expression_code a) (instr.Minus t) (expression_stays a) (λ p. (refl, refl))
expression_stays (Flip t a) = stay_then (expression_code a) (instr.Flip t) (expression_stays a) (λ p. (refl, refl))
expression_stays (Cast t a) = stay_then (expression_code a) (instr.Cast t) (expression_stays a) (λ p. (refl, refl))
expression_stays (Load t a) = stay_then (expression_code a) (instr.Load t) (expression_stays a) (λ p. (refl, refl))

arguments_stay : (args : List MonExpression) → AllStay (arguments_code args)
arguments_stay [] = tt
arguments_stay (e ∷ args) = stay_on (expression_code e) (arguments_code args) (expression_stays e) (arguments_stay args)

text_stays : (bytes : List ℕ) → AllStay (map instr.PutByte bytes)
text_stays [] = tt
text_stays (b ∷ bytes) = ((λ p. (refl, refl)), text_stays bytes)

result_stays : (r : Option ℕ) → AllStay (result_code r ∷ [])
result_stays None = ((λ p. (refl, refl)), tt)
result_stays (Some r) = ((λ p. (refl, refl)), tt)

returned_stays : (e : Option MonExpression) → AllStay (returned_code e)
returned_stays None = ((λ p. (refl, refl)), tt)
returned_stays (Some e) = expression_stays e

-- ---- places

-- one instruction more
pub take_one : (code : List Instr) (p : ℕ) (i : Instr) → slice_get code p ≡ Some i → take (p + 1) code ≡ take p code ++ i ∷ []
take_one code p i h =
    take_more code p i (slice_get_within code p i h) ∙ ap (λ x. take p code ++ x ∷ []) (get_or_from_slice_get code p i i h)

take_has : (code : List Instr) (p : ℕ) (is : List Instr) → HasAt code p is → take (p + length is) code ≡ take p code ++ is
take_has code p [] h = let e : p + 0 ≡ p = omega arith in ap (λ n. take n code) e ∙ sym (append-nil (take p code))
take_has code p (i ∷ is) h =
    let e : p + length (i ∷ is) ≡ p + 1 + length is = omega arith in
    ap (λ n. take n code) e
    ∙ take_has code (p + 1) is h.1
    ∙ ap (λ l. l ++ is) (take_one code p i h.0)
    ∙ append_assoc (take p code) (i ∷ []) is

module _ (code : List Instr) where
  -- no operand is on the stack there
  abbrev Empty : ℕ → Type 0
  Empty p = operands_behind 0 (take p code) ≡ Some 0

  -- after code that leaves so many operands
  operands_on : (p n : ℕ) (is : List Instr) → Empty p → HasAt code p is → Leads 0 is n → operands_behind 0 (take (p + length is) code) ≡ Some n
  operands_on p n is e h l = ap (operands_behind 0) (take_has code p is h) ∙ leads_on 0 0 n (take p code) is e l

  -- after code that leaves none
  empty_on : (p : ℕ) (is : List Instr) → Empty p → HasAt code p is → Leads 0 is 0 → Empty (p + length is)
  empty_on p is e h l = operands_on p 0 is e h l

  -- what is to hold of an instruction in its place
  record Fits (p : ℕ) (i : Instr) : Type 0 where
    jumps : (to : ℕ) → target p i ≡ Some to → IsEmptyAt code to
    behind : (to : ℕ) → target p i ≡ Some to → Empty (p + 1)
    calls : (f k : ℕ) → i ≡ instr.Call f k → operands_behind 0 (take (p + 1) code) ≡ Some 1
    returns : i ≡ instr.Return → Empty (p + 1)
    back : (n : ℕ) → i ≡ instr.GoBack n → slice_get code (p - n) ≡ Some instr.Step

  abbrev AllFit : ℕ → List Instr → Type 0
  AllFit p [] = Unit {0}
  AllFit p (i ∷ is) = Fits p i × AllFit (p + 1) is

  fit_on : (p : ℕ) (a b : List Instr) → AllFit p a → AllFit (p + length a) b → AllFit p (a ++ b)
  fit_on p [] b g h = let e : p + 0 ≡ p = omega arith in subst (λ n. AllFit n b) e h
  fit_on p (i ∷ a) b g h =
      let e : p + length (i ∷ a) ≡ p + 1 + length a = omega arith in
      (g.0, fit_on (p + 1) a b g.1 (subst (λ n. AllFit n b) e h))

  fit_at : (q : ℕ) (is : List Instr) (p : ℕ) (i : Instr) → AllFit q is → slice_get is p ≡ Some i → Fits (q + p) i
  fit_at q [] p i g h = absurd (cc h)
  fit_at q (j ∷ is) zero i g h =
      let same : j ≡ i = cc in
      let e : q ≡ q + 0 = omega arith in
      subst (λ x. Fits (q + 0) x) same (subst (λ n. Fits n j) e g.0)
  fit_at q (j ∷ is) (suc p) i g h =
      let e : q + 1 + p ≡ q + suc p = omega arith in
      subst (λ n. Fits n i) e (fit_at (q + 1) is p i g.1 h)

  stay_fits : (p : ℕ) (i : Instr) → Stays i → Fits p i
  stay_fits p i s = record {
    jumps = λ to e. absurd (cc (s p).0);
    behind = λ to e. absurd (cc (s p).0);
    calls = λ f k e. absurd (no_call f k e);
    returns = λ e. absurd (no_return e);
    back = λ n e. absurd (no_target n e);
  }
    where
      no_target : (n : ℕ) → i ≡ instr.GoBack n → ⊥
      no_target n e = cc ((s p).0, ap (target p) e)

      no_call : (f k : ℕ) → i ≡ instr.Call f k → ⊥
      no_call f k e = cc ((s p).1, ap is_call e)

      no_return : i ≡ instr.Return → ⊥
      no_return e = cc ((s p).1, ap is_call e)

  stays_fit : (p : ℕ) (is : List Instr) → AllStay is → AllFit p is
  stays_fit p [] s = tt
  stays_fit p (i ∷ is) s = (stay_fits p i s.0, stays_fit (p + 1) is s.1)

  jump_fits : (p to : ℕ) (i : Instr) → target p i ≡ Some to → to < length code → Empty to → Empty (p + 1)
      → ((n : ℕ) → i ≡ instr.GoBack n → slice_get code (p - n) ≡ Some instr.Step) → Fits p i
  jump_fits p to i t inside empty behind back = record {
    jumps = λ q e. let same : to ≡ q = cc in subst (IsEmptyAt code) same (record { inside = inside; empty = empty });
    behind = λ q e. behind;
    calls = λ f k e. absurd (cc (t, ap (target p) e));
    returns = λ e. absurd (cc (t, ap (target p) e));
    back = back;
  }

  -- a return takes all operands
  return_fits : (p : ℕ) → Empty (p + 1) → Fits p instr.Return
  return_fits p empty = record {
    jumps = λ to e. absurd (cc (e));
    behind = λ to e. absurd (cc (e));
    calls = λ f k e. absurd (cc (e));
    returns = λ e. empty;
    back = λ n e. absurd (cc (e));
  }

  -- a jump back to a step
  back_to : (at back step : ℕ) → at - back ≡ step → slice_get code step ≡ Some instr.Step
      → (n : ℕ) → instr.GoBack back ≡ instr.GoBack n → slice_get code (at - n) ≡ Some instr.Step
  back_to at back step e h n q = let same : back ≡ n = cc in ap (λ k. slice_get code (at - k)) (sym same) ∙ ap (slice_get code) e ∙ h

  -- ---- labels

  -- each body with a label ends where no operand is on the stack, where at least two and at most so many instructions are left
  abbrev OpenEnds : List OpenLabel → ℕ → Type 0
  OpenEnds [] n = Unit {0}
  OpenEnds (o ∷ os) n = (o.behind ≤ n) × (2 ≤ o.behind) × Empty (length code - o.behind) × OpenEnds os n

  ends_more : (os : List OpenLabel) (m n : ℕ) → m ≤ n → OpenEnds os m → OpenEnds os n
  ends_more [] m n le h = tt
  ends_more (o ∷ os) m n le h = (le_trans h.0 le, h.1, h.2, ends_more os m n le h.3)

  ends_last : (os : List OpenLabel) (l : List ℕ) (n : ℕ) → 2 ≤ n → Empty (length code - n) → OpenEnds os n
      → OpenEnds (os ++ record { label = l; behind = n } ∷ []) n
  ends_last [] l n two e h = (omega arith, two, e, tt)
  ends_last (o ∷ os) l n two e h = (h.0, h.1, h.2, ends_last os l n two e h.3)

  -- an end that was found, if any
  abbrev EndsAt : Option ℕ → ℕ → Type 0
  EndsAt None n = Unit {0}
  EndsAt (Some a) n = (a ≤ n) × (2 ≤ a) × Empty (length code - a)

  or_ends : (o p : Option ℕ) (n : ℕ) → EndsAt o n → EndsAt p n → EndsAt (option_or o p) n
  or_ends None p n h k = k
  or_ends (Some a) p n h k = h

  if_ends : (b : Bool) (a n : ℕ) → EndsAt (Some a) n → EndsAt (if b then Some a else None) n
  if_ends true a n h = h
  if_ends false a n h = tt

  label_ends : (os : List OpenLabel) (l : List ℕ) (n : ℕ) → OpenEnds os n → EndsAt (behind_label os l) n
  label_ends [] l n h = tt
  label_ends (o ∷ os) l n h =
      or_ends (behind_label os l) (if bytes_eq o.label l then Some o.behind else None) n (label_ends os l n h.3)
      (if_ends (bytes_eq o.label l) o.behind n (h.0, h.1, h.2))

  -- ---- statements

  goto_fits : (p : ℕ) (o : Option ℕ) (behind : ℕ) → Empty p → EndsAt o behind → p + length (goto_code o behind) + behind ≡ length code
      → HasAt code p (goto_code o behind) → AllFit p (goto_code o behind)
  goto_fits p None behind e h n has = (stay_fits p instr.Fail (λ p. (refl, refl)), tt)
  goto_fits p (Some a) behind e h n has =
      let to : p + 1 + (behind - a) ≡ length code - a = omega (arith, h.0) in
      let inside : length code - a < length code = omega (arith, h.1) in (
        jump_fits p (length code - a) (instr.GoOn (behind - a)) (ap Some to) inside h.2 (empty_on p (instr.GoOn (behind - a) ∷ []) e has refl)
            (λ m q. absurd (cc q)),
        tt,
      )

  -- a call takes all operands
  call_fits : (p : ℕ) (i : Instr) → target p i ≡ None → (operands_of i).given ≡ 1 → operands_behind 0 (take (p + 1) code) ≡ Some 1 → Fits p i
  call_fits p i t given one = record {
    jumps = λ q e. absurd (cc (t, e));
    behind = λ q e. absurd (cc (t, e));
    calls = λ f k e. one;
    returns = λ e. let none : 0 ≡ 1 = sym (ap (λ j. (operands_of j).given) e) ∙ given in absurd (cc none);
    back = λ n e. absurd (cc (t, ap (target p) e));
  }

  -- the code of a call
  called_fits : (p : ℕ) (args : List MonExpression) (i : Instr) (r : Option ℕ) → ((q : ℕ) → target q i ≡ None) → (operands_of i).taken ≡ length args
      → (operands_of i).given ≡ 1 → Empty p → HasAt code p (arguments_code args ++ (i ∷ (result_code r ∷ [])))
      → AllFit p (arguments_code args ++ (i ∷ (result_code r ∷ [])))
  called_fits p args i r t taken given empty has =
      let ca = arguments_code args in
      let h = has_back code p ca _ has in
      let e : p + length (ca ++ i ∷ []) ≡ p + length ca + 1 = omega (arith, length-append ca (i ∷ [])) in
      let one = operands_on p 1 (ca ++ i ∷ []) empty (has_join code p ca (i ∷ []) (has_front code p ca _ has) (h.0, tt)) (call_leads args i taken given) in
      fit_on p ca _ (stays_fit p ca (arguments_stay args)) (
        call_fits (p + length ca) i (t (p + length ca)) given (subst (λ n. operands_behind 0 (take n code) ≡ Some 1) e one),
        stays_fit (p + length ca + 1) (result_code r ∷ []) (result_stays r),
      )

  choice_fits : (p : ℕ) (e : MonExpression) (ca cb : List Instr) → Empty p → HasAt code p (choice_code (expression_code e) ca cb)
      → p + length (choice_code (expression_code e) ca cb) < length code → Leads 0 ca 0 → Leads 0 cb 0
      → (Empty (p + length (expression_code e) + 1) → AllFit (p + length (expression_code e) + 1) ca)
      → (Empty (p + length (expression_code e) + 1 + length ca + 1) → AllFit (p + length (expression_code e) + 1 + length ca + 1) cb)
      → AllFit p (choice_code (expression_code e) ca cb)
  choice_fits p e ca cb empty has inside la lb fa fb =
      let ce = expression_code e in
      let skip = instr.SkipIfZero (length ca + 1) in
      let pass = instr.GoOn (length cb) in
      let s = p + length ce in
      let g = s + 1 + length ca in
      let h1 = has_back code p ce _ has in
      let h2 = has_back code (s + 1) ca _ h1.1 in
      let all = length_choice ce ca cb in
      let test = empty_on p (ce ++ skip ∷ []) empty (has_join code p ce (skip ∷ []) (has_front code p ce _ has) (h1.0, tt)) (test_leads e (length ca + 1)) in
      let at1 : p + length (ce ++ skip ∷ []) ≡ s + 1 = omega (arith, length-append ce (skip ∷ [])) in
      let e1 = subst Empty at1 test in
      let e2 = empty_on (s + 1) ca e1 (has_front code (s + 1) ca _ h1.1) la in
      let e3 = empty_on g (pass ∷ []) e2 (h2.0, tt) refl in
      let e4 = empty_on (g + 1) cb e3 h2.1 lb in
      let to : s + 1 + (length ca + 1) ≡ g + 1 = omega arith in
      let inside1 : g + 1 < length code = omega (arith, all, inside) in
      let inside2 : g + 1 + length cb < length code = omega (arith, all, inside) in
      fit_on p ce _ (stays_fit p ce (expression_stays e)) (
        jump_fits s (g + 1) skip (ap Some to) inside1 e3 e1 (λ m q. absurd (cc q)),
        fit_on (s + 1) ca _ (fa e1)
            (jump_fits g (g + 1 + length cb) pass refl inside2 e4 e3 (λ m q. absurd (cc q)), fb e3),
      )

  loop_fits : (p : ℕ) (ca cb : List Instr) → Empty p → HasAt code p (loop_code ca cb) → p + length (loop_code ca cb) < length code → Leads 0 ca 0
      → Leads 0 cb 0 → (Empty (p + 1 + 1 + length cb) → AllFit (p + 1 + 1 + length cb) ca) → (Empty (p + 1 + 1) → AllFit (p + 1 + 1) cb)
      → AllFit p (loop_code ca cb)
  loop_fits p ca cb empty has inside la lb fa fb =
      let back = length cb + length ca + 1 in
      let first = instr.GoOn (length cb + 1) in
      let turn = instr.GoBack back in
      let before_at = p + 1 + 1 + length cb in
      let back_at = before_at + length ca in
      let h1 = has_back code (p + 1 + 1) cb _ has.1.1 in
      let h2 = has_back code before_at ca _ h1 in
      let all = length_loop ca cb in
      let e1 = empty_on p (first ∷ []) empty (has.0, tt) refl in
      let e2 = empty_on (p + 1) (instr.Step ∷ []) e1 (has.1.0, tt) refl in
      let e3 = empty_on (p + 1 + 1) cb e2 (has_front code (p + 1 + 1) cb _ has.1.1) lb in
      let e4 = empty_on before_at ca e3 (has_front code before_at ca _ h1) la in
      let e5 = empty_on back_at (turn ∷ []) e4 (h2.0, tt) refl in
      let to1 : p + 1 + (length cb + 1) ≡ before_at = omega arith in
      let to2 : back_at - back ≡ p + 1 = omega arith in
      let inside1 : before_at < length code = omega (arith, all, inside) in
      let inside2 : p + 1 < length code = omega (arith, all, inside) in
      let turns = jump_fits back_at (p + 1) turn (ap Some to2) inside2 e1 e5 (back_to back_at back (p + 1) to2 has.1.0) in
      let step = stay_fits (p + 1) instr.Step (λ q. (refl, refl)) in
      let before = fit_on before_at ca (turn ∷ []) (fa e3) (turns, tt) in
      let rest = fit_on (p + 1 + 1) cb (ca ++ turn ∷ []) (fb e2) before in
      (jump_fits p before_at first (ap Some to1) inside1 e3 e1 (λ m q. absurd (cc q)), (step, rest))

  mutual
    statement_fits : (a : MonStatement) (p behind : ℕ) (ls : List OpenLabel) → Empty p → 2 ≤ behind → OpenEnds ls behind
        → p + length (statement_code a behind ls) + behind ≡ length code → HasAt code p (statement_code a behind ls) → AllFit p (statement_code a behind ls)
    statement_fits (Set r e) p behind ls em two w n has = stays_fit p _ (stay_then (expression_code e) (instr.Put r) (expression_stays e) (λ q. (refl, refl)))
    statement_fits (Store r t e) p behind ls em two w n has =
        stays_fit p (instr.Get r ∷ (expression_code e ++ instr.Store t ∷ []))
        ((λ q. (refl, refl)), stay_then (expression_code e) (instr.Store t) (expression_stays e) (λ q. (refl, refl)))
    statement_fits Step p behind ls em two w n has = (stay_fits p instr.Step (λ q. (refl, refl)), tt)
    statement_fits (Assert d v number line kind) p behind ls em two w n has =
        stays_fit p _ (stay_on (expression_code d) _ (expression_stays d)
        (stay_then (expression_code v) (instr.Assert number line kind) (expression_stays v) (λ q. (refl, refl))))
    statement_fits (PutChar r e) p behind ls em two w n has =
        stays_fit p _ (stay_on (expression_code e) (instr.PutChar ∷ (result_code r ∷ [])) (expression_stays e) ((λ q. (refl, refl)), result_stays r))
    statement_fits (GetChar r) p behind ls em two w n has = stays_fit p (instr.GetChar ∷ (result_code r ∷ [])) ((λ q. (refl, refl)), result_stays r)
    statement_fits (Exit e) p behind ls em two w n has = stays_fit p _ (stay_then (expression_code e) instr.Exit (expression_stays e) (λ q. (refl, refl)))
    statement_fits (PrintText bytes) p behind ls em two w n has = stays_fit p _ (text_stays bytes)
    statement_fits (PrintSigned e) p behind ls em two w n has =
        stays_fit p _ (stay_then (expression_code e) instr.PutNumber (expression_stays e) (λ q. (refl, refl)))
    statement_fits (PrintUnsigned e) p behind ls em two w n has =
        stays_fit p _ (stay_then (expression_code e) instr.PutNumber (expression_stays e) (λ q. (refl, refl)))
    statement_fits (PrintString e) p behind ls em two w n has =
        stays_fit p _ (stay_then (expression_code e) instr.PutString (expression_stays e) (λ q. (refl, refl)))
    statement_fits (Act r f args) p behind ls em two w n has = called_fits p args (instr.Act f (length args)) r (λ q. refl) refl refl em has
    statement_fits (Call r f args) p behind ls em two w n has = called_fits p args (instr.Call f (length args)) r (λ q. refl) refl refl em has
    statement_fits (If e a b) p behind ls em two w n has =
        let cb = statements_code b behind ls in
        let ca = statements_code a (1 + length cb + behind) ls in
        let ce = expression_code e in
        let h1 = has_back code p ce _ has in
        let h2 = has_back code (p + length ce + 1) ca _ h1.1 in
        let all = length_choice ce ca cb in
        let na : p + length ce + 1 + length ca + (1 + length cb + behind) ≡ length code = omega (arith, all, n) in
        let nb : p + length ce + 1 + length ca + 1 + length cb + behind ≡ length code = omega (arith, all, n) in
        choice_fits p e ca cb em has (omega (arith, n, two)) (statements_lead a (1 + length cb + behind) ls) (statements_lead b behind ls)
        (λ e1. statements_fit a (p + length ce + 1) (1 + length cb + behind) ls e1 (omega (arith, two))
        (ends_more ls behind (1 + length cb + behind) (omega arith) w) na (has_front code _ ca _ h1.1))
        (λ e3. statements_fit b (p + length ce + 1 + length ca + 1) behind ls e3 two w nb h2.1)
    statement_fits (Loop a b) p behind ls em two w n has =
        let ca = statements_code a (1 + behind) ls in
        let cb = statements_code b (length ca + 1 + behind) ls in
        let turn = instr.GoBack (length cb + length ca + 1) in
        let before_at = p + 1 + 1 + length cb in
        let h1 = has_back code (p + 1 + 1) cb _ has.1.1 in
        let all = length_loop ca cb in
        let na : before_at + length ca + (1 + behind) ≡ length code = omega (arith, all, n) in
        let nb : p + 1 + 1 + length cb + (length ca + 1 + behind) ≡ length code = omega (arith, all, n) in
        loop_fits p ca cb em has (omega (arith, n, two)) (statements_lead a (1 + behind) ls) (statements_lead b (length ca + 1 + behind) ls)
        (λ e3. statements_fit a before_at (1 + behind) ls e3 (omega (arith, two)) (ends_more ls behind (1 + behind) (omega arith) w) na
        (has_front code before_at ca _ h1))
        (λ e2. statements_fit b (p + 1 + 1) (length ca + 1 + behind) ls e2 (omega (arith, two))
        (ends_more ls behind (length ca + 1 + behind) (omega arith) w) nb (has_front code (p + 1 + 1) cb _ has.1.1))
    statement_fits (Labelled a l) p behind ls em two w n has =
        let ls' = ls ++ record { label = l; behind = behind } ∷ [] in
        let end : p + length (statements_code a behind ls') ≡ length code - behind = omega (arith, n) in
        let empty = subst Empty end (empty_on p (statements_code a behind ls') em has (statements_lead a behind ls')) in
        statements_fit a p behind ls' em two (ends_last ls l behind two empty w) n has
    statement_fits (Goto l) p behind ls em two w n has = goto_fits p (behind_label ls l) behind em (label_ends ls l behind w) n has
    statement_fits (Return e) p behind ls em two w n has =
        let ca = returned_code e in
        let at : p + length (ca ++ instr.Return ∷ []) ≡ p + length ca + 1 = omega (arith, length-append ca (instr.Return ∷ [])) in
        let empty = empty_on p (ca ++ instr.Return ∷ []) em has (statement_leads (Return e) behind ls) in
        fit_on p ca (instr.Return ∷ []) (stays_fit p ca (returned_stays e)) (return_fits (p + length ca) (subst Empty at empty), tt)

    statements_fit : (a : MonStatements) (p behind : ℕ) (ls : List OpenLabel) → Empty p → 2 ≤ behind → OpenEnds ls behind
        → p + length (statements_code a behind ls) + behind ≡ length code → HasAt code p (statements_code a behind ls) → AllFit p (statements_code a behind ls)
    statements_fit NoStatement p behind ls em two w n has = tt
    statements_fit (Then a rest) p behind ls em two w n has =
        let cr = statements_code rest behind ls in
        let ca = statement_code a (length cr + behind) ls in
        let len = length-append ca cr in
        let na : p + length ca + (length cr + behind) ≡ length code = omega (arith, len, n) in
        let nr : p + length ca + length cr + behind ≡ length code = omega (arith, len, n) in
        let ha = has_front code p ca cr has in
        fit_on p ca cr (statement_fits a p (length cr + behind) ls em (omega (arith, two)) (ends_more ls behind (length cr + behind) (omega arith) w) na ha)
        (statements_fit rest (p + length ca) behind ls (empty_on p ca em ha (statement_leads a (length cr + behind) ls)) two w nr
        (has_back code p ca cr has))

  -- ---- functions

  function_fits : (f : MonFunction) (p behind : ℕ) → Empty p → p + length (function_code f behind) + behind ≡ length code
      → HasAt code p (function_code f behind) → AllFit p (function_code f behind)
  function_fits f p behind em n has =
      let cb = statements_code f.body (2 + behind) [] in
      let end = instr.Push (pos 0) ∷ (instr.Return ∷ []) in
      let len : length (function_code f behind) ≡ length cb + 2 = length-append cb end in
      let at : p + length (function_code f behind) ≡ p + length cb + 1 + 1 = omega (arith, len) in
      let empty = empty_on p (function_code f behind) em has (function_leads f behind) in
      fit_on p cb end (statements_fit f.body p (2 + behind) [] em (omega arith) tt (omega (arith, len, n)) (has_front code p cb end has))
      (stay_fits (p + length cb) (instr.Push (pos 0)) (λ q. (refl, refl)), (return_fits (p + length cb + 1) (subst Empty at empty), tt))

  functions_fit : (fs : List MonFunction) (p : ℕ) → Empty p → p + length (functions_code fs) ≡ length code → HasAt code p (functions_code fs)
      → AllFit p (functions_code fs)
  functions_fit [] p em n has = tt
  functions_fit (f ∷ fs) p em n has =
      let cr = functions_code fs in
      let cf = function_code f (length cr) in
      let len = length-append cf cr in
      let hf = has_front code p cf cr has in
      fit_on p cf cr (function_fits f p (length cr) em (omega (arith, len, n)) hf)
      (functions_fit fs (p + length cf) (empty_on p cf em hf (function_leads f (length cr))) (omega (arith, len, n)) (has_back code p cf cr has))

  -- a function begins inside the code
  start_empty : (f : MonFunction) (fs : List MonFunction) (p : ℕ) → Empty p → p + length (functions_code (f ∷ fs)) ≡ length code → IsEmptyAt code p
  start_empty f fs p em n =
      let cb = statements_code f.body (2 + length (functions_code fs)) [] in
      record {
        inside = omega (
          arith,
          n,
          length-append (function_code f (length (functions_code fs))) (functions_code fs),
          length-append cb
              (instr.Push (pos 0) ∷ (instr.Return ∷ [])),
        );
        empty = em;
      }

  starts_empty : (fs : List MonFunction) (p : ℕ) → Empty p → p + length (functions_code fs) ≡ length code → HasAt code p (functions_code fs) → (k : ℕ)
      → IfSome (slice_get (entries_from p fs) k) (λ e. IsEmptyAt code e.start)
  starts_empty [] p em n has k = tt
  starts_empty (f ∷ fs) p em n has zero = start_empty f fs p em n
  starts_empty (f ∷ fs) p em n has (suc k) =
      let cr = functions_code fs in
      let cf = function_code f (length cr) in
      starts_empty fs (p + length cf) (empty_on p cf em (has_front code p cf cr has) (function_leads f (length cr))) (omega (arith, length-append cf cr, n))
      (has_back code p cf cr has) k

  if_empty : (b : Bool) (e : Entry) (o : Option Entry) → IsEmptyAt code e.start → IfSome o (λ d. IsEmptyAt code d.start)
      → IfSome (if b then Some e else o) (λ d. IsEmptyAt code d.start)
  if_empty true e o h k = h
  if_empty false e o h k = k

  named_empty : (name : List ℕ) (fs : List MonFunction) (p : ℕ) → Empty p → p + length (functions_code fs) ≡ length code → HasAt code p (functions_code fs)
      → IfSome (entry_named name p fs) (λ e. IsEmptyAt code e.start)
  named_empty name [] p em n has = tt
  named_empty name (f ∷ fs) p em n has =
      let cr = functions_code fs in
      let cf = function_code f (length cr) in
      if_empty (bytes_eq f.name name) (entry_at p f) _ (start_empty f fs p em n)
      (named_empty name fs (p + length cf) (empty_on p cf em (has_front code p cf cr has) (function_leads f (length cr)))
      (omega (arith, length-append cf cr, n)) (has_back code p cf cr has))

module _ (name : List ℕ) (fs : List MonFunction) where
  abbrev all : List Instr
  all = functions_code fs

  whole : 0 + length all ≡ length all
  whole = omega arith

  each_fits : (p : ℕ) (i : Instr) → slice_get all p ≡ Some i → Fits all p i
  each_fits p i h =
      let e : 0 + p ≡ p = omega arith in
      subst (λ q. Fits all q i) e (fit_at all 0 all p i (functions_fit all fs 0 refl whole (has_behind all [])) h)

  -- the code of a program is sound
  pub is_sound : IsSound all (entries_from 0 fs) (entry_named name 0 fs)
  is_sound = record {
    operands = (0, functions_lead fs);
    jumps = λ p i to h t. (each_fits p i h).jumps to t;
    behind = λ p i to h t. (each_fits p i h).behind to t;
    calls = λ p f k h. (each_fits p (instr.Call f k) h).calls f k refl;
    returns = λ p h. (each_fits p instr.Return h).returns refl;
    extends = λ p low h. pushed_before fs p low h;
    back = λ p n h. (each_fits p (instr.GoBack n) h).back n refl;
    starts = starts_empty all fs 0 refl whole (has_behind all []);
    main = named_empty all name fs 0 refl whole (has_behind all []);
  }
