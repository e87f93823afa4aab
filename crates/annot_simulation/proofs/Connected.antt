-- Connectives: their right side runs only where it is asked, or where nothing is seen of it.
use Rattle.std.proofs.Common.{◌≡◌, suc, ◌<◌, ◌≤◌, ℤ, Bool, true, false, ◌&&◌, if◌then◌else◌, List, [], ◌∷◌, ◌++◌, length, length-append, Option, Some, None, refl, sym, ap, ◌∙◌, subst, arith}
use Rattle.c_syntax.specs.declared.logic.Connective.{Connective}
use Rattle.c_syntax.specs.declared.logic.Connective.TheVariants.{And, Xor, Or, Implies, Iff}
use Rattle.c_model.specs.Integers.{truth}
use Rattle.c_model.specs.Memory.{Value}
use Rattle.mon_syntax.specs.declared.tree.MonType.{MonType}
use Rattle.mon_syntax.specs.declared.tree.MonType.TheVariants.{I32}
use Rattle.mon_syntax.specs.Arithmetic.{operate}
use Rattle.mon_syntax.specs.BlockMemory.{is_some}
use Rattle.mon_syntax.specs.Trees.{MonExpression, Constant, Binary, MonStatements, NoStatement, Then}
use Rattle.annot_simulation.specs.Code.{Code, conjunction, branch, truth_code, has_none, is_sure, connective_operator, both_asked, left_first, connected as connected_code}
use Rattle.annot_simulation.specs.Does.{Setting, runs}
use Rattle.annot_simulation.proofs.Steps.{same_all, after_runs, HasNumber, operation}
use Rattle.annot_simulation.proofs.Parts.{truths, chosen, FlagIs, Codes, Both, both_run, two_runs, branch_runs, sure_codes}
use Rattle.annot_simulation.proofs.Quiet.{connected}

-- ---- operators on truths

-- both sides asked
pub asked_is : (c : Connective) (x y : Bool) (z : ℤ) → truths (connected c (Some x) (Some y)) ≡ Some z → operate (connective_operator c) I32 (truth x) (truth y) ≡ Some z
asked_is And true true z e = e
asked_is And true false z e = e
asked_is And false true z e = e
asked_is And false false z e = e
asked_is Or true true z e = e
asked_is Or true false z e = e
asked_is Or false true z e = e
asked_is Or false false z e = e
asked_is Implies true true z e = e
asked_is Implies true false z e = e
asked_is Implies false true z e = e
asked_is Implies false false z e = e
asked_is Iff true true z e = e
asked_is Iff true false z e = e
asked_is Iff false true z e = e
asked_is Iff false false z e = e
asked_is Xor true true z e = e
asked_is Xor true false z e = e
asked_is Xor false true z e = e
asked_is Xor false false z e = e

-- two answers lead to one
answered : (c : Connective) (x y : Bool) → is_some (truths (connected c (Some x) (Some y))) ≡ true
answered And true y = refl
answered And false y = refl
answered Or true y = refl
answered Or false y = refl
answered Implies true y = refl
answered Implies false y = refl
answered Iff true y = refl
answered Iff false true = refl
answered Iff false false = refl
answered Xor true true = refl
answered Xor true false = refl
answered Xor false y = refl

-- no answer on the left is none
left_none : (c : Connective) (v : Option Bool) → connected c None v ≡ None
left_none And v = refl
left_none Or v = refl
left_none Implies v = refl
left_none Iff v = refl
left_none Xor v = refl

-- where both are asked
pub data IsStrict : Connective → Type 0 where
  IsIff : IsStrict Iff
  IsXor : IsStrict Xor

strict_none : (c : Connective) → IsStrict c → (x : Bool) → connected c (Some x) None ≡ None
strict_none And h x = elim h [ ]
strict_none Or h x = elim h [ ]
strict_none Implies h x = elim h [ ]
strict_none Iff h true = refl
strict_none Iff h false = refl
strict_none Xor h true = refl
strict_none Xor h false = refl

truths_chosen : (u a b : Option Bool) → chosen u (truths a) (truths b) ≡ truths (chosen u a b)
truths_chosen None a b = refl
truths_chosen (Some true) a b = refl
truths_chosen (Some false) a b = refl

pub none_there : (a : MonStatements) (f : Option MonExpression) → has_none a f ≡ true → (a ≡ NoStatement) × (f ≡ None)
none_there NoStatement None e = (refl, refl)
none_there NoStatement (Some g) e = absurd cc
none_there (Then a rest) f e = absurd cc

pub conjunction_none : (f : Option MonExpression) → conjunction f None ≡ f
conjunction_none None = refl
conjunction_none (Some e) = refl

module _ (w : Setting) where
  -- the value of both truths
  asked_has : (c : Connective) (p q : Code) (u v : Option Bool) (later : List Value) → ((x : ℤ) → truths u ≡ Some x → HasNumber w p.value later x) → ((y : ℤ) → truths v ≡ Some y → HasNumber w q.value later y)
      → (x y : Bool) → u ≡ Some x → v ≡ Some y → (z : ℤ) → truths (connected c u v) ≡ Some z → HasNumber w (Binary (connective_operator c) I32 p.value q.value) later z
  asked_has c p q u v later hp hq x y eu ev z e =
      operation w (connective_operator c) I32 p.value q.value later (truth x) (truth y) z refl (hp (truth x) (ap truths eu)) (hq (truth y) (ap truths ev))
      (asked_is c x y z (sym (ap (λ u. truths (connected c u v)) eu ∙ ap (λ v. truths (connected c (Some x) v)) ev) ∙ e))

  -- the two truths where there is one of both
  strict_has : (c : Connective) → IsStrict c → (p q : Code) (u v : Option Bool) (later : List Value) → ((x : ℤ) → truths u ≡ Some x → HasNumber w p.value later x) → ((y : ℤ) → truths v ≡ Some y → HasNumber w q.value later y)
      → (z : ℤ) → truths (connected c u v) ≡ Some z → HasNumber w (Binary (connective_operator c) I32 p.value q.value) later z
  strict_has c strict p q u v later hp hq z e = by u v refl refl
    where
      by : (a b : Option Bool) → u ≡ a → v ≡ b → HasNumber w (Binary (connective_operator c) I32 p.value q.value) later z
      by None b eu ev = let none : None ≡ Some z = sym (ap (λ u. truths (connected c u v)) eu ∙ ap truths (left_none c v)) ∙ e in absurd cc
      by (Some x) None eu ev =
          let none : None ≡ Some z = sym (ap (λ u. truths (connected c u v)) eu ∙ ap (λ v. truths (connected c (Some x) v)) ev ∙ ap truths (strict_none c strict x)) ∙ e in absurd cc
      by (Some x) (Some y) eu ev = asked_has c p q u v later hp hq x y eu ev z e

  strict_there : (c : Connective) → IsStrict c → (u v : Option Bool) → is_some (truths (connected c u v)) ≡ (is_some (truths u) && is_some (truths v))
  strict_there c strict None v = ap (λ u. is_some (truths u)) (left_none c v)
  strict_there c strict (Some x) None = ap (λ u. is_some (truths u)) (strict_none c strict x)
  strict_there c strict (Some x) (Some y) = answered c x y

  strict_runs : (c : Connective) → IsStrict c → (p q : Code) (u v : Option Bool) (rs : List MonType) (regs : List Value) → Both w p q (truths u) (truths v) rs regs → Codes w (both_asked c p q) (truths (connected c u v)) rs regs
  strict_runs c strict p q u v rs regs h =
      (two_runs w p q (Binary (connective_operator c) I32 p.value q.value) (truths u) (truths v) (truths (connected c u v)) rs regs h (strict_there c strict u v)
      (λ later hp hq z e. strict_has c strict p q u v later hp hq z e)).codes

  -- a right side without statements and flag
  sure_runs : (c : Connective) (p q : Code) (u v : Option Bool) (rs : List MonType) (regs : List Value) → length rs ≤ length p.used → length p.used ≤ length q.used → is_sure q ≡ true
      → (cp : Codes w p (truths u) rs regs) → ((b : Bool) → u ≡ Some b → Codes w q (truths v) p.used cp.end) → Codes w (both_asked c p q) (truths (connected c u v)) rs regs
  sure_runs c p q u v rs regs le more sure cp cq = by u refl
    where
      here : (q.stmts ≡ NoStatement) × (q.flag ≡ None)
      here = none_there q.stmts q.flag sure

      e : MonExpression
      e = Binary (connective_operator c) I32 p.value q.value

      result : Option Bool → Option ℤ
      result u = truths (connected c u v)

      by : (a : Option Bool) → u ≡ a → Codes w (both_asked c p q) (truths (connected c u v)) rs regs
      by None eu =
          let none : truths (connected c u v) ≡ None = ap result eu ∙ ap truths (left_none c v) in record {
            end = cp.end;
            same = cp.same;
            is = after_runs w p.stmts q.stmts regs cp.end cp.is ∙ ap (λ a. runs w a cp.end) here.0;
            holds = λ later s.
                let hp = cp.holds later (record { long = s.long; below = λ j lt. s.below j (omega (arith, lt, more)) }) in record {
                  flag_is =
                      subst (λ f. FlagIs w (conjunction p.flag f) (is_some (truths (connected c u v))) later) (sym here.1)
                      (subst (λ f. FlagIs w f (is_some (truths (connected c u v))) later) (sym (conjunction_none p.flag))
                      (subst (λ b. FlagIs w p.flag b later) (ap (λ u. is_some (truths u)) eu ∙ sym (ap is_some none)) hp.flag_is));
                  value_is = λ z g. let off : None ≡ Some z = sym none ∙ g in absurd cc;
                };
          }
      by (Some x) eu = of_right v refl (cq x eu)
        where
          of_right : (b : Option Bool) → v ≡ b → Codes w q (truths v) p.used cp.end → Codes w (both_asked c p q) (truths (connected c u v)) rs regs
          of_right None ev h =
              let flag = (h.holds h.end (same_all (length q.used) h.end)).flag_is in
              let is_true : is_some (truths v) ≡ true = subst (λ f. FlagIs w f (is_some (truths v)) h.end) here.1 flag in
              let is_false : is_some (truths v) ≡ false = ap (λ v. is_some (truths v)) ev in absurd cc
          of_right (Some y) ev h =
              (two_runs w p q e (truths u) (truths v) (truths (connected c u v)) rs regs (both_run w p q (truths u) (truths v) rs regs le more cp h)
              (ap (λ u. is_some (result u)) eu ∙ ap (λ v. is_some (truths (connected c (Some x) v))) ev ∙ answered c x y
              ∙ sym (ap (λ u. is_some (truths u) && is_some (truths v)) eu ∙ ap (λ v. is_some (truths v)) ev))
              (λ later hp hq z g. asked_has c p q u v later hp hq x y eu ev z g)).codes

  -- ---- a left side first

  truth_codes : (b : Bool) (rs : List MonType) (regs : List Value) → Codes w (truth_code b rs) (truths (Some b)) rs regs
  truth_codes b rs regs = sure_codes w (Constant I32 (truth b)) (truths (Some b)) (truth b) rs regs refl (λ later s. refl)

  length_two : (rs : List MonType) → length (rs ++ I32 ∷ I32 ∷ []) ≡ suc (suc (length rs))
  length_two rs = omega (arith, length-append rs (I32 ∷ I32 ∷ []))

  module _ (p q : Code) (u v : Option Bool) (rs : List MonType) (regs : List Value) (le : length rs ≤ length p.used) (more : length p.used ≤ length q.used) (room : suc (length q.used) < length regs) (cp : Codes w p (truths u) rs regs)
      (cq : (b : Bool) → u ≡ Some b → Codes w q (truths v) p.used cp.end) where
    le_q : length rs ≤ length q.used
    le_q = omega (arith, le, more)

    and_runs : Codes w (branch I32 p q (truth_code false q.used)) (truths (chosen u v (Some false))) rs regs
    and_runs =
        subst (λ o. Codes w (branch I32 p q (truth_code false q.used)) o rs regs) (truths_chosen u v (Some false))
        (branch_runs w I32 p q (truth_code false q.used) u (truths v) (truths (Some false)) rs p.used q.used regs le le_q le_q (omega arith) room cp (λ e. cq true e) (λ e. truth_codes false q.used cp.end))

    implies_runs : Codes w (branch I32 p q (truth_code true q.used)) (truths (chosen u v (Some true))) rs regs
    implies_runs =
        subst (λ o. Codes w (branch I32 p q (truth_code true q.used)) o rs regs) (truths_chosen u v (Some true))
        (branch_runs w I32 p q (truth_code true q.used) u (truths v) (truths (Some true)) rs p.used q.used regs le le_q le_q (omega arith) room cp (λ e. cq true e) (λ e. truth_codes true q.used cp.end))

    or_runs : Codes w (branch I32 p (truth_code true q.used) q) (truths (chosen u (Some true) v)) rs regs
    or_runs =
        subst (λ o. Codes w (branch I32 p (truth_code true q.used) q) o rs regs) (truths_chosen u (Some true) v)
        (branch_runs w I32 p (truth_code true q.used) q u (truths (Some true)) (truths v) rs q.used p.used regs le_q le le_q (omega arith) room cp (λ e. truth_codes true q.used cp.end) (λ e. cq false e))

  -- the right side has its code wherever it is asked
  abbrev pub RightCodes : Connective → Option Bool → Type 0 → Type 0
  RightCodes And u C = (b : Bool) → u ≡ Some b → C
  RightCodes Or u C = (b : Bool) → u ≡ Some b → C
  RightCodes Implies u C = (b : Bool) → u ≡ Some b → C
  RightCodes Iff u C = C
  RightCodes Xor u C = C

  pub connected_runs : (c : Connective) (p q : Code) (u v : Option Bool) (rs : List MonType) (regs : List Value) → length rs ≤ length p.used → length p.used ≤ length q.used → length (connected_code c p q).used ≤ length regs
      → (cp : Codes w p (truths u) rs regs) → RightCodes c u (Codes w q (truths v) p.used cp.end) → Codes w (connected_code c p q) (truths (connected c u v)) rs regs
  connected_runs c p q u v rs regs le more room cp = by c (is_sure q) refl room
    where
      enough : length (q.used ++ I32 ∷ I32 ∷ []) ≤ length regs → suc (length q.used) < length regs
      enough l = omega (arith, l, length_two q.used)

      by : (o : Connective) (t : Bool) → is_sure q ≡ t → length (if t then both_asked o p q else left_first o p q).used ≤ length regs → RightCodes o u (Codes w q (truths v) p.used cp.end)
          → Codes w (if t then both_asked o p q else left_first o p q) (truths (connected o u v)) rs regs
      by And true s l cq = sure_runs And p q u v rs regs le more s cp cq
      by And false s l cq = and_runs p q u v rs regs le more (enough l) cp cq
      by Or true s l cq = sure_runs Or p q u v rs regs le more s cp cq
      by Or false s l cq = or_runs p q u v rs regs le more (enough l) cp cq
      by Implies true s l cq = sure_runs Implies p q u v rs regs le more s cp cq
      by Implies false s l cq = implies_runs p q u v rs regs le more (enough l) cp cq
      by Iff true s l cq = strict_runs Iff IsIff p q u v rs regs (both_run w p q (truths u) (truths v) rs regs le more cp cq)
      by Iff false s l cq = strict_runs Iff IsIff p q u v rs regs (both_run w p q (truths u) (truths v) rs regs le more cp cq)
      by Xor true s l cq = strict_runs Xor IsXor p q u v rs regs (both_run w p q (truths u) (truths v) rs regs le more cp cq)
      by Xor false s l cq = strict_runs Xor IsXor p q u v rs regs (both_run w p q (truths u) (truths v) rs regs le more cp cq)
