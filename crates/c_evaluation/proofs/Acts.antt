-- Expressions that stand for their effects, from their parts: `&&`, `||` and `?:` by whether their right sides are pure.
use Rattle.std.proofs.Common.{◌≡◌, Bool, true, false, ◌&&◌, List, ◌++◌, refl, ap, sym, subst, ◌∙◌}
use Rattle.std.specs.Prelude.{if◌then◌else◌}
use Rattle.c_syntax.specs.declared.place.Place.{Place}
use Rattle.c_syntax.specs.Ctypes.{PlainType}
use Rattle.c_syntax.specs.Expressions.{Expression, Node, Both, Either, Choice}
use Rattle.c_syntax.specs.Programs.{TranslationUnit}
use Rattle.mon_syntax.specs.declared.tree.MonType.{MonType}
use Rattle.mon_syntax.specs.Registers.{Names}
use Rattle.mon_syntax.specs.Trees.{MonExpression, MonStatements, NoStatement, If}
use Rattle.c_effects.specs.Expressions.{before, one}
use Rattle.c_effects.specs.Full.{act_takes, is_pure, takes}
use Rattle.c_effects.specs.Named.{unit_of, with_registers}
use Rattle.c_effects.proofs.Sequences.{registers_then}
use Rattle.c_effects.specs.Letters.{ActHasLetters, ValueHasLetters, Where}
use Rattle.c_evaluation.specs.Evaluated.{act_by, condition_result_by, prepare_by}
use Rattle.c_evaluation.proofs.Assignments.{pair}

module _ (n n1 : Names) (t t1 t2 : MonStatements) (at : Place) (u : PlainType) (a : Expression) (test : MonExpression) (first : t1 ≡ before t (prepare_by n a))
    (names : n1 ≡ with_registers (takes (unit_of n) a) n) (test_is : test ≡ condition_result_by n a) where
  -- an `if` on the value of the first one
  abbrev behind : Names
  behind = with_registers (takes (unit_of n) a) n

  chosen : (on off : MonStatements) (x y : Names → MonStatements) → on ≡ x n1 → off ≡ y n1 → t2 ≡ before t1 (one (If test on off))
      → t2 ≡ before t (before (prepare_by n a) (one (If (condition_result_by n a) (x behind) (y behind))))
  chosen on off x y on_is off_is last =
      let on_at = on_is ∙ ap x names in
      let off_at = off_is ∙ ap y names in
      pair t (prepare_by n a) (one (If (condition_result_by n a) (x behind) (y behind))) first (last ∙ (λ i. before t1 (one (If (test_is i) (on_at i) (off_at i)))))

  module _ (b : Expression) (on : MonStatements) (on_is : on ≡ act_by n1 b) (pure : is_pure b ≡ false) where
    pub both_acted : t2 ≡ before t1 (one (If test on NoStatement)) → t2 ≡ before t (act_by n (Node at u (Both a b)))
    both_acted last =
        let whole = before (prepare_by n a) (one (If (condition_result_by n a) (act_by behind b) NoStatement)) in
        chosen on NoStatement (λ m. act_by m b) (λ m. NoStatement) on_is refl last ∙ ap (λ q. before t (if q then act_by n a else whole)) (sym pure)

    pub either_acted : t2 ≡ before t1 (one (If test NoStatement on)) → t2 ≡ before t (act_by n (Node at u (Either a b)))
    either_acted last =
        let whole = before (prepare_by n a) (one (If (condition_result_by n a) NoStatement (act_by behind b))) in
        chosen NoStatement on (λ m. NoStatement) (λ m. act_by m b) refl on_is last ∙ ap (λ q. before t (if q then act_by n a else whole)) (sym pure)

  module _ (b c : Expression) (n2 : Names) (on off : MonStatements) (on_is : on ≡ act_by n1 b) (names2 : n2 ≡ with_registers (act_takes (unit_of n1) b) n1) (off_is : off ≡ act_by n2 c)
      (pure : is_pure b && is_pure c ≡ false) where
    pub choice_acted : t2 ≡ before t1 (one (If test on off)) → t2 ≡ before t (act_by n (Node at u (Choice a b c)))
    choice_acted last =
        let other : Names → MonStatements = λ m. act_by (with_registers (act_takes (unit_of m) b) m) c in
        let whole = before (prepare_by n a) (one (If (condition_result_by n a) (act_by behind b) (other behind))) in
        chosen on off (λ m. act_by m b) other on_is (off_is ∙ ap (λ m. act_by m c) names2) last ∙ ap (λ q. before t (if q then act_by n a else whole)) (sym pure)

-- further registers after others, by the program of names that have more registers
pub taken_then : {n1 n2 : Names} (n : Names) (ts : List MonType) (us : TranslationUnit → List MonType) → n1 ≡ with_registers ts n → n2 ≡ with_registers (us (unit_of n1)) n1
    → n2 ≡ with_registers (ts ++ us (unit_of n)) n
taken_then n ts us first second = second ∙ (λ i. with_registers (us (unit_of (first i))) (first i)) ∙ registers_then ts (us (unit_of n)) n

-- ---- by whether what may be left out is pure

module _ (n : Names) (at : Place) (u : PlainType) (a b : Expression) where
  module _ (pure : is_pure b ≡ true) where
    pub both_pure : act_by n a ≡ act_by n (Node at u (Both a b))
    both_pure = ap (λ q. if q then act_by n a else before (prepare_by n a) (one (If (condition_result_by n a) (act_by (with_registers (takes (unit_of n) a) n) b) NoStatement))) (sym pure)

    pub either_pure : act_by n a ≡ act_by n (Node at u (Either a b))
    either_pure = ap (λ q. if q then act_by n a else before (prepare_by n a) (one (If (condition_result_by n a) NoStatement (act_by (with_registers (takes (unit_of n) a) n) b)))) (sym pure)

    pub one_pure_takes : act_takes (unit_of n) a ≡ (if is_pure b then act_takes (unit_of n) a else takes (unit_of n) a ++ act_takes (unit_of n) b)
    one_pure_takes = ap (λ q. if q then act_takes (unit_of n) a else takes (unit_of n) a ++ act_takes (unit_of n) b) (sym pure)

    pub one_pure_letters : ActHasLetters a → Where (is_pure b) (ActHasLetters a) (ValueHasLetters a × ActHasLetters b)
    one_pure_letters = subst (λ q. ActHasLetters a → Where q (ActHasLetters a) (ValueHasLetters a × ActHasLetters b)) (sym pure) (λ l. l)

  module _ (impure : is_pure b ≡ false) where
    pub one_takes : takes (unit_of n) a ++ act_takes (unit_of n) b ≡ (if is_pure b then act_takes (unit_of n) a else takes (unit_of n) a ++ act_takes (unit_of n) b)
    one_takes = ap (λ q. if q then act_takes (unit_of n) a else takes (unit_of n) a ++ act_takes (unit_of n) b) (sym impure)

    pub one_letters : ValueHasLetters a → ActHasLetters b → Where (is_pure b) (ActHasLetters a) (ValueHasLetters a × ActHasLetters b)
    one_letters l m = subst (λ q. Where q (ActHasLetters a) (ValueHasLetters a × ActHasLetters b)) (sym impure) (l, m)

module _ (n : Names) (at : Place) (u : PlainType) (a b c : Expression) where
  abbrev taken : Bool → List MonType
  taken q = if q then act_takes (unit_of n) a else takes (unit_of n) a ++ act_takes (unit_of n) b ++ act_takes (unit_of n) c

  module _ (pure : is_pure b && is_pure c ≡ true) where
    pub choice_pure : act_by n a ≡ act_by n (Node at u (Choice a b c))
    choice_pure =
        let on = with_registers (takes (unit_of n) a) n in
        ap (λ q. if q then act_by n a else before (prepare_by n a) (one (If (condition_result_by n a) (act_by on b) (act_by (with_registers (act_takes (unit_of n) b) on) c)))) (sym pure)

    pub choice_pure_takes : act_takes (unit_of n) a ≡ act_takes (unit_of n) (Node at u (Choice a b c))
    choice_pure_takes = ap taken (sym pure)

    pub choice_pure_letters : ActHasLetters a → ActHasLetters (Node at u (Choice a b c))
    choice_pure_letters = subst (λ q. ActHasLetters a → Where q (ActHasLetters a) (ValueHasLetters a × ActHasLetters b × ActHasLetters c)) (sym pure) (λ l. l)

  module _ (impure : is_pure b && is_pure c ≡ false) where
    pub choice_takes : takes (unit_of n) a ++ act_takes (unit_of n) b ++ act_takes (unit_of n) c ≡ act_takes (unit_of n) (Node at u (Choice a b c))
    choice_takes = ap taken (sym impure)

    pub choice_letters : ValueHasLetters a → ActHasLetters b → ActHasLetters c → ActHasLetters (Node at u (Choice a b c))
    choice_letters l m r = subst (λ q. Where q (ActHasLetters a) (ValueHasLetters a × ActHasLetters b × ActHasLetters c)) (sym impure) (l, m, r)
