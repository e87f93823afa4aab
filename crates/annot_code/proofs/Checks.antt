-- Checks of a contract, as the program writes them.
use Rattle.std.proofs.Common.{◌≡◌, ℕ, suc, pos, ◌+◌, Bool, true, false, cond, nat_eq, List, [], ◌∷◌, length, Option, Some, None, refl, ap, ◌∙◌, arith}
use Rattle.c_syntax.specs.Logic.{Annotation}
use Rattle.c_syntax.specs.Programs.{NamedBehavior}
use Rattle.c_model.specs.ContractChecks.{Check}
use Rattle.mon_syntax.specs.declared.tree.MonType.TheVariants.{I32}
use Rattle.mon_syntax.specs.Registers.{Names}
use Rattle.mon_syntax.specs.Trees.{MonExpression, Register, Constant, MonStatement, Assert, Set, MonStatements, Then}
use Rattle.behavior_split.specs.Names.{index_from, index_named}
use Rattle.c_effects.specs.Expressions.{before, one}
use Rattle.c_effects.proofs.Sequences.{before_assoc, more}
use Rattle.annot_code.specs.Checks.{Flags, check_by, checks_by, counted_behind_check, names_behind_check, names_behind_checks}
use Rattle.annot_simulation.specs.Code.{Judgement}
use Rattle.annot_simulation.specs.ContractCode.{assumption_code, flag_named}
use Rattle.annot_pieces.specs.Plain.{Known}
use Rattle.annot_pieces.proofs.Rust.{two}

-- ---- flags of names

-- the index that was found, or else the number of all
abbrev pub index_or : ℕ → Option ℕ → ℕ
index_or n None = n
index_or n (Some i) = i

-- one more behavior, whose name may be this
flag_next : (b : Bool) (h k n m : ℕ) (o : Option ℕ) → m ≡ h + index_or n o → cond b (h + k) m ≡ h + index_or n (cond b (Some k) o)
flag_next true h k n m o is = refl
flag_next false h k n m o is = is

-- the flag of a name is that of its index
flag_from : (x h k : ℕ) (bs : List NamedBehavior) → flag_named x (h + k) bs ≡ h + index_or (k + length bs) (index_from x k bs)
flag_from x h k [] =
    let none : k ≡ k + 0 = omega arith in
    ap (λ n. h + n) none
flag_from x h k (b ∷ bs) =
    let next : suc (h + k) ≡ h + suc k = omega arith in
    let count : suc k + length bs ≡ k + suc (length bs) = omega arith in
    flag_next (nat_eq x b.name) h k (k + suc (length bs)) (flag_named x (suc (h + k)) bs) (index_from x (suc k) bs)
    (ap (λ n. flag_named x n bs) next ∙ flag_from x h (suc k) bs ∙ ap (λ n. h + index_or n (index_from x (suc k) bs)) count)

pub flag_is : (x h : ℕ) (bs : List NamedBehavior) → flag_named x h bs ≡ h + index_or (length bs) (index_named x bs)
flag_is x h bs =
    let at : h ≡ h + 0 = omega arith in
    let count : 0 + length bs ≡ length bs = omega arith in
    ap (λ n. flag_named x n bs) at ∙ flag_from x h 0 bs ∙ ap (λ n. h + index_or n (index_named x bs)) count

-- ---- an assumption

pub assumed_is :
    (t t1 t2 t3 : MonStatements) (j : Judgement) (a : Annotation) (h : ℕ) (says always truth : MonExpression) (k : MonStatement) → t1 ≡ before t j.stmts → says ≡ Register j.flag → always ≡ Constant I32 (pos 1)
    → truth ≡ Register j.truth → k ≡ Assert says always a.number a.place.line a.kind → t2 ≡ before t1 (one k) → t3 ≡ before t2 (one (Set h truth)) → t3 ≡ before t (assumption_code a h j)
assumed_is t t1 t2 t3 j a h says always truth k first says_is always_is truth_is k_is second last =
    let asked = Assert (Register j.flag) (Constant I32 (pos 1)) a.number a.place.line a.kind in
    let asked_is : k ≡ asked = k_is ∙ (λ i. Assert (says_is i) (always_is i) a.number a.place.line a.kind) in
    last ∙ (λ i. before (second i) (one (Set h (truth_is i)))) ∙ (λ i. before (before (first i) (one (asked_is i))) (one (Set h (Register j.truth))))
    ∙ two (before t j.stmts) asked (Set h (Register j.truth)) ∙ before_assoc t j.stmts (Then asked (one (Set h (Register j.truth))))

-- ---- a check, and then the others

module _ (k : Known) (f : Flags) (n : Names) (counted : Option ℕ) where
  module _ (x : Check) (rest : List Check) {m : Names} {after : Option ℕ} (is : after ≡ counted_behind_check k f n counted x) (names : m ≡ names_behind_check k f counted x n) where
    pub more_checked :
        (t : MonStatements) {t' left all : MonStatements} → left ≡ checks_by k f n counted (x ∷ rest) → t' ≡ before t (check_by k f n counted x) → before t left ≡ all
        → before t' (checks_by k f m after rest) ≡ all
    more_checked t {t'} {left} {all} first put kept =
        ap (before t') (λ i. checks_by k f (names i) (is i) rest)
        ∙ more t (check_by k f n counted x) (checks_by k f (names_behind_check k f counted x n) (counted_behind_check k f n counted x) rest) first put kept

    pub behind_next : names_behind_checks k f after rest m ≡ names_behind_checks k f counted (x ∷ rest) n
    behind_next = λ i. names_behind_checks k f (is i) rest (names i)
