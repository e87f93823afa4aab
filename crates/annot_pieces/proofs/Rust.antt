-- Pieces of code, as they are written.
use Rattle.std.proofs.Common.{◌≡◌, ℕ, suc, ◌+◌, pos, List, [], ◌∷◌, ◌++◌, length, nat_eq, Option, Some, None, refl, sym, ap, ◌∙◌, arith}
use Rattle.std.proofs.lemmas.Bool.Decides.{nat_tests}
use Rattle.c_syntax.specs.Logic.{Annotation}
use Rattle.mon_syntax.specs.declared.tree.MonType.TheVariants.{I32}
use Rattle.mon_syntax.specs.declared.tree.MonStmt.{MonStmt}
use Rattle.mon_syntax.specs.Trees.{MonExpression, Register, Constant, MonStatement, MonStatements, NoStatement, Then, Set, If, Assert, plain_stmts}
use Rattle.c_effects.specs.Expressions.{before, one}
use Rattle.c_effects.proofs.Sequences.{before_assoc}
use Rattle.mem_preds.specs.declared.ranges.Bytes.{Bytes}
use Rattle.annot_simulation.specs.Code.{Judgement, asserted, has_none, take}
use Rattle.annot_pieces.specs.Plain.{all_bytes, bytes_of, taken_where}
use Rattle.annot_simulation.specs.Pointers.{PointerCode, take_both, take_pointer}

-- two statements
pub two : (a : MonStatements) (x y : MonStatement) → before (before a (one x)) (one y) ≡ before a (Then x (one y))
two a x y = before_assoc a (one x) (one y)

pub next_is : (r : ℕ) → suc r ≡ r + 1
next_is r = omega arith

pub next_two_is : (r : ℕ) → suc (suc r) ≡ r + 2
next_two_is r = omega arith

pub next_three_is : (r : ℕ) → suc (suc (suc r)) ≡ r + 3
next_three_is r = omega arith

pub next_four_is : (r : ℕ) → suc (suc (suc (suc r))) ≡ r + 4
next_four_is r = omega arith

pub next_five_is : (r : ℕ) → suc (suc (suc (suc (suc r)))) ≡ r + 5
next_five_is r = omega arith

pub ruleset next_rules = (next_is, next_two_is, next_three_is, next_four_is, next_five_is)

-- two statements, and others
pub two_more : (a : MonStatements) (x y : MonStatement) (rest : MonStatements) → before (before (before a (one x)) (one y)) rest ≡ before a (Then x (Then y rest))
two_more a x y rest = ap (λ b. before b rest) (two a x y) ∙ before_assoc a (Then x (one y)) rest

-- a zone, and others
pub zones_append : (b : Bytes) (bs : List Bytes) → all_bytes ((b ∷ []) ++ bs) ≡ bytes_of b ∷ all_bytes bs
zones_append b bs = refl

pub take_none : (a : MonStatements) (e : MonExpression) (r : ℕ) → before (before a (one (Set r (Constant I32 (pos 1))))) (one (Set (r + 1) e)) ≡ before a (take None e r)
take_none a e r = two a (Set r (Constant I32 (pos 1))) (Set (r + 1) e) ∙ ap (λ k. before a (Then (Set r (Constant I32 (pos 1))) (one (Set k e)))) (sym (next_is r))

pub take_some : (a : MonStatements) (f e : MonExpression) (r : ℕ) → before (before a (one (Set r f))) (one (If (Register r) (one (Set (r + 1) e)) NoStatement)) ≡ before a (take (Some f) e r)
take_some a f e r =
    two a (Set r f) (If (Register r) (one (Set (r + 1) e)) NoStatement)
    ∙ ap (λ k. before a (Then (Set r f) (one (If (Register r) (one (Set k e)) NoStatement)))) (sym (next_is r))

pub none_is : (xs : List MonStmt) → nat_eq (length xs) 0 ≡ has_none (plain_stmts xs) None
none_is [] = refl
none_is (x ∷ xs) = grind (arith, nat_tests)

-- what judges an annotation, and then the assertion
pub asserted_is :
    (t t1 t2 : MonStatements) (j : Judgement) (a : Annotation) (flag truth : MonExpression) (k : MonStatement) → t1 ≡ before t j.stmts → flag ≡ Register j.flag → truth ≡ Register j.truth
    → k ≡ Assert flag truth a.number a.place.line a.kind → t2 ≡ before t1 (one k) → t2 ≡ before t (asserted a j)
asserted_is t t1 t2 j a flag truth k first flag_is truth_is k_is last =
    last ∙ (λ i. before (first i) (one (k_is i))) ∙ before_assoc t j.stmts (one (Assert flag truth a.number a.place.line a.kind))
    ∙ (λ i. before t (before j.stmts (one (Assert (flag_is i) (truth_is i) a.number a.place.line a.kind))))

-- a flag and a pointer
pub taken_is : (f : Option MonExpression) (c : PointerCode) (r : ℕ) → take_pointer f c r ≡ taken_where f (take_both c r) r
taken_is None c r = refl
taken_is (Some f) c r = refl
