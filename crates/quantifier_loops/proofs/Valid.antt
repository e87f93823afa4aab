-- The loop over values is valid monitored C, and stands two levels deep.
use Rattle.std.proofs.Common.{◌≡◌, ℕ, suc, ◌+◌, ◌≤◌, ◌<◌, ℤ, pos, Bool, true, false, ◌||◌, ◌&&◌, not, if◌then◌else◌, max, List, [], ◌∷◌, Option, Some, slice_get, refl, sym, ap, ◌∙◌, subst, arith}
use Rattle.std.proofs.Math.Nat.{max-le, le-max_left, le-max_right}
use Rattle.mon_syntax.specs.declared.tree.MonOp.TheVariants.{Add, Eq, Le}
use Rattle.mon_syntax.specs.declared.tree.MonType.{MonType}
use Rattle.mon_syntax.specs.declared.tree.MonType.TheVariants as mono
use Rattle.mon_syntax.specs.declared.tree.MonType.TheVariants.{I32}
use Rattle.mon_syntax.specs.Arithmetic.{is_pointer}
use Rattle.mon_syntax.specs.Trees.{MonExpression, Register, Constant, Binary, If, Loop, Goto, Set, MonStatements, NoStatement, Then}
use Rattle.mon_syntax.specs.Valid.{Types, HasType, IsExpression, IsStatement, AreStatements, Labels, Signature, has_label, has_no_step, is_arithmetic, has_constant, has_operator, second_type, result_type, is_step, open_parens}
use Rattle.mon_syntax.specs.Valid.{depth, depth_of_all, most_open_parens}
use Rattle.c_effects.specs.Expressions.{before, one, set}
use Rattle.quantifier_loops.specs.Laws.{IsNumber, UpwardIsValid}
use Rattle.quantifier_loops.specs.Upward.{tried_label, turn_end, upward}
use Rattle.quantifier_loops.proofs.Labels.{tried_is_free}
use Rattle.quantifier_loops.proofs.Values.{same_label}

-- ---- types

-- what the operators of the loop want of a type
pub record Counts (k : MonType) : Type 0 where
  pub one : has_constant k (pos 1) ≡ true
  pub adds : has_operator Add k ≡ true
  pub sum : result_type Add k ≡ k
  pub same : has_operator Eq k ≡ true
  pub below : has_operator Le k ≡ true
  pub second : second_type Add k ≡ k
  pub compared : second_type Eq k ≡ k
  pub ordered : second_type Le k ≡ k

pub counts : (k : MonType) → is_arithmetic k ≡ true → Counts k
counts mono.I8 e = absurd cc
counts mono.U8 e = absurd cc
counts mono.I16 e = absurd cc
counts mono.U16 e = absurd cc
counts mono.I32 e = record { one = refl; adds = refl; sum = refl; same = refl; below = refl; second = refl; compared = refl; ordered = refl }
counts mono.U32 e = record { one = refl; adds = refl; sum = refl; same = refl; below = refl; second = refl; compared = refl; ordered = refl }
counts mono.I64 e = record { one = refl; adds = refl; sum = refl; same = refl; below = refl; second = refl; compared = refl; ordered = refl }
counts mono.U64 e = record { one = refl; adds = refl; sum = refl; same = refl; below = refl; second = refl; compared = refl; ordered = refl }
counts mono.I128 e = record { one = refl; adds = refl; sum = refl; same = refl; below = refl; second = refl; compared = refl; ordered = refl }
counts mono.Ptr e = absurd cc

own_label : (l : List ℕ) (ls : Labels) → has_label (l ∷ ls) l ≡ true
own_label l ls = ap (λ b. b || has_label ls l) (same_label l)

no_step_before : (a b : MonStatements) → has_no_step a ≡ true → has_no_step b ≡ true → has_no_step (before a b) ≡ true
no_step_before NoStatement b h k = k
no_step_before (Then x a) b h k = by (λ e. no_step_before a b e k) (is_step x) h
  where
    by : (has_no_step a ≡ true → has_no_step (before a b) ≡ true) → (s : Bool) → (not s && has_no_step a) ≡ true → (not s && has_no_step (before a b)) ≡ true
    by rest true e = absurd cc
    by rest false e = rest e

before_valid : (g : ℕ) (gs : List Signature) (ts : Types) (result : Option MonType) (ls : Labels) (a b : MonStatements) → AreStatements g gs ts result ls a → AreStatements g gs ts result ls b → AreStatements g gs ts result ls (before a b)
before_valid g gs ts result ls NoStatement b h k = k
before_valid g gs ts result ls (Then x a) b h k = (h.0, before_valid g gs ts result ls a b h.1 k)

deep_before : (a b : MonStatements) (n : ℕ) → depth_of_all a ≤ n → depth_of_all b ≤ n → depth_of_all (before a b) ≤ n
deep_before NoStatement b n h k = k
deep_before (Then x a) b n h k =
    let l = le-max_left (depth x) (depth_of_all a) in
    let r = le-max_right (depth x) (depth_of_all a) in
    max-le (omega (arith, h, l)) (deep_before a b n (omega (arith, h, r)) k)

parens_within : (x : ℕ) → x < most_open_parens → suc (max 0 x) ≤ most_open_parens
parens_within x l = let m : max 0 x ≤ 1999 = max-le (omega arith) (omega (arith, l)) in omega (arith, m)

pub upward_is_valid : UpwardIsValid
upward_is_valid g gs ts result ls k index stop from to inner number arithmetic at at_stop from_valid to_typed to_parens fresh no_step inner_valid =
    ((tried_is_free index number, fresh, ((k, at, from_valid), (test_valid, (loop_valid, tt)))), deep)
  where
    label : List ℕ
    label = tried_label index

    around : Labels
    around = label ∷ ls

    c : Counts k
    c = counts k arithmetic

    own : has_label around label ≡ true
    own = own_label label ls

    one_of : has_constant k (pos 1) ≡ true
    one_of = c.one

    test_valid : IsStatement g gs ts result around (If (Binary Le k (Register index) to) NoStatement (one (Goto label)))
    test_valid = (record { typed = (refl, c.below, at, subst (λ t. HasType g ts to t) (sym c.ordered) to_typed); within = parens_within (open_parens to) to_parens }, tt, (own, tt))

    last_valid : IsStatement g gs ts result around (If (Binary Eq k (Register index) to) (one (Goto label)) NoStatement)
    last_valid = (record { typed = (refl, c.same, at, subst (λ t. HasType g ts to t) (sym c.compared) to_typed); within = parens_within (open_parens to) to_parens }, (own, tt), tt)

    next_valid : IsStatement g gs ts result around (Set index (Binary Add k (Register index) (Constant k (pos 1))))
    next_valid = (k, at, record { typed = (c.sum, c.adds, at, (sym c.second, one_of)); within = omega arith })

    stop_valid : IsStatement g gs ts result around (If (Register stop) (one (Goto label)) NoStatement)
    stop_valid = (record { typed = at_stop; within = omega arith }, (own, tt), tt)

    turn_valid : AreStatements g gs ts result around (before inner (turn_end k index to stop))
    turn_valid = before_valid g gs ts result around inner (turn_end k index to stop) inner_valid (stop_valid, (last_valid, (next_valid, tt)))

    loop_valid : IsStatement g gs ts result around (Loop NoStatement (before inner (turn_end k index to stop)))
    loop_valid = (refl, no_step_before inner (turn_end k index to stop) no_step refl, tt, turn_valid)

    deep : depth (upward k index from to inner stop) ≤ 2 + max 2 (depth_of_all inner)
    deep =
        let l = le-max_left 2 (depth_of_all inner) in
        let r = le-max_right 2 (depth_of_all inner) in
        let t = deep_before inner (turn_end k index to stop) (max 2 (depth_of_all inner)) r (omega (arith, l)) in
        omega (arith, t, l)
