-- What holds of the statements of expressions with effects, by how many forms these have, where it holds of single statements and goes on.
use Rattle.std.proofs.Common.{ℕ, suc, ◌+◌, ◌≤◌, pos, Bool, true, false, not, List, ◌++◌, length, Option, Some, None, if◌then◌else◌, arith}
use Rattle.std.specs.Prelude.{◌&&◌}
use Rattle.c_syntax.specs.declared.expression.BinOp.{BinOp}
use Rattle.c_syntax.specs.declared.expression.BumpOp.{BumpOp}
use Rattle.c_syntax.specs.declared.expression.Use.{Use}
use Rattle.c_syntax.specs.Ctypes.{PlainType}
use Rattle.c_syntax.specs.Expressions.{Expression, Node, Number, Letter, Variable, Unary, Binary, Both, Either, Choice, Assign, Bump, Call, Cast, SizeOfType, SizeOfExpr, Text, Index, Dot, Arrow, Comma, Expressions, NoExpression, Following, type_of}
use Rattle.c_syntax.specs.Programs.{StructType, TranslationUnit}
use Rattle.c_syntax.specs.Layouts.{Scalar, scalar_of, scalars_of}
use Rattle.c_model.specs.Sizes.{forms_of, forms_of_all}
use Rattle.mon_syntax.specs.declared.tree.MonType.{MonType}
use Rattle.mon_syntax.specs.declared.tree.MonType.TheVariants.{I32}
use Rattle.mon_syntax.specs.Registers.{Bindings}
use Rattle.mon_syntax.specs.Trees.{MonExpression, MonStatements, NoStatement, Register, Constant, If}
use Rattle.c_effects.specs.Expressions.{value_type, before, one, set, farther}
use Rattle.c_effects.specs.Effects.{call, copies_at, current, is_direct, store}
use Rattle.c_effects.specs.Full.{act, act_takes, all_results, all_takes, assigned_setup, bumped_setup, changed_front, changed_setup, condition_result, gives_old, inner_offset, is_inner, is_pure, is_settled, keeps, keeps_all, kept_setup, kept_takes}
use Rattle.c_effects.specs.Full.{kept_types, kept_value, member_setup, member_type, object_of, object_setup, object_takes, old_setup, origin, part_of, prepare, prepare_all, reached, result, stored, takes, truth_result}

pub some_forms : (e : Expression) → 1 ≤ forms_of e
some_forms (Node at t (Number z k)) = omega arith
some_forms (Node at t (Letter z)) = omega arith
some_forms (Node at t (Variable x)) = omega arith
some_forms (Node at t (Unary op a)) = omega arith
some_forms (Node at t (Binary op a b)) = omega arith
some_forms (Node at t (Both a b)) = omega arith
some_forms (Node at t (Either a b)) = omega arith
some_forms (Node at t (Choice a b c)) = omega arith
some_forms (Node at t (Assign op a b)) = omega arith
some_forms (Node at t (Bump op a)) = omega arith
some_forms (Node at t (Call f es)) = omega arith
some_forms (Node at t (Cast to a)) = some_forms a
some_forms (Node at t (SizeOfType u)) = omega arith
some_forms (Node at t (SizeOfExpr a)) = omega arith
some_forms (Node at t (Text n)) = omega arith
some_forms (Node at t (Index a b)) = omega arith
some_forms (Node at t (Dot a m)) = omega arith
some_forms (Node at t (Arrow a m)) = omega arith
some_forms (Node at t (Comma a b)) = omega arith

module _ (Q : ℕ → MonStatements → Type 0) (nothing : (n : ℕ) → Q n NoStatement) (joined : (n : ℕ) (a b : MonStatements) → Q n a → Q n b → Q n (before a b))
    (chosen : (n : ℕ) (c : MonExpression) (a b : MonStatements) → Q n a → Q n b → Q (suc n) (one (If c a b))) (more : (n m : ℕ) (a : MonStatements) → n ≤ m → Q n a → Q m a) (sets : (r : ℕ) (e : MonExpression) → Q 1 (set r e))
    (stores : (r : ℕ) (t : PlainType) (e : MonExpression) → Q 1 (store r t e)) (copies : (r d q e : ℕ) (cs : List (ℕ × Scalar)) → Q 1 (copies_at r d q e cs))
    (calls : (p : TranslationUnit) (r : Option ℕ) (f : Use) (es : Expressions) (args : List MonExpression) → Q 1 (call p r f es args)) where
  -- ---- parts

  sets_in : (n r : ℕ) (e : MonExpression) → 1 ≤ n → Q n (set r e)
  sets_in n r e le = more 1 n (set r e) le (sets r e)

  kept_in : (n : ℕ) (kept : Bool) (r : ℕ) (a : MonStatements) (v : MonExpression) → 1 ≤ n → Q n a → Q n (kept_setup kept r a v)
  kept_in n true r a v le h = joined n a (set r v) h (sets_in n r v le)
  kept_in n false r a v le h = h

  object_in : (n : ℕ) (direct : Bool) (r : ℕ) (a : MonStatements) (o : MonExpression) → 1 ≤ n → Q n a → Q n (object_setup direct r a o)
  object_in n true r a o le h = nothing n
  object_in n false r a o le h = joined n a (set r o) h (sets_in n r o le)

  member_in : (n : ℕ) (structs : List StructType) (r k : ℕ) (a : Expression) → 1 ≤ n → Q n (member_setup structs r k a)
  member_in n structs r k a le = by (is_inner a)
    where
      by : (b : Bool) → Q n (if b then set k (farther (Register r) (inner_offset structs a)) else NoStatement)
      by true = sets_in n k (farther (Register r) (inner_offset structs a)) le
      by false = nothing n

  reached_in : (n : ℕ) (structs : List StructType) (object right : MonStatements) (r k : ℕ) (a : Expression) → 1 ≤ n → Q n object → Q n right → Q n (reached structs object right r k a)
  reached_in n structs object right r k a le h g =
      joined n object (before right (member_setup structs r k a)) h (joined n right (member_setup structs r k a) g (member_in n structs r k a le))

  stored_in : (n : ℕ) (kept : Bool) (v part : ℕ) (t : PlainType) (a : MonStatements) (e : MonExpression) → 1 ≤ n → Q n a → Q n (stored kept v part t a e)
  stored_in n kept v part t a e le h =
      joined n (kept_setup kept v a e) (store part t (kept_value kept v e)) (kept_in n kept v a e le h) (more 1 n (store part t (kept_value kept v e)) le (stores part t (kept_value kept v e)))

  -- ---- expressions

  module _ (p : TranslationUnit) (bound : Bindings) where
    old_in : (n : ℕ) (rs : List MonType) (t : PlainType) (a : Expression) (object : MonStatements) → 1 ≤ n → Q n object → Q n (old_setup p bound rs t a object)
    old_in n rs t a object le h =
        let r = length (rs ++ object_takes p a) in
        joined n (reached p.structs object NoStatement (object_of p bound rs a) r a) (set (length (rs ++ object_takes p a ++ member_type a)) (current (part_of p bound rs r a) t))
        (reached_in n p.structs object NoStatement (object_of p bound rs a) r a le h (nothing n)) (sets_in n _ _ le)

    assigned_in : (n : ℕ) (rs : List MonType) (o : Option Scalar) (kept : Bool) (t : PlainType) (a b : Expression) (object right other : MonStatements) → 1 ≤ n → Q n object → Q n right → Q n other
        → Q n (assigned_setup p bound rs o kept t a b object right other)
    assigned_in n rs (Some k) kept t a b object right other le h g i =
        stored_in n kept _ _ t _ _ le (reached_in n p.structs object right (object_of p bound rs a) (length (rs ++ object_takes p a ++ takes p b)) a le h g)
    assigned_in n rs None kept t a b object right other le h g i =
        let last = copies_at (object_of p bound rs a) (inner_offset p.structs a) (object_of p bound (rs ++ object_takes p a) b) (inner_offset p.structs b) (scalars_of p.structs t) in
        joined n object (before other last) h (joined n other last i (more 1 n last le (copies _ _ _ _ _)))

    changed_in : (n : ℕ) (rs : List MonType) (pure kept : Bool) (op : BinOp) (t : PlainType) (a b : Expression) (object right : MonStatements) → 1 ≤ n → Q n object → Q n right
        → Q n (changed_setup p bound rs pure kept op t a b object right)
    changed_in n rs true kept op t a b object right le h g =
        stored_in n kept _ _ t _ _ le (reached_in n p.structs object right (object_of p bound rs a) (length (rs ++ object_takes p a ++ takes p b)) a le h g)
    changed_in n rs false kept op t a b object right le h g =
        stored_in n kept _ _ t _ _ le (joined n (old_setup p bound rs t a object) right (old_in n rs t a object le h) g)

    bumped_in : (n : ℕ) (rs : List MonType) (old kept : Bool) (op : BumpOp) (t : PlainType) (a : Expression) (object : MonStatements) → 1 ≤ n → Q n object → Q n (bumped_setup p bound rs old kept op t a object)
    bumped_in n rs true kept op t a object le h = stored_in n false (length (rs ++ object_takes p a ++ member_type a)) _ t _ _ le (old_in n rs t a object le h)
    bumped_in n rs false kept op t a object le h =
        stored_in n kept _ _ t _ _ le (reached_in n p.structs object NoStatement (object_of p bound rs a) (length (rs ++ object_takes p a)) a le h (nothing n))

    -- an `if` after other statements
    after_in : (n m : ℕ) (front : MonStatements) (c : MonExpression) (a b : MonStatements) → suc n ≤ m → Q m front → Q n a → Q n b → Q m (before front (one (If c a b)))
    after_in n m front c a b le f h g = joined m front (one (If c a b)) f (more (suc n) m (one (If c a b)) le (chosen n c a b h g))

    -- what holds of the statements of an expression
    abbrev Prepared : Expression → Type 0
    Prepared e = (rs : List MonType) → Q (forms_of e) (prepare p bound rs e)

    abbrev Acted : Expression → Type 0
    Acted e = (rs : List MonType) → Q (forms_of e) (act p bound rs e)

    prepared_in : (n : ℕ) (rs : List MonType) (e : Expression) → forms_of e ≤ n → Prepared e → Q n (prepare p bound rs e)
    prepared_in n rs e le h = more (forms_of e) n (prepare p bound rs e) le (h rs)

    acted_in : (n : ℕ) (rs : List MonType) (e : Expression) → forms_of e ≤ n → Acted e → Q n (act p bound rs e)
    acted_in n rs e le h = more (forms_of e) n (act p bound rs e) le (h rs)

    -- one that may be kept
    operand_in : (n : ℕ) (kept : Bool) (rs : List MonType) (e : Expression) → forms_of e ≤ n → Prepared e → Q n (kept_setup kept (length (rs ++ takes p e)) (prepare p bound rs e) (result p bound rs e))
    operand_in n kept rs e le h = let some = some_forms e in kept_in n kept (length (rs ++ takes p e)) (prepare p bound rs e) (result p bound rs e) (omega (arith, some, le)) (prepared_in n rs e le h)

    two_in : (rs : List MonType) (a b : Expression) → Prepared a → Prepared b
        → Q (suc (forms_of a + forms_of b)) (before (kept_setup (keeps a b) (length (rs ++ takes p a)) (prepare p bound rs a) (result p bound rs a)) (prepare p bound (rs ++ kept_takes p a b) b))
    two_in rs a b h k =
        let n = suc (forms_of a + forms_of b) in
        let s = rs ++ kept_takes p a b in
        joined n (kept_setup (keeps a b) (length (rs ++ takes p a)) (prepare p bound rs a) (result p bound rs a)) (prepare p bound s b) (operand_in n (keeps a b) rs a (omega arith) h) (prepared_in n s b (omega arith) k)

    -- the object that is assigned to
    target_in : (n : ℕ) (rs : List MonType) (a : Expression) → forms_of a ≤ n → Prepared a → Q n (object_setup (is_direct p a) (length (rs ++ takes p a)) (prepare p bound rs a) (origin p bound rs a))
    target_in n rs a le h =
        let some = some_forms a in object_in n (is_direct p a) (length (rs ++ takes p a)) (prepare p bound rs a) (origin p bound rs a) (omega (arith, some, le)) (prepared_in n rs a le h)

    assign_in : (rs : List MonType) (kept : Bool) (t : PlainType) (a b : Expression) → Prepared a → Prepared b
        → Q (suc (forms_of a + forms_of b)) (assigned_setup p bound rs (scalar_of t) kept t a b (object_setup (is_direct p a) (length (rs ++ takes p a)) (prepare p bound rs a) (origin p bound rs a)) (prepare p bound (rs ++ object_takes p a) b)
        (object_setup (is_direct p b) (length (rs ++ object_takes p a ++ takes p b)) (prepare p bound (rs ++ object_takes p a) b) (origin p bound (rs ++ object_takes p a) b)))
    assign_in rs kept t a b h k =
        let n = suc (forms_of a + forms_of b) in
        let s = rs ++ object_takes p a in
        assigned_in n rs (scalar_of t) kept t a b _ _ _ (omega arith) (target_in n rs a (omega arith) h) (prepared_in n s b (omega arith) k) (target_in n s b (omega arith) k)

    change_in : (rs : List MonType) (kept : Bool) (op : BinOp) (t : PlainType) (a b : Expression) → Prepared a → Prepared b
        → Q (suc (forms_of a + forms_of b)) (changed_setup p bound rs (is_pure b) kept op t a b (object_setup (is_direct p a) (length (rs ++ takes p a)) (prepare p bound rs a) (origin p bound rs a))
        (prepare p bound (rs ++ changed_front p (value_type t) a b) b))
    change_in rs kept op t a b h k =
        let n = suc (forms_of a + forms_of b) in
        let s = rs ++ changed_front p (value_type t) a b in
        changed_in n rs (is_pure b) kept op t a b _ _ (omega arith) (target_in n rs a (omega arith) h) (prepared_in n s b (omega arith) k)

    bump_in : (rs : List MonType) (old kept : Bool) (op : BumpOp) (t : PlainType) (a : Expression) → Prepared a
        → Q (suc (forms_of a)) (bumped_setup p bound rs old kept op t a (object_setup (is_direct p a) (length (rs ++ takes p a)) (prepare p bound rs a) (origin p bound rs a)))
    bump_in rs old kept op t a h = bumped_in (suc (forms_of a)) rs old kept op t a _ (omega arith) (target_in (suc (forms_of a)) rs a (omega arith) h)

    called_in : (p : TranslationUnit) (r : Option ℕ) (f : Use) (es : Expressions) (args : List MonExpression) (front : MonStatements) (n : ℕ) → Q n front → Q (suc n) (before front (call p r f es args))
    called_in unit r f es args front n h = let last = call unit r f es args in joined (suc n) front last (more n (suc n) front (omega arith) h) (more 1 (suc n) last (omega arith) (calls unit r f es args))

    both_act_in : (rs : List MonType) (a b : Expression) → Acted a → Acted b → Q (suc (forms_of a + forms_of b)) (before (act p bound rs a) (act p bound (rs ++ act_takes p a) b))
    both_act_in rs a b h k =
        let n = suc (forms_of a + forms_of b) in
        let s = rs ++ act_takes p a in
        joined n (act p bound rs a) (act p bound s b) (acted_in n rs a (omega arith) h) (acted_in n s b (omega arith) k)

    either_of : (n : ℕ) (q : Bool) (a b : MonStatements) → Q n a → Q n b → Q n (if q then a else b)
    either_of n true a b h g = h
    either_of n false a b h g = g

    mutual
      pub prepare_in : (rs : List MonType) (e : Expression) → Q (forms_of e) (prepare p bound rs e)
      prepare_in rs (Node at t (Number z k)) = nothing 1
      prepare_in rs (Node at t (Letter z)) = nothing 1
      prepare_in rs (Node at t (Text n)) = nothing 1
      prepare_in rs (Node at t (Variable x)) = nothing 1
      prepare_in rs (Node at t (Unary op a)) = more (forms_of a) (suc (forms_of a)) (prepare p bound rs a) (omega arith) (prepare_in rs a)
      prepare_in rs (Node at t (Binary op a b)) = two_in rs a b (λ r. prepare_in r a) (λ r. prepare_in r b)
      prepare_in rs (Node at t (Both a b)) =
          let r = rs ++ takes p a in
          let last = length (r ++ takes p b) in
          after_in (forms_of b) (suc (forms_of a + forms_of b)) (prepare p bound rs a) (condition_result p bound rs a) (before (prepare p bound r b) (set last (truth_result p bound r b))) (set last (Constant I32 (pos 0))) (omega arith)
          (more (forms_of a) (suc (forms_of a + forms_of b)) (prepare p bound rs a) (omega arith) (prepare_in rs a))
          (joined (forms_of b) (prepare p bound r b) (set last (truth_result p bound r b)) (prepare_in r b) (sets_in (forms_of b) last (truth_result p bound r b) (some_forms b))) (sets_in (forms_of b) last (Constant I32 (pos 0)) (some_forms b))
      prepare_in rs (Node at t (Either a b)) =
          let r = rs ++ takes p a in
          let last = length (r ++ takes p b) in
          after_in (forms_of b) (suc (forms_of a + forms_of b)) (prepare p bound rs a) (condition_result p bound rs a) (set last (Constant I32 (pos 1))) (before (prepare p bound r b) (set last (truth_result p bound r b))) (omega arith)
          (more (forms_of a) (suc (forms_of a + forms_of b)) (prepare p bound rs a) (omega arith) (prepare_in rs a)) (sets_in (forms_of b) last (Constant I32 (pos 1)) (some_forms b))
          (joined (forms_of b) (prepare p bound r b) (set last (truth_result p bound r b)) (prepare_in r b) (sets_in (forms_of b) last (truth_result p bound r b) (some_forms b)))
      prepare_in rs (Node at t (Choice a b c)) =
          let r = rs ++ takes p a in
          let s = r ++ takes p b in
          let last = length (s ++ takes p c) in
          let n = forms_of b + forms_of c in
          let some = some_forms b in
          after_in n (suc (forms_of a + n)) (prepare p bound rs a) (condition_result p bound rs a) (before (prepare p bound r b) (set last (result p bound r b))) (before (prepare p bound s c) (set last (result p bound s c))) (omega arith)
          (more (forms_of a) (suc (forms_of a + n)) (prepare p bound rs a) (omega arith) (prepare_in rs a))
          (joined n (prepare p bound r b) (set last (result p bound r b)) (more (forms_of b) n (prepare p bound r b) (omega arith) (prepare_in r b)) (sets_in n last (result p bound r b) (omega (arith, some))))
          (joined n (prepare p bound s c) (set last (result p bound s c)) (more (forms_of c) n (prepare p bound s c) (omega arith) (prepare_in s c)) (sets_in n last (result p bound s c) (omega (arith, some))))
      prepare_in rs (Node at t (Assign None a b)) = assign_in rs (not (is_settled b)) t a b (λ r. prepare_in r a) (λ r. prepare_in r b)
      prepare_in rs (Node at t (Assign (Some op) a b)) = change_in rs true op t a b (λ r. prepare_in r a) (λ r. prepare_in r b)
      prepare_in rs (Node at t (Bump op a)) = bump_in rs (gives_old op) true op t a (λ r. prepare_in r a)
      prepare_in rs (Node at t (Call f es)) = called_in p (Some (length (rs ++ all_takes p es))) f es (all_results p bound rs es) (prepare_all p bound rs es) (forms_of_all es) (prepare_all_in rs es)
      prepare_in rs (Node at t (Cast to a)) = prepare_in rs a
      prepare_in rs (Node at t (SizeOfType u)) = nothing 1
      prepare_in rs (Node at t (SizeOfExpr a)) = nothing (suc (forms_of a))
      prepare_in rs (Node at t (Index a b)) = two_in rs a b (λ r. prepare_in r a) (λ r. prepare_in r b)
      prepare_in rs (Node at t (Dot a m)) = more (forms_of a) (suc (forms_of a)) (prepare p bound rs a) (omega arith) (prepare_in rs a)
      prepare_in rs (Node at t (Arrow a m)) = more (forms_of a) (suc (forms_of a)) (prepare p bound rs a) (omega arith) (prepare_in rs a)
      prepare_in rs (Node at t (Comma a b)) =
          let n = suc (forms_of a + forms_of b) in
          let s = rs ++ act_takes p a in
          joined n (act p bound rs a) (prepare p bound s b) (more (forms_of a) n (act p bound rs a) (omega arith) (act_in rs a)) (more (forms_of b) n (prepare p bound s b) (omega arith) (prepare_in s b))

      pub prepare_all_in : (rs : List MonType) (es : Expressions) → Q (forms_of_all es) (prepare_all p bound rs es)
      prepare_all_in rs NoExpression = nothing 0
      prepare_all_in rs (Following e es) =
          let n = forms_of e + forms_of_all es in
          let kept = keeps_all e es in
          let s = rs ++ kept_types kept (takes p e) (value_type (type_of e)) in
          joined n (kept_setup kept (length (rs ++ takes p e)) (prepare p bound rs e) (result p bound rs e)) (prepare_all p bound s es) (operand_in n kept rs e (omega arith) (λ r. prepare_in r e))
          (more (forms_of_all es) n (prepare_all p bound s es) (omega arith) (prepare_all_in s es))

      pub act_in : (rs : List MonType) (e : Expression) → Q (forms_of e) (act p bound rs e)
      act_in rs (Node at t (Number z k)) = nothing 1
      act_in rs (Node at t (Letter z)) = nothing 1
      act_in rs (Node at t (Text n)) = nothing 1
      act_in rs (Node at t (Variable x)) = nothing 1
      act_in rs (Node at t (Unary op a)) = more (forms_of a) (suc (forms_of a)) (act p bound rs a) (omega arith) (act_in rs a)
      act_in rs (Node at t (Binary op a b)) = both_act_in rs a b (λ r. act_in r a) (λ r. act_in r b)
      act_in rs (Node at t (Both a b)) =
          let n = suc (forms_of a + forms_of b) in
          let s = rs ++ takes p a in
          either_of n (is_pure b) (act p bound rs a) _ (more (forms_of a) n (act p bound rs a) (omega arith) (act_in rs a))
          (after_in (forms_of b) n (prepare p bound rs a) (condition_result p bound rs a) (act p bound s b) NoStatement (omega arith) (more (forms_of a) n (prepare p bound rs a) (omega arith) (prepare_in rs a)) (act_in s b) (nothing (forms_of b)))
      act_in rs (Node at t (Either a b)) =
          let n = suc (forms_of a + forms_of b) in
          let s = rs ++ takes p a in
          either_of n (is_pure b) (act p bound rs a) _ (more (forms_of a) n (act p bound rs a) (omega arith) (act_in rs a))
          (after_in (forms_of b) n (prepare p bound rs a) (condition_result p bound rs a) NoStatement (act p bound s b) (omega arith) (more (forms_of a) n (prepare p bound rs a) (omega arith) (prepare_in rs a)) (nothing (forms_of b)) (act_in s b))
      act_in rs (Node at t (Choice a b c)) =
          let m = forms_of b + forms_of c in
          let n = suc (forms_of a + m) in
          let s = rs ++ takes p a in
          let u = s ++ act_takes p b in
          either_of n (is_pure b && is_pure c) (act p bound rs a) _ (more (forms_of a) n (act p bound rs a) (omega arith) (act_in rs a))
          (after_in m n (prepare p bound rs a) (condition_result p bound rs a) (act p bound s b) (act p bound u c) (omega arith) (more (forms_of a) n (prepare p bound rs a) (omega arith) (prepare_in rs a))
          (more (forms_of b) m (act p bound s b) (omega arith) (act_in s b)) (more (forms_of c) m (act p bound u c) (omega arith) (act_in u c)))
      act_in rs (Node at t (Assign None a b)) = assign_in rs false t a b (λ r. prepare_in r a) (λ r. prepare_in r b)
      act_in rs (Node at t (Assign (Some op) a b)) = change_in rs false op t a b (λ r. prepare_in r a) (λ r. prepare_in r b)
      act_in rs (Node at t (Bump op a)) = bump_in rs false false op t a (λ r. prepare_in r a)
      act_in rs (Node at t (Call f es)) = called_in p None f es (all_results p bound rs es) (prepare_all p bound rs es) (forms_of_all es) (prepare_all_in rs es)
      act_in rs (Node at t (Cast to a)) = act_in rs a
      act_in rs (Node at t (SizeOfType u)) = nothing 1
      act_in rs (Node at t (SizeOfExpr a)) = nothing (suc (forms_of a))
      act_in rs (Node at t (Index a b)) = both_act_in rs a b (λ r. act_in r a) (λ r. act_in r b)
      act_in rs (Node at t (Dot a m)) = more (forms_of a) (suc (forms_of a)) (act p bound rs a) (omega arith) (act_in rs a)
      act_in rs (Node at t (Arrow a m)) = more (forms_of a) (suc (forms_of a)) (act p bound rs a) (omega arith) (act_in rs a)
      act_in rs (Node at t (Comma a b)) = both_act_in rs a b (λ r. act_in r a) (λ r. act_in r b)
