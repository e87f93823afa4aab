-- How many parentheses are open at once in the values and places of expressions with effects: no more than these weigh.
use Rattle.std.proofs.Common.{ℕ, suc, ◌+◌, ◌≤◌, ◌<◌, Bool, true, false, not, List, [], ◌∷◌, ◌++◌, Option, Some, None, length, if◌then◌else◌, arith}
use Rattle.c_syntax.specs.declared.expression.UnOp.TheVariants as prefix
use Rattle.c_syntax.specs.Expressions.{Expression, Node, Number, Letter, Variable, Unary, Binary, Both, Either, Choice, Assign, Bump, Call, Cast, SizeOfType, SizeOfExpr, Text, Index, Dot, Arrow, Comma, Expressions, NoExpression, Following, type_of}
use Rattle.c_syntax.specs.Programs.{StructType, TranslationUnit}
use Rattle.c_syntax.specs.Layouts.{Scalar, scalar_of, offset_of, target_of}
use Rattle.c_model.specs.Meaning.{is_array, is_of_library}
use Rattle.c_model.specs.Sizes.{weight_of, weight_of_all, most_weight}
use Rattle.mon_syntax.specs.declared.tree.MonType.{MonType}
use Rattle.mon_syntax.specs.Registers.{Bindings}
use Rattle.mon_syntax.specs.Trees.{MonExpression, Register}
use Rattle.mon_syntax.specs.Valid.{open_parens, most_open_parens}
use Rattle.c_effects.specs.Expressions.{value_type, farther, indexed}
use Rattle.c_effects.specs.Full.{act_takes, all_results, inner_offset, is_inner, is_settled, keeps, keeps_all, kept_takes, kept_types, kept_value, location, member_type, object_of, object_takes, origin, result, stepped, takes, value_of}
use Rattle.instrument.proofs.Parentheses.{few_parens_of_pointer, few_parens_of_variable, parens_cast, parens_farther, parens_indexed, parens_loaded, parens_operated, parens_unary, some_weight}

parens_kept : (kept : Bool) (r : ℕ) (e : MonExpression) (n : ℕ) → open_parens e ≤ n → open_parens (kept_value kept r e) ≤ n
parens_kept true r e n le = omega arith
parens_kept false r e n le = le

parens_value_of : (o : Option Scalar) (e : MonExpression) (n : ℕ) → 1 ≤ n → open_parens e ≤ n → open_parens (value_of o e) ≤ n
parens_value_of (Some k) e n one le = le
parens_value_of None e n one le = omega (arith, one)

parens_stepped : (structs : List StructType) (a : Expression) (r n : ℕ) → 2 ≤ n → open_parens (stepped structs a (Register r)) ≤ n
parens_stepped structs a r n le = by (is_inner a)
  where
    by : (b : Bool) → open_parens (if b then farther (Register r) (inner_offset structs a) else Register r) ≤ n
    by true = let p = parens_farther (Register r) (inner_offset structs a) 1 (omega arith) (omega arith) in omega (arith, p, le)
    by false = omega arith

-- expressions that may open one more
abbrev pub AreShallow : List MonExpression → Type 0
AreShallow [] = Unit {0}
AreShallow (e ∷ es) = (open_parens e < most_open_parens) × AreShallow es

module _ (p : TranslationUnit) (bound : Bindings) where
  -- an element, from the bounds of both operands
  parens_of_element : (rs : List MonType) (a b : Expression) → open_parens (result p bound rs a) ≤ weight_of a → open_parens (result p bound (rs ++ kept_takes p a b) b) ≤ weight_of b
      → open_parens (indexed p.structs (type_of a) (type_of b) (kept_value (keeps a b) (length (rs ++ takes p a)) (result p bound rs a)) (result p bound (rs ++ kept_takes p a b) b)) ≤ 3 + (weight_of a + weight_of b)
  parens_of_element rs a b x y =
      let one = some_weight a in
      let left = kept_value (keeps a b) (length (rs ++ takes p a)) (result p bound rs a) in
      let m = parens_indexed p.structs (type_of a) (type_of b) left (result p bound (rs ++ kept_takes p a b) b) (weight_of a + weight_of b)
      (parens_kept (keeps a b) (length (rs ++ takes p a)) (result p bound rs a) (weight_of a + weight_of b) (omega (arith, x))) (omega (arith, y)) (omega (arith, one)) in
      omega (arith, m)

  mutual
    pub few_parens_result : (rs : List MonType) (e : Expression) → open_parens (result p bound rs e) ≤ weight_of e
    few_parens_result rs (Node at t (Number z k)) = omega arith
    few_parens_result rs (Node at t (Letter z)) = omega arith
    few_parens_result rs (Node at t (Text n)) = omega arith
    few_parens_result rs (Node at t (Variable x)) = few_parens_of_variable p bound x.decl t (is_of_library x)
    few_parens_result rs (Node at t (Unary prefix.Deref a)) = let q = parens_loaded t (result p bound rs a) (weight_of a) (few_parens_result rs a) (some_weight a) in omega (arith, q)
    few_parens_result rs (Node at t (Unary prefix.Address a)) = let q = few_parens_location rs a in omega (arith, q)
    few_parens_result rs (Node at t (Unary prefix.Plus a)) = let q = parens_unary prefix.Plus (value_type (type_of a)) (result p bound rs a) (weight_of a) (few_parens_result rs a) (some_weight a) in omega (arith, q)
    few_parens_result rs (Node at t (Unary prefix.Minus a)) = let q = parens_unary prefix.Minus (value_type (type_of a)) (result p bound rs a) (weight_of a) (few_parens_result rs a) (some_weight a) in omega (arith, q)
    few_parens_result rs (Node at t (Unary prefix.Not a)) = let q = parens_unary prefix.Not (value_type (type_of a)) (result p bound rs a) (weight_of a) (few_parens_result rs a) (some_weight a) in omega (arith, q)
    few_parens_result rs (Node at t (Unary prefix.Flip a)) = let q = parens_unary prefix.Flip (value_type (type_of a)) (result p bound rs a) (weight_of a) (few_parens_result rs a) (some_weight a) in omega (arith, q)
    few_parens_result rs (Node at t (Binary op a b)) =
        let one = some_weight a in
        let x = few_parens_result rs a in
        let y = few_parens_result (rs ++ kept_takes p a b) b in
        let left = kept_value (keeps a b) (length (rs ++ takes p a)) (result p bound rs a) in
        let m = parens_operated p.structs op (type_of a) (type_of b) left (result p bound (rs ++ kept_takes p a b) b) (weight_of a + weight_of b)
        (parens_kept (keeps a b) (length (rs ++ takes p a)) (result p bound rs a) (weight_of a + weight_of b) (omega (arith, x))) (omega (arith, y)) (omega (arith, one)) in
        omega (arith, m)
    few_parens_result rs (Node at t (Both a b)) = omega arith
    few_parens_result rs (Node at t (Either a b)) = omega arith
    few_parens_result rs (Node at t (Choice a b c)) = omega arith
    few_parens_result rs (Node at t (Assign None a b)) =
        let n = 4 + (weight_of a + weight_of b) in
        let r = length (rs ++ object_takes p a ++ takes p b ++ member_type a) in
        let value = result p bound (rs ++ object_takes p a) b in
        let y = few_parens_result (rs ++ object_takes p a) b in
        parens_value_of (scalar_of t) (kept_value (not (is_settled b)) r value) n (omega arith) (parens_kept (not (is_settled b)) r value n (omega (arith, y)))
    few_parens_result rs (Node at t (Assign (Some op) a b)) = omega arith
    few_parens_result rs (Node at t (Bump op a)) = omega arith
    few_parens_result rs (Node at t (Call f es)) = omega arith
    few_parens_result rs (Node at t (Cast to a)) =
        let q = parens_cast (is_array (type_of a)) (location p bound rs a) (type_of a) to (result p bound rs a) (weight_of a) (few_parens_location rs a) (few_parens_result rs a) (some_weight a) in omega (arith, q)
    few_parens_result rs (Node at t (SizeOfType u)) = omega arith
    few_parens_result rs (Node at t (SizeOfExpr a)) = omega arith
    few_parens_result rs (Node at t (Index a b)) =
        let q = parens_of_element rs a b (few_parens_result rs a) (few_parens_result (rs ++ kept_takes p a b) b) in
        let e = indexed p.structs (type_of a) (type_of b) (kept_value (keeps a b) (length (rs ++ takes p a)) (result p bound rs a)) (result p bound (rs ++ kept_takes p a b) b) in
        let m = parens_loaded t e (3 + (weight_of a + weight_of b)) q (omega arith) in omega (arith, m)
    few_parens_result rs (Node at t (Dot a m)) =
        let d = offset_of p.structs (type_of a) m in
        let q = parens_loaded t (farther (location p bound rs a) d) (suc (weight_of a)) (parens_farther (location p bound rs a) d (weight_of a) (few_parens_location rs a) (some_weight a)) (omega arith) in omega (arith, q)
    few_parens_result rs (Node at t (Arrow a m)) =
        let d = offset_of p.structs (target_of (type_of a)) m in
        let q = parens_loaded t (farther (result p bound rs a) d) (suc (weight_of a)) (parens_farther (result p bound rs a) d (weight_of a) (few_parens_result rs a) (some_weight a)) (omega arith) in omega (arith, q)
    few_parens_result rs (Node at t (Comma a b)) = let q = few_parens_result (rs ++ act_takes p a) b in omega (arith, q)

    pub few_parens_location : (rs : List MonType) (e : Expression) → open_parens (location p bound rs e) ≤ weight_of e
    few_parens_location rs (Node at t (Text n)) = omega arith
    few_parens_location rs (Node at t (Variable x)) = let q = few_parens_of_pointer p bound x.decl in omega (arith, q)
    few_parens_location rs (Node at t (Unary prefix.Deref a)) = let q = few_parens_result rs a in omega (arith, q)
    few_parens_location rs (Node at t (Index a b)) = let q = parens_of_element rs a b (few_parens_result rs a) (few_parens_result (rs ++ kept_takes p a b) b) in omega (arith, q)
    few_parens_location rs (Node at t (Dot a m)) =
        let q = parens_farther (location p bound rs a) (offset_of p.structs (type_of a) m) (weight_of a) (few_parens_location rs a) (some_weight a) in omega (arith, q)
    few_parens_location rs (Node at t (Arrow a m)) =
        let q = parens_farther (result p bound rs a) (offset_of p.structs (target_of (type_of a)) m) (weight_of a) (few_parens_result rs a) (some_weight a) in omega (arith, q)
    few_parens_location rs (Node at t (Assign op a b)) = parens_stepped p.structs a (object_of p bound rs a) (4 + (weight_of a + weight_of b)) (omega arith)
    few_parens_location rs (Node at t (Comma a b)) = let q = few_parens_location (rs ++ act_takes p a) b in omega (arith, q)
    few_parens_location rs (Node at t (Number z k)) = omega arith
    few_parens_location rs (Node at t (Letter z)) = omega arith
    few_parens_location rs (Node at t (Unary prefix.Address a)) = omega arith
    few_parens_location rs (Node at t (Unary prefix.Plus a)) = omega arith
    few_parens_location rs (Node at t (Unary prefix.Minus a)) = omega arith
    few_parens_location rs (Node at t (Unary prefix.Not a)) = omega arith
    few_parens_location rs (Node at t (Unary prefix.Flip a)) = omega arith
    few_parens_location rs (Node at t (Binary op a b)) = omega arith
    few_parens_location rs (Node at t (Both a b)) = omega arith
    few_parens_location rs (Node at t (Either a b)) = omega arith
    few_parens_location rs (Node at t (Choice a b c)) = omega arith
    few_parens_location rs (Node at t (Cast to a)) = omega arith
    few_parens_location rs (Node at t (SizeOfType u)) = omega arith
    few_parens_location rs (Node at t (SizeOfExpr a)) = omega arith
    few_parens_location rs (Node at t (Bump op a)) = omega arith
    few_parens_location rs (Node at t (Call f es)) = omega arith

  -- of arguments
  pub few_parens_results : (rs : List MonType) (es : Expressions) → weight_of_all es ≤ most_weight → AreShallow (all_results p bound rs es)
  few_parens_results rs NoExpression light = tt
  few_parens_results rs (Following e es) light =
      let kept = keeps_all e es in
      let m = parens_kept kept (length (rs ++ takes p e)) (result p bound rs e) (weight_of e) (few_parens_result rs e) in (
        omega (arith, m, light),
        few_parens_results (rs ++ kept_types kept (takes p e) (value_type (type_of e))) es (omega (arith, light)),
      )

  pub few_parens_origin : (rs : List MonType) (e : Expression) → open_parens (origin p bound rs e) ≤ weight_of e
  few_parens_origin rs (Node at t (Dot a m)) = let q = few_parens_origin rs a in omega (arith, q)
  few_parens_origin rs (Node at t (Arrow a m)) = let q = few_parens_result rs a in omega (arith, q)
  few_parens_origin rs (Node at t (Assign op a b)) = omega arith
  few_parens_origin rs (Node at t (Comma a b)) = let q = few_parens_origin (rs ++ act_takes p a) b in omega (arith, q)
  few_parens_origin rs e = few_parens_location rs e
