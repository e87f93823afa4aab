-- Expressions without effects, among which are commas of such ones: they leave the source's state as it is, and nothing of them stands for its effects.
use Rattle.std.proofs.Common.{◌≡◌, ℕ, pos, Bool, true, false, cond, ◌&&◌, if◌then◌else◌, List, [], ◌∷◌, ◌++◌, Option, Some, None, option_map, refl, sym, subst}
use Rattle.c_syntax.specs.declared.place.Place.{Place}
use Rattle.c_syntax.specs.declared.expression.UnOp.TheVariants as prefix
use Rattle.c_syntax.specs.Ctypes.{PlainType}
use Rattle.c_syntax.specs.Expressions.{Expression, Node, Number, Letter, Text, Variable, Unary, Binary, Both, Either, Choice, Assign, Bump, Call, Cast, SizeOfType, SizeOfExpr, Index, Dot, Arrow, Comma, Expressions, NoExpression}
use Rattle.c_syntax.specs.Expressions.{Following, place_of, type_of}
use Rattle.c_syntax.specs.Layouts.{Scalar, scalar_of, offset_of, target_of}
use Rattle.c_syntax.specs.Programs.{TranslationUnit}
use Rattle.c_model.specs.Memory.{Pointer, Null, Into, Value, Integer, Points, NoValue, load, shifted, moved, tested_value}
use Rattle.c_model.specs.State.{State, End, Over, Undefined, Stuck, stop, Outcome, Normal, Stop, Evaluation, on_outcome, ◌>>=◌, give, defined, computed, read_any, tested, find, start_of}
use Rattle.c_model.specs.Meaning.{Tables, Callee, eval_with, place_with, evals_with, literal, truth_value, address, pointed_to, operate_value, choose, is_zero, is_member, is_array, is_pointer, is_of_library, named, converted}
use Rattle.c_model.specs.Meaning.{condition_of, operate_values, indexed, unit_of}
use Rattle.c_syntax.specs.declared.expression.Use.{Use}
use Rattle.c_syntax.specs.declared.expression.UnOp.{UnOp}
use Rattle.mon_syntax.specs.declared.tree.MonType.{MonType}
use Rattle.mon_syntax.specs.Registers.{Bindings}
use Rattle.mon_syntax.specs.Trees.{NoStatement}
use Rattle.c_model.specs.Integers.{truth}
use Rattle.c_effects.specs.Full.{is_pure, are_pure, act, act_takes}
use Rattle.c_simulation.proofs.Settled.{both_true}

-- ---- the source

-- where it goes on, the state is the same
abbrev pub Leaves : {A : Type 0} → State → Outcome A → Type 0
Leaves {A} s r = (a : A) (to : State) → r ≡ Normal a to → to ≡ s

leaves_give : {A : Type 0} (s : State) (a : A) → Leaves s (Normal a s)
leaves_give s a b to e = cc

leaves_stop : {A : Type 0} (s u : State) (x : End) (a : A) (to : State) → Stop x u ≡ Normal a to → to ≡ s
leaves_stop s u x b to e = absurd cc

leaves_then : {A B : Type 0} (s : State) (r : Outcome A) (f : A → Evaluation B) → Leaves s r → ((a : A) → Leaves s (f a s)) → Leaves s (on_outcome r f)
leaves_then s (Normal a u) f l g = subst (λ x. Leaves s (f a x)) (sym (l a u refl)) (g a)
leaves_then s (Stop x u) f l g = leaves_stop s u x

leaves_defined : {A : Type 0} (s : State) (at : Place) (o : Option A) → Leaves s (defined at o s)
leaves_defined s at None = leaves_stop s s _
leaves_defined s at (Some a) = leaves_give s a

leaves_read : (s : State) (at : Place) (p : Pointer) (k : Option Scalar) → Leaves s (read_any at p k s)
leaves_read s at p None = leaves_give s _
leaves_read s at p (Some k) = leaves_defined s at (load s.store p k)

leaves_choice : {A : Type 0} (s : State) (v : Value) (a b : Evaluation A) → Leaves s (a s) → Leaves s (b s) → Leaves s (choose v a b s)
leaves_choice s v a b h g = by (is_zero v)
  where
    by : (t : Bool) → Leaves s (cond t b a s)
    by true = g
    by false = h

leaves_pointed : (s : State) (v : Value) → Leaves s (pointed_to v s)
leaves_pointed s (Points p) = leaves_give s p
leaves_pointed s (Integer z) = leaves_stop s s Stuck
leaves_pointed s NoValue = leaves_stop s s Stuck

leaves_address : (s : State) (e : Expression) (p : Pointer) → Leaves s (address e p s)
leaves_address s e p = by (is_member e)
  where
    by : (b : Bool) → Leaves s ((if b then computed (place_of e) (λ store. option_map Points (moved store p (pos 0))) else give (Points p)) s)
    by true = leaves_defined s (place_of e) (option_map Points (moved s.store p (pos 0)))
    by false = leaves_give s (Points p)

leaves_named : (s : State) (at : Place) (t : PlainType) (x : Use) (o : Option ℕ) → Leaves s (named at t x o s)
leaves_named s at t x (Some n) = leaves_read s at (Into n 0) (scalar_of t)
leaves_named s at t x None = by (is_pointer t && is_of_library x)
  where
    by : (b : Bool) → Leaves s (cond b (give (Points Null)) (stop (Over (Undefined at))) s)
    by true = leaves_give s (Points Null)
    by false = leaves_stop s s (Over (Undefined at))

module _ (T : Tables) (call : Callee) (s : State) where
  leaves_tested : (a : Expression) → Leaves s (eval_with T a call s) → Leaves s (condition_of T a call s)
  leaves_tested a h = leaves_then s (eval_with T a call s) (tested (place_of a)) h (λ v. leaves_defined s (place_of a) (tested_value s.store v))

  leaves_truth : (b : Expression) → Leaves s (eval_with T b call s) → Leaves s ((condition_of T b call >>= λ y. give (truth_value y)) s)
  leaves_truth b h = leaves_then s (condition_of T b call s) (λ y. give (truth_value y)) (leaves_tested b h) (λ v. leaves_give s (truth_value v))

  leaves_unary : (at : Place) (op : UnOp) (t : PlainType) (a : Expression) → Leaves s (eval_with T a call s) → Leaves s ((eval_with T a call >>= λ x. defined at (operate_value t op x)) s)
  leaves_unary at op t a h = leaves_then s (eval_with T a call s) (λ x. defined at (operate_value t op x)) h (λ x. leaves_defined s at (operate_value t op x))

  leaves_index : {A : Type 0} (at : Place) (a b : Expression) (f : Pointer → Evaluation A) → Leaves s (eval_with T a call s) → Leaves s (eval_with T b call s) → ((p : Pointer) → Leaves s (f p s))
      → Leaves s ((eval_with T a call >>= λ x. eval_with T b call >>= λ y. computed at (λ store. indexed (unit_of T.structs (type_of a) (type_of b)) store x y) >>= f) s)
  leaves_index at a b f h g k =
      let made = λ (x y : Value). computed at (λ store. indexed (unit_of T.structs (type_of a) (type_of b)) store x y) in
      leaves_then s (eval_with T a call s) (λ x. eval_with T b call >>= λ y. made x y >>= f) h (λ x.
      leaves_then s (eval_with T b call s) (λ y. made x y >>= f) g (λ y.
      leaves_then s (made x y s) f (leaves_defined s at (indexed (unit_of T.structs (type_of a) (type_of b)) s.store x y)) k))

  leaves_behind : {A : Type 0} (a : Expression) (f : Pointer → Evaluation A) → Leaves s (eval_with T a call s) → ((p : Pointer) → Leaves s (f p s)) → Leaves s ((eval_with T a call >>= λ x. pointed_to x >>= f) s)
  leaves_behind a f h k = leaves_then s (eval_with T a call s) (λ x. pointed_to x >>= f) h (λ x. leaves_then s (pointed_to x s) f (leaves_pointed s x) k)

  mutual
    pub value_leaves : (e : Expression) → is_pure e ≡ true → Leaves s (eval_with T e call s)
    value_leaves (Node at t (Number n k)) p = leaves_give s (Integer n)
    value_leaves (Node at t (Letter n)) p = leaves_give s (Integer n)
    value_leaves (Node at t (Text n)) p = leaves_give s NoValue
    value_leaves (Node at t (Variable x)) p = leaves_named s at t x (find x.decl s.scope)
    value_leaves (Node at t (SizeOfType u)) p = leaves_give s _
    value_leaves (Node at t (SizeOfExpr a)) p = leaves_give s _
    value_leaves (Node at t (Unary prefix.Plus a)) p = leaves_unary at prefix.Plus t a (value_leaves a p)
    value_leaves (Node at t (Unary prefix.Minus a)) p = leaves_unary at prefix.Minus t a (value_leaves a p)
    value_leaves (Node at t (Unary prefix.Flip a)) p = leaves_unary at prefix.Flip t a (value_leaves a p)
    value_leaves (Node at t (Unary prefix.Not a)) p =
        leaves_then s (condition_of T a call s) (λ x. give (Integer (truth (is_zero x)))) (leaves_tested a (value_leaves a p)) (λ x. leaves_give s (Integer (truth (is_zero x))))
    value_leaves (Node at t (Unary prefix.Deref a)) p =
        leaves_then s (on_outcome (eval_with T a call s) pointed_to) (λ p. read_any at p (scalar_of t)) (leaves_then s (eval_with T a call s) pointed_to (value_leaves a p) (leaves_pointed s))
        (λ p. leaves_read s at p (scalar_of t))
    value_leaves (Node at t (Unary prefix.Address a)) p = leaves_then s (place_with T a call s) (address a) (place_leaves a p) (leaves_address s a)
    value_leaves (Node at t (Binary op a b)) p =
        let h = both_true (is_pure a) (is_pure b) p in
        let made = λ (x y : Value). computed at (λ store. operate_values (unit_of T.structs (type_of a) (type_of b)) t op store x y) in
        leaves_then s (eval_with T a call s) (λ x. eval_with T b call >>= λ y. made x y) (value_leaves a h.0) (λ x.
        leaves_then s (eval_with T b call s) (λ y. made x y) (value_leaves b h.1) (λ y. leaves_defined s at (operate_values (unit_of T.structs (type_of a) (type_of b)) t op s.store x y)))
    value_leaves (Node at t (Both a b)) p =
        let h = both_true (is_pure a) (is_pure b) p in
        let right = condition_of T b call >>= λ y. give (truth_value y) in
        leaves_then s (condition_of T a call s) (λ x. choose x right (give (Integer (pos 0)))) (leaves_tested a (value_leaves a h.0)) (λ x.
        leaves_choice s x right (give (Integer (pos 0))) (leaves_truth b (value_leaves b h.1)) (leaves_give s (Integer (pos 0))))
    value_leaves (Node at t (Either a b)) p =
        let h = both_true (is_pure a) (is_pure b) p in
        let right = condition_of T b call >>= λ y. give (truth_value y) in
        leaves_then s (condition_of T a call s) (λ x. choose x (give (Integer (pos 1))) right) (leaves_tested a (value_leaves a h.0)) (λ x.
        leaves_choice s x (give (Integer (pos 1))) right (leaves_give s (Integer (pos 1))) (leaves_truth b (value_leaves b h.1)))
    value_leaves (Node at t (Choice a b c)) p =
        let h = both_true (is_pure a) (is_pure b && is_pure c) p in
        let g = both_true (is_pure b) (is_pure c) h.1 in
        leaves_then s (condition_of T a call s) (λ x. choose x (eval_with T b call) (eval_with T c call)) (leaves_tested a (value_leaves a h.0)) (λ x.
        leaves_choice s x (eval_with T b call) (eval_with T c call) (value_leaves b g.0) (value_leaves c g.1))
    value_leaves (Node at t (Cast to a)) p = by (is_array (type_of a)) (value_leaves a p) (place_leaves a p)
      where
        by : (b : Bool) → Leaves s (eval_with T a call s) → Leaves s (place_with T a call s) → Leaves s (cond b (place_with T a call >>= address a) (eval_with T a call >>= λ x. give (converted to x)) s)
        by true h g = leaves_then s (place_with T a call s) (address a) g (leaves_address s a)
        by false h g = leaves_then s (eval_with T a call s) (λ x. give (converted to x)) h (λ x. leaves_give s (converted to x))
    value_leaves (Node at t (Index a b)) p =
        let h = both_true (is_pure a) (is_pure b) p in
        leaves_index at a b (λ p. read_any at p (scalar_of t)) (value_leaves a h.0) (value_leaves b h.1) (λ p. leaves_read s at p (scalar_of t))
    value_leaves (Node at t (Dot a m)) p =
        let d = offset_of T.structs (type_of a) m in
        leaves_then s (place_with T a call s) (λ p. read_any at (shifted p d) (scalar_of t)) (place_leaves a p) (λ p. leaves_read s at (shifted p d) (scalar_of t))
    value_leaves (Node at t (Arrow a m)) p =
        let d = offset_of T.structs (target_of (type_of a)) m in
        leaves_behind a (λ p. read_any at (shifted p d) (scalar_of t)) (value_leaves a p) (λ p. leaves_read s at (shifted p d) (scalar_of t))
    value_leaves (Node at t (Comma a b)) p =
        let h = both_true (is_pure a) (is_pure b) p in
        leaves_then s (eval_with T a call s) (λ _. eval_with T b call) (value_leaves a h.0) (λ x. value_leaves b h.1)
    value_leaves (Node at t (Assign op a b)) p = absurd cc
    value_leaves (Node at t (Bump op a)) p = absurd cc
    value_leaves (Node at t (Call f args)) p = absurd cc

    place_leaves : (e : Expression) → is_pure e ≡ true → Leaves s (place_with T e call s)
    place_leaves (Node at t (Variable x)) p = leaves_defined s at (start_of (find x.decl s.scope))
    place_leaves (Node at t (Text n)) p = leaves_give s (literal T n)
    place_leaves (Node at t (Unary prefix.Deref a)) p = leaves_then s (eval_with T a call s) pointed_to (value_leaves a p) (leaves_pointed s)
    place_leaves (Node at t (Index a b)) p =
        let h = both_true (is_pure a) (is_pure b) p in
        let made = λ (x y : Value). computed at (λ store. indexed (unit_of T.structs (type_of a) (type_of b)) store x y) in
        leaves_then s (eval_with T a call s) (λ x. eval_with T b call >>= λ y. made x y) (value_leaves a h.0) (λ x.
        leaves_then s (eval_with T b call s) (λ y. made x y) (value_leaves b h.1) (λ y. leaves_defined s at (indexed (unit_of T.structs (type_of a) (type_of b)) s.store x y)))
    place_leaves (Node at t (Dot a m)) p =
        let d = offset_of T.structs (type_of a) m in
        leaves_then s (place_with T a call s) (λ p. give (shifted p d)) (place_leaves a p) (λ p. leaves_give s (shifted p d))
    place_leaves (Node at t (Arrow a m)) p =
        let d = offset_of T.structs (target_of (type_of a)) m in
        leaves_behind a (λ p. give (shifted p d)) (value_leaves a p) (λ p. leaves_give s (shifted p d))
    place_leaves (Node at t (Comma a b)) p =
        let h = both_true (is_pure a) (is_pure b) p in
        leaves_then s (eval_with T a call s) (λ _. place_with T b call) (value_leaves a h.0) (λ x. place_leaves b h.1)
    place_leaves (Node at t (Assign op a b)) p = absurd cc
    place_leaves (Node at t _) p = leaves_stop s s (Over (Undefined at))

  pub values_leave : (es : Expressions) → are_pure es ≡ true → Leaves s (evals_with T es call s)
  values_leave NoExpression p = leaves_give s []
  values_leave (Following e es) p =
      let h = both_true (is_pure e) (are_pure es) p in
      leaves_then s (eval_with T e call s) (λ v. evals_with T es call >>= λ vs. give (v ∷ vs)) (value_leaves e h.0) (λ v.
      leaves_then s (evals_with T es call s) (λ vs. give (v ∷ vs)) (values_leave es h.1) (λ vs. leaves_give s (v ∷ vs)))

-- ---- the target

module _ (p : TranslationUnit) where
  pub act_takes_none : (e : Expression) → is_pure e ≡ true → act_takes p e ≡ []
  act_takes_none (Node at t (Number n k)) h = refl
  act_takes_none (Node at t (Letter n)) h = refl
  act_takes_none (Node at t (Text n)) h = refl
  act_takes_none (Node at t (Variable x)) h = refl
  act_takes_none (Node at t (Unary op a)) h = act_takes_none a h
  act_takes_none (Node at t (Binary op a b)) h = let g = both_true (is_pure a) (is_pure b) h in rw (act_takes_none a g.0) (act_takes_none b g.1)
  act_takes_none (Node at t (Both a b)) h = let g = both_true (is_pure a) (is_pure b) h in rw g.1 (act_takes_none a g.0)
  act_takes_none (Node at t (Either a b)) h = let g = both_true (is_pure a) (is_pure b) h in rw g.1 (act_takes_none a g.0)
  act_takes_none (Node at t (Choice a b c)) h = let g = both_true (is_pure a) (is_pure b && is_pure c) h in rw g.1 (act_takes_none a g.0)
  act_takes_none (Node at t (Cast to a)) h = act_takes_none a h
  act_takes_none (Node at t (SizeOfType u)) h = refl
  act_takes_none (Node at t (SizeOfExpr a)) h = refl
  act_takes_none (Node at t (Index a b)) h = let g = both_true (is_pure a) (is_pure b) h in rw (act_takes_none a g.0) (act_takes_none b g.1)
  act_takes_none (Node at t (Dot a m)) h = act_takes_none a h
  act_takes_none (Node at t (Arrow a m)) h = act_takes_none a h
  act_takes_none (Node at t (Comma a b)) h = let g = both_true (is_pure a) (is_pure b) h in rw (act_takes_none a g.0) (act_takes_none b g.1)
  act_takes_none (Node at t (Assign op a b)) h = absurd cc
  act_takes_none (Node at t (Bump op a)) h = absurd cc
  act_takes_none (Node at t (Call f es)) h = absurd cc

  module _ (bound : Bindings) where
    pub acts_none : (e : Expression) (rs : List MonType) → is_pure e ≡ true → act p bound rs e ≡ NoStatement
    acts_none (Node at t (Number n k)) rs h = refl
    acts_none (Node at t (Letter n)) rs h = refl
    acts_none (Node at t (Text n)) rs h = refl
    acts_none (Node at t (Variable x)) rs h = refl
    acts_none (Node at t (Unary op a)) rs h = acts_none a rs h
    acts_none (Node at t (Binary op a b)) rs h = let g = both_true (is_pure a) (is_pure b) h in rw (acts_none a rs g.0) (acts_none b (rs ++ act_takes p a) g.1)
    acts_none (Node at t (Both a b)) rs h = let g = both_true (is_pure a) (is_pure b) h in rw g.1 (acts_none a rs g.0)
    acts_none (Node at t (Either a b)) rs h = let g = both_true (is_pure a) (is_pure b) h in rw g.1 (acts_none a rs g.0)
    acts_none (Node at t (Choice a b c)) rs h = let g = both_true (is_pure a) (is_pure b && is_pure c) h in rw g.1 (acts_none a rs g.0)
    acts_none (Node at t (Cast to a)) rs h = acts_none a rs h
    acts_none (Node at t (SizeOfType u)) rs h = refl
    acts_none (Node at t (SizeOfExpr a)) rs h = refl
    acts_none (Node at t (Index a b)) rs h = let g = both_true (is_pure a) (is_pure b) h in rw (acts_none a rs g.0) (acts_none b (rs ++ act_takes p a) g.1)
    acts_none (Node at t (Dot a m)) rs h = acts_none a rs h
    acts_none (Node at t (Arrow a m)) rs h = acts_none a rs h
    acts_none (Node at t (Comma a b)) rs h = let g = both_true (is_pure a) (is_pure b) h in rw (acts_none a rs g.0) (acts_none b (rs ++ act_takes p a) g.1)
    acts_none (Node at t (Assign op a b)) rs h = absurd cc
    acts_none (Node at t (Bump op a)) rs h = absurd cc
    acts_none (Node at t (Call f es)) rs h = absurd cc
