-- Expressions without effects: where the source has a value, the target has the same after the statements before it; and where the source has the place
-- of an object, the target has the pointer to it.
use Rattle.std.proofs.Common.{slice_get, ◌≡◌, ℕ, suc, ◌<◌, ◌≤◌, ℤ, pos, negsuc, Bool, true, false, cond, not, if◌then◌else◌, List, [], ◌∷◌, ◌++◌, length, Option, Some, None, option_map, refl, sym, ap, ◌∙◌, subst, arith}
use Rattle.std.proofs.lemmas.Int.{ints}
use Rattle.std.proofs.lemmas.Bool.{lt-ltb}
use Rattle.std.proofs.lemmas.List.{length-append}
use Rattle.c_syntax.specs.declared.place.Place.{Place}
use Rattle.c_syntax.specs.declared.types.CInt.{CInt}
use Rattle.c_syntax.specs.declared.types.CInt.TheVariants.{I32, I64, U64}
use Rattle.c_syntax.specs.declared.expression.Use.{Use}
use Rattle.c_syntax.specs.declared.expression.UnOp.{UnOp}
use Rattle.c_syntax.specs.declared.expression.UnOp.TheVariants as prefix
use Rattle.c_syntax.specs.declared.expression.BinOp.{BinOp}
use Rattle.c_syntax.specs.declared.expression.BinOp.TheVariants as operator
use Rattle.c_syntax.specs.Ctypes.{PlainType, Int, Ptr, Array}
use Rattle.c_syntax.specs.Expressions.{Expression, Node, Number, Letter, Variable, Unary, Binary, Both, Either, Choice, Assign, Bump, Call, Cast, SizeOfType, SizeOfExpr, Text, Index, Dot, Arrow, Comma, place_of, type_of}
use Rattle.c_syntax.specs.Layouts.{Scalar, IntegerType, PointerType, scalar_of, size_of, offset_of, target_of}
use Rattle.c_model.specs.Integers.{fits, convert, truth, operate, operate_one}
use Rattle.c_model.specs.Conversions.{promoted}
use Rattle.c_model.specs.Laws.{type_of_result}
use Rattle.c_model.specs.Memory.{Null, Into, Value, Integer, Points, shifted}
use Rattle.c_model.specs.State.{State, Outcome, Normal, Stop, Evaluation, on_outcome, ◌>>=◌, give, defined, computed, object, start_of, read_any, find}
use Rattle.c_model.specs.Meaning.{Tables, tables_of, eval_with, place_with, truth_value, is_zero, operate_value, operate_values, unit_of, converted, named, is_array, is_of_library, is_member, address, pointed_to, literal}
use Rattle.c_model.specs.Meaning as source
use Rattle.c_model.specs.ExpressionTyping.{Sight}
use Rattle.c_model.specs.ExpressionTyping.{has_object}
use Rattle.c_model.specs.TypedTrees.{WellTyped, IsPromoted, IndexTypes, OnTheLeft, OnTheRight}
use Rattle.c_model.specs.TypedTrees.{BinaryTypes, OfIntegers, OfPointerAndInteger, OfIntegerAndPointer, OfDifference, OfPointers, CastTypes, ToVoid, OfInteger, OfPointer, OfNullConstant, OfArray}
use Rattle.c_model.proofs.OperatorResults.{fits-operate_in, fits-operate_one_in}
use Rattle.c_model.proofs.Conversions.{fits-convert}
use Rattle.mon_syntax.specs.declared.tree.MonType.{MonType}
use Rattle.mon_syntax.specs.declared.tree.MonType.TheVariants as kind
use Rattle.mon_syntax.specs.declared.tree.MonOp.TheVariants as mon
use Rattle.mon_syntax.specs.Registers.{Bindings}
use Rattle.mon_syntax.specs.Trees.{MonExpression, Register, Constant, NoStatement}
use Rattle.mon_syntax.specs.Arithmetic.{is_pointer}
use Rattle.c_model.specs.Pure.{IsPure}
use Rattle.c_effects.specs.Letters.{IsLetter, HasLetters}
use Rattle.c_effects.specs.Expressions.{register_type, value_type, before, set, setup, value, place, temporaries, condition, truth_of, condition_of, unary, binary, in_type, pointer_to, loaded, farther, element, indexed, operated, compared}
use Rattle.c_effects.specs.Expressions as spec
use Rattle.c_simulation.specs.SameRegisters.{Same}
use Rattle.c_simulation.specs.Standing.{Setting, Target, runs, Has, IsOf, Bounded, Anchored, Knows}
use Rattle.c_simulation.proofs.Pointers.{small_literal}
use Rattle.c_simulation.proofs.Following.{anchored_same}
use Rattle.c_simulation.specs.Following.{Evaluates, HasValue, HasNone, Places, HasPlace, HasNoPlace, Tests}
use Rattle.c_simulation.proofs.PureValues.{Quiet, Gives, IsUndefined, HasKind, pure_gives}
use Rattle.c_simulation.proofs.Registers.{same_all, same_less, longer}
use Rattle.c_simulation.proofs.Anchors.{pointer_has}
use Rattle.c_simulation.proofs.Integers.{is_number, truth_fits}
use Rattle.c_simulation.proofs.Values.{HasNumber, constant_has, unary_is, binary_is, in_type_converts}
use Rattle.c_simulation.proofs.PointerValues.{scalar_register, value_type_is}
use Rattle.c_simulation.proofs.Evaluating.{lower_same, Pair, pairs, Makes, MakesValue, MakesNone, changed, changed_pair, MakesAt, placed_pair, stored, through_if}
use Rattle.c_simulation.proofs.Places.{of_integer, of_pointer, indexed_left, indexed_right, operated_numbers, operated_left, operated_right, operated_two, read_at, pointed_follows, member_follows, address_follows}
use Rattle.c_simulation.proofs.Places.{tests_follow, tested_number, put, Both as Two, index_left, index_right, step_left, step_right, difference_makes, relation_makes}
use Rattle.c_simulation.proofs.ExpressionTypes.{one_scalar, BinaryAt, binary_at, place_has_object}

pub letter_fits : (z : ℤ) → IsLetter z → fits I32 z ≡ true
letter_fits (pos n) l = lt-ltb _ _ (omega (arith, ints, l.high))
letter_fits (negsuc n) l = lt-ltb _ _ (omega (arith, ints, l.low))

pub handed_on : {A B C : Type 0} (r : Outcome A) (f : A → Evaluation B) (g : B → Evaluation C) → on_outcome r (λ a. f a >>= g) ≡ on_outcome (on_outcome r f) g
handed_on (Normal a s) f g = refl
handed_on (Stop e s) f g = refl

pub handed_on_twice : {A B C D : Type 0} (r : Outcome A) (f : A → Evaluation B) (g : B → Evaluation C) (h : C → Evaluation D) → on_outcome r (λ a. f a >>= λ b. g b >>= h) ≡ on_outcome (on_outcome (on_outcome r f) g) h
handed_on_twice (Normal a s) f g h = handed_on (f a s) g h
handed_on_twice (Stop e s) f g h = refl

pub handed_on_thrice : {A B C D : Type 0} (r : Outcome A) (m : Evaluation B) (f : A → B → Evaluation C) (g : C → Evaluation D) → on_outcome r (λ a. m >>= λ b. f a b >>= g) ≡ on_outcome (on_outcome r (λ a. m >>= f a)) g
handed_on_thrice (Normal a s) m f g = handed_on (m s) (f a) g
handed_on_thrice (Stop e s) m f g = refl

-- ---- numbers of registers

module _ (rs a b : List MonType) where
  -- the temporaries of two parts, in front and after
  pub two_long : length (rs ++ a ++ b) ≡ length (rs ++ (a ++ b))
  two_long = omega (arith, length-append (rs ++ a) b, length-append rs a, length-append rs (a ++ b), length-append a b)

  -- and one register more
  next_long : (t : MonType) → length (rs ++ (a ++ b ++ t ∷ [])) ≡ suc (length (rs ++ a ++ b))
  next_long t = omega (arith, length-append rs (a ++ b ++ t ∷ []), length-append (a ++ b) (t ∷ []), length-append a b, length-append (rs ++ a) b, length-append rs a)

  third_long : (c : List MonType) (t : MonType) → length (rs ++ (a ++ b ++ c ++ t ∷ [])) ≡ suc (length (rs ++ a ++ b ++ c))
  third_long c t = omega (arith, length-append rs (a ++ b ++ c ++ t ∷ []), length-append (a ++ b ++ c) (t ∷ []), length-append (a ++ b) c, length-append a b, length-append (rs ++ a ++ b) c, length-append (rs ++ a) b, length-append rs a)

-- ---- operators on integers

module _ (w : Setting) (n : ℕ) (s : State) (target : Target) where
  pub constant : (k : Scalar) (i : CInt) (z : ℤ) (r : Outcome Value) (regs : List Value) (low high : ℕ) (t : MonType) → IntegerType i ≡ k → t ≡ register_type i → fits i z ≡ true → r ≡ Normal (Integer z) s
      → Evaluates w k s target r regs low high (runs w n target NoStatement regs) (Constant t z)
  constant k i z r regs low high t is type f e =
      HasValue (Integer z) (subst (λ k. IsOf k (Integer z)) is (z, refl, f)) e regs (same_all low regs) refl (λ later same. constant_has w later target.mem t z (ap is_pointer type ∙ is_number i))

  -- what an operator makes of its operands
  makes : (at : Place) (k : CInt) (P : List Value → Type 0) (e : MonExpression) (o : Option ℤ) → ((v : ℤ) → o ≡ Some v → fits k v ≡ true)
      → ((v : ℤ) → o ≡ Some v → (later : List Value) → P later → HasNumber w later target.mem e v) → Makes w n target s (IntegerType k) (defined at (option_map Integer o) s) P e
  makes at k P e None f h = MakesNone at refl
  makes at k P e (Some v) f h = MakesValue (Integer v) (v, refl, f v refl) refl (h v refl)

  -- `+`, `-` and `~` of a type
  pub unary_makes : (at : Place) (op : UnOp) (k : CInt) (e : MonExpression) (v : Value) (high : ℕ) (after : List Value) → ((k : CInt) (z v : ℤ) → fits k z ≡ true → operate_one (Int k) op z ≡ Some v → fits k v ≡ true) → IsOf (IntegerType k) v
      → Makes w n target s (IntegerType k) (defined at (operate_value (Int k) op v) s) (λ later. Same high after later × Has w e later target.mem v) (unary op (register_type k) e)
  unary_makes at op k e v high after kept i =
      of_integer k (λ v. Makes w n target s (IntegerType k) (defined at (operate_value (Int k) op v) s) (λ later. Same high after later × Has w e later target.mem v) (unary op (register_type k) e)) v i (λ z f.
      makes at k (λ later. Same high after later × Has w e later target.mem (Integer z)) (unary op (register_type k) e) (operate_one (Int k) op z)
      (λ v d. kept k z v f d) (λ v d later p. unary_is w later target.mem k op e z v f d p.1))

  pub binary_makes : (at : Place) (unit : ℕ) (op : BinOp) (t u v : PlainType) (x y : MonExpression) (i j : Value) (m : BinaryAt op t u v) → IsOf (IntegerType m.left) i → IsOf (IntegerType m.right) j
      → Makes w n target s (IntegerType (type_of_result op m.left)) (computed at (λ store. operate_values unit t op store i j) s) (λ later. Has w x later target.mem i × Has w y later target.mem j)
      (binary op (register_type m.left) (register_type m.right) x y)
  binary_makes at unit op t u v x y i j m f g =
      let all = binary op (register_type m.left) (register_type m.right) x y in
      of_integer m.left (λ i. Makes w n target s (IntegerType (type_of_result op m.left)) (computed at (λ store. operate_values unit t op store i j) s) (λ later. Has w x later target.mem i × Has w y later target.mem j) all) i f (λ a fa.
      of_integer m.right (λ j. Makes w n target s (IntegerType (type_of_result op m.left)) (computed at (λ store. operate_values unit t op store (Integer a) j) s)
      (λ later. Has w x later target.mem (Integer a) × Has w y later target.mem j) all) j g (λ b fb.
      makes at (type_of_result op m.left) (λ later. Has w x later target.mem (Integer a) × Has w y later target.mem (Integer b)) all (operate t op a b)
      (λ z d. fits-operate_in m.left op a b z fa (λ sh. subst (λ l. fits l b ≡ true) (m.alike sh) fb) (sym (m.same a b) ∙ d))
      (λ z d later p. binary_is w later target.mem m.left m.right op x y a b z fa fb m.alike (sym (m.same a b) ∙ d) p.0 p.1)))

pub plus_fits : (k : CInt) (z v : ℤ) → fits k z ≡ true → operate_one (Int k) prefix.Plus z ≡ Some v → fits k v ≡ true
plus_fits k z v f d = fits-operate_one_in k prefix.Plus z v f d

pub minus_fits : (k : CInt) (z v : ℤ) → fits k z ≡ true → operate_one (Int k) prefix.Minus z ≡ Some v → fits k v ≡ true
minus_fits k z v f d = fits-operate_one_in k prefix.Minus z v f d

pub flip_fits : (k : CInt) (z v : ℤ) → fits k z ≡ true → operate_one (Int k) prefix.Flip z ≡ Some v → fits k v ≡ true
flip_fits k z v f d = fits-operate_one_in k prefix.Flip z v f d

pointer_type : (t : PlainType) (k : Scalar) → source.is_pointer t ≡ true → scalar_of t ≡ Some k → PointerType ≡ k
pointer_type (Ptr t) k p e = cc
pointer_type _ k p e = absurd cc

-- ---- expressions

-- in a state of the source whose blocks the target has, and whose names are anchored below the register `low`
module _ (w : Setting) (n : ℕ) (sight : Sight) (knows : Knows w sight) (bound : Bindings) (now : State) (target : Target) (store_is : target.mem.store ≡ now.store) (bounded : Bounded now.store) (low : ℕ) where
  abbrev T : Tables
  T = tables_of w.unit

  -- the translation of an expression follows it, after registers of these types
  abbrev pub Followed : Expression → Scalar → List MonType → List Value → Type 0
  Followed e k rs regs = Evaluates w k now target (eval_with T e w.call now) regs (length rs) (length (rs ++ temporaries e)) (runs w n target (setup w.unit bound rs e) regs) (value w.unit bound rs e)

  -- the same as a condition
  abbrev pub Tested : Expression → List MonType → List Value → Type 0
  Tested e rs regs = Tests w now target (source.condition_of T e w.call now) regs (length rs) (length (rs ++ temporaries e)) (runs w n target (setup w.unit bound rs e) regs) (condition_of w.unit bound rs e)

  -- the same of the object that it designates
  abbrev pub Placed : Expression → List MonType → List Value → Type 0
  Placed e rs regs =
      Places w (is_member e) now target (place_with T e w.call now) regs (length rs) (length (rs ++ temporaries e)) (runs w n target (setup w.unit bound rs e) regs) (place w.unit bound rs e)

  -- from all registers in which the names in sight are anchored
  abbrev pub FollowsAll : Expression → Scalar → List MonType → Type 0
  FollowsAll e k rs = (regs : List Value) → Anchored w low bound regs now.scope → length (rs ++ temporaries e) ≤ length regs → Followed e k rs regs

  abbrev pub PlacesAll : Expression → List MonType → Type 0
  PlacesAll e rs = (regs : List Value) → Anchored w low bound regs now.scope → length (rs ++ temporaries e) ≤ length regs → Placed e rs regs

  -- the second part of an expression begins after the first
  pub after_holds : (rs : List MonType) (regs after : List Value) → low ≤ length rs → Anchored w low bound regs now.scope → Same (length rs) regs after → Anchored w low bound after now.scope
  after_holds rs regs after behind h same = anchored_same w low bound regs after now.scope (same_less low (length rs) regs after behind same) h

  -- ---- names and literals

  object_follows : (at : Place) (x : ℕ) (rs : List MonType) (regs : List Value) → low ≤ length rs → Anchored w low bound regs now.scope
      → Places w false now target (object at x now) regs (length rs) (length (rs ++ [])) (runs w n target NoStatement regs) (pointer_to w.unit bound x)
  object_follows at x rs regs behind h = by (find x now.scope) refl
    where
      by : (o : Option ℕ) → find x now.scope ≡ o → Places w false now target (object at x now) regs (length rs) (length (rs ++ [])) (runs w n target NoStatement regs) (pointer_to w.unit bound x)
      by None e = HasNoPlace at (ap (λ o. defined at (start_of o) now) e)
      by (Some number) e =
          HasPlace (Into number 0) (λ c. omega arith) (ap (λ o. defined at (start_of o) now) e) regs (same_all (length rs) regs) refl
          (λ c later same. pointer_has w low (length (rs ++ [])) bound regs later target.mem now.scope x number (omega (arith, behind, longer rs [])) same h e)

  -- a name that is in sight, or `NULL`
  variable_follows : (at : Place) (t : PlainType) (x : Use) (k : Scalar) (rs : List MonType) → scalar_of t ≡ Some k → low ≤ length rs → FollowsAll (Node at t (Variable x)) k rs
  variable_follows at t x k rs is behind regs h enough = by (find x.decl now.scope) refl
    where
      this : Expression
      this = Node at t (Variable x)

      in_sight : (number : ℕ) → find x.decl now.scope ≡ Some number → Followed this k rs regs
      in_sight number e =
          let own : is_of_library x ≡ false = (h x.decl number e).own in
          let there : on_outcome (object at x.decl now) (λ p. read_any at p (scalar_of t)) ≡ named at t x (find x.decl now.scope) now =
          ap (λ o. on_outcome (defined at (start_of o) now) (λ p. read_any at p (scalar_of t))) e ∙ sym (ap (λ o. named at t x o now) e) in
          subst (λ b. Evaluates w k now target (eval_with T this w.call now) regs (length rs) (length (rs ++ [])) (runs w n target NoStatement regs) (if b then Constant kind.Ptr (pos 0) else loaded t (pointer_to w.unit bound x.decl))) (sym own)
          (subst (λ r. Evaluates w k now target r regs (length rs) (length (rs ++ [])) (runs w n target NoStatement regs) (loaded t (pointer_to w.unit bound x.decl))) there
          (read_at w n target now store_is bounded false at t k (object at x.decl now) regs (length rs) (length (rs ++ [])) (runs w n target NoStatement regs) (pointer_to w.unit bound x.decl) is
          (object_follows at x.decl rs regs behind h)))

      null : (b c : Bool) → is_of_library x ≡ c → source.is_pointer t ≡ b → find x.decl now.scope ≡ None → Followed this k rs regs
      null true true own pointer e =
          let points : PointerType ≡ k = pointer_type t k pointer is in
          subst (λ b. Evaluates w k now target (eval_with T this w.call now) regs (length rs) (length (rs ++ [])) (runs w n target NoStatement regs) (if b then Constant kind.Ptr (pos 0) else loaded t (pointer_to w.unit bound x.decl))) (sym own)
          (HasValue (Points Null) (subst (λ k. IsOf k (Points Null)) points (Null, refl, tt)) (ap (λ o. named at t x o now) e ∙ rw pointer (rw own refl)) regs (same_all (length rs) regs) refl (λ later same. refl))
      null true false own pointer e = HasNone at (ap (λ o. named at t x o now) e ∙ rw pointer (rw own refl))
      null false c own pointer e = HasNone at (ap (λ o. named at t x o now) e ∙ rw pointer refl)

      by : (o : Option ℕ) → find x.decl now.scope ≡ o → Followed this k rs regs
      by None e = null (source.is_pointer t) (is_of_library x) refl refl e
      by (Some number) e = in_sight number e

  -- ---- two operands

  pair_follows : (a b : Expression) (k l : Scalar) (rs : List MonType) → low ≤ length rs → FollowsAll a k rs → FollowsAll b l (rs ++ temporaries a) → (regs : List Value) → Anchored w low bound regs now.scope
      → length (rs ++ (temporaries a ++ temporaries b)) ≤ length regs
      → Pair w n target now k l (eval_with T a w.call now) (eval_with T b w.call) regs (length rs) (length (rs ++ (temporaries a ++ temporaries b)))
      (runs w n target (before (setup w.unit bound rs a) (setup w.unit bound (rs ++ temporaries a) b)) regs) (value w.unit bound rs a) (value w.unit bound (rs ++ temporaries a) b)
  pair_follows a b k l rs behind f g regs h enough =
      let more = two_long rs (temporaries a) (temporaries b) in
      subst (λ high. Pair w n target now k l (eval_with T a w.call now) (eval_with T b w.call) regs (length rs) high
      (runs w n target (before (setup w.unit bound rs a) (setup w.unit bound (rs ++ temporaries a) b)) regs) (value w.unit bound rs a) (value w.unit bound (rs ++ temporaries a) b)) more
      (pairs w n target now k l (eval_with T a w.call now) (eval_with T b w.call) regs (length rs) (length (rs ++ temporaries a)) (length (rs ++ temporaries a ++ temporaries b)) (setup w.unit bound rs a)
      (setup w.unit bound (rs ++ temporaries a) b) (value w.unit bound rs a) (value w.unit bound (rs ++ temporaries a) b) (longer rs (temporaries a)) (longer (rs ++ temporaries a) (temporaries b))
      (f regs h (omega (arith, longer (rs ++ temporaries a) (temporaries b), more, enough)))
      (λ after same. g after (after_holds rs regs after behind h same) (omega (arith, more, enough, same.long))))

  module _ (at : Place) (t : PlainType) (op : BinOp) (a b : Expression) (rs : List MonType) (regs : List Value) where
    abbrev Operands : Scalar → Scalar → Type 0
    Operands k l =
        Pair w n target now k l (eval_with T a w.call now) (eval_with T b w.call) regs (length rs) (length (rs ++ (temporaries a ++ temporaries b)))
        (runs w n target (before (setup w.unit bound rs a) (setup w.unit bound (rs ++ temporaries a) b)) regs) (value w.unit bound rs a) (value w.unit bound (rs ++ temporaries a) b)

    abbrev x : MonExpression
    x = value w.unit bound rs a

    abbrev y : MonExpression
    y = value w.unit bound (rs ++ temporaries a) b

    abbrev unit : ℕ
    unit = unit_of T.structs (type_of a) (type_of b)

    -- the operator has the value that is made of the operands
    operator_follows : (k l m : Scalar) (e : MonExpression) → operated T.structs op (type_of a) (type_of b) x y ≡ e → Operands k l
        → ((i j : Value) → IsOf k i → IsOf l j → Makes w n target now m (computed at (λ store. operate_values unit t op store i j) now) (Two w n target now store_is bounded x y i j) e)
        → Followed (Node at t (Binary op a b)) m rs regs
    operator_follows k l m e is p go =
        subst (λ e. Evaluates w m now target (eval_with T (Node at t (Binary op a b)) w.call now) regs (length rs) (length (rs ++ (temporaries a ++ temporaries b)))
        (runs w n target (before (setup w.unit bound rs a) (setup w.unit bound (rs ++ temporaries a) b)) regs) e) (sym is)
        (changed_pair w n target now k l m (eval_with T a w.call now) (eval_with T b w.call) (λ i j. computed at (λ store. operate_values unit t op store i j)) regs (length rs) (length (rs ++ (temporaries a ++ temporaries b)))
        (runs w n target (before (setup w.unit bound rs a) (setup w.unit bound (rs ++ temporaries a) b)) regs) x y e p go)

    abbrev AsTyped : Scalar → Type 0
    AsTyped k = Followed (Node at t (Binary op a b)) k rs regs

    binary_follows : (k : Scalar) → scalar_of t ≡ Some k → BinaryTypes sight op t (type_of a) (type_of b) → ((k l : Scalar) → scalar_of (type_of a) ≡ Some k → scalar_of (type_of b) ≡ Some l → Operands k l) → AsTyped k
    binary_follows k is (OfIntegers o) operands =
        let m = binary_at op t (type_of a) (type_of b) o in
        subst AsTyped (one_scalar t (IntegerType (type_of_result op m.left)) k m.result is)
        (operator_follows (IntegerType m.left) (IntegerType m.right) (IntegerType (type_of_result op m.left)) (binary op (register_type m.left) (register_type m.right) x y)
        (operated_numbers T.structs (type_of a) (type_of b) x y op m.left m.right m.left_is m.right_is) (operands (IntegerType m.left) (IntegerType m.right) m.left_is m.right_is)
        (λ i j f g. binary_makes w n now target at unit op t (type_of a) (type_of b) x y i j m f g))
    binary_follows k is (OfPointerAndInteger step u v same) operands =
        let left : scalar_of (type_of a) ≡ Some PointerType = ap scalar_of u.is in
        let right : scalar_of (type_of b) ≡ Some (IntegerType v.int) = ap scalar_of v.is in
        subst AsTyped (one_scalar t PointerType k (ap scalar_of same ∙ left) is)
        (operator_follows PointerType (IntegerType v.int) PointerType (spec.pointer_and_integer op unit x (register_type v.int) y)
        (operated_left T.structs (type_of a) (type_of b) x y op v.int left right) (operands PointerType (IntegerType v.int) left right)
        (λ i j f g. step_left w n target now store_is bounded at op unit t v.int x y i j step f g))
    binary_follows k is (OfIntegerAndPointer step u v same) operands =
        let left : scalar_of (type_of a) ≡ Some (IntegerType u.int) = ap scalar_of u.is in
        let right : scalar_of (type_of b) ≡ Some PointerType = ap scalar_of v.is in
        subst AsTyped (one_scalar t PointerType k (ap scalar_of same ∙ right) is)
        (operator_follows (IntegerType u.int) PointerType PointerType (element unit y (register_type u.int) x)
        (operated_right T.structs (type_of a) (type_of b) x y op u.int left right) (operands (IntegerType u.int) PointerType left right)
        (λ i j f g. step_right w n target now store_is bounded at op unit t u.int x y i j step f g))
    binary_follows k is (OfDifference minus u same result) operands =
        let left : scalar_of (type_of a) ≡ Some PointerType = ap scalar_of u.is in
        let right : scalar_of (type_of b) ≡ Some PointerType = ap scalar_of same ∙ left in
        subst AsTyped (one_scalar t (IntegerType I64) k (ap scalar_of result) is)
        (operator_follows PointerType PointerType (IntegerType I64) (spec.two_pointers op unit x y)
        (operated_two T.structs (type_of a) (type_of b) x y op left right) (operands PointerType PointerType left right)
        (λ i j f g. difference_makes w n target now store_is bounded at op unit t x y i j minus f g))
    binary_follows k is (OfPointers relation u v result) operands =
        let left : scalar_of (type_of a) ≡ Some PointerType = ap scalar_of u.is in
        let right : scalar_of (type_of b) ≡ Some PointerType = ap scalar_of v.is in
        subst AsTyped (one_scalar t (IntegerType I32) k (ap scalar_of result) is)
        (operator_follows PointerType PointerType (IntegerType I32) (spec.two_pointers op unit x y)
        (operated_two T.structs (type_of a) (type_of b) x y op left right) (operands PointerType PointerType left right)
        (λ i j f g. relation_makes w n target now store_is bounded at op unit t x y i j relation f g))

    -- ---- `a[b]`

    abbrev Indexed : Type 0
    Indexed =
        Places w false now target (place_with T (Node at t (Index a b)) w.call now) regs (length rs) (length (rs ++ (temporaries a ++ temporaries b)))
        (runs w n target (before (setup w.unit bound rs a) (setup w.unit bound (rs ++ temporaries a) b)) regs) (indexed T.structs (type_of a) (type_of b) x y)

    indexed_follows : (k l : Scalar) (e : MonExpression) → indexed T.structs (type_of a) (type_of b) x y ≡ e → Operands k l
        → ((i j : Value) → IsOf k i → IsOf l j → MakesAt w n target now (computed at (λ store. source.indexed unit store i j) now) (Two w n target now store_is bounded x y i j) e) → Indexed
    indexed_follows k l e is p go =
        subst (λ e. Places w false now target (place_with T (Node at t (Index a b)) w.call now) regs (length rs) (length (rs ++ (temporaries a ++ temporaries b)))
        (runs w n target (before (setup w.unit bound rs a) (setup w.unit bound (rs ++ temporaries a) b)) regs) e) (sym is)
        (placed_pair w n target now k l (eval_with T a w.call now) (eval_with T b w.call) (λ i j. computed at (λ store. source.indexed unit store i j)) regs (length rs) (length (rs ++ (temporaries a ++ temporaries b)))
        (runs w n target (before (setup w.unit bound rs a) (setup w.unit bound (rs ++ temporaries a) b)) regs) x y e p go)

    index_follows : IndexTypes sight t (type_of a) (type_of b) → ((k l : Scalar) → scalar_of (type_of a) ≡ Some k → scalar_of (type_of b) ≡ Some l → Operands k l) → Indexed
    index_follows (OnTheLeft u known v) operands =
        let left : scalar_of (type_of a) ≡ Some PointerType = ap scalar_of u in
        let right : scalar_of (type_of b) ≡ Some (IntegerType v.int) = ap scalar_of v.is in
        indexed_follows PointerType (IntegerType v.int) (element unit x (register_type v.int) y) (indexed_left T.structs (type_of a) (type_of b) x y v.int left right)
        (operands PointerType (IntegerType v.int) left right) (λ i j f g. index_left w n target now store_is bounded at unit v.int x y i j f g)
    index_follows (OnTheRight u v known) operands =
        let left : scalar_of (type_of a) ≡ Some (IntegerType u.int) = ap scalar_of u.is in
        let right : scalar_of (type_of b) ≡ Some PointerType = ap scalar_of v in
        indexed_follows (IntegerType u.int) PointerType (element unit y (register_type u.int) x) (indexed_right T.structs (type_of a) (type_of b) x y u.int left)
        (operands (IntegerType u.int) PointerType left right) (λ i j f g. index_right w n target now store_is bounded at unit u.int x y i j f g)

  -- ---- tests

  tested_follows : (e : Expression) (k : Scalar) (rs : List MonType) (regs : List Value) → scalar_of (type_of e) ≡ Some k → Followed e k rs regs → Tested e rs regs
  tested_follows e k rs regs is f =
      subst (λ m. Tests w now target (source.condition_of T e w.call now) regs (length rs) (length (rs ++ temporaries e)) (runs w n target (setup w.unit bound rs e) regs) (condition m (value w.unit bound rs e)))
      (sym (value_type_is (type_of e) k is))
      (tests_follow w n target now store_is bounded (place_of e) k (eval_with T e w.call now) regs (length rs) (length (rs ++ temporaries e)) (runs w n target (setup w.unit bound rs e) regs) (value w.unit bound rs e) f)

  not_follows : (at : Place) (t : PlainType) (a : Expression) (k : Scalar) (rs : List MonType) (regs : List Value) → scalar_of (type_of a) ≡ Some k → Followed a k rs regs
      → Followed (Node at t (Unary prefix.Not a)) (IntegerType I32) rs regs
  not_follows at t a k rs regs is f =
      subst (λ m. Evaluates w (IntegerType I32) now target (eval_with T (Node at t (Unary prefix.Not a)) w.call now) regs (length rs) (length (rs ++ temporaries a)) (runs w n target (setup w.unit bound rs a) regs)
      (compared mon.Eq m (value w.unit bound rs a))) (sym (value_type_is (type_of a) k is))
      (tested_number w n target now store_is bounded (place_of a) k (λ u. truth (is_zero u)) (eval_with T a w.call now) regs (length rs) (length (rs ++ temporaries a)) (runs w n target (setup w.unit bound rs a) regs)
      (value w.unit bound rs a) (compared mon.Eq (scalar_register k) (value w.unit bound rs a)) (λ u. truth_fits (is_zero u)) (λ u later c. c.equals) f)

  module _ (at : Place) (t : PlainType) (a b : Expression) (l : Scalar) (rs : List MonType) (b_is : scalar_of (type_of b) ≡ Some l) (behind : low ≤ length rs) (regs : List Value) (a_tested : Tested a rs regs)
      (b_follows : FollowsAll b l (rs ++ temporaries a)) (h : Anchored w low bound regs now.scope) (enough : length (rs ++ (temporaries a ++ temporaries b ++ kind.I32 ∷ [])) ≤ length regs) where
    abbrev last : ℕ
    last = length (rs ++ temporaries a ++ temporaries b)

    long : length (rs ++ (temporaries a ++ temporaries b ++ kind.I32 ∷ [])) ≡ suc last
    long = next_long rs (temporaries a) (temporaries b) kind.I32

    room : last < length regs
    room = omega (arith, long, enough)

    abbrev truth_of_right : MonExpression
    truth_of_right = truth_of w.unit bound (rs ++ temporaries a) b

    -- the right side, whose truth is put into the register
    right_follows : (after : List Value) → Same (length rs) regs after
        → Evaluates w (IntegerType I32) now target ((source.condition_of T b w.call >>= λ y. give (truth_value y)) now) after (length (rs ++ temporaries a)) (suc last)
        (runs w n target (before (setup w.unit bound (rs ++ temporaries a) b) (set last truth_of_right)) after) (Register last)
    right_follows after same =
        put w n target now store_is bounded (IntegerType I32) ((source.condition_of T b w.call >>= λ y. give (truth_value y)) now) after (length (rs ++ temporaries a)) last last
        (setup w.unit bound (rs ++ temporaries a) b) truth_of_right (longer (rs ++ temporaries a) (temporaries b)) (omega arith) (omega (arith, same.long, room))
        (subst (λ m. Evaluates w (IntegerType I32) now target ((source.condition_of T b w.call >>= λ y. give (truth_value y)) now) after (length (rs ++ temporaries a)) last
        (runs w n target (setup w.unit bound (rs ++ temporaries a) b) after) (spec.truth m (value w.unit bound (rs ++ temporaries a) b))) (sym (value_type_is (type_of b) l b_is))
        (tested_number w n target now store_is bounded (place_of b) l (λ u. truth (not (is_zero u))) (eval_with T b w.call now) after (length (rs ++ temporaries a)) last
        (runs w n target (setup w.unit bound (rs ++ temporaries a) b) after) (value w.unit bound (rs ++ temporaries a) b) (spec.truth (scalar_register l) (value w.unit bound (rs ++ temporaries a) b))
        (λ u. truth_fits (not (is_zero u))) (λ u later c. c.differs)
        (b_follows after (after_holds rs regs after behind h same) (omega (arith, same.long, room)))))

    -- a constant that is put into it
    constant_follows : (z : ℤ) → fits I32 z ≡ true → (after : List Value) → Same (length rs) regs after
        → Evaluates w (IntegerType I32) now target (give (Integer z) now) after (length (rs ++ temporaries a)) (suc last) (runs w n target (set last (Constant kind.I32 z)) after) (Register last)
    constant_follows z f after same =
        stored w n target now (IntegerType I32) (give (Integer z) now) after (length (rs ++ temporaries a)) last (Constant kind.I32 z) (Integer z) (omega (arith, same.long, room))
        (longer (rs ++ temporaries a) (temporaries b)) (z, refl, f) refl refl

    both_follows : Followed (Node at t (Both a b)) (IntegerType I32) rs regs
    both_follows =
        subst (λ high. Evaluates w (IntegerType I32) now target (eval_with T (Node at t (Both a b)) w.call now) regs (length rs) high (runs w n target (setup w.unit bound rs (Node at t (Both a b))) regs) (Register last)) (sym long)
        (through_if w n target now (IntegerType I32) (source.condition_of T a w.call now) (source.condition_of T b w.call >>= λ y. give (truth_value y)) (give (Integer (pos 0))) regs
        (length rs) (length (rs ++ temporaries a)) (suc last) (setup w.unit bound rs a) (before (setup w.unit bound (rs ++ temporaries a) b) (set last truth_of_right))
        (set last (Constant kind.I32 (pos 0))) (condition_of w.unit bound rs a) (Register last) (longer rs (temporaries a)) a_tested right_follows (constant_follows (pos 0) refl))

    either_follows : Followed (Node at t (Either a b)) (IntegerType I32) rs regs
    either_follows =
        subst (λ high. Evaluates w (IntegerType I32) now target (eval_with T (Node at t (Either a b)) w.call now) regs (length rs) high (runs w n target (setup w.unit bound rs (Node at t (Either a b))) regs) (Register last)) (sym long)
        (through_if w n target now (IntegerType I32) (source.condition_of T a w.call now) (give (Integer (pos 1))) (source.condition_of T b w.call >>= λ y. give (truth_value y)) regs
        (length rs) (length (rs ++ temporaries a)) (suc last) (setup w.unit bound rs a) (set last (Constant kind.I32 (pos 1))) (before (setup w.unit bound (rs ++ temporaries a) b) (set last truth_of_right))
        (condition_of w.unit bound rs a) (Register last) (longer rs (temporaries a)) a_tested (constant_follows (pos 1) refl) right_follows)

  module _ (at : Place) (t : PlainType) (a b c : Expression) (l : Scalar) (rs : List MonType) (behind : low ≤ length rs) (regs : List Value) (a_tested : Tested a rs regs) (b_follows : FollowsAll b l (rs ++ temporaries a))
      (c_follows : FollowsAll c l (rs ++ temporaries a ++ temporaries b)) (h : Anchored w low bound regs now.scope)
      (enough : length (rs ++ (temporaries a ++ temporaries b ++ temporaries c ++ value_type (type_of b) ∷ [])) ≤ length regs) where
    abbrev chosen_in : ℕ
    chosen_in = length (rs ++ temporaries a ++ temporaries b ++ temporaries c)

    choice_long : length (rs ++ (temporaries a ++ temporaries b ++ temporaries c ++ value_type (type_of b) ∷ [])) ≡ suc chosen_in
    choice_long = third_long rs (temporaries a) (temporaries b) (temporaries c) (value_type (type_of b))

    part_room : chosen_in < length regs
    part_room = omega (arith, choice_long, enough)

    -- the value of one of the parts, put into the register
    part_follows : (e : Expression) (es : List MonType) → length (rs ++ temporaries a) ≤ length es → length (es ++ temporaries e) ≤ chosen_in → FollowsAll e l es → (after : List Value) → Same (length rs) regs after
        → Evaluates w l now target (eval_with T e w.call now) after (length (rs ++ temporaries a)) (suc chosen_in) (runs w n target (before (setup w.unit bound es e) (set chosen_in (value w.unit bound es e))) after) (Register chosen_in)
    part_follows e es le le2 f after same =
        put w n target now store_is bounded l (eval_with T e w.call now) after (length (rs ++ temporaries a)) (length (es ++ temporaries e)) chosen_in (setup w.unit bound es e) (value w.unit bound es e)
        (omega (arith, le, longer es (temporaries e))) le2 (omega (arith, same.long, part_room))
        (lower_same w l now target (eval_with T e w.call now) after (length es) (length (rs ++ temporaries a)) (length (es ++ temporaries e)) (runs w n target (setup w.unit bound es e) after) (value w.unit bound es e) le
        (f after (after_holds rs regs after behind h same) (omega (arith, same.long, part_room, le2))))

    choice_follows : Followed (Node at t (Choice a b c)) l rs regs
    choice_follows =
        subst (λ high. Evaluates w l now target (eval_with T (Node at t (Choice a b c)) w.call now) regs (length rs) high (runs w n target (setup w.unit bound rs (Node at t (Choice a b c))) regs) (Register chosen_in)) (sym choice_long)
        (through_if w n target now l (source.condition_of T a w.call now) (eval_with T b w.call) (eval_with T c w.call) regs (length rs) (length (rs ++ temporaries a)) (suc chosen_in)
        (setup w.unit bound rs a) (before (setup w.unit bound (rs ++ temporaries a) b) (set chosen_in (value w.unit bound (rs ++ temporaries a) b)))
        (before (setup w.unit bound (rs ++ temporaries a ++ temporaries b) c) (set chosen_in (value w.unit bound (rs ++ temporaries a ++ temporaries b) c)))
        (condition_of w.unit bound rs a) (Register chosen_in) (longer rs (temporaries a)) a_tested
        (part_follows b (rs ++ temporaries a) (omega arith) (longer (rs ++ temporaries a ++ temporaries b) (temporaries c)) b_follows)
        (part_follows c (rs ++ temporaries a ++ temporaries b) (longer (rs ++ temporaries a) (temporaries b)) (omega arith) c_follows))

  -- ---- prefix operators and casts

  unary_follows : (at : Place) (op : UnOp) (t : PlainType) (a : Expression) (k : Scalar) (rs : List MonType) (regs : List Value) → ((k : CInt) (z v : ℤ) → fits k z ≡ true → operate_one (Int k) op z ≡ Some v → fits k v ≡ true)
      → (p : IsPromoted (type_of a))
      → t ≡ type_of a → scalar_of t ≡ Some k → Followed a (IntegerType (promoted p.int)) rs regs
      → Evaluates w k now target (on_outcome (eval_with T a w.call now) (λ x. defined at (operate_value t op x))) regs (length rs) (length (rs ++ temporaries a)) (runs w n target (setup w.unit bound rs a) regs)
      (unary op (value_type (type_of a)) (value w.unit bound rs a))
  unary_follows at op t a k rs regs kept p same is f =
      let i = promoted p.int in
      let type : t ≡ Int i = same ∙ p.is in
      subst (λ u. Evaluates w k now target (on_outcome (eval_with T a w.call now) (λ x. defined at (operate_value t op x))) regs (length rs) (length (rs ++ temporaries a)) (runs w n target (setup w.unit bound rs a) regs)
      (unary op (value_type u) (value w.unit bound rs a))) (sym p.is)
      (subst (λ t. Evaluates w k now target (on_outcome (eval_with T a w.call now) (λ x. defined at (operate_value t op x))) regs (length rs) (length (rs ++ temporaries a)) (runs w n target (setup w.unit bound rs a) regs)
      (unary op (register_type i) (value w.unit bound rs a))) (sym type)
      (subst (λ k. Evaluates w k now target (on_outcome (eval_with T a w.call now) (λ x. defined at (operate_value (Int i) op x))) regs (length rs) (length (rs ++ temporaries a)) (runs w n target (setup w.unit bound rs a) regs)
      (unary op (register_type i) (value w.unit bound rs a))) (one_scalar t (IntegerType i) k (ap scalar_of type) is)
      (changed w n target now (IntegerType i) (IntegerType i) (eval_with T a w.call now) (λ x. defined at (operate_value (Int i) op x)) regs (length rs) (length (rs ++ temporaries a)) (runs w n target (setup w.unit bound rs a) regs)
      (value w.unit bound rs a) (unary op (register_type i) (value w.unit bound rs a)) f
      (λ v j after same2. unary_makes w n now target at op i (value w.unit bound rs a) v (length (rs ++ temporaries a)) after kept j))))

  module _ (a : Expression) (rs : List MonType) (regs : List Value) where
    abbrev CastFollows : Bool → PlainType → PlainType → Scalar → Type 0
    CastFollows b u to k =
        Evaluates w k now target (cond b (place_with T a w.call >>= address a) (eval_with T a w.call >>= λ x. give (converted to x)) now) regs (length rs) (length (rs ++ temporaries a))
        (runs w n target (setup w.unit bound rs a) regs) (if b then place w.unit bound rs a else spec.converted u to (value w.unit bound rs a))

    integer_cast : (i j : CInt) → Followed a (IntegerType i) rs regs → CastFollows false (Int i) (Int j) (IntegerType j)
    integer_cast i j f =
        changed w n target now (IntegerType i) (IntegerType j) (eval_with T a w.call now) (λ x. give (converted (Int j) x)) regs (length rs) (length (rs ++ temporaries a)) (runs w n target (setup w.unit bound rs a) regs)
        (value w.unit bound rs a) (in_type (register_type i) (register_type j) (value w.unit bound rs a)) f (λ v g after same.
        of_integer i (λ v. Makes w n target now (IntegerType j) (Normal (converted (Int j) v) now) (λ later. Same (length (rs ++ temporaries a)) after later × Has w (value w.unit bound rs a) later target.mem v)
        (in_type (register_type i) (register_type j) (value w.unit bound rs a))) v g (λ z fit.
        MakesValue (Integer (convert j z)) (convert j z, refl, fits-convert j z) refl (λ later p. in_type_converts w later target.mem i j (value w.unit bound rs a) z fit p.1)))

    pointer_cast : (u v : PlainType) → Followed a PointerType rs regs → CastFollows false (Ptr u) (Ptr v) PointerType
    pointer_cast u v f =
        changed w n target now PointerType PointerType (eval_with T a w.call now) (λ x. give (converted (Ptr v) x)) regs (length rs) (length (rs ++ temporaries a)) (runs w n target (setup w.unit bound rs a) regs)
        (value w.unit bound rs a) (value w.unit bound rs a) f (λ x g after same.
        of_pointer (λ x. Makes w n target now PointerType (Normal (converted (Ptr v) x) now) (λ later. Same (length (rs ++ temporaries a)) after later × Has w (value w.unit bound rs a) later target.mem x) (value w.unit bound rs a)) x g (λ r small.
        MakesValue (Points r) (r, refl, small) refl (λ later p. p.1)))

    null_cast : (i : CInt) (v : PlainType) → Followed a (IntegerType i) rs regs → CastFollows false (Int i) (Ptr v) PointerType
    null_cast i v f =
        changed w n target now (IntegerType i) PointerType (eval_with T a w.call now) (λ x. give (converted (Ptr v) x)) regs (length rs) (length (rs ++ temporaries a)) (runs w n target (setup w.unit bound rs a) regs)
        (value w.unit bound rs a) (Constant kind.Ptr (pos 0)) f (λ x g after same.
        of_integer i (λ x. Makes w n target now PointerType (Normal (converted (Ptr v) x) now) (λ later. Same (length (rs ++ temporaries a)) after later × Has w (value w.unit bound rs a) later target.mem x) (Constant kind.Ptr (pos 0))) x g (λ z fit.
        MakesValue (Points Null) (Null, refl, tt) refl (λ later p. refl)))

    cast_follows : (at : Place) (t to : PlainType) (k : Scalar) → t ≡ to → scalar_of t ≡ Some k → CastTypes sight to a → ((k : Scalar) → scalar_of (type_of a) ≡ Some k → Followed a k rs regs) → (has_object a ≡ true → Placed a rs regs)
        → Followed (Node at t (Cast to a)) k rs regs
    cast_follows at t to k same is (ToVoid v) f g = let none : None ≡ Some k = sym (ap scalar_of (same ∙ v)) ∙ is in absurd cc
    cast_follows at t to k same is (OfInteger p q) f g =
        subst (λ u. CastFollows (is_array u) u to k) (sym q.is) (subst (λ to. CastFollows false (Int q.int) to k) (sym p.is)
        (subst (λ k. CastFollows false (Int q.int) (Int p.int) k) (one_scalar t (IntegerType p.int) k (ap scalar_of (same ∙ p.is)) is) (integer_cast q.int p.int (f (IntegerType q.int) (ap scalar_of q.is)))))
    cast_follows at t to k same is (OfPointer p q) f g =
        subst (λ u. CastFollows (is_array u) u to k) (sym q.is) (subst (λ to. CastFollows false (Ptr q.target) to k) (sym p.is)
        (subst (λ k. CastFollows false (Ptr q.target) (Ptr p.target) k) (one_scalar t PointerType k (ap scalar_of (same ∙ p.is)) is) (pointer_cast q.target p.target (f PointerType (ap scalar_of q.is)))))
    cast_follows at t to k same is (OfNullConstant p q c) f g =
        subst (λ u. CastFollows (is_array u) u to k) (sym q.is) (subst (λ to. CastFollows false (Int q.int) to k) (sym p.is)
        (subst (λ k. CastFollows false (Int q.int) (Ptr p.target) k) (one_scalar t PointerType k (ap scalar_of (same ∙ p.is)) is) (null_cast q.int p.target (f (IntegerType q.int) (ap scalar_of q.is)))))
    cast_follows at t to k same is (OfArray u m p q o) f g =
        subst (λ u. CastFollows (is_array u) u to k) (sym q)
        (subst (λ k. CastFollows true (Array u m) to k) (one_scalar t PointerType k (ap scalar_of (same ∙ p)) is)
        (address_follows w n target now store_is bounded a (place_with T a w.call now) regs (length rs) (length (rs ++ temporaries a)) (runs w n target (setup w.unit bound rs a) regs) (place w.unit bound rs a) (g o)))

    -- ---- places of parts

    pointer_place : Followed a PointerType rs regs → Places w false now target (on_outcome (eval_with T a w.call now) pointed_to) regs (length rs) (length (rs ++ temporaries a))
        (runs w n target (setup w.unit bound rs a) regs) (value w.unit bound rs a)
    pointer_place f =
        pointed_follows w n target now store_is bounded (eval_with T a w.call now) regs (length rs) (length (rs ++ temporaries a)) (runs w n target (setup w.unit bound rs a) regs) (value w.unit bound rs a) f

    dot_place : (at : Place) (d : ℕ) → Placed a rs regs → Places w true now target (on_outcome (place_with T a w.call now) (λ p. give (shifted p d))) regs (length rs) (length (rs ++ temporaries a))
        (runs w n target (setup w.unit bound rs a) regs) (farther (place w.unit bound rs a) d)
    dot_place at d f =
        member_follows w n target now store_is bounded (is_member a) at d (place_with T a w.call now) regs (length rs) (length (rs ++ temporaries a)) (runs w n target (setup w.unit bound rs a) regs) (place w.unit bound rs a) f

    arrow_place : (at : Place) (d : ℕ) → Followed a PointerType rs regs → Places w true now target (on_outcome (on_outcome (eval_with T a w.call now) pointed_to) (λ p. give (shifted p d))) regs (length rs) (length (rs ++ temporaries a))
        (runs w n target (setup w.unit bound rs a) regs) (farther (value w.unit bound rs a) d)
    arrow_place at d f =
        member_follows w n target now store_is bounded false at d (on_outcome (eval_with T a w.call now) pointed_to) regs (length rs) (length (rs ++ temporaries a)) (runs w n target (setup w.unit bound rs a) regs)
        (value w.unit bound rs a) (pointer_place f)

  -- what has no effect, in front of a comma, is evaluated in the source alone
  comma_follows : (at : Place) (t : PlainType) (a b : Expression) (k : Scalar) (rs : List MonType) (regs : List Value) → Quiet (HasKind (scalar_of (type_of a))) now (eval_with T a w.call now) → Followed b k rs regs
      → Followed (Node at t (Comma a b)) k rs regs
  comma_follows at t a b k rs regs (Gives v h e) f =
      subst (λ r. Evaluates w k now target r regs (length rs) (length (rs ++ temporaries b)) (runs w n target (setup w.unit bound rs b) regs) (value w.unit bound rs b)) (sym (ap (λ r. on_outcome r (λ _. eval_with T b w.call)) e)) f
  comma_follows at t a b k rs regs (IsUndefined there e) f = HasNone there (ap (λ r. on_outcome r (λ _. eval_with T b w.call)) e)

  -- ---- all forms

  mutual
    pub evaluates : (e : Expression) (k : Scalar) (rs : List MonType) → scalar_of (type_of e) ≡ Some k → IsPure e → WellTyped sight e → HasLetters e → low ≤ length rs → FollowsAll e k rs
    evaluates (Node at t (Number z None)) k rs is p q c behind regs h enough = absurd q
    evaluates (Node at t (Number z (Some i))) k rs is p q c behind regs h enough =
        constant w n now target k i z (Normal (Integer z) now) regs (length rs) (length (rs ++ [])) (value_type t) (one_scalar t (IntegerType i) k (ap scalar_of q.0) is) (ap value_type q.0) q.1 refl
    evaluates (Node at t (Letter z)) k rs is p q c behind regs h enough =
        constant w n now target k I32 z (Normal (Integer z) now) regs (length rs) (length (rs ++ [])) (value_type t) (one_scalar t (IntegerType I32) k (ap scalar_of q) is) (ap value_type q) (letter_fits z c) refl
    evaluates (Node at t (Text m)) k rs is p q c behind regs h enough = let none : None ≡ Some k = sym (ap scalar_of q.ctype) ∙ is in absurd cc
    evaluates (Node at t (Variable x)) k rs is p q c behind regs h enough = variable_follows at t x k rs is behind regs h enough
    evaluates (Node at t (Unary prefix.Plus a)) k rs is p q c behind regs h enough =
        unary_follows at prefix.Plus t a k rs regs plus_fits q.1 q.2 is (evaluates a (IntegerType (promoted q.1.int)) rs (ap scalar_of q.1.is) p q.0 c behind regs h enough)
    evaluates (Node at t (Unary prefix.Minus a)) k rs is p q c behind regs h enough =
        unary_follows at prefix.Minus t a k rs regs minus_fits q.1 q.2 is (evaluates a (IntegerType (promoted q.1.int)) rs (ap scalar_of q.1.is) p q.0 c behind regs h enough)
    evaluates (Node at t (Unary prefix.Flip a)) k rs is p q c behind regs h enough =
        unary_follows at prefix.Flip t a k rs regs flip_fits q.1 q.2 is (evaluates a (IntegerType (promoted q.1.int)) rs (ap scalar_of q.1.is) p q.0 c behind regs h enough)
    evaluates (Node at t (Unary prefix.Not a)) k rs is p q c behind regs h enough =
        subst (λ k. Followed (Node at t (Unary prefix.Not a)) k rs regs) (one_scalar t (IntegerType I32) k (ap scalar_of q.2) is)
        (not_follows at t a q.1.scalar rs regs q.1.is (evaluates a q.1.scalar rs q.1.is p q.0 c behind regs h enough))
    evaluates (Node at t (Unary prefix.Deref a)) k rs is p q c behind regs h enough =
        read_at w n target now store_is bounded false at t k (on_outcome (eval_with T a w.call now) pointed_to) regs (length rs) (length (rs ++ temporaries a)) (runs w n target (setup w.unit bound rs a) regs) (value w.unit bound rs a) is
        (pointer_place a rs regs (evaluates a PointerType rs (ap scalar_of q.1) p q.0 c behind regs h enough))
    evaluates (Node at t (Unary prefix.Address a)) k rs is p q c behind regs h enough =
        subst (λ k. Followed (Node at t (Unary prefix.Address a)) k rs regs) (one_scalar t PointerType k (ap scalar_of q.2) is)
        (address_follows w n target now store_is bounded a (place_with T a w.call now) regs (length rs) (length (rs ++ temporaries a)) (runs w n target (setup w.unit bound rs a) regs) (place w.unit bound rs a)
        (places a rs (place_has_object a q.1) p q.0 c behind regs h enough))
    evaluates (Node at t (Binary op a b)) k rs is p q c behind regs h enough =
        binary_follows at t op a b rs regs k is q.2 (λ i j f g.
        pair_follows a b i j rs behind (evaluates a i rs f p.0 q.0 c.0 behind) (evaluates b j (rs ++ temporaries a) g p.1 q.1 c.1 (omega (arith, longer rs (temporaries a), behind))) regs h enough)
    evaluates (Node at t (Both a b)) k rs is p q c behind regs h enough =
        subst (λ k. Followed (Node at t (Both a b)) k rs regs) (one_scalar t (IntegerType I32) k (ap scalar_of q.4) is)
        (both_follows at t a b q.3.scalar rs q.3.is behind regs
        (tested_follows a q.2.scalar rs regs q.2.is (evaluates a q.2.scalar rs q.2.is p.0 q.0 c.0 behind regs h (omega (arith, next_long rs (temporaries a) (temporaries b) kind.I32, longer (rs ++ temporaries a) (temporaries b), enough))))
        (evaluates b q.3.scalar (rs ++ temporaries a) q.3.is p.1 q.1 c.1 (omega (arith, longer rs (temporaries a), behind))) h enough)
    evaluates (Node at t (Either a b)) k rs is p q c behind regs h enough =
        subst (λ k. Followed (Node at t (Either a b)) k rs regs) (one_scalar t (IntegerType I32) k (ap scalar_of q.4) is)
        (either_follows at t a b q.3.scalar rs q.3.is behind regs
        (tested_follows a q.2.scalar rs regs q.2.is (evaluates a q.2.scalar rs q.2.is p.0 q.0 c.0 behind regs h (omega (arith, next_long rs (temporaries a) (temporaries b) kind.I32, longer (rs ++ temporaries a) (temporaries b), enough))))
        (evaluates b q.3.scalar (rs ++ temporaries a) q.3.is p.1 q.1 c.1 (omega (arith, longer rs (temporaries a), behind))) h enough)
    evaluates (Node at t (Choice a b d)) k rs is p q c behind regs h enough =
        choice_follows at t a b d k rs behind regs
        (tested_follows a q.3.scalar rs regs q.3.is (evaluates a q.3.scalar rs q.3.is p.0 q.0 c.0 behind regs h
        (omega (arith, third_long rs (temporaries a) (temporaries b) (temporaries d) (value_type (type_of b)), longer (rs ++ temporaries a) (temporaries b), longer (rs ++ temporaries a ++ temporaries b) (temporaries d), enough))))
        (evaluates b k (rs ++ temporaries a) (ap scalar_of q.4 ∙ is) p.1 q.1 c.1 (omega (arith, longer rs (temporaries a), behind)))
        (evaluates d k (rs ++ temporaries a ++ temporaries b) (ap scalar_of q.5 ∙ is) p.2 q.2 c.2 (omega (arith, longer (rs ++ temporaries a) (temporaries b), longer rs (temporaries a), behind))) h enough
    evaluates (Node at t (Cast to a)) k rs is p q c behind regs h enough =
        cast_follows a rs regs at t to k q.1 is q.2 (λ i f. evaluates a i rs f p q.0 c behind regs h enough) (λ o. places a rs o p q.0 c behind regs h enough)
    evaluates (Node at t (SizeOfType u)) k rs is p q c behind regs h enough =
        constant w n now target k U64 (pos (size_of w.unit.structs u)) (Normal (Integer (pos (size_of w.unit.structs u))) now) regs (length rs) (length (rs ++ [])) kind.U64
        (one_scalar t (IntegerType U64) k (ap scalar_of q.1) is) refl (knows.sizes u q.0) refl
    evaluates (Node at t (SizeOfExpr a)) k rs is p q c behind regs h enough =
        constant w n now target k U64 (pos (size_of w.unit.structs (type_of a))) (Normal (Integer (pos (size_of w.unit.structs (type_of a)))) now) regs (length rs) (length (rs ++ [])) kind.U64
        (one_scalar t (IntegerType U64) k (ap scalar_of q.2) is) refl (knows.sizes (type_of a) q.1) refl
    evaluates (Node at t (Index a b)) k rs is p q c behind regs h enough =
        let there = indexed T.structs (type_of a) (type_of b) (value w.unit bound rs a) (value w.unit bound (rs ++ temporaries a) b) in
        subst (λ r. Evaluates w k now target r regs (length rs) (length (rs ++ (temporaries a ++ temporaries b))) (runs w n target (before (setup w.unit bound rs a) (setup w.unit bound (rs ++ temporaries a) b)) regs) (loaded t there))
        (sym (handed_on_thrice (eval_with T a w.call now) (eval_with T b w.call) (λ x y. computed at (λ store. source.indexed (unit_of T.structs (type_of a) (type_of b)) store x y)) (λ p. read_any at p (scalar_of t))))
        (read_at w n target now store_is bounded false at t k (place_with T (Node at t (Index a b)) w.call now) regs (length rs) (length (rs ++ (temporaries a ++ temporaries b)))
        (runs w n target (before (setup w.unit bound rs a) (setup w.unit bound (rs ++ temporaries a) b)) regs) there is
        (index_follows at t operator.Add a b rs regs q.2 (λ i j f g.
        pair_follows a b i j rs behind (evaluates a i rs f p.0 q.0 c.0 behind) (evaluates b j (rs ++ temporaries a) g p.1 q.1 c.1 (omega (arith, longer rs (temporaries a), behind))) regs h enough)))
    evaluates (Node at t (Dot a m)) k rs is p q c behind regs h enough =
        let d = offset_of T.structs (type_of a) m in
        subst (λ r. Evaluates w k now target r regs (length rs) (length (rs ++ temporaries a)) (runs w n target (setup w.unit bound rs a) regs) (loaded t (farther (place w.unit bound rs a) d)))
        (sym (handed_on (place_with T a w.call now) (λ p. give (shifted p d)) (λ q. read_any at q (scalar_of t))))
        (read_at w n target now store_is bounded true at t k (on_outcome (place_with T a w.call now) (λ p. give (shifted p d))) regs (length rs) (length (rs ++ temporaries a)) (runs w n target (setup w.unit bound rs a) regs)
        (farther (place w.unit bound rs a) d) is (dot_place a rs regs at d (places a rs q.1 p q.0 c behind regs h enough)))
    evaluates (Node at t (Arrow a m)) k rs is p q c behind regs h enough =
        let d = offset_of T.structs (target_of (type_of a)) m in
        subst (λ r. Evaluates w k now target r regs (length rs) (length (rs ++ temporaries a)) (runs w n target (setup w.unit bound rs a) regs) (loaded t (farther (value w.unit bound rs a) d)))
        (sym (handed_on_twice (eval_with T a w.call now) pointed_to (λ p. give (shifted p d)) (λ q. read_any at q (scalar_of t))))
        (read_at w n target now store_is bounded true at t k (on_outcome (on_outcome (eval_with T a w.call now) pointed_to) (λ p. give (shifted p d))) regs (length rs) (length (rs ++ temporaries a))
        (runs w n target (setup w.unit bound rs a) regs) (farther (value w.unit bound rs a) d) is (arrow_place a rs regs at d (evaluates a PointerType rs (ap scalar_of q.1.is) p q.0 c behind regs h enough)))
    evaluates (Node at t (Comma a b)) k rs is p q c behind regs h enough =
        comma_follows at t a b k rs regs (pure_gives T w.call sight now a p.0 q.0) (evaluates b k rs (ap scalar_of q.2 ∙ is) p.1 q.1 c behind regs h enough)
    evaluates (Node at t (Assign op a b)) k rs is p q c behind regs h enough = absurd p
    evaluates (Node at t (Bump op a)) k rs is p q c behind regs h enough = absurd p
    evaluates (Node at t (Call f args)) k rs is p q c behind regs h enough = absurd p

    pub places : (e : Expression) (rs : List MonType) → has_object e ≡ true → IsPure e → WellTyped sight e → HasLetters e → low ≤ length rs → PlacesAll e rs
    places (Node at t (Variable x)) rs o p q c behind regs h enough = object_follows at x.decl rs regs behind h
    places (Node at t (Text m)) rs o p q c behind regs h enough =
        HasPlace (literal T m) (λ t. small_literal (slice_get T.literals m)) refl regs (same_all (length rs) regs) refl (λ i later same. knows.literals m q.text q.found)
    places (Node at t (Unary prefix.Deref a)) rs o p q c behind regs h enough = pointer_place a rs regs (evaluates a PointerType rs (ap scalar_of q.1) p q.0 c behind regs h enough)
    places (Node at t (Index a b)) rs o p q c behind regs h enough =
        index_follows at t operator.Add a b rs regs q.2 (λ i j f g.
        pair_follows a b i j rs behind (evaluates a i rs f p.0 q.0 c.0 behind) (evaluates b j (rs ++ temporaries a) g p.1 q.1 c.1 (omega (arith, longer rs (temporaries a), behind))) regs h enough)
    places (Node at t (Dot a m)) rs o p q c behind regs h enough = dot_place a rs regs at (offset_of T.structs (type_of a) m) (places a rs q.1 p q.0 c behind regs h enough)
    places (Node at t (Arrow a m)) rs o p q c behind regs h enough =
        let d = offset_of T.structs (target_of (type_of a)) m in
        subst (λ r. Places w true now target r regs (length rs) (length (rs ++ temporaries a)) (runs w n target (setup w.unit bound rs a) regs) (farther (value w.unit bound rs a) d))
        (sym (handed_on (eval_with T a w.call now) pointed_to (λ p. give (shifted p d))))
        (arrow_place a rs regs at d (evaluates a PointerType rs (ap scalar_of q.1.is) p q.0 c behind regs h enough))
    places (Node at t (Unary prefix.Plus a)) rs o p q c behind regs h enough = absurd cc
    places (Node at t (Unary prefix.Minus a)) rs o p q c behind regs h enough = absurd cc
    places (Node at t (Unary prefix.Not a)) rs o p q c behind regs h enough = absurd cc
    places (Node at t (Unary prefix.Flip a)) rs o p q c behind regs h enough = absurd cc
    places (Node at t (Unary prefix.Address a)) rs o p q c behind regs h enough = absurd cc
    places (Node at t (Number z i)) rs o p q c behind regs h enough = absurd cc
    places (Node at t (Letter z)) rs o p q c behind regs h enough = absurd cc
    places (Node at t (Binary op a b)) rs o p q c behind regs h enough = absurd cc
    places (Node at t (Both a b)) rs o p q c behind regs h enough = absurd cc
    places (Node at t (Either a b)) rs o p q c behind regs h enough = absurd cc
    places (Node at t (Choice a b d)) rs o p q c behind regs h enough = absurd cc
    places (Node at t (Cast to a)) rs o p q c behind regs h enough = absurd cc
    places (Node at t (SizeOfType u)) rs o p q c behind regs h enough = absurd cc
    places (Node at t (SizeOfExpr a)) rs o p q c behind regs h enough = absurd cc
    places (Node at t (Comma a b)) rs o p q c behind regs h enough = let no : true ≡ false = sym o ∙ p.2 in absurd cc
    places (Node at t (Assign op a b)) rs o p q c behind regs h enough = absurd p
    places (Node at t (Bump op a)) rs o p q c behind regs h enough = absurd p
    places (Node at t (Call f args)) rs o p q c behind regs h enough = absurd p

  -- a condition
  pub tests : (e : Expression) (k : Scalar) (rs : List MonType) → scalar_of (type_of e) ≡ Some k → IsPure e → WellTyped sight e → HasLetters e → low ≤ length rs → (regs : List Value) → Anchored w low bound regs now.scope
      → length (rs ++ temporaries e) ≤ length regs → Tested e rs regs
  tests e k rs is p q c behind regs h enough = tested_follows e k rs regs is (evaluates e k rs is p q c behind regs h enough)
