-- What `op=`, `++` and `--` make of the old value and another: a value of the object's type.
use Rattle.std.proofs.Common.{◌≡◌, ℕ, ℤ, Bool, true, false, if◌then◌else◌, List, Option, Some, None, option_map, refl, sym, ap, ◌∙◌, subst}
use Rattle.c_syntax.specs.declared.place.Place.{Place}
use Rattle.c_syntax.specs.declared.types.CInt.{CInt}
use Rattle.c_syntax.specs.declared.expression.BinOp.{BinOp}
use Rattle.c_syntax.specs.Ctypes.{PlainType, Int, Ptr}
use Rattle.c_syntax.specs.Programs.{StructType}
use Rattle.c_syntax.specs.Layouts.{Scalar, IntegerType, PointerType, scalar_of, size_of}
use Rattle.c_model.specs.Integers.{fits, convert, operate_in}
use Rattle.c_model.specs.Conversions.{operation_type, is_shift}
use Rattle.c_model.specs.Memory.{Value, Integer, Store}
use Rattle.c_model.specs.State.{State, Normal, Stop, Over, Undefined, defined, computed}
use Rattle.c_model.specs.Meaning.{compound, converted, operate_values}
use Rattle.c_model.specs.ExpressionTyping.{Sight}
use Rattle.c_model.specs.TypedTrees.{CompoundTypes, ToInteger, ToPointer}
use Rattle.c_model.proofs.Conversions.{fits-convert}
use Rattle.mon_syntax.specs.Trees.{MonExpression}
use Rattle.c_effects.specs.Expressions as spec
use Rattle.c_simulation.specs.Standing.{Setting, Target, Has, IsOf, Bounded}
use Rattle.c_simulation.proofs.ExpressionTypes.{one_scalar}
use Rattle.c_simulation.proofs.Values.{compound_is}
use Rattle.c_simulation.proofs.Evaluating.{Makes, MakesValue, MakesNone}
use Rattle.c_simulation.proofs.Places.{of_integer, Both as Two, step_left}

both_mapped : (k : CInt) (o : Option ℤ) → option_map (converted (Int k)) (option_map Integer o) ≡ option_map (λ z. Integer (convert k z)) o
both_mapped k None = refl
both_mapped k (Some z) = refl

pub compound_value : (structs : List StructType) (store : Store) (k l : CInt) (op : BinOp) (x y : ℤ) → compound structs (Int k) op store (Integer x) (Int l) (Integer y) ≡ option_map (λ z. Integer (convert k z))
    (operate_in (operation_type op k l) op (convert (operation_type op k l) x)
    (if is_shift op then y else convert (operation_type op k l) y))
compound_value structs store k l op x y = by (operation_type op k l) (is_shift op)
  where
    by : (m : CInt) (t : Bool) → option_map (converted (Int k)) (operate_values 1 (Int m) op store (converted (Int m) (Integer x)) (if t then Integer y else converted (Int m) (Integer y))) ≡ option_map (λ z. Integer (convert k z))
        (operate_in m op (convert m x) (if t then y else convert m y))
    by m true = both_mapped k (operate_in m op (convert m x) y)
    by m false = both_mapped k (operate_in m op (convert m x) (convert m y))

module _ (w : Setting) (n : ℕ) (t : Target) (s : State) (store_is : t.mem.store ≡ s.store) (bounded : Bounded s.store) (sight : Sight) (structs : List StructType) where
  integers_make : (at : Place) (op : BinOp) (k l : CInt) (a e : MonExpression) (i j : Value) → IsOf (IntegerType k) i → IsOf (IntegerType l) j
      → Makes w n t s (IntegerType k) (computed at (λ store. compound structs (Int k) op store i (Int l) j) s) (Two w n t s store_is bounded a e i j) (spec.compound structs op (Int k) (Int l) a e)
  integers_make at op k l a e i j f g =
      let all = spec.compound structs op (Int k) (Int l) a e in
      of_integer k (λ i. Makes w n t s (IntegerType k) (computed at (λ store. compound structs (Int k) op store i (Int l) j) s) (Two w n t s store_is bounded a e i j) all) i f (λ x fx.
      of_integer l (λ j. Makes w n t s (IntegerType k) (computed at (λ store. compound structs (Int k) op store (Integer x) (Int l) j) s) (Two w n t s store_is bounded a e (Integer x) j) all) j g (λ y fy.
      subst (λ o. Makes w n t s (IntegerType k) (defined at o s) (Two w n t s store_is bounded a e (Integer x) (Integer y)) all) (sym (compound_value structs s.store k l op x y))
      (by x y fx fy (operate_in (operation_type op k l) op (convert (operation_type op k l) x) (if is_shift op then y else convert (operation_type op k l) y)) refl)))
    where
      by : (x y : ℤ) → fits k x ≡ true → fits l y ≡ true → (o : Option ℤ) → operate_in (operation_type op k l) op (convert (operation_type op k l) x) (if is_shift op then y else convert (operation_type op k l) y) ≡ o
          → Makes w n t s (IntegerType k) (defined at (option_map (λ z. Integer (convert k z)) o) s) (Two w n t s store_is bounded a e (Integer x) (Integer y)) (spec.compound structs op (Int k) (Int l) a e)
      by x y fx fy None d = MakesNone at refl
      by x y fx fy (Some z) d =
          MakesValue (Integer (convert k z)) (convert k z, refl, fits-convert k z) refl (λ later h. compound_is w later t.mem (operation_type op k l) k l op a e x y z fx fy d h.0 h.1)

  compound_makes : (at : Place) (op : BinOp) (u v : PlainType) (k l : Scalar) → scalar_of u ≡ Some k → scalar_of v ≡ Some l → CompoundTypes sight op u v → (a e : MonExpression) (i j : Value) → IsOf k i → IsOf l j
      → Makes w n t s k (computed at (λ store. compound structs u op store i v j) s) (Two w n t s store_is bounded a e i j) (spec.compound structs op u v a e)
  compound_makes at op u v k l k_is l_is (ToInteger p q) a e i j f g =
      let kk = one_scalar u k (IntegerType p.int) k_is (ap scalar_of p.is) in
      let ll = one_scalar v l (IntegerType q.int) l_is (ap scalar_of q.is) in
      subst (λ u. Makes w n t s k (computed at (λ store. compound structs u op store i v j) s) (Two w n t s store_is bounded a e i j) (spec.compound structs op u v a e)) (sym p.is)
      (subst (λ v. Makes w n t s k (computed at (λ store. compound structs (Int p.int) op store i v j) s) (Two w n t s store_is bounded a e i j) (spec.compound structs op (Int p.int) v a e)) (sym q.is)
      (subst (λ k. Makes w n t s k (computed at (λ store. compound structs (Int p.int) op store i (Int q.int) j) s) (Two w n t s store_is bounded a e i j) (spec.compound structs op (Int p.int) (Int q.int) a e)) (sym kk)
      (integers_make at op p.int q.int a e i j (subst (λ k. IsOf k i) kk f) (subst (λ l. IsOf l j) ll g))))
  compound_makes at op u v k l k_is l_is (ToPointer step p q) a e i j f g =
      let kk = one_scalar u k PointerType k_is (ap scalar_of p.is) in
      let ll = one_scalar v l (IntegerType q.int) l_is (ap scalar_of q.is) in
      subst (λ u. Makes w n t s k (computed at (λ store. compound structs u op store i v j) s) (Two w n t s store_is bounded a e i j) (spec.compound structs op u v a e)) (sym p.is)
      (subst (λ v. Makes w n t s k (computed at (λ store. compound structs (Ptr p.target) op store i v j) s) (Two w n t s store_is bounded a e i j) (spec.compound structs op (Ptr p.target) v a e)) (sym q.is)
      (subst (λ k. Makes w n t s k (computed at (λ store. compound structs (Ptr p.target) op store i (Int q.int) j) s) (Two w n t s store_is bounded a e i j) (spec.compound structs op (Ptr p.target) (Int q.int) a e)) (sym kk)
      (step_left w n t s store_is bounded at op (size_of structs p.target) (Ptr p.target) q.int a e i j step (subst (λ k. IsOf k i) kk f) (subst (λ l. IsOf l j) ll g))))

  -- where there is such a value
  pub record Combined (k : Scalar) (op : BinOp) (u v : PlainType) (i j value : Value) : Type 0 where
    pub fits : IsOf k value
    pub has : (a e : MonExpression) (later : List Value) → Two w n t s store_is bounded a e i j later → Has w (spec.compound structs op u v a e) later t.mem value

  pub combined : (at : Place) (op : BinOp) (u v : PlainType) (k l : Scalar) → scalar_of u ≡ Some k → scalar_of v ≡ Some l → CompoundTypes sight op u v → (i j value : Value) → IsOf k i → IsOf l j
      → compound structs u op s.store i v j ≡ Some value → (a e : MonExpression) → Combined k op u v i j value
  combined at op u v k l k_is l_is types i j value f g is a e = record {
    fits = (by a e (compound_makes at op u v k l k_is l_is types a e i j f g)).0;
    has = λ a e. (by a e (compound_makes at op u v k l k_is l_is types a e i j f g)).1;
  }
    where
      by : (a e : MonExpression) → Makes w n t s k (computed at (λ store. compound structs u op store i v j) s) (Two w n t s store_is bounded a e i j) (spec.compound structs op u v a e)
          → IsOf k value × ((later : List Value) → Two w n t s store_is bounded a e i j later → Has w (spec.compound structs op u v a e) later t.mem value)
      by a e (MakesNone there x) = let no : Normal value s ≡ Stop (Over (Undefined there)) s = sym (ap (λ o. defined at o s) is) ∙ x in absurd cc
      by a e (MakesValue z fz x has) =
          let both : Normal value s ≡ Normal z s = sym (ap (λ o. defined at o s) is) ∙ x in
          let same : z ≡ value = cc in
          (subst (λ z. IsOf k z) same fz, λ later h. has later h ∙ ap Some same)
