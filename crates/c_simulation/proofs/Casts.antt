-- Casts of values and of arrays, with effects in them.
use Rattle.std.proofs.Common.{◌≡◌, ℕ, ◌≤◌, pos, Bool, true, false, cond, if◌then◌else◌, List, ◌++◌, length, Some, None, refl, sym, ap, ◌∙◌, subst}
use Rattle.c_syntax.specs.declared.place.Place.{Place}
use Rattle.c_syntax.specs.declared.types.CInt.{CInt}
use Rattle.c_syntax.specs.Ctypes.{PlainType, Int, Ptr}
use Rattle.c_syntax.specs.Expressions.{Expression, Node, Cast, type_of}
use Rattle.c_syntax.specs.Layouts.{Scalar, IntegerType, PointerType, scalar_of}
use Rattle.c_model.specs.Integers.{convert}
use Rattle.c_model.specs.Memory.{Null, Value}
use Rattle.c_model.specs.State.{State, ◌>>=◌, give}
use Rattle.c_model.specs.Meaning.{Tables, tables_of, eval_with, place_with, is_array, is_member, address, converted}
use Rattle.c_model.specs.ExpressionTyping.{Sight, has_object}
use Rattle.c_model.specs.TypedTrees.{CastTypes, ToVoid, OfInteger, OfPointer, OfNullConstant, OfArray}
use Rattle.c_model.proofs.Conversions.{fits-convert}
use Rattle.mon_syntax.specs.declared.tree.MonType.{MonType}
use Rattle.mon_syntax.specs.declared.tree.MonType.TheVariants as kind
use Rattle.mon_syntax.specs.Registers.{Bindings}
use Rattle.mon_syntax.specs.BlockMemory.{Blocks}
use Rattle.mon_syntax.specs.Trees.{MonExpression, Constant}
use Rattle.c_effects.specs.Expressions.{register_type, in_type}
use Rattle.c_effects.specs.Expressions as spec
use Rattle.c_effects.specs.Full.{is_inner, takes, result, location, prepare}
use Rattle.c_simulation.specs.Standing.{Setting, Target, runs, Has, IsOf, Here, Standing, Beside}
use Rattle.c_simulation.specs.Reaching.{Reaches, Valued, Placed}
use Rattle.c_simulation.proofs.ExpressionTypes.{one_scalar}
use Rattle.c_simulation.proofs.Places.{of_integer, of_pointer}
use Rattle.c_simulation.proofs.Values.{in_type_converts}
use Rattle.c_simulation.proofs.Reaching.{MadeValue, reaches_made}
use Rattle.c_simulation.proofs.Operands.{Computes, Locates}
use Rattle.c_simulation.proofs.Designated.{address_reaches}

-- a cast of a value that stands in no object
pub record CastMade (w : Setting) (v to : PlainType) (k : Scalar) : Type 0 where
  pub from : Scalar
  pub from_is : scalar_of v ≡ Some from
  pub no_array : is_array v ≡ false
  pub fits : (x : Value) → IsOf from x → IsOf k (converted to x)
  pub has : (e : MonExpression) (regs : List Value) (mem : Blocks) (x : Value) → IsOf from x → Has w e regs mem x → Has w (spec.converted v to e) regs mem (converted to x)

pub integer_made : (w : Setting) (i j : CInt) → CastMade w (Int i) (Int j) (IntegerType j)
integer_made w i j = record {
  from = IntegerType i;
  from_is = refl;
  no_array = refl;
  fits = λ x f. of_integer i (λ x. IsOf (IntegerType j) (converted (Int j) x)) x f (λ z g. (convert j z, refl, fits-convert j z));
  has = λ e regs mem x f h. of_integer i (λ x. Has w e regs mem x → Has w (in_type (register_type i) (register_type j) e) regs mem (converted (Int j) x)) x f (λ z g h. in_type_converts w regs mem i j e z g h) h;
}

pub pointer_made : (w : Setting) (u v : PlainType) → CastMade w (Ptr u) (Ptr v) PointerType
pointer_made w u v = record {
  from = PointerType;
  from_is = refl;
  no_array = refl;
  fits = λ x f. of_pointer (λ x. IsOf PointerType (converted (Ptr v) x)) x f (λ p small. (p, refl, small));
  has = λ e regs mem x f h. of_pointer (λ x. Has w e regs mem x → Has w e regs mem (converted (Ptr v) x)) x f (λ p small h. h) h;
}

pub null_made : (w : Setting) (i : CInt) (v : PlainType) → CastMade w (Int i) (Ptr v) PointerType
null_made w i v = record {
  from = IntegerType i;
  from_is = refl;
  no_array = refl;
  fits = λ x f. of_integer i (λ x. IsOf PointerType (converted (Ptr v) x)) x f (λ z g. (Null, refl, tt));
  has = λ e regs mem x f h. of_integer i (λ x. Has w (Constant kind.Ptr (pos 0)) regs mem (converted (Ptr v) x)) x f (λ z g. refl);
}

-- a cast of what is no array
value_made : (w : Setting) (sight : Sight) (to : PlainType) (a : Expression) (k : Scalar) → scalar_of to ≡ Some k → is_array (type_of a) ≡ false → CastTypes sight to a → CastMade w (type_of a) to k
value_made w sight to a k is o (ToVoid v) = let none : None ≡ Some k = sym (ap scalar_of v) ∙ is in absurd cc
value_made w sight to a k is o (OfInteger p q) =
    subst (λ u. CastMade w u to k) (sym q.is) (subst (λ to. CastMade w (Int q.int) to k) (sym p.is)
    (subst (λ k. CastMade w (Int q.int) (Int p.int) k) (one_scalar to (IntegerType p.int) k (ap scalar_of p.is) is) (integer_made w q.int p.int)))
value_made w sight to a k is o (OfPointer p q) =
    subst (λ u. CastMade w u to k) (sym q.is) (subst (λ to. CastMade w (Ptr q.target) to k) (sym p.is)
    (subst (λ k. CastMade w (Ptr q.target) (Ptr p.target) k) (one_scalar to PointerType k (ap scalar_of p.is) is) (pointer_made w q.target p.target)))
value_made w sight to a k is o (OfNullConstant p q c) =
    subst (λ u. CastMade w u to k) (sym q.is) (subst (λ to. CastMade w (Int q.int) to k) (sym p.is)
    (subst (λ k. CastMade w (Int q.int) (Ptr p.target) k) (one_scalar to PointerType k (ap scalar_of p.is) is) (null_made w q.int p.target)))
value_made w sight to a k is o (OfArray u m p q r) = let differ : true ≡ false = sym (ap is_array q) ∙ o in absurd cc

module _ (w : Setting) (n : ℕ) (h : Here) (low : ℕ) (bound : Bindings) where
  abbrev T : Tables
  T = tables_of w.unit

  module _ (sight : Sight) (at : Place) (t to : PlainType) (a : Expression) (k : Scalar) (rs : List MonType) (is : scalar_of to ≡ Some k) (inner : has_object a ≡ true → is_array (type_of a) ≡ true → is_inner a ≡ is_member a)
      (a_does : (k : Scalar) → scalar_of (type_of a) ≡ Some k → Computes w n h low bound a k rs) (a_stands : has_object a ≡ true → Locates w n h low bound a rs)
      (s : State) (u : Target) (regs : List Value) (le : s.steps ≤ n) (m : Standing w h low bound regs s) (be : Beside w s.store s u) (room : length (rs ++ takes w.unit a) ≤ w.registers) where
    abbrev CastReaches : Bool → Scalar → Type 0
    CastReaches b k =
        Reaches w (Valued w k (length (rs ++ takes w.unit a)) (if b then location w.unit bound rs a else spec.converted (type_of a) to (result w.unit bound rs a))) (length rs) regs s
        (cond b (place_with T a w.call >>= address a) (eval_with T a w.call >>= λ x. give (converted to x)) s) (runs w n u (prepare w.unit bound rs a) regs)

    value_cast : CastMade w (type_of a) to k → CastReaches false k
    value_cast c =
        let high = length (rs ++ takes w.unit a) in
        let e = result w.unit bound rs a in
        reaches_made w (Valued w c.from high e) (Valued w k high (spec.converted (type_of a) to e)) (length rs) regs s (eval_with T a w.call s) (runs w n u (prepare w.unit bound rs a) regs) (λ x. give (converted to x))
        (a_does c.from c.from_is s u regs le m be room) (λ x to2 after v o same later be2 p.
        MadeValue (converted to x) refl (c.fits x p.0, λ later2 same2. c.has e later2 v.mem x p.0 (p.1 later2 same2)))

    array_cast : has_object a ≡ true → is_array (type_of a) ≡ true → CastReaches true PointerType
    array_cast o array =
        let high = length (rs ++ takes w.unit a) in
        address_reaches w n h low bound a (length rs) high regs s (place_with T a w.call s) (runs w n u (prepare w.unit bound rs a) regs) (location w.unit bound rs a)
        (subst (λ c. Reaches w (Placed w c high (location w.unit bound rs a)) (length rs) regs s (place_with T a w.call s) (runs w n u (prepare w.unit bound rs a) regs)) (inner o array) (a_stands o s u regs le m be room))

    pub cast_reaches : CastTypes sight to a → Reaches w (Valued w k (length (rs ++ takes w.unit a)) (result w.unit bound rs (Node at t (Cast to a)))) (length rs) regs s (eval_with T (Node at t (Cast to a)) w.call s)
        (runs w n u (prepare w.unit bound rs (Node at t (Cast to a))) regs)
    cast_reaches types = by (is_array (type_of a)) refl types
      where
        by : (b : Bool) → is_array (type_of a) ≡ b → CastTypes sight to a → CastReaches b k
        by false e types = value_cast (value_made w sight to a k is e types)
        by true e (ToVoid v) = let none : None ≡ Some k = sym (ap scalar_of v) ∙ is in absurd cc
        by true e (OfInteger p q) = let differ : true ≡ false = sym e ∙ ap is_array q.is in absurd cc
        by true e (OfPointer p q) = let differ : true ≡ false = sym e ∙ ap is_array q.is in absurd cc
        by true e (OfNullConstant p q c) = let differ : true ≡ false = sym e ∙ ap is_array q.is in absurd cc
        by true e (OfArray v m p q o) = subst (CastReaches true) (one_scalar to PointerType k (ap scalar_of p) is) (array_cast o e)
