-- Expressions of the target on pointers have the values of the source's operators, where these are defined.
use Rattle.std.proofs.Common.{◌≡◌, ℕ, ◌+◌, ℤ, pos, ◌-ℤ◌, ◌*ℤ◌, Bool, true, false, not, ◌&&◌, if◌then◌else◌, List, Option, Some, None, option_map, slice_get, refl, sym, ap, ◌∙◌, subst}
use Rattle.std.specs.Ordering.{int_eq}
use Rattle.c_syntax.specs.declared.types.CInt.{CInt}
use Rattle.c_syntax.specs.declared.types.CInt.TheVariants.{I8, U8, I16, U16, I32, U32, I64, U64}
use Rattle.c_syntax.specs.declared.expression.BinOp.{BinOp}
use Rattle.c_syntax.specs.declared.expression.BinOp.TheVariants as operator
use Rattle.c_syntax.specs.Ctypes.{PlainType, Int, Ptr}
use Rattle.c_syntax.specs.Layouts.{Scalar, IntegerType, PointerType, scalar_of}
use Rattle.c_model.specs.Integers.{fits, convert, truth}
use Rattle.c_model.specs.Conversions.{is_relation}
use Rattle.c_model.specs.Memory.{Pointer, Null, Into, Value, Integer, Points, load, moved, equal_pointers, is_usable, same_pointer, is_some_place, tested_value, shifted}
use Rattle.c_model.specs.Meaning.{is_zero}
use Rattle.c_model.specs.Meaning as source
use Rattle.mon_syntax.specs.declared.tree.MonType.{MonType}
use Rattle.mon_syntax.specs.declared.tree.MonType.TheVariants as kind
use Rattle.mon_syntax.specs.declared.tree.MonOp.{MonOp}
use Rattle.mon_syntax.specs.declared.tree.MonOp.TheVariants as mon
use Rattle.mon_syntax.specs.Arithmetic.{minus}
use Rattle.mon_syntax.specs.Meaning.{eval}
use Rattle.mon_syntax.specs.Meaning.{◌>>=◌ as bind}
use Rattle.mon_syntax.specs.BlockMemory.{Blocks, integer_of, scalar_type, load_scalar, load_block, pointed_block, over_blocks}
use Rattle.mon_syntax.specs.Trees.{MonExpression, Register, Binary, Minus, Constant, Load}
use Rattle.c_effects.specs.Expressions.{register_type, value_type, in_type, farther, scaled, element, element_back, two_pointers, condition, compared}
use Rattle.c_effects.specs.Expressions as target
use Rattle.c_simulation.specs.Standing.{Setting, Has, IsSmall, IsOf, Bounded}
use Rattle.c_simulation.proofs.Integers.{convert_is}
use Rattle.c_simulation.proofs.Pointers.{moved_inside, steps_fit, bounded_live}
use Rattle.c_simulation.specs.Standing.{IsInside}
use Rattle.c_simulation.proofs.Steps.{steps_back_fit}
use Rattle.c_simulation.proofs.Values.{HasNumber, operation, in_type_converts, differs_from_zero, equals_zero, condition_is}

-- ---- types

-- the type of a register for values of a scalar type
abbrev pub scalar_register : Scalar → MonType
scalar_register (IntegerType k) = register_type k
scalar_register PointerType = kind.Ptr

pub value_type_is : (t : PlainType) (k : Scalar) → scalar_of t ≡ Some k → value_type t ≡ scalar_register k
value_type_is (Int i) k e = let same : IntegerType i ≡ k = cc in ap scalar_register same
value_type_is (Ptr t) k e = let same : PointerType ≡ k = cc in ap scalar_register same
value_type_is _ k e = absurd cc

pub scalar_is : (k : Scalar) → scalar_type (scalar_register k) ≡ Some k
scalar_is (IntegerType I8) = refl
scalar_is (IntegerType U8) = refl
scalar_is (IntegerType I16) = refl
scalar_is (IntegerType U16) = refl
scalar_is (IntegerType I32) = refl
scalar_is (IntegerType U32) = refl
scalar_is (IntegerType I64) = refl
scalar_is (IntegerType U64) = refl
scalar_is PointerType = refl

-- what is tested of a value of the type, and the expressions that say it
pub record IsTested (w : Setting) (t : MonType) (e : MonExpression) (regs : List Value) (mem : Blocks) (u : Value) : Type 0 where
  pub number : ℤ
  pub has : Has w (condition t e) regs mem (Integer number)
  pub alike : int_eq number (pos 0) ≡ is_zero u
  pub differs : Has w (target.truth t e) regs mem (Integer (truth (not (is_zero u))))
  pub equals : Has w (compared mon.Eq t e) regs mem (Integer (truth (is_zero u)))

truth_is_zero : (b : Bool) → int_eq (truth b) (pos 0) ≡ not b
truth_is_zero true = refl
truth_is_zero false = refl

differs_from_null : (p : Pointer) → not (same_pointer p Null) ≡ is_some_place p
differs_from_null Null = refl
differs_from_null (Into n i) = refl

not_not : (b : Bool) → not (not b) ≡ b
not_not true = refl
not_not false = refl

-- over these registers and this memory
module _ (w : Setting) (regs : List Value) (mem : Blocks) where
  abbrev pub HasPointer : MonExpression → Pointer → Type 0
  HasPointer e p = Has w e regs mem (Points p)

  -- the value of a scalar type at a pointer
  pub load_has : (k : Scalar) (e : MonExpression) (p : Pointer) (v : Value) → HasPointer e p → load mem.store p k ≡ Some v → Has w (Load (scalar_register k) e) regs mem v
  load_has k e p v h l =
      ap (λ o. bind o (λ x. load_block (scalar_register k) x mem)) h
      ∙ ap (λ (o : Option Scalar). load_scalar o mem.store p) (scalar_is k)
      ∙ l

  -- ---- steps

  pub farther_has : (e : MonExpression) (n i d : ℕ) → HasPointer e (Into n i) → IsInside mem.store (Into n (i + d)) → HasPointer (farther e d) (Into n (i + d))
  farther_has e n i d h inside =
      ap (λ q. bind q (λ x. pointed_block mon.Add x (Integer (pos d)) mem)) h
      ∙ ap (option_map Points) (moved_inside mem.store n i d inside)

  -- so many bytes farther than a register points
  pub reaches : (r : ℕ) (p : Pointer) (d : ℕ) → slice_get regs r ≡ Some (Points p) → IsInside mem.store (shifted p d) → HasPointer (farther (Register r) d) (shifted p d)
  reaches r Null d points inside = let no : Null ≡ Into inside.block inside.offset = inside.is in absurd cc
  reaches r (Into n i) d points inside = farther_has (Register r) n i d points inside

  scaled_has : (unit : ℕ) (k : CInt) (e : MonExpression) (z : ℤ) → fits k z ≡ true → HasNumber w regs mem e z → HasNumber w regs mem (scaled unit (register_type k) e) (convert I64 (convert I64 z *ℤ pos unit))
  scaled_has unit k e z f h =
      operation w regs mem mon.Mul kind.I64 (in_type (register_type k) kind.I64 e) (Constant kind.I64 (pos unit)) (convert I64 z) (pos unit) refl (in_type_converts w regs mem k I64 e z f h) refl
      ∙ ap (λ i. Some (Integer i)) (sym (convert_is I64 (convert I64 z *ℤ pos unit)))

  -- a pointer moved by so many bytes
  moves : (p d : MonExpression) (r q : Pointer) (z : ℤ) → HasPointer p r → HasNumber w regs mem d z → moved mem.store r z ≡ Some q → HasPointer (Binary mon.Add kind.Ptr p d) q
  moves p d r q z h g m =
      ap (λ o. bind o (λ x. bind (eval over_blocks w.globals d regs mem) (λ y. pointed_block mon.Add x y mem))) h
      ∙ ap (λ o. bind o (λ y. pointed_block mon.Add (Points r) y mem)) g
      ∙ ap (option_map Points) m

  module _ (bounded : Bounded mem.store) where
    pub element_has : (unit : ℕ) (k : CInt) (p e : MonExpression) (r q : Pointer) (z : ℤ) → IsSmall r → fits k z ≡ true → HasPointer p r → HasNumber w regs mem e z → moved mem.store r (z *ℤ pos unit) ≡ Some q
        → HasPointer (element unit p (register_type k) e) q
    element_has unit k p e Null q z small f h g m = absurd cc
    element_has unit k p e (Into n i) q z small f h g m =
        moves p (scaled unit (register_type k) e) (Into n i) q (z *ℤ pos unit) h
        (scaled_has unit k e z f g ∙ ap (λ d. Some (Integer d)) (steps_fit mem.store n i unit z q (bounded_live mem.store bounded) small m)) m

    pub element_back_has : (unit : ℕ) (k : CInt) (p e : MonExpression) (r q : Pointer) (z : ℤ) → IsSmall r → fits k z ≡ true → HasPointer p r → HasNumber w regs mem e z
        → moved mem.store r ((pos 0 -ℤ z) *ℤ pos unit) ≡ Some q → HasPointer (element_back unit p (register_type k) e) q
    element_back_has unit k p e Null q z small f h g m = absurd cc
    element_back_has unit k p e (Into n i) q z small f h g m =
        moves p (Minus kind.I64 (scaled unit (register_type k) e)) (Into n i) q ((pos 0 -ℤ z) *ℤ pos unit) h
        (ap (λ o. bind o (λ x. bind (integer_of x) (λ j. Some (Integer (minus kind.I64 j))))) (scaled_has unit k e z f g)
        ∙ ap (λ d. Some (Integer d)) (steps_back_fit mem.store n i unit z q (bounded_live mem.store bounded) small m)) m

  -- ---- two pointers

  pub pair : (op : MonOp) (a b : MonExpression) (p q : Pointer) → HasPointer a p → HasPointer b q → eval over_blocks w.globals (Binary op kind.Ptr a b) regs mem ≡ pointed_block op (Points p) (Points q) mem
  pair op a b p q h g =
      ap (λ o. bind o (λ x. bind (eval over_blocks w.globals b regs mem) (λ y. pointed_block op x y mem))) h
      ∙ ap (λ o. bind o (λ y. pointed_block op (Points p) y mem)) g

  -- an order, or whether they are equal
  pub relation_has : (op : BinOp) (unit : ℕ) (a b : MonExpression) (p q : Pointer) (v : Value) → is_relation op ≡ true → HasPointer a p → HasPointer b q → source.two_pointers unit op mem.store p q ≡ Some v
      → Has w (two_pointers op unit a b) regs mem v
  relation_has operator.Eq unit a b p q v is h g e = pair mon.Eq a b p q h g ∙ e
  relation_has operator.Ne unit a b p q v is h g e = pair mon.Ne a b p q h g ∙ e
  relation_has operator.Lt unit a b p q v is h g e = pair mon.Lt a b p q h g ∙ e
  relation_has operator.Le unit a b p q v is h g e = pair mon.Le a b p q h g ∙ e
  relation_has operator.Gt unit a b p q v is h g e = pair mon.Gt a b p q h g ∙ e
  relation_has operator.Ge unit a b p q v is h g e = pair mon.Ge a b p q h g ∙ e
  relation_has _ unit a b p q v is h g e = absurd cc

  -- ---- tests

  null_is : (e : MonExpression) (p : Pointer) → is_usable mem.store p ≡ true → equal_pointers mem.store p Null ≡ Some (same_pointer p Null)
  null_is e p u = ap (λ b. if b && true then Some (same_pointer p Null) else None) u

  usable : (p : Pointer) (u : Value) → tested_value mem.store (Points p) ≡ Some u → (is_usable mem.store p ≡ true) × (u ≡ Integer (truth (is_some_place p)))
  usable p u e = by (is_usable mem.store p) e
    where
      by : (t : Bool) → (if t then Some (Integer (truth (is_some_place p))) else None) ≡ Some u → (t ≡ true) × (u ≡ Integer (truth (is_some_place p)))
      by true f = (refl, cc)
      by false f = absurd cc

  pointer_tested : (e : MonExpression) (p : Pointer) → is_usable mem.store p ≡ true → HasPointer e p → IsTested w kind.Ptr e regs mem (Integer (truth (is_some_place p)))
  pointer_tested e p u h =
      let same : equal_pointers mem.store p Null ≡ Some (same_pointer p Null) = null_is e p u in
      let differs : Has w (target.truth kind.Ptr e) regs mem (Integer (truth (is_some_place p))) =
      pair mon.Ne e (Constant kind.Ptr (pos 0)) p Null h refl ∙ ap (option_map (λ same. Integer (truth (not same)))) same ∙ ap (λ b. Some (Integer (truth b))) (differs_from_null p) in
      let zero : is_zero (Integer (truth (is_some_place p))) ≡ not (is_some_place p) = truth_is_zero (is_some_place p) in
      record {
        number = truth (is_some_place p);
        has = differs;
        alike = refl;
        differs = differs ∙ ap (λ b. Some (Integer (truth b))) (sym (not_not (is_some_place p)) ∙ ap not (sym zero));
        equals = pair mon.Eq e (Constant kind.Ptr (pos 0)) p Null h refl ∙ ap (option_map (λ same. Integer (truth same))) same
            ∙ ap (λ b. Some (Integer (truth b))) (sym (not_not (same_pointer p Null)) ∙ ap not (differs_from_null p) ∙ sym zero);
      }

  integer_tested : (k : CInt) (e : MonExpression) (z : ℤ) → fits k z ≡ true → HasNumber w regs mem e z → IsTested w (register_type k) e regs mem (Integer z)
  integer_tested k e z f h =
      let c = condition_is w regs mem k e z f h in
      record { number = c.number; has = c.has; alike = c.alike; differs = differs_from_zero w regs mem k e z f h; equals = equals_zero w regs mem k e z f h }

  pub is_tested : (k : Scalar) (e : MonExpression) (v u : Value) → IsOf k v → Has w e regs mem v → tested_value mem.store v ≡ Some u → IsTested w (scalar_register k) e regs mem u
  is_tested (IntegerType k) e v u i h t =
      let same : Integer i.0 ≡ u = let f = ap (tested_value mem.store) (sym i.1) ∙ t in cc in
      subst (IsTested w (register_type k) e regs mem) same (integer_tested k e i.0 i.2 (h ∙ ap Some i.1))
  is_tested PointerType e v u i h t =
      let parts = usable i.0 u (ap (tested_value mem.store) (sym i.1) ∙ t) in
      subst (IsTested w kind.Ptr e regs mem) (sym parts.1) (pointer_tested e i.0 parts.0 (h ∙ ap Some i.1))
