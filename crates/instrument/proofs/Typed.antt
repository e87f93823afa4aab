-- What translated expressions are made of has its types: constants, operators, pointers to variables, and registers in order.
pub use Rattle.instrument.proofs.TypedDefinitions.{is_global}
use Rattle.std.proofs.Common.{◌≡◌, ℕ, ◌+◌, ◌^◌, ◌<◌, ◌≤◌, ℤ, pos, negsuc, Bool, true, false, not, List, [], ◌∷◌, ◌++◌, length, Option, Some, None, slice_get, nat_lt, nat_eq, if◌then◌else◌, cond, refl, sym, ap, ◌∙◌, subst, arith, append_assoc}
use Rattle.std.proofs.lemmas.Bool.{ltb-true, leb-true}
use Rattle.std.proofs.lemmas.Bool.Decides.{nat_tests}
use Rattle.std.proofs.lemmas.Int.{ints}
use Rattle.c_syntax.specs.declared.types.CInt.{CInt}
use Rattle.c_syntax.specs.declared.types.CInt.TheVariants as c
use Rattle.c_syntax.specs.declared.expression.Use.{Use}
use Rattle.c_syntax.specs.declared.expression.UnOp.{UnOp}
use Rattle.c_syntax.specs.declared.expression.BinOp.{BinOp}
use Rattle.c_syntax.specs.declared.expression.BinOp.TheVariants as operator
use Rattle.c_syntax.specs.Ctypes as source_type
use Rattle.c_syntax.specs.Ctypes.{PlainType, Void, Int, Array, Struct, Count, int_type}
use Rattle.c_syntax.specs.Expressions.{Expression, Node, type_of}
use Rattle.c_syntax.specs.Programs.{StructType, TranslationUnit}
use Rattle.c_syntax.specs.Layouts.{Scalar, scalar_of, size_of}
use Rattle.c_model.specs.Integers.{fits, width, is_signed}
use Rattle.c_model.specs.Meaning.{is_array, is_of_library, unit_of}
use Rattle.c_model.specs.Conversions as convert
use Rattle.c_model.specs.Conversions.{promoted, operation_type, is_shift, common, wider}
use Rattle.c_model.specs.ExpressionTyping.{Object, Entity, AnObject, Sight, entity_named, has_small_parts, is_difference}
use Rattle.mon_syntax.specs.declared.tree.MonType.{MonType}
use Rattle.mon_syntax.specs.declared.tree.MonType.TheVariants.{I8, U8, I16, U16, I32, U32, I64, U64, I128, Ptr}
use Rattle.mon_syntax.specs.declared.tree.MonOp.{MonOp}
use Rattle.mon_syntax.specs.declared.tree.MonOp.TheVariants as mon
use Rattle.mon_syntax.specs.Registers.{Bindings, register_of}
use Rattle.mon_syntax.specs.Trees as tree
use Rattle.mon_syntax.specs.Trees.{MonExpression}
use Rattle.mon_syntax.specs.Arithmetic.{is_pointer}
use Rattle.mon_syntax.specs.Checking.{same_type}
use Rattle.mon_syntax.specs.Valid.{Types, HasType, has_constant, has_operator, second_type, is_arithmetic, is_whole, is_relation, result_type}
use Rattle.c_model.specs.SmallTypes.{TypesSmall}
use Rattle.c_model.specs.TypedTrees.{IsScalar, HasKnownSize, IsInteger, IsPromoted, Denotes, IsName, OfObject, OfNull, OnIntegers, BinaryTypes, OfIntegers, OfPointerAndInteger, OfIntegerAndPointer, OfDifference, OfPointers}
use Rattle.c_model.specs.ExpressionTyping.{has_object}
use Rattle.c_model.specs.TypedTrees.{IndexTypes, OnTheLeft, OnTheRight, CompoundTypes, ToInteger, ToPointer, CastTypes, ToVoid, OfInteger, OfPointer, OfNullConstant, OfArray}
use Rattle.c_effects.specs.Expressions.{register_type, value_type, operand_type, operator_of, in_type, compared, condition, truth, binary, scaled, farther, element, pointer_and_integer, object_of_global}
use Rattle.c_effects.specs.Expressions.{two_pointers, operated, indexed, converted, compound, global_index, pointer_of, pointer_to, loaded}
use Rattle.c_effects.specs.Effects.{block_register, block_of}
use Rattle.annot_simulation.specs.Validity.{Begins}
use Rattle.instrument.proofs.Parts.{StructsFit}
use Rattle.c_simulation.proofs.Integers.{operand_is, is_number, number_result, number_second, number_operator}
use Rattle.c_simulation.proofs.Registers.{get-end}
use Rattle.c_model.specs.StaticObjects.{static_objects}
use Rattle.instrument.proofs.Objects.{global_inside}

-- ---- constants

pub small_constant : (k : CInt) (z : ℤ) → fits k z ≡ true → has_constant (register_type k) z ≡ true
small_constant c.I8 (pos n) e = let l = ltb-true n 128 e in grind (arith, nat_tests, ints)
small_constant c.I8 (negsuc n) e = let l = ltb-true n 128 e in grind (arith, nat_tests, ints)
small_constant c.U8 (pos n) e = let l = ltb-true n 256 e in grind (arith, nat_tests, ints)
small_constant c.U8 (negsuc n) e = absurd cc
small_constant c.I16 (pos n) e = let l = ltb-true n 32768 e in grind (arith, nat_tests, ints)
small_constant c.I16 (negsuc n) e = let l = ltb-true n 32768 e in grind (arith, nat_tests, ints)
small_constant c.U16 (pos n) e = let l = ltb-true n 65536 e in grind (arith, nat_tests, ints)
small_constant c.U16 (negsuc n) e = absurd cc
small_constant c.I32 (pos n) e = let l = ltb-true n 2147483648 e in grind (arith, nat_tests, ints)
small_constant c.I32 (negsuc n) e = let l = ltb-true n 2147483648 e in grind (arith, nat_tests, ints)
small_constant c.U32 (pos n) e = let l = ltb-true n 4294967296 e in grind (arith, nat_tests, ints)
small_constant c.U32 (negsuc n) e = absurd cc
small_constant c.I64 (pos n) e = let l = ltb-true n 9223372036854775808 e in grind (arith, nat_tests, ints)
small_constant c.I64 (negsuc n) e = let l = ltb-true n 9223372036854775808 e in grind (arith, nat_tests, ints)
small_constant c.U64 (pos n) e = let l = ltb-true n 18446744073709551616 e in grind (arith, nat_tests, ints)
small_constant c.U64 (negsuc n) e = absurd cc

-- numbers of bytes
pub bytes_constant : (n : ℕ) → n ≤ 2147483647 → has_constant I64 (pos n) ≡ true
bytes_constant n h = grind (arith, nat_tests, ints)

pub index_constant : (n : ℕ) → n < 2 ^ 63 + 16 → has_constant U64 (pos n) ≡ true
index_constant n h = grind (arith, nat_tests, ints)

pub size_constant : (n : ℕ) → n ≤ 2147483647 → has_constant U64 (pos n) ≡ true
size_constant n h = grind (arith, nat_tests, ints)

pub small_size : (structs : List StructType) (t : PlainType) → has_small_parts structs t ≡ true → size_of structs t ≤ 2147483647
small_size structs (Int c.I8) e = omega arith
small_size structs (Int c.U8) e = omega arith
small_size structs (Int c.I16) e = omega arith
small_size structs (Int c.U16) e = omega arith
small_size structs (Int c.I32) e = omega arith
small_size structs (Int c.U32) e = omega arith
small_size structs (Int c.I64) e = omega arith
small_size structs (Int c.U64) e = omega arith
small_size structs (source_type.Ptr t) e = omega arith
small_size structs (Array t n) e = grind (arith, nat_tests)
small_size structs (Struct n) e = grind (arith, nat_tests)
small_size structs _ e = omega arith

-- a pointer goes on by elements of a small type
small_target : (structs : List StructType) (u t : PlainType) → u ≡ source_type.Ptr t → has_small_parts structs u ≡ true → size_of structs t ≤ 2147483647
small_target structs u t e h = small_size structs t (subst (λ x. has_small_parts structs x ≡ true) e h)

pub type_small : (structs : List StructType) (e : Expression) → TypesSmall structs e → has_small_parts structs (type_of e) ≡ true
type_small structs (Node at t k) h = h.0

-- a type whose size is known
pub known_small : (structs : List StructType) (s : Sight) (t : PlainType) → s.structs ≡ structs → HasKnownSize s t → size_of structs t ≤ 2147483647
known_small structs s t e h = subst (λ x. size_of x t ≤ 2147483647) e (leb-true (size_of s.structs t) 2147483647 h.small)

zero_constant : (t : MonType) → has_constant (operand_type t) (pos 0) ≡ true
zero_constant I8 = refl
zero_constant U8 = refl
zero_constant I16 = refl
zero_constant U16 = refl
zero_constant I32 = refl
zero_constant U32 = refl
zero_constant I64 = refl
zero_constant U64 = refl
zero_constant I128 = refl
zero_constant Ptr = refl

-- ---- types

operand_computes : (t : MonType) → is_pointer t ≡ false → is_arithmetic (operand_type t) ≡ true
operand_computes I8 e = refl
operand_computes U8 e = refl
operand_computes I16 e = refl
operand_computes U16 e = refl
operand_computes I32 e = refl
operand_computes U32 e = refl
operand_computes I64 e = refl
operand_computes U64 e = refl
operand_computes I128 e = refl
operand_computes Ptr e = absurd cc

pub register_whole : (k : CInt) → is_whole (register_type k) ≡ true
register_whole c.I8 = refl
register_whole c.U8 = refl
register_whole c.I16 = refl
register_whole c.U16 = refl
register_whole c.I32 = refl
register_whole c.U32 = refl
register_whole c.I64 = refl
register_whole c.U64 = refl

result_whole : (op : MonOp) (k : CInt) → is_whole (result_type op (register_type k)) ≡ true
result_whole op k = ap is_whole (number_result op (register_type k) (is_number k)) ∙ by (is_relation op)
  where
    by : (t : Bool) → is_whole (if t then I32 else register_type k) ≡ true
    by true = refl
    by false = register_whole k

arithmetic_number : (t : MonType) → is_arithmetic t ≡ true → is_pointer t ≡ false
arithmetic_number I32 e = refl
arithmetic_number U32 e = refl
arithmetic_number I64 e = refl
arithmetic_number U64 e = refl
arithmetic_number I128 e = refl
arithmetic_number _ e = absurd cc

promoted_computes : (k : CInt) → is_arithmetic (register_type (promoted k)) ≡ true
promoted_computes k = ap is_arithmetic (sym (operand_is k)) ∙ operand_computes (register_type k) (is_number k)

common_computes : (k l : CInt) → is_arithmetic (register_type (common k l)) ≡ true
common_computes k l = by (promoted k) (promoted l) (promoted_computes k) (promoted_computes l)
  where
    chosen : (t : Bool) (x y : CInt) → is_arithmetic (register_type x) ≡ true → is_arithmetic (register_type y) ≡ true → is_arithmetic (register_type (if t then x else y)) ≡ true
    chosen true x y p q = p
    chosen false x y p q = q

    by : (x y : CInt) → is_arithmetic (register_type x) ≡ true → is_arithmetic (register_type y) ≡ true → is_arithmetic (register_type (wider x y)) ≡ true
    by x y p q =
        chosen (nat_lt (width x) (width y)) y (if nat_lt (width y) (width x) then x else (if is_signed x then y else x)) q
        (chosen (nat_lt (width y) (width x)) x (if is_signed x then y else x) p (chosen (is_signed x) y x q p))

operation_computes : (op : BinOp) (k l : CInt) → is_arithmetic (register_type (operation_type op k l)) ≡ true
operation_computes op k l = by (is_shift op)
  where
    by : (t : Bool) → is_arithmetic (register_type (if t then promoted k else common k l)) ≡ true
    by true = promoted_computes k
    by false = common_computes k l

same_mon : (t u : MonType) → same_type t u ≡ true → t ≡ u
same_mon I8 I8 e = refl
same_mon U8 U8 e = refl
same_mon I16 I16 e = refl
same_mon U16 U16 e = refl
same_mon I32 I32 e = refl
same_mon U32 U32 e = refl
same_mon I64 I64 e = refl
same_mon U64 U64 e = refl
same_mon I128 I128 e = refl
same_mon Ptr Ptr e = refl
same_mon _ _ e = absurd cc

-- what a scalar type may be
pub scalar_is : (P : PlainType → Type 0) (t : PlainType) → IsScalar t → ((k : CInt) → P (Int k)) → ((u : PlainType) → P (source_type.Ptr u)) → P t
scalar_is P (Int k) h f g = f k
scalar_is P (source_type.Ptr u) h f g = g u
scalar_is P Void h f g = let i = h.is in absurd cc
scalar_is P (Array u n) h f g = let i = h.is in absurd cc
scalar_is P (Struct n) h f g = let i = h.is in absurd cc
scalar_is P (source_type.Named x) h f g = let i = h.is in absurd cc
scalar_is P (source_type.StructTag x tag) h f g = let i = h.is in absurd cc
scalar_is P (source_type.EnumTag x at) h f g = let i = h.is in absurd cc

pub int_scalar : (t : PlainType) (k : CInt) → t ≡ Int k → IsScalar t
int_scalar t k e = record { scalar = _; is = ap scalar_of e }

pub pointer_scalar : (t u : PlainType) → t ≡ source_type.Ptr u → IsScalar t
pointer_scalar t u e = record { scalar = _; is = ap scalar_of e }

pub integer_scalar : (t : PlainType) → IsInteger t → IsScalar t
integer_scalar t i = int_scalar t i.int i.is

pub promoted_scalar : (t : PlainType) → IsPromoted t → IsScalar t
promoted_scalar t i = int_scalar t (promoted i.int) i.is

-- ---- registers of these types

pub begins_left : (rs a b ts : Types) → Begins (rs ++ (a ++ b)) ts → Begins (rs ++ a) ts
begins_left rs a b ts h = record { rest = b ++ h.rest; is = h.is ∙ ap (λ l. l ++ h.rest) (sym (append_assoc rs a b)) ∙ append_assoc (rs ++ a) b h.rest }

pub begins_right : (rs a b ts : Types) → Begins (rs ++ (a ++ b)) ts → Begins (rs ++ a ++ b) ts
begins_right rs a b ts h = subst (λ l. Begins l ts) (sym (append_assoc rs a b)) h

pub begins_front : (a b ts : Types) → Begins (a ++ b) ts → Begins a ts
begins_front a b ts h = record { rest = b ++ h.rest; is = h.is ∙ append_assoc a b h.rest }

pub register_at : (rs ts : Types) (t : MonType) → Begins (rs ++ t ∷ []) ts → slice_get ts (length rs) ≡ Some t
register_at rs ts t h = ap (λ l. slice_get l (length rs)) (h.is ∙ append_assoc rs (t ∷ []) h.rest) ∙ get-end rs h.rest t

-- a register that points to a block is bound to the declaration
pub record HasPointer (ts : Types) (bound : Bindings) (x : ℕ) : Type 0 where
  pub register : ℕ
  pub is_bound : register_of bound x ≡ Some register
  pub points : slice_get ts register ≡ Some Ptr

-- ---- what is in sight

-- the register that is bound points, or else this holds
abbrev pub Aim : Types → Bool → Option ℕ → Type 0
Aim ts b (Some r) = slice_get ts r ≡ Some Ptr
Aim ts b None = b ≡ true

pub has_aim : (ts : Types) (b : Bool) (bound : Bindings) (x : ℕ) → HasPointer ts bound x → Aim ts b (register_of bound x)
has_aim ts b bound x h = subst (Aim ts b) (sym h.is_bound) h.points

pub aim_has : (ts : Types) (bound : Bindings) (x : ℕ) → Aim ts false (register_of bound x) → HasPointer ts bound x
aim_has ts bound x h = by (register_of bound x) refl h
  where
    by : (o : Option ℕ) → register_of bound x ≡ o → Aim ts false o → HasPointer ts bound x
    by None e k = absurd cc
    by (Some r) e k = record { register = r; is_bound = e; points = k }

-- the pointer to the block of a declaration: in a register, or that of a global
abbrev pub Reaches : TranslationUnit → Types → Bindings → ℕ → Type 0
Reaches p ts bound x = Aim ts (is_global p x) (register_of bound x)

-- so it is for a name in sight, whose number is none of the library
pub record Seen (p : TranslationUnit) (ts : Types) (bound : Bindings) (x : ℕ) : Type 0 where
  pub own : nat_eq x 4294967295 ≡ false
  pub has : Reaches p ts bound x

abbrev pub AreSeen : TranslationUnit → Types → Bindings → List Entity → Type 0
AreSeen p ts bound entities = (x : ℕ) (b : Object) → entity_named x entities ≡ Some (AnObject b) → Seen p ts bound b.decl

-- where expressions stand
pub record Knows (p : TranslationUnit) (ts : Types) (bound : Bindings) (s : Sight) : Type 0 where
  pub sees : AreSeen p ts bound s.entities
  pub structs_are : s.structs ≡ p.structs
  pub texts_are : s.texts ≡ p.texts
  pub fits : StructsFit p.structs

-- globals and literals
abbrev pub count_of_globals : TranslationUnit → ℕ
count_of_globals p = length (static_objects p)

pub block_points : (ts : Types) (bound : Bindings) (x : ℕ) → HasPointer ts bound x → slice_get ts (block_of bound x) ≡ Some Ptr
block_points ts bound x h = ap (λ o. slice_get ts (block_register o)) h.is_bound ∙ h.points

-- ---- types

same_relation : (op : BinOp) → is_relation (operator_of op) ≡ convert.is_relation op
same_relation operator.Add = refl
same_relation operator.Sub = refl
same_relation operator.Mul = refl
same_relation operator.Div = refl
same_relation operator.Rem = refl
same_relation operator.Shl = refl
same_relation operator.Shr = refl
same_relation operator.BitAnd = refl
same_relation operator.BitOr = refl
same_relation operator.BitXor = refl
same_relation operator.Eq = refl
same_relation operator.Ne = refl
same_relation operator.Lt = refl
same_relation operator.Le = refl
same_relation operator.Gt = refl
same_relation operator.Ge = refl

module _ (g : ℕ) (ts : Types) where
  pub in_typed : (from to : MonType) (e : MonExpression) → is_whole from ≡ true → is_whole to ≡ true → HasType g ts e from → HasType g ts (in_type from to e) to
  in_typed from to e f h k = by (same_type from to) refl
    where
      by : (t : Bool) → same_type from to ≡ t → HasType g ts (if t then e else tree.Cast to e) to
      by true s = subst (HasType g ts e) (same_mon from to s) k
      by false s = (refl, h, (from, f, k))

  -- an operator on two numbers of a type
  operation_typed : (op : MonOp) (t : MonType) (a b : MonExpression) → is_arithmetic t ≡ true → HasType g ts a t → HasType g ts b t → HasType g ts (tree.Binary op t a b) (result_type op t)
  operation_typed op t a b w f h =
      let plain = arithmetic_number t w in
      (refl, number_operator op t plain ∙ w, f, subst (HasType g ts b) (sym (number_second op t plain)) h)

  operand_typed : (t : MonType) (e : MonExpression) → HasType g ts e t → HasType g ts (in_type t (operand_type t) e) (operand_type t)
  operand_typed I8 e h = (refl, refl, (I8, refl, h))
  operand_typed U8 e h = (refl, refl, (U8, refl, h))
  operand_typed I16 e h = (refl, refl, (I16, refl, h))
  operand_typed U16 e h = (refl, refl, (U16, refl, h))
  operand_typed I32 e h = h
  operand_typed U32 e h = h
  operand_typed I64 e h = h
  operand_typed U64 e h = h
  operand_typed I128 e h = h
  operand_typed Ptr e h = h

  equality_operator : (t : MonType) → (has_operator mon.Eq (operand_type t) ≡ true) × (second_type mon.Eq (operand_type t) ≡ operand_type t)
  equality_operator I8 = (refl, refl)
  equality_operator U8 = (refl, refl)
  equality_operator I16 = (refl, refl)
  equality_operator U16 = (refl, refl)
  equality_operator I32 = (refl, refl)
  equality_operator U32 = (refl, refl)
  equality_operator I64 = (refl, refl)
  equality_operator U64 = (refl, refl)
  equality_operator I128 = (refl, refl)
  equality_operator Ptr = (refl, refl)

  difference_operator : (t : MonType) → (has_operator mon.Ne (operand_type t) ≡ true) × (second_type mon.Ne (operand_type t) ≡ operand_type t)
  difference_operator I8 = (refl, refl)
  difference_operator U8 = (refl, refl)
  difference_operator I16 = (refl, refl)
  difference_operator U16 = (refl, refl)
  difference_operator I32 = (refl, refl)
  difference_operator U32 = (refl, refl)
  difference_operator I64 = (refl, refl)
  difference_operator U64 = (refl, refl)
  difference_operator I128 = (refl, refl)
  difference_operator Ptr = (refl, refl)

  zero_typed : (t k : MonType) → k ≡ operand_type t → HasType g ts (tree.Constant (operand_type t) (pos 0)) k
  zero_typed t k e = (sym e, zero_constant t)

  pub negated_typed : (t : MonType) (e : MonExpression) → HasType g ts e t → HasType g ts (compared mon.Eq t e) I32
  negated_typed t e h = let o = equality_operator t in (refl, o.0, operand_typed t e h, zero_typed t (second_type mon.Eq (operand_type t)) o.1)

  pub truth_typed : (t : MonType) (e : MonExpression) → HasType g ts e t → HasType g ts (truth t e) I32
  truth_typed t e h = let o = difference_operator t in (refl, o.0, operand_typed t e h, zero_typed t (second_type mon.Ne (operand_type t)) o.1)

  pub condition_typed : (t : MonType) (e : MonExpression) → HasType g ts e t → HasType g ts (condition t e) I32
  condition_typed t e h = by (same_type t I32) refl
    where
      by : (b : Bool) → same_type t I32 ≡ b → HasType g ts (if b then e else truth t e) I32
      by true s = subst (HasType g ts e) (same_mon t I32 s) h
      by false s = truth_typed t e h

  -- ---- pointers

  pub farther_typed : (e : MonExpression) (d : ℕ) → d ≤ 2147483647 → HasType g ts e Ptr → HasType g ts (farther e d) Ptr
  farther_typed e d small h = (refl, refl, h, (refl, bytes_constant d small))

  scaled_typed : (unit : ℕ) (k : CInt) (i : MonExpression) → unit ≤ 2147483647 → HasType g ts i (register_type k) → HasType g ts (scaled unit (register_type k) i) I64
  scaled_typed unit k i small h = (refl, refl, in_typed (register_type k) I64 i (register_whole k) refl h, (refl, bytes_constant unit small))

  element_typed : (unit : ℕ) (e : MonExpression) (k : CInt) (i : MonExpression) → unit ≤ 2147483647 → HasType g ts e Ptr → HasType g ts i (register_type k) → HasType g ts (element unit e (register_type k) i) Ptr
  element_typed unit e k i small h j = (refl, refl, h, scaled_typed unit k i small j)

  step_typed : (op : BinOp) (unit : ℕ) (e : MonExpression) (k : CInt) (i : MonExpression) → unit ≤ 2147483647 → HasType g ts e Ptr → HasType g ts i (register_type k)
      → HasType g ts (pointer_and_integer op unit e (register_type k) i) Ptr
  step_typed operator.Sub unit e k i small h j = (refl, refl, h, (refl, refl, scaled_typed unit k i small j))
  step_typed _ unit e k i small h j = element_typed unit e k i small h j

  difference_typed : (op : BinOp) (unit : ℕ) (a b : MonExpression) → is_difference op ≡ true → unit ≤ 2147483647 → HasType g ts a Ptr → HasType g ts b Ptr → HasType g ts (two_pointers op unit a b) I64
  difference_typed operator.Sub unit a b d small f h = (refl, refl, (refl, refl, f, h), (refl, bytes_constant unit small))
  difference_typed _ unit a b d small f h = absurd cc

  relation_typed : (op : BinOp) (unit : ℕ) (a b : MonExpression) → convert.is_relation op ≡ true → HasType g ts a Ptr → HasType g ts b Ptr → HasType g ts (two_pointers op unit a b) I32
  relation_typed operator.Eq unit a b d f h = (refl, refl, f, h)
  relation_typed operator.Ne unit a b d f h = (refl, refl, f, h)
  relation_typed operator.Lt unit a b d f h = (refl, refl, f, h)
  relation_typed operator.Le unit a b d f h = (refl, refl, f, h)
  relation_typed operator.Gt unit a b d f h = (refl, refl, f, h)
  relation_typed operator.Ge unit a b d f h = (refl, refl, f, h)
  relation_typed _ unit a b d f h = absurd cc

  pub loaded_typed : (t : PlainType) (e : MonExpression) → IsScalar t → HasType g ts e Ptr → HasType g ts (loaded t e) (value_type t)
  loaded_typed t e h k = subst (λ (o : Option Scalar). HasType g ts (elim o [ None ↦ e | Some i ↦ tree.Load (value_type t) e ]) (value_type t)) (sym h.is) (refl, k)

  -- ---- operators by the types of their operands

  integers_typed : (op : BinOp) (t u v : PlainType) (a b : MonExpression) → OnIntegers op t u v → HasType g ts a (value_type u) → HasType g ts b (value_type v) → HasType g ts (binary op (value_type u) (value_type v) a b) (value_type t)
  integers_typed op t u v a b h f k =
      let m = promoted h.left.int in
      let left = register_type m in
      let gives : result_type (operator_of op) left ≡ value_type t =
      number_result (operator_of op) left (is_number m) ∙ ap (λ x. if x then I32 else left) (same_relation op) ∙ chosen (convert.is_relation op) ∙ ap (λ x. value_type (cond (convert.is_relation op) int_type x)) (sym h.left.is)
      ∙ ap value_type (sym h.result) in
      subst (λ x. HasType g ts (binary op (value_type x) (value_type v) a b) (value_type t)) (sym h.left.is)
      (subst (HasType g ts (binary op left (value_type v) a b)) gives
      (operation_typed (operator_of op) left a (in_type (value_type v) left b) (promoted_computes h.left.int) (subst (λ x. HasType g ts a (value_type x)) h.left.is f)
      (subst (λ x. HasType g ts (in_type (value_type x) left b) left) (sym h.right.is)
      (in_typed (register_type (promoted h.right.int)) left b (register_whole (promoted h.right.int)) (register_whole m) (subst (λ x. HasType g ts b (value_type x)) h.right.is k)))))
    where
      chosen : (x : Bool) → (if x then I32 else register_type (promoted h.left.int)) ≡ value_type (cond x int_type (Int (promoted h.left.int)))
      chosen true = refl
      chosen false = refl

  module _ (structs : List StructType) (s : Sight) (structs_are : s.structs ≡ structs) where
    pub operated_typed : (op : BinOp) (t u v : PlainType) (a b : MonExpression) → BinaryTypes s op t u v → has_small_parts structs u ≡ true → has_small_parts structs v ≡ true → HasType g ts a (value_type u) → HasType g ts b (value_type v)
        → HasType g ts (operated structs op u v a b) (value_type t)
    operated_typed op t u v a b (OfIntegers h) left_small right_small f k =
        let plain : operated structs op u v a b ≡ binary op (value_type u) (value_type v) a b =
        ap (λ x. if x then (if is_pointer (value_type v) then two_pointers op (unit_of structs u v) a b else pointer_and_integer op (unit_of structs u v) a (value_type v) b)
        else (if is_pointer (value_type v) then element (unit_of structs u v) b (value_type u) a else binary op (value_type u) (value_type v) a b)) (ap (λ x. is_pointer (value_type x)) h.left.is ∙ is_number (promoted h.left.int))
        ∙ ap (λ x. if x then element (unit_of structs u v) b (value_type u) a else binary op (value_type u) (value_type v) a b) (ap (λ x. is_pointer (value_type x)) h.right.is ∙ is_number (promoted h.right.int)) in
        subst (λ x. HasType g ts x (value_type t)) (sym plain) (integers_typed op t u v a b h f k)
    operated_typed op t u v a b (OfPointerAndInteger step pointer integer same) left_small right_small f k =
        let n = size_of structs pointer.target in
        let e : operated structs op (source_type.Ptr pointer.target) (Int integer.int) a b ≡ pointer_and_integer op n a (register_type integer.int) b =
        ap (λ x. if x then two_pointers op n a b else pointer_and_integer op n a (register_type integer.int) b) (is_number integer.int) in
        subst (λ x. HasType g ts (operated structs op u v a b) (value_type x)) (sym (same ∙ pointer.is))
        (subst (λ x. HasType g ts (operated structs op x v a b) Ptr) (sym pointer.is)
        (subst (λ x. HasType g ts (operated structs op (source_type.Ptr pointer.target) x a b) Ptr) (sym integer.is)
        (subst (λ x. HasType g ts x Ptr) (sym e)
        (step_typed op n a integer.int b (small_target structs u pointer.target pointer.is left_small) (subst (λ x. HasType g ts a (value_type x)) pointer.is f) (subst (λ x. HasType g ts b (value_type x)) integer.is k)))))
    operated_typed op t u v a b (OfIntegerAndPointer step integer pointer same) left_small right_small f k =
        let n = size_of structs pointer.target in
        let e : operated structs op (Int integer.int) (source_type.Ptr pointer.target) a b ≡ element n b (register_type integer.int) a =
        ap (λ x. if x then two_pointers op n a b else element n b (register_type integer.int) a) (is_number integer.int) in
        subst (λ x. HasType g ts (operated structs op u v a b) (value_type x)) (sym (same ∙ pointer.is))
        (subst (λ x. HasType g ts (operated structs op u x a b) Ptr) (sym pointer.is)
        (subst (λ x. HasType g ts (operated structs op x (source_type.Ptr pointer.target) a b) Ptr) (sym integer.is)
        (subst (λ x. HasType g ts x Ptr) (sym e)
        (element_typed n b integer.int a (small_target structs v pointer.target pointer.is right_small) (subst (λ x. HasType g ts b (value_type x)) pointer.is k) (subst (λ x. HasType g ts a (value_type x)) integer.is f)))))
    operated_typed op t u v a b (OfDifference difference pointer alike result) left_small right_small f k =
        let n = size_of structs pointer.target in
        let q = source_type.Ptr pointer.target in
        subst (λ x. HasType g ts (operated structs op u v a b) (value_type x)) (sym result)
        (subst (λ x. HasType g ts (operated structs op x v a b) I64) (sym pointer.is)
        (subst (λ x. HasType g ts (operated structs op q x a b) I64) (sym (alike ∙ pointer.is))
        (difference_typed op n a b difference (small_target structs u pointer.target pointer.is left_small) (subst (λ x. HasType g ts a (value_type x)) pointer.is f) (subst (λ x. HasType g ts b (value_type x)) (alike ∙ pointer.is) k))))
    operated_typed op t u v a b (OfPointers relation left right result) left_small right_small f k =
        let q = source_type.Ptr left.target in
        subst (λ x. HasType g ts (operated structs op u v a b) (value_type x)) (sym result)
        (subst (λ x. HasType g ts (operated structs op x v a b) I32) (sym left.is)
        (subst (λ x. HasType g ts (operated structs op q x a b) I32) (sym right.is)
        (relation_typed op (size_of structs left.target) a b relation (subst (λ x. HasType g ts a (value_type x)) left.is f) (subst (λ x. HasType g ts b (value_type x)) right.is k))))

    pub indexed_typed : (t u v : PlainType) (a b : MonExpression) → IndexTypes s t u v → has_small_parts structs u ≡ true → has_small_parts structs v ≡ true → HasType g ts a (value_type u) → HasType g ts b (value_type v)
        → HasType g ts (indexed structs u v a b) Ptr
    indexed_typed t u v a b (OnTheLeft pointer known integer) left_small right_small f k =
        subst (λ x. HasType g ts (indexed structs x v a b) Ptr) (sym pointer)
        (subst (λ x. HasType g ts (indexed structs (source_type.Ptr t) x a b) Ptr) (sym integer.is)
        (element_typed (size_of structs t) a integer.int b (small_target structs u t pointer left_small) (subst (λ x. HasType g ts a (value_type x)) pointer f) (subst (λ x. HasType g ts b (value_type x)) integer.is k)))
    indexed_typed t u v a b (OnTheRight integer pointer known) left_small right_small f k =
        let n = size_of structs t in
        let e : indexed structs (Int integer.int) (source_type.Ptr t) a b ≡ element n b (register_type integer.int) a =
        ap (λ x. if x then element n a Ptr b else element n b (register_type integer.int) a) (is_number integer.int) in
        subst (λ x. HasType g ts (indexed structs u x a b) Ptr) (sym pointer)
        (subst (λ x. HasType g ts (indexed structs x (source_type.Ptr t) a b) Ptr) (sym integer.is)
        (subst (λ x. HasType g ts x Ptr) (sym e)
        (element_typed n b integer.int a (small_target structs v t pointer right_small) (subst (λ x. HasType g ts b (value_type x)) pointer k) (subst (λ x. HasType g ts a (value_type x)) integer.is f))))

    -- `op=`, and `++` and `--`
    pub compound_typed : (op : BinOp) (t u : PlainType) (a b : MonExpression) → CompoundTypes s op t u → has_small_parts structs t ≡ true → HasType g ts a (value_type t) → HasType g ts b (value_type u)
        → HasType g ts (compound structs op t u a b) (value_type t)
    compound_typed op t u a b (ToInteger left right) small f h =
        let k = left.int in
        let l = right.int in
        let i = operation_type op k l in
        let m = register_type i in
        subst (λ x. HasType g ts (compound structs op x u a b) (value_type x)) (sym left.is)
        (subst (λ x. HasType g ts (compound structs op (Int k) x a b) (register_type k)) (sym right.is)
        (in_typed (result_type (operator_of op) m) (register_type k) (tree.Binary (operator_of op) m (in_type (register_type k) m a) (in_type (register_type l) m b)) (result_whole (operator_of op) i) (register_whole k)
        (operation_typed (operator_of op) m (in_type (register_type k) m a) (in_type (register_type l) m b) (operation_computes op k l)
        (in_typed (register_type k) m a (register_whole k) (register_whole i) (subst (λ x. HasType g ts a (value_type x)) left.is f))
        (in_typed (register_type l) m b (register_whole l) (register_whole i) (subst (λ x. HasType g ts b (value_type x)) right.is h)))))
    compound_typed op t u a b (ToPointer step pointer integer) small f h =
        let n = size_of structs pointer.target in
        subst (λ x. HasType g ts (compound structs op x u a b) (value_type x)) (sym pointer.is)
        (subst (λ x. HasType g ts (compound structs op (source_type.Ptr pointer.target) x a b) Ptr) (sym integer.is)
        (step_typed op n a integer.int b (small_target structs t pointer.target pointer.is small) (subst (λ x. HasType g ts a (value_type x)) pointer.is f) (subst (λ x. HasType g ts b (value_type x)) integer.is h)))

    -- a cast to a scalar type of what is no array
    pub converted_typed : (to : PlainType) (a : Expression) (e : MonExpression) → IsScalar to → is_array (type_of a) ≡ false → CastTypes s to a → (IsScalar (type_of a) → HasType g ts e (value_type (type_of a)))
        → HasType g ts (converted (type_of a) to e) (value_type to)
    converted_typed to a e scalar plain (ToVoid void) f = let h : scalar_of Void ≡ Some scalar.scalar = ap scalar_of (sym void) ∙ scalar.is in absurd cc
    converted_typed to a e scalar plain (OfInteger left right) f =
        subst (λ x. HasType g ts (converted (type_of a) x e) (value_type x)) (sym left.is)
        (subst (λ x. HasType g ts (converted x (Int left.int) e) (register_type left.int)) (sym right.is)
        (in_typed (register_type right.int) (register_type left.int) e (register_whole right.int) (register_whole left.int) (subst (λ x. HasType g ts e (value_type x)) right.is (f (integer_scalar (type_of a) right)))))
    converted_typed to a e scalar plain (OfPointer left right) f =
        subst (λ x. HasType g ts (converted (type_of a) x e) (value_type x)) (sym left.is)
        (subst (λ x. HasType g ts (converted x (source_type.Ptr left.target) e) Ptr) (sym right.is) (subst (λ x. HasType g ts e (value_type x)) right.is (f (pointer_scalar (type_of a) right.target right.is))))
    converted_typed to a e scalar plain (OfNullConstant left right null) f =
        subst (λ x. HasType g ts (converted (type_of a) x e) (value_type x)) (sym left.is)
        (subst (λ x. HasType g ts (converted x (source_type.Ptr left.target) e) Ptr) (sym right.is) (refl, refl))
    converted_typed to a e scalar plain (OfArray t n is array object) f = let h : true ≡ false = ap is_array (sym array) ∙ plain in absurd cc

    -- what an array in a cast designates, and where it goes
    pub array_object : (to : PlainType) (a : Expression) → IsScalar to → is_array (type_of a) ≡ true → CastTypes s to a → (has_object a ≡ true) × (value_type to ≡ Ptr)
    array_object to a scalar array (ToVoid void) = let h : scalar_of Void ≡ Some scalar.scalar = ap scalar_of (sym void) ∙ scalar.is in absurd cc
    array_object to a scalar array (OfInteger left right) = let h : false ≡ true = ap is_array (sym right.is) ∙ array in absurd cc
    array_object to a scalar array (OfPointer left right) = let h : false ≡ true = ap is_array (sym right.is) ∙ array in absurd cc
    array_object to a scalar array (OfNullConstant left right null) = let h : false ≡ true = ap is_array (sym right.is) ∙ array in absurd cc
    array_object to a scalar array (OfArray t n is of object) = (object, ap value_type is)

module _ (s : Sight) where
  pub operands_scalar : (op : BinOp) (t u v : PlainType) → BinaryTypes s op t u v → IsScalar u × IsScalar v
  operands_scalar op t u v (OfIntegers h) = (promoted_scalar u h.left, promoted_scalar v h.right)
  operands_scalar op t u v (OfPointerAndInteger step pointer integer same) = (pointer_scalar u pointer.target pointer.is, integer_scalar v integer)
  operands_scalar op t u v (OfIntegerAndPointer step integer pointer same) = (integer_scalar u integer, pointer_scalar v pointer.target pointer.is)
  operands_scalar op t u v (OfDifference difference pointer alike result) = (pointer_scalar u pointer.target pointer.is, pointer_scalar v pointer.target (alike ∙ pointer.is))
  operands_scalar op t u v (OfPointers relation left right result) = (pointer_scalar u left.target left.is, pointer_scalar v right.target right.is)

  pub index_scalar : (t u v : PlainType) → IndexTypes s t u v → IsScalar u × IsScalar v
  index_scalar t u v (OnTheLeft pointer known integer) = (pointer_scalar u t pointer, integer_scalar v integer)
  index_scalar t u v (OnTheRight integer pointer known) = (integer_scalar u integer, pointer_scalar v t pointer)

  pub compound_scalar : (op : BinOp) (t u : PlainType) → CompoundTypes s op t u → IsScalar u
  compound_scalar op t u (ToInteger left right) = integer_scalar u right
  compound_scalar op t u (ToPointer step pointer integer) = integer_scalar u integer

-- ---- expressions

module _ (p : TranslationUnit) (ts : Types) (bound : Bindings) (s : Sight) (knows : Knows p ts bound s) where
  abbrev Typed : MonExpression → MonType → Type 0
  Typed e t = HasType (count_of_globals p) ts e t

  pub pointer_typed : (x : ℕ) → Reaches p ts bound x → Typed (pointer_to p bound x) Ptr
  pointer_typed x h = by (register_of bound x) h
    where
      by : (o : Option ℕ) → Aim ts (is_global p x) o → Typed (pointer_of o (object_of_global x (static_objects p))) Ptr
      by (Some r) k = k
      by None k = (refl, global_inside p x (ltb-true (global_index x p.globals) (length p.globals) k))

  -- the variable that a name denotes
  pub seen : (x : Use) (t : PlainType) → Denotes s x t → Seen p ts bound x.decl
  seen x t d = subst (Seen p ts bound) (sym d.decl) (knows.sees x.name d.object d.found)

  pub name_typed : (x : Use) (t : PlainType) (b : Bool) → is_of_library x ≡ b → IsScalar t → IsName s x t → Typed (if b then tree.Constant Ptr (pos 0) else loaded t (pointer_to p bound x.decl)) (value_type t)
  name_typed x t true e h (OfObject d) = let k : true ≡ false = sym e ∙ (seen x t d).own in absurd cc
  name_typed x t false e h (OfObject d) = loaded_typed (count_of_globals p) ts t (pointer_to p bound x.decl) h (pointer_typed x.decl (seen x t d).has)
  name_typed x t true e h (OfNull library is) = subst (λ u. Typed (tree.Constant Ptr (pos 0)) (value_type u)) (sym is) (refl, refl)
  name_typed x t false e h (OfNull library is) = let k : true ≡ false = ap (λ n. nat_eq n 4294967295) (sym library) ∙ e in absurd cc

  pub name_placed : (x : Use) (t : PlainType) → is_of_library x ≡ false → IsName s x t → Typed (pointer_to p bound x.decl) Ptr
  name_placed x t e (OfObject d) = pointer_typed x.decl (seen x t d).has
  name_placed x t e (OfNull library is) = let k : true ≡ false = ap (λ n. nat_eq n 4294967295) (sym library) ∙ e in absurd cc

  pub not_true : (b : Bool) → not b ≡ true → b ≡ false
  not_true true e = absurd cc
  not_true false e = refl

  -- an operator on a promoted operand
  pub sign_typed : (op : UnOp) (t u : PlainType) (e : MonExpression) → IsPromoted u → t ≡ u → Typed e (value_type u) → Typed (tree.Minus (value_type u) e) (value_type t) × Typed (tree.Flip (value_type u) e) (value_type t)
  sign_typed op t u e h same f =
      let computes = ap (λ x. is_arithmetic (value_type x)) h.is ∙ promoted_computes h.int in
      ((ap value_type (sym same), computes, f), (ap value_type (sym same), computes, f))

  pub cast_typed : (b : Bool) (to : PlainType) (a : Expression) (d e : MonExpression) → is_array (type_of a) ≡ b → IsScalar to → CastTypes s to a → (has_object a ≡ true → Typed d Ptr) → (IsScalar (type_of a) → Typed e (value_type (type_of a)))
      → Typed (if b then d else converted (type_of a) to e) (value_type to)
  cast_typed true to a d e is scalar types f h =
      let k = array_object (count_of_globals p) ts p.structs s knows.structs_are to a scalar is types in subst (Typed d) (sym k.1) (f k.0)
  cast_typed false to a d e is scalar types f h = converted_typed (count_of_globals p) ts p.structs s knows.structs_are to a e scalar is types h
