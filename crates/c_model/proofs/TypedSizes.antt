-- Typing keeps the sizes of expressions: a typed tree has no more forms besides casts than the tree that is read, and it weighs at most 4 times as
-- many as that one has forms.
--
-- Each form that is read becomes one form, around whose operands typing puts so many casts at most:
--
--   form                         weight   casts      form                         weight   casts
--   number, character            2                   Call                         2        2 an argument
--   string, name                 2                   Cast                         1        1
--   Unary                        2        1          SizeOfType                   2
--   Binary, Index                4        2          SizeOfExpr                   2        0
--   Both, Either                 2        2          Dot                          2        0
--   Choice                       2        5          Arrow                        2        1
--   Assign                       4        2          Comma                        2        1
--   Bump                         4        0
--
-- A cast weighs 1. An array that is read is in one cast, of which the type is a pointer's, and an operand is in another where it is converted; so an
-- integer, whose only cast is the second one, is one lighter. So weights are: at most 4 for each form that is read; 2 less as typing leaves an
-- expression, or 1 less where an array would be a pointer; and a full expression, in both casts, weighs at most 4 * 400 = 1600.
use Rattle.std.proofs.Common.{◌≡◌, ℕ, ℤ, pos, suc, ◌+◌, ◌*◌, ◌≤◌, refl, List, length, Option, Some, None, Bool, true, false, not, ◌&&◌, cond, if◌then◌else◌, nat_eq, arith}
use Rattle.c_syntax.specs.declared.place.Place.{Place}
use Rattle.c_syntax.specs.declared.types.CInt.{CInt}
use Rattle.c_syntax.specs.declared.types.CInt.TheVariants.{I32, I64, U64}
use Rattle.c_syntax.specs.declared.expression.UnOp.{UnOp}
use Rattle.c_syntax.specs.declared.expression.UnOp.TheVariants as unary
use Rattle.c_syntax.specs.declared.expression.BinOp.{BinOp}
use Rattle.c_syntax.specs.declared.expression.BinOp.TheVariants as operator
use Rattle.c_syntax.specs.declared.expression.BumpOp.{BumpOp}
use Rattle.c_syntax.specs.Ctypes.{PlainType, Void, Int, Ptr, Array, Struct, Named, StructTag, EnumTag, int_type}
use Rattle.c_syntax.specs.Expressions.{Expression, Node, Number, Letter, Text, Variable, Unary, Binary, Both, Either, Choice, Assign, Bump, Call, Cast}
use Rattle.c_syntax.specs.Expressions.{SizeOfType, SizeOfExpr, Index, Dot, Arrow, Comma, Expressions, NoExpression, Following, place_of, type_of}
use Rattle.c_model.specs.Integers.{fits, integer_type}
use Rattle.c_model.specs.Conversions.{promoted, common, is_shift, is_relation, result_type}
use Rattle.c_model.specs.Library.{library_constant, is_there}
use Rattle.c_model.specs.Checked.{Fault, Checked, Good, Bad, faulty, one_part, both_parts, given, where_so}
use Rattle.c_model.specs.Formed.{nodes_of, nodes_of_all, most_read}
use Rattle.c_model.specs.ExpressionTyping.{no_name, no_type, Sight, Entity, AnObject, AnEnumerator, Signature, name_at, entity_named, function_called, library_function}
use Rattle.c_model.specs.ExpressionTyping.{use_as, literal_at, same_type, is_void, is_scalar, pointed, is_struct, where_sized}
use Rattle.c_model.specs.ExpressionTyping.{decayed, in_type, in_int, is_place, is_null, are_compatible, is_assigned, literal, text, is_null_word, library_name, typed_name, unary_on, on_integers, is_step, is_equality, is_difference}
use Rattle.c_model.specs.ExpressionTyping.{where_elements, on_pointers, on_pointer_and_integer, on_integer_and_pointer, binary, both_of, either_of, choice_type, choice_of, assigned_scalar, assigned_struct, assigned, compounded}
use Rattle.c_model.specs.ExpressionTyping.{assign, bump, is_cast, cast, index, member, dot, arrow, size_of_type, size_of_expression, callee_for, is_printf, is_passed, first_type, rest_types, argument_for, argument_count, call, params_of}
use Rattle.c_model.specs.ExpressionTyping.{two, decayed_of, typed, typed_arguments, typed_type, known_type, limited, knows_elements, operated, operated_in_place, element}
use Rattle.c_model.specs.Sizes.{weight_of, weight_of_all, forms_of, forms_of_all, IsSmall}
use Rattle.c_model.proofs.TypedParts.{Gives, gives_one, gives_both, gives_given, gives_where, gives_sized, gives_elements}
use Rattle.c_model.proofs.TypedSoundness.{gives_limited}
use Rattle.c_model.proofs.TypedDeclarations.{anything}

-- ---- what holds of a checked value, whatever is known of its tests

pub gives_if : {B : Type 0} (R : B → Type 0) (t : Bool) (f : Fault) (c : Checked B) → Gives R c → Gives R (where_so t f c)
gives_if R t f c h = gives_where R t f c (λ e. h)

gives_size : {B : Type 0} (R : B → Type 0) (s : Sight) (at : Place) (t : PlainType) (c : Checked B) → Gives R c → Gives R (where_sized s at t c)
gives_size R s at t c h = gives_sized R s at t c (λ e. h)

gives_steps : {B : Type 0} (R : B → Type 0) (s : Sight) (at : Place) (t : PlainType) (c : Checked B) → Gives R c → Gives R (where_elements s at t c)
gives_steps R s at t c h = gives_elements R s at t c (λ e. h)

-- ---- sizes, where so many forms are read

-- as typing leaves an expression
pub record IsLight (n : ℕ) (e : Expression) : Type 0 where
  pub few : forms_of e ≤ n
  pub light : weight_of e + 2 ≤ 4 * n

-- where an array is a pointer
pub record IsLightValue (n : ℕ) (e : Expression) : Type 0 where
  pub few : forms_of e ≤ n
  pub light : weight_of e + 1 ≤ 4 * n
  pub plain : (k : CInt) → integer_type (type_of e) ≡ Some k → weight_of e + 2 ≤ 4 * n

-- in the type of an operand
pub record IsLightOperand (n : ℕ) (e : Expression) : Type 0 where
  pub few : forms_of e ≤ n
  pub light : weight_of e ≤ 4 * n

pub record AreLight (n : ℕ) (es : Expressions) : Type 0 where
  pub few : forms_of_all es ≤ n
  pub light : weight_of_all es ≤ 4 * n

pub decayed_light : (n : ℕ) (e : Expression) → IsLight n e → IsLightValue n (decayed e)
decayed_light n (Node at (Array t m) k) h = record { few = h.few; light = let l = h.light in omega (arith, l); plain = λ i is. absurd cc }
decayed_light n (Node at Void k) h = record { few = h.few; light = let l = h.light in omega (arith, l); plain = λ i is. h.light }
decayed_light n (Node at (Int j) k) h = record { few = h.few; light = let l = h.light in omega (arith, l); plain = λ i is. h.light }
decayed_light n (Node at (Ptr t) k) h = record { few = h.few; light = let l = h.light in omega (arith, l); plain = λ i is. h.light }
decayed_light n (Node at (Struct m) k) h = record { few = h.few; light = let l = h.light in omega (arith, l); plain = λ i is. h.light }
decayed_light n (Node at (Named x) k) h = record { few = h.few; light = let l = h.light in omega (arith, l); plain = λ i is. h.light }
decayed_light n (Node at (StructTag x tag) k) h = record { few = h.few; light = let l = h.light in omega (arith, l); plain = λ i is. h.light }
decayed_light n (Node at (EnumTag x tag) k) h = record { few = h.few; light = let l = h.light in omega (arith, l); plain = λ i is. h.light }

value_of : (n : ℕ) (c : Checked Expression) → Gives (IsLight n) c → Gives (IsLightValue n) (decayed_of c)
value_of n c g = gives_one (IsLight n) (IsLightValue n) c (λ e. Good (decayed e)) g (λ e h. decayed_light n e h)

-- one cast more
record IsNear (e x : Expression) : Type 0 where
  forms : forms_of x ≡ forms_of e
  weight : weight_of x ≤ weight_of e + 1

in_type_near : (t : PlainType) (e : Expression) → IsNear e (in_type t e)
in_type_near t e = by (same_type (type_of e) t)
  where
    by : (b : Bool) → IsNear e (cond b e (Node (place_of e) t (Cast t e)))
    by true = record { forms = refl; weight = omega arith }
    by false = record { forms = refl; weight = omega arith }

pub operand_light : (n : ℕ) (t : PlainType) (e : Expression) → IsLightValue n e → IsLightOperand n (in_type t e)
operand_light n t e h =
    let i = in_type_near t e in
    let f = i.forms in
    let w = i.weight in
    let few = h.few in
    let light = h.light in
    record { few = omega (arith, f, few); light = omega (arith, w, light) }

-- ---- forms

leaf_number : (at : Place) (t : PlainType) (z : ℤ) (k : Option CInt) → IsLight 1 (Node at t (Number z k))
leaf_number at t z k = record { few = omega arith; light = omega arith }

literal_light : (at : Place) (z : ℤ) (k : Option CInt) → Gives (IsLight 1) (literal at z k)
literal_light at z k = gives_given (IsLight 1) k _ _ (λ l is. gives_if (IsLight 1) (fits l z) (no_type at) (Good (Node at (Int l) (Number z (Some l)))) (leaf_number at (Int l) z (Some l)))

text_light : (s : Sight) (at : Place) (offset : ℕ) → Gives (IsLight 1) (text s at offset)
text_light s at offset = gives_given (IsLight 1) (literal_at offset 0 s.texts) _ _ (λ l is. record { few = omega arith; light = omega arith })

library_light : (s : Sight) (at : Place) (x : ℕ) → Gives (IsLight 1) (library_name s at x)
library_light s at x = by (library_constant (name_at s.names x)) (is_null_word s x) (is_there (library_function x (name_at s.names x)))
  where
    by : (o : Option (CInt × ℤ)) (b c : Bool) → Gives (IsLight 1) (elim o [
      | Some c ↦ Good (Node at (Int c.0) (Number c.1 (Some c.0)))
      | None ↦ cond b (Good (Node at (Ptr Void) (Variable (use_as x 4294967295)))) (cond c (faulty (no_type at)) (faulty (no_name at)))
    ])
    by (Some z) b c = leaf_number at (Int z.0) z.1 (Some z.0)
    by None true c = record { few = omega arith; light = omega arith }
    by None false true = tt
    by None false false = tt

named_light : (s : Sight) (at : Place) (x : ℕ) → Gives (IsLight 1) (typed_name s at x)
named_light s at x = by (entity_named x s.entities) (function_called x s.functions)
  where
    by : (o : Option Entity) (f : Option Signature) → Gives (IsLight 1) (elim o [
      | Some e ↦ elim e [
        | AnObject b ↦ Good (Node at b.ctype (Variable (use_as x b.decl)))
        | AnEnumerator c ↦ Good (Node at int_type (Number c.value (Some I32)))
      ]
      | None ↦ elim f [ Some f ↦ faulty (no_type at) | None ↦ library_name s at x ]
    ])
    by (Some (AnObject b)) f = record { few = omega arith; light = omega arith }
    by (Some (AnEnumerator c)) f = leaf_number at int_type c.value (Some I32)
    by None (Some f) = tt
    by None None = library_light s at x

sign_light : (at : Place) (op : UnOp) (n : ℕ) (a : Expression) → IsLight n a → Gives (IsLight (suc n)) (given (integer_type (type_of a)) (no_type at) (λ k. Good (Node at (Int (promoted k)) (Unary op (in_int (promoted k) a)))))
sign_light at op n a h = gives_given (IsLight (suc n)) (integer_type (type_of a)) _ _ (λ k is.
    let i = in_type_near (Int (promoted k)) a in
    let f = i.forms in
    let w = i.weight in
    let few = h.few in
    let light = h.light in
    record { few = omega (arith, f, few); light = omega (arith, w, light) })

unary_light : (at : Place) (op : UnOp) (n : ℕ) (a : Expression) → IsLight n a → Gives (IsLight (suc n)) (unary_on at op a)
unary_light at unary.Not n a h =
    let v = decayed_light n a h in
    let few = v.few in
    let light = v.light in
    gives_if (IsLight (suc n)) (is_scalar (type_of (decayed a))) (no_type at) (Good (Node at int_type (Unary unary.Not (decayed a)))) (record { few = omega (arith, few); light = omega (arith, light) })
unary_light at unary.Address n a h =
    let few = h.few in
    let light = h.light in
    gives_if (IsLight (suc n)) (is_place a) (no_type at) (Good (Node at (Ptr (type_of a)) (Unary unary.Address a))) (record { few = omega (arith, few); light = omega (arith, light) })
unary_light at unary.Deref n a h =
    let v = decayed_light n a h in
    let few = v.few in
    let light = v.light in
    gives_given (IsLight (suc n)) (pointed (type_of (decayed a))) _ _ (λ t is.
    gives_if (IsLight (suc n)) (not (is_void t)) (no_type at) (Good (Node at t (Unary unary.Deref (decayed a)))) (record { few = omega (arith, few); light = omega (arith, light) }))
unary_light at unary.Plus n a h = sign_light at unary.Plus n a h
unary_light at unary.Minus n a h = sign_light at unary.Minus n a h
unary_light at unary.Flip n a h = sign_light at unary.Flip n a h

-- two operands, and how heavy they are at most
record AreTwo (n m : ℕ) (a b : Expression) : Type 0 where
  few : forms_of a + forms_of b ≤ n + m
  light : weight_of a + weight_of b + 2 ≤ 4 * (n + m)

binary_of : (at : Place) (t : PlainType) (op : BinOp) (n m : ℕ) (a b : Expression) → AreTwo n m a b → IsLight (suc (n + m)) (Node at t (Binary op a b))
binary_of at t op n m a b h = let few = h.few in let light = h.light in record { few = omega (arith, few); light = omega (arith, light) }

both_values : (n m : ℕ) (a b : Expression) → IsLightValue n a → IsLightValue m b → AreTwo n m a b
both_values n m a b h k =
    let f = h.few in
    let g = k.few in
    let w = h.light in
    let v = k.light in
    record { few = omega (arith, f, g); light = omega (arith, w, v) }

-- an integer in another type
converted_light : (n : ℕ) (t : PlainType) (k : CInt) (e : Expression) → integer_type (type_of e) ≡ Some k → IsLightValue n e → (forms_of (in_type t e) ≤ n) × (weight_of (in_type t e) + 1 ≤ 4 * n)
converted_light n t k e is h =
    let i = in_type_near t e in
    let f = i.forms in
    let w = i.weight in
    let few = h.few in
    let light = h.plain k is in
    (omega (arith, f, few), omega (arith, w, light))

both_converted : (n m : ℕ) (t u : PlainType) (k l : CInt) (a b : Expression) → integer_type (type_of a) ≡ Some k → integer_type (type_of b) ≡ Some l → IsLightValue n a → IsLightValue m b → AreTwo n m (in_type t a) (in_type u b)
both_converted n m t u k l a b i j h v =
    let x = converted_light n t k a i h in
    let y = converted_light m u l b j v in
    let f = x.0 in
    let g = y.0 in
    let w = x.1 in
    let z = y.1 in
    record { few = omega (arith, f, g); light = omega (arith, w, z) }

integers_light : (at : Place) (op : BinOp) (n m : ℕ) (k l : CInt) (a b : Expression) → integer_type (type_of a) ≡ Some k → integer_type (type_of b) ≡ Some l → IsLightValue n a → IsLightValue m b → IsLight (suc (n + m)) (on_integers at op k l a b)
integers_light at op n m k l a b i j h v = by (is_shift op)
  where
    by : (c : Bool) → IsLight (suc (n + m)) (Node at (Int (result_type op k l)) (
        if c then Binary op (in_int (promoted k) a) (in_int (promoted l) b) else Binary op (in_int (common k l) a) (in_int (common k l) b)))
    by true = binary_of at (Int (result_type op k l)) op n m (in_int (promoted k) a) (in_int (promoted l) b) (both_converted n m (Int (promoted k)) (Int (promoted l)) k l a b i j h v)
    by false = binary_of at (Int (result_type op k l)) op n m (in_int (common k l) a) (in_int (common k l) b) (both_converted n m (Int (common k l)) (Int (common k l)) k l a b i j h v)

module _ (s : Sight) (at : Place) (op : BinOp) (n m : ℕ) (a b : Expression) (h : IsLightValue n a) (v : IsLightValue m b) where
  abbrev R : Expression → Type 0
  R e = IsLight (suc (n + m)) e

  plain : (t : PlainType) → R (Node at t (Binary op a b))
  plain t = binary_of at t op n m a b (both_values n m a b h v)

  pointers_light : (t u : PlainType) → Gives R (on_pointers s at op t u a b)
  pointers_light t u = by (is_difference op) (is_equality op)
    where
      by : (x y : Bool) → Gives R (if x then where_so (same_type t u) (no_type at) (where_elements s at t (Good (Node at (Int I64) (Binary op a b))))
          else (if y then where_so (are_compatible (Ptr t) (Ptr u)) (no_type at) (Good (Node at int_type (Binary op a b))) else where_so (is_relation op && same_type t u) (no_type at) (Good (Node at int_type (Binary op a b)))))
      by true y = gives_if R (same_type t u) (no_type at) (where_elements s at t (Good (Node at (Int I64) (Binary op a b)))) (gives_steps R s at t (Good (Node at (Int I64) (Binary op a b))) (plain (Int I64)))
      by false true = gives_if R (are_compatible (Ptr t) (Ptr u)) (no_type at) (Good (Node at int_type (Binary op a b))) (plain int_type)
      by false false = gives_if R (is_relation op && same_type t u) (no_type at) (Good (Node at int_type (Binary op a b))) (plain int_type)

  -- the null constant in the type of the other side
  right_null : (t : PlainType) (l : CInt) → integer_type (type_of b) ≡ Some l → R (Node at int_type (Binary op a (in_type (Ptr t) b)))
  right_null t l j =
      let y = converted_light m (Ptr t) l b j v in
      let f = h.few in
      let g = y.0 in
      let w = h.light in
      let z = y.1 in
      binary_of at int_type op n m a (in_type (Ptr t) b) (record { few = omega (arith, f, g); light = omega (arith, w, z) })

  left_null : (t : PlainType) (k : CInt) → integer_type (type_of a) ≡ Some k → R (Node at int_type (Binary op (in_type (Ptr t) a) b))
  left_null t k i =
      let x = converted_light n (Ptr t) k a i h in
      let f = x.0 in
      let g = v.few in
      let w = x.1 in
      let z = v.light in
      binary_of at int_type op n m (in_type (Ptr t) a) b (record { few = omega (arith, f, g); light = omega (arith, w, z) })

  right_integer : (t : PlainType) (l : CInt) → integer_type (type_of b) ≡ Some l → Gives R (on_pointer_and_integer s at op t a b)
  right_integer t l j = by (is_step op true)
    where
      by : (x : Bool) → Gives R (if x then where_elements s at t (Good (Node at (Ptr t) (Binary op a b))) else where_so (is_equality op && is_null s b) (no_type at) (Good (Node at int_type (Binary op a (in_type (Ptr t) b)))))
      by true = gives_steps R s at t (Good (Node at (Ptr t) (Binary op a b))) (plain (Ptr t))
      by false = gives_if R (is_equality op && is_null s b) (no_type at) (Good (Node at int_type (Binary op a (in_type (Ptr t) b)))) (right_null t l j)

  left_integer : (t : PlainType) (k : CInt) → integer_type (type_of a) ≡ Some k → Gives R (on_integer_and_pointer s at op t a b)
  left_integer t k i = by (is_step op false)
    where
      by : (x : Bool) → Gives R (if x then where_elements s at t (Good (Node at (Ptr t) (Binary op a b))) else where_so (is_equality op && is_null s a) (no_type at) (Good (Node at int_type (Binary op (in_type (Ptr t) a) b))))
      by true = gives_steps R s at t (Good (Node at (Ptr t) (Binary op a b))) (plain (Ptr t))
      by false = gives_if R (is_equality op && is_null s a) (no_type at) (Good (Node at int_type (Binary op (in_type (Ptr t) a) b))) (left_null t k i)

  binary_light : Gives R (binary s at op a b)
  binary_light = gives_if R (knows_elements s op (type_of a) (type_of b)) (no_name at) (operated s at op a b) (by (integer_type (type_of a)) (integer_type (type_of b)) refl refl)
    where
      by : (x y : Option CInt) → integer_type (type_of a) ≡ x → integer_type (type_of b) ≡ y → Gives R (elim x [
        | Some k ↦ elim y [
          | Some l ↦ Good (on_integers at op k l a b)
          | None ↦ given (pointed (type_of b)) (no_type at) (λ t. on_integer_and_pointer s at op t a b)
        ]
        | None ↦ given (pointed (type_of a)) (no_type at) (λ t. elim y [
          | Some l ↦ on_pointer_and_integer s at op t a b
          | None ↦ given (pointed (type_of b)) (no_type at) (λ u. on_pointers s at op t u a b)
        ])
      ])
      by (Some k) (Some l) i j = integers_light at op n m k l a b i j h v
      by (Some k) None i j = gives_given R (pointed (type_of b)) (no_type at) (λ t. on_integer_and_pointer s at op t a b) (λ t e. left_integer t k i)
      by None (Some l) i j = gives_given R (pointed (type_of a)) (no_type at) (λ t. on_pointer_and_integer s at op t a b) (λ t e. right_integer t l j)
      by None None i j = gives_given R (pointed (type_of a)) (no_type at) (λ t. given (pointed (type_of b)) (no_type at) (λ u. on_pointers s at op t u a b))
          (λ t e. gives_given R (pointed (type_of b)) (no_type at) (λ u. on_pointers s at op t u a b) (λ u f. pointers_light t u))

-- ---- other forms of two values

module _ (at : Place) (n m : ℕ) (a b : Expression) (h : IsLightValue n a) (v : IsLightValue m b) where
  both_light : Gives (IsLight (suc (n + m))) (both_of at a b)
  both_light =
      let f = h.few in
      let g = v.few in
      let w = h.light in
      let z = v.light in
      gives_if (IsLight (suc (n + m))) (is_scalar (type_of a) && is_scalar (type_of b)) (no_type at) (Good (Node at int_type (Both a b))) (record { few = omega (arith, f, g); light = omega (arith, w, z) })

  either_light : Gives (IsLight (suc (n + m))) (either_of at a b)
  either_light =
      let f = h.few in
      let g = v.few in
      let w = h.light in
      let z = v.light in
      gives_if (IsLight (suc (n + m))) (is_scalar (type_of a) && is_scalar (type_of b)) (no_type at) (Good (Node at int_type (Either a b))) (record { few = omega (arith, f, g); light = omega (arith, w, z) })

  element_light : (t : PlainType) → IsLight (suc (n + m)) (Node at t (Index a b))
  element_light t =
      let f = h.few in
      let g = v.few in
      let w = h.light in
      let z = v.light in
      record { few = omega (arith, f, g); light = omega (arith, w, z) }

  index_light : (s : Sight) → Gives (IsLight (suc (n + m))) (index s at a b)
  index_light s = gives_if (IsLight (suc (n + m))) (knows_elements s operator.Add (type_of a) (type_of b)) (no_name at) (element s at a b) (by (pointed (type_of a)))
    where
      by : (o : Option PlainType) → Gives (IsLight (suc (n + m))) (elim o [
        | Some t ↦ where_so (is_there (integer_type (type_of b))) (no_type at) (where_elements s at t (Good (Node at t (Index a b))))
        | None ↦ given (pointed (type_of b)) (no_type at) (λ t. where_so (is_there (integer_type (type_of a))) (no_type at) (where_elements s at t (Good (Node at t (Index a b)))))
      ])
      by (Some t) =
          gives_if (IsLight (suc (n + m))) (is_there (integer_type (type_of b))) (no_type at) (where_elements s at t (Good (Node at t (Index a b))))
          (gives_steps (IsLight (suc (n + m))) s at t (Good (Node at t (Index a b))) (element_light t))
      by None =
          gives_given (IsLight (suc (n + m))) (pointed (type_of b)) (no_type at) (λ t. where_so (is_there (integer_type (type_of a))) (no_type at) (where_elements s at t (Good (Node at t (Index a b)))))
          (λ t e. gives_if (IsLight (suc (n + m))) (is_there (integer_type (type_of a))) (no_type at) (where_elements s at t (Good (Node at t (Index a b))))
          (gives_steps (IsLight (suc (n + m))) s at t (Good (Node at t (Index a b))) (element_light t)))

choice_light : (s : Sight) (at : Place) (n m k : ℕ) (a b c : Expression) → IsLightValue n a → IsLightValue m b → IsLightValue k c → Gives (IsLight (suc (n + (m + k)))) (choice_of s at a b c)
choice_light s at n m k a b c h v u =
    gives_if (IsLight (suc (n + (m + k)))) (is_scalar (type_of a)) (no_type at) (given (choice_type s b c) (no_type at) (λ t. Good (Node at t (Choice a (in_type t b) (in_type t c)))))
    (gives_given (IsLight (suc (n + (m + k)))) (choice_type s b c) (no_type at) (λ t. Good (Node at t (Choice a (in_type t b) (in_type t c)))) (λ t e.
    let x = operand_light m t b v in
    let y = operand_light k t c u in
    let f = h.few in
    let g = x.few in
    let i = y.few in
    let w = h.light in
    let z = in_type_near t b in
    let o = in_type_near t c in
    let zw = z.weight in
    let ow = o.weight in
    let vl = v.light in
    let ul = u.light in
    record { few = omega (arith, f, g, i); light = omega (arith, w, zw, ow, vl, ul) }))

-- ---- assignments

module _ (s : Sight) (at : Place) (n m : ℕ) (a b : Expression) (h : IsLight n a) (v : IsLightValue m b) where
  compound_light : (op : Option BinOp) (t : PlainType) → IsLight (suc (n + m)) (Node at t (Assign op a b))
  compound_light op t =
      let f = h.few in
      let g = v.few in
      let w = h.light in
      let z = v.light in
      record { few = omega (arith, f, g); light = omega (arith, w, z) }

  stored_light : (t : PlainType) → IsLight (suc (n + m)) (Node at t (Assign None a (in_type t b)))
  stored_light t =
      let x = operand_light m t b v in
      let f = h.few in
      let g = x.few in
      let w = h.light in
      let z = x.light in
      record { few = omega (arith, f, g); light = omega (arith, w, z) }

  assigned_light : Gives (IsLight (suc (n + m))) (assigned s at a b)
  assigned_light = by (is_struct (type_of a))
    where
      by : (x : Bool) → Gives (IsLight (suc (n + m))) (if x then assigned_struct s at a b else assigned_scalar s at a b)
      by true =
          let whole = Node at (type_of a) (Assign None a b) in
          gives_size (IsLight (suc (n + m))) s at (type_of a) (where_so (is_place a && same_type (type_of b) (type_of a)) (no_type at) (Good whole))
          (gives_if (IsLight (suc (n + m))) (is_place a && same_type (type_of b) (type_of a)) (no_type at) (Good whole) (compound_light None (type_of a)))
      by false =
          gives_if (IsLight (suc (n + m))) (is_place a && is_scalar (type_of a) && is_assigned s b (type_of a)) (no_type at) (Good (Node at (type_of a) (Assign None a (in_type (type_of a) b)))) (stored_light (type_of a))

compounded_light : (s : Sight) (at : Place) (op : BinOp) (a b whole : Expression) (n : ℕ) → IsLight n whole → Gives (IsLight n) (compounded s at op a b whole)
compounded_light s at op a b whole n h = gives_if (IsLight n) (knows_elements s op (type_of a) (type_of b)) (no_name at) (operated_in_place s at op a b whole) (by (integer_type (type_of a)))
  where
    by : (o : Option CInt) → Gives (IsLight n) (elim o [
      | Some k ↦ where_so (is_place a && is_there (integer_type (type_of b))) (no_type at) (Good whole)
      | None ↦ given (pointed (type_of a)) (no_type at) (λ t.
          where_so (is_place a && is_there (integer_type (type_of b)) && is_step op true) (no_type at) (where_elements s at t (Good whole)))
    ])
    by (Some k) = gives_if (IsLight n) (is_place a && is_there (integer_type (type_of b))) (no_type at) (Good whole) h
    by None = gives_given (IsLight n) (pointed (type_of a)) (no_type at) (λ t. where_so (is_place a && is_there (integer_type (type_of b)) && is_step op true) (no_type at) (where_elements s at t (Good whole)))
        (λ t e. gives_if (IsLight n) (is_place a && is_there (integer_type (type_of b)) && is_step op true) (no_type at) (where_elements s at t (Good whole)) (gives_steps (IsLight n) s at t (Good whole) h))

assign_light : (s : Sight) (at : Place) (op : Option BinOp) (n m : ℕ) (a b : Expression) → IsLight n a → IsLightValue m b → Gives (IsLight (suc (n + m))) (assign s at op a b)
assign_light s at None n m a b h v = assigned_light s at n m a b h v
assign_light s at (Some op) n m a b h v = compounded_light s at op a b (Node at (type_of a) (Assign (Some op) a b)) (suc (n + m)) (compound_light s at n m a b h v (Some op) (type_of a))

bump_light : (s : Sight) (at : Place) (op : BumpOp) (n : ℕ) (a : Expression) → IsLight n a → Gives (IsLight (suc n)) (bump s at op a)
bump_light s at op n a h =
    let f = h.few in
    let w = h.light in
    compounded_light s at operator.Add a (Node at int_type (Number (pos 1) (Some I32))) (Node at (type_of a) (Bump op a)) (suc n) (record { few = omega (arith, f); light = omega (arith, w) })

-- ---- casts, sizes, members

cast_light : (s : Sight) (at : Place) (to : PlainType) (n : ℕ) (a : Expression) → IsLightValue n a → Gives (IsLight (suc n)) (cast s at to a)
cast_light s at to n a h =
    let f = h.few in
    let w = h.light in
    gives_if (IsLight (suc n)) (is_cast s a to) (no_type at) (Good (Node at to (Cast to a))) (record { few = omega (arith, f); light = omega (arith, w) })

size_light : (s : Sight) (at : Place) (u : PlainType) → Gives (IsLight 1) (size_of_type s at u)
size_light s at u = gives_size (IsLight 1) s at u (Good (Node at (Int U64) (SizeOfType u))) (record { few = omega arith; light = omega arith })

size_of_light : (s : Sight) (at : Place) (n : ℕ) (a : Expression) → IsLight n a → Gives (IsLight (suc n)) (size_of_expression s at a)
size_of_light s at n a h =
    let f = h.few in
    let w = h.light in
    gives_size (IsLight (suc n)) s at (type_of a) (Good (Node at (Int U64) (SizeOfExpr a))) (record { few = omega (arith, f); light = omega (arith, w) })

dot_light : (s : Sight) (at : Place) (m n : ℕ) (a : Expression) → IsLight n a → Gives (IsLight (suc n)) (dot s at m a)
dot_light s at m n a h =
    let f = h.few in
    let w = h.light in
    gives_one (λ t. Unit {0}) (IsLight (suc n)) (member s at (type_of a) m) (λ t. Good (Node at t (Dot a m))) (anything (member s at (type_of a) m)) (λ t u. record { few = omega (arith, f); light = omega (arith, w) })

arrow_light : (s : Sight) (at : Place) (m n : ℕ) (a : Expression) → IsLightValue n a → Gives (IsLight (suc n)) (arrow s at m a)
arrow_light s at m n a h =
    let f = h.few in
    let w = h.light in
    gives_given (IsLight (suc n)) (pointed (type_of a)) (no_type at) (λ t. one_part (member s at t m) (λ u. Good (Node at u (Arrow a m)))) (λ t e.
    gives_one (λ t. Unit {0}) (IsLight (suc n)) (member s at t m) (λ u. Good (Node at u (Arrow a m))) (anything (member s at t m)) (λ t u. record { few = omega (arith, f); light = omega (arith, w) }))

comma_light : (at : Place) (n m : ℕ) (a b : Expression) → IsLight n a → IsLightValue m b → IsLight (suc (n + m)) (Node at (type_of b) (Comma a b))
comma_light at n m a b h v =
    let f = h.few in
    let g = v.few in
    let w = h.light in
    let z = v.light in
    record { few = omega (arith, f, g); light = omega (arith, w, z) }

-- ---- calls

argument_light : (s : Sight) (printed : Bool) (o : Option PlainType) (n : ℕ) (e : Expression) → IsLightValue n e → Gives (IsLightOperand n) (argument_for s printed o e)
argument_light s printed None n e h = let f = h.few in let w = h.light in record { few = f; light = omega (arith, w) }
argument_light s printed (Some t) n e h = gives_if (IsLightOperand n) (is_passed s printed e t) (no_type (place_of e)) (Good (in_type t e)) (operand_light n t e h)

call_light : (at : Place) (f : Signature) (n : ℕ) (es : Expressions) → AreLight n es → Gives (IsLight (suc n)) (call at f es)
call_light at f n es h =
    let g = h.few in
    let w = h.light in
    gives_if (IsLight (suc n)) (nat_eq (argument_count es) (length f.params)) (no_type at) (Good (Node at f.result (Call (use_as f.name f.decl) es))) (record { few = omega (arith, g); light = omega (arith, w) })

-- ---- all expressions

abbrev AreTwoValues : ℕ → ℕ → Expression × Expression → Type 0
AreTwoValues n m p = IsLightValue n p.0 × IsLightValue m p.1

mutual
  -- what typing makes of an expression, by the forms that are read
  pub typed_light : (s : Sight) (e : Expression) → Gives (IsLight (nodes_of e)) (typed s e)
  typed_light s (Node at t (Number z k)) = literal_light at z k
  typed_light s (Node at t (Letter z)) = record { few = omega arith; light = omega arith }
  typed_light s (Node at t (Text offset)) = text_light s at offset
  typed_light s (Node at t (Variable x)) = named_light s at x.name
  typed_light s (Node at t (Unary op a)) = gives_one (IsLight (nodes_of a)) (IsLight (suc (nodes_of a))) (typed s a) (unary_on at op) (typed_light s a) (λ x h. unary_light at op (nodes_of a) x h)
  typed_light s (Node at t (Binary op a b)) =
      gives_both (IsLightValue (nodes_of a)) (IsLightValue (nodes_of b)) (IsLight (suc (nodes_of a + nodes_of b))) (decayed_of (typed s a)) (decayed_of (typed s b)) (binary s at op) (value_of (nodes_of a) (typed s a) (typed_light s a))
      (value_of (nodes_of b) (typed s b) (typed_light s b)) (λ x y h v. binary_light s at op (nodes_of a) (nodes_of b) x y h v)
  typed_light s (Node at t (Both a b)) =
      gives_both (IsLightValue (nodes_of a)) (IsLightValue (nodes_of b)) (IsLight (suc (nodes_of a + nodes_of b))) (decayed_of (typed s a)) (decayed_of (typed s b)) (both_of at) (value_of (nodes_of a) (typed s a) (typed_light s a))
      (value_of (nodes_of b) (typed s b) (typed_light s b)) (λ x y h v. both_light at (nodes_of a) (nodes_of b) x y h v)
  typed_light s (Node at t (Either a b)) =
      gives_both (IsLightValue (nodes_of a)) (IsLightValue (nodes_of b)) (IsLight (suc (nodes_of a + nodes_of b))) (decayed_of (typed s a)) (decayed_of (typed s b)) (either_of at) (value_of (nodes_of a) (typed s a) (typed_light s a))
      (value_of (nodes_of b) (typed s b) (typed_light s b)) (λ x y h v. either_light at (nodes_of a) (nodes_of b) x y h v)
  typed_light s (Node at t (Choice a b c)) =
      gives_both (IsLightValue (nodes_of a)) (AreTwoValues (nodes_of b) (nodes_of c)) (IsLight (suc (nodes_of a + (nodes_of b + nodes_of c)))) (decayed_of (typed s a)) (both_parts (decayed_of (typed s b)) (decayed_of (typed s c)) two)
      (λ x p. choice_of s at x p.0 p.1) (value_of (nodes_of a) (typed s a) (typed_light s a))
      (gives_both (IsLightValue (nodes_of b)) (IsLightValue (nodes_of c)) (AreTwoValues (nodes_of b) (nodes_of c)) (decayed_of (typed s b)) (decayed_of (typed s c)) two (value_of (nodes_of b) (typed s b) (typed_light s b))
      (value_of (nodes_of c) (typed s c) (typed_light s c)) (λ y z h v. (h, v))) (λ x p h v. choice_light s at (nodes_of a) (nodes_of b) (nodes_of c) x p.0 p.1 h v.0 v.1)
  typed_light s (Node at t (Assign op a b)) =
      gives_both (IsLight (nodes_of a)) (IsLightValue (nodes_of b)) (IsLight (suc (nodes_of a + nodes_of b))) (typed s a) (decayed_of (typed s b)) (assign s at op) (typed_light s a) (value_of (nodes_of b) (typed s b) (typed_light s b))
      (λ x y h v. assign_light s at op (nodes_of a) (nodes_of b) x y h v)
  typed_light s (Node at t (Bump op a)) = gives_one (IsLight (nodes_of a)) (IsLight (suc (nodes_of a))) (typed s a) (bump s at op) (typed_light s a) (λ x h. bump_light s at op (nodes_of a) x h)
  typed_light s (Node at t (Call f es)) =
      let c = callee_for s at f.name es in
      gives_both (λ g. Unit {0}) (AreLight (nodes_of_all es)) (IsLight (suc (nodes_of_all es))) c (typed_arguments s (is_printf s f.name) (params_of c) es) (call at) (anything c)
      (arguments_light s (is_printf s f.name) (params_of c) es) (λ g xs u h. call_light at g (nodes_of_all es) xs h)
  typed_light s (Node at t (Cast to a)) =
      gives_limited (IsLight (suc (nodes_of a))) s at (known_type s to) (both_parts (typed_type s at to) (decayed_of (typed s a)) (cast s at))
      (gives_both (λ u. Unit {0}) (IsLightValue (nodes_of a)) (IsLight (suc (nodes_of a))) (typed_type s at to) (decayed_of (typed s a)) (cast s at) (anything (typed_type s at to)) (value_of (nodes_of a) (typed s a) (typed_light s a))
      (λ u x o h. cast_light s at u (nodes_of a) x h))
  typed_light s (Node at t (SizeOfType u)) =
      gives_limited (IsLight 1) s at (known_type s u) (one_part (typed_type s at u) (size_of_type s at))
      (gives_one (λ u. Unit {0}) (IsLight 1) (typed_type s at u) (size_of_type s at) (anything (typed_type s at u)) (λ v o. size_light s at v))
  typed_light s (Node at t (SizeOfExpr a)) =
      gives_one (IsLight (nodes_of a)) (IsLight (suc (nodes_of a))) (typed s a) (λ e. limited s at (type_of e) (size_of_expression s at e)) (typed_light s a)
      (λ x h. gives_limited (IsLight (suc (nodes_of a))) s at (type_of x) (size_of_expression s at x) (size_of_light s at (nodes_of a) x h))
  typed_light s (Node at t (Index a b)) =
      gives_both (IsLightValue (nodes_of a)) (IsLightValue (nodes_of b)) (IsLight (suc (nodes_of a + nodes_of b))) (decayed_of (typed s a)) (decayed_of (typed s b)) (index s at) (value_of (nodes_of a) (typed s a) (typed_light s a))
      (value_of (nodes_of b) (typed s b) (typed_light s b)) (λ x y h v. index_light at (nodes_of a) (nodes_of b) x y h v s)
  typed_light s (Node at t (Dot a m)) = gives_one (IsLight (nodes_of a)) (IsLight (suc (nodes_of a))) (typed s a) (dot s at m) (typed_light s a) (λ x h. dot_light s at m (nodes_of a) x h)
  typed_light s (Node at t (Arrow a m)) =
      gives_one (IsLightValue (nodes_of a)) (IsLight (suc (nodes_of a))) (decayed_of (typed s a)) (arrow s at m) (value_of (nodes_of a) (typed s a) (typed_light s a)) (λ x h. arrow_light s at m (nodes_of a) x h)
  typed_light s (Node at t (Comma a b)) =
      gives_both (IsLight (nodes_of a)) (IsLightValue (nodes_of b)) (IsLight (suc (nodes_of a + nodes_of b))) (typed s a) (decayed_of (typed s b)) (λ a b. Good (Node at (type_of b) (Comma a b))) (typed_light s a)
      (value_of (nodes_of b) (typed s b) (typed_light s b)) (λ x y h v. comma_light at (nodes_of a) (nodes_of b) x y h v)

  arguments_light : (s : Sight) (printed : Bool) (ts : List PlainType) (es : Expressions) → Gives (AreLight (nodes_of_all es)) (typed_arguments s printed ts es)
  arguments_light s printed ts NoExpression = record { few = omega arith; light = omega arith }
  arguments_light s printed ts (Following e es) =
      gives_both (IsLightOperand (nodes_of e)) (AreLight (nodes_of_all es)) (AreLight (nodes_of e + nodes_of_all es)) (one_part (decayed_of (typed s e)) (argument_for s printed (first_type ts))) (typed_arguments s printed (rest_types ts) es)
      (λ e es. Good (Following e es))
      (gives_one (IsLightValue (nodes_of e)) (IsLightOperand (nodes_of e)) (decayed_of (typed s e)) (argument_for s printed (first_type ts)) (value_of (nodes_of e) (typed s e) (typed_light s e))
      (λ x h. argument_light s printed (first_type ts) (nodes_of e) x h))
      (arguments_light s printed (rest_types ts) es) (λ x xs h v. let f = h.few in let g = v.few in let w = h.light in let z = v.light in record { few = omega (arith, f, g); light = omega (arith, w, z) })

-- ---- full expressions

pub operand_small : (n : ℕ) (e : Expression) → n ≤ most_read → IsLightOperand n e → IsSmall e
operand_small n e le h = let f = h.few in let w = h.light in record { few = omega (arith, f, le); light = omega (arith, w, le) }

pub light_small : (n : ℕ) (e : Expression) → n ≤ most_read → IsLight n e → IsSmall e
light_small n e le h = let f = h.few in let w = h.light in record { few = omega (arith, f, le); light = omega (arith, w, le) }

-- an expression statement (C99 6.8.3)
pub effect_small : (s : Sight) (e : Expression) → nodes_of e ≤ most_read → Gives IsSmall (typed s e)
effect_small s e le = by (typed s e) (typed_light s e)
  where
    by : (c : Checked Expression) → Gives (IsLight (nodes_of e)) c → Gives IsSmall c
    by (Good x) h = light_small (nodes_of e) x le h
    by (Bad f fs) h = tt

-- a condition, whose array is a pointer (C99 6.8.4.1, 6.8.5)
pub value_small : (s : Sight) (e : Expression) → nodes_of e ≤ most_read → Gives IsSmall (decayed_of (typed s e))
value_small s e le = by (decayed_of (typed s e)) (value_of (nodes_of e) (typed s e) (typed_light s e))
  where
    by : (c : Checked Expression) → Gives (IsLightValue (nodes_of e)) c → Gives IsSmall c
    by (Good x) h = let f = h.few in let w = h.light in record { few = omega (arith, f, le); light = omega (arith, w, le) }
    by (Bad f fs) h = tt

-- what is returned or is the value of an initialiser is in the type of the object besides (C99 6.7.8 p11, 6.8.6.4)
pub converted_small : (s : Sight) (e : Expression) → nodes_of e ≤ most_read → Gives (λ x. (t : PlainType) → IsSmall (in_type t x)) (decayed_of (typed s e))
converted_small s e le = by (decayed_of (typed s e)) (value_of (nodes_of e) (typed s e) (typed_light s e))
  where
    by : (c : Checked Expression) → Gives (IsLightValue (nodes_of e)) c → Gives (λ x. (t : PlainType) → IsSmall (in_type t x)) c
    by (Good x) h = λ t. operand_small (nodes_of e) (in_type t x) le (operand_light (nodes_of e) t x h)
    by (Bad f fs) h = tt
