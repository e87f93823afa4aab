-- Integer types, their layout and their operators (C99 6.2.5, 6.2.6, 6.3.1.3, 6.5; two's complement, little-endian).
use Rattle.std.specs.Prelude.{ℕ, suc, ◌-◌, ◌*◌, ◌%◌, ◌^◌, ℤ, pos, negsuc, ◌+ℤ◌, ◌-ℤ◌, ◌*ℤ◌, Bool, true, false, cond, not, ◌&&◌, if◌then◌else◌, nat_lt, nat_le}
use Rattle.std.specs.Prelude.{int_lt, int_le, Option, Some, None}
use Rattle.std.specs.Ordering.{int_eq}
use Rattle.c_syntax.specs.declared.types.CInt.{CInt}
use Rattle.c_syntax.specs.declared.types.CInt.TheVariants.{I8, U8, I16, U16, I32, U32, I64, U64}
use Rattle.c_syntax.specs.declared.expression.UnOp.{UnOp}
use Rattle.c_syntax.specs.declared.expression.UnOp.TheVariants.{Plus, Minus, Not, Flip, Deref, Address}
use Rattle.c_syntax.specs.declared.expression.BinOp.{BinOp}
use Rattle.c_syntax.specs.declared.expression.BinOp.TheVariants.{Add, Sub, Mul, Div, Rem, Shl, Shr, BitAnd, BitOr, BitXor, Eq, Ne, Lt, Le, Gt, Ge}
use Rattle.c_syntax.specs.Ctypes.{PlainType, Void, Int, Ptr, Array, Struct, Named, StructTag, EnumTag}
use Rattle.c_syntax.specs.Layouts.{int_size}
use Rattle.c_model.specs.Operators.{quotient, remainder, shift_left, shift_right, complement, bitwise_and, bitwise_or, bitwise_xor}

abbrev pub is_signed : CInt → Bool
is_signed I8 = true
is_signed U8 = false
is_signed I16 = true
is_signed U16 = false
is_signed I32 = true
is_signed U32 = false
is_signed I64 = true
is_signed U64 = false

-- the bits of its value, without the sign bit (C99 6.2.6.2)
abbrev pub value_bits : CInt → ℕ
value_bits I8 = 7
value_bits U8 = 8
value_bits I16 = 15
value_bits U16 = 16
value_bits I32 = 31
value_bits U32 = 32
value_bits I64 = 63
value_bits U64 = 64

-- the bits of a type, the sign bit among them (C99 6.2.6.2)
abbrev pub width : CInt → ℕ
width k = 8 * int_size k

-- the integer type that a type is, where it is one
abbrev pub integer_type : PlainType → Option CInt
integer_type (Int k) = Some k
integer_type (Ptr t) = None
integer_type (Array t n) = None
integer_type (Struct n) = None
integer_type Void = None
integer_type (Named x) = None
integer_type (StructTag x tag) = None
integer_type (EnumTag x at) = None

-- whether the type has the value
abbrev pub fits : CInt → ℤ → Bool
fits k (pos n) = nat_lt n (2 ^ value_bits k)
fits k (negsuc n) = is_signed k && nat_lt n (2 ^ value_bits k)

-- the bits of a value in the type, as a number: two's complement
abbrev pub bits_of : CInt → ℤ → ℕ
bits_of k (pos n) = n % 256 ^ int_size k
bits_of k (negsuc n) = 256 ^ int_size k - suc (n % 256 ^ int_size k)

-- the value of the type with these bits
abbrev pub value_of_bits : CInt → ℕ → ℤ
value_of_bits k n = if is_signed k && nat_le (2 ^ value_bits k) n then negsuc (256 ^ int_size k - suc n) else pos n

-- a value converted to the type: the one with the same lowest bits (C99 6.3.1.3; of a signed type in this profile too)
abbrev pub convert : CInt → ℤ → ℤ
convert k z = value_of_bits k (bits_of k z)

-- a result in the type: a signed one has to fit (C99 6.5 p5), an unsigned one wraps (C99 6.2.5 p9)
abbrev pub result_in : CInt → ℤ → Option ℤ
result_in k z =
    if is_signed k then (if fits k z then Some z else None)
    else Some (convert k z)

-- the same of a result that may have no value
abbrev pub result_of : CInt → Option ℤ → Option ℤ
result_of k None = None
result_of k (Some z) = result_in k z

-- 1 for true, 0 for false (C99 6.5.8 p6)
abbrev pub truth : Bool → ℤ
truth b = cond b (pos 1) (pos 0)

-- x % y, where the quotient is a value of the type (C99 6.5.5 p6)
abbrev pub remainder_in : CInt → ℤ → ℤ → Option ℤ
remainder_in k x y = elim (result_of k (quotient x y)) [ None ↦ None | Some q ↦ remainder x y ]

abbrev pub is_negative : ℤ → Bool
is_negative (pos n) = false
is_negative (negsuc n) = true

-- a count of bits of the type: not negative, and less than its width (C99 6.5.7 p3)
abbrev pub is_count : CInt → ℤ → Bool
is_count k z = not (is_negative z) && int_lt z (pos (width k))

-- an operator on two values of one type, where its result of the type k is defined (C99 6.5.5 to 6.5.12). A count of bits may
-- have any type
abbrev pub operate_in : CInt → BinOp → ℤ → ℤ → Option ℤ
operate_in k Add x y = result_in k (x +ℤ y)
operate_in k Sub x y = result_in k (x -ℤ y)
operate_in k Mul x y = result_in k (x *ℤ y)
operate_in k Div x y = result_of k (quotient x y)
operate_in k Rem x y = remainder_in k x y
operate_in k Shl x y = if is_count k y && not (is_negative x) then result_of k (shift_left x y) else None
operate_in k Shr x y = if is_count k y then shift_right x y else None
operate_in k BitAnd x y = Some (bitwise_and x y)
operate_in k BitOr x y = Some (bitwise_or x y)
operate_in k BitXor x y = Some (bitwise_xor x y)
operate_in k Eq x y = Some (truth (int_eq x y))
operate_in k Ne x y = Some (truth (not (int_eq x y)))
operate_in k Lt x y = Some (truth (int_lt x y))
operate_in k Le x y = Some (truth (int_le x y))
operate_in k Gt x y = Some (truth (int_lt y x))
operate_in k Ge x y = Some (truth (int_le y x))

-- the same in a type
abbrev pub operate : PlainType → BinOp → ℤ → ℤ → Option ℤ
operate t op x y = elim (integer_type t) [ None ↦ None | Some k ↦ operate_in k op x y ]

-- an operator on a value of the type k (C99 6.5.3.3)
abbrev pub operate_one_in : CInt → UnOp → ℤ → Option ℤ
operate_one_in k Plus x = Some x
operate_one_in k Minus x = result_in k (pos 0 -ℤ x)
operate_one_in k Not x = Some (truth (int_eq x (pos 0)))
operate_one_in k Flip x = result_in k (complement x)
operate_one_in k Deref x = None
operate_one_in k Address x = None

abbrev pub operate_one : PlainType → UnOp → ℤ → Option ℤ
operate_one t op x = elim (integer_type t) [ None ↦ None | Some k ↦ operate_one_in k op x ]

-- the byte that putchar writes: its argument converted to unsigned char (C99 7.19.7.9, 7.19.7.3 p2)
abbrev pub byte_of : ℤ → ℕ
byte_of (pos n) = n % 256
byte_of (negsuc n) = 255 - n % 256
