-- Ours: a result that C99 6.5 p5 leaves undefined wraps here.
-- Types of registers and their operators: two's complement, and each result wraps.
use Rattle.std.specs.Prelude.{ℕ, ◌-◌, ◌/◌, ◌^◌, ℤ, pos, ◌+ℤ◌, ◌-ℤ◌, ◌*ℤ◌, neg_ℤ, int_div, int_rem, int_lt, int_le, Bool, true, false, not, ◌&&◌, if◌then◌else◌}
use Rattle.std.specs.Prelude.{Option, Some, None, unsigned_abs}
use Rattle.std.specs.Ordering.{int_eq}
use Rattle.std.specs.Int.{Width, w8, w16, w32, w64, w128, cast_signed, int_rem_euclid}
use Rattle.c_model.specs.Integers.{truth}
use Rattle.c_model.specs.Operators.{floor_quotient, complement, bitwise_and, bitwise_or, bitwise_xor}
use Rattle.mon_syntax.specs.declared.tree.MonType.{MonType}
use Rattle.mon_syntax.specs.declared.tree.MonType.TheVariants.{I8, U8, I16, U16, I32, U32, I64, U64, I128, Ptr}
use Rattle.mon_syntax.specs.declared.tree.AccessSize.{AccessSize}
use Rattle.mon_syntax.specs.declared.tree.AccessSize.TheVariants.{One, Two, Four, Eight, Sixteen}
use Rattle.mon_syntax.specs.declared.tree.CopySize.{CopySize}
use Rattle.mon_syntax.specs.declared.tree.CopySize.TheVariants as copy_size
use Rattle.mon_syntax.specs.declared.tree.MonOp.{MonOp}
use Rattle.mon_syntax.specs.declared.tree.MonOp.TheVariants.{Add, Sub, Mul, Div, Rem, Shl, Shr, And, Or, Xor, Eq, Ne, Lt, Le, Gt, Ge}

-- the bits of a type
abbrev pub width : MonType → Width
width I8 = w8
width U8 = w8
width I16 = w16
width U16 = w16
width I32 = w32
width U32 = w32
width I64 = w64
width U64 = w64
width I128 = w128
width Ptr = w64

abbrev pub bit_count : MonType → ℕ
bit_count I8 = 8
bit_count U8 = 8
bit_count I16 = 16
bit_count U16 = 16
bit_count I32 = 32
bit_count U32 = 32
bit_count I64 = 64
bit_count U64 = 64
bit_count I128 = 128
bit_count Ptr = 64

abbrev pub is_signed : MonType → Bool
is_signed I8 = true
is_signed U8 = false
is_signed I16 = true
is_signed U16 = false
is_signed I32 = true
is_signed U32 = false
is_signed I64 = true
is_signed U64 = false
is_signed I128 = true
is_signed Ptr = false

-- the bytes that a value takes in memory
abbrev pub byte_count : MonType → ℕ
byte_count t = bit_count t / 8

-- the bytes that a question asks about
abbrev pub access_bytes : AccessSize → ℕ
access_bytes One = 1
access_bytes Two = 2
access_bytes Four = 4
access_bytes Eight = 8
access_bytes Sixteen = 16

-- the bytes that a copy takes
abbrev pub copy_bytes : CopySize → ℕ
copy_bytes copy_size.One = 1
copy_bytes copy_size.Two = 2
copy_bytes copy_size.Four = 4
copy_bytes copy_size.Eight = 8

abbrev pub is_pointer : MonType → Bool
is_pointer I8 = false
is_pointer U8 = false
is_pointer I16 = false
is_pointer U16 = false
is_pointer I32 = false
is_pointer U32 = false
is_pointer I64 = false
is_pointer U64 = false
is_pointer I128 = false
is_pointer Ptr = true

-- the least and the greatest value of a type
abbrev pub least : MonType → ℤ
least t = if is_signed t then neg_ℤ (pos (2 ^ (bit_count t - 1))) else pos 0

abbrev pub greatest : MonType → ℤ
greatest t = if is_signed t then pos (2 ^ (bit_count t - 1) - 1) else pos (2 ^ bit_count t - 1)

-- whether the type has the value
abbrev pub fits : MonType → ℤ → Bool
fits t z = int_le (least t) z && int_le z (greatest t)

-- the lowest bits of z, as many as the type has, as a number
abbrev pub lowest_bits : MonType → ℤ → ℕ
lowest_bits t z = unsigned_abs (int_rem_euclid z (pos (2 ^ bit_count t)))

-- the value of the type with the lowest bits of z
abbrev pub wrap : MonType → ℤ → ℤ
wrap t z = if is_signed t then cast_signed (width t) (lowest_bits t z) else pos (lowest_bits t z)

-- a shift count is taken modulo the bits of the type
abbrev pub shift_count : MonType → ℤ → ℕ
shift_count t y = unsigned_abs (int_rem_euclid y (pos (bit_count t)))

-- A quotient is rounded toward zero; there is none by 0. The least value by -1 wraps to itself, with the remainder 0.
abbrev pub divided : (ℤ → ℤ → ℤ) → MonType → ℤ → ℤ → Option ℤ
divided f t x y = if int_eq y (pos 0) then None else Some (wrap t (f x y))

-- an operator on two values of a type: a value of the type, or 1 or 0 for a relation
abbrev pub operate : MonOp → MonType → ℤ → ℤ → Option ℤ
operate Add t x y = Some (wrap t (x +ℤ y))
operate Sub t x y = Some (wrap t (x -ℤ y))
operate Mul t x y = Some (wrap t (x *ℤ y))
operate Div t x y = divided int_div t x y
operate Rem t x y = divided int_rem t x y
operate Shl t x y = Some (wrap t (x *ℤ pos (2 ^ shift_count t y)))
operate Shr t x y = Some (floor_quotient x (2 ^ shift_count t y))
operate And t x y = Some (bitwise_and x y)
operate Or t x y = Some (bitwise_or x y)
operate Xor t x y = Some (bitwise_xor x y)
operate Eq t x y = Some (truth (int_eq x y))
operate Ne t x y = Some (truth (not (int_eq x y)))
operate Lt t x y = Some (truth (int_lt x y))
operate Le t x y = Some (truth (int_le x y))
operate Gt t x y = Some (truth (int_lt y x))
operate Ge t x y = Some (truth (int_le y x))

-- `(-e)` and `(~e)`
abbrev pub minus : MonType → ℤ → ℤ
minus t x = wrap t (neg_ℤ x)

abbrev pub flipped : MonType → ℤ → ℤ
flipped t x = wrap t (complement x)
