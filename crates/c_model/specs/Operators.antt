-- Operators on unbounded integers: where each is defined, and its value (ACSL, integer terms; C99 6.5.3.3, 6.5.5, 6.5.7, 6.5.10 to 6.5.12).
use Rattle.std.specs.Prelude.{ℕ, ◌-◌, ◌/◌, ◌^◌, ℤ, pos, negsuc, ◌*ℤ◌, int_div, int_rem, if◌then◌else◌, Option, Some, None, bit_and, bit_or, bit_xor}
use Rattle.std.specs.Ordering.{int_eq}
use Rattle.std.specs.Int.{bit_at}

-- x / y rounded toward zero (C99 6.5.5 p6), undefined where y is 0
abbrev pub quotient : ℤ → ℤ → Option ℤ
quotient x y = if int_eq y (pos 0) then None else Some (int_div x y)

-- what x / y leaves of x, with the sign of x (C99 6.5.5 p6), undefined where y is 0
abbrev pub remainder : ℤ → ℤ → Option ℤ
remainder x y = if int_eq y (pos 0) then None else Some (int_rem x y)

-- the greatest integer that is at most x / d
abbrev pub floor_quotient : ℤ → ℕ → ℤ
floor_quotient (pos n) d = pos (n / d)
floor_quotient (negsuc n) d = negsuc (n / d)

-- x << k: the product with 2 ^ k (C99 6.5.7 p4), undefined where k is negative
abbrev pub shift_left : ℤ → ℤ → Option ℤ
shift_left x (pos k) = Some (x *ℤ pos (2 ^ k))
shift_left x (negsuc k) = None

-- x >> k: the quotient by 2 ^ k rounded down (C99 6.5.7 p5), undefined where k is negative
abbrev pub shift_right : ℤ → ℤ → Option ℤ
shift_right x (pos k) = Some (floor_quotient x (2 ^ k))
shift_right x (negsuc k) = None

-- bit i of x in two's complement, where a negative number has the sign bit in every place above its own bits
abbrev pub bit_of : ℤ → ℕ → ℕ
bit_of (pos n) i = bit_at n i
bit_of (negsuc n) i = 1 - bit_at n i

-- ~x: each bit turned (C99 6.5.3.3 p4), which is -x - 1
abbrev pub complement : ℤ → ℤ
complement (pos n) = negsuc n
complement (negsuc n) = pos n

-- the bits of a that b does not have
abbrev pub bits_without : ℕ → ℕ → ℕ
bits_without a b = a - bit_and a b

-- x & y (C99 6.5.10): `negsuc n` has the bits that n does not have
abbrev pub bitwise_and : ℤ → ℤ → ℤ
bitwise_and (pos a) (pos b) = pos (bit_and a b)
bitwise_and (pos a) (negsuc b) = pos (bits_without a b)
bitwise_and (negsuc a) (pos b) = pos (bits_without b a)
bitwise_and (negsuc a) (negsuc b) = negsuc (bit_or a b)

-- x | y (C99 6.5.12): it lacks the bits that both lack
abbrev pub bitwise_or : ℤ → ℤ → ℤ
bitwise_or (pos a) (pos b) = pos (bit_or a b)
bitwise_or (pos a) (negsuc b) = negsuc (bits_without b a)
bitwise_or (negsuc a) (pos b) = negsuc (bits_without a b)
bitwise_or (negsuc a) (negsuc b) = negsuc (bit_and a b)

-- x ^ y (C99 6.5.11): a turned operand turns it
abbrev pub bitwise_xor : ℤ → ℤ → ℤ
bitwise_xor (pos a) (pos b) = pos (bit_xor a b)
bitwise_xor (pos a) (negsuc b) = negsuc (bit_xor a b)
bitwise_xor (negsuc a) (pos b) = negsuc (bit_xor a b)
bitwise_xor (negsuc a) (negsuc b) = pos (bit_xor a b)
