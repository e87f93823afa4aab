-- Ours: shifts (C99 6.5.7) by a count that is there.
use Rattle.std.specs.Prelude.{ℕ, ◌^◌, ℤ, pos, negsuc, ◌*ℤ◌, cond, nat_lt, Option, Some, None}
use Rattle.c_syntax.specs.declared.types.CInt.{CInt}
use Rattle.c_model.specs.Integers.{is_negative, result_in, width}
use Rattle.c_model.specs.Operators.{floor_quotient}

-- a count of bits of the type: not negative, and less than its width
abbrev pub shift_count : CInt → ℤ → Option ℕ
shift_count k (pos n) = cond (nat_lt n (width k)) (Some n) None
shift_count k (negsuc n) = None

abbrev pub shifted_left : CInt → ℤ → Option ℕ → Option ℤ
shifted_left k x None = None
shifted_left k x (Some n) = cond (is_negative x) None (result_in k (x *ℤ pos (2 ^ n)))

abbrev pub shifted_right : ℤ → Option ℕ → Option ℤ
shifted_right x None = None
shifted_right x (Some n) = Some (floor_quotient x (2 ^ n))
