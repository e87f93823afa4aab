-- Shifts by a count that is there are those of the standard.
use Rattle.std.proofs.Common.{◌≡◌, ◌^◌, ℤ, pos, negsuc, ◌*ℤ◌, Bool, true, false, cond, not, ◌&&◌, if◌then◌else◌, nat_lt, Option, Some, None, refl}
use Rattle.c_syntax.specs.declared.types.CInt.{CInt}
use Rattle.c_syntax.specs.declared.expression.BinOp.TheVariants.{Shl, Shr}
use Rattle.c_model.specs.Integers.{is_negative, operate_in, result_in, width}
use Rattle.c_model.specs.Operators.{floor_quotient}
use Rattle.c_conversions.specs.Shifts.{shift_count, shifted_left, shifted_right}

pub left_is : (k : CInt) (x y : ℤ) → shifted_left k x (shift_count k y) ≡ operate_in k Shl x y
left_is k x (pos n) = by (nat_lt n (width k))
  where
    inside : (m : Bool) (r : Option ℤ) → cond m None r ≡ (if not m then r else None)
    inside true r = refl
    inside false r = refl

    by : (b : Bool) → shifted_left k x (cond b (Some n) None) ≡ (if b && not (is_negative x) then result_in k (x *ℤ pos (2 ^ n)) else None)
    by true = inside (is_negative x) (result_in k (x *ℤ pos (2 ^ n)))
    by false = refl
left_is k x (negsuc n) = refl

pub right_is : (k : CInt) (x y : ℤ) → shifted_right x (shift_count k y) ≡ operate_in k Shr x y
right_is k x (pos n) = by (nat_lt n (width k))
  where
    by : (b : Bool) → shifted_right x (cond b (Some n) None) ≡ (if b then Some (floor_quotient x (2 ^ n)) else None)
    by true = refl
    by false = refl
right_is k x (negsuc n) = refl
