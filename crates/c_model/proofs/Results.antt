-- Results of integer operators: a value that fits stands, and what is defined fits (C99 6.5 p5, 6.2.5 p9).
use Rattle.std.proofs.Common.{◌≡◌, ℕ, ◌<◌, ◌%◌, ◌^◌, ℤ, pos, Bool, true, false, if◌then◌else◌, nat_lt, Some, None, refl, ap, ◌∙◌, subst}
use Rattle.std.proofs.lemmas.Bool.{lt-ltb}
use Rattle.c_syntax.specs.declared.types.CInt.{CInt}
use Rattle.c_syntax.specs.declared.types.CInt.TheVariants.{I8, U8, I16, U16, I32, U32, I64, U64}
use Rattle.c_model.specs.Integers.{fits, is_signed, value_bits, bits_of, value_of_bits, result_in}
use Rattle.c_model.proofs.Cells.{bits_of-below, value_of_bits-bits_of}

pub result_in-fitting : (k : CInt) (z : ℤ) → fits k z ≡ true → result_in k z ≡ Some z
result_in-fitting k z f = by (is_signed k)
  where
    by : (t : Bool) → (if t then (if fits k z then Some z else None) else Some (value_of_bits k (bits_of k z))) ≡ Some z
    by true = rw f refl
    by false = ap Some (value_of_bits-bits_of k z f)

pub result_in-overflow : (k : CInt) (z : ℤ) → is_signed k ≡ true → fits k z ≡ false → result_in k z ≡ None
result_in-overflow k z s f = rw s (rw f refl)

signed_result : (k : CInt) (z w : ℤ) (t : Bool) → fits k z ≡ t → (if t then Some z else None) ≡ Some w → fits k w ≡ true
signed_result k z w true f e = let same : z ≡ w = cc in subst (λ x. fits k x ≡ true) same f
signed_result k z w false f e = absurd cc

unsigned_result : (m n : ℕ) (w : ℤ) (k : CInt) → n < m → (fits k (pos n) ≡ nat_lt n m) → Some (pos n) ≡ Some w → fits k w ≡ true
unsigned_result m n w k l f e = let same : pos n ≡ w = cc in subst (λ x. fits k x ≡ true) same (f ∙ lt-ltb n m l)

pub fits-result_in : (k : CInt) (z w : ℤ) → result_in k z ≡ Some w → fits k w ≡ true
fits-result_in I8 z w e = signed_result I8 z w (fits I8 z) refl e
fits-result_in U8 z w e = unsigned_result 256 (bits_of U8 z) w U8 (bits_of-below U8 z) refl e
fits-result_in I16 z w e = signed_result I16 z w (fits I16 z) refl e
fits-result_in U16 z w e = unsigned_result 65536 (bits_of U16 z) w U16 (bits_of-below U16 z) refl e
fits-result_in I32 z w e = signed_result I32 z w (fits I32 z) refl e
fits-result_in U32 z w e = unsigned_result 4294967296 (bits_of U32 z) w U32 (bits_of-below U32 z) refl e
fits-result_in I64 z w e = signed_result I64 z w (fits I64 z) refl e
fits-result_in U64 z w e = unsigned_result 18446744073709551616 (bits_of U64 z) w U64 (bits_of-below U64 z) refl e

-- an unsigned result wraps
pub result_in-unsigned : (k : CInt) (n : ℕ) → is_signed k ≡ false → result_in k (pos n) ≡ Some (pos (n % 2 ^ value_bits k))
result_in-unsigned I8 n s = absurd cc
result_in-unsigned U8 n s = refl
result_in-unsigned I16 n s = absurd cc
result_in-unsigned U16 n s = refl
result_in-unsigned I32 n s = absurd cc
result_in-unsigned U32 n s = refl
result_in-unsigned I64 n s = absurd cc
result_in-unsigned U64 n s = refl
