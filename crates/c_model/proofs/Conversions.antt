-- A converted number is a value of its type (C99 6.3.1.3).
use Rattle.std.proofs.Common.{◌≡◌, ℕ, suc, ◌+◌, ◌-◌, ◌<◌, ◌≤◌, ◌^◌, ℤ, pos, negsuc, Bool, true, false, if◌then◌else◌, nat_lt, nat_le, refl, ◌∙◌, arith}
use Rattle.std.proofs.lemmas.Bool.{lt-ltb}
use Rattle.std.proofs.lemmas.Bool.Decides.{nat_tests}
use Rattle.c_syntax.specs.declared.types.CInt.{CInt}
use Rattle.c_syntax.specs.declared.types.CInt.TheVariants.{I8, U8, I16, U16, I32, U32, I64, U64}
use Rattle.c_syntax.specs.Layouts.{int_size}
use Rattle.c_model.specs.Integers.{fits, bits_of, value_of_bits, convert}
use Rattle.c_model.proofs.Cells.{bits_of-below}

-- a test of a choice between two numbers
chosen_by_order : (test : ℤ → Bool) (h b : ℕ) (x y : ℤ) → (h ≤ b → test x ≡ true) → (b < h → test y ≡ true) → test (if nat_le h b then x else y) ≡ true
chosen_by_order test h b x y high low = by (nat_le h b) refl
  where
    by : (t : Bool) → nat_le h b ≡ t → test (if t then x else y) ≡ true
    by true e = high (grind (arith, nat_tests))
    by false e = low (grind (arith, nat_tests))

signed_bits_fit : (k : CInt) (h m b : ℕ) → fits k (negsuc (m - suc b)) ≡ nat_lt (m - suc b) h → fits k (pos b) ≡ nat_lt b h → b < m → m ≡ h + h → fits k (if nat_le h b then negsuc (m - suc b) else pos b) ≡ true
signed_bits_fit k h m b p q l e =
    chosen_by_order (fits k) h b (negsuc (m - suc b)) (pos b)
    (λ (w : h ≤ b). p ∙ lt-ltb (m - suc b) h (omega arith))
    (λ (w : b < h). q ∙ lt-ltb b h w)

bits_fit : (k : CInt) (b : ℕ) → b < 256 ^ int_size k → fits k (value_of_bits k b) ≡ true
bits_fit I8 b l = signed_bits_fit I8 128 256 b refl refl l refl
bits_fit U8 b l = lt-ltb _ _ l
bits_fit I16 b l = signed_bits_fit I16 32768 65536 b refl refl l refl
bits_fit U16 b l = lt-ltb _ _ l
bits_fit I32 b l = signed_bits_fit I32 2147483648 4294967296 b refl refl l refl
bits_fit U32 b l = lt-ltb _ _ l
bits_fit I64 b l = signed_bits_fit I64 9223372036854775808 18446744073709551616 b refl refl l refl
bits_fit U64 b l = lt-ltb _ _ l

pub fits-convert : (k : CInt) (z : ℤ) → fits k (convert k z) ≡ true
fits-convert k z = bits_fit k (bits_of k z) (bits_of-below k z)
