-- Casts to a type of C are wraps of the machine.
use Rattle.std.proofs.Common.{◌≡◌, ℕ, suc, ◌-◌, ◌%◌, ℤ, pos, negsuc, Bool, true, false, ◌&&◌, nat_lt, nat_le, int_le, if◌then◌else◌, refl, sym, ap, ◌∙◌, arith}
use Rattle.std.proofs.lemmas.Bool.{lt-ltb}
use Rattle.std.proofs.lemmas.Bool.Decides.{nat_tests}
use Rattle.std.proofs.lemmas.Int.{ints}
use Rattle.c_syntax.specs.declared.annotation.Range.{Range}
use Rattle.c_syntax.specs.declared.types.CInt.{CInt}
use Rattle.c_syntax.specs.declared.types.CInt.TheVariants.{I8, U8, I16, U16, I32, U32, I64, U64}
use Rattle.c_model.specs.Integers.{fits}
use Rattle.c_model.specs.Ranges.{wrapped, LiesIn}
use Rattle.c_model.specs.TermRanges.{type_range, is_inside}
use Rattle.mon_syntax.specs.declared.tree.MonType.TheVariants as kind
use Rattle.mon_syntax.specs.Arithmetic.{wrap}
use Rattle.c_effects.specs.Expressions.{register_type}

signed_bits : (h n m : ℕ) (v : ℤ) → (nat_lt m h ≡ true → v ≡ pos m) → (nat_lt m h ≡ false → v ≡ negsuc (n - suc m)) → (if nat_le h m then negsuc (n - suc m) else pos m) ≡ v
signed_bits h n m v low high = by (nat_lt m h) (nat_le h m) refl refl
  where
    by : (s t : Bool) → nat_lt m h ≡ s → nat_le h m ≡ t → (if t then negsuc (n - suc m) else pos m) ≡ v
    by true true e f = absurd (grind (arith, nat_tests))
    by true false e f = sym (low e)
    by false true e f = sym (high e)
    by false false e f = absurd (grind (arith, nat_tests))

one_less : (g m : ℕ) → suc g - suc m ≡ g - m
one_less g m = omega arith

-- a number converted to a type of the source wraps
pub wrapped_is : (k : CInt) (z : ℤ) → wrapped k z ≡ wrap (register_type k) z
wrapped_is I8 (pos n) = signed_bits 128 256 (n % 256) (wrap kind.I8 (pos n)) (λ e. rw e refl) (λ e. rw e refl)
wrapped_is I8 (negsuc n) =
    ap (λ m. if nat_le 128 m then negsuc (256 - suc m) else pos m) (one_less 255 (n % 256))
    ∙ signed_bits 128 256 (255 - n % 256) (wrap kind.I8 (negsuc n)) (λ e. rw e refl) (λ e. rw e refl)
wrapped_is U8 (pos n) = refl
wrapped_is U8 (negsuc n) = ap pos (one_less 255 (n % 256))
wrapped_is I16 (pos n) = signed_bits 32768 65536 (n % 65536) (wrap kind.I16 (pos n)) (λ e. rw e refl) (λ e. rw e refl)
wrapped_is I16 (negsuc n) =
    ap (λ m. if nat_le 32768 m then negsuc (65536 - suc m) else pos m) (one_less 65535 (n % 65536))
    ∙ signed_bits 32768 65536 (65535 - n % 65536) (wrap kind.I16 (negsuc n)) (λ e. rw e refl) (λ e. rw e refl)
wrapped_is U16 (pos n) = refl
wrapped_is U16 (negsuc n) = ap pos (one_less 65535 (n % 65536))
wrapped_is I32 (pos n) = signed_bits 2147483648 4294967296 (n % 4294967296) (wrap kind.I32 (pos n)) (λ e. rw e refl) (λ e. rw e refl)
wrapped_is I32 (negsuc n) =
    ap (λ m. if nat_le 2147483648 m then negsuc (4294967296 - suc m) else pos m) (one_less 4294967295 (n % 4294967296))
    ∙ signed_bits 2147483648 4294967296 (4294967295 - n % 4294967296) (wrap kind.I32 (negsuc n)) (λ e. rw e refl) (λ e. rw e refl)
wrapped_is U32 (pos n) = refl
wrapped_is U32 (negsuc n) = ap pos (one_less 4294967295 (n % 4294967296))
wrapped_is I64 (pos n) = signed_bits 9223372036854775808 18446744073709551616 (n % 18446744073709551616) (wrap kind.I64 (pos n)) (λ e. rw e refl) (λ e. rw e refl)
wrapped_is I64 (negsuc n) =
    ap (λ m. if nat_le 9223372036854775808 m then negsuc (18446744073709551616 - suc m) else pos m) (one_less 18446744073709551615 (n % 18446744073709551616))
    ∙ signed_bits 9223372036854775808 18446744073709551616 (18446744073709551615 - n % 18446744073709551616) (wrap kind.I64 (negsuc n)) (λ e. rw e refl) (λ e. rw e refl)
wrapped_is U64 (pos n) = refl
wrapped_is U64 (negsuc n) = ap pos (one_less 18446744073709551615 (n % 18446744073709551616))

-- ---- values of a type

pub lies_fits : (k : CInt) (z : ℤ) → LiesIn (type_range k) z → fits k z ≡ true
lies_fits I8 (pos n) l = let b = l.below in lt-ltb n 128 (omega (arith, ints))
lies_fits I8 (negsuc n) l = let b = l.above in lt-ltb n 128 (omega (arith, ints))
lies_fits U8 (pos n) l = let b = l.below in lt-ltb n 256 (omega (arith, ints))
lies_fits U8 (negsuc n) l = let b = l.above in absurd (omega (arith, ints))
lies_fits I16 (pos n) l = let b = l.below in lt-ltb n 32768 (omega (arith, ints))
lies_fits I16 (negsuc n) l = let b = l.above in lt-ltb n 32768 (omega (arith, ints))
lies_fits U16 (pos n) l = let b = l.below in lt-ltb n 65536 (omega (arith, ints))
lies_fits U16 (negsuc n) l = let b = l.above in absurd (omega (arith, ints))
lies_fits I32 (pos n) l = let b = l.below in lt-ltb n 2147483648 (omega (arith, ints))
lies_fits I32 (negsuc n) l = let b = l.above in lt-ltb n 2147483648 (omega (arith, ints))
lies_fits U32 (pos n) l = let b = l.below in lt-ltb n 4294967296 (omega (arith, ints))
lies_fits U32 (negsuc n) l = let b = l.above in absurd (omega (arith, ints))
lies_fits I64 (pos n) l = let b = l.below in lt-ltb n 9223372036854775808 (omega (arith, ints))
lies_fits I64 (negsuc n) l = let b = l.above in lt-ltb n 9223372036854775808 (omega (arith, ints))
lies_fits U64 (pos n) l = let b = l.below in lt-ltb n 18446744073709551616 (omega (arith, ints))
lies_fits U64 (negsuc n) l = let b = l.above in absurd (omega (arith, ints))

both_true : (s t : Bool) → (s && t) ≡ true → (s ≡ true) × (t ≡ true)
both_true true t e = (refl, e)
both_true false t e = absurd cc

-- a range inside another
pub inside_lies : (a b : Range) (z : ℤ) → is_inside a b ≡ true → LiesIn a z → LiesIn b z
inside_lies a b z e l =
    let i = both_true (int_le b.lo a.lo) (int_le a.hi b.hi) e in
    let low = i.0 in
    let high = i.1 in
    let above = l.above in
    let below = l.below in
    record { above = omega (arith, ints); below = omega (arith, ints) }
