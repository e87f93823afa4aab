-- A number of a range is a value of the range's width; a converted number is the congruent value of the type.
use Rattle.std.proofs.Common.{◌≡◌, ℕ, zero, suc, ◌&&◌, ◌+ℤ◌, ◌*ℤ◌, ◌-◌, ◌/◌, ◌%◌, ◌<◌, ◌^◌, ℤ, pos, negsuc, ◌≤ℤ◌, Bool, true, false, if◌then◌else◌, nat_le, FitsSigned, refl, arith}
use Rattle.std.specs.Int.Signed.{mag}
use Rattle.std.proofs.Math.Nat.{mod-add-div, mod-lt}
use Rattle.std.proofs.lemmas.Int.{ints}
use Rattle.c_syntax.specs.declared.annotation.Range.{Range}
use Rattle.c_syntax.specs.declared.types.CInt.{CInt}
use Rattle.c_syntax.specs.Layouts.{int_size}
use Rattle.c_model.specs.Integers.{is_signed, value_bits, bits_of, value_of_bits}
use Rattle.c_model.specs.Ranges.{LiesIn, range_in_bits, width_of_range}
use Rattle.c_model.proofs.Cells.{value_of_bits-bits_of, bits_of-below}
use Rattle.c_model.proofs.Conversions.{fits-convert}
use Rattle.ea_num.specs.Laws.{WidthsFit, machine_width, ConversionsFit, ConversionsAreCongruent, ConversionsKeepValues}
use Rattle.ea_num.proofs.Bounded.{InBits, in_bits_from_test}

-- ---- widths

pub mag_between : (lo z hi : ℤ) (m : ℕ) → lo ≤ℤ z → z ≤ℤ hi → mag lo < m → mag hi < m → mag z < m
mag_between lo (pos n) (pos b) m p q h k = omega (arith, ints)
mag_between lo (pos n) (negsuc b) m p q h k = absurd (omega (arith, ints))
mag_between (pos a) (negsuc n) hi m p q h k = absurd (omega (arith, ints))
mag_between (negsuc a) (negsuc n) hi m p q h k = omega (arith, ints)

pub lies_in_bits : (h : ℕ) (r : Range) (z : ℤ) → InBits h r → LiesIn r z → mag z < 2 ^ h
lies_in_bits h r z i l = mag_between r.lo z r.hi (2 ^ h) l.above l.below i.lo_in i.hi_in

pub widths_fit : WidthsFit
widths_fit r x w l = by (range_in_bits 31 r) (range_in_bits 63 r) refl refl
  where
    by : (s t : Bool) → range_in_bits 31 r ≡ s → range_in_bits 63 r ≡ t → FitsSigned (machine_width (width_of_range r)) x
    by true t p q = rw p (record { sfits = lies_in_bits 31 r x (in_bits_from_test 31 r p) l })
    by false true p q = rw (p, q) (record { sfits = lies_in_bits 63 r x (in_bits_from_test 63 r q) l })
    by false false p q = rw (p, q) (record { sfits = lies_in_bits 127 r x (record { lo_in = w.lo_fits.sfits; hi_in = w.hi_fits.sfits }) l })

-- ---- conversions

pub conversions_fit : ConversionsFit
conversions_fit = fits-convert

-- the bits of a number are a multiple of m away, and so is their value in two's complement
record Turns (m : ℕ) (x y : ℤ) : Type 0 where
  turns : ℤ
  is : x ≡ y +ℤ turns *ℤ pos m

turns_of_pos : (m n : ℕ) → 0 < m → Turns m (pos n) (pos (n % m))
turns_of_pos m n l = record { turns = pos (n / m); is = omega (arith, ints, mod-add-div n m) }

turns_of_negsuc : (m n : ℕ) → 0 < m → Turns m (negsuc n) (pos (m - suc (n % m)))
turns_of_negsuc m n l = record { turns = negsuc (n / m); is = omega (arith, ints, mod-add-div n m, mod-lt n l) }

turns_of_bits : (k : CInt) (x : ℤ) → 0 < 256 ^ int_size k → Turns (256 ^ int_size k) x (pos (bits_of k x))
turns_of_bits k (pos n) l = turns_of_pos (256 ^ int_size k) n l
turns_of_bits k (negsuc n) l = turns_of_negsuc (256 ^ int_size k) n l

one_turn_more : (m b : ℕ) (x : ℤ) → b < m → Turns m x (pos b) → Turns m x (negsuc (m - suc b))
one_turn_more m b x l t = by t.turns t.is
  where
    by : (q : ℤ) → x ≡ pos b +ℤ q *ℤ pos m → Turns m x (negsuc (m - suc b))
    by (pos n) e = record { turns = pos (suc n); is = omega (arith, ints) }
    by (negsuc zero) e = record { turns = pos 0; is = omega (arith, ints) }
    by (negsuc (suc n)) e = record { turns = negsuc n; is = omega (arith, ints) }

turns_of_value : (k : CInt) (x : ℤ) (b : ℕ) → b < 256 ^ int_size k → Turns (256 ^ int_size k) x (pos b) → Turns (256 ^ int_size k) x (value_of_bits k b)
turns_of_value k x b l t = by (is_signed k && nat_le (2 ^ value_bits k) b)
  where
    by : (high : Bool) → Turns (256 ^ int_size k) x (if high then negsuc (256 ^ int_size k - suc b) else pos b)
    by true = one_turn_more (256 ^ int_size k) b x l t
    by false = t

pub conversions_are_congruent : ConversionsAreCongruent
conversions_are_congruent k x =
    let l = bits_of-below k x in
    let t = turns_of_value k x (bits_of k x) l (turns_of_bits k x (omega arith)) in
    record { turns = t.turns; is = t.is }

pub conversions_keep_values : ConversionsKeepValues
conversions_keep_values = value_of_bits-bits_of
