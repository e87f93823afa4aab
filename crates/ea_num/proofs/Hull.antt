-- What lies between two numbers, in one order or the other, and in the hull of four.
use Rattle.std.proofs.Common.{◌≡◌, ◌^◌, ℤ, ◌≤ℤ◌, Bool, true, false, cond, ◌⊎◌, inl, inr, Some, None, FitsSigned, to_z, of_z, refl, arith}
use Rattle.std.specs.Prelude.{int_lt}
use Rattle.std.specs.Int.{w128, int_min, int_max}
use Rattle.std.proofs.lemmas.Int.{ints, clamps, to_z-of_z}
use Rattle.c_syntax.specs.declared.annotation.Range.{Range}
use Rattle.c_model.specs.Ranges.{from_to, LiesIn, bounded, hull_of_four, range_in_bits}
use Rattle.ea_num.proofs.Bounded.{bounded-within, in_bits_from_test}
use Rattle.ea_num.proofs.Converted.{mag_between}

pub le_trans : (x y z : ℤ) → x ≤ℤ y → y ≤ℤ z → x ≤ℤ z
le_trans x y z h k = omega (arith, ints)

pub record Between (lo x hi : ℤ) : Type 0 where
  pub order : ((lo ≤ℤ x) × (x ≤ℤ hi)) ⊎ ((hi ≤ℤ x) × (x ≤ℤ lo))

above_one : (l a b z : ℤ) → l ≤ℤ a → l ≤ℤ b → Between a z b → l ≤ℤ z
above_one l a b z p q h = elim h.order [ inl m ↦ le_trans l a z p m.0 | inr m ↦ le_trans l b z q m.0 ]

below_one : (u a b z : ℤ) → a ≤ℤ u → b ≤ℤ u → Between a z b → z ≤ℤ u
below_one u a b z p q h = elim h.order [ inl m ↦ le_trans z b u m.1 q | inr m ↦ le_trans z a u m.1 p ]

-- each of the four numbers lies in their hull
pub first_in_hull : (a b c d : ℤ) → LiesIn (hull_of_four a b c d) a
first_in_hull a b c d = record { above = omega (arith, ints, clamps); below = omega (arith, ints, clamps) }

pub second_in_hull : (a b c d : ℤ) → LiesIn (hull_of_four a b c d) b
second_in_hull a b c d = record { above = omega (arith, ints, clamps); below = omega (arith, ints, clamps) }

pub third_in_hull : (a b c d : ℤ) → LiesIn (hull_of_four a b c d) c
third_in_hull a b c d = record { above = omega (arith, ints, clamps); below = omega (arith, ints, clamps) }

pub fourth_in_hull : (a b c d : ℤ) → LiesIn (hull_of_four a b c d) d
fourth_in_hull a b c d = record { above = omega (arith, ints, clamps); below = omega (arith, ints, clamps) }

-- what lies between two numbers, of which each lies between two of the four, lies in the hull
pub between_in_hull : (a b c d p q z : ℤ) → Between a p b → Between c q d → Between p z q → LiesIn (hull_of_four a b c d) z
between_in_hull a b c d p q z h k m =
    let f = first_in_hull a b c d in
    let g = second_in_hull a b c d in
    let i = third_in_hull a b c d in
    let j = fourth_in_hull a b c d in
    record {
      above = above_one (hull_of_four a b c d).lo p q z (above_one (hull_of_four a b c d).lo a b p f.above g.above h) (above_one (hull_of_four a b c d).lo c d q i.above j.above k) m;
      below = below_one (hull_of_four a b c d).hi p q z (below_one (hull_of_four a b c d).hi a b p f.below g.below h) (below_one (hull_of_four a b c d).hi c d q i.below j.below k) m;
    }

-- ---- bounds of a hull

pub int_min-fits : (x y : ℤ) → FitsSigned w128 x → FitsSigned w128 y → FitsSigned w128 (int_min x y)
int_min-fits x y p q = by (int_lt y x)
  where
    by : (t : Bool) → FitsSigned w128 (cond t y x)
    by true = q
    by false = p

pub int_max-fits : (x y : ℤ) → FitsSigned w128 x → FitsSigned w128 y → FitsSigned w128 (int_max x y)
int_max-fits x y p q = by (int_lt y x)
  where
    by : (t : Bool) → FitsSigned w128 (cond t x y)
    by true = p
    by false = q

pub hull-within : (a b c d : ℤ) → FitsSigned w128 a → FitsSigned w128 b → FitsSigned w128 c → FitsSigned w128 d → bounded (hull_of_four a b c d) ≡ Some (hull_of_four a b c d)
hull-within a b c d p q r s =
    bounded-within (hull_of_four a b c d)
    (int_min-fits (int_min a b) (int_min c d) (int_min-fits a b p q) (int_min-fits c d r s))
    (int_max-fits (int_max a b) (int_max c d) (int_max-fits a b p q) (int_max-fits c d r s))

-- a range with a number beyond signed 128 bits is not within them
pub bounded-beyond : (r : Range) (z : ℤ) → LiesIn r z → (FitsSigned w128 z → ⊥) → bounded r ≡ None
bounded-beyond r z l out = by (range_in_bits 127 r) refl
  where
    by : (t : Bool) → range_in_bits 127 r ≡ t → cond t (Some r) None ≡ None
    by true e =
        let i = in_bits_from_test 127 r e in
        absurd (out (record { sfits = mag_between r.lo z r.hi (2 ^ 127) l.above l.below i.lo_in i.hi_in }))
    by false e = refl

-- what the code of a hull gives
pub hull_of_code : (a b c d lo hi : ℤ) → FitsSigned w128 a → FitsSigned w128 b → FitsSigned w128 c → FitsSigned w128 d → lo ≡ int_min (int_min a b) (int_min c d) → hi ≡ int_max (int_max a b) (int_max c d)
    → from_to (to_z w128 (of_z w128 lo)) (to_z w128 (of_z w128 hi)) ≡ hull_of_four a b c d
hull_of_code a b c d lo hi p q r s e f =
    let m : FitsSigned w128 lo = rw e (int_min-fits (int_min a b) (int_min c d) (int_min-fits a b p q) (int_min-fits c d r s)) in
    let n : FitsSigned w128 hi = rw f (int_max-fits (int_max a b) (int_max c d) (int_max-fits a b p q) (int_max-fits c d r s)) in
    rw (to_z-of_z w128 lo m, to_z-of_z w128 hi n, e, f) refl

-- what the code of a hull gives where the four numbers are computed
pub hull_of_some : (p q r s w x y z : ℤ) (h : Range) → FitsSigned w128 p × (w ≡ p) → FitsSigned w128 q × (x ≡ q) → FitsSigned w128 r × (y ≡ r) → FitsSigned w128 s × (z ≡ s)
    → h ≡ hull_of_four (to_z w128 (of_z w128 w)) (to_z w128 (of_z w128 x)) (to_z w128 (of_z w128 y)) (to_z w128 (of_z w128 z)) → Some h ≡ bounded (hull_of_four p q r s)
hull_of_some p q r s w x y z h d e f g is =
    let dw : FitsSigned w128 w = rw d.1 d.0 in
    let ex : FitsSigned w128 x = rw e.1 e.0 in
    let fy : FitsSigned w128 y = rw f.1 f.0 in
    let gz : FitsSigned w128 z = rw g.1 g.0 in
    rw (is, to_z-of_z w128 w dw, to_z-of_z w128 x ex, to_z-of_z w128 y fy, to_z-of_z w128 z gz, d.1, e.1, f.1, g.1, hull-within p q r s d.0 e.0 f.0 g.0) refl
