-- Products, quotients and remainders lie in their ranges.
use Rattle.std.proofs.Common.{◌≡◌, ℕ, zero, suc, ◌-◌, ◌/◌, ◌%◌, ◌<◌, ◌≤◌, ◌^◌, ℤ, pos, negsuc, neg_ℤ, ◌*ℤ◌, ◌≤ℤ◌, ◌<ℤ◌, Bool, true, false, cond, refl, arith, ◌⊎◌, inl, inr, ◌&&◌, Some, None, int_div, int_rem, unsigned_abs, FitsSigned, to_z, of_z}
use Rattle.std.proofs.Common.{sym, ap}
use Rattle.std.specs.Prelude.{int_lt, int_le}
use Rattle.std.specs.Ordering.{int_eq}
use Rattle.std.specs.Int.{w128, int_min, int_max}
use Rattle.std.proofs.lemmas.Bool.Decides.{Decides-int_eq}
use Rattle.std.proofs.lemmas.Int.{ints, clamps, quot-rem, rem_below, unsigned_abs-mul, to_z-of_z}
use Rattle.std.proofs.Math.Nat.{mul-le-mul_right, div-le_self, mod-lt, mod-le, mod-add-div}
use Rattle.std.proofs.Math.IntN.{*ℤ_comm}
use Rattle.c_syntax.specs.declared.annotation.Range.{Range}
use Rattle.c_model.specs.Ranges.{LiesIn, from_to, hull_of_four, quotients, least_remainder, greatest_remainder, remainders, remainder_range, greatest_abs, bounded, least_i128}
use Rattle.ea_num.specs.Laws.{ProductsLie, QuotientsLie, RemaindersLie, DivisionTruncates}
use Rattle.ea_num.proofs.Bounded.{lies_in_bounded, bounded-within}
use Rattle.ea_num.proofs.Hull.{Between, between_in_hull, le_trans}

-- ---- products

-- a factor that is not negative keeps the order, and another turns it round
times_pos : (x y : ℤ) (n : ℕ) → x ≤ℤ y → (x *ℤ pos n) ≤ℤ (y *ℤ pos n)
times_pos (pos a) (pos b) n h = let k : a ≤ b = omega (arith, ints) in let m = mul-le-mul_right n k in omega (arith, ints)
times_pos (pos a) (negsuc b) n h = absurd (omega (arith, ints))
times_pos (negsuc a) (pos b) n h = omega (arith, ints)
times_pos (negsuc a) (negsuc b) n h = let k : suc b ≤ suc a = omega (arith, ints) in let m = mul-le-mul_right n k in omega (arith, ints)

times_negsuc : (x y : ℤ) (n : ℕ) → x ≤ℤ y → (y *ℤ negsuc n) ≤ℤ (x *ℤ negsuc n)
times_negsuc (pos a) (pos b) n h = let k : a ≤ b = omega (arith, ints) in let m = mul-le-mul_right (suc n) k in omega (arith, ints)
times_negsuc (pos a) (negsuc b) n h = absurd (omega (arith, ints))
times_negsuc (negsuc a) (pos b) n h = omega (arith, ints)
times_negsuc (negsuc a) (negsuc b) n h = let k : suc b ≤ suc a = omega (arith, ints) in let m = mul-le-mul_right (suc n) k in omega (arith, ints)

between_times : (lo x hi y : ℤ) → lo ≤ℤ x → x ≤ℤ hi → Between (lo *ℤ y) (x *ℤ y) (hi *ℤ y)
between_times lo x hi (pos n) p q = record { order = inl (times_pos lo x n p, times_pos x hi n q) }
between_times lo x hi (negsuc n) p q = record { order = inr (times_negsuc x hi n q, times_negsuc lo x n p) }

times_between : (lo x hi y : ℤ) → lo ≤ℤ x → x ≤ℤ hi → Between (y *ℤ lo) (y *ℤ x) (y *ℤ hi)
times_between lo x hi y p q = rw (*ℤ_comm y lo, *ℤ_comm y x, *ℤ_comm y hi) (between_times lo x hi y p q)

pub products_lie : ProductsLie
products_lie a b r x y e h k =
    lies_in_bounded (hull_of_four (a.lo *ℤ b.lo) (a.lo *ℤ b.hi) (a.hi *ℤ b.lo) (a.hi *ℤ b.hi)) r (x *ℤ y) e
    (between_in_hull (a.lo *ℤ b.lo) (a.lo *ℤ b.hi) (a.hi *ℤ b.lo) (a.hi *ℤ b.hi) (a.lo *ℤ y) (a.hi *ℤ y) (x *ℤ y)
    (times_between b.lo y b.hi a.lo k.above k.below)
    (times_between b.lo y b.hi a.hi k.above k.below)
    (between_times a.lo x a.hi y h.above h.below))

-- ---- quotients

abs_lies : (m : ℕ) (z : ℤ) → unsigned_abs z ≤ m → LiesIn (from_to (neg_ℤ (pos m)) (pos m)) z
abs_lies m z h = record { above = omega (arith, ints); below = omega (arith, ints) }

pub abs_at_most : (a : Range) (x : ℤ) → LiesIn a x → unsigned_abs x ≤ greatest_abs a
abs_at_most a x h = omega (arith, ints)

abs-int_div : (x y : ℤ) → unsigned_abs (int_div x y) ≤ unsigned_abs x
abs-int_div (pos a) (pos b) = div-le_self a b
abs-int_div (pos a) (negsuc b) = let m = div-le_self a (suc b) in omega (arith, ints)
abs-int_div (negsuc a) (pos b) = let m = div-le_self (suc a) b in omega (arith, ints)
abs-int_div (negsuc a) (negsuc b) = let m = div-le_self (suc a) (suc b) in omega (arith, ints)

quotient_nonnegative : (x y : ℤ) → pos 0 ≤ℤ x → pos 0 ≤ℤ y → (pos 0 ≤ℤ int_div x y) × (int_div x y ≤ℤ x)
quotient_nonnegative (pos a) (pos b) h k = let m = div-le_self a b in (omega (arith, ints), omega (arith, ints))
quotient_nonnegative (pos a) (negsuc b) h k = absurd (omega (arith, ints))
quotient_nonnegative (negsuc a) y h k = absurd (omega (arith, ints))

quotient_lies : (a b : Range) (x y : ℤ) → LiesIn a x → LiesIn b y → LiesIn (quotients a b) (int_div x y)
quotient_lies a b x y h k = by (int_le (pos 0) a.lo) (int_le (pos 0) b.lo) refl refl
  where
    wide : LiesIn (from_to (neg_ℤ (pos (greatest_abs a))) (pos (greatest_abs a))) (int_div x y)
    wide = let m = abs-int_div x y in let q = abs_at_most a x h in abs_lies (greatest_abs a) (int_div x y) (omega arith)

    by : (s t : Bool) → int_le (pos 0) a.lo ≡ s → int_le (pos 0) b.lo ≡ t → LiesIn (cond (s && t) (from_to (pos 0) a.hi) (from_to (neg_ℤ (pos (greatest_abs a))) (pos (greatest_abs a)))) (int_div x y)
    by true true e f =
        let p : pos 0 ≤ℤ a.lo = omega (arith, ints) in
        let q : pos 0 ≤ℤ b.lo = omega (arith, ints) in
        let m = quotient_nonnegative x y (le_trans (pos 0) a.lo x p h.above) (le_trans (pos 0) b.lo y q k.above) in
        record { above = m.0; below = le_trans (int_div x y) x a.hi m.1 h.below }
    by true false e f = wide
    by false t e f = wide

-- what lies in a range that is bounded where a test fails
lies_unless : (t : Bool) (s r : Range) (z : ℤ) → cond t None (bounded s) ≡ Some r → LiesIn s z → LiesIn r z
lies_unless true s r z e h = absurd cc
lies_unless false s r z e h = lies_in_bounded s r z e h

pub record Defined (y w z : ℤ) : Type 0 where
  pub nonzero : 0 < unsigned_abs y
  pub same : w ≡ z

abs_of_nonzero : (y : ℤ) → int_eq y (pos 0) ≡ false → 0 < unsigned_abs y
abs_of_nonzero (pos zero) e = absurd cc
abs_of_nonzero (pos (suc n)) e = omega arith
abs_of_nonzero (negsuc n) e = omega arith

-- a result that is undefined at 0
pub defined_unless_zero : (y w z : ℤ) → cond (int_eq y (pos 0)) None (Some w) ≡ Some z → Defined y w z
defined_unless_zero y w z e = by (int_eq y (pos 0)) refl e
  where
    by : (t : Bool) → int_eq y (pos 0) ≡ t → cond t None (Some w) ≡ Some z → Defined y w z
    by true p f = absurd cc
    by false p f = record { nonzero = abs_of_nonzero y p; same = cc }

pub quotients_lie : QuotientsLie
quotients_lie a b r x y z e h k d =
    let q = defined_unless_zero y (int_div x y) z d in
    rw (← q.same) (lies_unless (int_eq a.lo least_i128) (quotients a b) r (int_div x y) e (quotient_lies a b x y h k))

-- ---- remainders

remainder_above : (a : Range) (d : ℕ) (x w : ℤ) → LiesIn a x → (pos 0 ≤ℤ w) ⊎ ((x ≤ℤ w) × (x <ℤ pos 0)) → neg_ℤ (pos d) ≤ℤ w → (remainders a d).lo ≤ℤ w
remainder_above a d x w h s n = by (int_lt a.lo (pos 0)) refl s
  where
    by : (t : Bool) → int_lt a.lo (pos 0) ≡ t → (pos 0 ≤ℤ w) ⊎ ((x ≤ℤ w) × (x <ℤ pos 0)) → cond t (int_max a.lo (neg_ℤ (pos d))) (pos 0) ≤ℤ w
    by true e (inl p) = let q : a.lo <ℤ pos 0 = omega (arith, ints) in omega (arith, ints, clamps)
    by true e (inr p) = let q = le_trans a.lo x w h.above p.0 in omega (arith, ints, clamps)
    by false e (inl p) = p
    by false e (inr p) = absurd (omega (arith, ints))

remainder_below : (a : Range) (d : ℕ) (x w : ℤ) → LiesIn a x → (w ≤ℤ pos 0) ⊎ ((w ≤ℤ x) × (pos 0 <ℤ x)) → w ≤ℤ pos d → w ≤ℤ (remainders a d).hi
remainder_below a d x w h s n = by (int_lt (pos 0) a.hi) refl s
  where
    by : (t : Bool) → int_lt (pos 0) a.hi ≡ t → (w ≤ℤ pos 0) ⊎ ((w ≤ℤ x) × (pos 0 <ℤ x)) → w ≤ℤ cond t (int_min a.hi (pos d)) (pos 0)
    by true e (inl p) = let q : pos 0 <ℤ a.hi = omega (arith, ints) in omega (arith, ints, clamps)
    by true e (inr p) = let q = le_trans w x a.hi p.0 h.below in omega (arith, ints, clamps)
    by false e (inl p) = p
    by false e (inr p) = absurd (omega (arith, ints))

remainder_lies : (a : Range) (d : ℕ) (x y : ℤ) → LiesIn a x → 0 < unsigned_abs y → unsigned_abs y - 1 ≤ d → LiesIn (remainders a d) (int_rem x y)
remainder_lies a d (pos zero) y h n l =
    let m = mod-lt 0 n in
    record {
      above = remainder_above a d (pos 0) (pos (0 % unsigned_abs y)) h (inl (omega (arith, ints))) (omega (arith, ints));
      below = remainder_below a d (pos 0) (pos (0 % unsigned_abs y)) h (inl (let q = mod-le 0 (unsigned_abs y) in omega (arith, ints))) (omega (arith, ints));
    }
remainder_lies a d (pos (suc i)) y h n l =
    let m = mod-lt (suc i) n in
    let q = mod-le (suc i) (unsigned_abs y) in
    record {
      above = remainder_above a d (pos (suc i)) (pos (suc i % unsigned_abs y)) h (inl (omega (arith, ints))) (omega (arith, ints));
      below = remainder_below a d (pos (suc i)) (pos (suc i % unsigned_abs y)) h (inr (omega (arith, ints), omega (arith, ints))) (omega (arith, ints));
    }
remainder_lies a d (negsuc i) y h n l =
    let m = mod-lt (suc i) n in
    let q = mod-le (suc i) (unsigned_abs y) in
    record {
      above = remainder_above a d (negsuc i) (neg_ℤ (pos (suc i % unsigned_abs y))) h (inr (omega (arith, ints), omega (arith, ints))) (omega (arith, ints));
      below = remainder_below a d (negsuc i) (neg_ℤ (pos (suc i % unsigned_abs y))) h (inl (omega (arith, ints))) (omega (arith, ints));
    }

pub remainders_lie : RemaindersLie
remainders_lie a b r x y z e h k d =
    let q = defined_unless_zero y (int_rem x y) z d in
    let m = abs_at_most b y k in
    rw (← q.same) (lies_unless (int_eq a.lo least_i128) (remainders a (greatest_abs b - 1)) r (int_rem x y) e (remainder_lies a (greatest_abs b - 1) x y h q.nonzero (omega arith)))

abs-of_int_div : (x y : ℤ) → unsigned_abs (int_div x y) ≡ unsigned_abs x / unsigned_abs y
abs-of_int_div (pos a) (pos b) = refl
abs-of_int_div (pos a) (negsuc b) = omega (arith, ints)
abs-of_int_div (negsuc a) (pos b) = omega (arith, ints)
abs-of_int_div (negsuc a) (negsuc b) = refl

abs-product_of_quotient : (x y : ℤ) → unsigned_abs (int_div x y *ℤ y) ≤ unsigned_abs x
abs-product_of_quotient x y =
    rw (unsigned_abs-mul (int_div x y) y, abs-of_int_div x y)
    (let m = mod-add-div (unsigned_abs x) (unsigned_abs y) in omega arith)

pub division_truncates : DivisionTruncates
division_truncates x y q r d e =
    let p = defined_unless_zero y (int_div x y) q d in
    let s = defined_unless_zero y (int_rem x y) r e in
    rw (← p.same, ← s.same) (record { whole = quot-rem x y; near = rem_below x y p.nonzero; toward_zero = abs-product_of_quotient x y })

-- what the code of a remainder gives
pub remainder_of_code : (a b : Range) (lo hi : ℤ) (d : ℕ) → FitsSigned w128 lo → FitsSigned w128 hi → (of_z w128 a.lo ≡ 2 ^ 127 → ⊥) → d ≡ greatest_abs b - 1 → lo ≡ least_remainder a.lo d → hi ≡ greatest_remainder a.hi d
    → Some (from_to (to_z w128 (of_z w128 lo)) (to_z w128 (of_z w128 hi))) ≡ remainder_range a b
remainder_of_code a b lo hi d p q out e f g =
    rw (to_z-of_z w128 lo p, to_z-of_z w128 hi q, not_least a.lo out, ← e, ← f, ← g) (sym (bounded-within (from_to lo hi) p q))
  where
    not_least : (z : ℤ) → (of_z w128 z ≡ 2 ^ 127 → ⊥) → int_eq z least_i128 ≡ false
    not_least z far = by (int_eq z least_i128) refl
      where
        by : (t : Bool) → int_eq z least_i128 ≡ t → int_eq z least_i128 ≡ false
        by true m = absurd (far (ap (of_z w128) ((Decides-int_eq z least_i128).0 m)))
        by false m = m
