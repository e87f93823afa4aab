-- Shifts lie in their ranges.
use Rattle.std.proofs.Common.{◌≡◌, ℕ, ◌+◌, ◌-◌, ◌*◌, ◌/◌, ◌%◌, ◌<◌, ◌≤◌, ◌^◌, ℤ, pos, negsuc, ◌*ℤ◌, ◌≤ℤ◌, Bool, true, false, cond, min, refl, sym, ap, ◌∙◌, subst, arith, inl, inr, Option, Some, None, unsigned_abs, FitsSigned, to_z, of_z}
use Rattle.std.specs.Prelude.{int_lt, int_le}
use Rattle.std.specs.Int.{w128, int_min, int_max}
use Rattle.std.specs.Int.Signed.{mag}
use Rattle.std.proofs.lemmas.Int.{ints, clamps, to_z_pos, to_z-of_z}
use Rattle.std.proofs.lemmas.Nat.{pow_pos, shr-shr, shr_le, le-div, one_shl}
use Rattle.std.proofs.Math.Nat.{div-mul-le_self, div-eq_of_lt, mod-add-div, mod-lt}
use Rattle.std.proofs.Math.Pow.{pow_mono}
use Rattle.c_syntax.specs.declared.annotation.Range.{Range}
use Rattle.c_model.specs.Operators.{floor_quotient}
use Rattle.c_model.specs.Ranges.{LiesIn, IsRange, from_to, hull_of_four, product_range, power_of_count, shift_left_range, shifted_by_count}
use Rattle.ea_num.specs.Laws.{ShiftsLeftLie, ShiftsRightLie, IsFloor, ShiftsRoundDown}
use Rattle.ea_num.proofs.Bounded.{lies_in_bounded}
use Rattle.ea_num.proofs.Converted.{mag_between}
use Rattle.ea_num.proofs.Hull.{Between, between_in_hull}
use Rattle.ea_num.proofs.Multiplied.{products_lie}

-- ---- to the left

pub power_of_count-monotone : (x y : ℤ) → x ≤ℤ y → power_of_count x ≤ℤ power_of_count y
power_of_count-monotone x y h =
    let m : unsigned_abs (int_max x (pos 0)) ≤ unsigned_abs (int_max y (pos 0)) = omega (arith, ints, clamps) in
    let p : 2 ^ unsigned_abs (int_max x (pos 0)) ≤ 2 ^ unsigned_abs (int_max y (pos 0)) = pow_mono m in
    omega (arith, ints)

count_of_pos : (n : ℕ) → unsigned_abs (int_max (pos n) (pos 0)) ≡ n
count_of_pos n = omega (arith, ints, clamps)

pub power_lies : (k : Range) (n : ℕ) → LiesIn k (pos n) → LiesIn (from_to (power_of_count k.lo) (power_of_count k.hi)) (pos (2 ^ n))
power_lies k n h =
    let e : power_of_count (pos n) ≡ pos (2 ^ n) = ap (λ (i : ℕ). pos (2 ^ i)) (count_of_pos n) in
    subst (LiesIn (from_to (power_of_count k.lo) (power_of_count k.hi))) e
    (record { above = power_of_count-monotone k.lo (pos n) h.above; below = power_of_count-monotone (pos n) k.hi h.below })

pub shifts_left_lie : ShiftsLeftLie
shifts_left_lie a k r x (negsuc n) z e h m d = absurd cc
shifts_left_lie a k r x (pos n) z e h m d = by (int_le k.hi (pos 126)) e
  where
    by : (t : Bool) → cond t (product_range a (from_to (power_of_count k.lo) (power_of_count k.hi))) None ≡ Some r → LiesIn r z
    by true f =
        let same : (x *ℤ pos (2 ^ n)) ≡ z = cc in
        subst (LiesIn r) same (products_lie a (from_to (power_of_count k.lo) (power_of_count k.hi)) r x (pos (2 ^ n)) f h (power_lies k n m))
    by false f = absurd cc

-- what the code of a power gives
pub power_of_code : (k m : ℤ) → m ≡ int_max k (pos 0) → k ≤ℤ pos 126 → to_z w128 (1 * 2 ^ unsigned_abs m % 2 ^ 128) ≡ power_of_count k
power_of_code k m e h =
    let small : unsigned_abs m ≤ 126 = omega (arith, ints, clamps) in
    let p : 2 ^ unsigned_abs m ≤ 2 ^ 126 = pow_mono small in
    rw (one_shl (unsigned_abs m) 128 (omega arith)) (to_z_pos w128 (2 ^ unsigned_abs m) (omega arith) ∙ ap (λ (i : ℤ). pos (2 ^ unsigned_abs i)) e)

-- ---- to the right

div-monotone : (m n d : ℕ) → 0 < d → m ≤ n → m / d ≤ n / d
div-monotone m n d p h = le-div (m / d) n d p (omega (arith, div-mul-le_self m d))

floor_quotient-monotone : (x y : ℤ) (d : ℕ) → 0 < d → x ≤ℤ y → floor_quotient x d ≤ℤ floor_quotient y d
floor_quotient-monotone (pos a) (pos b) d p h = let m = div-monotone a b d p (omega (arith, ints)) in omega (arith, ints)
floor_quotient-monotone (pos a) (negsuc b) d p h = absurd (omega (arith, ints))
floor_quotient-monotone (negsuc a) (pos b) d p h = omega (arith, ints)
floor_quotient-monotone (negsuc a) (negsuc b) d p h = let m = div-monotone b a d p (omega (arith, ints)) in omega (arith, ints)

-- a shift by more leaves no more
shift_antitone : (n i j : ℕ) → i ≤ j → n / 2 ^ j ≤ n / 2 ^ i
shift_antitone n i j h =
    let e : i + (j - i) ≡ j = omega arith in
    let s : n / 2 ^ i / 2 ^ (j - i) ≡ n / 2 ^ j = shr-shr n i (j - i) ∙ ap (λ (k : ℕ). n / 2 ^ k) e in
    omega (arith, shr_le (n / 2 ^ i) (j - i))

between_counts : (x : ℤ) (i j l : ℕ) → i ≤ j → j ≤ l → Between (floor_quotient x (2 ^ i)) (floor_quotient x (2 ^ j)) (floor_quotient x (2 ^ l))
between_counts (pos n) i j l p q =
    let m = shift_antitone n i j p in
    let r = shift_antitone n j l q in
    record { order = inr (omega (arith, ints), omega (arith, ints)) }
between_counts (negsuc n) i j l p q =
    let m = shift_antitone n i j p in
    let r = shift_antitone n j l q in
    record { order = inl (omega (arith, ints), omega (arith, ints)) }

-- the count put into 0 to 127
count_within-monotone : (x y : ℤ) → x ≤ℤ y → unsigned_abs (int_max (pos 0) (int_min x (pos 127))) ≤ unsigned_abs (int_max (pos 0) (int_min y (pos 127)))
count_within-monotone x y h = omega (arith, ints, clamps)

count_within_of_pos : (n : ℕ) → unsigned_abs (int_max (pos 0) (int_min (pos n) (pos 127))) ≡ min n 127
count_within_of_pos n = omega (arith, ints, clamps)

-- a shift by more than 127 leaves what one by 127 does
nothing_left : (n k : ℕ) → n < 2 ^ 127 → 127 ≤ k → n / 2 ^ k ≡ n / 2 ^ 127
nothing_left n k h p =
    let m : 2 ^ 127 ≤ 2 ^ k = pow_mono p in
    let l : n < 2 ^ k = omega arith in
    div-eq_of_lt l ∙ sym (div-eq_of_lt h)

pub high_shift : (x : ℤ) (k : ℕ) → mag x < 2 ^ 127 → 127 ≤ k → floor_quotient x (2 ^ k) ≡ floor_quotient x (2 ^ 127)
high_shift (pos n) k h p = ap pos (nothing_left n k h p)
high_shift (negsuc n) k h p = ap negsuc (nothing_left n k h p)

shift_by_least : (x : ℤ) (k : ℕ) → mag x < 2 ^ 127 → floor_quotient x (2 ^ min k 127) ≡ floor_quotient x (2 ^ k)
shift_by_least x k h = grind (arith, high_shift x k h)

pub shifts_right_lie : ShiftsRightLie
shifts_right_lie a k r x (negsuc n) z w e h m d = absurd cc
shifts_right_lie a k r x (pos n) z w e h m d =
    let small : mag x < 2 ^ 127 = mag_between a.lo x a.hi (2 ^ 127) h.above h.below w.lo_fits.sfits w.hi_fits.sfits in
    let same : shifted_by_count x (pos n) ≡ z = ap (λ (i : ℕ). floor_quotient x (2 ^ i)) (count_within_of_pos n) ∙ shift_by_least x n small ∙ some_same (floor_quotient x (2 ^ n)) z d in
    subst (LiesIn r) same
    (lies_in_bounded (hull_of_four (shifted_by_count a.lo k.lo) (shifted_by_count a.lo k.hi) (shifted_by_count a.hi k.lo) (shifted_by_count a.hi k.hi)) r (shifted_by_count x (pos n)) e
    (between_in_hull (shifted_by_count a.lo k.lo) (shifted_by_count a.lo k.hi) (shifted_by_count a.hi k.lo) (shifted_by_count a.hi k.hi)
    (shifted_by_count a.lo (pos n)) (shifted_by_count a.hi (pos n)) (shifted_by_count x (pos n))
    (counts a.lo)
    (counts a.hi)
    (record { order = inl (numbers a.lo x h.above, numbers x a.hi h.below) })))
  where
    some_same : (u v : ℤ) → Some u ≡ Some v → u ≡ v
    some_same u v f = cc

    counts : (u : ℤ) → Between (shifted_by_count u k.lo) (shifted_by_count u (pos n)) (shifted_by_count u k.hi)
    counts u = between_counts u _ _ _ (count_within-monotone k.lo (pos n) m.above) (count_within-monotone (pos n) k.hi m.below)

    numbers : (u v : ℤ) → u ≤ℤ v → shifted_by_count u (pos n) ≤ℤ shifted_by_count v (pos n)
    numbers u v l = floor_quotient-monotone u v _ (pow_pos _) l

floor_is : (x : ℤ) (d : ℕ) → 0 < d → IsFloor x d (floor_quotient x d)
floor_is (pos n) d p = record { at_most = omega (arith, ints, mod-add-div n d); next_above = omega (arith, ints, mod-add-div n d, mod-lt n p) }
floor_is (negsuc n) d p = record { at_most = omega (arith, ints, mod-add-div n d, mod-lt n p); next_above = omega (arith, ints, mod-add-div n d, mod-lt n p) }

pub shifts_round_down : ShiftsRoundDown
shifts_round_down x z k e = subst (IsFloor x (2 ^ k)) (some_same (floor_quotient x (2 ^ k)) z e) (floor_is x (2 ^ k) (pow_pos k))
  where
    some_same : (u v : ℤ) → Some u ≡ Some v → u ≡ v
    some_same u v f = cc

-- ---- what the code gives

pub powers_of_code : (k : Range) (lo hi : ℤ) → IsRange k → FitsSigned w128 lo → FitsSigned w128 hi → lo ≡ power_of_count k.lo → hi ≡ power_of_count k.hi → IsRange (from_to (to_z w128 (of_z w128 lo)) (to_z w128 (of_z w128 hi)))
powers_of_code k lo hi h p q e f = rw (to_z-of_z w128 lo p, to_z-of_z w128 hi q, e, f) (record { ordered = power_of_count-monotone k.lo k.hi h.ordered })

pub shift_left_of_code : (a k : Range) (lo hi : ℤ) (r : Option Range) → FitsSigned w128 lo → FitsSigned w128 hi → int_lt (pos 126) k.hi ≡ false → lo ≡ power_of_count k.lo → hi ≡ power_of_count k.hi
    → r ≡ product_range a (from_to (to_z w128 (of_z w128 lo)) (to_z w128 (of_z w128 hi))) → r ≡ shift_left_range a k
shift_left_of_code a k lo hi r p q small e f is =
    let t : int_le k.hi (pos 126) ≡ true = grind (arith, ints) in
    rw (is, to_z-of_z w128 lo p, to_z-of_z w128 hi q, e, f, t) refl
