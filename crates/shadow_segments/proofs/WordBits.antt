-- Bits of words, and masks.
use Rattle.std.proofs.Common.{◌≡◌, ℕ, zero, suc, ◌+◌, ◌-◌, ◌*◌, ◌/◌, ◌%◌, ◌^◌, ◌<◌, ◌≤◌, ◌⊎◌, inl, inr, ⊎_elim, min, bit_and, sym, ap, ◌∙◌, arith, pow-add}
use Rattle.std.proofs.Math.Nat.{div-div-eq-div-mul, mod-eq_of_lt, mul-le-mul}
use Rattle.std.proofs.Math.Pow.{pow_mono, pow_pos}
use Rattle.std.specs.Int.{bit_at}
use Rattle.std.proofs.lemmas.Nat.Bits.{bit_at_and, bit_at-lt, same_from_bits, bit_at_mask_inside, bit_at_mask_below, bit_at_mask_above, bit_at-zero, bit_at_above, bit_at_cat_low, bit_at_cat_high}
use Rattle.std.proofs.lemmas.Bool.{cases_lt}
use Rattle.shadow_segments.specs.Words.{ones}

pub bit_at_ones : (from to i : ℕ) → from ≤ i → i < to → bit_at (ones from to) i ≡ 1
bit_at_ones from to i lo hi = bit_at_mask_inside from to i lo hi

pub bit_at_ones_out : (from to i : ℕ) → (i < from) ⊎ (to ≤ i) → bit_at (ones from to) i ≡ 0
bit_at_ones_out from to i out = ⊎_elim (λ b. bit_at_mask_below from to i b) (λ a. bit_at_mask_above from to i a) out

-- all of them are set
pub all_set : (x from to : ℕ) → bit_and x (ones from to) ≡ ones from to → (i : ℕ) → from ≤ i → i < to → bit_at x i ≡ 1
all_set x from to e i lo hi =
    let one = bit_at_ones from to i lo hi in
    let both : min (bit_at x i) (bit_at (ones from to) i) ≡ bit_at (ones from to) i = sym (bit_at_and x (ones from to) i) ∙ ap (λ z. bit_at z i) e in
    let small = bit_at-lt x i in
    let one_of : min (bit_at x i) 1 ≡ 1 = ap (λ z. min (bit_at x i) z) (sym one) ∙ both ∙ one in
    omega (arith, one_of, small)

pub set_all : (x from to : ℕ) → ((i : ℕ) → from ≤ i → i < to → bit_at x i ≡ 1) → bit_and x (ones from to) ≡ ones from to
set_all x from to each = same_from_bits (bit_and x (ones from to)) (ones from to) (λ i. bit_at_and x (ones from to) i ∙ at i (cases_lt i from) (cases_lt i to))
  where
    out : (i : ℕ) → (i < from) ⊎ (to ≤ i) → min (bit_at x i) (bit_at (ones from to) i) ≡ bit_at (ones from to) i
    out i o = let z = bit_at_ones_out from to i o in omega (arith, z)

    at : (i : ℕ) → (i < from) ⊎ (from ≤ i) → (i < to) ⊎ (to ≤ i) → min (bit_at x i) (bit_at (ones from to) i) ≡ bit_at (ones from to) i
    at i (inl b) h = out i (inl b)
    at i (inr a) (inr c) = out i (inr c)
    at i (inr a) (inl b) = let one = bit_at_ones from to i a b in let x_one = each i a b in omega (arith, one, x_one)

-- none of them is set
pub none_set : (x from to : ℕ) → bit_and x (ones from to) ≡ 0 → (i : ℕ) → from ≤ i → i < to → bit_at x i ≡ 0
none_set x from to e i lo hi =
    let one = bit_at_ones from to i lo hi in
    let both : min (bit_at x i) (bit_at (ones from to) i) ≡ bit_at 0 i = sym (bit_at_and x (ones from to) i) ∙ ap (λ z. bit_at z i) e in
    let none = bit_at-zero i in
    omega (arith, one, both, none)

pub set_none : (x from to : ℕ) → ((i : ℕ) → from ≤ i → i < to → bit_at x i ≡ 0) → bit_and x (ones from to) ≡ 0
set_none x from to each = same_from_bits (bit_and x (ones from to)) 0 (λ i. bit_at_and x (ones from to) i ∙ at i (cases_lt i from) (cases_lt i to) ∙ sym (bit_at-zero i))
  where
    out : (i : ℕ) → (i < from) ⊎ (to ≤ i) → min (bit_at x i) (bit_at (ones from to) i) ≡ 0
    out i o = let z = bit_at_ones_out from to i o in omega (arith, z)

    at : (i : ℕ) → (i < from) ⊎ (from ≤ i) → (i < to) ⊎ (to ≤ i) → min (bit_at x i) (bit_at (ones from to) i) ≡ 0
    at i (inl b) h = out i (inl b)
    at i (inr a) (inr c) = out i (inr c)
    at i (inr a) (inl b) = let none = each i a b in omega (arith, none)

-- ---- shifted words

-- the bits of a word that is shifted to the right
pub bit_at_shift : (n k i : ℕ) → bit_at (n / 2 ^ k) i ≡ bit_at n (k + i)
bit_at_shift n k i = ap (λ z. z % 2) (div-div-eq-div-mul n (2 ^ k) (2 ^ i) ∙ ap (λ p. n / p) (sym (pow-add 2 k i)))

bit_from : (x from i : ℕ) → from ≤ i → bit_at (x / 2 ^ from) (i - from) ≡ bit_at x i
bit_from x from i lo = let back : from + (i - from) ≡ i = omega (arith, lo) in bit_at_shift x from (i - from) ∙ ap (bit_at x) back

pub all_set_from : (x from k : ℕ) → bit_and (x / 2 ^ from) (ones 0 k) ≡ ones 0 k → (i : ℕ) → from ≤ i → i < from + k → bit_at x i ≡ 1
all_set_from x from k e i lo hi = sym (bit_from x from i lo) ∙ all_set (x / 2 ^ from) 0 k e (i - from) (omega arith) (omega (arith, lo, hi))

pub set_all_from : (x from k : ℕ) → ((i : ℕ) → from ≤ i → i < from + k → bit_at x i ≡ 1) → bit_and (x / 2 ^ from) (ones 0 k) ≡ ones 0 k
set_all_from x from k each = set_all (x / 2 ^ from) 0 k (λ i lo hi. bit_at_shift x from i ∙ each (from + i) (omega arith) (omega (arith, hi)))

pub none_set_from : (x from k : ℕ) → bit_and (x / 2 ^ from) (ones 0 k) ≡ 0 → (i : ℕ) → from ≤ i → i < from + k → bit_at x i ≡ 0
none_set_from x from k e i lo hi = sym (bit_from x from i lo) ∙ none_set (x / 2 ^ from) 0 k e (i - from) (omega arith) (omega (arith, lo, hi))

pub set_none_from : (x from k : ℕ) → ((i : ℕ) → from ≤ i → i < from + k → bit_at x i ≡ 0) → bit_and (x / 2 ^ from) (ones 0 k) ≡ 0
set_none_from x from k each = set_none (x / 2 ^ from) 0 k (λ i lo hi. bit_at_shift x from i ∙ each (from + i) (omega arith) (omega (arith, hi)))

-- ---- masks as they are computed

pub high_ones : (from to : ℕ) → ones from to * 65536 ≡ ones (16 + from) (16 + to)
high_ones from to =
    let a = pow-add 2 16 from in
    let b = pow-add 2 16 to in
    omega (arith, a, b)

pub ones_small : (from to : ℕ) → to ≤ 32 → ones from to < 2 ^ 64
ones_small from to le = let m : 2 ^ to ≤ 2 ^ 32 = pow_mono le in omega (arith, m)

-- `1 << k`
pub shl_one : (k : ℕ) → k ≤ 16 → 1 * 2 ^ k % 2 ^ 64 ≡ 2 ^ k
shl_one k le = let m : 2 ^ k ≤ 2 ^ 16 = pow_mono le in omega (arith, m)

pub one_below : (k : ℕ) → k ≤ 16 → 1 ≤ 1 * 2 ^ k % 2 ^ 64
one_below k le = let some : 0 < 2 ^ k = pow_pos k in omega (arith, some, shl_one k le)

less_one : (p q : ℕ) → 0 < p → (p - 1) * q ≡ p * q - q
less_one zero q lt = absurd (omega (arith, lt))
less_one (suc p) q lt = let e : suc p - 1 ≡ p = omega arith in ap (λ z. z * q) e ∙ omega arith

pub shifted_ones : (from to : ℕ) → from ≤ to → to ≤ 16 → (1 * 2 ^ (to - from) % 2 ^ 64 - 1) * 2 ^ from % 2 ^ 64 ≡ ones from to
shifted_ones from to order small =
    let k = to - from in
    let low : k ≤ 16 = omega (arith, small) in
    let some : 0 < 2 ^ (to - from) = pow_pos (to - from) in
    let back : to - from + from ≡ to = omega (arith, order) in
    let product : 2 ^ (to - from) * 2 ^ from ≡ 2 ^ to = sym (pow-add 2 (to - from) from) ∙ ap (λ n. 2 ^ n) back in
    let m : 2 ^ to ≤ 2 ^ 16 = pow_mono small in
    let whole : (2 ^ (to - from) - 1) * 2 ^ from ≡ ones from to = less_one (2 ^ (to - from)) (2 ^ from) some ∙ ap (λ p. p - 2 ^ from) product in
    let fits : ones from to < 2 ^ 64 = omega (arith, m) in
    ap (λ p. (p - 1) * 2 ^ from % 2 ^ 64) (shl_one (to - from) low) ∙ ap (λ p. p % 2 ^ 64) whole ∙ mod-eq_of_lt fits

-- `a << k`
shl_whole : (a k : ℕ) → a < 2 ^ 16 → k ≤ 32 → a * 2 ^ k % 2 ^ 64 ≡ a * 2 ^ k
shl_whole a k small le =
    let m : 2 ^ k ≤ 2 ^ 32 = pow_mono le in
    let most : a ≤ 2 ^ 16 = omega (arith, small) in
    let below : a * 2 ^ k ≤ 2 ^ 16 * 2 ^ 32 = mul-le-mul most m in
    mod-eq_of_lt (omega (arith, below))

pub shl_below : (a k j : ℕ) → a < 2 ^ 16 → k ≤ 32 → j < k → bit_at (a * 2 ^ k % 2 ^ 64) j ≡ 0
shl_below a k j small le lt =
    let zero_more : a * 2 ^ k % 2 ^ 64 ≡ a * 2 ^ k + 0 = shl_whole a k small le ∙ omega arith in
    ap (λ m. bit_at m j) zero_more ∙ bit_at_cat_low a k 0 j lt ∙ bit_at-zero j

pub shl_above : (a k i j : ℕ) → a < 2 ^ 16 → k ≤ 32 → j ≡ k + i → bit_at (a * 2 ^ k % 2 ^ 64) j ≡ bit_at a i
shl_above a k i j small le at =
    let zero_more : a * 2 ^ k % 2 ^ 64 ≡ a * 2 ^ k + 0 = shl_whole a k small le ∙ omega arith in
    let back : j - k ≡ i = omega (arith, at) in
    let some : 0 < 2 ^ k = pow_pos k in
    ap (λ m. bit_at m j) zero_more ∙ bit_at_cat_high a k 0 j some (omega (arith, at)) ∙ ap (bit_at a) back

-- a number without bits from 64 on
pub or_small : (x : ℕ) → ((j : ℕ) → 64 ≤ j → bit_at x j ≡ 0) → x < 2 ^ 64
or_small x none =
    let same : x ≡ x % 2 ^ 64 = same_from_bits x (x % 2 ^ 64) (λ j. at j (cases_lt j 64)) in
    let low : x % 2 ^ 64 < 2 ^ 64 = omega arith in
    omega (arith, same, low)
  where
    at : (j : ℕ) → (j < 64) ⊎ (64 ≤ j) → bit_at x j ≡ bit_at (x % 2 ^ 64) j
    at j (inl lt) = let whole : x ≡ x / 2 ^ 64 * 2 ^ 64 + x % 2 ^ 64 = omega arith in ap (λ z. bit_at z j) whole ∙ bit_at_cat_low (x / 2 ^ 64) 64 (x % 2 ^ 64) j lt
    at j (inr le) = let small : x % 2 ^ 64 < 2 ^ 64 = omega arith in none j le ∙ sym (bit_at_above (x % 2 ^ 64) 64 j small le)
