-- The first gap that is long enough is the least place.
use Rattle.std.proofs.Common.{◌≡◌, ℕ, zero, suc, ◌+◌, ◌*◌, ◌/◌, ◌<◌, ◌≤◌, ◌⊎◌, inl, inr, ⊎_elim, List, get_or, refl, ap, arith}
use Rattle.std.proofs.lemmas.Bool.{cases_lt, cases_order}
use Rattle.seg_heap.specs.Placement.{rounded_size, end_of, IsFree, IsLeastPlace}
use Rattle.seg_heap.specs.Tiles.{heap_of, block_at, gap_at, IsHeld, AreTiles}
use Rattle.seg_heap.proofs.Starts.{all_blocks, each_block}

-- a number is 0 or one more than another
data Number (n : ℕ) : Type 0 where
  None : n ≡ 0 → Number n
  More : (m : ℕ) → n ≡ suc m → Number n

number : (n : ℕ) → Number n
number zero = None refl
number (suc m) = More m refl

module _ (units length : ℕ) (starts gaps : List ℕ) (tiles : AreTiles units (block_at starts) (gap_at gaps)) where
  pub fits_here : (s : ℕ) → length / 16 + 1 ≤ get_or gaps s 0 → IsFree (heap_of units starts) length (16 * s)
  fits_here s fits = record {
    aligned = omega arith;
    clear = all_blocks (λ b. (16 * s + rounded_size length ≤ b.place) ⊎ (end_of b ≤ 16 * s)) 0 starts (λ k at n is e. clear k at n is e (cases_order k s));
    within = (let far : s + (get_or starts s 0 + 15) / 16 + get_or gaps s 0 ≤ units = tiles.within s (omega (arith, fits)) in omega (arith, far, fits));
  }
    where
      clear : (k at n : ℕ) → at ≡ 0 + k → get_or starts k 0 ≡ suc n → (k ≡ s) ⊎ ((k < s) ⊎ (s < k)) → (16 * s + rounded_size length ≤ 16 * at) ⊎ (16 * at + rounded_size n ≤ 16 * s)
      clear k at n is e (inl here) =
          absurd (let x = ap (λ z. get_or gaps z 0) here in let none : get_or gaps k 0 ≡ 0 = tiles.kind k (omega (arith, e)) in omega (arith, x, none, fits))
      clear k at n is e (inr (inl low)) = inr (let far : k + (get_or starts k 0 + 15) / 16 + get_or gaps k 0 ≤ s = tiles.apart k s low (omega (arith, fits)) in omega (arith, far, e, is))
      clear k at n is e (inr (inr high)) = inl (let far : s + (get_or starts s 0 + 15) / 16 + get_or gaps s 0 ≤ k = tiles.apart s k high (omega (arith, e)) in omega (arith, far, fits, is))

  module _ (place : ℕ) (free : IsFree (heap_of units starts) length place) where
    -- a block that holds the first unit
    in_block : (t n : ℕ) → get_or starts t 0 ≡ suc n → t ≤ place / 16 → place / 16 < t + (get_or starts t 0 + 15) / 16 + 0 → ⊥
    in_block t n e from to =
        ⊎_elim (λ a. omega (arith, a, from, free.aligned)) (λ b. omega (arith, b, to, e, free.aligned))
        (each_block (λ b. (place + rounded_size length ≤ b.place) ⊎ (end_of b ≤ place)) 0 starts free.clear t t n (omega arith) e)

    -- a block behind the gap that holds it
    behind_gap : (t n : ℕ) → get_or starts t 0 ≡ suc n → place / 16 < t → t < place / 16 + length / 16 + 1 → ⊥
    behind_gap t n e from to =
        ⊎_elim (λ a. omega (arith, a, to, free.aligned)) (λ b. omega (arith, b, from, e, free.aligned))
        (each_block (λ b. (place + rounded_size length ≤ b.place) ⊎ (end_of b ≤ place)) 0 starts free.clear t t n (omega arith) e)

    -- what begins where a gap ends begins there
    begins : (t : ℕ) → 0 < get_or gaps t 0 → get_or starts t 0 ≡ 0 → (k : IsHeld (block_at starts) (gap_at gaps) (t + get_or gaps t 0)) → k.start ≡ t + get_or gaps t 0
    begins t one none k = order (cases_lt k.start (t + get_or gaps t 0))
      where
        from : k.start ≤ t + get_or gaps t 0
        from = k.from

        to : t + get_or gaps t 0 < k.start + (get_or starts k.start 0 + 15) / 16 + get_or gaps k.start 0
        to = k.to

        low : k.start < t + get_or gaps t 0 → (k.start ≡ t) ⊎ ((k.start < t) ⊎ (t < k.start)) → ⊥
        low lt (inl e) = let x = ap (λ z. get_or gaps z 0) e in let y = ap (λ z. get_or starts z 0) e in omega (arith, x, y, none, to, e)
        low lt (inr (inl a)) = let far : k.start + (get_or starts k.start 0 + 15) / 16 + get_or gaps k.start 0 ≤ t = tiles.apart k.start t a (omega (arith, one)) in omega (arith, far, to)
        low lt (inr (inr b)) = let far : t + (get_or starts t 0 + 15) / 16 + get_or gaps t 0 ≤ k.start = tiles.apart t k.start b (omega (arith, to, from)) in omega (arith, far, lt)

        order : (k.start < t + get_or gaps t 0) ⊎ (t + get_or gaps t 0 ≤ k.start) → k.start ≡ t + get_or gaps t 0
        order (inl lt) = absurd (low lt (cases_order k.start t))
        order (inr ge) = omega (arith, ge, from)

    next : (t : ℕ) → 0 < get_or gaps t 0 → get_or starts t 0 ≡ 0 → place / 16 < t + get_or gaps t 0 → t + get_or gaps t 0 < place / 16 + length / 16 + 1 → (k : IsHeld (block_at starts) (gap_at gaps) (t + get_or gaps t 0))
        → Number (get_or starts k.start 0) → ⊥
    next t one none from to k (None zero_here) =
        let same = begins t one none k in
        let widest : get_or gaps (t + get_or gaps t 0) 0 ≡ 0 = tiles.widest t one in
        let x = ap (λ z. get_or gaps z 0) same in
        let holds : t + get_or gaps t 0 < k.start + (get_or starts k.start 0 + 15) / 16 + get_or gaps k.start 0 = k.to in
        omega (arith, same, widest, x, holds, zero_here)
    next t one none from to k (More n e) = let same = begins t one none k in behind_gap k.start n e (omega (arith, same, from)) (omega (arith, same, to))

    short : (s : ℕ) → ((unit : ℕ) → unit < s → get_or gaps unit 0 < length / 16 + 1) → place / 16 < s → (k : IsHeld (block_at starts) (gap_at gaps) (place / 16)) → Number (get_or starts k.start 0) → ⊥
    short s less lt k (More n e) =
        let from = k.from in
        let to : place / 16 < k.start + (get_or starts k.start 0 + 15) / 16 + get_or gaps k.start 0 = k.to in
        let none : get_or gaps k.start 0 ≡ 0 = tiles.kind k.start (omega (arith, e)) in
        in_block k.start n e from (omega (arith, to, none))
    short s less lt k (None e) =
        let from = k.from in
        let to : place / 16 < k.start + (get_or starts k.start 0 + 15) / 16 + get_or gaps k.start 0 = k.to in
        let small = less k.start (omega (arith, from, lt)) in
        let one : 0 < get_or gaps k.start 0 = omega (arith, to, from, e) in
        let inside : k.start + get_or gaps k.start 0 < units = omega (arith, from, small, free.within, free.aligned) in
        let held = tiles.whole (k.start + get_or gaps k.start 0) inside in
        next k.start one e (omega (arith, to, e)) (omega (arith, from, small)) held (number (get_or starts held.start 0))

    pub too_early : (s : ℕ) → ((unit : ℕ) → unit < s → get_or gaps unit 0 < length / 16 + 1) → place / 16 < s → ⊥
    too_early s less lt = let held = tiles.whole (place / 16) (omega (arith, free.within, free.aligned)) in short s less lt held (number (get_or starts held.start 0))

  pub least_place : (s : ℕ) → length / 16 + 1 ≤ get_or gaps s 0 → ((unit : ℕ) → unit < s → get_or gaps unit 0 < length / 16 + 1) → IsLeastPlace (heap_of units starts) length (16 * s)
  least_place s fits less = record {
    free = fits_here s fits;
    least = λ other free. ⊎_elim (λ lt. absurd (too_early other free s less lt)) (λ ge. omega (arith, ge)) (cases_lt (other / 16) s);
  }

  pub no_place : ((unit : ℕ) → get_or gaps unit 0 < length / 16 + 1) → (place : ℕ) → IsFree (heap_of units starts) length place → ⊥
  no_place less place free = too_early place free (place / 16 + 1) (λ unit lt. less unit) (omega arith)
