-- The list of live blocks that the numbers of the units stand for.
use Rattle.std.proofs.Common.{◌≡◌, ℕ, zero, suc, ◌+◌, ◌*◌, ◌/◌, ◌%◌, ◌<◌, ◌≤◌, Bool, true, false, cond, not, nat_lt, ◌==◌, List, [], ◌∷◌, ◌++◌, length, get_or, set, refl, ap, sym, ◌∙◌, subst, arith, All, AllPairs, filter}
use Rattle.std.proofs.lemmas.Bool.{lt-ltb, le-ltb, eq-eqb, ne_eqb, not_from_true, not_from_false}
use Rattle.std.proofs.lemmas.List.Elements.{All-nil, All-cons, All-head, All-tail, All-get_or}
use Rattle.std.proofs.lemmas.List.Kept.{AllPairs-cons}
use Rattle.seg_heap.specs.Placement.{Live, Heap, end_of, AreApart, IsStart, with_block, without_block}
use Rattle.seg_heap.specs.Tiles.{blocks_from, heap_of, block_at, AreTiles}

module _ {X : Type 0} where
  filter_all : (p : X → Bool) (xs : List X) → All (λ x. p x ≡ true) xs → filter p xs ≡ xs
  filter_all p [] h = refl
  filter_all p (x ∷ xs) h = ap (λ b. cond b (x ∷ filter p xs) (filter p xs)) (All-head (λ y. p y ≡ true) x xs h) ∙ ap (λ ys. x ∷ ys) (filter_all p xs (All-tail (λ y. p y ≡ true) x xs h))

  filter_none : (p : X → Bool) (xs : List X) → All (λ x. p x ≡ false) xs → filter p xs ≡ []
  filter_none p [] h = refl
  filter_none p (x ∷ xs) h = ap (λ b. cond b (x ∷ filter p xs) (filter p xs)) (All-head (λ y. p y ≡ false) x xs h) ∙ filter_none p xs (All-tail (λ y. p y ≡ false) x xs h)

abbrev placed : ℕ → ℕ → Live
placed unit size = record { place = 16 * unit; length = size }

-- what holds of the block that begins at each unit holds of all, and the other way
pub all_blocks : (P : Live → Type 0) (unit : ℕ) (starts : List ℕ) → ((k at n : ℕ) → at ≡ unit + k → get_or starts k 0 ≡ suc n → P (placed at n)) → All P (blocks_from unit starts)
all_blocks P unit [] h = All-nil P
all_blocks P unit (zero ∷ starts) h = all_blocks P (suc unit) starts (λ k at n is e. h (suc k) at n (omega (arith, is)) e)
all_blocks P unit (suc size ∷ starts) h = All-cons P (placed unit size) (blocks_from (suc unit) starts) (h 0 unit size (omega arith) refl) (all_blocks P (suc unit) starts (λ k at n is e. h (suc k) at n (omega (arith, is)) e))

pub each_block : (P : Live → Type 0) (unit : ℕ) (starts : List ℕ) → All P (blocks_from unit starts) → (k at n : ℕ) → at ≡ unit + k → get_or starts k 0 ≡ suc n → P (placed at n)
each_block P unit [] h k at n is e = absurd (omega (arith, e))
each_block P unit (zero ∷ starts) h zero at n is e = absurd (omega (arith, e))
each_block P unit (zero ∷ starts) h (suc k) at n is e = each_block P (suc unit) starts h k at n (omega (arith, is)) e
each_block P unit (suc size ∷ starts) h zero at n is e =
    let here : unit ≡ at = omega (arith, is) in
    let long : size ≡ n = omega (arith, e) in
    subst (λ z. P (placed z n)) here (subst (λ z. P (placed unit z)) long (All-head P (placed unit size) (blocks_from (suc unit) starts) h))
each_block P unit (suc size ∷ starts) h (suc k) at n is e = each_block P (suc unit) starts (All-tail P (placed unit size) (blocks_from (suc unit) starts) h) k at n (omega (arith, is)) e

pairs_of : (R : Live → Live → Type 0) (unit : ℕ) (starts : List ℕ) → ((i j a b m n : ℕ) → i < j → a ≡ unit + i → b ≡ unit + j → get_or starts i 0 ≡ suc m → get_or starts j 0 ≡ suc n → R (placed a m) (placed b n))
    → AllPairs R (blocks_from unit starts)
pairs_of R unit [] h = λ i j d lt room. absurd (omega (arith, room))
pairs_of R unit (zero ∷ starts) h = pairs_of R (suc unit) starts (λ i j a b m n lt x y e f. h (suc i) (suc j) a b m n (omega (arith, lt)) (omega (arith, x)) (omega (arith, y)) e f)
pairs_of R unit (suc size ∷ starts) h =
    AllPairs-cons R (placed unit size) (blocks_from (suc unit) starts)
    (all_blocks (R (placed unit size)) (suc unit) starts (λ k at n is e. h 0 (suc k) unit at size n (omega arith) (omega arith) (omega (arith, is)) refl e))
    (pairs_of R (suc unit) starts (λ i j a b m n lt x y e f. h (suc i) (suc j) a b m n (omega (arith, lt)) (omega (arith, x)) (omega (arith, y)) e f))

-- one block more
more_blocks : (unit at : ℕ) (starts : List ℕ) (k n : ℕ) → at ≡ unit + k → k < length starts → get_or starts k 0 ≡ 0
    → blocks_from unit (set starts k (suc n)) ≡ filter (λ b. nat_lt b.place (16 * at)) (blocks_from unit starts) ++ (placed at n ∷ filter (λ b. nat_lt (16 * at) b.place) (blocks_from unit starts))
more_blocks unit at [] k n is lt e = absurd (omega (arith, lt))
more_blocks unit at (zero ∷ starts) zero n is lt e =
    let rest = blocks_from (suc unit) starts in
    let here : unit ≡ at = omega (arith, is) in
    let none : filter (λ b. nat_lt b.place (16 * at)) rest ≡ [] =
    filter_none (λ b. nat_lt b.place (16 * at)) rest (all_blocks (λ b. nat_lt b.place (16 * at) ≡ false) (suc unit) starts (λ i z m x y. le-ltb (16 * z) (16 * at) (omega (arith, x, here)))) in
    let all : filter (λ b. nat_lt (16 * at) b.place) rest ≡ rest =
    filter_all (λ b. nat_lt (16 * at) b.place) rest (all_blocks (λ b. nat_lt (16 * at) b.place ≡ true) (suc unit) starts (λ i z m x y. lt-ltb (16 * at) (16 * z) (omega (arith, x, here)))) in
    ap (λ z. placed z n ∷ rest) here ∙ ap (λ l. placed at n ∷ l) (sym all) ∙ ap (λ l. l ++ (placed at n ∷ filter (λ b. nat_lt (16 * at) b.place) rest)) (sym none)
more_blocks unit at (suc size ∷ starts) zero n is lt e = absurd (omega (arith, e))
more_blocks unit at (zero ∷ starts) (suc k) n is lt e = more_blocks (suc unit) at starts k n (omega (arith, is)) (omega (arith, lt)) e
more_blocks unit at (suc size ∷ starts) (suc k) n is lt e =
    let rest = blocks_from (suc unit) starts in
    let low = filter (λ b. nat_lt b.place (16 * at)) rest in
    let high = filter (λ b. nat_lt (16 * at) b.place) rest in
    let first : Live = placed unit size in
    let before : nat_lt (16 * unit) (16 * at) ≡ true = lt-ltb (16 * unit) (16 * at) (omega (arith, is)) in
    let behind : nat_lt (16 * at) (16 * unit) ≡ false = le-ltb (16 * at) (16 * unit) (omega (arith, is)) in
    ap (λ l. first ∷ l) (more_blocks (suc unit) at starts k n (omega (arith, is)) (omega (arith, lt)) e)
    ∙ sym (ap (λ b. cond b (first ∷ low) low ++ (placed at n ∷ cond (nat_lt (16 * at) (16 * unit)) (first ∷ high) high)) before
    ∙ ap (λ b. (first ∷ low) ++ (placed at n ∷ cond b (first ∷ high) high)) behind)

-- the blocks behind a unit begin elsewhere
others_stay : (unit at : ℕ) (starts : List ℕ) → at ≡ unit + 0 → filter (λ b. not (b.place == (16 * at))) (blocks_from (suc unit) starts) ≡ blocks_from (suc unit) starts
others_stay unit at starts is =
    filter_all (λ b. not (b.place == (16 * at))) (blocks_from (suc unit) starts)
    (all_blocks (λ b. not (b.place == (16 * at)) ≡ true) (suc unit) starts (λ i z m x y. not_from_false _ (ne_eqb (16 * z) (16 * at) (λ f. omega (arith, x, is, f)))))

-- one fewer
fewer_blocks : (unit at : ℕ) (starts : List ℕ) (k : ℕ) → at ≡ unit + k → blocks_from unit (set starts k 0) ≡ filter (λ b. not (b.place == (16 * at))) (blocks_from unit starts)
fewer_blocks unit at [] k is = refl
fewer_blocks unit at (zero ∷ starts) zero is = sym (others_stay unit at starts is)
fewer_blocks unit at (suc size ∷ starts) zero is =
    let rest = blocks_from (suc unit) starts in
    let kept = filter (λ b. not (b.place == (16 * at))) rest in
    let gone : not ((16 * unit) == (16 * at)) ≡ false = not_from_true _ (eq-eqb (16 * unit) (16 * at) (omega (arith, is))) in
    sym (others_stay unit at starts is) ∙ sym (ap (λ b. cond b (placed unit size ∷ kept) kept) gone)
fewer_blocks unit at (zero ∷ starts) (suc k) is = fewer_blocks (suc unit) at starts k (omega (arith, is))
fewer_blocks unit at (suc size ∷ starts) (suc k) is =
    let rest = blocks_from (suc unit) starts in
    let kept = filter (λ b. not (b.place == (16 * at))) rest in
    let stays : not ((16 * unit) == (16 * at)) ≡ true = not_from_false _ (ne_eqb (16 * unit) (16 * at) (λ f. omega (arith, is, f))) in
    ap (λ l. placed unit size ∷ l) (fewer_blocks (suc unit) at starts k (omega (arith, is))) ∙ sym (ap (λ b. cond b (placed unit size ∷ kept) kept) stays)

pub with_block_is : (units unit n : ℕ) (starts : List ℕ) → unit < length starts → get_or starts unit 0 ≡ 0 → heap_of units (set starts unit (suc n)) ≡ with_block (heap_of units starts) (16 * unit) n
with_block_is units unit n starts lt e = let make : List Live → Heap = λ l. record { units = units; live = l } in ap make (more_blocks 0 unit starts unit n (omega arith) lt e)

pub without_block_is : (units unit : ℕ) (starts : List ℕ) → heap_of units (set starts unit 0) ≡ without_block (heap_of units starts) (16 * unit)
without_block_is units unit starts = let make : List Live → Heap = λ l. record { units = units; live = l } in ap make (fewer_blocks 0 unit starts unit (omega arith))

-- where a block begins
pub record IsBegun (starts : List ℕ) (place : ℕ) : Type 0 where
  pub unit : ℕ
  pub size : ℕ
  pub is : get_or starts unit 0 ≡ suc size
  pub place_is : place ≡ 16 * unit

pub begun : (units place : ℕ) (starts : List ℕ) → IsStart (heap_of units starts) place → IsBegun starts place
begun units place starts start =
    let all : All (λ b. IsBegun starts b.place) (blocks_from 0 starts) = all_blocks (λ b. IsBegun starts b.place) 0 starts (λ k at n is e. record { unit = k; size = n; is = e; place_is = omega (arith, is) }) in
    subst (IsBegun starts) start.4 (subst (λ b. IsBegun starts b.place) start.3 (All-get_or (λ b. IsBegun starts b.place) (blocks_from 0 starts) start.0 start.1 start.2 all))

pub blocks_apart : (units : ℕ) (starts : List ℕ) (gap : ℕ → ℕ) → AreTiles units (block_at starts) gap → AreApart (heap_of units starts)
blocks_apart units starts gap tiles = record {
  apart = pairs_of (λ b later. end_of b ≤ later.place) 0 starts
      (λ i j a b m n lt x y e f. let far : i + (get_or starts i 0 + 15) / 16 + gap i ≤ j = tiles.apart i j lt (omega (arith, f)) in omega (arith, far, e, x, y));
  aligned = all_blocks (λ b. b.place % 16 ≡ 0) 0 starts (λ k at n is e. omega arith);
  within = all_blocks (λ b. end_of b ≤ 16 * units) 0 starts (λ k at n is e. let low : k + (get_or starts k 0 + 15) / 16 + gap k ≤ units = tiles.within k (omega (arith, e)) in omega (arith, low, e, is));
}
