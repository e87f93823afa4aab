-- Bytes of numbers.
use Rattle.std.proofs.Common.{◌≡◌, ℕ, zero, suc, ◌+◌, ◌*◌, ◌/◌, ◌%◌, ◌^◌, ◌<◌, ◌≤◌, ◌⊎◌, ⊎_elim, List, [], ◌∷◌, ◌++◌, length, take, drop, get_or, refl, sym, ap, ◌∙◌, arith, length-drop, pow-suc}
use Rattle.std.proofs.Math.Nat.{div-div-eq-div-mul, div-add-mod, mod-lt}
use Rattle.std.proofs.lemmas.Nat.{mod-mul-add}
use Rattle.std.proofs.lemmas.List.{places, drop-drop, drop-take, take-append-drop, take-take, take_at, drop_at, length-take-le, ext_get_or, get_or-take, get_or-drop}
use Rattle.std.specs.Int.{w64, w128, byte_at, bytes_low_first, to_le_bytes}
use Rattle.raw_seg.specs.Bytes.{number_of, bytes_of, bytes_at, with_bytes}

pub number_of-append : (xs ys : List ℕ) → number_of (xs ++ ys) ≡ number_of xs + 256 ^ length xs * number_of ys
number_of-append [] ys = omega arith
number_of-append (x ∷ xs) ys =
    let rest = number_of-append xs ys in
    let power : 256 ^ suc (length xs) * number_of ys ≡ 256 * (256 ^ length xs * number_of ys) = ap (λ n. n * number_of ys) (pow-suc 256 (length xs)) ∙ moved (256 ^ length xs) (number_of ys) in
    omega (arith, rest, power)
  where
    moved : (p n : ℕ) → p * 256 * n ≡ 256 * (p * n)
    moved p n = omega arith

-- some bytes are their first half and their second
pub bytes_at-add : (bytes : List ℕ) (at n m : ℕ) → bytes_at bytes at (n + m) ≡ bytes_at bytes at n ++ bytes_at bytes (at + n) m
bytes_at-add bytes at n m =
    let rest = take (n + m) (drop at bytes) in
    let le : n ≤ n + m = omega arith in
    sym (take-append-drop n rest) ∙ ap (λ front. front ++ drop n rest) (take-take n (n + m) (drop at bytes) le) ∙ ap (λ back. take n (drop at bytes) ++ back) (drop-take n m (drop at bytes) ∙ ap (take m) (drop-drop n at bytes))

pub halves : (bytes : List ℕ) (at n m power : ℕ) → power ≡ 256 ^ n → at + n ≤ length bytes → number_of (bytes_at bytes at n) + number_of (bytes_at bytes (at + n) m) * power ≡ number_of (bytes_at bytes at (n + m))
halves bytes at n m power is le =
    let size : length (bytes_at bytes at n) ≡ n = length-take-le n (drop at bytes) (omega (arith, length-drop at bytes, le)) in
    let whole = ap number_of (bytes_at-add bytes at n m) ∙ number_of-append (bytes_at bytes at n) (bytes_at bytes (at + n) m) in
    let factor : 256 ^ length (bytes_at bytes at n) * number_of (bytes_at bytes (at + n) m) ≡ power * number_of (bytes_at bytes (at + n) m) = ap (λ k. 256 ^ k * number_of (bytes_at bytes (at + n) m)) size
    ∙ ap (λ p. p * number_of (bytes_at bytes (at + n) m)) (sym is) in
    omega (arith, whole, factor)

-- bytes of a number in two parts, the lower one first
pub bytes_of-add : (n m a b : ℕ) → a < 256 ^ n → bytes_of (n + m) (a + b * 256 ^ n) ≡ bytes_of n a ++ bytes_of m b
bytes_of-add zero m a b lt =
    let none : 0 + m ≡ m = omega arith in
    let whole : a + b * 1 ≡ b = omega (arith, lt) in
    ap (λ k. bytes_of k (a + b * 1)) none ∙ ap (bytes_of m) whole
bytes_of-add (suc n) m a b lt =
    let step : suc n + m ≡ suc (n + m) = omega arith in
    let power = pow-suc 256 n in
    let product : b * 256 ^ suc n ≡ 256 * (b * 256 ^ n) = ap (λ p. b * p) power ∙ moved b (256 ^ n) in
    let low : (a + b * 256 ^ suc n) % 256 ≡ a % 256 = omega (arith, product) in
    let high : (a + b * 256 ^ suc n) / 256 ≡ a / 256 + b * 256 ^ n = omega (arith, product) in
    let small : a / 256 < 256 ^ n = omega (arith, lt, power) in
    ap (λ k. bytes_of k (a + b * 256 ^ suc n)) step ∙ ap (λ d. d ∷ bytes_of (n + m) ((a + b * 256 ^ suc n) / 256)) low ∙ ap (λ x. (a % 256) ∷ bytes_of (n + m) x) high ∙ ap (λ l. (a % 256) ∷ l) (bytes_of-add n m (a / 256) b small)
  where
    moved : (b p : ℕ) → b * (p * 256) ≡ 256 * (b * p)
    moved b p = omega arith

-- what is read in two parts is written again
pub same_bytes : (bytes : List ℕ) (at n m power a b : ℕ) → power ≡ 256 ^ n → a < power → bytes_of n a ≡ bytes_at bytes at n → bytes_of m b ≡ bytes_at bytes (at + n) m → bytes_of (n + m) (a + b * power) ≡ bytes_at bytes at (n + m)
same_bytes bytes at n m power a b is small first second =
    let fits : a < 256 ^ n = omega (arith, is, small) in
    ap (λ p. bytes_of (n + m) (a + b * p)) is ∙ bytes_of-add n m a b fits ∙ ap (λ l. l ++ bytes_of m b) first ∙ ap (λ l. bytes_at bytes at n ++ l) second ∙ sym (bytes_at-add bytes at n m)

-- the bytes that `to_le_bytes` gives, from byte i on
low_first : (i k n : ℕ) → bytes_low_first i k n ≡ bytes_of k (n / 256 ^ i)
low_first i zero n = refl
low_first i (suc k) n =
    let next : n / 256 ^ suc i ≡ n / 256 ^ i / 256 = ap (λ p. n / p) (pow-suc 256 i) ∙ sym (div-div-eq-div-mul n (256 ^ i) 256) in
    ap (λ b. b ∷ bytes_low_first (suc i) k n) (first i n) ∙ ap (λ bs. (n / 256 ^ i % 256) ∷ bs) (low_first (suc i) k n ∙ ap (bytes_of k) next)
  where
    first : (i n : ℕ) → byte_at i n ≡ n / 256 ^ i % 256
    first zero n = let whole : n / 1 ≡ n = omega arith in ap (λ m. m % 256) (sym whole)
    first (suc i) n = refl

pub le_bytes_8 : (n : ℕ) → to_le_bytes w64 n ≡ bytes_of 8 n
le_bytes_8 n = let whole : n / 1 ≡ n = omega arith in low_first 0 8 n ∙ ap (bytes_of 8) whole

pub le_bytes_16 : (n : ℕ) → to_le_bytes w128 n ≡ bytes_of 16 n
le_bytes_16 n = let whole : n / 1 ≡ n = omega arith in low_first 0 16 n ∙ ap (bytes_of 16) whole

pub length-with_bytes : (bytes : List ℕ) (at : ℕ) (new : List ℕ) → at + length new ≤ length bytes → length (with_bytes bytes at new) ≡ length bytes
length-with_bytes bytes at new le = grind (arith, places)

-- what was copied byte by byte
pub copied : (bytes into : List ℕ) (from size : ℕ) → length into ≡ size → from + size ≤ length bytes → ((k : ℕ) → k < size → get_or into k 0 ≡ get_or bytes (from + k) 0) → into ≡ bytes_at bytes from size
copied bytes into from size is le each =
    let long : length (bytes_at bytes from size) ≡ size = length-take-le size (drop from bytes) (omega (arith, length-drop from bytes, le)) in
    ext_get_or 0 into (bytes_at bytes from size) (is ∙ sym long)
    (λ k lt. let below : k < size = omega (arith, lt, is) in each k below ∙ sym (get_or-take size (drop from bytes) k 0 below ∙ get_or-drop from bytes k 0))

pub length-bytes_of : (width n : ℕ) → length (bytes_of width n) ≡ width
length-bytes_of zero n = refl
length-bytes_of (suc width) n = ap suc (length-bytes_of width (n / 256))

-- the number that some of a number's lowest bytes make
pub number_of-bytes_of : (width n : ℕ) → number_of (bytes_of width n) ≡ n % 256 ^ width
number_of-bytes_of zero n = let none : n % 1 ≡ 0 = omega arith in sym none
number_of-bytes_of (suc width) n =
    let rest = number_of-bytes_of width (n / 256) in
    let power = pow-suc 256 width in
    ap (λ r. n % 256 + 256 * r) rest ∙ split (256 ^ width) n (some width) ∙ ap (λ p. n % p) (sym power)
  where
    some : (width : ℕ) → 0 < 256 ^ width
    some zero = omega arith
    some (suc width) = let before = some width in omega (arith, before, pow-suc 256 width)

    split : (q n : ℕ) → 0 < q → n % 256 + 256 * ((n / 256) % q) ≡ n % (q * 256)
    split q n some =
        let low : (n / 256) % q < q = mod-lt (n / 256) some in
        let parts = div-add-mod (n / 256) q in
        let whole : n ≡ n / 256 / q * (q * 256) + (n % 256 + 256 * ((n / 256) % q)) = omega (arith, parts) in
        let small : n % 256 + 256 * ((n / 256) % q) < q * 256 = omega (arith, low) in
        sym (ap (λ m. m % (q * 256)) whole ∙ mod-mul-add (n / 256 / q) (q * 256) (n % 256 + 256 * ((n / 256) % q)) small)

-- what was written is read again
pub bytes_at-with_bytes : (bytes : List ℕ) (at : ℕ) (new : List ℕ) → at ≤ length bytes → bytes_at (with_bytes bytes at new) at (length new) ≡ new
bytes_at-with_bytes bytes at new le =
    let rest = drop (at + length new) bytes in
    ap (take (length new)) (drop_at (take at bytes) (new ++ rest) at (length-take-le at bytes le)) ∙ take_at new rest (length new) refl

-- and each other byte stays
pub get_or-with_bytes_outside : (bytes : List ℕ) (at : ℕ) (new : List ℕ) (k d : ℕ) → at + length new ≤ length bytes → (k < at) ⊎ (at + length new ≤ k) → get_or (with_bytes bytes at new) k d ≡ get_or bytes k d
get_or-with_bytes_outside bytes at new k d le outside = ⊎_elim (λ below. grind (arith, places)) (λ above. grind (arith, places)) outside

pub number_at-stored : (bytes : List ℕ) (at width n : ℕ) → at + width ≤ length bytes → number_of (bytes_at (with_bytes bytes at (bytes_of width n)) at width) ≡ n % 256 ^ width
number_at-stored bytes at width n le =
    let size = length-bytes_of width n in
    ap (λ w. number_of (bytes_at (with_bytes bytes at (bytes_of width n)) at w)) (sym size) ∙ ap number_of (bytes_at-with_bytes bytes at (bytes_of width n) (omega (arith, le))) ∙ number_of-bytes_of width n
