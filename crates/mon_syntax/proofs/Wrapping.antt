-- Wrapped values: each is a value of its type, and differs from what it was by a multiple of 2 to the bits of the type.
use Rattle.std.proofs.Common.{◌≡◌, ℕ, suc, ◌+◌, ◌-◌, ◌*◌, ◌/◌, ◌^◌, ◌<◌, ◌≤◌, ℤ, pos, negsuc, ◌+ℤ◌, Bool, true, false, nat_lt, ◌&&◌, int_le, unsigned_abs, refl, ap, arith}
use Rattle.std.proofs.lemmas.Bool.{ltb-true, ltb-false}
use Rattle.std.proofs.lemmas.Int.{ints}
use Rattle.std.proofs.Math.Nat.{mod-add-div, mod-lt, mul-le-mul_right}
use Rattle.std.specs.Int.{int_rem_euclid}
use Rattle.mon_syntax.specs.declared.tree.MonType.{MonType}
use Rattle.mon_syntax.specs.declared.tree.MonType.TheVariants.{I8, U8, I16, U16, I32, U32, I64, U64, I128, Ptr}
use Rattle.mon_syntax.specs.Arithmetic.{bit_count, least, greatest, fits, wrap}
use Rattle.mon_syntax.specs.Laws.{AreCongruent}

-- ---- remainders

-- the remainder of z by n, from 0
abbrev remainder : ℤ → ℕ → ℕ
remainder z n = unsigned_abs (int_rem_euclid z (pos n))

remainder-lt : (z : ℤ) (n : ℕ) → 0 < n → remainder z n < n
remainder-lt (pos a) n p = mod-lt a p
remainder-lt (negsuc a) n p = omega (arith, mod-lt a p, p)

remainder_congruent : (z : ℤ) (n : ℕ) → 0 < n → AreCongruent n (pos (remainder z n)) z
remainder_congruent (pos a) n p = record { first = a / n; second = 0; is = omega (arith, ints, mod-add-div a n) }
remainder_congruent (negsuc a) n p = record { first = 0; second = a / n + 1; is = omega (arith, ints, mod-add-div a n, mod-lt a p) }

congruent_trans : (n : ℕ) (a b c : ℤ) → AreCongruent n a b → AreCongruent n b c → AreCongruent n a c
congruent_trans n a b c h g = record { first = h.first + g.first; second = h.second + g.second; is = omega (arith, ints, h.is, g.is) }

-- ---- signed types

-- the bits m, read as a signed value: there are so many values from 0 on as below 0
signed_congruent : (g m : ℕ) (v : ℤ) → (nat_lt m (suc g) ≡ true → v ≡ pos m) → (nat_lt m (suc g) ≡ false → v ≡ negsuc (suc g + suc g - suc m)) → m < suc g + suc g → AreCongruent (suc g + suc g) v (pos m)
signed_congruent g m v low high l = by (nat_lt m (suc g)) refl
  where
    by : (t : Bool) → nat_lt m (suc g) ≡ t → AreCongruent (suc g + suc g) v (pos m)
    by true e = let is = low e in record { first = 0; second = 0; is = omega (arith, ints) }
    by false e = let is = high e in record { first = 1; second = 0; is = omega (arith, ints) }

signed_fits : (g m : ℕ) (v : ℤ) → (nat_lt m (suc g) ≡ true → v ≡ pos m) → (nat_lt m (suc g) ≡ false → v ≡ negsuc (suc g + suc g - suc m)) → m < suc g + suc g → int_le (negsuc g) v && int_le v (pos g) ≡ true
signed_fits g m v low high l = by (nat_lt m (suc g)) refl
  where
    by : (t : Bool) → nat_lt m (suc g) ≡ t → int_le (negsuc g) v && int_le v (pos g) ≡ true
    by true e = let is = low e in grind (arith, ints)
    by false e = let is = high e in grind (arith, ints)

-- ---- types

-- a value in the range, congruent to z
abbrev IsWrapped : ℕ → ℤ → ℤ → ℤ → ℤ → Type 0
IsWrapped n lo hi z v = (int_le lo v && int_le v hi ≡ true) × AreCongruent n v z

signed_wrapped : (g : ℕ) (z v : ℤ) → (nat_lt (remainder z (suc g + suc g)) (suc g) ≡ true → v ≡ pos (remainder z (suc g + suc g)))
    → (nat_lt (remainder z (suc g + suc g)) (suc g) ≡ false → v ≡ negsuc (suc g + suc g - suc (remainder z (suc g + suc g)))) → IsWrapped (suc g + suc g) (negsuc g) (pos g) z v
signed_wrapped g z v low high =
    let n = suc g + suc g in
    let m = remainder z n in
    let less = remainder-lt z n (omega arith) in
    (signed_fits g m v low high less, congruent_trans n v (pos m) z (signed_congruent g m v low high less) (remainder_congruent z n (omega arith)))

unsigned_wrapped : (g : ℕ) (z : ℤ) → IsWrapped (suc g) (pos 0) (pos g) z (pos (remainder z (suc g)))
unsigned_wrapped g z = (below (remainder z (suc g)) (remainder-lt z (suc g) (omega arith)), remainder_congruent z (suc g) (omega arith))
  where
    below : (m : ℕ) → m < suc g → int_le (pos 0) (pos m) && int_le (pos m) (pos g) ≡ true
    below m l = grind (arith, ints)

wrapped : (t : MonType) (z : ℤ) → IsWrapped (2 ^ bit_count t) (least t) (greatest t) z (wrap t z)
wrapped I8 z = signed_wrapped 127 z (wrap I8 z) (λ e. rw e refl) (λ e. rw e refl)
wrapped U8 z = unsigned_wrapped 255 z
wrapped I16 z = signed_wrapped 32767 z (wrap I16 z) (λ e. rw e refl) (λ e. rw e refl)
wrapped U16 z = unsigned_wrapped 65535 z
wrapped I32 z = signed_wrapped 2147483647 z (wrap I32 z) (λ e. rw e refl) (λ e. rw e refl)
wrapped U32 z = unsigned_wrapped 4294967295 z
wrapped I64 z = signed_wrapped 9223372036854775807 z (wrap I64 z) (λ e. rw e refl) (λ e. rw e refl)
wrapped U64 z = unsigned_wrapped 18446744073709551615 z
wrapped I128 z = signed_wrapped 170141183460469231731687303715884105727 z (wrap I128 z) (λ e. rw e refl) (λ e. rw e refl)
wrapped Ptr z = unsigned_wrapped 18446744073709551615 z

pub wrap_fits : (t : MonType) (z : ℤ) → fits t (wrap t z) ≡ true
wrap_fits t z = (wrapped t z).0

pub wrap_congruent : (t : MonType) (z : ℤ) → AreCongruent (2 ^ bit_count t) (wrap t z) z
wrap_congruent t z = (wrapped t z).1

-- ---- values that stay

both : (s t : Bool) → s && t ≡ true → (s ≡ true) × (t ≡ true)
both true t e = (refl, e)
both false t e = absurd cc

-- of the numbers from lo to hi, as many as n, no two are congruent
unique : (n : ℕ) (lo hi a b : ℤ) → hi +ℤ pos 1 ≡ lo +ℤ pos n → int_le lo a && int_le a hi ≡ true → int_le lo b && int_le b hi ≡ true → AreCongruent n a b → a ≡ b
unique n lo hi a b size fa fb c =
    let a_in = both (int_le lo a) (int_le a hi) fa in
    let b_in = both (int_le lo b) (int_le b hi) fb in
    let e = c.is in
    by (nat_lt c.first c.second) (nat_lt c.second c.first) refl refl a_in.0 a_in.1 b_in.0 b_in.1 e
  where
    by : (s t : Bool) → nat_lt c.first c.second ≡ s → nat_lt c.second c.first ≡ t → int_le lo a ≡ true → int_le a hi ≡ true → int_le lo b ≡ true → int_le b hi ≡ true → a +ℤ pos (c.first * n) ≡ b +ℤ pos (c.second * n) → a ≡ b
    by true t p q al ah bl bh e =
        let less : c.first + 1 ≤ c.second = omega (arith, ltb-true _ _ p) in
        let far = mul-le-mul_right n less in
        absurd (omega (arith, ints))
    by false true p q al ah bl bh e =
        let less : c.second + 1 ≤ c.first = omega (arith, ltb-true _ _ q) in
        let far = mul-le-mul_right n less in
        absurd (omega (arith, ints))
    by false false p q al ah bl bh e =
        let same : c.first ≡ c.second = omega (arith, ltb-false _ _ p, ltb-false _ _ q) in
        let times = ap (λ k. k * n) same in
        omega (arith, ints)

size_is : (t : MonType) → greatest t +ℤ pos 1 ≡ least t +ℤ pos (2 ^ bit_count t)
size_is I8 = refl
size_is U8 = refl
size_is I16 = refl
size_is U16 = refl
size_is I32 = refl
size_is U32 = refl
size_is I64 = refl
size_is U64 = refl
size_is I128 = refl
size_is Ptr = refl

pub wrap-fitting : (t : MonType) (z : ℤ) → fits t z ≡ true → wrap t z ≡ z
wrap-fitting t z f = unique (2 ^ bit_count t) (least t) (greatest t) (wrap t z) z (size_is t) (wrap_fits t z) f (wrap_congruent t z)
