-- Values between two numbers, and numbers of a type.
use Rattle.std.proofs.Common.{◌≡◌, ℕ, zero, suc, ◌<◌, ℤ, pos, negsuc, ◌+ℤ◌, ◌≤ℤ◌, ◌<ℤ◌, int_le, Bool, true, false, ◌&&◌, List, [], ◌∷◌, length, Some, slice_get, slice_set, refl, sym, ap, ◌∙◌, arith}
use Rattle.std.proofs.lemmas.Int.{ints}
use Rattle.std.specs.Int.{int_gap}
use Rattle.std.specs.Prelude.{bytes_eq}
use Rattle.std.proofs.lemmas.Slice.Eq.{bytes_eq-Decides}
use Rattle.c_model.specs.Quantifiers.{values}
use Rattle.mon_syntax.specs.declared.tree.MonType.{MonType}
use Rattle.mon_syntax.specs.Arithmetic.{wrap, least, greatest, fits as mon_fits}
use Rattle.mon_syntax.proofs.Wrapping.{wrap_fits, wrap-fitting}

-- ---- how many there are

gap_is : (v h : ℤ) → v ≤ℤ h → (v +ℤ pos (int_gap v h)) ≡ h
gap_is (pos a) (pos b) l = omega (arith, ints)
gap_is (pos a) (negsuc b) l = absurd (omega (arith, ints))
gap_is (negsuc a) (pos b) l = omega (arith, ints)
gap_is (negsuc a) (negsuc b) l = omega (arith, ints)

gap_none : (v h : ℤ) → h ≤ℤ v → int_gap v h ≡ 0
gap_none (pos a) (pos b) l = omega (arith, ints)
gap_none (pos a) (negsuc b) l = refl
gap_none (negsuc a) (pos b) l = absurd (omega (arith, ints))
gap_none (negsuc a) (negsuc b) l = omega (arith, ints)

-- no value from one on
pub values_none : (v h : ℤ) → h <ℤ v → values v h ≡ 0
values_none v h l = gap_none v (h +ℤ pos 1) (omega (arith, ints, l))

pub values_some : (v h : ℤ) → v ≤ℤ h → (j : ℕ) × (values v h ≡ suc j)
values_some v h l = by (values v h) refl
  where
    by : (n : ℕ) → values v h ≡ n → (j : ℕ) × (n ≡ suc j)
    by zero e = let g = gap_is v (h +ℤ pos 1) (omega (arith, ints, l)) in absurd (omega (arith, ints, e, g, l))
    by (suc j) e = (j, refl)

-- one value, and those behind it
pub values_more : (v h : ℤ) (j : ℕ) → values v h ≡ suc j → v ≤ℤ h
values_more v h j e = by (int_le v h) refl
  where
    by : (t : Bool) → int_le v h ≡ t → v ≤ℤ h
    by true q = omega (arith, ints)
    by false q = let g = values_none v h (omega (arith, ints)) in absurd (omega (arith, g, e))

pub values_next : (v h : ℤ) (j : ℕ) → values v h ≡ suc j → values (v +ℤ pos 1) h ≡ j
values_next v h j e =
    let l = values_more v h j e in
    let g = gap_is v (h +ℤ pos 1) (omega (arith, ints, l)) in
    let k = gap_is (v +ℤ pos 1) (h +ℤ pos 1) (omega (arith, ints, l)) in
    omega (arith, ints, e, g, k)

-- ---- numbers of a type

-- a number between two of a type is one of the type
pub between_fits : (t : MonType) (y z x : ℤ) → y ≤ℤ z → z ≤ℤ x → wrap t y ≡ y → wrap t x ≡ x → wrap t z ≡ z
between_fits t y z x yz zx fy fx = wrap-fitting t z (by (least t) (greatest t) (ap (mon_fits t) (sym fy) ∙ wrap_fits t y) (ap (mon_fits t) (sym fx) ∙ wrap_fits t x))
  where
    by : (lo hi : ℤ) → (int_le lo y && int_le y hi) ≡ true → (int_le lo x && int_le x hi) ≡ true → (int_le lo z && int_le z hi) ≡ true
    by lo hi p q = grind (arith, ints)

-- ---- registers

pub same_label : (l : List ℕ) → bytes_eq l l ≡ true
same_label l = (bytes_eq-Decides l l).1 refl

-- a register that holds a value already
pub set_held : {A : Type 0} (l : List A) (k : ℕ) (x : A) → slice_get l k ≡ Some x → slice_set l k x ≡ l
set_held [] k x e = refl
set_held (y ∷ l) zero x e = let same : y ≡ x = cc in ap (λ z. z ∷ l) (sym same)
set_held (y ∷ l) (suc k) x e = ap (λ r. y ∷ r) (set_held l k x e)

pub set_twice : {A : Type 0} (l : List A) (k : ℕ) (x : A) → slice_set (slice_set l k x) k x ≡ slice_set l k x
set_twice [] k x = refl
set_twice (y ∷ l) zero x = refl
set_twice (y ∷ l) (suc k) x = ap (λ r. y ∷ r) (set_twice l k x)

pub set_get : {A : Type 0} (l : List A) (k : ℕ) (x : A) → k < length l → slice_get (slice_set l k x) k ≡ Some x
set_get [] k x lt = absurd (omega arith)
set_get (y ∷ l) zero x lt = refl
set_get (y ∷ l) (suc k) x lt = set_get l k x (omega (arith, lt))
