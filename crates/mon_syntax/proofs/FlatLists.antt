-- Lists of blocks and of their heads, and the three regions of flat memory.
use Rattle.std.proofs.Common.{◌≡◌, ◌≢◌, ℕ, zero, suc, ◌⊎◌, inl, inr, ⊎_elim, List, [], ◌∷◌, ◌++◌, length, Some, set, slice_get, refl, sym, ap, ◌∙◌, subst, arith}
use Rattle.std.proofs.lemmas.List.{length-map, map-append, map-set}
use Rattle.std.proofs.lemmas.Option.{none-some, same_Some}
use Rattle.c_model.specs.Memory.{Block, Store}
use Rattle.mon_syntax.specs.declared.spot.RegionName.{RegionName}
use Rattle.mon_syntax.specs.declared.spot.RegionName.TheVariants.{Globals, Stack, Heap}
use Rattle.mon_syntax.specs.FlatRelation.{Head, head_of, heads}

-- ---- entries of a list that grows at its end

pub get_front : {A : Type 0} (xs ys : List A) (i : ℕ) (x : A) → slice_get xs i ≡ Some x → slice_get (xs ++ ys) i ≡ Some x
get_front [] ys i x e = absurd (none-some x e)
get_front (z ∷ xs) ys zero x e = e
get_front (z ∷ xs) ys (suc i) x e = get_front xs ys i x e

pub get_end : {A : Type 0} (xs : List A) (y : A) → slice_get (xs ++ y ∷ []) (length xs) ≡ Some y
get_end [] y = refl
get_end (x ∷ xs) y = get_end xs y

-- an entry is one of before, or the last
pub get_last : {A : Type 0} (xs : List A) (y : A) (i : ℕ) (x : A) → slice_get (xs ++ y ∷ []) i ≡ Some x → (slice_get xs i ≡ Some x) ⊎ ((i ≡ length xs) × (x ≡ y))
get_last [] y zero x e = inr (refl, sym (same_Some y x e))
get_last [] y (suc i) x e = absurd (none-some x e)
get_last (z ∷ xs) y zero x e = inl e
get_last (z ∷ xs) y (suc i) x e = ⊎_elim (λ t. inl t) (λ t. inr (ap suc t.0, t.1)) (get_last xs y i x e)

-- ---- entries of a list of which one was set

pub get_other : {A : Type 0} (xs : List A) (i j : ℕ) (x y : A) → slice_get xs j ≡ Some x → j ≢ i → slice_get (set xs i y) j ≡ Some x
get_other [] i j x y e ne = absurd (none-some x e)
get_other (z ∷ xs) zero zero x y e ne = absurd (ne refl)
get_other (z ∷ xs) zero (suc j) x y e ne = e
get_other (z ∷ xs) (suc i) zero x y e ne = e
get_other (z ∷ xs) (suc i) (suc j) x y e ne = get_other xs i j x y e (λ same. ne (ap suc same))

-- an entry is the one that was set, or one of before
pub get_after_set : {A : Type 0} (xs : List A) (i j : ℕ) (x y z : A) → slice_get xs i ≡ Some x → slice_get (set xs i y) j ≡ Some z
    → ((j ≡ i) × (z ≡ y)) ⊎ ((j ≢ i) × (slice_get xs j ≡ Some z))
get_after_set [] i j x y z at e = absurd (none-some x at)
get_after_set (a ∷ xs) zero zero x y z at e = inl (refl, sym (same_Some y z e))
get_after_set (a ∷ xs) zero (suc j) x y z at e = inr ((λ same. absurd (omega (arith, same))), e)
get_after_set (a ∷ xs) (suc i) zero x y z at e = inr ((λ same. absurd (omega (arith, same))), e)
get_after_set (a ∷ xs) (suc i) (suc j) x y z at e =
    ⊎_elim (λ t. inl (ap suc t.0, t.1)) (λ t. inr ((λ same. t.0 (omega (arith, same))), t.1)) (get_after_set xs i j x y z at e)

pub set_same : {A : Type 0} (xs : List A) (i : ℕ) (x : A) → slice_get xs i ≡ Some x → set xs i x ≡ xs
set_same [] i x e = refl
set_same (z ∷ xs) zero x e = ap (λ a. a ∷ xs) (sym (same_Some z x e))
set_same (z ∷ xs) (suc i) x e = ap (λ l. z ∷ l) (set_same xs i x e)

-- ---- heads of blocks

pub head_at : (s : Store) (i : ℕ) (k : Block) → slice_get s i ≡ Some k → slice_get (heads s) i ≡ Some (head_of k)
head_at [] i k e = absurd (none-some k e)
head_at (z ∷ s) zero k e = ap (λ b. Some (head_of b)) (same_Some z k e)
head_at (z ∷ s) (suc i) k e = head_at s i k e

pub block_of_head : (s : Store) (i : ℕ) (h : Head) → slice_get (heads s) i ≡ Some h → (k : Block) × (slice_get s i ≡ Some k) × (head_of k ≡ h)
block_of_head [] i h e = absurd (none-some h e)
block_of_head (z ∷ s) zero h e = (z, refl, same_Some (head_of z) h e)
block_of_head (z ∷ s) (suc i) h e = block_of_head s i h e

pub heads_set : (s : Store) (i : ℕ) (k : Block) → heads (set s i k) ≡ set (heads s) i (head_of k)
heads_set s i k = map-set head_of s i k

pub heads_append : (s : Store) (k : Block) → heads (s ++ k ∷ []) ≡ heads s ++ head_of k ∷ []
heads_append s k = map-append head_of s (k ∷ [])

pub length-heads : (s : Store) → length (heads s) ≡ length s
length-heads s = length-map s head_of

-- bytes of a block are replaced: the heads stay
pub heads_stay : (s : Store) (i : ℕ) (k l : Block) → slice_get s i ≡ Some k → head_of l ≡ head_of k → heads (set s i l) ≡ heads s
heads_stay s i k l at same = heads_set s i l ∙ ap (set (heads s) i) same ∙ set_same (heads s) i (head_of k) (head_at s i k at)

-- ---- regions

pub same_region : (a b : RegionName) → (a ≡ b) ⊎ (a ≢ b)
same_region Globals Globals = inl refl
same_region Globals Stack = inr (λ e. absurd cc)
same_region Globals Heap = inr (λ e. absurd cc)
same_region Stack Globals = inr (λ e. absurd cc)
same_region Stack Stack = inl refl
same_region Stack Heap = inr (λ e. absurd cc)
same_region Heap Globals = inr (λ e. absurd cc)
same_region Heap Stack = inr (λ e. absurd cc)
same_region Heap Heap = inl refl

-- what holds of one region, and of a second where it is another, holds of the second
pub at_region : (Q : RegionName → Type 0) (a b : RegionName) → Q a → (a ≢ b → Q b) → Q b
at_region Q a b here other = ⊎_elim (λ e. subst Q e here) other (same_region a b)
