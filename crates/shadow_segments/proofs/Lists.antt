-- Entries of a list that are changed in a row.
use Rattle.std.proofs.Common.{◌≡◌, ◌≢◌, ℕ, zero, suc, ◌+◌, ◌<◌, ◌≤◌, ◌⊎◌, inl, inr, ⊎_elim, List, length, get_or, set, refl, sym, ap, ◌∙◌, arith}
use Rattle.std.proofs.lemmas.List.{ext_get_or, length-set, get_or-set_same, get_or-set_other}
use Rattle.std.proofs.lemmas.Bool.{cases_eq, cases_lt}
use Rattle.shadow_segments.specs.Shadow.{changed, filled}
use Rattle.shadow_segments.specs.Words.{list_by}
use Rattle.shadow_segments.proofs.Entries.{length-list_by, get_or-list_by}

pub length-changed : {A : Type 0} (d : A) (f : A → A) (xs : List A) (u k : ℕ) → length (changed d f xs u k) ≡ length xs
length-changed d f xs u zero = refl
length-changed d f xs u (suc k) = length-changed d f (set xs u (f (get_or xs u d))) (suc u) k ∙ length-set xs u (f (get_or xs u d))

pub changed_outside : {A : Type 0} (d : A) (f : A → A) (xs : List A) (u k i : ℕ) (e : A) → (i < u) ⊎ (u + k ≤ i) → get_or (changed d f xs u k) i e ≡ get_or xs i e
changed_outside d f xs u zero i e out = refl
changed_outside d f xs u (suc k) i e out =
    let away : (i < suc u) ⊎ (suc u + k ≤ i) = ⊎_elim (λ b. inl (omega (arith, b))) (λ a. inr (omega (arith, a))) out in
    let other : i ≢ u = ⊎_elim (λ b. grind (arith, b)) (λ a. grind (arith, a)) out in
    changed_outside d f (set xs u (f (get_or xs u d))) (suc u) k i e away ∙ get_or-set_other xs u i (f (get_or xs u d)) e other

pub changed_inside : {A : Type 0} (d : A) (f : A → A) (xs : List A) (u k i : ℕ) (e : A) → u + k ≤ length xs → u ≤ i → i < u + k → get_or (changed d f xs u k) i e ≡ f (get_or xs i d)
changed_inside d f xs u zero i e room from below = absurd (omega (arith, from, below))
changed_inside d f xs u (suc k) i e room from below =
    let long : length (set xs u (f (get_or xs u d))) ≡ length xs = length-set xs u (f (get_or xs u d)) in
    first (cases_eq i u) (λ after. changed_inside d f (set xs u (f (get_or xs u d))) (suc u) k i e (omega (arith, room, long)) after (omega (arith, below)))
  where
    first : (i ≡ u) ⊎ (i ≢ u) → (suc u ≤ i → get_or (changed d f (set xs u (f (get_or xs u d))) (suc u) k) i e ≡ f (get_or (set xs u (f (get_or xs u d))) i d)) → get_or (changed d f xs u (suc k)) i e ≡ f (get_or xs i d)
    first (inl same) rest =
        let here : u < length xs = omega (arith, room) in
        let before : i < suc u = omega (arith, same) in
        changed_outside d f (set xs u (f (get_or xs u d))) (suc u) k i e (inl before)
        ∙ ap (λ j. get_or (set xs u (f (get_or xs u d))) j e) same
        ∙ get_or-set_same xs u (f (get_or xs u d)) e here
        ∙ ap (λ j. f (get_or xs j d)) (sym same)
    first (inr other) rest =
        let after : suc u ≤ i = grind (arith, other, from) in
        rest after ∙ ap f (get_or-set_other xs u i (f (get_or xs u d)) d other)

pub filled_is : {A : Type 0} (xs : List A) (u k : ℕ) (y : A) → filled xs u k y ≡ changed y (λ x. y) xs u k
filled_is xs u zero y = refl
filled_is xs u (suc k) y = filled_is (set xs u y) (suc u) k y

pub length-filled : {A : Type 0} (xs : List A) (u k : ℕ) (y : A) → length (filled xs u k y) ≡ length xs
length-filled xs u k y = ap length (filled_is xs u k y) ∙ length-changed y (λ x. y) xs u k

pub filled_inside : {A : Type 0} (xs : List A) (u k : ℕ) (y : A) (i : ℕ) (e : A) → u + k ≤ length xs → u ≤ i → i < u + k → get_or (filled xs u k y) i e ≡ y
filled_inside xs u k y i e room from below = ap (λ l. get_or l i e) (filled_is xs u k y) ∙ changed_inside y (λ x. y) xs u k i e room from below

pub filled_outside : {A : Type 0} (xs : List A) (u k : ℕ) (y : A) (i : ℕ) (e : A) → (i < u) ⊎ (u + k ≤ i) → get_or (filled xs u k y) i e ≡ get_or xs i e
filled_outside xs u k y i e out = ap (λ l. get_or l i e) (filled_is xs u k y) ∙ changed_outside y (λ x. y) xs u k i e out

-- a list by its entries, of which so many in a row are replaced
pub filled_entries : {A : Type 0} (f g : ℕ → A) (n u k : ℕ) (y : A) → u + k ≤ n → ((i : ℕ) → u ≤ i → i < u + k → g i ≡ y) → ((i : ℕ) → i < n → (i < u) ⊎ (u + k ≤ i) → g i ≡ f i) → list_by g n ≡ filled (list_by f n) u k y
filled_entries f g n u k y room in_ out =
    ext_get_or y (list_by g n) (filled (list_by f n) u k y) (length-list_by g n ∙ sym (length-filled (list_by f n) u k y ∙ length-list_by f n))
    (λ i lt.
    let below : i < n = omega (arith, lt, length-list_by g n) in
    get_or-list_by g n i y below ∙ at i below (cases_lt i u) (cases_lt i (u + k)))
  where
    at : (i : ℕ) → i < n → (i < u) ⊎ (u ≤ i) → (i < u + k) ⊎ (u + k ≤ i) → g i ≡ get_or (filled (list_by f n) u k y) i y
    at i lt (inl b) h = out i lt (inl b) ∙ sym (filled_outside (list_by f n) u k y i y (inl b) ∙ get_or-list_by f n i y lt)
    at i lt (inr a) (inl b) = in_ i a b ∙ sym (filled_inside (list_by f n) u k y i y (omega (arith, room, length-list_by f n)) a b)
    at i lt (inr a) (inr c) = out i lt (inr c) ∙ sym (filled_outside (list_by f n) u k y i y (inr c) ∙ get_or-list_by f n i y lt)

pub changed_entries : {A : Type 0} (d : A) (h : A → A) (f g : ℕ → A) (n u k : ℕ) → u + k ≤ n → ((i : ℕ) → u ≤ i → i < u + k → g i ≡ h (f i)) → ((i : ℕ) → i < n → (i < u) ⊎ (u + k ≤ i) → g i ≡ f i) → list_by g n ≡ changed d h (list_by f n) u k
changed_entries d h f g n u k room in_ out =
    ext_get_or d (list_by g n) (changed d h (list_by f n) u k) (length-list_by g n ∙ sym (length-changed d h (list_by f n) u k ∙ length-list_by f n))
    (λ i lt.
    let below : i < n = omega (arith, lt, length-list_by g n) in
    get_or-list_by g n i d below ∙ at i below (cases_lt i u) (cases_lt i (u + k)))
  where
    at : (i : ℕ) → i < n → (i < u) ⊎ (u ≤ i) → (i < u + k) ⊎ (u + k ≤ i) → g i ≡ get_or (changed d h (list_by f n) u k) i d
    at i lt (inl b) z = out i lt (inl b) ∙ sym (changed_outside d h (list_by f n) u k i d (inl b) ∙ get_or-list_by f n i d lt)
    at i lt (inr a) (inl b) = in_ i a b ∙ sym (changed_inside d h (list_by f n) u k i d (omega (arith, room, length-list_by f n)) a b ∙ ap h (get_or-list_by f n i d lt))
    at i lt (inr a) (inr c) = out i lt (inr c) ∙ sym (changed_outside d h (list_by f n) u k i d (inr c) ∙ get_or-list_by f n i d lt)
