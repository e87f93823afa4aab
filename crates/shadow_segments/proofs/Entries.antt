-- Lists by their entries.
use Rattle.std.proofs.Common.{◌≡◌, ◌≢◌, ℕ, ◌<◌, ◌⊎◌, inl, inr, length, get_or, set, sym, ap, ◌∙◌, arith}
use Rattle.std.proofs.lemmas.List.{ext_get_or, length-set, get_or-set_same, get_or-set_other}
use Rattle.std.proofs.lemmas.Bool.{cases_eq}
use Rattle.std.proofs.lemmas.List.FromFn.{length-map-range_with_len, get_or-map-range_with_len}
use Rattle.shadow_segments.specs.Words.{list_by}

pub length-list_by : {A : Type 0} (f : ℕ → A) (n : ℕ) → length (list_by f n) ≡ n
unfolding list_by
length-list_by f n = length-map-range_with_len f 0 n

pub get_or-list_by : {A : Type 0} (f : ℕ → A) (n i : ℕ) (d : A) → i < n → get_or (list_by f n) i d ≡ f i
unfolding list_by
get_or-list_by f n i d lt = get_or-map-range_with_len f 0 n i i d lt (omega arith)

-- one entry is replaced, and the others stay
pub one_entry : {A : Type 0} (f g : ℕ → A) (n u : ℕ) (x : A) → u < n → g u ≡ x → ((k : ℕ) → k < n → k ≢ u → g k ≡ f k) → list_by g n ≡ set (list_by f n) u x
one_entry f g n u x lt here others =
    ext_get_or x (list_by g n) (set (list_by f n) u x) (length-list_by g n ∙ sym (length-set (list_by f n) u x ∙ length-list_by f n))
    (λ k kl.
    let below : k < n = omega (arith, kl, length-list_by g n) in
    let room : u < length (list_by f n) = omega (arith, lt, length-list_by f n) in
    get_or-list_by g n k x below ∙ at f g n u x k below room here others (cases_eq k u))
  where
    at : {A : Type 0} (f g : ℕ → A) (n u : ℕ) (x : A) (k : ℕ) → k < n → u < length (list_by f n) → g u ≡ x → ((k : ℕ) → k < n → k ≢ u → g k ≡ f k) → (k ≡ u) ⊎ (k ≢ u) → g k ≡ get_or (set (list_by f n) u x) k x
    at f g n u x k below room here others (inl same) = ap g same ∙ here ∙ sym (ap (λ j. get_or (set (list_by f n) u x) j x) same ∙ get_or-set_same (list_by f n) u x x room)
    at f g n u x k below room here others (inr other) = others k below other ∙ sym (get_or-set_other (list_by f n) u k x x other ∙ get_or-list_by f n k x below)

pub same_entries : {A : Type 0} (d : A) (f g : ℕ → A) (n : ℕ) → ((k : ℕ) → k < n → g k ≡ f k) → list_by g n ≡ list_by f n
same_entries d f g n each =
    ext_get_or d (list_by g n) (list_by f n) (length-list_by g n ∙ sym (length-list_by f n))
    (λ k kl.
    let below : k < n = omega (arith, kl, length-list_by g n) in
    get_or-list_by g n k d below ∙ each k below ∙ sym (get_or-list_by f n k d below))
