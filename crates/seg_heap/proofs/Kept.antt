-- What the placer answers, by what it keeps.
use Rattle.std.proofs.Common.{◌≡◌, ℕ, ◌+◌, ◌*◌, ◌/◌, ◌<◌, ◌≤◌, List, get_or, subst}
use Rattle.seg_heap.specs.Placement.{Heap, IsFree, IsLeastPlace, AreApart}
use Rattle.seg_heap.specs.Tiles.{heap_of, gap_at, Keeps}
use Rattle.seg_heap.proofs.Starts.{blocks_apart}
use Rattle.seg_heap.proofs.Places.{least_place, no_place}

pub apart_kept : (units : ℕ) (old : Heap) (starts before gaps : List ℕ) → Keeps units starts before gaps → heap_of units starts ≡ old → AreApart old
apart_kept units old starts before gaps keeps view = subst AreApart view (blocks_apart units starts (gap_at gaps) keeps.tiles)

pub least_kept : (units size s : ℕ) (old : Heap) (starts before gaps : List ℕ) → Keeps units starts before gaps → heap_of units starts ≡ old → size / 16 + 1 ≤ get_or gaps s 0 → ((unit : ℕ) → unit < s → get_or gaps unit 0 < size / 16 + 1)
    → IsLeastPlace old size (16 * s)
least_kept units size s old starts before gaps keeps view enough less = subst (λ h. IsLeastPlace h size (16 * s)) view (least_place units size starts gaps keeps.tiles s enough less)

pub full_kept : (units size : ℕ) (old : Heap) (starts before gaps : List ℕ) → Keeps units starts before gaps → heap_of units starts ≡ old → ((unit : ℕ) → get_or gaps unit 0 < size / 16 + 1) → (place : ℕ) → IsFree old size place → ⊥
full_kept units size old starts before gaps keeps view less = subst (λ h. (place : ℕ) → IsFree h size place → ⊥) view (no_place units size starts gaps keeps.tiles less)
