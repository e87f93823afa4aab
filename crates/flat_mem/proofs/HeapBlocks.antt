-- Births and deaths on the heap, by the placer and by the records.
use Rattle.std.proofs.Common.{◌≡◌, ℕ, ◌+◌, ◌*◌, ◌/◌, ◌^◌, ◌<◌, ◌≤◌, length, None, false, sym, ap, ◌∙◌, subst, arith}
use Rattle.std.specs.Prelude.{nat_le, if◌then◌else◌}
use Rattle.std.proofs.lemmas.Bool.Decides.{nat_tests}
use Rattle.c_syntax.specs.declared.types.BlockKind.TheVariants as kind
use Rattle.c_syntax.specs.declared.types.Segment.TheVariants as segment
use Rattle.c_model.specs.Memory.{greatest_number}
use Rattle.seg_heap.specs.Placement.{Heap, AreApart, IsLeastPlace, IsFree as FitsAt, with_block, without_block}
use Rattle.shadow_segments.specs.declared.BlockNote.{BlockNote}
use Rattle.shadow_segments.specs.Shadow.{units, first_unit, IsLiveBase, filled, cleared_by}
use Rattle.mon_syntax.specs.declared.spot.RegionName.TheVariants.{Heap as HeapRegion}
use Rattle.mon_syntax.specs.Regions.{Region, with_birth}
use Rattle.mon_syntax.specs.Memory.{Gives, IsFull}
use Rattle.mon_syntax.specs.Flat.{Flat, pointer_to, note_for, heap_birth, heap_block, heap_place}
use Rattle.flat_mem.specs.Deaths.{without}
use Rattle.flat_mem.specs.Placed.{IsPlaced}
use Rattle.flat_mem.proofs.Placed.{place_found, place_full, place_past, free_note, placed_born, placed_died}

has_number : (f : Flat) (n : ℕ) → f.births < greatest_number → heap_block f n ≡ heap_birth f n (heap_place f.heap.shadow.notes (units n))
has_number f n lt =
    let some : nat_le greatest_number f.births ≡ false = grind (arith, nat_tests, lt) in
    ap (λ b. if b then IsFull segment.Numbers else heap_birth f n (heap_place f.heap.shadow.notes (units n))) some

pub block_found : (f old : Flat) (h : Heap) (n at : ℕ) (r : Region) → f ≡ old → IsPlaced h f.heap.shadow.notes → f.births < greatest_number → IsLeastPlace h n at → r ≡ with_birth f.heap (note_for f kind.Heap at n)
    → heap_block old n ≡ Gives (pointer_to (old.births + 1) HeapRegion at) (record f { births = f.births + 1; heap = r })
block_found f old h n at r view placed lt first is =
    let free = first.free in
    let back : 16 * (at / 16) ≡ at = omega (arith, free.aligned) in
    subst (λ z. heap_block z n ≡ Gives (pointer_to (z.births + 1) HeapRegion at) (record f { births = f.births + 1; heap = r })) view
    (has_number f n lt
    ∙ ap (heap_birth f n) (place_found h f.heap.shadow.notes placed n at first)
    ∙ ap (λ u. Gives (pointer_to (f.births + 1) HeapRegion u) (record f { births = f.births + 1; heap = with_birth f.heap (note_for f kind.Heap u n) })) back
    ∙ ap (λ q. Gives (pointer_to (f.births + 1) HeapRegion at) (record f { births = f.births + 1; heap = q })) (sym is))

pub block_full : (f old : Flat) (h : Heap) (n : ℕ) → f ≡ old → IsPlaced h f.heap.shadow.notes → f.births < greatest_number → ((place : ℕ) → FitsAt h n place → ⊥) → heap_block old n ≡ IsFull segment.Heap
block_full f old h n view placed lt never =
    subst (λ z. heap_block z n ≡ IsFull segment.Heap) view (has_number f n lt ∙ ap (heap_birth f n) (place_full h f.heap.shadow.notes placed n never))

pub block_past : (f old : Flat) (n : ℕ) → f ≡ old → f.births < greatest_number → length f.heap.shadow.notes ≤ 16777216 → 2 ^ 64 ≤ n → heap_block old n ≡ IsFull segment.Heap
block_past f old n view lt small long =
    subst (λ z. heap_block z n ≡ IsFull segment.Heap) view (has_number f n lt ∙ ap (heap_birth f n) (place_past f.heap.shadow.notes (units n) (omega (arith, small, long))))

pub placed_block : (h q : Heap) (r s : Region) (n : BlockNote) → IsPlaced h r.shadow.notes → 0 < n.number → IsLeastPlace h n.length n.base → q ≡ with_block h n.base n.length → AreApart q → s ≡ with_birth r n → IsPlaced q s.shadow.notes
placed_block h q r s n placed some first taken apart is =
    subst (λ z. IsPlaced q z.shadow.notes) (sym is) (placed_born h q r.shadow.notes n placed (free_note h r.shadow.notes n placed first.free some) taken apart)

pub placed_freed : (h q : Heap) (r s : Region) (at : ℕ) → IsPlaced h r.shadow.notes → IsLiveBase r.shadow.notes at → q ≡ without_block h at → AreApart q → s ≡ without r at → IsPlaced q s.shadow.notes
placed_freed h q r s at placed live taken apart is =
    let n = live.note in
    let gone : s.shadow.notes ≡ filled r.shadow.notes (first_unit n) (units n.length) None = ap (λ z. z.shadow.notes) is ∙ ap (λ o. (cleared_by r.shadow o).notes) live.there in
    subst (λ z. IsPlaced q z) (sym gone) (placed_died h q r.shadow.notes n (at / 16) placed live.there (taken ∙ ap (without_block h) (sym live.base_is)) apart)
