-- What the placer keeps after a block is taken.
use Rattle.std.proofs.Common.{◌≡◌, ℕ, suc, ◌+◌, ◌-◌, ◌*◌, ◌/◌, ◌<◌, ◌≤◌, ⊎_elim, List, length, get_or, set, refl, ap, ◌∙◌, arith}
use Rattle.std.proofs.lemmas.Bool.{cases_lt}
use Rattle.seg_heap.specs.Placement.{Heap, with_block}
use Rattle.seg_heap.specs.Tiles.{heap_of, block_at, gap_at, AreTiles, Keeps}
use Rattle.seg_heap.proofs.Starts.{with_block_is}
use Rattle.seg_heap.proofs.Taken.{taken, taken_before}
use Rattle.seg_heap.proofs.Writes.{same, other, long, past}

module _ (units size count s gap : ℕ) (starts before gaps : List ℕ) (keeps : Keeps units starts before gaps) (count_is : count ≡ size / 16 + 1) (gap_is : gap ≡ get_or gaps s 0) (enough : count ≤ get_or gaps s 0) where
  inside : s + (get_or starts s 0 + 15) / 16 + get_or gaps s 0 ≤ units
  inside = keeps.tiles.within s (omega (arith, enough, count_is))

  no_block : get_or starts s 0 ≡ 0
  no_block = ⊎_elim
      (λ one. absurd (let none : get_or gaps s 0 ≡ 0 = keeps.tiles.kind s (omega (arith, one)) in omega (arith, none, enough, count_is)))
      (λ ge. omega (arith, ge))
      (cases_lt 0 (get_or starts s 0))

  module _ (starts1 before1 before2 gaps1 gaps2 : List ℕ) (g1 : gaps1 ≡ set gaps s 0) (g2 : gaps2 ≡ set gaps1 (s + count) (gap - count)) (b1 : before1 ≡ set before s 0)
      (b2 : before2 ≡ set before1 (s + count + (gap - count)) (gap - count)) (s1 : starts1 ≡ set starts s (size + 1)) where
    long_gaps1 : length gaps1 ≡ length gaps
    long_gaps1 = ap length g1 ∙ long gaps s 0

    long_before1 : length before1 ≡ length before
    long_before1 = ap length b1 ∙ long before s 0

    at_starts : (j : ℕ) → (j ≡ s → ⊥) → get_or starts1 j 0 ≡ get_or starts j 0
    at_starts j ne = ap (λ l. get_or l j 0) s1 ∙ other starts s j (size + 1) ne

    here : get_or starts1 s 0 ≡ size + 1
    here = ap (λ l. get_or l s 0) s1 ∙ same starts s s (size + 1) refl (let a = inside in let b = keeps.each_start in omega (arith, a, b, enough, count_is))

    gap_here : get_or gaps2 s 0 ≡ 0
    gap_here =
        ap (λ l. get_or l s 0) g2 ∙ other gaps1 (s + count) s (gap - count) (λ e. omega (arith, e, count_is)) ∙ ap (λ l. get_or l s 0) g1
        ∙ same gaps s s 0 refl (let a = inside in let b = keeps.each_gap in omega (arith, a, b, enough, count_is))

    gap_rest : get_or gaps2 (s + count) 0 ≡ get_or gaps s 0 - count
    gap_rest = ap (λ l. get_or l (s + count) 0) g2 ∙ ⊎_elim
        (λ lt. (let e = same gaps1 (s + count) (s + count) (gap - count) refl lt in omega (arith, e, gap_is)))
        (λ ge. (let e = past gaps1 (s + count) (gap - count) ge in let a = inside in let b = keeps.each_gap in let l = long_gaps1 in omega (arith, e, ge, a, b, l)))
        (cases_lt (s + count) (length gaps1))

    gap_else : (j : ℕ) → (j ≡ s → ⊥) → (j ≡ s + count → ⊥) → get_or gaps2 j 0 ≡ get_or gaps j 0
    gap_else j ne nf = ap (λ l. get_or l j 0) g2 ∙ other gaps1 (s + count) j (gap - count) nf ∙ ap (λ l. get_or l j 0) g1 ∙ other gaps s j 0 ne

    before_here : get_or before2 s 0 ≡ 0
    before_here =
        ap (λ l. get_or l s 0) b2 ∙ other before1 (s + count + (gap - count)) s (gap - count) (λ e. omega (arith, e, count_is)) ∙ ap (λ l. get_or l s 0) b1
        ∙ same before s s 0 refl (let a = inside in let b = keeps.each_before in omega (arith, a, b, enough, count_is))

    before_end : s + get_or gaps s 0 < units → get_or before2 (s + get_or gaps s 0) 0 ≡ get_or gaps s 0 - count
    before_end lt =
        ap (λ l. get_or l (s + get_or gaps s 0) 0) b2
        ∙ same before1 (s + count + (gap - count)) (s + get_or gaps s 0) (gap - count) (omega (arith, gap_is, enough)) (let l = long_before1 in let b = keeps.each_before in omega (arith, l, b, lt, gap_is, enough))
        ∙ ap (λ z. z - count) gap_is

    before_else : (j : ℕ) → (j ≡ s → ⊥) → (j ≡ s + get_or gaps s 0 → ⊥) → get_or before2 j 0 ≡ get_or before j 0
    before_else j ne nf =
        ap (λ l. get_or l j 0) b2 ∙ other before1 (s + count + (gap - count)) j (gap - count) (λ e. nf (omega (arith, e, gap_is, enough))) ∙ ap (λ l. get_or l j 0) b1 ∙ other before s j 0 ne

    tiles_new : AreTiles units (block_at starts1) (gap_at gaps2)
    tiles_new =
        taken units (block_at starts) (gap_at gaps) (block_at starts1) (gap_at gaps2) s count keeps.tiles (omega (arith, count_is)) enough (let e = here in omega (arith, e, count_is))
        (λ j ne. (let e = at_starts j ne in ap (λ z. (z + 15) / 16) e)) gap_here gap_rest gap_else

    pub kept_taken : Keeps units starts1 before2 gaps2
    kept_taken = record {
      small = keeps.small;
      each_start = ap length s1 ∙ long starts s (size + 1) ∙ keeps.each_start;
      each_before = ap length b2 ∙ long before1 (s + count + (gap - count)) (gap - count) ∙ long_before1 ∙ keeps.each_before;
      each_gap = (let e : length gaps2 ≡ length gaps = ap length g2 ∙ long gaps1 (s + count) (gap - count) ∙ long_gaps1 in let k = keeps.each_gap in omega (arith, e, k));
      tiles = tiles_new;
      ends = taken_before units (block_at starts) (gap_at gaps) (block_at starts1) (gap_at gaps2) s count keeps.tiles (omega (arith, count_is)) enough (let e = here in omega (arith, e, count_is))
          (λ j ne. (let e = at_starts j ne in ap (λ z. (z + 15) / 16) e)) gap_here gap_rest gap_else (gap_at before) (gap_at before2) keeps.ends before_here before_end before_else;
    }

    pub taken_is : (old : Heap) → heap_of units starts ≡ old → heap_of units starts1 ≡ with_block old (16 * s) size
    taken_is old view =
        ap (heap_of units) (s1 ∙ ap (set starts s) (next size))
        ∙ with_block_is units s size starts (let a = inside in let b = keeps.each_start in omega (arith, a, b, enough, count_is)) no_block
        ∙ ap (λ h. with_block h (16 * s) size) view
      where
        next : (n : ℕ) → n + 1 ≡ suc n
        next n = omega arith
