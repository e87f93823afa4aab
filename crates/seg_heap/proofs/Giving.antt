-- What the placer keeps after a block is given up.
use Rattle.std.proofs.Common.{◌≡◌, ℕ, suc, ◌+◌, ◌-◌, ◌/◌, ◌<◌, ◌≤◌, ◌⊎◌, inl, inr, ⊎_elim, List, length, get_or, set, refl, ap, sym, ◌∙◌, subst, arith}
use Rattle.std.proofs.lemmas.Bool.{cases_lt}
use Rattle.seg_heap.specs.Placement.{Heap, IsStart, without_block}
use Rattle.seg_heap.specs.Tiles.{heap_of, block_at, gap_at, AreTiles, Keeps}
use Rattle.seg_heap.proofs.Starts.{IsBegun, begun, without_block_is}
use Rattle.seg_heap.proofs.Given.{Front, Alone, Gap, given, given_before}
use Rattle.seg_heap.proofs.Writes.{same, other, long, past}

module _ (units place start front back : ℕ) (old : Heap) (starts before gaps : List ℕ) (keeps : Keeps units starts before gaps) (view : heap_of units starts ≡ old) (is_start : IsStart old place) (start_is : start ≡ get_or starts (place / 16) 0) where
  at_place : IsBegun starts place
  at_place = begun units place starts (subst (λ h. IsStart h place) (sym view) is_start)

  unit_is : place / 16 ≡ at_place.unit
  unit_is = let e = at_place.place_is in omega (arith, e)

  size_is : get_or starts (place / 16) 0 ≡ suc at_place.size
  size_is = ap (λ z. get_or starts z 0) unit_is ∙ at_place.is

  pub start_some : 1 ≤ start
  start_some = let e = size_is in omega (arith, start_is, e)

  block : 0 < (get_or starts (place / 16) 0 + 15) / 16
  block = let e = size_is in omega (arith, e)

  module _ (front_is : front ≡ get_or before (place / 16) 0) where
    front_of : (0 < front) ⊎ (front ≤ 0) → Front (gap_at gaps) (place / 16) (place / 16 - front) front
    front_of (inl lt) =
        let old_gap = keeps.ends.ends (place / 16) block (omega (arith, front_is, lt)) in
        let at : old_gap.0 + get_or before (place / 16) 0 ≡ place / 16 = old_gap.1 in
        let size : get_or gaps old_gap.0 0 ≡ get_or before (place / 16) 0 = old_gap.2 in
        let begins : place / 16 - front ≡ old_gap.0 = omega (arith, at, front_is) in
        Gap (omega (arith, at, front_is)) lt (ap (λ z. get_or gaps z 0) begins ∙ size ∙ sym front_is)
    front_of (inr ge) = Alone (omega (arith, ge)) (omega (arith, ge)) (λ t one e.
        (let here : 0 < (get_or starts (t + get_or gaps t 0) 0 + 15) / 16 = subst (λ z. 0 < (get_or starts z 0 + 15) / 16) (sym e) block in
        let size : get_or before (t + get_or gaps t 0) 0 ≡ get_or gaps t 0 = keeps.ends.all t one here in
        let x = ap (λ z. get_or before z 0) e in
        omega (arith, size, x, one, front_is, ge)))

    the_front : Front (gap_at gaps) (place / 16) (place / 16 - front) front
    the_front = front_of (cases_lt 0 front)

    pub front_fits : front ≤ place / 16
    front_fits = le the_front
      where
        le : Front (gap_at gaps) (place / 16) (place / 16 - front) front → front ≤ place / 16
        le (Alone a b c) = omega (arith, b)
        le (Gap a b c) = omega (arith, a)

    module _ (back_is : back ≡ get_or gaps (place / 16 + ((start - 1) / 16 + 1)) 0) where
      count : ℕ
      count = (start - 1) / 16 + 1

      width : (get_or starts (place / 16) 0 + 15) / 16 ≡ (start - 1) / 16 + 1
      width = let e = size_is in omega (arith, e, start_is)

      gap : ℕ
      gap = front + ((start - 1) / 16 + 1) + back

      begins : place / 16 - front + front ≡ place / 16
      begins = let e = front_fits in omega (arith, e)

      at_end : place / 16 + ((start - 1) / 16 + 1) ≡ place / 16 + (get_or starts (place / 16) 0 + 15) / 16
      at_end = let e = width in omega (arith, e)

      total : front + ((start - 1) / 16 + 1) + back ≡ front + (get_or starts (place / 16) 0 + 15) / 16 + get_or gaps (place / 16 + ((start - 1) / 16 + 1)) 0
      total = let e = width in omega (arith, e, back_is)

      module _ (starts1 before1 gaps1 gaps2 : List ℕ) (g1 : gaps1 ≡ set gaps (place / 16 + ((start - 1) / 16 + 1)) 0) (g2 : gaps2 ≡ set gaps1 (place / 16 - front) (front + ((start - 1) / 16 + 1) + back)) where
        gap_else : (j : ℕ) → (j ≡ place / 16 - front → ⊥) → (j ≡ place / 16 + ((start - 1) / 16 + 1) → ⊥) → get_or gaps2 j 0 ≡ get_or gaps j 0
        gap_else j ne nf = ap (λ l. get_or l j 0) g2 ∙ other gaps1 (place / 16 - front) j (front + ((start - 1) / 16 + 1) + back) ne ∙ ap (λ l. get_or l j 0) g1 ∙ other gaps (place / 16 + ((start - 1) / 16 + 1)) j 0 nf

        long_gaps1 : length gaps1 ≡ length gaps
        long_gaps1 = ap length g1 ∙ long gaps (place / 16 + ((start - 1) / 16 + 1)) 0

        block_inside : place / 16 + (get_or starts (place / 16) 0 + 15) / 16 + get_or gaps (place / 16) 0 ≤ units
        block_inside = keeps.tiles.within (place / 16) (let b = block in omega (arith, b))

        gap_here : get_or gaps2 (place / 16 - front) 0 ≡ front + ((start - 1) / 16 + 1) + back
        gap_here =
            ap (λ l. get_or l (place / 16 - front) 0) g2
            ∙ same gaps1 (place / 16 - front) (place / 16 - front) (front + ((start - 1) / 16 + 1) + back) refl (let a = block_inside in let w = width in let l = long_gaps1 in let k = keeps.each_gap in omega (arith, a, w, l, k))

        gap_end : get_or gaps2 (place / 16 + ((start - 1) / 16 + 1)) 0 ≡ 0
        gap_end =
            ap (λ l. get_or l (place / 16 + ((start - 1) / 16 + 1)) 0) g2
            ∙ other gaps1 (place / 16 - front) (place / 16 + ((start - 1) / 16 + 1)) (front + ((start - 1) / 16 + 1) + back) (λ e. omega (arith, e))
            ∙ ap (λ l. get_or l (place / 16 + ((start - 1) / 16 + 1)) 0) g1 ∙ ⊎_elim
            (λ lt. same gaps (place / 16 + ((start - 1) / 16 + 1)) (place / 16 + ((start - 1) / 16 + 1)) 0 refl lt)
            (λ ge. past gaps (place / 16 + ((start - 1) / 16 + 1)) 0 ge)
            (cases_lt (place / 16 + ((start - 1) / 16 + 1)) (length gaps))

        module _ (b1 : before1 ≡ set before (place / 16 - front + (front + ((start - 1) / 16 + 1) + back)) (front + ((start - 1) / 16 + 1) + back)) (s1 : starts1 ≡ set starts (place / 16) 0) where
          at_starts : (j : ℕ) → (j ≡ place / 16 → ⊥) → get_or starts1 j 0 ≡ get_or starts j 0
          at_starts j ne = ap (λ l. get_or l j 0) s1 ∙ other starts (place / 16) j 0 ne

          here : get_or starts1 (place / 16) 0 ≡ 0
          here =
              ap (λ l. get_or l (place / 16) 0) s1
              ∙ same starts (place / 16) (place / 16) 0 refl (let a = block_inside in let b = block in let k = keeps.each_start in omega (arith, a, b, k))

          tiles_new : AreTiles units (block_at starts1) (gap_at gaps2)
          tiles_new =
              given units (block_at starts) (gap_at gaps) (block_at starts1) (gap_at gaps2) (place / 16) (place / 16 - front) front (place / 16 + ((start - 1) / 16 + 1)) (front + ((start - 1) / 16 + 1) + back) keeps.tiles block the_front at_end total
              begins (let e = here in omega (arith, e)) (λ j ne. (let e = at_starts j ne in ap (λ z. (z + 15) / 16) e)) gap_here gap_end gap_else

          before_end : place / 16 - front + (front + ((start - 1) / 16 + 1) + back) < units → get_or before1 (place / 16 - front + (front + ((start - 1) / 16 + 1) + back)) 0 ≡ front + ((start - 1) / 16 + 1) + back
          before_end lt =
              ap (λ l. get_or l (place / 16 - front + (front + ((start - 1) / 16 + 1) + back)) 0) b1
              ∙ same before (place / 16 - front + (front + ((start - 1) / 16 + 1) + back)) _ (front + ((start - 1) / 16 + 1) + back) refl (let k = keeps.each_before in omega (arith, k, lt))

          before_else : (j : ℕ) → (j ≡ place / 16 - front + (front + ((start - 1) / 16 + 1) + back) → ⊥) → get_or before1 j 0 ≡ get_or before j 0
          before_else j ne = ap (λ l. get_or l j 0) b1 ∙ other before (place / 16 - front + (front + ((start - 1) / 16 + 1) + back)) j (front + ((start - 1) / 16 + 1) + back) ne

          pub kept_given : Keeps units starts1 before1 gaps2
          kept_given = record {
            small = keeps.small;
            each_start = ap length s1 ∙ long starts (place / 16) 0 ∙ keeps.each_start;
            each_before = ap length b1 ∙ long before _ _ ∙ keeps.each_before;
            each_gap = (let e : length gaps2 ≡ length gaps = ap length g2 ∙ long gaps1 _ _ ∙ long_gaps1 in let k = keeps.each_gap in omega (arith, e, k));
            tiles = tiles_new;
            ends = given_before units (block_at starts) (gap_at gaps) (block_at starts1) (gap_at gaps2) (place / 16) (place / 16 - front) front (place / 16 + ((start - 1) / 16 + 1)) (front + ((start - 1) / 16 + 1) + back) keeps.tiles block the_front
                at_end total begins (let e = here in omega (arith, e)) (λ j ne. (let e = at_starts j ne in ap (λ z. (z + 15) / 16) e)) gap_here gap_end gap_else (gap_at before) (gap_at before1) keeps.ends before_end before_else;
          }

      pub gap_fits : place / 16 - front + (front + ((start - 1) / 16 + 1) + back) ≤ units
      gap_fits = ⊎_elim
          (λ lt. (let end : ℕ = place / 16 + ((start - 1) / 16 + 1) in
          let far : end + (get_or starts end 0 + 15) / 16 + get_or gaps end 0 ≤ units = keeps.tiles.within end (omega (arith, lt, back_is)) in
          let b = begins in omega (arith, far, back_is, b)))
          (λ ge. (let far : place / 16 + (get_or starts (place / 16) 0 + 15) / 16 + get_or gaps (place / 16) 0 ≤ units = keeps.tiles.within (place / 16) (let b = block in omega (arith, b)) in
          let b = begins in let w = width in omega (arith, far, ge, b, w)))
          (cases_lt 0 back)

  pub given_is : (starts1 : List ℕ) → starts1 ≡ set starts (place / 16) 0 → heap_of units starts1 ≡ without_block old place
  given_is starts1 s1 =
      ap (heap_of units) s1 ∙ without_block_is units (place / 16) starts ∙ ap (without_block (heap_of units starts)) (let e = at_place.place_is in omega (arith, e)) ∙ ap (λ h. without_block h place) view
