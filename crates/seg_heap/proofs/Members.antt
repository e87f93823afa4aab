-- Which blocks are live after one is taken or given up.
use Rattle.std.proofs.Common.{◌≡◌, ◌≢◌, ℕ, zero, suc, ◌<◌, ◌⊎◌, inl, inr, ⊎_elim, Bool, true, not, nat_lt, ◌==◌, List, [], ◌∷◌, length, get_or, Option, Some, None, IfSome, IfNone, refl, ap, sym, ◌∙◌, subst, arith, Contains, filter}
use Rattle.std.proofs.lemmas.Bool.{cases_eq, cases_order, cond_both, not_from_true, both_ways, lt-ltb, ne_eqb, eq-eqb, not_from_false}
use Rattle.std.proofs.lemmas.List.Elements.{All-contains, All-filter, All-contains_itself, filter_passes, Contains-get_or, Contains-append_left, Contains-append_right, Contains-append_cases}
use Rattle.seg_heap.specs.Placement.{Live, Heap, IsStart, blocks_before, blocks_behind, with_block, without_block}

module _ {X : Type 0} where
  Contains-cons : (y x : X) (ys : List X) → Contains ys x → Contains (y ∷ ys) x
  Contains-cons y x ys c = (suc c.0, omega (arith, c.1), c.2)

  Contains-filter : (p : X → Bool) (xs : List X) (x : X) → Contains xs x → p x ≡ true → Contains (filter p xs) x
  Contains-filter p xs x c pass = at p xs x c.0 c.1 c.2 pass
    where
      at : (p : X → Bool) (xs : List X) (x : X) (k : ℕ) → k < length xs → get_or xs k x ≡ x → p x ≡ true → Contains (filter p xs) x
      at p [] x k lt e pass = absurd (omega (arith, lt))
      at p (y ∷ ys) x zero lt e pass =
          cond_both (p y) (y ∷ filter p ys) (filter p ys) (λ l. Contains l x) (λ t. (0, omega arith, e)) (λ f. absurd (both_ways (p y) f (ap p e ∙ pass)))
      at p (y ∷ ys) x (suc k) lt e pass =
          let rest = at p ys x k (omega (arith, lt)) e pass in
          cond_both (p y) (y ∷ filter p ys) (filter p ys) (λ l. Contains l x) (λ t. Contains-cons y x (filter p ys) rest) (λ f. rest)

  Contains-from_filter : (p : X → Bool) (xs : List X) (x : X) → Contains (filter p xs) x → Contains xs x × (p x ≡ true)
  Contains-from_filter p xs x c =
      (All-contains (Contains xs) (filter p xs) x (All-filter p (Contains xs) xs (All-contains_itself xs)) c, All-contains (λ y. p y ≡ true) (filter p xs) x (filter_passes p xs) c)

module _ (heap : Heap) (place size : ℕ) where
  -- the new block is live
  pub with_block_has : Contains (with_block heap place size).live (record { place = place; length = size })
  with_block_has =
      let block : Live = record { place = place; length = size } in
      Contains-append_right (blocks_before heap place) (block ∷ blocks_behind heap place) block (Contains-get_or (block ∷ blocks_behind heap place) 0 block (omega arith))

  -- the others stay live
  pub with_block_keeps : (block : Live) → Contains heap.live block → block.place ≢ place → Contains (with_block heap place size).live block
  with_block_keeps block c other =
      let new : Live = record { place = place; length = size } in
      ⊎_elim (λ same. absurd (other same))
      (⊎_elim
      (λ before. Contains-append_left (blocks_before heap place) (new ∷ blocks_behind heap place) block (Contains-filter (λ b. nat_lt b.place place) heap.live block c (lt-ltb block.place place before)))
      (λ behind. Contains-append_right (blocks_before heap place) (new ∷ blocks_behind heap place) block
      (Contains-cons new block (blocks_behind heap place) (Contains-filter (λ b. nat_lt place b.place) heap.live block c (lt-ltb place block.place behind)))))
      (cases_order block.place place)

  -- and no other block is
  pub with_block_only : (block : Live) → Contains (with_block heap place size).live block → (block ≡ record { place = place; length = size }) ⊎ Contains heap.live block
  with_block_only block c =
      let new : Live = record { place = place; length = size } in
      ⊎_elim
      (λ before. inr (Contains-from_filter (λ b. nat_lt b.place place) heap.live block before).0)
      (λ rest. ⊎_elim (λ is. inl is) (λ behind. inr (Contains-from_filter (λ b. nat_lt place b.place) heap.live block behind).0) (head_or_rest new block (blocks_behind heap place) rest))
      (Contains-append_cases (blocks_before heap place) (new ∷ blocks_behind heap place) block c)
    where
      split : (y x : Live) (ys : List Live) (k : ℕ) → k < suc (length ys) → get_or (y ∷ ys) k x ≡ x → (x ≡ y) ⊎ Contains ys x
      split y x ys zero lt e = inl (sym e)
      split y x ys (suc k) lt e = inr (k, omega (arith, lt), e)

      head_or_rest : (y x : Live) (ys : List Live) → Contains (y ∷ ys) x → (x ≡ y) ⊎ Contains ys x
      head_or_rest y x ys c = split y x ys c.0 c.1 c.2

module _ (heap : Heap) (place : ℕ) where
  pub without_block_keeps : (block : Live) → Contains heap.live block → block.place ≢ place → Contains (without_block heap place).live block
  without_block_keeps block c other = Contains-filter (λ b. not (b.place == place)) heap.live block c (not_from_false (block.place == place) (ne_eqb block.place place other))

  pub without_block_only : (block : Live) → Contains (without_block heap place).live block → Contains heap.live block × (block.place ≢ place)
  without_block_only block c =
      let kept = Contains-from_filter (λ b. not (b.place == place)) heap.live block c in
      (kept.0, λ same. both_ways (not (block.place == place)) (not_from_true (block.place == place) (eq-eqb block.place place same)) kept.1)

-- a block's start stays one, whatever is taken
pub start_kept : (heap after : Heap) (size : ℕ) (taken : Option ℕ) → IfSome taken (λ place. after ≡ with_block heap place size) → IfNone taken (after ≡ heap) → (start : ℕ) → IsStart heap start → IsStart after start
start_kept heap after size None some none start is = subst (λ h. IsStart h start) (sym none) is
start_kept heap after size (Some place) some none start is =
    let block = is.1 in
    let in' : Contains heap.live block = (is.0, is.2, is.3) in
    subst (λ h. IsStart h start) (sym some)
    (⊎_elim
    (λ same. let c = with_block_has heap place size in (c.0, record { place = place; length = size }, c.1, c.2, sym same ∙ is.4))
    (λ other. let c = with_block_keeps heap place size block in' other in (c.0, block, c.1, c.2, is.4))
    (cases_eq block.place place))

pub start_taken : (heap after : Heap) (size place : ℕ) → after ≡ with_block heap place size → IsStart after place
start_taken heap after size place is =
    let c = with_block_has heap place size in
    subst (λ h. IsStart h place) (sym is) (c.0, record { place = place; length = size }, c.1, c.2, refl)
