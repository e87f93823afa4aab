-- The tiles after a block takes the front of a gap.
use Rattle.std.proofs.Common.{◌≡◌, ℕ, ◌+◌, ◌-◌, ◌<◌, ◌≤◌, ◌⊎◌, inl, inr, ⊎_elim, ap, sym, ◌∙◌, arith}
use Rattle.std.proofs.lemmas.Bool.{cases_lt, cases_eq}
use Rattle.seg_heap.specs.Tiles.{IsHeld, AreTiles, AreBefore}

-- what stands at a unit then: the block, the rest of the gap, or what stood there before
data Stands (w g v h : ℕ → ℕ) (s c u : ℕ) : Type 0 where
  Here : u ≡ s → v u ≡ c → h u ≡ 0 → Stands w g v h s c u
  Rest : u ≡ s + c → c < g s → v u ≡ 0 → h u ≡ g s - c → Stands w g v h s c u
  Same : (u ≡ s → ⊥) → v u ≡ w u → h u ≡ g u → Stands w g v h s c u

module _ (units : ℕ) (w g v h : ℕ → ℕ) (s c : ℕ) (tiles : AreTiles units w g) (some : 0 < c) (fits : c ≤ g s) (v_here : v s ≡ c) (v_else : (u : ℕ) → (u ≡ s → ⊥) → v u ≡ w u) (h_here : h s ≡ 0) (h_rest : h (s + c) ≡ g s - c)
    (h_else : (u : ℕ) → (u ≡ s → ⊥) → (u ≡ s + c → ⊥) → h u ≡ g u) where
  no_block : w s ≡ 0
  no_block = ⊎_elim (λ lt. omega (arith, tiles.kind s lt, some, fits)) (λ ge. omega (arith, ge)) (cases_lt 0 (w s))

  stands : (u : ℕ) → Stands w g v h s c u
  stands u = first (cases_eq u s)
    where
      last : (u ≡ s → ⊥) → u ≡ s + c → (c < g s) ⊎ (g s ≤ c) → Stands w g v h s c u
      last ne e (inl lt) =
          let none : w u ≡ 0 = ⊎_elim (λ one. absurd (let far = tiles.apart s u (omega (arith, e, some)) (omega (arith, one)) in omega (arith, far, e, lt))) (λ ge. omega (arith, ge)) (cases_lt 0 (w u)) in
          Rest e lt (v_else u ne ∙ none) (ap h e ∙ h_rest)
      last ne e (inr ge) =
          Same ne (v_else u ne)
          (let end : u ≡ s + g s = omega (arith, e, ge, fits) in let none = tiles.widest s (omega (arith, some, fits)) in let a = ap g end in let b = ap h e in omega (arith, b, h_rest, ge, a, none))

      second : (u ≡ s → ⊥) → (u ≡ s + c) ⊎ (u ≡ s + c → ⊥) → Stands w g v h s c u
      second ne (inl e) = last ne e (cases_lt c (g s))
      second ne (inr other) = Same ne (v_else u ne) (h_else u ne other)

      first : (u ≡ s) ⊎ (u ≡ s → ⊥) → Stands w g v h s c u
      first (inl e) = Here e (ap v e ∙ v_here) (ap h e ∙ h_here)
      first (inr ne) = second ne (cases_eq u (s + c))

  kind : (u : ℕ) → Stands w g v h s c u → 0 < v u → h u ≡ 0
  kind u (Here e a b) lt = b
  kind u (Rest e more a b) lt = absurd (omega (arith, a, lt))
  kind u (Same ne a b) lt = b ∙ tiles.kind u (omega (arith, a, lt))

  within : (u : ℕ) → Stands w g v h s c u → 0 < v u + h u → u + v u + h u ≤ units
  within u (Here e a b) lt = omega (arith, e, a, b, tiles.within s (omega (arith, some, fits)), fits)
  within u (Rest e more a b) lt = omega (arith, e, a, b, tiles.within s (omega (arith, some, fits)), fits)
  within u (Same ne a b) lt = omega (arith, a, b, tiles.within u (omega (arith, a, b, lt)))

  apart : (u t : ℕ) → Stands w g v h s c u → Stands w g v h s c t → u < t → 0 < v t + h t → u + v u + h u ≤ t
  apart u t (Here e a b) (Here x y z) lt more = absurd (omega (arith, e, x, lt))
  apart u t (Here e a b) (Rest x l y z) lt more = omega (arith, e, a, b, x)
  apart u t (Here e a b) (Same x y z) lt more = let far = tiles.apart s t (omega (arith, e, lt)) (omega (arith, y, z, more)) in omega (arith, e, a, b, far, fits)
  apart u t (Rest e l a b) (Here x y z) lt more = absurd (omega (arith, e, x, lt))
  apart u t (Rest e l a b) (Rest x m y z) lt more = absurd (omega (arith, e, x, lt))
  apart u t (Rest e l a b) (Same x y z) lt more = let far = tiles.apart s t (omega (arith, e, lt)) (omega (arith, y, z, more)) in omega (arith, e, a, b, far, l)
  apart u t (Same e a b) (Here x y z) lt more = let far = tiles.apart u s (omega (arith, x, lt)) (omega (arith, some, fits)) in omega (arith, a, b, far, x)
  apart u t (Same e a b) (Rest x l y z) lt more = ⊎_elim
      (λ low. let far = tiles.apart u s low (omega (arith, some, fits)) in omega (arith, a, b, far, x))
      (λ high. ⊎_elim (λ none. omega (arith, a, b, none, lt)) (λ one. let far = tiles.apart s u (omega (arith, high, e)) one in absurd (omega (arith, far, x, lt, l))) (has (w u + g u)))
      (cases_lt u s)
    where
      has : (n : ℕ) → (n ≡ 0) ⊎ (0 < n)
      has n = ⊎_elim (λ lt. inr lt) (λ ge. inl (omega (arith, ge))) (cases_lt 0 n)
  apart u t (Same e a b) (Same x y z) lt more = let far = tiles.apart u t lt (omega (arith, y, z, more)) in omega (arith, a, b, far)

  held : (u : ℕ) (k : IsHeld w g u) → Stands w g v h s c k.start → IsHeld v h u
  held u k (Here e a b) = ⊎_elim
      (λ low. record { start = s; from = omega (arith, e, k.from); to = omega (arith, low, v_here) })
      (λ high. record { start = s + c; from = high; to = (let x = ap w e in let y = ap g e in let z = k.to in omega (arith, x, y, z, e, h_rest, no_block, fits)) })
      (cases_lt u (s + c))
  held u k (Rest e l a b) = absurd (let x = k.to in let y = k.from in let far = tiles.apart s k.start (omega (arith, e, some)) (omega (arith, x, y)) in omega (arith, far, e, l))
  held u k (Same ne a b) = record { start = k.start; from = k.from; to = (let x = k.to in omega (arith, x, a, b)) }

  widest : (u : ℕ) → Stands w g v h s c u → 0 < h u → h (u + h u) ≡ 0
  widest u (Here e a b) lt = absurd (omega (arith, b, lt))
  widest u (Rest e l a b) lt = ap h (end u e l b) ∙ h_else (s + g s) (λ f. omega (arith, f, l)) (λ f. omega (arith, f, l)) ∙ tiles.widest s (omega (arith, l))
    where
      end : (u : ℕ) → u ≡ s + c → c < g s → h u ≡ g s - c → u + h u ≡ s + g s
      end u e l b = omega (arith, e, l, b)
  widest u (Same ne a b) lt = ap h (end u b) ∙ at_end (omega (arith, b, lt)) (stands (u + g u))
    where
      end : (u : ℕ) → h u ≡ g u → u + h u ≡ u + g u
      end u b = omega (arith, b)

      at_end : 0 < g u → Stands w g v h s c (u + g u) → h (u + g u) ≡ 0
      at_end one (Here x y z) = z
      at_end one (Rest x l y z) = absurd (⊎_elim
          (λ low. let far = tiles.apart u s low (omega (arith, some, fits)) in omega (arith, far, x, some))
          (λ high. let far = tiles.apart s u (omega (arith, high, ne)) (omega (arith, one)) in omega (arith, far, x, l, one))
          (cases_lt u s))
      at_end one (Same x y z) = z ∙ tiles.widest u one

  pub taken : AreTiles units v h
  taken = record {
    kind = λ u. kind u (stands u);
    within = λ u. within u (stands u);
    apart = λ u t. apart u t (stands u) (stands t);
    whole = λ u lt. (let k = tiles.whole u lt in held u k (stands k.start));
    widest = λ u. widest u (stands u);
  }

  module _ (k l : ℕ → ℕ) (before : AreBefore w g k) (l_here : l s ≡ 0) (l_end : s + g s < units → l (s + g s) ≡ g s - c) (l_else : (u : ℕ) → (u ≡ s → ⊥) → (u ≡ s + g s → ⊥) → l u ≡ k u) where
    ends : (u : ℕ) → 0 < v u → 0 < l u → (u ≡ s) ⊎ (u ≡ s → ⊥) → (u ≡ s + g s) ⊎ (u ≡ s + g s → ⊥) → (start : ℕ) × (start + l u ≡ u) × (h start ≡ l u)
    ends u block lt (inl e) x = absurd (let a = ap l e in omega (arith, a, l_here, lt))
    ends u block lt (inr ne) (inl e) =
        let inside = taken.within u (omega (arith, block)) in
        let is = l_end (omega (arith, inside, e, block)) in
        let a = ap l e in (
          s + c,
          omega (arith, e, a, is, fits),
          (let b = h_rest in omega (arith, a, is, b)),
        )
    ends u block lt (inr ne) (inr other) =
        let is = l_else u ne other in
        let old = before.ends u (let a = v_else u ne in omega (arith, a, block)) (omega (arith, is, lt)) in (
          old.0,
          (let e = old.1 in omega (arith, e, is)),
          (let e = old.2 in start_stays old.0 (omega (arith, e, is, lt)) (λ f. (let x = ap g f in let y = old.1 in other (omega (arith, x, y, e, f)))) (stands old.0) ∙ e ∙ sym is),
        )
      where
        start_stays : (t : ℕ) → 0 < g t → (t ≡ s → ⊥) → Stands w g v h s c t → h t ≡ g t
        start_stays t one apart_of (Here e a b) = absurd (apart_of e)
        start_stays t one apart_of (Rest e l a b) = absurd (let far = tiles.apart s t (omega (arith, e, some)) (omega (arith, one)) in omega (arith, far, e, l))
        start_stays t one apart_of (Same e a b) = b

    all : (u : ℕ) → Stands w g v h s c u → 0 < h u → 0 < v (u + h u) → l (u + h u) ≡ h u
    all u (Here e a b) lt block = absurd (omega (arith, b, lt))
    all u (Rest e more a b) lt block =
        let end : u + h u ≡ s + g s = omega (arith, e, more, b) in
        let inside = taken.within (u + h u) (omega (arith, block)) in
        ap l end ∙ l_end (omega (arith, inside, end, block)) ∙ sym b
    all u (Same ne a b) lt block =
        let end : u + h u ≡ u + g u = omega (arith, b) in
        let one : 0 < g u = omega (arith, b, lt) in
        let here : u + g u ≡ s → ⊥ = λ f. (let x = tiles.widest u one in let y = ap g f in omega (arith, x, y, some, fits)) in
        let there : u + g u ≡ s + g s → ⊥ = λ f. ⊎_elim
        (λ low. let far = tiles.apart u s low (omega (arith, some, fits)) in omega (arith, far, f, some, fits))
        (λ high. let far = tiles.apart s u (omega (arith, high, ne)) (omega (arith, one)) in omega (arith, far, f, one))
        (cases_lt u s) in
        let x = ap v end in
        let y = v_else (u + g u) here in
        ap l end ∙ l_else (u + g u) here there ∙ before.all u one (omega (arith, x, y, block)) ∙ sym b

    pub taken_before : AreBefore v h l
    taken_before = record {
      ends = λ u block lt. ends u block lt (cases_eq u s) (cases_eq u (s + g s));
      all = λ u. all u (stands u);
    }
