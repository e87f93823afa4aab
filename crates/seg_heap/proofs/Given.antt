-- The tiles after a block is given up: it and the gaps at both sides of it are one gap.
use Rattle.std.proofs.Common.{◌≡◌, ℕ, ◌+◌, ◌<◌, ◌≤◌, ◌⊎◌, inl, inr, ⊎_elim, ap, sym, ◌∙◌, arith}
use Rattle.std.proofs.lemmas.Bool.{cases_lt, cases_eq}
use Rattle.seg_heap.specs.Tiles.{IsHeld, AreTiles, AreBefore}

-- The gap before a block: there is none, or so many units of it begin at p.
pub data Front (g : ℕ → ℕ) (u p f : ℕ) : Type 0 where
  Alone : p ≡ u → f ≡ 0 → ((t : ℕ) → 0 < g t → t + g t ≡ u → ⊥) → Front g u p f
  Gap : p + f ≡ u → 0 < f → g p ≡ f → Front g u p f

-- what stands at a unit then: the new gap, nothing that stood there, or what stood there before
data Stands (w g v h : ℕ → ℕ) (u p e n t : ℕ) : Type 0 where
  First : t ≡ p → v t ≡ 0 → h t ≡ n → Stands w g v h u p e n t
  Gone : p < t → t + w t + g t ≤ p + n → v t ≡ 0 → h t ≡ 0 → Stands w g v h u p e n t
  Same : (t ≡ p → ⊥) → (t ≡ u → ⊥) → (t ≡ e) × (g e ≡ 0) ⊎ (t ≡ e → ⊥) → v t ≡ w t → h t ≡ g t → Stands w g v h u p e n t

module _ (units : ℕ) (w g v h : ℕ → ℕ) (u p f e n : ℕ) (tiles : AreTiles units w g) (block : 0 < w u) (front : Front g u p f) (at_end : e ≡ u + w u) (count : n ≡ f + w u + g e) (begins : p + f ≡ u)
    (v_here : v u ≡ 0) (v_else : (t : ℕ) → (t ≡ u → ⊥) → v t ≡ w t) (h_here : h p ≡ n) (h_end : h e ≡ 0) (h_else : (t : ℕ) → (t ≡ p → ⊥) → (t ≡ e → ⊥) → h t ≡ g t) where
  no_gap : g u ≡ 0
  no_gap = tiles.kind u block

  first_empty : Front g u p f → v p ≡ 0
  first_empty (Alone a b c) = ap v a ∙ v_here
  first_empty (Gap a b c) =
      let ne : p ≡ u → ⊥ = λ x. omega (arith, x, a, b) in
      v_else p ne ∙ ⊎_elim (λ lt. absurd (let k = tiles.kind p lt in omega (arith, k, b, c))) (λ ge. omega (arith, ge)) (cases_lt 0 (w p))

  stands : (t : ℕ) → Stands w g v h u p e n t
  stands t = first (cases_eq t p)
    where
      at_the_end : (t ≡ p → ⊥) → (t ≡ u → ⊥) → t ≡ e → (0 < g e) ⊎ (g e ≤ 0) → Stands w g v h u p e n t
      at_the_end np nu x (inl lt) =
          let none : w e ≡ 0 = ⊎_elim (λ one. absurd (let k = tiles.kind e one in omega (arith, k, lt))) (λ ge. omega (arith, ge)) (cases_lt 0 (w e)) in
          let a = ap w x in
          let b = ap g x in
          Gone (omega (arith, x, at_end, block, begins)) (omega (arith, x, a, b, none, count, at_end, begins)) (v_else t nu ∙ a ∙ none) (ap h x ∙ h_end)
      at_the_end np nu x (inr ge) =
          let b = ap g x in
          Same np nu (inl (x, omega (arith, ge))) (v_else t nu) (ap h x ∙ h_end ∙ (omega (arith, b, ge)))

      third : (t ≡ p → ⊥) → (t ≡ u → ⊥) → (t ≡ e) ⊎ (t ≡ e → ⊥) → Stands w g v h u p e n t
      third np nu (inl x) = at_the_end np nu x (cases_lt 0 (g e))
      third np nu (inr ne) = Same np nu (inr ne) (v_else t nu) (h_else t np ne)

      second : (t ≡ p → ⊥) → (t ≡ u) ⊎ (t ≡ u → ⊥) → Stands w g v h u p e n t
      second np (inl x) =
          let a = ap w x in
          let b = ap g x in
          Gone (omega (arith, x, np, begins)) (omega (arith, x, a, b, no_gap, count, begins)) (ap v x ∙ v_here) (h_else t np (λ y. omega (arith, x, y, at_end, block)) ∙ b ∙ no_gap)
      second np (inr nu) = third np nu (cases_eq t e)

      first : (t ≡ p) ⊎ (t ≡ p → ⊥) → Stands w g v h u p e n t
      first (inl x) = First x (ap v x ∙ first_empty front) (ap h x ∙ h_here)
      first (inr np) = second np (cases_eq t u)

  -- what lies before the gap, and behind it
  ahead : Front g u p f → (t : ℕ) → t < p → t + w t + g t ≤ p
  ahead (Alone a b c) t lt = let far = tiles.apart t u (omega (arith, a, lt)) (omega (arith, block)) in omega (arith, far, a)
  ahead (Gap a b c) t lt = tiles.apart t p lt (omega (arith, b, c))

  after_block : Front g u p f → (t : ℕ) → p < t → 0 < w t + g t → (t ≡ u → ⊥) → e ≤ t
  after_block (Alone a b c) t lt one nu = let far = tiles.apart u t (omega (arith, a, lt)) one in omega (arith, far, at_end)
  after_block (Gap a b c) t lt one nu =
      let near = tiles.apart p t lt one in
      let far = tiles.apart u t (omega (arith, near, a, c, nu)) one in
      omega (arith, far, at_end)

  behind : (t : ℕ) → p < t → 0 < w t + g t → (t ≡ u → ⊥) → (t ≡ e) × (g e ≡ 0) ⊎ (t ≡ e → ⊥) → p + n ≤ t
  behind t lt one nu (inl x) = let a = x.0 in let b = x.1 in omega (arith, a, b, count, begins, at_end)
  behind t lt one nu (inr ne) =
      let low = after_block front t lt one nu in
      let far = tiles.apart e t (omega (arith, low, ne)) one in
      omega (arith, far, count, begins, at_end)

  kind : (t : ℕ) → Stands w g v h u p e n t → 0 < v t → h t ≡ 0
  kind t (First x a b) lt = absurd (omega (arith, a, lt))
  kind t (Gone x y a b) lt = b
  kind t (Same np nu x a b) lt = b ∙ tiles.kind t (omega (arith, a, lt))

  pub fits : p + n ≤ units
  fits = ⊎_elim
      (λ lt. let far = tiles.within e (omega (arith, lt)) in omega (arith, far, count, begins, at_end))
      (λ ge. let far = tiles.within u (omega (arith, block)) in omega (arith, far, ge, count, begins, at_end))
      (cases_lt 0 (g e))

  within : (t : ℕ) → Stands w g v h u p e n t → 0 < v t + h t → t + v t + h t ≤ units
  within t (First x a b) lt = omega (arith, x, a, b, fits)
  within t (Gone x y a b) lt = absurd (omega (arith, a, b, lt))
  within t (Same np nu x a b) lt = let far = tiles.within t (omega (arith, a, b, lt)) in omega (arith, far, a, b)

  apart : (s t : ℕ) → Stands w g v h u p e n s → Stands w g v h u p e n t → s < t → 0 < v t + h t → s + v s + h s ≤ t
  apart s t k (Gone x y a b) lt one = absurd (omega (arith, a, b, one))
  apart s t (First x a b) (First y c d) lt one = absurd (omega (arith, x, y, lt))
  apart s t (Gone x y a b) (First z c d) lt one = absurd (omega (arith, x, z, lt))
  apart s t (Same np nu x a b) (First y c d) lt one = let far = ahead front s (omega (arith, y, lt)) in omega (arith, far, a, b, y)
  apart s t (First x a b) (Same np nu y c d) lt one = let far = behind t (omega (arith, x, lt)) (omega (arith, c, d, one)) nu y in omega (arith, far, x, a, b)
  apart s t (Gone x y a b) (Same np nu z c d) lt one = omega (arith, a, b, lt)
  apart s t (Same np nu x a b) (Same mp mu y c d) lt one = let far = tiles.apart s t lt (omega (arith, c, d, one)) in omega (arith, far, a, b)

  covers : Front g u p f → w p + g p ≤ n
  covers (Alone a b c) = let x = ap w a in let y = ap g a in omega (arith, x, y, no_gap, count)
  covers (Gap a b c) = ⊎_elim (λ lt. absurd (let k = tiles.kind p lt in omega (arith, k, b, c))) (λ ge. omega (arith, ge, c, count)) (cases_lt 0 (w p))

  held : (t : ℕ) (k : IsHeld w g t) → Stands w g v h u p e n k.start → IsHeld v h t
  held t k (First x a b) =
      let from = k.from in
      let to = k.to in
      let y = ap w x in
      let z = ap g x in
      let most = covers front in
      record { start = p; from = omega (arith, x, from); to = omega (arith, x, to, y, z, most, h_here) }
  held t k (Gone x y a b) = let from = k.from in let to = k.to in record { start = p; from = omega (arith, x, from); to = omega (arith, y, to, h_here) }
  held t k (Same np nu x a b) = let to = k.to in record { start = k.start; from = k.from; to = omega (arith, to, a, b) }

  not_front : Front g u p f → (t : ℕ) → 0 < g t → t + g t ≡ p → ⊥
  not_front (Alone a b c) t one x = c t one (x ∙ a)
  not_front (Gap a b c) t one x = let none = tiles.widest t one in let y = ap g x in omega (arith, none, y, b, c)

  widest : (t : ℕ) → Stands w g v h u p e n t → 0 < h t → h (t + h t) ≡ 0
  widest t (First x a b) lt = ap h (omega_end t x b) ∙ last (cases_lt 0 (g e))
    where
      omega_end : (t : ℕ) → t ≡ p → h t ≡ n → t + h t ≡ e + g e
      omega_end t x b = omega (arith, x, b, count, begins, at_end)

      last : (0 < g e) ⊎ (g e ≤ 0) → h (e + g e) ≡ 0
      last (inl one) = h_else (e + g e) (λ y. omega (arith, y, begins, at_end, block)) (λ y. omega (arith, y, one)) ∙ tiles.widest e one
      last (inr none) = ap h (same none) ∙ h_end
        where
          same : g e ≤ 0 → e + g e ≡ e
          same none = omega (arith, none)
  widest t (Gone x y a b) lt = absurd (omega (arith, b, lt))
  widest t (Same np nu x a b) lt = ap h (end t b) ∙ last (omega (arith, b, lt)) (stands (t + g t))
    where
      end : (t : ℕ) → h t ≡ g t → t + h t ≡ t + g t
      end t b = omega (arith, b)

      last : 0 < g t → Stands w g v h u p e n (t + g t) → h (t + g t) ≡ 0
      last one (First y c d) = absurd (not_front front t one y)
      last one (Gone y z c d) = d
      last one (Same mp mu y c d) = d ∙ tiles.widest t one

  pub given : AreTiles units v h
  given = record {
    kind = λ t. kind t (stands t);
    within = λ t. within t (stands t);
    apart = λ s t. apart s t (stands s) (stands t);
    whole = λ t lt. (let k = tiles.whole t lt in held t k (stands k.start));
    widest = λ t. widest t (stands t);
  }

  module _ (k l : ℕ → ℕ) (before : AreBefore w g k) (l_end : p + n < units → l (p + n) ≡ n) (l_else : (t : ℕ) → (t ≡ p + n → ⊥) → l t ≡ k t) where
    ends : (t : ℕ) → 0 < v t → 0 < l t → (t ≡ p + n) ⊎ (t ≡ p + n → ⊥) → (start : ℕ) × (start + l t ≡ t) × (h start ≡ l t)
    ends t one lt (inl x) =
        let inside = given.within t (omega (arith, one)) in
        let is = l_end (omega (arith, inside, x, one)) in
        let a = ap l x in (p, omega (arith, x, a, is), omega (arith, h_here, a, is))
    ends t one lt (inr ne) =
        let is = l_else t ne in
        let nu : t ≡ u → ⊥ = λ x. (let a = ap v x in omega (arith, a, v_here, one)) in
        let old = before.ends t (let a = v_else t nu in omega (arith, a, one)) (omega (arith, is, lt)) in
        let at = old.1 in
        let long = old.2 in (
          old.0,
          omega (arith, at, is),
          start_stays old.0 (omega (arith, long, is, lt)) (λ x. nu (omega (arith, x, at, long))) (λ x. ne (omega (arith, x, at, long))) (stands old.0) ∙ long ∙ sym is,
        )
      where
        front_ends : Front g u p f → (s : ℕ) → s ≡ p → 0 < g s → s + g s ≡ u
        front_ends (Alone a b c) s x one = absurd (let y = ap g x in let z = ap g a in omega (arith, y, z, no_gap, one))
        front_ends (Gap a b c) s x one = let y = ap g x in omega (arith, y, a, c, x)

        start_stays : (s : ℕ) → 0 < g s → (s + g s ≡ u → ⊥) → (s + g s ≡ p + n → ⊥) → Stands w g v h u p e n s → h s ≡ g s
        start_stays s one not_u not_end (First x a b) = absurd (not_u (front_ends front s x one))
        start_stays s one not_u not_end (Gone x y a b) = absurd (not_end (gone_ends s x y one (cases_eq s u) (cases_eq s e)))
          where
            gone_ends : (s : ℕ) → p < s → s + w s + g s ≤ p + n → 0 < g s → (s ≡ u) ⊎ (s ≡ u → ⊥) → (s ≡ e) ⊎ (s ≡ e → ⊥) → s + g s ≡ p + n
            gone_ends s x y one (inl z) other = absurd (let m = ap g z in omega (arith, m, no_gap, one))
            gone_ends s x y one (inr nu) (inl z) = let m = ap g z in omega (arith, m, z, count, begins, at_end)
            gone_ends s x y one (inr nu) (inr ne) = let far = behind s x (omega (arith, one)) nu (inr ne) in omega (arith, far, y, one)
        start_stays s one not_u not_end (Same np nu x a b) = b

    all : (t : ℕ) → Stands w g v h u p e n t → 0 < h t → 0 < v (t + h t) → l (t + h t) ≡ h t
    all t (First x a b) lt one =
        let end : t + h t ≡ p + n = omega (arith, x, b) in
        let inside = given.within (t + h t) (omega (arith, one)) in
        ap l end ∙ l_end (omega (arith, inside, end, one)) ∙ sym b
    all t (Gone x y a b) lt one = absurd (omega (arith, b, lt))
    all t (Same np nu x a b) lt one =
        let end : t + h t ≡ t + g t = omega (arith, b) in
        let some : 0 < g t = omega (arith, b, lt) in
        let not_u : t + g t ≡ u → ⊥ = λ y. (let c = ap v end in let d = ap v y in omega (arith, c, d, v_here, one)) in
        let not_end : t + g t ≡ p + n → ⊥ = λ y. ⊎_elim
        (λ low. let far = ahead front t low in omega (arith, far, y, count, block))
        (λ high. let far = behind t (omega (arith, high, np)) (omega (arith, some)) nu x in omega (arith, far, y, some))
        (cases_lt t p) in
        let c = ap v end in
        let d = v_else (t + g t) not_u in
        ap l end ∙ l_else (t + g t) not_end ∙ before.all t some (omega (arith, c, d, one)) ∙ sym b

    pub given_before : AreBefore v h l
    given_before = record {
      ends = λ t one lt. ends t one lt (cases_eq t (p + n));
      all = λ t. all t (stands t);
    }
