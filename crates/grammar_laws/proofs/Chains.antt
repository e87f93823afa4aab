-- A production whose parts grow reads, begins and limits what it does with one of them. So what stands in itself is its production.
use Rattle.std.proofs.Common.{ℕ, zero, suc, ◌+◌, ◌≤◌, List, [], inl, inr, arith}
use Rattle.grammar.specs.Syntax.{Syntax, none, gives, ◌then◌, choice, loop, many, limit, knot_at, knot}
use Rattle.grammar.specs.Exact.{Same}
use Rattle.grammar_laws.proofs.Inclusions.{Within, itself, each, nothing, in_turn}

pub record Reaches {T A : Type 0} (G : ℕ → Syntax T A) (H : Syntax T A) : Type 0 where
  pub up : (j k : ℕ) → j ≤ k → Within (G j) (G k)
  pub into : (k : ℕ) → Within (G k) H
  pub reads : (a : List T) (x : A) → H.reads a x → (k : ℕ) × (G k).reads a x
  pub begun : (a : List T) → H.begun a → (k : ℕ) × (G k).begun a
  pub late : (i : ℕ) (a : List T) (t : T) → H.late i a t → (k : ℕ) × (G k).late i a t

pub still : {T A : Type 0} (G : Syntax T A) → Reaches (λ _. G) G
still G = record {
  up = λ j k l. itself G;
  into = λ k. itself G;
  reads = λ a x r. (0, r);
  begun = λ a b. (0, b);
  late = λ i a t l. (0, l);
}

module _ {T A B : Type 0} {G : ℕ → Syntax T A} {G' : Syntax T A} {H : ℕ → A → Syntax T B} {H' : A → Syntax T B} (g : Reaches G G') (h : (x : A) → Reaches (λ k. H k x) (H' x)) where
  sequence_reads : (a : List T) (y : B) → (G' then H').reads a y → (k : ℕ) × (G k then H k).reads a y
  sequence_reads a y (b, c, x, e, r, s) =
      let p = g.reads b x r in
      let q = (h x).reads c y s in
      (p.0 + q.0, (b, c, x, e, (g.up p.0 (p.0 + q.0) (omega arith)).reads b x p.1, ((h x).up q.0 (p.0 + q.0) (omega arith)).reads c y q.1))

  sequence_begun : (a : List T) → (G' then H').begun a → (k : ℕ) × (G k then H k).begun a
  sequence_begun a (inl s) = let p = g.begun a s in (p.0, inl p.1)
  sequence_begun a (inr (b, c, x, e, r, s)) =
      let p = g.reads b x r in
      let q = (h x).begun c s in
      (p.0 + q.0, inr (b, c, x, e, (g.up p.0 (p.0 + q.0) (omega arith)).reads b x p.1, ((h x).up q.0 (p.0 + q.0) (omega arith)).begun c q.1))

  sequence_late : (i : ℕ) (a : List T) (t : T) → (G' then H').late i a t → (k : ℕ) × (G k then H k).late i a t
  sequence_late i a t (inl s) = let p = g.late i a t s in (p.0, inl p.1)
  sequence_late i a t (inr (b, c, x, e, r, s)) =
      let p = g.reads b x r in
      let q = (h x).late i c t s in
      (p.0 + q.0, inr (b, c, x, e, (g.up p.0 (p.0 + q.0) (omega arith)).reads b x p.1, ((h x).up q.0 (p.0 + q.0) (omega arith)).late i c t q.1))

  pub sequence : Reaches (λ k. G k then H k) (G' then H')
  sequence = record {
    up = λ j k l. in_turn (g.up j k l) (λ x. (h x).up j k l);
    into = λ k. in_turn (g.into k) (λ x. (h x).into k);
    reads = sequence_reads;
    begun = sequence_begun;
    late = sequence_late;
  }

module _ {T A : Type 0} (K : T → ℕ) (ks : List ℕ) {G H : ℕ → Syntax T A} {G' H' : Syntax T A} (g : Reaches G G') (h : Reaches H H') where
  choice_reads : (a : List T) (x : A) → (choice K ks G' H').reads a x → (k : ℕ) × (choice K ks (G k) (H k)).reads a x
  choice_reads a x (inl r) = let p = g.reads a x r in (p.0, inl p.1)
  choice_reads a x (inr r) = let p = h.reads a x r in (p.0, inr p.1)

  choice_begun : (a : List T) → (choice K ks G' H').begun a → (k : ℕ) × (choice K ks (G k) (H k)).begun a
  choice_begun a (inl r) = let p = g.begun a r in (p.0, inl p.1)
  choice_begun a (inr r) = let p = h.begun a r in (p.0, inr p.1)

  choice_late : (i : ℕ) (a : List T) (t : T) → (choice K ks G' H').late i a t → (k : ℕ) × (choice K ks (G k) (H k)).late i a t
  choice_late i a t (inl r) = let p = g.late i a t r in (p.0, inl p.1)
  choice_late i a t (inr r) = let p = h.late i a t r in (p.0, inr p.1)

  pub alternatives : Reaches (λ k. choice K ks (G k) (H k)) (choice K ks G' H')
  alternatives = record {
    up = λ j k l. each K ks K ks (g.up j k l) (h.up j k l);
    into = λ k. each K ks K ks (g.into k) (h.into k);
    reads = choice_reads;
    begun = choice_begun;
    late = choice_late;
  }

-- what is so at each bound is so at any
module _ {T A : Type 0} {F : ℕ → ℕ → Syntax T A} {F' : ℕ → Syntax T A} (g : (n : ℕ) → Reaches (λ k. F k n) (F' n)) where
  limit_within : (j k : ℕ) → j ≤ k → Within (limit (F j)) (limit (F k))
  limit_within j k l = record {
    reads = λ a x r. (r.0, ((g r.0).up j k l).reads a x r.1);
    begun = λ a r. (r.0, ((g r.0).up j k l).begun a r.1);
    late = λ i a t r. (r.0, ((g r.0).up j k l).late i a t r.1);
  }

  limit_into : (k : ℕ) → Within (limit (F k)) (limit F')
  limit_into k = record {
    reads = λ a x r. (r.0, ((g r.0).into k).reads a x r.1);
    begun = λ a r. (r.0, ((g r.0).into k).begun a r.1);
    late = λ i a t r. (r.0, ((g r.0).into k).late i a t r.1);
  }

  pub limits : Reaches (λ k. limit (F k)) (limit F')
  limits = record {
    up = limit_within;
    into = limit_into;
    reads = λ a x r. let p = (g r.0).reads a x r.1 in (p.0, (r.0, p.1));
    begun = λ a r. let p = (g r.0).begun a r.1 in (p.0, (r.0, p.1));
    late = λ i a t r. let p = (g r.0).late i a t r.1 in (p.0, (r.0, p.1));
  }

-- a repetition
module _ {T A : Type 0} (K : T → ℕ) (ks : A → List ℕ) {step : ℕ → A → Syntax T A} {step' : A → Syntax T A} (g : (x : A) → Reaches (λ k. step k x) (step' x)) where
  loop_reaches : (n : ℕ) (x : A) → Reaches (λ k. loop K n ks (step k) x) (loop K n ks step' x)
  loop_reaches zero x = alternatives K (ks x) (still none) (still (gives x))
  loop_reaches (suc n) x = alternatives K (ks x) (sequence (g x) (λ y. loop_reaches n y)) (still (gives x))

  pub repetition : (x : A) → Reaches (λ k. many K ks (step k) x) (many K ks step' x)
  repetition x = limits {F = λ k n. loop K n ks (step k) x} {F' = λ n. loop K n ks step' x} (λ n. loop_reaches n x)

-- what stands in itself, where its production grows
module _ {T S A : Type 0} (F : ℕ → (S → Syntax T A) → S → Syntax T A) (F' : (S → Syntax T A) → S → Syntax T A)
    (step : (U : ℕ → S → Syntax T A) (U' : S → Syntax T A) → ((s : S) → Reaches (λ k. U k s) (U' s)) → (s : S) → Reaches (λ k. F k (U k) s) (F' U' s)) where
  knot_at_reaches : (n : ℕ) (s : S) → Reaches (λ k. knot_at (F k) n s) (knot_at F' n s)
  knot_at_reaches zero s = still none
  knot_at_reaches (suc n) s = step (λ k. knot_at (F k) n) (knot_at F' n) (knot_at_reaches n) s

  pub inner_knot : (s : S) → Reaches (λ k. knot (F k) s) (knot F' s)
  inner_knot s = limits {F = λ k n. knot_at (F k) n s} {F' = λ n. knot_at F' n s} (λ n. knot_at_reaches n s)

-- one production, and another from there on
abbrev one_of_two : {T S A : Type 0} → (S → Syntax T A) → (S → Syntax T A) → ℕ → S → Syntax T A
one_of_two U U' zero = U
one_of_two U U' (suc k) = U'

-- what stands in itself is its production
module _ {T S A : Type 0} (F : (S → Syntax T A) → S → Syntax T A) (empty : (U : S → Syntax T A) (s : S) → (F U s).begun [])
    (step : (U : ℕ → S → Syntax T A) (U' : S → Syntax T A) → ((s : S) → Reaches (λ k. U k s) (U' s)) → (s : S) → Reaches (λ k. F (U k) s) (F U' s)) where
  two_reach : (U U' : S → Syntax T A) → ((s : S) → Within (U s) (U' s)) → (s : S) → Reaches (λ k. one_of_two U U' k s) (U' s)
  two_reach U U' w s = record {
    up = rising;
    into = below;
    reads = λ a x r. (suc zero, r);
    begun = λ a r. (suc zero, r);
    late = λ i a t r. (suc zero, r);
  }
    where
      rising : (j k : ℕ) → j ≤ k → Within (one_of_two U U' j s) (one_of_two U U' k s)
      rising zero zero l = itself (U s)
      rising zero (suc k) l = w s
      rising (suc j) zero l = absurd (omega arith)
      rising (suc j) (suc k) l = itself (U' s)

      below : (k : ℕ) → Within (one_of_two U U' k s) (U' s)
      below zero = w s
      below (suc k) = itself (U' s)

  grown : (U U' : S → Syntax T A) → ((s : S) → Within (U s) (U' s)) → (s : S) → Within (F U s) (F U' s)
  grown U U' w s = (step (one_of_two U U') U' (two_reach U U' w) s).into zero

  rising_at : (j k : ℕ) → j ≤ k → (s : S) → Within (knot_at F j s) (knot_at F k s)
  rising_at zero zero l s = itself none
  rising_at zero (suc k) l s = nothing (F (knot_at F k) s) (empty (knot_at F k) s)
  rising_at (suc j) zero l s = absurd (omega arith)
  rising_at (suc j) (suc k) l s = grown (knot_at F j) (knot_at F k) (rising_at j k (omega arith)) s

  pub reached : (s : S) → Reaches (λ k. knot_at F k s) (knot F s)
  reached s = record {
    up = λ j k l. rising_at j k l s;
    into = λ k. record { reads = λ a x r. (k, r); begun = λ a r. (k, r); late = λ i a t r. (k, r) };
    reads = λ a x r. r;
    begun = λ a r. r;
    late = λ i a t r. r;
  }

  turned : (s : S) → Reaches (λ k. F (knot_at F k) s) (F (knot F) s)
  turned s = step (knot_at F) (knot F) reached s

  at_depth : (k : ℕ) (s : S) → Within (knot_at F k s) (F (knot F) s)
  at_depth zero s = nothing (F (knot F) s) (empty (knot F) s)
  at_depth (suc k) s = (turned s).into k

  pub knot_line : (s : S) → Same (knot F s) (F (knot F) s)
  knot_line s = record {
    reads = λ a x r. (at_depth r.0 s).reads a x r.1;
    begun = λ a r. (at_depth r.0 s).begun a r.1;
    late = λ i a t r. (at_depth r.0 s).late i a t r.1;
    reads_back = λ a x r. let p = (turned s).reads a x r in (suc p.0, p.1);
    begun_back = λ a r. let p = (turned s).begun a r in (suc p.0, p.1);
    late_back = λ i a t r. let p = (turned s).late i a t r in (suc p.0, p.1);
  }
