-- What holds of each reading of a production over good tokens, by its length or where no token passes a limit, from what holds of
-- those of its parts.
use Rattle.std.proofs.Common.{◌≡◌, ℕ, zero, suc, ◌+◌, ◌≤◌, false, List, [], ◌∷◌, ◌++◌, length, length-append, append_assoc, Option, Some, refl, sym, ap, subst, ◌∙◌, arith, inl, inr}
use Rattle.std.specs.List.{AllByRecursion}
use Rattle.grammar.specs.Syntax.{Syntax, none, gives, one, ◌then◌, choice, loop, many, knot_at, knot, deep, at_most}
use Rattle.grammar.specs.Exact.{IsExact, WithinLimits}

-- each value that G reads of good tokens is P at the number of its tokens
pub record EachOf {T A : Type 0} (Good : T → Type 0) (G : Syntax T A) (P : ℕ → A → Type 0) : Type 0 where
  pub holds : (a : List T) (x : A) → AllByRecursion Good a → G.reads a x → P (length a) x

all_before : {T : Type 0} (Good : T → Type 0) (a b : List T) → AllByRecursion Good (a ++ b) → AllByRecursion Good a
all_before Good [] b h = tt
all_before Good (t ∷ a) b h = (h.0, all_before Good a b h.1)

all_after : {T : Type 0} (Good : T → Type 0) (a b : List T) → AllByRecursion Good (a ++ b) → AllByRecursion Good b
all_after Good [] b h = h
all_after Good (t ∷ a) b h = all_after Good a b h.1

module _ {T : Type 0} {Good : T → Type 0} where
  pub each_more : {A : Type 0} {G : Syntax T A} {P Q : ℕ → A → Type 0} → ((k : ℕ) (x : A) → P k x → Q k x) → EachOf Good G P → EachOf Good G Q
  each_more h g = record { holds = λ a x o r. h (length a) x (g.holds a x o r) }

  pub each_none : {A : Type 0} {P : ℕ → A → Type 0} → EachOf Good none P
  each_none = record { holds = λ a x o r. absurd r }

  pub each_gives : {A : Type 0} {P : ℕ → A → Type 0} (x : A) → P 0 x → EachOf Good (gives x) P
  each_gives {P = P} x p = record { holds = λ a y o r. subst (λ (w : List T). P (length w) y) (sym r.0) (subst (P 0) r.1 p) }

  pub each_one : {A : Type 0} {P : ℕ → A → Type 0} (f : T → Option A) → ((t : T) (x : A) → Good t → f t ≡ Some x → P 1 x) → EachOf Good (one f) P
  each_one {P = P} f h = record { holds = λ a x o r. subst (λ (w : List T). P (length w) x) (sym r.1) (h r.0 x (subst (AllByRecursion Good) r.1 o).0 r.2) }

  pub each_then : {A B : Type 0} {G : Syntax T A} {H : A → Syntax T B} {P : ℕ → A → Type 0} {Q : ℕ → B → Type 0} → EachOf Good G P → ((k : ℕ) (x : A) → P k x → EachOf Good (H x) (λ l y. Q (k + l) y)) → EachOf Good (G then H) Q
  each_then {Q = Q} g h = record {
    holds = λ a y o r.
        let all = subst (AllByRecursion Good) r.3 o in
        let first = g.holds r.0 r.2 (all_before Good r.0 r.1 all) r.4 in
        subst (λ (w : List T). Q (length w) y) (sym r.3) (subst (λ k. Q k y) (sym (length-append r.0 r.1)) ((h (length r.0) r.2 first).holds r.1 y (all_after Good r.0 r.1 all) r.5));
  }

  pub each_choice : {A : Type 0} (K : T → ℕ) (ks : List ℕ) {G H : Syntax T A} {P : ℕ → A → Type 0} → EachOf Good G P → EachOf Good H P → EachOf Good (choice K ks G H) P
  each_choice {A} K ks {G} {H} {P} g h = record { holds = by }
    where
      by : (a : List T) (x : A) → AllByRecursion Good a → (choice K ks G H).reads a x → P (length a) x
      by a x o (inl r) = g.holds a x o r
      by a x o (inr r) = h.holds a x o r

  pub each_at_most : {A : Type 0} {label n : ℕ} {G : Syntax T A} {P : ℕ → A → Type 0} → EachOf Good G P → EachOf Good (at_most label n G) (λ k x. P k x × (k ≤ n))
  each_at_most g = record { holds = λ a x o r. (g.holds a x o r.0, r.1) }

  module _ {A : Type 0} (K : T → ℕ) (ks : A → List ℕ) {step : A → Syntax T A} {P : ℕ → A → Type 0} (turn : (k : ℕ) (x : A) → P k x → EachOf Good (step x) (λ l y. P (k + l) y)) where
    each_loop : (n k : ℕ) (x : A) → P k x → EachOf Good (loop K n ks step x) (λ l y. P (k + l) y)
    each_loop zero k x p = each_choice K (ks x) each_none (each_gives x (subst (λ j. P j x) (omega arith) p))
    each_loop (suc n) k x p =
        each_choice K (ks x)
        (each_then (turn k x p) (λ l y q. each_more (λ m z w. subst (λ j. P j z) (omega arith) w) (each_loop n (k + l) y q)))
        (each_gives x (subst (λ j. P j x) (omega arith) p))

    pub each_many : (k : ℕ) (x : A) → P k x → EachOf Good (many K ks step x) (λ l y. P (k + l) y)
    each_many k x p = record { holds = λ a y o r. (each_loop r.0 k x p).holds a y o r.1 }

  module _ {S A : Type 0} {F : (S → Syntax T A) → S → Syntax T A} {P : S → ℕ → A → Type 0} (step : (U : S → Syntax T A) → ((s : S) → EachOf Good (U s) (P s)) → (s : S) → EachOf Good (F U s) (P s)) where
    each_knot_at : (n : ℕ) (s : S) → EachOf Good (knot_at F n s) (P s)
    each_knot_at zero s = each_none
    each_knot_at (suc n) s = step (knot_at F n) (each_knot_at n) s

    pub each_knot : (s : S) → EachOf Good (knot F s) (P s)
    each_knot s = record { holds = λ a x o r. (each_knot_at r.0 s).holds a x o r.1 }

-- ---- where no token passes a limit

-- each value that G reads of good tokens, of which none passes a limit, is P
pub record EachWithin {T A : Type 0} (Good : T → Type 0) (G : Syntax T A) (P : A → Type 0) : Type 0 where
  pub holds : (a : List T) (x : A) → AllByRecursion Good a → G.reads a x → WithinLimits G a → P x

module _ {T : Type 0} {Good : T → Type 0} where
  pub within_any : {A : Type 0} {G : Syntax T A} → EachWithin Good G (λ x. Unit {0})
  within_any = record { holds = λ a x o r w. tt }

  pub within_more : {A : Type 0} {G : Syntax T A} {P Q : A → Type 0} → ((x : A) → P x → Q x) → EachWithin Good G P → EachWithin Good G Q
  within_more h g = record { holds = λ a x o r w. h x (g.holds a x o r w) }

  pub within_none : {A : Type 0} {P : A → Type 0} → EachWithin Good none P
  within_none = record { holds = λ a x o r w. absurd r }

  pub within_gives : {A : Type 0} {P : A → Type 0} (x : A) → P x → EachWithin Good (gives x) P
  within_gives {P = P} x p = record { holds = λ a y o r w. subst P r.1 p }

  pub within_one : {A : Type 0} {P : A → Type 0} (f : T → Option A) → ((t : T) (x : A) → Good t → f t ≡ Some x → P x) → EachWithin Good (one f) P
  within_one f h = record { holds = λ a x o r w. h r.0 x (subst (AllByRecursion Good) r.1 o).0 r.2 }

  -- what is late in the second part of a sequence is late after the first
  pub within_then : {A B : Type 0} {G : Syntax T A} {H : A → Syntax T B} {P : A → Type 0} {Q : B → Type 0} → EachWithin Good G P → ((x : A) → P x → EachWithin Good (H x) Q) → EachWithin Good (G then H) Q
  within_then g h = record {
    holds = λ a y o r w.
        let all = subst (AllByRecursion Good) r.3 o in
        let first = g.holds r.0 r.2 (all_before Good r.0 r.1 all) r.4 (λ i front t rest e l. w i front t (rest ++ r.1) (r.3 ∙ ap (λ (b : List T). b ++ r.1) e ∙ append_assoc front (t ∷ rest) r.1) (inl l)) in
        (h r.2 first).holds r.1 y (all_after Good r.0 r.1 all) r.5
        (λ i front t rest e l. w i (r.0 ++ front) t rest (r.3 ∙ ap (λ (c : List T). r.0 ++ c) e ∙ sym (append_assoc r.0 front (t ∷ rest))) (inr (r.0, front, r.2, refl, r.4, l)));
  }

  pub within_choice : {A : Type 0} (K : T → ℕ) (ks : List ℕ) {G H : Syntax T A} {P : A → Type 0} → EachWithin Good G P → EachWithin Good H P → EachWithin Good (choice K ks G H) P
  within_choice {A} K ks {G} {H} {P} g h = record { holds = by }
    where
      by : (a : List T) (x : A) → AllByRecursion Good a → (choice K ks G H).reads a x → WithinLimits (choice K ks G H) a → P x
      by a x o (inl r) w = g.holds a x o r (λ i front t rest e l. w i front t rest e (inl l))
      by a x o (inr r) w = h.holds a x o r (λ i front t rest e l. w i front t rest e (inr l))

  module _ {A : Type 0} (K : T → ℕ) (ks : A → List ℕ) {step : A → Syntax T A} {P : A → Type 0} (turn : (x : A) → P x → EachWithin Good (step x) P) where
    within_loop : (n : ℕ) (x : A) → P x → EachWithin Good (loop K n ks step x) P
    within_loop zero x p = within_choice K (ks x) within_none (within_gives x p)
    within_loop (suc n) x p = within_choice K (ks x) (within_then (turn x p) (λ y q. within_loop n y q)) (within_gives x p)

    pub within_many : (x : A) → P x → EachWithin Good (many K ks step x) P
    within_many x p = record { holds = λ a y o r w. (within_loop r.0 x p).holds a y o r.1 (λ i front t rest e l. w i front t rest e (r.0, l)) }

  -- what stands one deeper than a limit allows isn't read, since its first token passes the limit
  pub within_deep : {A : Type 0} {K : T → ℕ} {first : List ℕ} {more : A → List ℕ} {P : A → Type 0} (label : ℕ) (ks : List ℕ) {G : Syntax T A} → IsExact K G false first more → EachWithin Good (deep label K ks G) P
  within_deep {A} {K} {P = P} label ks {G} g = record { holds = by }
    where
      by : (a : List T) (x : A) → AllByRecursion Good a → G.reads a x → WithinLimits (deep label K ks G) a → P x
      by [] x o r w = absurd (let f = g.filled x r in cc)
      by (t ∷ a) x o r w = absurd (w label [] t a refl (refl, refl, g.fronts (t ∷ []) a (g.begins (t ∷ a) x r)))
