-- What holds of each token that passes a limit, by the limit's label, from what holds of those of a production's parts.
use Rattle.std.proofs.Common.{ℕ, zero, suc, List, Option, inl, inr}
use Rattle.grammar.specs.Syntax.{Syntax, none, gives, one, ◌then◌, choice, loop, many, knot_at, knot}

-- each token of G that passes the limit with the label i is P at i
pub record EachLate {T A : Type 0} (G : Syntax T A) (P : ℕ → T → Type 0) : Type 0 where
  pub holds : (i : ℕ) (a : List T) (t : T) → G.late i a t → P i t

-- no token of G passes a limit
abbrev pub Unlimited : {T A : Type 0} → Syntax T A → Type 0
Unlimited G = EachLate G (λ i t. ⊥)

module _ {T : Type 0} {P : ℕ → T → Type 0} where
  pub late_none : {A : Type 0} → EachLate (none {A = A}) P
  late_none = record { holds = λ i a t l. absurd l }

  pub late_gives : {A : Type 0} (x : A) → EachLate (gives x) P
  late_gives x = record { holds = λ i a t l. absurd l }

  pub late_one : {A : Type 0} (f : T → Option A) → EachLate (one f) P
  late_one f = record { holds = λ i a t l. absurd l }

  pub late_then : {A B : Type 0} {G : Syntax T A} {H : A → Syntax T B} → EachLate G P → ((x : A) → EachLate (H x) P) → EachLate (G then H) P
  late_then {A} {B} {G} {H} g h = record { holds = by }
    where
      by : (i : ℕ) (a : List T) (t : T) → (G then H).late i a t → P i t
      by i a t (inl l) = g.holds i a t l
      by i a t (inr l) = (h l.2).holds i l.1 t l.5

  pub late_choice : {A : Type 0} (K : T → ℕ) (ks : List ℕ) {G H : Syntax T A} → EachLate G P → EachLate H P → EachLate (choice K ks G H) P
  late_choice {A} K ks {G} {H} g h = record { holds = by }
    where
      by : (i : ℕ) (a : List T) (t : T) → (choice K ks G H).late i a t → P i t
      by i a t (inl l) = g.holds i a t l
      by i a t (inr l) = h.holds i a t l

  module _ {A : Type 0} (K : T → ℕ) (ks : A → List ℕ) {step : A → Syntax T A} (turn : (x : A) → EachLate (step x) P) where
    late_loop : (n : ℕ) (x : A) → EachLate (loop K n ks step x) P
    late_loop zero x = late_choice K (ks x) late_none (late_gives x)
    late_loop (suc n) x = late_choice K (ks x) (late_then (turn x) (λ y. late_loop n y)) (late_gives x)

    pub late_many : (x : A) → EachLate (many K ks step x) P
    late_many x = record { holds = λ i a t l. (late_loop l.0 x).holds i a t l.1 }

  module _ {S A : Type 0} {F : (S → Syntax T A) → S → Syntax T A} (step : (U : S → Syntax T A) → ((s : S) → EachLate (U s) P) → (s : S) → EachLate (F U s) P) where
    late_knot_at : (n : ℕ) (s : S) → EachLate (knot_at F n s) P
    late_knot_at zero s = late_none
    late_knot_at (suc n) s = step (knot_at F n) (late_knot_at n) s

    pub late_knot : (s : S) → EachLate (knot F s) P
    late_knot s = record { holds = λ i a t l. (late_knot_at l.0 s).holds i a t l.1 }
