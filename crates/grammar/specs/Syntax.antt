-- Ours: the combinators of which the grammars of C and of monitored C are made.
-- Grammars as values: what a production reads, what begins it, where it passes a limit, and how it is read from left to right.
use Rattle.std.specs.Prelude.{◌≡◌, ℕ, zero, suc, ◌+◌, ◌-◌, ◌≤◌, List, [], ◌∷◌, ◌++◌, length, Result, Ok, Err, Option, Some, None, Bool, true, false, cond, ◌⊎◌}
use Rattle.std.specs.Prelude.{eqb, ltb}

-- So many tokens are left at the fault: the first of them can't follow (`At`), or it passes the limit with this label (`Over`).
pub data ParseFault : Type 0 where
  At : ℕ → ParseFault
  Over : ℕ → ℕ → ParseFault

-- the kind is in the set
abbrev pub among : ℕ → List ℕ → Bool
among n [] = false
among n (m ∷ ms) = cond (eqb n m) true (among n ms)

-- the text begins with a token whose kind is in the set
abbrev pub sees : {T : Type 0} → (T → ℕ) → List ℕ → List T → Bool
sees K ks [] = false
sees K ks (t ∷ ts) = among (K t) ks

infixl 10 ◌>>=◌
abbrev pub ◌>>=◌ : {A B : Type 0} → Result A ParseFault → (A → Result B ParseFault) → Result B ParseFault
(Ok x) >>= f = f x
(Err e) >>= f = Err e

-- A production over tokens of the type T with values of the type A.
pub record Syntax (T A : Type 0) : Type 1 where
  -- these tokens are a reading with this value
  pub reads : List T → A → Type 0
  -- these tokens begin a reading
  pub begun : List T → Type 0
  -- after these tokens this token passes the limit with this label
  pub late : ℕ → List T → T → Type 0
  -- the value of the longest reading at the front, and the tokens after it
  pub parse : List T → Result (A × List T) ParseFault

abbrev pub one_at : {T A : Type 0} → (T → Option A) → List T → Result (A × List T) ParseFault
one_at f [] = Err (At 0)
one_at f (t ∷ ts) = elim (f t) [ Some x ↦ Ok (x, ts) | None ↦ Err (At (suc (length ts))) ]

abbrev is_empty : {T : Type 0} → List T → Bool
is_empty [] = true
is_empty (t ∷ ts) = false

-- an answer that took more than n of the tokens passes the limit at the token after n
abbrev pub capped : {T A : Type 0} → ℕ → ℕ → ℕ → Result (A × List T) ParseFault → Result (A × List T) ParseFault
capped label n l (Ok x) = cond (ltb (n + length x.1) l) (Err (Over label (l - n))) (Ok x)
capped label n l (Err (At m)) = cond (ltb (n + m) l) (Err (Over label (l - n))) (Err (At m))
capped label n l (Err (Over i m)) = cond (ltb (n + m) l) (Err (Over label (l - n))) (Err (Over i m))

-- the answer for a text of which s is the rest after the one token too many that was read
abbrev pub resumed : {T A : Type 0} → ℕ → List T → Result (A × List T) ParseFault → Result (A × List T) ParseFault
resumed label s (Ok x) = cond (is_empty x.1) (Err (Over label (suc (length s)))) (Ok (x.0, x.1 ++ s))
resumed label s (Err (At zero)) = Err (Over label (suc (length s)))
resumed label s (Err (At (suc m))) = Err (At (suc m + length s))
resumed label s (Err (Over i m)) = Err (Over i (m + length s))

module _ {T : Type 0} where
  -- nothing is a reading
  abbrev pub none : {A : Type 0} → Syntax T A
  none = record {
    reads = λ a x. ⊥;
    begun = λ a. a ≡ [];
    late = λ i a t. ⊥;
    parse = λ ts. Err (At (length ts));
  }

  -- no token, with a value
  abbrev pub gives : {A : Type 0} → A → Syntax T A
  gives x = record {
    reads = λ a y. (a ≡ []) × (x ≡ y);
    begun = λ a. a ≡ [];
    late = λ i a t. ⊥;
    parse = λ ts. Ok (x, ts);
  }

  -- one token of which f makes a value
  abbrev pub one : {A : Type 0} → (T → Option A) → Syntax T A
  one f = record {
    reads = λ a x. (t : T) × (a ≡ t ∷ []) × (f t ≡ Some x);
    begun = λ a. (a ≡ []) ⊎ ((t : T) × (x : _) × (a ≡ t ∷ []) × (f t ≡ Some x));
    late = λ i a t. ⊥;
    parse = one_at f;
  }

  -- a sequence, whose second part may depend on the value of the first
  infixl 10 ◌then◌
  abbrev pub ◌then◌ : {A B : Type 0} → Syntax T A → (A → Syntax T B) → Syntax T B
  G then H = record {
    reads = λ a y. (b : List T) × (c : List T) × (x : _) × (a ≡ b ++ c) × G.reads b x × (H x).reads c y;
    begun = λ a. G.begun a ⊎ ((b : List T) × (c : List T) × (x : _) × (a ≡ b ++ c) × G.reads b x × (H x).begun c);
    late = λ i a t. G.late i a t ⊎ ((b : List T) × (c : List T) × (x : _) × (a ≡ b ++ c) × G.reads b x × (H x).late i c t);
    parse = λ ts. G.parse ts >>= λ x. (H x.0).parse x.1;
  }

  -- alternatives: the first is taken where a token of these kinds comes (only `parse` asks for the kinds)
  abbrev pub choice : {A : Type 0} → (T → ℕ) → List ℕ → Syntax T A → Syntax T A → Syntax T A
  choice K ks G H = record {
    reads = λ a x. G.reads a x ⊎ H.reads a x;
    begun = λ a. G.begun a ⊎ H.begun a;
    late = λ i a t. G.late i a t ⊎ H.late i a t;
    parse = λ ts. cond (sees K ks ts) (G.parse ts) (H.parse ts);
  }

  -- a repetition, at most n times; with the value x it goes on where a token of the kinds `ks x` comes
  abbrev pub loop : {A : Type 0} → (T → ℕ) → ℕ → (A → List ℕ) → (A → Syntax T A) → A → Syntax T A
  loop K zero ks step x = choice K (ks x) none (gives x)
  loop K (suc n) ks step x = choice K (ks x) (step x then λ y. loop K n ks step y) (gives x)

  -- at any bound; a text of n tokens is read with the bound n + 1
  abbrev pub limit : {A : Type 0} → (ℕ → Syntax T A) → Syntax T A
  limit F = record {
    reads = λ a x. (k : ℕ) × (F k).reads a x;
    begun = λ a. (k : ℕ) × (F k).begun a;
    late = λ i a t. (k : ℕ) × (F k).late i a t;
    parse = λ ts. (F (suc (length ts))).parse ts;
  }

  -- a repetition, any number of times
  abbrev pub many : {A : Type 0} → (T → ℕ) → (A → List ℕ) → (A → Syntax T A) → A → Syntax T A
  many K ks step x = limit (λ n. loop K n ks step x)

  -- a production that stands in itself, for each value of a state, at most n deep
  abbrev pub knot_at : {S A : Type 0} → ((S → Syntax T A) → S → Syntax T A) → ℕ → S → Syntax T A
  knot_at F zero s = none
  knot_at F (suc n) s = F (knot_at F n) s

  -- the same, at any depth
  abbrev pub knot : {S A : Type 0} → ((S → Syntax T A) → S → Syntax T A) → S → Syntax T A
  knot F s = limit (λ n. knot_at F n s)

  -- G stands here one deeper than the limit with this label allows: a token that begins it, which is one of these kinds, passes the limit
  abbrev pub deep : {A : Type 0} → ℕ → (T → ℕ) → List ℕ → Syntax T A → Syntax T A
  deep label K ks G = record {
    reads = G.reads;
    begun = G.begun;
    late = λ i a t. (i ≡ label) × (a ≡ []) × G.begun (t ∷ []);
    parse = λ ts. cond (sees K ks ts) (Err (Over label (length ts))) (Err (At (length ts)));
  }

  -- at most n tokens of G: one more that G goes on with passes the limit with this label
  abbrev pub at_most : {A : Type 0} → ℕ → ℕ → Syntax T A → Syntax T A
  at_most label n G = record {
    reads = λ a x. G.reads a x × (length a ≤ n);
    begun = G.begun;
    late = λ i a t. G.late i a t ⊎ ((i ≡ label) × (length a ≡ n) × G.begun (a ++ (t ∷ [])));
    parse = λ ts. capped label n (length ts) (G.parse ts);
  }
