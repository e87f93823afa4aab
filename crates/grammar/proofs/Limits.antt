-- Limits: a production that stands one too deep, and at most n tokens of a production.
use Rattle.std.proofs.Common.{◌≡◌, ℕ, zero, suc, ◌+◌, ◌-◌, ◌<◌, ◌≤◌, Bool, true, false, ltb, List, [], ◌∷◌, ◌++◌, length, drop, Result, Ok, Err, refl, sym, ◌∙◌, ap, subst, ◌⊎◌, inl, inr, append_assoc, arith, length-append}
use Rattle.std.proofs.lemmas.List.{append-nil}
use Rattle.std.proofs.Math.Seq.{drop-append_seam}
use Rattle.std.proofs.lemmas.Bool.{lt-ltb, le-ltb, ltb-true, ltb-false}
use Rattle.grammar.specs.Syntax.{Syntax, ParseFault, At, Over, among, sees, deep, at_most, capped, resumed}
use Rattle.grammar.specs.Exact.{SameHead, Takes, Fails, Overs, Late, RunsOut, IsExact, IsGood}
use Rattle.grammar.proofs.Sets.{sees_same}
use Rattle.grammar.proofs.Parts.{nil_front, front_parts}
use Rattle.grammar.proofs.Labels.{Unlimited}

module _ {T : Type 0} (K : T → ℕ) where
  deep_fails : {A : Type 0} (label : ℕ) (ks : List ℕ) (G : Syntax T A) → G.begun [] → (b : Bool) (ts : List T) (n : ℕ) → sees K ks ts ≡ b → (deep label K ks G).parse ts ≡ Err (At n) → Fails (deep label K ks G).parse (deep label K ks G).begun ts n
  deep_fails label ks G z true ts n s e = absurd (let k : (deep label K ks G).parse ts ≡ Err (Over label (length ts)) = rw s refl in cc)
  deep_fails label ks G z false ts n s e =
      let k : (deep label K ks G).parse ts ≡ Err (At (length ts)) = rw s refl in
      record { front = []; rest = ts; parts = refl; left = cc; is = z; local = λ u h. let v : sees K ks u ≡ false = sym (sees_same K ks ts u h) ∙ s in rw v refl }

  deep_overs : {A : Type 0} (label : ℕ) (ks : List ℕ) (G : Syntax T A) → ((t : T) → among (K t) ks ≡ true → G.begun (t ∷ [])) → (b : Bool) (ts : List T) (i n : ℕ) → sees K ks ts ≡ b → (deep label K ks G).parse ts ≡ Err (Over i n)
      → Overs (deep label K ks G).parse (deep label K ks G).late ts i n
  deep_overs label ks G o false ts i n s e = absurd (let k : (deep label K ks G).parse ts ≡ Err (At (length ts)) = rw s refl in cc)
  deep_overs label ks G o true [] i n s e = absurd cc
  deep_overs label ks G o true (t ∷ ts) i n s e =
      let k : (deep label K ks G).parse (t ∷ ts) ≡ Err (Over label (suc (length ts))) = rw s refl in
      let same : i ≡ label = cc in
      record { front = []; token = t; rest = ts; parts = refl; left = cc; is = (same, refl, o t s); local = λ u. rw (s, same) refl }

  deep_ok : {A : Type 0} (label : ℕ) (ks : List ℕ) (G : Syntax T A) → (b : Bool) (ts : List T) (x : A) (r : List T) → sees K ks ts ≡ b → (deep label K ks G).parse ts ≡ Ok (x, r) → ⊥
  deep_ok label ks G true ts x r s e = let k : (deep label K ks G).parse ts ≡ Err (Over label (length ts)) = rw s refl in cc
  deep_ok label ks G false ts x r s e = let k : (deep label K ks G).parse ts ≡ Err (At (length ts)) = rw s refl in cc

  -- one too deep: G is the production without the limit, and each token of its first set begins it
  module _ {A : Type 0} (label : ℕ) (ks : List ℕ) (G : Syntax T A) (more : A → List ℕ) (g : IsExact K G false ks more) (opens : (t : T) → among (K t) ks ≡ true → G.begun (t ∷ [])) where
    deep_again : (a : List T) (x : A) (b : List T) → G.reads a x → ((deep label K ks G).parse (a ++ b) ≡ Ok (x, b)) ⊎ Late ((deep label K ks G).parse (a ++ b)) (suc (length b))
    deep_again [] x b r = absurd (let e = g.filled x r in cc)
    deep_again (t ∷ a) x b r = inr (record { label = label; left = suc (length (a ++ b)); enough = omega (arith, length-append a b); is = rw (g.starts t a (g.begins (t ∷ a) x r)) refl })

    deep_runs : (a : List T) → G.begun a → RunsOut ((deep label K ks G).parse a)
    deep_runs [] b = refl
    deep_runs (t ∷ a) b = rw (g.starts t a b) tt

    deep_lates : (i : ℕ) (a : List T) (t : T) (u : List T) → (deep label K ks G).late i a t → Late ((deep label K ks G).parse (a ++ (t ∷ u))) (suc (length u))
    deep_lates i a t u l = rw l.1 (record { label = label; left = suc (length u); enough = omega arith; is = rw (g.starts t [] l.2) refl })

    pub deep_exact : IsExact K (deep label K ks G) false ks more
    deep_exact = record {
      takes = λ ts x r e. absurd (deep_ok label ks G (sees K ks ts) ts x r refl e);
      fails = λ ts n e. deep_fails label ks G g.empty (sees K ks ts) ts n refl e;
      overs = λ ts i n e. deep_overs label ks G opens (sees K ks ts) ts i n refl e;
      again = λ a x b r s. deep_again a x b r;
      lates = deep_lates;
      late_begins = λ i a t l. rw l.1 l.2;
      runs = deep_runs;
      begins = g.begins;
      fronts = g.fronts;
      empty = g.empty;
      starts = g.starts;
      filled = g.filled;
      single = g.single;
      goes_on = g.goes_on;
      one_limit = λ i j a t l k. l.0 ∙ sym k.0;
    }

  -- a token that is not refused at once begins the production
  pub opened : {A : Type 0} (G : Syntax T A) (first : List ℕ) (more : A → List ℕ) → IsExact K G false first more → (t : T) → (G.parse (t ∷ []) ≡ Err (At 1) → ⊥) → G.begun (t ∷ [])
  opened {A} G first more g t h = by_answer (G.parse (t ∷ [])) refl
    where
      read_one : (x : A) (front rest : List T) → t ∷ [] ≡ front ++ rest → G.reads front x → G.begun (t ∷ [])
      read_one x [] rest e r = absurd (let f = g.filled x r in cc)
      read_one x (u ∷ us) rest e r = let same : t ≡ u = cc in let z : us ≡ [] = nil_front us rest cc in rw (same, ← z) (g.begins (u ∷ us) x r)

      stopped : (front rest : List T) → t ∷ [] ≡ front ++ rest → (length rest ≡ 1 → ⊥) → G.begun front → G.begun (t ∷ [])
      stopped [] rest e k b = absurd (k (sym (ap length e)))
      stopped (u ∷ us) rest e k b = let same : t ≡ u = cc in let z : us ≡ [] = nil_front us rest cc in rw (same, ← z) b

      late_one : (front rest : List T) (v : T) → t ∷ [] ≡ front ++ (v ∷ rest) → G.begun (front ++ (v ∷ [])) → G.begun (t ∷ [])
      late_one [] rest v e b = let same : t ≡ v = cc in rw same b
      late_one (u ∷ us) rest v e b = absurd (let l = ap length e in omega (arith, l, length-append us (v ∷ rest)))

      by_answer : (r : Result (A × List T) ParseFault) → G.parse (t ∷ []) ≡ r → G.begun (t ∷ [])
      by_answer (Ok x) e = let w = g.takes (t ∷ []) x.0 x.1 e in read_one x.0 w.front x.1 w.parts w.is
      by_answer (Err (At n)) e = let w = g.fails (t ∷ []) n e in stopped w.front w.rest w.parts (λ l. h (e ∙ ap (λ (k : ℕ). Err (At k)) (w.left ∙ l))) w.is
      by_answer (Err (Over i n)) e = let w = g.overs (t ∷ []) i n e in late_one w.front w.rest w.token w.parts (g.late_begins i w.front w.token w.is)

-- ---- at most n tokens

-- so many tokens are left at the place of an answer
abbrev pub place : {T A : Type 0} → Result (A × List T) ParseFault → ℕ
place (Ok x) = length x.1
place (Err (At m)) = m
place (Err (Over i m)) = m

pub capped_in : {T A : Type 0} (label n l : ℕ) (r : Result (A × List T) ParseFault) → ltb (n + place r) l ≡ false → capped label n l r ≡ r
capped_in label n l (Ok x) e = rw e refl
capped_in label n l (Err (At m)) e = rw e refl
capped_in label n l (Err (Over i m)) e = rw e refl

capped_out : {T A : Type 0} (label n l : ℕ) (r : Result (A × List T) ParseFault) → ltb (n + place r) l ≡ true → capped label n l r ≡ Err (Over label (l - n))
capped_out label n l (Ok x) e = rw e refl
capped_out label n l (Err (At m)) e = rw e refl
capped_out label n l (Err (Over i m)) e = rw e refl

-- what is not cut off is within the limit
uncut : {T A : Type 0} (label n l : ℕ) (r : Result (A × List T) ParseFault) (b : Bool) → ltb (n + place r) l ≡ b → ((b ≡ false) × (capped label n l r ≡ r)) ⊎ ((b ≡ true) × (capped label n l r ≡ Err (Over label (l - n))))
uncut label n l r false e = inl (refl, capped_in label n l r e)
uncut label n l r true e = inr (refl, capped_out label n l r e)

runs_capped : {T A : Type 0} (label n l : ℕ) (r : Result (A × List T) ParseFault) (b : Bool) → ltb (n + place r) l ≡ b → RunsOut r → RunsOut (capped label n l r)
runs_capped label n l r false e h = rw (capped_in label n l r e) h
runs_capped label n l r true e h = rw (capped_out label n l r e) tt

late_capped : {T A : Type 0} (label n l : ℕ) (r : Result (A × List T) ParseFault) (b : Bool) (m : ℕ) → ltb (n + place r) l ≡ b → Late r m → Late (capped label n l r) m
late_capped label n l r false m e w = rw (capped_in label n l r e) w
late_capped label n l r true m e w =
    let out : n + w.left < l = ltb-true (n + w.left) l (sym (ap (λ r. ltb (n + place r) l) w.is) ∙ e) in
    let k = w.enough in
    record { label = label; left = l - n; enough = omega arith; is = capped_out label n l r e }

-- a text that isn't empty has a last token
last_of : {T : Type 0} (p : List T) → 0 < length p → (f : List T) × (t : T) × (p ≡ f ++ (t ∷ []))
last_of [] lt = absurd (omega arith)
last_of (t ∷ []) lt = ([], t, refl)
last_of (t ∷ u ∷ p) lt = let w = last_of (u ∷ p) (omega arith) in (t ∷ w.0, w.1, ap (λ z. t ∷ z) w.2)

-- the text parts at its token n
parted_at : {T : Type 0} (n : ℕ) (ts : List T) → n < length ts → (f : List T) × (t : T) × (r : List T) × (ts ≡ f ++ (t ∷ r)) × (length f ≡ n)
parted_at n [] lt = absurd (omega arith)
parted_at zero (t ∷ ts) lt = ([], t, ts, refl, refl)
parted_at (suc n) (t ∷ ts) lt = let p = parted_at n ts (omega arith) in (t ∷ p.0, p.1, p.2, ap (λ w. t ∷ w) p.3, ap suc p.4)

-- a text parted after f and t, and elsewhere
same_parting : {T : Type 0} (f : List T) (t : T) (u front rest : List T) → f ++ (t ∷ u) ≡ front ++ rest → (f ++ (t ∷ [])) ++ u ≡ front ++ rest
same_parting f t u front rest e = append_assoc f (t ∷ []) u ∙ e

above : (a b : ℕ) → (b ≤ a) ⊎ (a < b)
above a b = decided (ltb a b) refl
  where
    decided : (c : Bool) → ltb a b ≡ c → (b ≤ a) ⊎ (a < b)
    decided true e = inr (ltb-true a b e)
    decided false e = inl (ltb-false a b e)

module _ {T : Type 0} (K : T → ℕ) {A : Type 0} (label n : ℕ) (G : Syntax T A) (null : Bool) (first : List ℕ) (more : A → List ℕ) (g : IsExact K G null first more) where
  -- where f and t are begun, reading goes past t, or a limit is passed at t or before
  far_ok : (f : List T) (t : T) (u : List T) (x : A) (front rest : List T) → G.begun (f ++ (t ∷ [])) → ((v : List T) → SameHead rest v → G.parse (front ++ v) ≡ Ok (x, v)) → ((e : List T) × (front ≡ (f ++ (t ∷ [])) ++ e))
      ⊎ ((e : List T) × (f ++ (t ∷ []) ≡ front ++ e) × (rest ≡ e ++ u)) → f ++ (t ∷ u) ≡ front ++ rest → length rest ≤ length u
  far_ok f t u x front rest b l (inl p) e = omega (arith, ap length e, ap length p.1, length-append front rest, length-append (f ++ (t ∷ [])) p.0, length-append f (t ∷ []), length-append f (t ∷ u))
  far_ok f t u x front rest b l (inr ([], p, q)) e = omega (arith, ap length q)
  far_ok f t u x front rest b l (inr (v ∷ vs, p, q)) e =
      let stops : G.parse (front ++ (v ∷ vs)) ≡ Ok (x, v ∷ vs) = l (v ∷ vs) (rw q refl) in
      let out = subst (λ (w : List T). RunsOut (G.parse w)) p (g.runs (f ++ (t ∷ [])) b) in
      let none : v ∷ vs ≡ [] = subst (λ (r : Result (A × List T) ParseFault). RunsOut r) stops out in
      absurd cc

  far_at : (f : List T) (t : T) (u : List T) (front rest : List T) → G.begun (f ++ (t ∷ [])) → ((v : List T) → SameHead rest v → G.parse (front ++ v) ≡ Err (At (length v))) → ((e : List T) × (front ≡ (f ++ (t ∷ [])) ++ e))
      ⊎ ((e : List T) × (f ++ (t ∷ []) ≡ front ++ e) × (rest ≡ e ++ u)) → f ++ (t ∷ u) ≡ front ++ rest → length rest ≤ length u
  far_at f t u front rest b l (inl p) e = omega (arith, ap length e, ap length p.1, length-append front rest, length-append (f ++ (t ∷ [])) p.0, length-append f (t ∷ []), length-append f (t ∷ u))
  far_at f t u front rest b l (inr ([], p, q)) e = omega (arith, ap length q)
  far_at f t u front rest b l (inr (v ∷ vs, p, q)) e =
      let stops : G.parse (front ++ (v ∷ vs)) ≡ Err (At (suc (length vs))) = l (v ∷ vs) (rw q refl) in
      let out = subst (λ (w : List T). RunsOut (G.parse w)) p (g.runs (f ++ (t ∷ [])) b) in
      let none : suc (length vs) ≡ 0 = subst (λ (r : Result (A × List T) ParseFault). RunsOut r) stops out in
      absurd (omega (arith, none))

  far : (f : List T) (t : T) (u : List T) (r : Result (A × List T) ParseFault) → G.begun (f ++ (t ∷ [])) → G.parse (f ++ (t ∷ u)) ≡ r → (place r ≤ length u) ⊎ Late r (suc (length u))
  far f t u (Ok x) b e =
      let w = g.takes (f ++ (t ∷ u)) x.0 x.1 e in
      inl (far_ok f t u x.0 w.front x.1 b w.local (front_parts (f ++ (t ∷ [])) u w.front x.1 (same_parting f t u w.front x.1 w.parts)) w.parts)
  far f t u (Err (At m)) b e =
      let w = g.fails (f ++ (t ∷ u)) m e in
      let l = w.left in
      let k = far_at f t u w.front w.rest b w.local (front_parts (f ++ (t ∷ [])) u w.front w.rest (same_parting f t u w.front w.rest w.parts)) w.parts in
      inl (omega arith)
  far f t u (Err (Over i m)) b e = elim (above (length u) m) [ inl le ↦ inl le | inr lt ↦ inr (record { label = i; left = m; enough = lt; is = refl }) ]

  -- what reading went past is begun
  past_begun : (f : List T) (t : T) (r front rest : List T) → G.begun front → length rest ≤ length r → ((e : List T) × (front ≡ (f ++ (t ∷ [])) ++ e)) ⊎ ((e : List T) × (f ++ (t ∷ []) ≡ front ++ e) × (rest ≡ e ++ r)) → G.begun (f ++ (t ∷ []))
  past_begun f t r front rest b le (inl p) = g.fronts (f ++ (t ∷ [])) p.0 (subst (λ (w : List T). G.begun w) p.1 b)
  past_begun f t r front rest b le (inr ([], p, q)) = rw (p, append-nil front) b
  past_begun f t r front rest b le (inr (v ∷ vs, p, q)) = absurd (omega (arith, ap length q, length-append vs r))

  past : (f : List T) (t : T) (r : List T) (p : Result (A × List T) ParseFault) → G.parse (f ++ (t ∷ r)) ≡ p → place p ≤ length r → G.begun (f ++ (t ∷ []))
  past f t r (Ok x) e le =
      let w = g.takes (f ++ (t ∷ r)) x.0 x.1 e in
      past_begun f t r w.front x.1 (g.begins w.front x.0 w.is) le (front_parts (f ++ (t ∷ [])) r w.front x.1 (same_parting f t r w.front x.1 w.parts))
  past f t r (Err (At m)) e le =
      let w = g.fails (f ++ (t ∷ r)) m e in
      past_begun f t r w.front w.rest w.is (let l = w.left in omega arith) (front_parts (f ++ (t ∷ [])) r w.front w.rest (same_parting f t r w.front w.rest w.parts))
  past f t r (Err (Over i m)) e le =
      let w = g.overs (f ++ (t ∷ r)) i m e in
      let l = w.left in
      past_begun f t r w.front (w.token ∷ w.rest) (g.fronts w.front (w.token ∷ []) (g.late_begins i w.front w.token w.is)) (omega arith)
      (front_parts (f ++ (t ∷ [])) r w.front (w.token ∷ w.rest) (same_parting f t r w.front (w.token ∷ w.rest) w.parts))

  pub below : (a b : List T) → length a ≤ n → ltb (n + length b) (length (a ++ b)) ≡ false
  below a b le = le-ltb (n + length b) (length (a ++ b)) (omega (arith, length-append a b))

  beyond : (f : List T) (t : T) (u : List T) (p : ℕ) → length f ≡ n → p ≤ length u → ltb (n + p) (length (f ++ (t ∷ u))) ≡ true
  beyond f t u p e le = lt-ltb (n + p) (length (f ++ (t ∷ u))) (omega (arith, e, length-append f (t ∷ u)))

  behind_n : (f : List T) (t : T) (u : List T) → length f ≡ n → length (f ++ (t ∷ u)) - n ≡ suc (length u)
  behind_n f t u e = omega (arith, e, length-append f (t ∷ u))

  pub at_most_answer : (ts : List T) → ((ltb (n + place (G.parse ts)) (length ts) ≡ false) × ((at_most label n G).parse ts ≡ G.parse ts))
      ⊎ ((ltb (n + place (G.parse ts)) (length ts) ≡ true) × ((at_most label n G).parse ts ≡ Err (Over label (length ts - n))))
  at_most_answer ts = elim (uncut label n (length ts) (G.parse ts) (ltb (n + place (G.parse ts)) (length ts)) refl) [ inl p ↦ inl p | inr p ↦ inr p ]

  pub front_short : (ts front rest : List T) (p : ℕ) → ts ≡ front ++ rest → p ≡ length rest → ltb (n + p) (length ts) ≡ false → length front ≤ n
  front_short ts front rest p e l h = omega (arith, ltb-false (n + p) (length ts) h, l, ap length e, length-append front rest)

  at_most_takes : (ts : List T) (x : A) (rest : List T) → (at_most label n G).parse ts ≡ Ok (x, rest) → Takes (at_most label n G).parse (at_most label n G).reads ts x rest
  at_most_takes ts x rest e =
      elim (at_most_answer ts) [
        | inl p ↦
            let q : G.parse ts ≡ Ok (x, rest) = sym p.1 ∙ e in
            let w = g.takes ts x rest q in
            let short = front_short ts w.front rest (place (G.parse ts)) w.parts (ap place q) p.0 in
            record {
              front = w.front;
              parts = w.parts;
              is = (w.is, short);
              local = λ u s. let l = w.local u s in ap (capped label n (length (w.front ++ u))) l ∙ capped_in label n (length (w.front ++ u)) (Ok (x, u)) (below w.front u short);
            }
        | inr p ↦ absurd (let q : Err (Over label (length ts - n)) ≡ Ok (x, rest) = sym p.1 ∙ e in cc)
      ]

  at_most_fails : (ts : List T) (m : ℕ) → (at_most label n G).parse ts ≡ Err (At m) → Fails (at_most label n G).parse (at_most label n G).begun ts m
  at_most_fails ts m e =
      elim (at_most_answer ts) [
        | inl p ↦
            let q : G.parse ts ≡ Err (At m) = sym p.1 ∙ e in
            let w = g.fails ts m q in
            let short = front_short ts w.front w.rest (place (G.parse ts)) w.parts (ap place q ∙ w.left) p.0 in
            record {
              front = w.front;
              rest = w.rest;
              parts = w.parts;
              left = w.left;
              is = w.is;
              local = λ u s. let l = w.local u s in ap (capped label n (length (w.front ++ u))) l ∙ capped_in label n (length (w.front ++ u)) (Err (At (length u))) (below w.front u short);
            }
        | inr p ↦ absurd (let q : Err (Over label (length ts - n)) ≡ Err (At m) = sym p.1 ∙ e in cc)
      ]

  -- where reading goes past t, no limit is passed at t or before, whatever follows
  no_late : (i : ℕ) (f : List T) (t : T) (r front rest : List T) (v : T) → place (G.parse (f ++ (t ∷ r))) ≤ length r → G.late i front v → (e : List T) → f ++ (t ∷ []) ≡ (front ++ (v ∷ [])) ++ e → ⊥
  no_late i f t r front rest v le l e p =
      let w = g.lates i front v (e ++ r) l in
      let k = w.enough in
      let whole : f ++ (t ∷ r) ≡ front ++ (v ∷ (e ++ r)) = sym (append_assoc f (t ∷ []) r) ∙ ap (λ (z : List T). z ++ r) p ∙ append_assoc (front ++ (v ∷ [])) e r ∙ append_assoc front (v ∷ []) (e ++ r) in
      let q : place (G.parse (f ++ (t ∷ r))) ≡ w.left = ap (λ (z : List T). place (G.parse z)) whole ∙ ap place w.is in
      omega (arith, q, length-append e r)

  late_before : (i : ℕ) (f : List T) (t : T) (r u front rest : List T) (v : T) → place (G.parse (f ++ (t ∷ r))) ≤ length r → G.late i front v → length u ≤ length rest → ((e : List T) × (f ++ (t ∷ []) ≡ (front ++ (v ∷ [])) ++ e))
      ⊎ ((e : List T) × (front ++ (v ∷ []) ≡ (f ++ (t ∷ [])) ++ e) × (u ≡ e ++ rest)) → ⊥
  late_before i f t r u front rest v le l k (inl p) = no_late i f t r front rest v le l p.0 p.1
  late_before i f t r u front rest v le l k (inr ([], p, q)) = no_late i f t r front rest v le l [] (sym (p ∙ append-nil (f ++ (t ∷ []))) ∙ sym (append-nil (front ++ (v ∷ []))))
  late_before i f t r u front rest v le l k (inr (x ∷ e, p, q)) = omega (arith, ap length q, length-append e rest, k)

  far_anyway : (f : List T) (t : T) (r u : List T) → place (G.parse (f ++ (t ∷ r))) ≤ length r → (place (G.parse (f ++ (t ∷ u))) ≤ length u) ⊎ Late (G.parse (f ++ (t ∷ u))) (suc (length u)) → place (G.parse (f ++ (t ∷ u))) ≤ length u
  far_anyway f t r u le (inl h) = h
  far_anyway f t r u le (inr w) =
      let o = g.overs (f ++ (t ∷ u)) w.label w.left w.is in
      let k = w.enough in
      let l = o.left in
      absurd (late_before w.label f t r u o.front o.rest o.token le o.is (omega arith) (front_parts (o.front ++ (o.token ∷ [])) o.rest (f ++ (t ∷ [])) u (append_assoc o.front (o.token ∷ []) o.rest ∙ sym o.parts ∙ sym (append_assoc f (t ∷ []) u))))

  -- the answer after the n-th token does not depend on what follows
  over_at : (f : List T) (t : T) (u : List T) → length f ≡ n → place (G.parse (f ++ (t ∷ u))) ≤ length u → (at_most label n G).parse (f ++ (t ∷ u)) ≡ Err (Over label (suc (length u)))
  over_at f t u e le = capped_out label n (length (f ++ (t ∷ u))) (G.parse (f ++ (t ∷ u))) (beyond f t u (place (G.parse (f ++ (t ∷ u)))) e le) ∙ ap (λ (k : ℕ). Err (Over label k)) (behind_n f t u e)

  at_most_over : (ts : List T) (m : ℕ) (f : List T) (t : T) (r : List T) → ts ≡ f ++ (t ∷ r) → length f ≡ n → m ≡ length ts - n → ltb (n + place (G.parse ts)) (length ts) ≡ true → Overs (at_most label n G).parse (at_most label n G).late ts label m
  at_most_over ts m f t r e l k h =
      let le : place (G.parse (f ++ (t ∷ r))) ≤ length r = omega (arith, ltb-true (n + place (G.parse ts)) (length ts) h, ap (λ (z : List T). place (G.parse z)) e, ap length e, length-append f (t ∷ r), l) in
      let b = past f t r (G.parse (f ++ (t ∷ r))) refl le in
      record {
        front = f;
        token = t;
        rest = r;
        parts = e;
        left = k ∙ ap (λ (z : List T). length z - n) e ∙ behind_n f t r l;
        is = inr (refl, l, b);
        local = λ u. over_at f t u l (far_anyway f t r u le (far f t u (G.parse (f ++ (t ∷ u))) b refl));
      }

  at_most_overs : (ts : List T) (i m : ℕ) → (at_most label n G).parse ts ≡ Err (Over i m) → Overs (at_most label n G).parse (at_most label n G).late ts i m
  at_most_overs ts i m e =
      elim (at_most_answer ts) [
        | inl p ↦
            let q : G.parse ts ≡ Err (Over i m) = sym p.1 ∙ e in
            let w = g.overs ts i m q in
            let short = front_short ts w.front (w.token ∷ w.rest) (place (G.parse ts)) w.parts (ap place q ∙ w.left) p.0 in
            record {
              front = w.front;
              token = w.token;
              rest = w.rest;
              parts = w.parts;
              left = w.left;
              is = inl w.is;
              local = λ u. let l = w.local u in ap (capped label n (length (w.front ++ (w.token ∷ u)))) l ∙ capped_in label n (length (w.front ++ (w.token ∷ u))) (Err (Over i (suc (length u)))) (below w.front (w.token ∷ u) short);
            }
        | inr p ↦
            let q : Err (Over label (length ts - n)) ≡ Err (Over i m) = sym p.1 ∙ e in
            let same : label ≡ i = cc in
            let c = parted_at n ts (omega (arith, ltb-true (n + place (G.parse ts)) (length ts) p.0)) in
            rw (← same) (at_most_over ts m c.0 c.1 c.2 c.3 c.4 (cc) p.0)
      ]

  kept : (a : List T) (x : A) (b : List T) → length a ≤ n → (G.parse (a ++ b) ≡ Ok (x, b)) ⊎ Late (G.parse (a ++ b)) (suc (length b)) → ((at_most label n G).parse (a ++ b) ≡ Ok (x, b)) ⊎ Late ((at_most label n G).parse (a ++ b)) (suc (length b))
  kept a x b le (inl e) = inl (ap (capped label n (length (a ++ b))) e ∙ capped_in label n (length (a ++ b)) (Ok (x, b)) (below a b le))
  kept a x b le (inr w) = inr (late_capped label n (length (a ++ b)) (G.parse (a ++ b)) (ltb (n + place (G.parse (a ++ b))) (length (a ++ b))) (suc (length b)) refl w)

  late_there : (a : List T) (t : T) (u : List T) → length a ≡ n → (place (G.parse (a ++ (t ∷ u))) ≤ length u) ⊎ Late (G.parse (a ++ (t ∷ u))) (suc (length u)) → Late ((at_most label n G).parse (a ++ (t ∷ u))) (suc (length u))
  late_there a t u e (inl le) = record { label = label; left = suc (length u); enough = omega arith; is = over_at a t u e le }
  late_there a t u e (inr w) = late_capped label n (length (a ++ (t ∷ u))) (G.parse (a ++ (t ∷ u))) (ltb (n + place (G.parse (a ++ (t ∷ u)))) (length (a ++ (t ∷ u)))) (suc (length u)) refl w

  at_most_lates : (i : ℕ) (a : List T) (t : T) (u : List T) → (at_most label n G).late i a t → Late ((at_most label n G).parse (a ++ (t ∷ u))) (suc (length u))
  at_most_lates i a t u (inl l) = late_capped label n (length (a ++ (t ∷ u))) (G.parse (a ++ (t ∷ u))) (ltb (n + place (G.parse (a ++ (t ∷ u)))) (length (a ++ (t ∷ u)))) (suc (length u)) refl (g.lates i a t u l)
  at_most_lates i a t u (inr l) = late_there a t u l.1 (far a t u (G.parse (a ++ (t ∷ u))) l.2 refl)

  at_most_late_begins : (i : ℕ) (a : List T) (t : T) → (at_most label n G).late i a t → G.begun (a ++ (t ∷ []))
  at_most_late_begins i a t (inl l) = g.late_begins i a t l
  at_most_late_begins i a t (inr l) = l.2

  -- the limit is the only one, if no token of G passes any
  at_most_one_limit : Unlimited G → (i j : ℕ) (a : List T) (t : T) → (at_most label n G).late i a t → (at_most label n G).late j a t → i ≡ j
  at_most_one_limit free i j a t (inl l) k = absurd (free.holds i a t l)
  at_most_one_limit free i j a t (inr l) (inl k) = absurd (free.holds j a t k)
  at_most_one_limit free i j a t (inr l) (inr k) = l.0 ∙ sym k.0

  pub at_most_exact : Unlimited G → IsExact K (at_most label n G) null first more
  at_most_exact free = record {
    takes = at_most_takes;
    fails = at_most_fails;
    overs = at_most_overs;
    again = λ a x b r s. kept a x b r.1 (g.again a x b r.0 s);
    lates = at_most_lates;
    late_begins = at_most_late_begins;
    runs = λ a b. runs_capped label n (length a) (G.parse a) (ltb (n + place (G.parse a)) (length a)) refl (g.runs a b);
    begins = λ a x r. g.begins a x r.0;
    fronts = g.fronts;
    empty = g.empty;
    starts = g.starts;
    filled = λ x r. g.filled x r.0;
    single = λ a x y r s. g.single a x y r.0 s.0;
    goes_on = λ a x t u r b. g.goes_on a x t u r.0 b;
    one_limit = at_most_one_limit free;
  }

  -- ---- no more than n + 1 tokens need be read

  pub at_most_short : (ts : List T) → length ts ≤ n → (at_most label n G).parse ts ≡ G.parse ts
  at_most_short ts le = capped_in label n (length ts) (G.parse ts) (le-ltb (n + place (G.parse ts)) (length ts) (omega arith))

  -- a place that is not at the end of the front is the same, whatever follows the front
  kept_ok : (p s : List T) (x : A) (rest : List T) → length p ≤ suc n → Takes G.parse G.reads p x rest → (rest ≡ [] → ⊥) → (at_most label n G).parse (p ++ s) ≡ Ok (x, rest ++ s)
  kept_ok p s x [] le w h = absurd (h refl)
  kept_ok p s x (v ∷ vs) le w h =
      let whole : p ++ s ≡ w.front ++ (v ∷ vs ++ s) = ap (λ (z : List T). z ++ s) w.parts ∙ append_assoc w.front (v ∷ vs) s in
      let short : length w.front ≤ n = omega (arith, ap length w.parts, length-append w.front (v ∷ vs)) in
      ap (at_most label n G).parse whole ∙ ap (capped label n (length (w.front ++ (v ∷ vs ++ s)))) (w.local (v ∷ vs ++ s) refl) ∙ capped_in label n (length (w.front ++ (v ∷ vs ++ s))) (Ok (x, v ∷ vs ++ s)) (below w.front (v ∷ vs ++ s) short)

  kept_at : (p s front rest : List T) → length p ≤ suc n → p ≡ front ++ rest → (rest ≡ [] → ⊥) → ((u : List T) → SameHead rest u → G.parse (front ++ u) ≡ Err (At (length u))) → (at_most label n G).parse (p ++ s) ≡ Err (At (length rest + length s))
  kept_at p s front [] le e h l = absurd (h refl)
  kept_at p s front (v ∷ vs) le e h l =
      let whole : p ++ s ≡ front ++ (v ∷ vs ++ s) = ap (λ (z : List T). z ++ s) e ∙ append_assoc front (v ∷ vs) s in
      let short : length front ≤ n = omega (arith, ap length e, length-append front (v ∷ vs)) in
      ap (at_most label n G).parse whole ∙ ap (capped label n (length (front ++ (v ∷ vs ++ s)))) (l (v ∷ vs ++ s) refl) ∙ capped_in label n (length (front ++ (v ∷ vs ++ s))) (Err (At (length (v ∷ vs ++ s)))) (below front (v ∷ vs ++ s) short)
      ∙ ap (λ (m : ℕ). Err (At m)) (length-append (v ∷ vs) s)

  kept_over : (p s : List T) (i m : ℕ) → length p ≤ suc n → Overs G.parse G.late p i m → (at_most label n G).parse (p ++ s) ≡ Err (Over i (m + length s))
  kept_over p s i m le w =
      let whole : p ++ s ≡ w.front ++ (w.token ∷ (w.rest ++ s)) = ap (λ (z : List T). z ++ s) w.parts ∙ append_assoc w.front (w.token ∷ w.rest) s in
      let short : length w.front ≤ n = omega (arith, ap length w.parts, length-append w.front (w.token ∷ w.rest)) in
      let l = w.left in
      ap (at_most label n G).parse whole ∙ ap (capped label n (length (w.front ++ (w.token ∷ (w.rest ++ s))))) (w.local (w.rest ++ s)) ∙ capped_in label n (length (w.front ++ (w.token ∷ (w.rest ++ s)))) (Err (Over i (suc (length (w.rest ++ s)))))
      (below w.front (w.token ∷ (w.rest ++ s)) short) ∙ ap (λ (k : ℕ). Err (Over i k)) (omega (arith, length-append w.rest s))

  -- what took n + 1 tokens, or wants more after them, passes the limit
  ran_out : (p s : List T) → length p ≡ suc n → G.begun p → place (G.parse p) ≡ 0 → (at_most label n G).parse (p ++ s) ≡ Err (Over label (suc (length s)))
  ran_out p s e b z =
      let c = last_of p (omega (arith, e)) in
      let f = c.0 in
      let t = c.1 in
      let q : p ≡ f ++ (t ∷ []) = c.2 in
      let l : length f ≡ n = omega (arith, e, ap length q, length-append f (t ∷ [])) in
      let zero : place (G.parse (f ++ (t ∷ []))) ≤ length {A = T} [] = omega (arith, z, ap (λ (w : List T). place (G.parse w)) q) in
      ap (λ (w : List T). (at_most label n G).parse (w ++ s)) q ∙ ap (at_most label n G).parse (append_assoc f (t ∷ []) s) ∙ over_at f t s l (far_anyway f t [] s zero (far f t s (G.parse (f ++ (t ∷ s))) (subst (λ (w : List T). G.begun w) q b) refl))

  cut_ok : (p s : List T) (x : A) (rest : List T) → length p ≡ suc n → G.parse p ≡ Ok (x, rest) → (at_most label n G).parse (p ++ s) ≡ resumed label s (Ok (x, rest))
  cut_ok p s x [] e q = let w = g.takes p x [] q in ran_out p s e (rw (w.parts, append-nil w.front) (g.begins w.front x w.is)) (ap place q)
  cut_ok p s x (v ∷ vs) e q = kept_ok p s x (v ∷ vs) (omega (arith, e)) (g.takes p x (v ∷ vs) q) (λ h. cc)

  cut_at : (p s : List T) (m : ℕ) → length p ≡ suc n → G.parse p ≡ Err (At m) → (at_most label n G).parse (p ++ s) ≡ resumed label s (Err (At m))
  cut_at p s zero e q =
      let w = g.fails p 0 q in
      let l = w.left in
      ran_out p s e (rw (w.parts, none_left w.rest l, append-nil w.front) w.is) (ap place q)
    where
      none_left : (r : List T) → 0 ≡ length r → r ≡ []
      none_left [] h = refl
      none_left (v ∷ vs) h = absurd (omega (arith, h))
  cut_at p s (suc m) e q =
      let w = g.fails p (suc m) q in
      let l = w.left in
      kept_at p s w.front w.rest (omega (arith, e)) w.parts (λ h. omega (arith, l, ap length h)) w.local ∙ ap (λ (k : ℕ). Err (At (k + length s))) (sym l)

  -- of a longer text its first n + 1 tokens tell the answer
  pub at_most_cut : (p s : List T) → length p ≡ suc n → (at_most label n G).parse (p ++ s) ≡ resumed label s (G.parse p)
  at_most_cut p s e = by_answer (G.parse p) refl
    where
      by_answer : (r : Result (A × List T) ParseFault) → G.parse p ≡ r → (at_most label n G).parse (p ++ s) ≡ resumed label s r
      by_answer (Ok x) q = cut_ok p s x.0 x.1 e q
      by_answer (Err (At m)) q = cut_at p s m e q
      by_answer (Err (Over i m)) q = kept_over p s i m (omega (arith, e)) (g.overs p i m q)

  -- the same by its cases, for a text that is near and then far
  module _ (ts near far : List T) (parts : ts ≡ near ++ far) (long : length near ≡ suc n) where
    cut_answer : (r : Result (A × List T) ParseFault) → G.parse near ≡ r → (at_most label n G).parse ts ≡ resumed label far r
    cut_answer r e = ap (at_most label n G).parse parts ∙ at_most_cut near far long ∙ ap (resumed label far) e

    pub near_ok_ends : (x : A) (rest : List T) → G.parse near ≡ Ok (x, rest) → length rest ≡ 0 → (at_most label n G).parse ts ≡ Err (Over label (length far + 1))
    near_ok_ends x [] e z = cut_answer (Ok (x, [])) e ∙ ap (λ (k : ℕ). Err (Over label k)) (omega arith)
    near_ok_ends x (t ∷ rest) e z = absurd (omega (arith, z))

    pub near_ok : (x : A) (rest : List T) → G.parse near ≡ Ok (x, rest) → (length rest ≡ 0 → ⊥) → (at_most label n G).parse ts ≡ Ok (x, drop (length ts - (length rest + length far)) ts)
    near_ok x [] e z = absurd (z refl)
    near_ok x (t ∷ rest) e z =
        let w = g.takes near x (t ∷ rest) e in
        let whole : ts ≡ w.front ++ (t ∷ rest ++ far) = parts ∙ ap (λ (v : List T). v ++ far) w.parts ∙ append_assoc w.front (t ∷ rest) far in
        let l : length ts - (length (t ∷ rest) + length far) ≡ length w.front = omega (arith, ap length whole, length-append w.front (t ∷ rest ++ far), length-append (t ∷ rest) far) in
        let d : drop (length ts - (length (t ∷ rest) + length far)) ts ≡ t ∷ rest ++ far = ap (λ (k : ℕ). drop k ts) l ∙ ap (drop (length w.front)) whole ∙ drop-append_seam w.front (t ∷ rest ++ far) in
        cut_answer (Ok (x, t ∷ rest)) e ∙ ap (λ (v : List T). Ok (x, v)) (sym d)

    pub near_at_ends : G.parse near ≡ Err (At 0) → (at_most label n G).parse ts ≡ Err (Over label (length far + 1))
    near_at_ends e = cut_answer (Err (At 0)) e ∙ ap (λ (k : ℕ). Err (Over label k)) (omega arith)

    pub near_at : (m : ℕ) → G.parse near ≡ Err (At m) → (m ≡ 0 → ⊥) → (at_most label n G).parse ts ≡ Err (At (m + length far))
    near_at zero e z = absurd (z refl)
    near_at (suc m) e z = cut_answer (Err (At (suc m))) e

    pub near_over : (i m : ℕ) → G.parse near ≡ Err (Over i m) → (at_most label n G).parse ts ≡ Err (Over i (m + length far))
    near_over i m e = cut_answer (Err (Over i m)) e

module _ {T : Type 0} (K : T → ℕ) {A : Type 0} (label most n : ℕ) (G H : Syntax T A) (null : Bool) (first : List ℕ) (more : A → List ℕ) where
  at_most_late : ((a : List T) → G.begun a → H.begun a) → ((i : ℕ) (a : List T) (t : T) → G.late i a t → H.late i a t) → (i : ℕ) (a : List T) (t : T) → (at_most label most G).late i a t → (at_most label most H).late i a t
  at_most_late b l i a t (inl h) = inl (l i a t h)
  at_most_late b l i a t (inr h) = inr (h.0, h.1, b (a ++ (t ∷ [])) h.2)

  at_most_late_back : ((a : List T) → length a < n → H.begun a → G.begun a) → ((i : ℕ) (a : List T) (t : T) → suc (length a) < n → H.late i a t → G.late i a t) → (i : ℕ) (a : List T) (t : T) → suc (length a) < n → (at_most label most H).late i a t
      → (at_most label most G).late i a t
  at_most_late_back b l i a t lt (inl h) = inl (l i a t lt h)
  at_most_late_back b l i a t lt (inr h) = inr (h.0, h.1, b (a ++ (t ∷ [])) (omega (arith, length-append a (t ∷ []))) h.2)

  pub at_most_good : Unlimited G → Unlimited H → IsGood K n G H null first more → IsGood K n (at_most label most G) (at_most label most H) null first more
  at_most_good free free' g = record {
    here = at_most_exact K label most G null first more g.here free;
    there = at_most_exact K label most H null first more g.there free';
    reads = λ a x r. (g.reads a x r.0, r.1);
    begun = g.begun;
    late = at_most_late g.begun g.late;
    agree = λ ts lt. ap (capped label most (length ts)) (g.agree ts lt);
    reads_back = λ a x lt r. (g.reads_back a x lt r.0, r.1);
    begun_back = g.begun_back;
    late_back = λ i a t lt. at_most_late_back (λ b l. g.begun_back b l) (λ j b v l. g.late_back j b v l) i a t lt;
  }
