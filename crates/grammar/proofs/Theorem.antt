-- From exactness to what the answers mean.
use Rattle.std.proofs.Common.{◌≡◌, ℕ, suc, ◌≤◌, Bool, List, [], ◌∷◌, ◌++◌, length, drop, ◌-◌, Result, Ok, Err, refl, sym, ap, subst, ◌∙◌, ◌⊎◌, inl, inr, arith, length-append}
use Rattle.std.proofs.lemmas.List.{append-nil}
use Rattle.std.proofs.Math.Seq.{drop-append_seam}
use Rattle.grammar.specs.Syntax.{Syntax, ParseFault, At, Over}
use Rattle.grammar.specs.Exact.{SameHead, Late, RunsOut, IsExact, WithinLimits, Found, RefusedAt, RefusedOver, Refused, AtMostOne, FrontsBegin, ReadingsBegin, ReadsAccepted, AcceptsRead, OneLimit}
use Rattle.grammar.proofs.Parts.{ok_is}

head_only : {T : Type 0} (t : T) (ts r : List T) → r ≡ t ∷ ts → SameHead r (t ∷ [])
head_only t ts r e = rw e refl

runs_ok : {T A : Type 0} (r : Result (A × List T) ParseFault) (x : A) (rest : List T) → r ≡ Ok (x, rest) → RunsOut r → rest ≡ []
runs_ok r x rest e h = subst (λ q. RunsOut q) e h

runs_at : {T A : Type 0} (r : Result (A × List T) ParseFault) (n : ℕ) → r ≡ Err (At n) → RunsOut r → n ≡ 0
runs_at r n e h = subst (λ q. RunsOut q) e h

abbrev refusal : {T A : Type 0} → ParseFault → Result (A × List T) ParseFault
refusal f = Err f

over_is : {T A : Type 0} (i j n m : ℕ) → refusal {T = T} {A = A} (Over i n) ≡ refusal (Over j m) → n ≡ m
over_is i j n m e = cc

dropped : {T : Type 0} (front rest ts : List T) → ts ≡ front ++ rest → rest ≡ drop (length ts - length rest) ts
dropped front rest ts e =
    let l : length ts - length rest ≡ length front = omega (arith, ap length e, length-append front rest) in
    rw (l, e) (sym (drop-append_seam front rest))

module _ {T : Type 0} {K : T → ℕ} {A : Type 0} (G : Syntax T A) (null : Bool) (first : List ℕ) (more : A → List ℕ) (g : IsExact K G null first more) where
  within_ok : (text : List T) (x : A × List T) → G.parse text ≡ Ok x → WithinLimits G text
  within_ok text x e i a t u p l = let w = g.lates i a t u l in let q = w.is in let s : G.parse text ≡ Err (Over w.label w.left) = ap G.parse p ∙ q in cc

  within_at : (text : List T) (n : ℕ) → G.parse text ≡ Err (At n) → WithinLimits G text
  within_at text n e i a t u p l = let w = g.lates i a t u l in let q = w.is in let s : G.parse text ≡ Err (Over w.label w.left) = ap G.parse p ∙ q in cc

  pub found : (text : List T) (x : A) (rest : List T) → G.parse text ≡ Ok (x, rest) → Found G text x rest
  found text x rest e =
      let t = g.takes text x rest e in
      record {
        front = t.front;
        reading = t.is;
        longest = record {
          parts = t.parts;
          begun = g.begins t.front x t.is;
          ended = λ u us r b.
              let stops : G.parse (t.front ++ (u ∷ [])) ≡ Ok (x, u ∷ []) = t.local (u ∷ []) (head_only u us rest r) in
              let none : u ∷ [] ≡ [] = runs_ok (G.parse (t.front ++ (u ∷ []))) x (u ∷ []) stops (g.runs (t.front ++ (u ∷ [])) b) in
              cc;
        };
        within = within_ok text (x, rest) e;
      }

  pub refused_at : (text : List T) (n : ℕ) → G.parse text ≡ Err (At n) → RefusedAt G text n
  refused_at text n e =
      let t = g.fails text n e in
      record {
        front = t.front;
        rest = t.rest;
        longest = record {
          parts = t.parts;
          begun = t.is;
          ended = λ u us r b.
              let stops : G.parse (t.front ++ (u ∷ [])) ≡ Err (At 1) = t.local (u ∷ []) (head_only u us t.rest r) in
              let none : 1 ≡ 0 = runs_at (G.parse (t.front ++ (u ∷ []))) 1 stops (g.runs (t.front ++ (u ∷ [])) b) in
              absurd (omega (arith, none));
        };
        place = t.left;
        within = within_at text n e;
      }

  -- where a limit is passed, it is passed there first
  pub the_first : (text : List T) (i n : ℕ) → G.parse text ≡ Err (Over i n) → (j : ℕ) (a : List T) (t : T) (u : List T) → text ≡ a ++ (t ∷ u) → G.late j a t → length (t ∷ u) ≤ n
  the_first text i n e j a t u p l =
      let w = g.lates j a t u l in
      let q : G.parse text ≡ Err (Over w.label w.left) = ap G.parse p ∙ w.is in
      let same : n ≡ w.left = over_is i w.label n w.left (sym e ∙ q) in
      let k = w.enough in
      omega arith

  no_later : (text front a : List T) (v t : T) (rest u : List T) (n : ℕ) → text ≡ front ++ (v ∷ rest) → n ≡ suc (length rest) → text ≡ a ++ (t ∷ u) → length (t ∷ u) ≤ n → length front ≤ length a
  no_later text front a v t rest u n p l q le = omega (arith, ap length p, ap length q, length-append front (v ∷ rest), length-append a (t ∷ u))

  pub refused_over : (text : List T) (i n : ℕ) → G.parse text ≡ Err (Over i n) → RefusedOver G text i n
  refused_over text i n e =
      let t = g.overs text i n e in
      record {
        front = t.front;
        token = t.token;
        rest = t.rest;
        parts = t.parts;
        place = t.left;
        late = t.is;
        begun = g.late_begins i t.front t.token t.is;
        first = λ j a v u p l. no_later text t.front a t.token v t.rest u n t.parts t.left p (the_first text i n e j a v u p l);
      }

  pub refused : (text : List T) (d : ParseFault) → G.parse text ≡ Err d → Refused G text d
  refused text (At n) e = refused_at text n e
  refused text (Over i n) e = refused_over text i n e

  -- ---- the whole text

  accepted : (ts : List T) (x : A) → WithinLimits G ts → (G.parse ts ≡ Ok (x, [])) ⊎ Late (G.parse ts) 1 → G.parse ts ≡ Ok (x, [])
  accepted ts x h (inl e) = e
  accepted ts x h (inr w) = let o = g.overs ts w.label w.left w.is in absurd (h w.label o.front o.token o.rest o.parts o.is)

  -- what is accepted is read to the end
  pub accepts : ReadsAccepted G
  accepts ts x h = accepted ts x h.within (subst (λ (w : List T). (G.parse w ≡ Ok (x, [])) ⊎ Late (G.parse w) 1) (append-nil ts) (g.again ts x [] h.reading refl))

  -- what is read to the end is accepted
  pub accepts_back : AcceptsRead G
  accepts_back ts x e =
      let t = g.takes ts x [] e in
      record { reading = subst (λ (w : List T). G.reads w x) (sym (t.parts ∙ append-nil t.front)) t.is; within = within_ok ts (x, []) e }

  pub at_most_one : AtMostOne G
  at_most_one ts x y h k = ap (λ (p : A × List T). p.0) (ok_is (x, []) (y, []) (sym (accepts ts x h) ∙ accepts ts y k))

  pub fronts_begin : FrontsBegin G
  fronts_begin = g.fronts

  pub readings_begin : ReadingsBegin G
  readings_begin = g.begins

  -- no token passes two limits
  pub one_limit : OneLimit G
  one_limit = g.one_limit

  -- where no limit is passed, a reading of tokens is the only one
  pub one_reading : (ts : List T) (x y : A) → WithinLimits G ts → G.reads ts x → G.reads ts y → x ≡ y
  one_reading ts x y w r s = at_most_one ts x y (record { reading = r; within = w }) (record { reading = s; within = w })

  -- ---- where the places lie

  -- what is left is the end of the text
  pub rest_is : (ts : List T) (x : A) (rest : List T) → G.parse ts ≡ Ok (x, rest) → rest ≡ drop (length ts - length rest) ts
  rest_is ts x rest e = let t = g.takes ts x rest e in dropped t.front rest ts t.parts

  pub rest_within_text : (ts : List T) (x : A) (rest : List T) → G.parse ts ≡ Ok (x, rest) → length rest ≤ length ts
  rest_within_text ts x rest e = let t = g.takes ts x rest e in omega (arith, ap length t.parts, length-append t.front rest)

  pub at_within : (ts : List T) (n : ℕ) → G.parse ts ≡ Err (At n) → n ≤ length ts
  at_within ts n e = let t = g.fails ts n e in let l = t.left in omega (arith, ap length t.parts, length-append t.front t.rest)

  pub over_within : (ts : List T) (i n : ℕ) → G.parse ts ≡ Err (Over i n) → n ≤ length ts
  over_within ts i n e = let t = g.overs ts i n e in let l = t.left in omega (arith, ap length t.parts, length-append t.front (t.token ∷ t.rest))
