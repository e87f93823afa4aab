-- Where a token can't follow, the tokens before it are no reading: cut there, the text is too short.
use Rattle.std.proofs.Common.{◌≡◌, ℕ, zero, suc, ◌+◌, ◌-◌, ◌<◌, ◌≤◌, Bool, true, false, ltb, List, [], ◌∷◌, ◌++◌, length, Result, Ok, Err, Option, Some, None, refl, sym, ◌∙◌, ap, subst, ◌⊎◌, inl, inr, append_assoc, arith, length-append}
use Rattle.std.proofs.lemmas.List.{append-nil}
use Rattle.grammar.specs.Syntax.{Syntax, ParseFault, At, Over, among, sees, gives, one, one_at, ◌then◌, choice, many, at_most, capped}
use Rattle.grammar.specs.Exact.{SameHead, Late, IsExact, Unread}
use Rattle.grammar.proofs.Sets.{within, apart, within_among, apart_among, cond_true, within_self, within_left, within_right, within_both, within_joined, among_either}
use Rattle.grammar.proofs.Parts.{bind_err, chosen, ChoiceFits, gives_exact, choice_exact, widen}
use Rattle.grammar.proofs.Bounds.{LoopFits, many_exact, turn_exact, turned_exact, many_is, rest_below, rest_within, split_same}
use Rattle.grammar.proofs.Labels.{Unlimited}
use Rattle.grammar.proofs.Limits.{place, at_most_exact, at_most_answer, front_short, below, capped_in, opened}
use Rattle.grammar.proofs.Productions.{and, empties, turns_fit, seq, either, again_and_again, same, made}
use Rattle.grammar.proofs.Theorem.{refused_at}

pub record IsSolid {T : Type 0} (K : T → ℕ) {A : Type 0} (n : ℕ) (G : Syntax T A) (lead null : Bool) (first : List ℕ) (more : A → List ℕ) : Type 0 where
  pub exact : IsExact K G null first more
  pub led : lead ≡ true → null ≡ false
  -- a token that can begin it is taken
  pub opens : lead ≡ true → (t : T) (ts : List T) → length (t ∷ ts) < n → among (K t) first ≡ true → G.parse (t ∷ ts) ≡ Err (At (suc (length ts))) → ⊥
  pub cut : (ts : List T) (m : ℕ) (f r : List T) → length ts < n → G.parse ts ≡ Err (At m) → ts ≡ f ++ r → m ≡ length r → G.parse f ≡ Err (At 0)

none_below : {A : Type 0} {P : Type 0} (ts : List A) → length ts < 0 → P
none_below ts lt = absurd (omega arith)

-- the part of the text that was taken is the same, however it is found
front_empty : {A : Type 0} (ts : List A) (f r : List A) → ts ≡ f ++ r → length ts ≡ length r → f ≡ []
front_empty ts [] r e l = refl
front_empty ts (x ∷ f) r e l = absurd (omega (arith, ap length e, length-append f r))

-- what the second part read stands after the first
second_front : {T : Type 0} (ts a r1 f r : List T) (f2 r2 : List T) → ts ≡ a ++ r1 → r1 ≡ f2 ++ r2 → ts ≡ f ++ r → length r2 ≡ length r → f ≡ a ++ f2
second_front ts a r1 f r f2 r2 p q s l = (split_same f (a ++ f2) r r2 (sym s ∙ p ∙ rw q (sym (append_assoc a f2 r2))) (sym l)).0

first_of_led : (f1 f2 : List ℕ) (n1 : Bool) → n1 ≡ false → within (f1 ++ empties n1 f2) f1 ≡ true
first_of_led f1 f2 n1 e = rw (e, append-nil f1) (within_self f1)

and_false : (n1 n2 : Bool) → n1 ≡ false → and n1 n2 ≡ false
and_false n1 n2 e = rw e refl

not_read : {T A : Type 0} (r : Result (A × List T) ParseFault) (x : A) (m : ℕ) → r ≡ Err (At 0) → (r ≡ Ok (x, [])) ⊎ Late r m → ⊥
not_read r x m e (inl p) = absurd cc
not_read r x m e (inr w) = let q = w.is in absurd cc

same_self : {T : Type 0} (r : List T) → SameHead r r
same_self [] = tt
same_self (t ∷ ts) = refl

module _ {T : Type 0} {K : T → ℕ} where
  pub solid_zero : {A : Type 0} {G : Syntax T A} {null : Bool} {first : List ℕ} {more : A → List ℕ} (lead : Bool) → (lead ≡ true → null ≡ false) → IsExact K G null first more → IsSolid K 0 G lead null first more
  solid_zero lead l g = record { exact = g; led = l; opens = λ h t ts lt. none_below (t ∷ ts) lt; cut = λ ts m f r lt. none_below ts lt }

  pub lower : {A : Type 0} {n : ℕ} {G : Syntax T A} {lead null : Bool} {first : List ℕ} {more : A → List ℕ} (k : ℕ) → k ≤ n → IsSolid K n G lead null first more → IsSolid K k G lead null first more
  lower k le g = record { exact = g.exact; led = g.led; opens = λ h t ts lt. g.opens h t ts (omega arith); cut = λ ts m f r lt. g.cut ts m f r (omega arith) }

  pub as_parsed : {A : Type 0} {n : ℕ} {G G' : Syntax T A} {lead null : Bool} {first : List ℕ} {more : A → List ℕ} → ((ts : List T) → G'.parse ts ≡ G.parse ts) → IsExact K G' null first more → IsSolid K n G lead null first more
      → IsSolid K n G' lead null first more
  as_parsed p e g = record {
    exact = e;
    led = g.led;
    opens = λ h t ts lt a q. g.opens h t ts lt a (sym (p (t ∷ ts)) ∙ q);
    cut = λ ts m f r lt q s l. p f ∙ g.cut ts m f r lt (sym (p ts) ∙ q) s l;
  }

  pub gives_solid : {A : Type 0} {n : ℕ} (x : A) → IsSolid K n (gives x) false true [] (λ _. [])
  gives_solid x = record { exact = gives_exact K x; led = λ h. absurd cc; opens = λ h. absurd cc; cut = λ ts m f r lt q. absurd cc }

  pub one_solid : {A : Type 0} {n : ℕ} (f : T → Option A) (ks : List ℕ) → ((t : T) → among (K t) ks ≡ true → (x : A) × (f t ≡ Some x)) → IsExact K (one f) false ks (λ _. []) → IsSolid K n (one f) true false ks (λ _. [])
  one_solid {A} {n} g ks h e = record { exact = e; led = λ _. refl; opens = o; cut = c }
    where
      ok : (t : T) (x : A) (ts : List T) → g t ≡ Some x → one_at g (t ∷ ts) ≡ Ok (x, ts)
      ok t x ts p = rw (p, one_at) refl

      o : true ≡ true → (t : T) (ts : List T) → length (t ∷ ts) < n → among (K t) ks ≡ true → one_at g (t ∷ ts) ≡ Err (At (suc (length ts))) → ⊥
      o u t ts lt a q = let p = h t a in let k = ok t p.0 ts p.1 in cc

      at : (t : T) (ts : List T) (m : ℕ) (v : Option A) → g t ≡ v → one_at g (t ∷ ts) ≡ Err (At m) → m ≡ suc (length ts)
      at t ts m (Some x) p q = absurd (let k = ok t x ts p in cc)
      at t ts m None p q = let k : one_at g (t ∷ ts) ≡ Err (At (suc (length ts))) = rw (p, one_at) refl in cc

      c : (ts : List T) (m : ℕ) (f r : List T) → length ts < n → one_at g ts ≡ Err (At m) → ts ≡ f ++ r → m ≡ length r → one_at g f ≡ Err (At 0)
      c [] m f r lt q s l = let z = front_empty [] f r s (let k : m ≡ 0 = cc in omega arith) in rw z refl
      c (t ∷ ts) m f r lt q s l = let z = front_empty (t ∷ ts) f r s (let k = at t ts m (g t) refl q in omega arith) in rw z refl

  -- ---- a sequence

  -- tokens that were read are read alone
  alone : {A : Type 0} (G : Syntax T A) (null : Bool) (first : List ℕ) (more : A → List ℕ) (a r : List T) (x : A) (y : A × List T) → IsExact K G null first more → G.parse (a ++ r) ≡ Ok y → (G.parse (a ++ []) ≡ Ok (x, [])) ⊎ Late (G.parse (a ++ [])) 1
      → G.parse (a ++ []) ≡ Ok (x, [])
  alone G null first more a r x y g e (inl p) = p
  alone G null first more a r x y g e (inr w) =
      let o = g.overs (a ++ []) w.label w.left w.is in
      let l = o.local (o.rest ++ r) in
      let same : a ++ r ≡ o.front ++ (o.token ∷ (o.rest ++ r)) = ap (λ (z : List T). z ++ r) (sym (append-nil a) ∙ o.parts) ∙ append_assoc o.front (o.token ∷ o.rest) r in
      absurd (let q : G.parse (a ++ r) ≡ Err (Over w.label (suc (length (o.rest ++ r)))) = ap G.parse same ∙ l in cc)

  seq_cut : {A : Type 0} (G : Syntax T A) (n1 : Bool) (f1 : List ℕ) (m1 : A → List ℕ) (x : A) (front r1 f2 r : List T) → IsExact K G n1 f1 m1 → G.reads front x → ((u : List T) → SameHead r1 u → G.parse (front ++ u) ≡ Ok (x, u)) → r1 ≡ f2 ++ r
      → G.parse (front ++ f2) ≡ Ok (x, f2)
  seq_cut G n1 f1 m1 x front r1 [] r g is local e = alone G n1 f1 m1 front r1 x (x, r1) g (local r1 (same_self r1)) (g.again front x [] is refl)
  seq_cut G n1 f1 m1 x front r1 (t ∷ f2) r g is local e = local (t ∷ f2) (rw e refl)

  module _ {A B : Type 0} (G : Syntax T A) (H : A → Syntax T B) (l1 l2 n1 n2 : Bool) (f1 : List ℕ) (f2 : A → List ℕ) (m1 : A → List ℕ) (m2 : A → B → List ℕ) (null : Bool) (first : List ℕ) (more : B
      → List ℕ) (e : IsExact K (G then H) null first more) (same_first : l1 ≡ true → within first f1 ≡ true) (same_null : n1 ≡ false → null ≡ false) where
    then_cut : (n k : ℕ) → IsSolid K n G l1 n1 f1 m1 → ((x : A) → IsSolid K k (H x) l2 n2 (f2 x) (m2 x)) → (ts : List T) (m : ℕ) (f r : List T) → length ts < n → ((x : A) (front rest : List T) → ts ≡ front ++ rest → G.reads front x → length rest < k)
        → (G then H).parse ts ≡ Err (At m) → ts ≡ f ++ r → m ≡ length r → (G then H).parse f ≡ Err (At 0)
    then_cut n k g h ts m f r lt below q s l =
        elim (bind_err (G.parse ts) (λ x. (H x.0).parse x.1) (At m) q) [
          | inl e1 ↦ rw (g.cut ts m f r lt e1 s l) refl
          | inr b ↦
              let x = b.0 in
              let t1 = g.exact.takes ts x.0 x.1 b.1 in
              let w = (h x.0).exact.fails x.1 m b.2 in
              let small = below x.0 t1.front x.1 t1.parts t1.is in
              let c2 = (h x.0).cut x.1 m w.front w.rest small b.2 w.parts w.left in
              let f-is = second_front ts t1.front x.1 f r w.front w.rest t1.parts w.parts s (sym w.left ∙ l) in
              let c1 = seq_cut G n1 f1 m1 x.0 t1.front x.1 w.front w.rest g.exact t1.is t1.local w.parts in
              rw (f-is, c1) c2
        ]

    then_opens : (n k : ℕ) → IsSolid K n G l1 n1 f1 m1 → ((x : A) → IsSolid K k (H x) l2 n2 (f2 x) (m2 x)) → l1 ≡ true → (t : T) (ts : List T) → length (t ∷ ts) < n → among (K t) first ≡ true → (G then H).parse (t ∷ ts) ≡ Err (At (suc (length ts)))
        → ⊥
    then_opens n k g h ld t ts lt a q =
        elim (bind_err (G.parse (t ∷ ts)) (λ x. (H x.0).parse x.1) (At (suc (length ts))) q) [
          | inl e1 ↦ g.opens ld t ts lt (within_among first f1 (K t) (same_first ld) a) e1
          | inr b ↦
              let x = b.0 in
              let t1 = g.exact.takes (t ∷ ts) x.0 x.1 b.1 in
              let w = (h x.0).exact.fails x.1 (suc (length ts)) b.2 in
              let le = rest_within x.1 w.front w.rest w.parts in
              let solid : IsExact K G false f1 m1 = subst (λ (v : Bool). IsExact K G v f1 m1) (g.led ld) g.exact in
              let less = rest_below K G f1 m1 solid (t ∷ ts) x.0 t1.front x.1 t1.parts t1.is in
              let wl = w.left in
              omega arith
        ]

    pub then_solid : (n : ℕ) → IsSolid K n G l1 n1 f1 m1 → ((x : A) → IsSolid K n (H x) l2 n2 (f2 x) (m2 x)) → IsSolid K n (G then H) l1 null first more
    then_solid n g h = record {
      exact = e;
      led = λ ld. same_null (g.led ld);
      opens = then_opens n n g h;
      cut = λ ts m f r lt. then_cut n n g h ts m f r lt (λ x front rest p i. let le = rest_within ts front rest p in omega arith);
    }

    pub after_solid : (n : ℕ) → n1 ≡ false → IsSolid K (suc n) G l1 n1 f1 m1 → ((x : A) → IsSolid K n (H x) l2 n2 (f2 x) (m2 x)) → IsSolid K (suc n) (G then H) l1 null first more
    after_solid n led g h = record {
      exact = e;
      led = λ ld. same_null (g.led ld);
      opens = then_opens (suc n) n g h;
      cut = λ ts m f r lt. then_cut (suc n) n g h ts m f r lt (λ x front rest p i. let less = rest_below K G f1 m1 (subst (λ (v : Bool). IsExact K G v f1 m1) led g.exact) ts x front rest p i in omega arith);
    }

  -- ---- alternatives

  module _ {A : Type 0} (ks : List ℕ) (G H : Syntax T A) (l2 n2 : Bool) (f1 f2 : List ℕ) (m1 m2 : A → List ℕ) (null : Bool) (first : List ℕ) (more : A → List ℕ) (e : IsExact K (choice K ks G H) null first more) (taken : within f1 ks ≡ true)
      (exactly : within ks f1 ≡ true) (clash : apart f2 ks ≡ true) (same_first : within first (f1 ++ f2) ≡ true) (led : l2 ≡ true → null ≡ false) (n : ℕ) (g : IsSolid K n G true false f1 m1) (h : IsSolid K n H l2 n2 f2 m2) where
    sees_front : (t : T) (f r ts : List T) → ts ≡ (t ∷ f) ++ r → sees K ks (t ∷ f) ≡ sees K ks ts
    sees_front t f r ts s = rw s refl

    cut_first : (ts : List T) (m : ℕ) (f r : List T) → length ts < n → sees K ks ts ≡ true → G.parse ts ≡ Err (At m) → ts ≡ f ++ r → m ≡ length r → (choice K ks G H).parse f ≡ Err (At 0)
    cut_first [] m f r lt b q s l = absurd cc
    cut_first (t ∷ ts) m [] r lt b q s l =
        let len : m ≡ suc (length ts) = l ∙ sym (ap length s) in
        absurd (g.opens refl t ts lt (within_among ks f1 (K t) exactly b) (q ∙ ap (λ (k : ℕ). Err (At k)) len))
    cut_first (t ∷ ts) m (u ∷ f) r lt b q s l = rw (sees_front u f r (t ∷ ts) s, b) (g.cut (t ∷ ts) m (u ∷ f) r lt q s l)

    cut_second : (ts : List T) (m : ℕ) (f r : List T) → length ts < n → sees K ks ts ≡ false → H.parse ts ≡ Err (At m) → ts ≡ f ++ r → m ≡ length r → (choice K ks G H).parse f ≡ Err (At 0)
    cut_second ts m [] r lt b q s l = h.cut ts m [] r lt q s l
    cut_second ts m (u ∷ f) r lt b q s l = rw (sees_front u f r ts s, b) (h.cut ts m (u ∷ f) r lt q s l)

    open_second : (t : T) (b : Bool) → among (K t) f2 ≡ true → among (K t) ks ≡ b → b ≡ false
    open_second t true a k = absurd (apart_among f2 ks (K t) clash a k)
    open_second t false a k = refl

    pub choice_solid : IsSolid K n (choice K ks G H) l2 null first more
    choice_solid = record {
      exact = e;
      led = led;
      opens = λ ld t ts lt a q.
          elim (among_either (K t) f1 f2 (within_among first (f1 ++ f2) (K t) same_first a)) [
            | inl a1 ↦ let b = within_among f1 ks (K t) taken a1 in g.opens refl t ts lt a1 (rw b at q)
            | inr a2 ↦ let b : among (K t) ks ≡ false = open_second t (among (K t) ks) a2 refl in h.opens ld t ts lt a2 (rw b at q)
          ];
      cut = λ ts m f r lt q s l.
          elim (chosen (sees K ks ts) (G.parse ts) (H.parse ts) (Err (At m)) q) [
            | inl p ↦ cut_first ts m f r lt p.0 p.1 s l
            | inr p ↦ cut_second ts m f r lt p.0 p.1 s l
          ];
    }

  -- ---- with sets that follow from the parts

  pub seq_solid : {A B : Type 0} {n : ℕ} {G : Syntax T A} {H : A → Syntax T B} {l1 l2 n1 n2 : Bool} {f1 m1 f2 m2 : List ℕ} → IsSolid K n G l1 n1 f1 (λ _. m1) → ((x : A) → IsSolid K n (H x) l2 n2 f2 (λ _. m2)) → apart f2 m1 ≡ true
      → IsSolid K n (G then H) l1 (and n1 n2) (f1 ++ empties n1 f2) (λ _. m2 ++ empties n2 m1)
  seq_solid {A} {B} {n} {G} {H} {l1} {l2} {n1} {n2} {f1} {m1} {f2} {m2} g h c =
      then_solid G H l1 l2 n1 n2 f1 (λ _. f2) (λ _. m1) (λ _ _. m2) (and n1 n2) (f1 ++ empties n1 f2) (λ _. m2 ++ empties n2 m1) (seq {n = 0} (same g.exact) (λ x. same (h x).exact) c).here (λ ld. first_of_led f1 f2 n1 (g.led ld))
      (and_false n1 n2) n g h

  pub behind : {A B : Type 0} {n : ℕ} {G : Syntax T A} {H : A → Syntax T B} {l2 n2 : Bool} {f1 m1 f2 m2 : List ℕ} → IsSolid K (suc n) G true false f1 (λ _. m1) → ((x : A) → IsSolid K n (H x) l2 n2 f2 (λ _. m2)) → apart f2 m1 ≡ true
      → IsSolid K (suc n) (G then H) true false (f1 ++ []) (λ _. m2 ++ empties n2 m1)
  behind {A} {B} {n} {G} {H} {l2} {n2} {f1} {m1} {f2} {m2} g h c =
      after_solid G H true l2 false n2 f1 (λ _. f2) (λ _. m1) (λ _ _. m2) false (f1 ++ []) (λ _. m2 ++ empties n2 m1) (seq {n = 0} (same g.exact) (λ x. same (h x).exact) c).here (λ ld. first_of_led f1 f2 false refl) (and_false false n2) n refl g h

  pub either_solid : {A : Type 0} {n : ℕ} (ks : List ℕ) {G H : Syntax T A} {l2 n2 : Bool} {f1 m1 f2 m2 : List ℕ} → IsSolid K n G true false f1 (λ _. m1) → IsSolid K n H l2 n2 f2 (λ _. m2) → and (within f1 ks) (apart f2 ks) ≡ true
      → within ks f1 ≡ true → IsSolid K n (choice K ks G H) l2 n2 (f1 ++ f2) (λ _. m1 ++ (m2 ++ empties n2 ks))
  either_solid {A} {n} ks {G} {H} {l2} {n2} {f1} {m1} {f2} {m2} g h c x =
      let p = cond_true (within f1 ks) (apart f2 ks) c in
      choice_solid ks G H l2 n2 f1 f2 (λ _. m1) (λ _. m2) n2 (f1 ++ f2) (λ _. m1 ++ (m2 ++ empties n2 ks)) (either {n = 0} ks (same g.exact) (same h.exact) c).here p.0 x p.1 (within_self (f1 ++ f2)) (h.led) n g h

  -- the same kinds, in another order
  pub listed : {A : Type 0} {n : ℕ} {G : Syntax T A} {lead null : Bool} {f1 m1 first more : List ℕ} → IsSolid K n G lead null f1 (λ _. m1) → and (within f1 first) (and (within first f1) (within m1 more)) ≡ true
      → IsSolid K n G lead null first (λ _. more)
  listed {A} {n} {G} {lead} {null} {f1} {m1} {first} {more} g c =
      let p = cond_true (within f1 first) _ c in
      let q = cond_true (within first f1) (within m1 more) p.1 in
      record {
        exact = widen K G null f1 (λ _. m1) null first (λ _. more) g.exact (λ h. h) p.0 (λ x. q.1);
        led = g.led;
        opens = λ ld t ts lt a. g.opens ld t ts lt (within_among first f1 (K t) q.0 a);
        cut = g.cut;
      }

  -- a repetition
  again_solid : {A : Type 0} (ks f m : List ℕ) (S : Syntax T A) (R : A → Syntax T A) (x : A) → within f ks ≡ true → within ks f ≡ true → (n : ℕ) → IsSolid K n (S then R) true false (f ++ []) (λ _. (ks ++ m) ++ m)
      → IsSolid K n (choice K ks (S then R) (gives x)) false true ks (λ _. ks ++ m)
  again_solid {A} ks f m S R x t o n g =
      let taken : within (f ++ []) ks ≡ true = rw append-nil t in
      let opened : within ks (f ++ []) ≡ true = rw append-nil o in
      let over : within ((ks ++ m) ++ m) (ks ++ m) ≡ true = within_both (ks ++ m) m (ks ++ m) (within_self (ks ++ m)) (within_right ks m) in
      let fit : ChoiceFits A (λ _. Unit {0}) ks false (f ++ []) (λ _. (ks ++ m) ++ m) true [] (λ _. []) true ks (λ _. ks ++ m) = record {
        solid = refl;
        taken = taken;
        clash = refl;
        over1 = λ y. over;
        over2 = λ y. refl;
        greedy =
            λ y e _. within_left ks m;
        begin1 = taken;
        begin2 = refl;
        empty = λ e. refl;
      } in
      let e = choice_exact K ks (S then R) (gives x) false (f ++ []) (λ _. (ks ++ m) ++ m) true [] (λ _. []) true ks (λ _. ks ++ m) g.exact (gives_exact K x) (λ _. Unit {0}) (λ _ _. tt) fit in
      choice_solid ks (S then R) (gives x) false true (f ++ []) [] (λ _. (ks ++ m) ++ m) (λ _. []) true ks (λ _. ks ++ m) e taken opened refl (within_joined ks (f ++ []) [] opened) (λ h. absurd cc) n g (gives_solid x)

  pub many_solid : {A : Type 0} (ks : List ℕ) {f m : List ℕ} {step : A → Syntax T A} → and (apart ks m) (within f ks) ≡ true → within ks f ≡ true → (n : ℕ) → ((x : A) → IsSolid K n (step x) true false f (λ _. m)) → (x : A)
      → IsSolid K n (many K (λ _. ks) step x) false true ks (λ _. ks ++ m)
  many_solid {A} ks {f} {m} {step} c o zero g x = solid_zero false (λ h. absurd cc) (again_and_again {n = 0} ks (λ y. same (g y).exact) c x).here
  many_solid {A} ks {f} {m} {step} c o (suc n) g x =
      let p = cond_true (apart ks m) (within f ks) c in
      let fit : LoopFits A (λ _. ks) (λ _. f) (λ _ _. m) (λ _. ks ++ m) = turns_fit ks f m c in
      let whole = (again_and_again {n = 0} ks (λ y. same (g y).exact) c x).here in
      let rest : (y : A) → IsSolid K n (many K (λ _. ks) step y) false true ks (λ _. ks ++ m) = λ y. many_solid ks c o n (λ z. lower n (omega arith) (g z)) y in
      as_parsed (many_is K (λ _. ks) (λ _. f) (λ _ _. m) (λ _. ks ++ m) fit step (λ y. (g y).exact) x) whole (again_solid ks f m (step x) (λ y. many K (λ _. ks) step y) x p.1 o (suc n) (behind (g x) rest p.0))

  -- ---- recursion

  -- what is read as its production says, if that is solid one token further wherever it is itself
  pub knot_solid : {S A : Type 0} {G F : S → Syntax T A} {null : Bool} {first : List ℕ} {more : A → List ℕ} → null ≡ false → ((s : S) → IsExact K (G s) null first more) → ((s : S) (ts : List T) → (G s).parse ts ≡ (F s).parse ts)
      → ((n : ℕ) → ((s : S) → IsSolid K n (G s) true null first more) → (s : S) → IsSolid K (suc n) (F s) true null first more) → (n : ℕ) (s : S) → IsSolid K n (G s) true null first more
  knot_solid nn e p step zero s = solid_zero true (λ _. nn) (e s)
  knot_solid nn e p step (suc n) s = as_parsed (p s) (e s) (step n (λ u. knot_solid nn e p step n u) s)

  -- the same, up to a bound
  pub knot_solid_to : {S A : Type 0} {G F : S → Syntax T A} {null : Bool} {first : List ℕ} {more : A → List ℕ} (top : ℕ) → null ≡ false → ((s : S) → IsExact K (G s) null first more) → ((s : S) (ts : List T) → (G s).parse ts ≡ (F s).parse ts)
      → ((n : ℕ) → n < top → ((s : S) → IsSolid K n (G s) true null first more) → (s : S) → IsSolid K (suc n) (F s) true null first more) → (n : ℕ) → n ≤ top → (s : S) → IsSolid K n (G s) true null first more
  knot_solid_to top nn e p step zero le s = solid_zero true (λ _. nn) (e s)
  knot_solid_to top nn e p step (suc n) le s = as_parsed (p s) (e s) (step n (omega arith) (λ u. knot_solid_to top nn e p step n (omega arith) u) s)

  -- ---- limits

  pub at_most_solid : {A : Type 0} {n : ℕ} (label most : ℕ) {G : Syntax T A} {lead null : Bool} {first : List ℕ} {more : A → List ℕ} → Unlimited G → IsSolid K n G lead null first more → IsSolid K n (at_most label most G) lead null first more
  at_most_solid {A} {n} label most {G} {lead} {null} {first} {more} free g = record {
    exact = at_most_exact K label most G null first more g.exact free;
    led = g.led;
    opens = λ ld t ts lt a q. elim (at_most_answer K label most G null first more g.exact (t ∷ ts)) [
      | inl p ↦ g.opens ld t ts lt a (sym p.1 ∙ q)
      | inr p ↦ let z : Err (Over label (length (t ∷ ts) - most)) ≡ Err (At (suc (length ts))) = sym p.1
          ∙ q in cc
    ];
    cut = λ ts m f r lt q s l.
        elim (at_most_answer K label most G null first more g.exact ts) [
          | inl p ↦
              let e : G.parse ts ≡ Err (At m) = sym p.1 ∙ q in
              let c = g.cut ts m f r lt e s l in
              let short = front_short K label most G null first more g.exact ts f r (place (G.parse ts)) s (ap place e ∙ l) p.0 in
              ap (capped label most (length f)) c ∙ capped_in label most (length f) (Err (At 0)) (let k = below K label most G null first more g.exact f [] short in ap (λ (z : List T). ltb (most + 0) (length z)) (sym (append-nil f)) ∙ k)
          | inr p ↦ absurd (let z : Err (Over label (length ts - most)) ≡ Err (At m) = sym p.1 ∙ q in cc)
        ];
  }

  -- ---- sets that depend on what was read

  pub made_solid : {A B : Type 0} {n : ℕ} {G : Syntax T A} {l1 : Bool} {f1 : List ℕ} {m1 : A → List ℕ} {more : B → List ℕ} (f : A → B) → IsSolid K n G l1 false f1 m1 → ((x : A) → within (m1 x) (more (f x)) ≡ true)
      → IsSolid K n (G then λ x. gives (f x)) l1 false f1 more
  made_solid {A} {B} {n} {G} {l1} {f1} {m1} {more} f g e =
      then_solid G (λ x. gives (f x)) l1 false false true f1 (λ _. []) m1 (λ _ _. []) false f1 more (made {n = 0} f (same g.exact) e).here (λ ld. within_self f1) (λ h. h) n g (λ x. gives_solid (f x))

  -- a repetition, where the kinds depend on the value before each turn
  pub many_solid_to : {A : Type 0} (ks : A → List ℕ) {f : A → List ℕ} {m : A → A → List ℕ} {more : A → List ℕ} {step : A → Syntax T A} → LoopFits A ks f m more → ((x : A) → within (ks x) (f x) ≡ true) → (n : ℕ)
      → ((x : A) → IsSolid K n (step x) true false (f x) (m x)) → (x : A) → IsSolid K n (many K ks step x) false true (ks x) more
  many_solid_to {A} ks {f} {m} {more} {step} fit o zero g x = solid_zero false (λ h. absurd cc) (many_exact K ks f m more fit step (λ y. (g y).exact) x)
  many_solid_to {A} ks {f} {m} {more} {step} fit o (suc n) g x =
      let rest : (y : A) → IsSolid K n (many K ks step y) false true (ks y) more = λ y. many_solid_to ks fit o n (λ z. lower n (omega arith) (g z)) y in
      let once = after_solid (step x) (λ y. many K ks step y) true false false true (f x) ks (m x) (λ _. more) false (f x) more (turn_exact K ks f m more fit step (λ y. (g y).exact) x) (λ _. within_self (f x)) (λ e. e) n refl (g x) rest in
      as_parsed (many_is K ks f m more fit step (λ y. (g y).exact) x) (many_exact K ks f m more fit step (λ y. (g y).exact) x)
      (choice_solid (ks x) (step x then λ y. many K ks step y) (gives x) false true (f x) [] more (λ _. []) true (ks x) more (turned_exact K ks f m more fit step (λ y. (g y).exact) x) (fit.taken x) (o x) refl (within_joined (ks x) (f x) [] (o x))
      (λ h. absurd cc) (suc n) once (gives_solid x))

  -- where a token can't follow, what stands before it is no reading
  pub no_reading : {A : Type 0} (G : Syntax T A) (lead null : Bool) (first : List ℕ) (more : A → List ℕ) → ((n : ℕ) → IsSolid K n G lead null first more) → (ts : List T) (m : ℕ) (f r : List T) → G.parse ts ≡ Err (At m) → ts ≡ f ++ r → m ≡ length r
      → (x : A) → G.reads f x → ⊥
  no_reading {A} G lead null first more g ts m f r e s l x is =
      let w = g (suc (length ts)) in
      let c = w.cut ts m f r (omega arith) e s l in
      let a : (G.parse f ≡ Ok (x, [])) ⊎ Late (G.parse f) 1 = subst (λ (v : List T). (G.parse v ≡ Ok (x, [])) ⊎ Late (G.parse v) 1) (append-nil f) (w.exact.again f x [] is refl) in
      not_read (G.parse f) x 1 c a

  -- where a token can't follow, the tokens before it are no reading
  pub unread : {A : Type 0} (G : Syntax T A) (lead null : Bool) (first : List ℕ) (more : A → List ℕ) → ((n : ℕ) → IsSolid K n G lead null first more) → (text : List T) (n : ℕ) → G.parse text ≡ Err (At n) → Unread G text n
  unread G lead null first more g text n e =
      let w = refused_at G null first more (g 0).exact text n e in
      record { refused = w; unread = no_reading G lead null first more g text n w.front w.rest e w.longest.parts w.place }
