-- Recursion by a bound: two neighbouring bounds agree on short texts, and so any bound that is large enough does.
use Rattle.std.proofs.Common.{◌≡◌, ℕ, zero, suc, ◌+◌, ◌-◌, ◌<◌, ◌≤◌, Bool, true, false, List, [], ◌∷◌, ◌++◌, length, Result, Ok, Err, refl, sym, ◌∙◌, ap, subst, ◌⊎◌, inl, inr, arith, length-append}
use Rattle.grammar.specs.Syntax.{Syntax, ParseFault, At, Over, among, sees, none, gives, ◌then◌, choice, loop, limit, many, ◌>>=◌}
use Rattle.grammar.specs.Exact.{Takes, Fails, Overs, Late, RunsOut, IsExact, IsGood}
use Rattle.grammar.proofs.Sets.{within, apart, within_self}
use Rattle.grammar.proofs.Parts.{ThenFits, ChoiceFits, nil_front, none_exact, gives_exact, then_exact, choice_exact}

-- What a repetition asks of a turn from x, that begins with f x and gives a y that it can go on with by m x y.
pub record LoopFits (A : Type 0) (ks f : A → List ℕ) (m : A → A → List ℕ) (more : A → List ℕ) : Type 0 where
  pub clash : (x y : A) → apart (ks y) (m x y) ≡ true
  pub taken : (x : A) → within (f x) (ks x) ≡ true
  pub over : (x y : A) → within (m x y) (more y) ≡ true
  pub greedy : (x : A) → within (ks x) (more x) ≡ true

bind_same : {A B : Type 0} (r : Result A ParseFault) (f g : A → Result B ParseFault) → ((x : A) → r ≡ Ok x → f x ≡ g x) → (r >>= f) ≡ (r >>= g)
bind_same (Ok x) f g h = h x refl
bind_same (Err n) f g h = refl

-- the parts of a text are no longer than it is
front_within : {T : Type 0} (ts front rest : List T) → ts ≡ front ++ rest → (length front ≤ length ts) × (length rest ≤ length ts)
front_within ts front rest e = let l = length-append front rest in let k = ap length e in (omega (arith, l, k), omega (arith, l, k))

pub rest_within : {T : Type 0} (ts front rest : List T) → ts ≡ front ++ rest → length rest ≤ length ts
rest_within ts front rest e = omega (arith, ap length e, length-append front rest)

pub split_same : {A : Type 0} (a b r s : List A) → a ++ r ≡ b ++ s → length r ≡ length s → (a ≡ b) × (r ≡ s)
split_same [] [] r s e l = (refl, e)
split_same [] (y ∷ b) r s e l = absurd (omega (arith, ap length e, length-append b s))
split_same (x ∷ a) [] r s e l = absurd (omega (arith, ap length e, length-append a r))
split_same (x ∷ a) (y ∷ b) r s e l =
    let same : x ≡ y = cc in
    let rest : a ++ r ≡ b ++ s = cc in
    let p = split_same a b r s rest l in
    (rw (same, p.0) refl, p.1)

abbrev up : ℕ → ℕ → ℕ
up zero j = j
up (suc d) j = suc (up d j)

up_is : (d j : ℕ) → up d j ≡ d + j
up_is zero j = omega arith
up_is (suc d) j = omega (arith, up_is d j)

split_front : {A : Type 0} (ts a b r s : List A) → ts ≡ a ++ r → ts ≡ b ++ s → length r ≡ length s → a ≡ b
split_front ts a b r s p q l = (split_same a b r s (sym p ∙ q) l).0

split_rest : {A : Type 0} (ts a b r s : List A) → ts ≡ a ++ r → ts ≡ b ++ s → length r ≡ length s → r ≡ s
split_rest ts a b r s p q l = (split_same a b r s (sym p ∙ q) l).1

module _ {T : Type 0} (K : T → ℕ) where
  pub same_good : {A : Type 0} (n : ℕ) (G : Syntax T A) (null : Bool) (first : List ℕ) (more : A → List ℕ) → IsExact K G null first more → IsGood K n G G null first more
  same_good n G null first more g = record { here = g; there = g; reads = λ a x r. r; begun = λ a b. b; late = λ i a t l. l; agree = λ ts h. refl; reads_back = λ a x lt r. r; begun_back = λ a lt b. b; late_back = λ i a t lt l. l }

  pub rest_below : {A : Type 0} (G : Syntax T A) (first : List ℕ) (more : A → List ℕ) → IsExact K G false first more → (ts : List T) (x : A) (front rest : List T) → ts ≡ front ++ rest → G.reads front x → length rest < length ts
  rest_below G first more g ts x [] rest e r = absurd (let f = g.filled x r in cc)
  rest_below G first more g ts x (t ∷ front) rest e r = omega (arith, ap length e, length-append front rest)

  module _ {A B : Type 0} (n : ℕ) (G G' : Syntax T A) (H H' : A → Syntax T B) (n1 : Bool) (f1 : List ℕ) (m1 : A → List ℕ) (n2 : Bool) (f2 : A → List ℕ) (m2 : A → B → List ℕ) (null : Bool) (first : List ℕ) (more : B → List ℕ) (R : A → B
      → Type 0) (ends : (x : A) (y : B) → (H x).reads [] y → R x y) (ends' : (x : A) (y : B) → (H' x).reads [] y → R x y) (fit : ThenFits A B R n1 f1 m1 n2 f2 m2 null first more) where
    then_reads_back : (m k : ℕ) → ((a : List T) (x : A) → length a < m → G'.reads a x → G.reads a x) → ((x : A) (a : List T) (y : B) → length a < k → (H' x).reads a y → (H x).reads a y) → (a : List T) (y : B)
        → ((b c : List T) (x : A) → a ≡ b ++ c → G'.reads b x → (length b < m) × (length c < k)) → (G' then H').reads a y → (G then H).reads a y
    then_reads_back m k p q a y w r = let l = w r.0 r.1 r.2 r.3 r.4 in (r.0, r.1, r.2, r.3, p r.0 r.2 l.0 r.4, q r.2 r.1 y l.1 r.5)

    then_begun_back : (m k : ℕ) → ((a : List T) (x : A) → length a < m → G'.reads a x → G.reads a x) → ((a : List T) → length a < m → G'.begun a → G.begun a) → ((x : A) (a : List T) → length a < k → (H' x).begun a → (H x).begun a) → (a : List T)
        → length a < m → ((b c : List T) (x : A) → a ≡ b ++ c → G'.reads b x → (length b < m) × (length c < k)) → (G' then H').begun a → (G then H).begun a
    then_begun_back m k p q s a lt w (inl b) = inl (q a lt b)
    then_begun_back m k p q s a lt w (inr r) = let l = w r.0 r.1 r.2 r.3 r.4 in inr (r.0, r.1, r.2, r.3, p r.0 r.2 l.0 r.4, s r.2 r.1 l.1 r.5)

    then_late_back : (m k : ℕ) → ((a : List T) (x : A) → length a < m → G'.reads a x → G.reads a x) → ((i : ℕ) (a : List T) (t : T) → suc (length a) < m → G'.late i a t → G.late i a t) → ((x : A) (i : ℕ) (a : List T) (t : T) → suc (length a) < k
        → (H' x).late i a t → (H x).late i a t) → (i : ℕ) (a : List T) (t : T) → suc (length a) < m → ((b c : List T) (x : A) → a ≡ b ++ c → G'.reads b x → (length b < m) × (suc (length c) < k)) → (G' then H').late i a t → (G then H).late i a t
    then_late_back m k p q s i a t lt w (inl b) = inl (q i a t lt b)
    then_late_back m k p q s i a t lt w (inr r) = let l = w r.0 r.1 r.2 r.3 r.4 in inr (r.0, r.1, r.2, r.3, p r.0 r.2 l.0 r.4, s r.2 i r.1 t l.1 r.5)

    then_reads : ((a : List T) (x : A) → G.reads a x → G'.reads a x) → ((x : A) (a : List T) (y : B) → (H x).reads a y → (H' x).reads a y) → (a : List T) (y : B) → (G then H).reads a y → (G' then H').reads a y
    then_reads p q a y r = (r.0, r.1, r.2, r.3, p r.0 r.2 r.4, q r.2 r.1 y r.5)

    then_begun : ((a : List T) (x : A) → G.reads a x → G'.reads a x) → ((a : List T) → G.begun a → G'.begun a) → ((x : A) (a : List T) → (H x).begun a → (H' x).begun a) → (a : List T) → (G then H).begun a → (G' then H').begun a
    then_begun p q s a (inl b) = inl (q a b)
    then_begun p q s a (inr r) = inr (r.0, r.1, r.2, r.3, p r.0 r.2 r.4, s r.2 r.1 r.5)

    then_late : ((a : List T) (x : A) → G.reads a x → G'.reads a x) → ((i : ℕ) (a : List T) (t : T) → G.late i a t → G'.late i a t) → ((x : A) (i : ℕ) (a : List T) (t : T) → (H x).late i a t → (H' x).late i a t) → (i : ℕ) (a : List T) (t : T)
        → (G then H).late i a t → (G' then H').late i a t
    then_late p q s i a t (inl b) = inl (q i a t b)
    then_late p q s i a t (inr r) = inr (r.0, r.1, r.2, r.3, p r.0 r.2 r.4, s r.2 i r.1 t r.5)

    pub then_good : IsGood K n G G' n1 f1 m1 → ((x : A) → IsGood K n (H x) (H' x) n2 (f2 x) (m2 x)) → IsGood K n (G then H) (G' then H') null first more
    then_good g h = record {
      here = then_exact K G H n1 f1 m1 n2 f2 m2 null first more g.here (λ x. (h x).here) R ends fit;
      there = then_exact K G' H' n1 f1 m1 n2 f2 m2 null first more g.there (λ x. (h x).there) R ends' fit;
      reads = then_reads g.reads (λ x. (h x).reads);
      begun = then_begun g.reads g.begun (λ x. (h x).begun);
      late = then_late g.reads g.late (λ x. (h x).late);
      agree = λ ts lt. rw (g.agree ts lt) (bind_same (G'.parse ts) (λ x. (H x.0).parse x.1) (λ x. (H' x.0).parse x.1) (λ x e.
          let t = g.there.takes ts x.0 x.1 e in
          let le = rest_within ts t.front x.1 t.parts in
          (h x.0).agree x.1 (omega arith)));
      reads_back = λ a y lt. then_reads_back n n g.reads_back (λ x. (h x).reads_back) a y (λ b c x e r. let l = front_within a b c e in (omega arith, omega arith));
      begun_back = λ a lt. then_begun_back n n g.reads_back g.begun_back (λ x. (h x).begun_back) a lt (λ b c x e r. let l = front_within a b c e in (omega arith, omega arith));
      late_back = λ i a t lt. then_late_back n n g.reads_back g.late_back (λ x. (h x).late_back) i a t lt (λ b c x e r. let l = front_within a b c e in (omega arith, omega arith));
    }

  -- after at least one token the bound is one less
  module _ {A B : Type 0} (n : ℕ) (G G' : Syntax T A) (H H' : A → Syntax T B) (f1 : List ℕ) (m1 : A → List ℕ) (n2 : Bool) (f2 : A → List ℕ) (m2 : A → B → List ℕ) (first : List ℕ) (more : B → List ℕ) (R : A → B → Type 0) (ends : (x : A) (y : B)
      → (H x).reads [] y → R x y) (ends' : (x : A) (y : B) → (H' x).reads [] y → R x y) (fit : ThenFits A B R false f1 m1 n2 f2 m2 false first more) where
    pub after_good : IsGood K (suc n) G G' false f1 m1 → ((x : A) → IsGood K n (H x) (H' x) n2 (f2 x) (m2 x)) → IsGood K (suc n) (G then H) (G' then H') false first more
    after_good g h = record {
      here = then_exact K G H false f1 m1 n2 f2 m2 false first more g.here (λ x. (h x).here) R ends fit;
      there = then_exact K G' H' false f1 m1 n2 f2 m2 false first more g.there (λ x. (h x).there) R ends' fit;
      reads = then_reads n G G' H H' false f1 m1 n2 f2 m2 false first more R ends ends' fit g.reads (λ x. (h x).reads);
      begun = then_begun n G G' H H' false f1 m1 n2 f2 m2 false first more R ends ends' fit g.reads g.begun (λ x. (h x).begun);
      late = then_late n G G' H H' false f1 m1 n2 f2 m2 false first more R ends ends' fit g.reads g.late (λ x. (h x).late);
      agree = λ ts lt. rw (g.agree ts lt) (bind_same (G'.parse ts) (λ x. (H x.0).parse x.1) (λ x. (H' x.0).parse x.1) (λ x e.
          let t = g.there.takes ts x.0 x.1 e in
          let less = rest_below G' f1 m1 g.there ts x.0 t.front x.1 t.parts t.is in
          (h x.0).agree x.1 (omega arith)));
      reads_back = λ a y lt. then_reads_back n G G' H H' false f1 m1 n2 f2 m2 false first more R ends ends' fit (suc n) n g.reads_back (λ x. (h x).reads_back) a y (λ b c x e r. let less = rest_below G' f1 m1 g.there a x b c e r in let l =
          front_within a b c e in (omega arith, omega arith));
      begun_back = λ a lt. then_begun_back n G G' H H' false f1 m1 n2 f2 m2 false first more R ends ends' fit (suc n) n g.reads_back g.begun_back (λ x. (h x).begun_back) a lt (λ b c x e r. let less = rest_below G' f1 m1 g.there a x b c e r in let l =
          front_within a b c e in (omega arith, omega arith));
      late_back = λ i a t lt. then_late_back n G G' H H' false f1 m1 n2 f2 m2 false first more R ends ends' fit (suc n) n g.reads_back g.late_back (λ x. (h x).late_back) i a t lt (λ b c x e r. let less = rest_below G' f1 m1 g.there a x b c e r in
          let l = front_within a b c e in (omega arith, omega arith));
    }

  module _ {A : Type 0} (n : ℕ) (ks : List ℕ) (G G' H H' : Syntax T A) (n1 : Bool) (f1 : List ℕ) (m1 : A → List ℕ) (n2 : Bool) (f2 : List ℕ) (m2 : A → List ℕ) (null : Bool) (first : List ℕ) (more : A → List ℕ) (R : A → Type 0) (ends : (x : A)
      → H.reads [] x → R x) (ends' : (x : A) → H'.reads [] x → R x) (fit : ChoiceFits A R ks n1 f1 m1 n2 f2 m2 null first more) where
    choice_reads_back : ((a : List T) (x : A) → length a < n → G'.reads a x → G.reads a x) → ((a : List T) (x : A) → length a < n → H'.reads a x → H.reads a x) → (a : List T) (x : A) → length a < n → (choice K ks G' H').reads a x
        → (choice K ks G H).reads a x
    choice_reads_back p q a x lt (inl r) = inl (p a x lt r)
    choice_reads_back p q a x lt (inr r) = inr (q a x lt r)

    choice_begun_back : ((a : List T) → length a < n → G'.begun a → G.begun a) → ((a : List T) → length a < n → H'.begun a → H.begun a) → (a : List T) → length a < n → (choice K ks G' H').begun a → (choice K ks G H).begun a
    choice_begun_back p q a lt (inl r) = inl (p a lt r)
    choice_begun_back p q a lt (inr r) = inr (q a lt r)

    choice_late_back : ((i : ℕ) (a : List T) (t : T) → suc (length a) < n → G'.late i a t → G.late i a t) → ((i : ℕ) (a : List T) (t : T) → suc (length a) < n → H'.late i a t → H.late i a t) → (i : ℕ) (a : List T) (t : T) → suc (length a) < n
        → (choice K ks G' H').late i a t → (choice K ks G H).late i a t
    choice_late_back p q i a t lt (inl r) = inl (p i a t lt r)
    choice_late_back p q i a t lt (inr r) = inr (q i a t lt r)

    choice_reads : ((a : List T) (x : A) → G.reads a x → G'.reads a x) → ((a : List T) (x : A) → H.reads a x → H'.reads a x) → (a : List T) (x : A) → (choice K ks G H).reads a x → (choice K ks G' H').reads a x
    choice_reads p q a x (inl r) = inl (p a x r)
    choice_reads p q a x (inr r) = inr (q a x r)

    choice_begun : ((a : List T) → G.begun a → G'.begun a) → ((a : List T) → H.begun a → H'.begun a) → (a : List T) → (choice K ks G H).begun a → (choice K ks G' H').begun a
    choice_begun p q a (inl r) = inl (p a r)
    choice_begun p q a (inr r) = inr (q a r)

    choice_late : ((i : ℕ) (a : List T) (t : T) → G.late i a t → G'.late i a t) → ((i : ℕ) (a : List T) (t : T) → H.late i a t → H'.late i a t) → (i : ℕ) (a : List T) (t : T) → (choice K ks G H).late i a t → (choice K ks G' H').late i a t
    choice_late p q i a t (inl r) = inl (p i a t r)
    choice_late p q i a t (inr r) = inr (q i a t r)

    pub choice_good : IsGood K n G G' n1 f1 m1 → IsGood K n H H' n2 f2 m2 → IsGood K n (choice K ks G H) (choice K ks G' H') null first more
    choice_good g h = record {
      here = choice_exact K ks G H n1 f1 m1 n2 f2 m2 null first more g.here h.here R ends fit;
      there = choice_exact K ks G' H' n1 f1 m1 n2 f2 m2 null first more g.there h.there R ends' fit;
      reads = choice_reads g.reads h.reads;
      begun = choice_begun g.begun h.begun;
      late = choice_late g.late h.late;
      agree = λ ts lt. rw (g.agree ts lt, h.agree ts lt) refl;
      reads_back = choice_reads_back g.reads_back h.reads_back;
      begun_back = choice_begun_back g.begun_back h.begun_back;
      late_back = choice_late_back g.late_back h.late_back;
    }

  -- ---- any bound

  module _ {A : Type 0} (F : ℕ → Syntax T A) (null : Bool) (first : List ℕ) (more : A → List ℕ) (good : (k : ℕ) → IsGood K k (F k) (F (suc k)) null first more) where
    reads_up : (d j : ℕ) (a : List T) (x : A) → (F j).reads a x → (F (up d j)).reads a x
    reads_up zero j a x r = r
    reads_up (suc d) j a x r = (good (up d j)).reads a x (reads_up d j a x r)

    begun_up : (d j : ℕ) (a : List T) → (F j).begun a → (F (up d j)).begun a
    begun_up zero j a b = b
    begun_up (suc d) j a b = (good (up d j)).begun a (begun_up d j a b)

    late_up : (d j i : ℕ) (a : List T) (t : T) → (F j).late i a t → (F (up d j)).late i a t
    late_up zero j i a t b = b
    late_up (suc d) j i a t b = (good (up d j)).late i a t (late_up d j i a t b)

    agree_up : (d j : ℕ) (ts : List T) → length ts < j → (F j).parse ts ≡ (F (up d j)).parse ts
    agree_up zero j ts lt = refl
    agree_up (suc d) j ts lt = agree_up d j ts lt ∙ (good (up d j)).agree ts (omega (arith, up_is d j))

    up_to : (j k : ℕ) → j ≤ k → up (k - j) j ≡ k
    up_to j k le = omega (arith, up_is (k - j) j)

    pub reads_le : (j k : ℕ) (a : List T) (x : A) → j ≤ k → (F j).reads a x → (F k).reads a x
    reads_le j k a x le r = subst (λ (m : ℕ). (F m).reads a x) (up_to j k le) (reads_up (k - j) j a x r)

    pub begun_le : (j k : ℕ) (a : List T) → j ≤ k → (F j).begun a → (F k).begun a
    begun_le j k a le r = subst (λ (m : ℕ). (F m).begun a) (up_to j k le) (begun_up (k - j) j a r)

    pub late_le : (j k i : ℕ) (a : List T) (t : T) → j ≤ k → (F j).late i a t → (F k).late i a t
    late_le j k i a t le r = subst (λ (m : ℕ). (F m).late i a t) (up_to j k le) (late_up (k - j) j i a t r)

    pub agree_le : (j k : ℕ) (ts : List T) → length ts < j → j ≤ k → (F j).parse ts ≡ (F k).parse ts
    agree_le j k ts lt le = agree_up (k - j) j ts lt ∙ ap (λ (m : ℕ). (F m).parse ts) (up_to j k le)

    reads_down : (d j : ℕ) (a : List T) (x : A) → length a < j → (F (up d j)).reads a x → (F j).reads a x
    reads_down zero j a x lt r = r
    reads_down (suc d) j a x lt r = reads_down d j a x lt ((good (up d j)).reads_back a x (omega (arith, up_is d j)) r)

    begun_down : (d j : ℕ) (a : List T) → length a < j → (F (up d j)).begun a → (F j).begun a
    begun_down zero j a lt r = r
    begun_down (suc d) j a lt r = begun_down d j a lt ((good (up d j)).begun_back a (omega (arith, up_is d j)) r)

    late_down : (d j i : ℕ) (a : List T) (t : T) → suc (length a) < j → (F (up d j)).late i a t → (F j).late i a t
    late_down zero j i a t lt r = r
    late_down (suc d) j i a t lt r = late_down d j i a t lt ((good (up d j)).late_back i a t (omega (arith, up_is d j)) r)

    -- what is read at any bound is read at one above its number of tokens
    reads_of : (k : ℕ) (a : List T) (x : A) → length a < k → (limit F).reads a x → (F k).reads a x
    reads_of k a x lt r = reads_down r.0 k a x lt (subst (λ (m : ℕ). (F m).reads a x) (sym (up_is r.0 k)) (reads_le r.0 (r.0 + k) a x (omega arith) r.1))

    begun_of : (k : ℕ) (a : List T) → length a < k → (limit F).begun a → (F k).begun a
    begun_of k a lt r = begun_down r.0 k a lt (subst (λ (m : ℕ). (F m).begun a) (sym (up_is r.0 k)) (begun_le r.0 (r.0 + k) a (omega arith) r.1))

    late_of : (k i : ℕ) (a : List T) (t : T) → suc (length a) < k → (limit F).late i a t → (F k).late i a t
    late_of k i a t lt r = late_down r.0 k i a t lt (subst (λ (m : ℕ). (F m).late i a t) (sym (up_is r.0 k)) (late_le r.0 (r.0 + k) i a t (omega arith) r.1))

    -- the bound of a text, and a larger one
    pub agree_of : (k : ℕ) (ts : List T) → length ts < k → (limit F).parse ts ≡ (F k).parse ts
    agree_of k ts lt = agree_le (suc (length ts)) k ts (omega arith) (omega arith)

    limit_takes : (ts : List T) (x : A) (rest : List T) → (limit F).parse ts ≡ Ok (x, rest) → Takes (limit F).parse (limit F).reads ts x rest
    limit_takes ts x rest e =
        let t = (good (suc (length ts))).here.takes ts x rest e in
        record {
          front = t.front;
          parts = t.parts;
          is = (suc (length ts), t.is);
          local = λ u s.
              let m = suc (length ts) + suc (length (t.front ++ u)) in
              let t2 = (good m).here.takes ts x rest (sym (agree_of m ts (omega arith)) ∙ e) in
              let same : t2.front ≡ t.front = split_front ts t2.front t.front rest rest t2.parts t.parts refl in
              agree_of m (t.front ++ u) (omega arith) ∙ subst (λ (w : List T). (F m).parse (w ++ u) ≡ Ok (x, u)) same (t2.local u s);
        }

    limit_fails : (ts : List T) (n : ℕ) → (limit F).parse ts ≡ Err (At n) → Fails (limit F).parse (limit F).begun ts n
    limit_fails ts n e =
        let t = (good (suc (length ts))).here.fails ts n e in
        record {
          front = t.front;
          rest = t.rest;
          parts = t.parts;
          left = t.left;
          is = (suc (length ts), t.is);
          local = λ u s.
              let m = suc (length ts) + suc (length (t.front ++ u)) in
              let t2 = (good m).here.fails ts n (sym (agree_of m ts (omega arith)) ∙ e) in
              let same : t2.front ≡ t.front = split_front ts t2.front t.front t2.rest t.rest t2.parts t.parts (sym t2.left ∙ t.left) in
              let rest : t2.rest ≡ t.rest = split_rest ts t2.front t.front t2.rest t.rest t2.parts t.parts (sym t2.left ∙ t.left) in
              agree_of m (t.front ++ u) (omega arith) ∙ subst (λ (w : List T). (F m).parse (w ++ u) ≡ Err (At (length u))) same (t2.local u (rw rest s));
        }

    limit_overs : (ts : List T) (i n : ℕ) → (limit F).parse ts ≡ Err (Over i n) → Overs (limit F).parse (limit F).late ts i n
    limit_overs ts i n e =
        let t = (good (suc (length ts))).here.overs ts i n e in
        record {
          front = t.front;
          token = t.token;
          rest = t.rest;
          parts = t.parts;
          left = t.left;
          is = (suc (length ts), t.is);
          local = λ u.
              let m = suc (length ts) + suc (length (t.front ++ (t.token ∷ u))) in
              let t2 = (good m).here.overs ts i n (sym (agree_of m ts (omega arith)) ∙ e) in
              let same : t2.front ≡ t.front = split_front ts t2.front t.front (t2.token ∷ t2.rest) (t.token ∷ t.rest) t2.parts t.parts (sym t2.left ∙ t.left) in
              let rest : t2.token ∷ t2.rest ≡ t.token ∷ t.rest = split_rest ts t2.front t.front (t2.token ∷ t2.rest) (t.token ∷ t.rest) t2.parts t.parts (sym t2.left ∙ t.left) in
              let token : t2.token ≡ t.token = cc in
              agree_of m (t.front ++ (t.token ∷ u)) (omega arith) ∙ subst (λ (w : List T). (F m).parse (w ++ (t.token ∷ u)) ≡ Err (Over i (suc (length u)))) same
              (subst (λ (v : T). (F m).parse (t2.front ++ (v ∷ u)) ≡ Err (Over i (suc (length u)))) token (t2.local u));
        }

    limit_again : (a : List T) (x : A) (b : List T) → (limit F).reads a x → sees K (more x) b ≡ false → ((limit F).parse (a ++ b) ≡ Ok (x, b)) ⊎ Late ((limit F).parse (a ++ b)) (suc (length b))
    limit_again a x b r s =
        let m = r.0 + suc (length (a ++ b)) in
        rw (agree_of m (a ++ b) (omega arith)) ((good m).here.again a x b (reads_le r.0 m a x (omega arith) r.1) s)

    limit_lates : (i : ℕ) (a : List T) (t : T) (u : List T) → (limit F).late i a t → Late ((limit F).parse (a ++ (t ∷ u))) (suc (length u))
    limit_lates i a t u l =
        let m = l.0 + suc (length (a ++ (t ∷ u))) in
        rw (agree_of m (a ++ (t ∷ u)) (omega arith)) ((good m).here.lates i a t u (late_le l.0 m i a t (omega arith) l.1))

    limit_runs : (a : List T) → (limit F).begun a → RunsOut ((limit F).parse a)
    limit_runs a b =
        let m = b.0 + suc (length a) in
        rw (agree_of m a (omega arith)) ((good m).here.runs a (begun_le b.0 m a (omega arith) b.1))

    limit_single : (a : List T) (x y : A) → (limit F).reads a x → (limit F).reads a y → x ≡ y
    limit_single a x y r s = let m = r.0 + s.0 in (good m).here.single a x y (reads_le r.0 m a x (omega arith) r.1) (reads_le s.0 m a y (omega arith) s.1)

    limit_goes_on : (a : List T) (x : A) (t : T) (u : List T) → (limit F).reads a x → (limit F).begun (a ++ (t ∷ u)) → among (K t) (more x) ≡ true
    limit_goes_on a x t u r b = let m = r.0 + b.0 in (good m).here.goes_on a x t u (reads_le r.0 m a x (omega arith) r.1) (begun_le b.0 m (a ++ (t ∷ u)) (omega arith) b.1)

    limit_one_limit : (i j : ℕ) (a : List T) (t : T) → (limit F).late i a t → (limit F).late j a t → i ≡ j
    limit_one_limit i j a t l k = let m = l.0 + k.0 in (good m).here.one_limit i j a t (late_le l.0 m i a t (omega arith) l.1) (late_le k.0 m j a t (omega arith) k.1)

    pub limit_exact : IsExact K (limit F) null first more
    limit_exact = record {
      takes = limit_takes;
      fails = limit_fails;
      overs = limit_overs;
      again = limit_again;
      lates = limit_lates;
      late_begins = λ i a t l. (l.0, (good l.0).here.late_begins i a t l.1);
      runs = limit_runs;
      begins = λ a x r. (r.0, (good r.0).here.begins a x r.1);
      fronts = λ a b r. (r.0, (good r.0).here.fronts a b r.1);
      empty = (0, (good 0).here.empty);
      starts = λ t ts b. (good b.0).here.starts t ts b.1;
      filled = λ x r. (good r.0).here.filled x r.1;
      single = limit_single;
      goes_on = limit_goes_on;
      one_limit = limit_one_limit;
    }

  -- a bound, and no bound
  pub limit_good : {A : Type 0} (F : ℕ → Syntax T A) (null : Bool) (first : List ℕ) (more : A → List ℕ) (good : (k : ℕ) → IsGood K k (F k) (F (suc k)) null first more) (k : ℕ) → IsGood K k (F k) (limit F) null first more
  limit_good F null first more good k = record {
    here = (good k).here;
    there = limit_exact F null first more good;
    reads = λ a x r. (k, r);
    begun = λ a b. (k, b);
    late = λ i a t l. (k, l);
    agree = λ ts lt. sym (agree_of F null first more good k ts lt);
    reads_back = reads_of F null first more good k;
    begun_back = begun_of F null first more good k;
    late_back = late_of F null first more good k;
  }

  -- ---- a repetition

  module _ {A : Type 0} (ks : A → List ℕ) where
    -- no turn leaves the value as it is
    turns : (f : A → List ℕ) (m : A → A → List ℕ) (step : A → Syntax T A) → ((x : A) → IsExact K (step x) false (f x) (m x)) → (n : ℕ) (x z : A) → (loop K n ks step x).reads [] z → x ≡ z
    turns f m step g zero x z (inl r) = absurd r
    turns f m step g zero x z (inr r) = r.1
    turns f m step g (suc n) x z (inl r) = absurd (let e = (g x).filled r.2 (subst (λ (w : List T). (step x).reads w r.2) (nil_front r.0 r.1 (sym r.3)) r.4) in cc)
    turns f m step g (suc n) x z (inr r) = r.1

    loop_zero : (more : A → List ℕ) (x : A) → within (ks x) (more x) ≡ true → ChoiceFits A (λ y. x ≡ y) (ks x) false [] (λ y. []) true [] (λ y. []) true (ks x) more
    loop_zero more x h = record { solid = refl; taken = refl; clash = refl; over1 = λ y. refl; over2 = λ y. refl; greedy = λ y e same. rw (← same) h; begin1 = refl; begin2 = refl; empty = λ e. refl }

    loop_once : (f : A → List ℕ) (m : A → A → List ℕ) (more : A → List ℕ) (x : A) → LoopFits A ks f m more → ThenFits A A (λ y z. y ≡ z) false (f x) (m x) true ks (λ _ z. more z) false (f x) more
    loop_once f m more x fit = record { clash = λ y. fit.clash x y; late = λ y z. within_self (more z); over = λ y z e same. rw (← same) (fit.over x y); begin = within_self (f x); next = λ y e. absurd cc; empty = λ d e. absurd cc }

    loop_more : (f : A → List ℕ) (m : A → A → List ℕ) (more : A → List ℕ) (x : A) → LoopFits A ks f m more → ChoiceFits A (λ y. x ≡ y) (ks x) false (f x) more true [] (λ y. []) true (ks x) more
    loop_more f m more x fit = record { solid = refl; taken = fit.taken x; clash = refl; over1 = λ y. within_self (more y); over2 = λ y. refl; greedy = λ y e same. rw (← same) (fit.greedy x); begin1 = fit.taken x; begin2 = refl; empty = λ e. refl }

    pub loop_exact : (f : A → List ℕ) (m : A → A → List ℕ) (more : A → List ℕ) (step : A → Syntax T A) → ((x : A) → IsExact K (step x) false (f x) (m x)) → LoopFits A ks f m more → (n : ℕ) (x : A) → IsExact K (loop K n ks step x) true (ks x) more
    loop_exact f m more step g fit zero x =
        choice_exact K (ks x) none (gives x) false [] (λ y. []) true [] (λ y. []) true (ks x) more (none_exact K) (gives_exact K x) (λ y. x ≡ y) (λ y r. r.1) (loop_zero more x (fit.greedy x))
    loop_exact f m more step g fit (suc n) x =
        let once = then_exact K (step x) (λ y. loop K n ks step y) false (f x) (m x) true ks (λ _ z. more z) false (f x) more (g x) (λ y. loop_exact f m more step g fit n y) (λ y z. y ≡ z) (turns f m step g n) (loop_once f m more x fit) in
        choice_exact K (ks x) (step x then λ y. loop K n ks step y) (gives x) false (f x) more true [] (λ y. []) true (ks x) more once (gives_exact K x) (λ y. x ≡ y) (λ y r. r.1) (loop_more f m more x fit)

  module _ {A : Type 0} (ks f : A → List ℕ) (m : A → A → List ℕ) (more : A → List ℕ) (fit : LoopFits A ks f m more) where
    -- one more turn
    loop_grows : (step : A → Syntax T A) → ((x : A) → IsExact K (step x) false (f x) (m x)) → (n : ℕ) (x : A) → IsGood K n (loop K n ks step x) (loop K (suc n) ks step x) true (ks x) more
    loop_grows step g zero x =
        record {
          here = loop_exact ks f m more step g fit zero x;
          there = loop_exact ks f m more step g fit (suc zero) x;
          reads = r;
          begun = b;
          late = l;
          agree = λ ts lt. absurd (omega arith);
          reads_back = λ a y lt. absurd (omega arith);
          begun_back =
              λ a lt. absurd (omega arith);
          late_back = λ i a t lt. absurd (omega arith);
        }
      where
        r : (a : List T) (y : A) → (loop K zero ks step x).reads a y → (loop K (suc zero) ks step x).reads a y
        r a y (inl h) = absurd h
        r a y (inr h) = inr h

        b : (a : List T) → (loop K zero ks step x).begun a → (loop K (suc zero) ks step x).begun a
        b a (inl h) = inr h
        b a (inr h) = inr h

        l : (i : ℕ) (a : List T) (t : T) → (loop K zero ks step x).late i a t → (loop K (suc zero) ks step x).late i a t
        l i a t (inl h) = absurd h
        l i a t (inr h) = inr h
    loop_grows step g (suc n) x =
        let once = after_good n (step x) (step x) (λ y. loop K n ks step y) (λ y. loop K (suc n) ks step y) (f x) (m x) true ks (λ _ z. more z) (f x) more (λ y z. y ≡ z) (turns ks f m step g n) (turns ks f m step g (suc n))
        (loop_once ks f m more x fit) (same_good (suc n) (step x) false (f x) (m x) (g x)) (λ y. loop_grows step g n y) in
        choice_good (suc n) (ks x) (step x then λ y. loop K n ks step y) (step x then λ y. loop K (suc n) ks step y) (gives x) (gives x) false (f x) more true [] (λ y. []) true (ks x) more (λ y. x ≡ y) (λ y r. r.1) (λ y r. r.1)
        (loop_more ks f m more x fit) once (same_good (suc n) (gives x) true [] (λ y. []) (gives_exact K x))

    -- the same number of turns, of another step
    loop_good : (step step' : A → Syntax T A) (k : ℕ) → ((x : A) → IsGood K k (step x) (step' x) false (f x) (m x)) → (n : ℕ) (x : A) → IsGood K k (loop K n ks step x) (loop K n ks step' x) true (ks x) more
    loop_good step step' k g zero x =
        choice_good k (ks x) none none (gives x) (gives x) false [] (λ y. []) true [] (λ y. []) true (ks x) more (λ y. x ≡ y) (λ y r. r.1) (λ y r. r.1) (loop_zero ks more x (fit.greedy x)) (same_good k none false [] (λ y. []) (none_exact K))
        (same_good k (gives x) true [] (λ y. []) (gives_exact K x))
    loop_good step step' k g (suc n) x =
        let once = then_good k (step x) (step' x) (λ y. loop K n ks step y) (λ y. loop K n ks step' y) false (f x) (m x) true ks (λ _ z. more z) false (f x) more (λ y z. y ≡ z) (turns ks f m step (λ y. (g y).here) n)
        (turns ks f m step' (λ y. (g y).there) n) (loop_once ks f m more x fit) (g x) (λ y. loop_good step step' k g n y) in
        choice_good k (ks x) (step x then λ y. loop K n ks step y) (step' x then λ y. loop K n ks step' y) (gives x) (gives x) false (f x) more true [] (λ y. []) true (ks x) more (λ y. x ≡ y) (λ y r. r.1) (λ y r. r.1)
        (loop_more ks f m more x fit) once (same_good k (gives x) true [] (λ y. []) (gives_exact K x))

    pub many_exact : (step : A → Syntax T A) → ((x : A) → IsExact K (step x) false (f x) (m x)) → (x : A) → IsExact K (many K ks step x) true (ks x) more
    many_exact step g x = limit_exact (λ n. loop K n ks step x) true (ks x) more (λ n. loop_grows step g n x)

    -- a turn and the repetition after it, or no turn
    pub turn_exact : (step : A → Syntax T A) → ((x : A) → IsExact K (step x) false (f x) (m x)) → (x : A) → IsExact K (step x then λ y. many K ks step y) false (f x) more
    turn_exact step g x = then_exact K (step x) (λ y. many K ks step y) false (f x) (m x) true ks (λ _ z. more z) false (f x) more (g x) (λ y. many_exact step g y) (λ y z. y ≡ z) (λ y z r. turns ks f m step g r.0 y z r.1)
        (loop_once ks f m more x fit)

    pub turned_exact : (step : A → Syntax T A) → ((x : A) → IsExact K (step x) false (f x) (m x)) → (x : A) → IsExact K (choice K (ks x) (step x then λ y. many K ks step y) (gives x)) true (ks x) more
    turned_exact step g x = choice_exact K (ks x) (step x then λ y. many K ks step y) (gives x) false (f x) more true [] (λ y. []) true (ks x) more (turn_exact step g x) (gives_exact K x) (λ y. x ≡ y) (λ y r. r.1) (loop_more ks f m more x fit)

    pub many_good : (step step' : A → Syntax T A) (k : ℕ) → ((x : A) → IsGood K k (step x) (step' x) false (f x) (m x)) → (x : A) → IsGood K k (many K ks step x) (many K ks step' x) true (ks x) more
    many_good step step' k g x =
        record {
          here = many_exact step (λ y. (g y).here) x;
          there = many_exact step' (λ y. (g y).there) x;
          reads = λ a y r. (r.0, (loop_good step step' k g r.0 x).reads a y r.1);
          begun = λ a r. (r.0, (loop_good step step' k g r.0 x).begun a r.1);
          late = λ i a t r. (r.0, (loop_good step step' k g r.0 x).late i a t r.1);
          agree = λ ts lt. (loop_good step step' k g (suc (length ts)) x).agree ts lt;
          reads_back = λ a y lt r. (r.0, (loop_good step step' k g r.0 x).reads_back a y lt r.1);
          begun_back = λ a lt r. (r.0, (loop_good step step' k g r.0 x).begun_back a lt r.1);
          late_back = λ i a t lt r. (r.0, (loop_good step step' k g r.0 x).late_back i a t lt r.1);
        }

    -- a repetition goes on as its first turn says
    pub many_is : (step : A → Syntax T A) → ((x : A) → IsExact K (step x) false (f x) (m x)) → (x : A) (ts : List T) → (many K ks step x).parse ts ≡ (choice K (ks x) (step x then λ y. many K ks step y) (gives x)).parse ts
    many_is step g x ts =
        let lim : (y : A) → IsGood K (length ts) (loop K (length ts) ks step y) (many K ks step y) true (ks y) more = λ y. limit_good (λ n. loop K n ks step y) true (ks y) more (λ n. loop_grows step g n y) (length ts) in
        let once = after_good (length ts) (step x) (step x) (λ y. loop K (length ts) ks step y) (λ y. many K ks step y) (f x) (m x) true ks (λ _ z. more z) (f x) more (λ y z. y ≡ z) (turns ks f m step g (length ts))
        (λ y z r. turns ks f m step g r.0 y z r.1) (loop_once ks f m more x fit) (same_good (suc (length ts)) (step x) false (f x) (m x) (g x)) lim in
        (choice_good (suc (length ts)) (ks x) (step x then λ y. loop K (length ts) ks step y) (step x then λ y. many K ks step y) (gives x) (gives x) false (f x) more true [] (λ y. []) true (ks x) more (λ y. x ≡ y) (λ y r. r.1) (λ y r. r.1)
        (loop_more ks f m more x fit) once (same_good (suc (length ts)) (gives x) true [] (λ y. []) (gives_exact K x))).agree ts (omega arith)
