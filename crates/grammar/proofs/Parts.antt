-- The parts of a grammar are read exactly.
use Rattle.std.proofs.Common.{◌≡◌, ℕ, suc, Bool, true, false, cond, List, [], ◌∷◌, ◌++◌, length, Result, Ok, Err, Option, Some, None, refl, sym, ◌∙◌, ap, subst, ◌⊎◌, inl, inr, append_assoc, arith, length-append}
use Rattle.std.proofs.lemmas.List.{append-nil}
use Rattle.grammar.specs.Syntax.{Syntax, among, sees, none, gives, one, one_at, ◌then◌, choice, ◌>>=◌, ParseFault, At, Over}
use Rattle.grammar.specs.Exact.{SameHead, Takes, Fails, Overs, Late, RunsOut, IsExact}
use Rattle.grammar.proofs.Sets.{within, apart, not_both, within_among, apart_among, sees_within, sees_same, same_head}

pub bind_ok : {A B : Type 0} (r : Result A ParseFault) (f : A → Result B ParseFault) (y : B) → (r >>= f) ≡ Ok y → (x : A) × (r ≡ Ok x) × (f x ≡ Ok y)
bind_ok (Ok x) f y e = (x, refl, e)
bind_ok (Err d) f y e = absurd cc

pub bind_err : {A B : Type 0} (r : Result A ParseFault) (f : A → Result B ParseFault) (n : ParseFault) → (r >>= f) ≡ Err n → (r ≡ Err n) ⊎ ((x : A) × (r ≡ Ok x) × (f x ≡ Err n))
bind_err (Ok x) f n e = inr (x, refl, e)
bind_err (Err d) f n e = inl cc

abbrev done : {A : Type 0} → A → Result A ParseFault
done x = Ok x

pub ok_is : {A : Type 0} (x y : A) → done x ≡ done y → x ≡ y
ok_is x y e = cc

pub chosen : {A : Type 0} (b : Bool) (x y z : A) → cond b x y ≡ z → ((b ≡ true) × (x ≡ z)) ⊎ ((b ≡ false) × (y ≡ z))
chosen true x y z e = inl (refl, e)
chosen false x y z e = inr (refl, e)

pub nil_front : {T : Type 0} (a b : List T) → a ++ b ≡ [] → a ≡ []
nil_front [] b e = refl
nil_front (t ∷ a) b e = absurd cc

-- of two ways to part the same text, the one parts it no later than the other
pub front_parts : {T : Type 0} (a b c d : List T) → a ++ b ≡ c ++ d → ((e : List T) × (c ≡ a ++ e)) ⊎ ((e : List T) × (a ≡ c ++ e) × (d ≡ e ++ b))
front_parts [] b c d e = inl (c, refl)
front_parts (t ∷ a) b [] d e = inr (t ∷ a, refl, sym e)
front_parts (t ∷ a) b (u ∷ c) d e =
    let same : t ≡ u = cc in
    let rest : a ++ b ≡ c ++ d = cc in
    behind (front_parts a b c d rest) same
  where
    behind : ((e : List _) × (c ≡ a ++ e)) ⊎ ((e : List _) × (a ≡ c ++ e) × (d ≡ e ++ b)) → t ≡ u → ((e : List _) × (u ∷ c ≡ t ∷ a ++ e)) ⊎ ((e : List _) × (t ∷ a ≡ u ∷ c ++ e) × (d ≡ e ++ b))
    behind (inl p) same = inl (p.0, rw (same, p.1) refl)
    behind (inr p) same = inr (p.0, rw (same, p.1) refl, p.2)

-- the same, with what stands after both
parted : {T : Type 0} (a b c d : List T) → a ++ b ≡ c ++ d → ((e : List T) × (c ≡ a ++ e) × (b ≡ e ++ d)) ⊎ ((e : List T) × (a ≡ c ++ e) × (d ≡ e ++ b))
parted [] b c d e = inl (c, refl, e)
parted (t ∷ a) b [] d e = inr (t ∷ a, refl, sym e)
parted (t ∷ a) b (u ∷ c) d e =
    let same : t ≡ u = cc in
    let rest : a ++ b ≡ c ++ d = cc in
    behind (parted a b c d rest) same
  where
    behind : ((e : List _) × (c ≡ a ++ e) × (b ≡ e ++ d)) ⊎ ((e : List _) × (a ≡ c ++ e) × (d ≡ e ++ b)) → t ≡ u → ((e : List _) × (u ∷ c ≡ t ∷ a ++ e) × (b ≡ e ++ d)) ⊎ ((e : List _) × (t ∷ a ≡ u ∷ c ++ e) × (d ≡ e ++ b))
    behind (inl p) same = inl (p.0, rw (same, p.1) refl, p.2)
    behind (inr p) same = inr (p.0, rw (same, p.1) refl, p.2)

same_rest : {T : Type 0} (a b c : List T) → a ++ b ≡ a ++ c → b ≡ c
same_rest [] b c e = e
same_rest (t ∷ a) b c e = let rest : a ++ b ≡ a ++ c = cc in same_rest a b c rest

no_end : {T : Type 0} (a : List T) (t : T) (u : List T) → a ++ (t ∷ u) ≡ [] → ⊥
no_end [] t u e = cc
no_end (v ∷ a) t u e = cc

abbrev value : {A : Type 0} → A → Option A
value x = Some x

value_is : {A : Type 0} (x y : A) → value x ≡ value y → x ≡ y
value_is x y e = cc

-- What a sequence asks of its parts, whose values are in R where the second part is empty.
pub record ThenFits (A B : Type 0) (R : A → B → Type 0) (n1 : Bool) (f1 : List ℕ) (m1 : A → List ℕ) (n2 : Bool) (f2 : A → List ℕ) (m2 : A → B → List ℕ) (null : Bool) (first : List ℕ) (more : B → List ℕ) : Type 0 where
  pub clash : (x : A) → apart (f2 x) (m1 x) ≡ true
  pub late : (x : A) (y : B) → within (m2 x y) (more y) ≡ true
  pub over : (x : A) (y : B) → n2 ≡ true → R x y → within (m1 x) (more y) ≡ true
  pub begin : within f1 first ≡ true
  pub next : (x : A) → n1 ≡ true → within (f2 x) first ≡ true
  pub empty : n1 ≡ true → n2 ≡ true → null ≡ true

-- What alternatives ask of their parts; the values of an empty second one are in R.
pub record ChoiceFits (A : Type 0) (R : A → Type 0) (ks : List ℕ) (n1 : Bool) (f1 : List ℕ) (m1 : A → List ℕ) (n2 : Bool) (f2 : List ℕ) (m2 : A → List ℕ) (null : Bool) (first : List ℕ) (more : A → List ℕ) : Type 0 where
  pub solid : n1 ≡ false
  pub taken : within f1 ks ≡ true
  pub clash : apart f2 ks ≡ true
  pub over1 : (x : A) → within (m1 x) (more x) ≡ true
  pub over2 : (x : A) → within (m2 x) (more x) ≡ true
  pub greedy : (x : A) → n2 ≡ true → R x → within ks (more x) ≡ true
  pub begin1 : within f1 first ≡ true
  pub begin2 : within f2 first ≡ true
  pub empty : n2 ≡ true → null ≡ true

module _ {T : Type 0} (K : T → ℕ) where
  pub none_exact : {A : Type 0} → IsExact K (none {A = A}) false [] (λ x. [])
  none_exact = record {
    takes = λ ts x rest e. absurd cc;
    fails = λ ts n e. record { front = []; rest = ts; parts = refl; left = cc; is = refl; local = λ u h. refl };
    overs = λ ts i n e. absurd cc;
    again = λ a x b h s. absurd h;
    lates = λ i a t u h. absurd h;
    late_begins = λ i a t h. absurd h;
    runs = λ a h. rw h refl;
    begins = λ a x h. absurd h;
    fronts = nil_front;
    empty = refl;
    starts = λ t ts h. absurd cc;
    filled = λ x h. absurd h;
    single = λ a x y r s. absurd r;
    goes_on = λ a x t u r b. absurd r;
    one_limit = λ i j a t l k. absurd l;
  }

  pub gives_exact : {A : Type 0} (x : A) → IsExact K (gives x) true [] (λ y. [])
  gives_exact {A} x = record {
    takes = λ ts y rest e.
        let p = ok_is (x, ts) (y, rest) e in
        let xy : x ≡ y = ap (λ (q : A × List T). q.0) p in
        let tr : ts ≡ rest = ap (λ (q : A × List T). q.1) p in
        record { front = []; parts = tr; is = (refl, xy); local = λ u h. rw xy refl };
    fails = λ ts n e. absurd cc;
    overs = λ ts i n e. absurd cc;
    again = λ a y b h s. inl (rw (h.0, h.1) refl);
    lates = λ i a t u h. absurd h;
    late_begins = λ i a t h. absurd h;
    runs = λ a h. h;
    begins = λ a y h. h.0;
    fronts = nil_front;
    empty = refl;
    starts = λ t ts h. absurd cc;
    filled = λ y h. refl;
    single = λ a y z r s. sym r.1 ∙ s.1;
    goes_on = λ a y t u r b. absurd (no_end a t u b);
    one_limit = λ i j a t l k. absurd l;
  }

  -- ---- one token

  some_is : {A : Type 0} (f : T → Option A) (t : T) (x : A) (ts : List T) → f t ≡ Some x → one_at f (t ∷ ts) ≡ Ok (x, ts)
  some_is f t x ts e = rw (e, one_at) refl

  none_is : {A : Type 0} (f : T → Option A) (t : T) (ts : List T) → f t ≡ None → one_at f (t ∷ ts) ≡ Err (At (suc (length ts)))
  none_is f t ts e = rw (e, one_at) refl

  one_takes : {A : Type 0} (f : T → Option A) (t : T) (o : Option A) (ts : List T) (x : A) (rest : List T) → f t ≡ o → one_at f (t ∷ ts) ≡ Ok (x, rest) → (ts ≡ rest) × (f t ≡ Some x)
  one_takes {A} f t (Some y) ts x rest fo e =
      let p = ok_is (y, ts) (x, rest) (sym (some_is f t y ts fo) ∙ e) in
      (ap (λ (q : A × List T). q.1) p, fo ∙ ap (λ (q : A × List T). Some q.0) p)
  one_takes f t None ts x rest fo e = absurd (let n : one_at f (t ∷ ts) ≡ Err (At (suc (length ts))) = rw (fo, one_at) refl in cc)

  one_fails : {A : Type 0} (f : T → Option A) (t : T) (o : Option A) (ts : List T) (n : ℕ) → f t ≡ o → one_at f (t ∷ ts) ≡ Err (At n) → (n ≡ suc (length ts)) × (f t ≡ None)
  one_fails {A} f t (Some y) ts n fo e = absurd (let n : one_at f (t ∷ ts) ≡ Ok (y, ts) = rw (fo, one_at) refl in cc)
  one_fails f t None ts n fo e = (let n : one_at f (t ∷ ts) ≡ Err (At (suc (length ts))) = rw (fo, one_at) refl in cc, fo)

  one_ok : {A : Type 0} (f : T → Option A) (ts : List T) (x : A) (rest : List T) → one_at f ts ≡ Ok (x, rest) → Takes (one_at f) (one f).reads ts x rest
  one_ok f [] x rest e = absurd cc
  one_ok f (t ∷ ts) x rest e =
      let p = one_takes f t (f t) ts x rest refl e in
      record { front = t ∷ []; parts = ap (λ (w : List T). t ∷ w) p.0; is = (t, refl, p.1); local = λ u h. some_is f t x u p.1 }

  one_err : {A : Type 0} (f : T → Option A) (ts : List T) (n : ℕ) → one_at f ts ≡ Err (At n) → Fails (one_at f) (one f).begun ts n
  one_err f [] n e = record { front = []; rest = []; parts = refl; left = cc; is = inl refl; local = elim [ [] ↦ λ h. refl | (u ∷ us) ↦ λ h. absurd h ] }
  one_err {A} f (t ∷ ts) n e =
      let p = one_fails f t (f t) ts n refl e in
      let l : (u : List T) → SameHead (t ∷ ts) u → one_at f u ≡ Err (At (length u)) = elim [ [] ↦ λ h. absurd h | (v ∷ vs) ↦ λ h. rw (← h) (none_is f t vs p.1) ] in
      record { front = []; rest = t ∷ ts; parts = refl; left = p.0; is = inl refl; local = l }

  over_takes : {A : Type 0} (f : T → Option A) (t : T) (o : Option A) (ts : List T) (i n : ℕ) → f t ≡ o → one_at f (t ∷ ts) ≡ Err (Over i n) → ⊥
  over_takes {A} f t (Some y) ts i n fo e = let k : one_at f (t ∷ ts) ≡ Ok (y, ts) = rw (fo, one_at) refl in cc
  over_takes f t None ts i n fo e = let k : one_at f (t ∷ ts) ≡ Err (At (suc (length ts))) = rw (fo, one_at) refl in cc

  one_over : {A : Type 0} (f : T → Option A) (ts : List T) (i n : ℕ) → one_at f ts ≡ Err (Over i n) → Overs (one_at f) (one f).late ts i n
  one_over f [] i n e = absurd cc
  one_over f (t ∷ ts) i n e = absurd (over_takes f t (f t) ts i n refl e)

  one_starts : {A : Type 0} (f : T → Option A) (ks : List ℕ) → ((t : T) (x : A) → f t ≡ Some x → among (K t) ks ≡ true) → (t : T) (ts : List T) → (one f).begun (t ∷ ts) → among (K t) ks ≡ true
  one_starts f ks h t ts (inl e) = absurd cc
  one_starts f ks h t ts (inr w) = let e : t ≡ w.0 = cc in rw e (h w.0 w.1 w.3)

  one_runs : {A : Type 0} (f : T → Option A) (a : List T) → (one f).begun a → RunsOut (one_at f a)
  one_runs f a (inl e) = rw e refl
  one_runs f a (inr w) = rw (w.2, some_is f w.0 w.1 [] w.3) refl

  one_fronts : {A : Type 0} (f : T → Option A) (a b : List T) → (one f).begun (a ++ b) → (one f).begun a
  one_fronts f [] b h = inl refl
  one_fronts f (t ∷ a) b (inl e) = absurd cc
  one_fronts f (t ∷ a) b (inr w) = let e = w.2 in let z : a ≡ [] = nil_front a b cc in let same : t ≡ w.0 = cc in inr (w.0, w.1, rw (same, z) refl, w.3)

  one_single : {A : Type 0} (f : T → Option A) (a : List T) (x y : A) → (one f).reads a x → (one f).reads a y → x ≡ y
  one_single f a x y r s =
      let e = r.1 in
      let k = s.1 in
      let same : r.0 ≡ s.0 = cc in
      value_is x y (sym r.2 ∙ ap f same ∙ s.2)

  one_goes_on : {A : Type 0} (f : T → Option A) (ks : List ℕ) (a : List T) (x : A) (t : T) (u : List T) → (one f).reads a x → (one f).begun (a ++ (t ∷ u)) → among (K t) ks ≡ true
  one_goes_on f ks a x t u r (inl e) = absurd (no_end a t u e)
  one_goes_on f ks a x t u r (inr w) = absurd (omega (arith, ap length r.1, ap length w.2, length-append a (t ∷ u)))

  pub one_exact : {A : Type 0} (f : T → Option A) (ks : List ℕ) → ((t : T) (x : A) → f t ≡ Some x → among (K t) ks ≡ true) → IsExact K (one f) false ks (λ x. [])
  one_exact f ks h = record {
    takes = one_ok f;
    fails = one_err f;
    overs = one_over f;
    again = λ a x b r s. inl (rw (r.1, r.2) refl);
    lates = λ i a t u h. absurd h;
    late_begins = λ i a t h. absurd h;
    runs = one_runs f;
    begins = λ a x r. inr (r.0, x, r.1, r.2);
    fronts = one_fronts f;
    empty = inl refl;
    starts = one_starts f ks h;
    filled = λ x r. absurd (let e = r.1 in cc);
    single = one_single f;
    goes_on = one_goes_on f [];
    one_limit = λ i j a t l k. absurd l;
  }

  -- ---- a sequence

  clear : (c b : List T) (m : List ℕ) → (c ≡ [] → sees K m b ≡ false) → ((t : T) (ts : List T) → c ≡ t ∷ ts → among (K t) m ≡ false) → sees K m (c ++ b) ≡ false
  clear [] b m h k = h refl
  clear (t ∷ ts) b m h k = k t ts refl

  runs_then : {A B : Type 0} (r : Result (A × List T) ParseFault) (f : A × List T → Result (B × List T) ParseFault) → RunsOut r → ((x : A) → RunsOut (f (x, []))) → RunsOut (r >>= f)
  runs_then {A} {B} (Ok x) f h k = let e : f (x.0, []) ≡ f x = ap (λ (w : List T). f (x.0, w)) (sym h) in subst (λ (q : Result (B × List T) ParseFault). RunsOut q) e (k x.0)
  runs_then (Err (At n)) f h k = h
  runs_then (Err (Over i n)) f h k = tt

  module _ {A B : Type 0} (G : Syntax T A) (H : A → Syntax T B) (n1 : Bool) (f1 : List ℕ) (m1 : A → List ℕ) (n2 : Bool) (f2 : A → List ℕ) (m2 : A → B → List ℕ) (null : Bool) (first : List ℕ) (more : B → List ℕ) (g : IsExact K G n1 f1 m1) (h : (x : A)
      → IsExact K (H x) n2 (f2 x) (m2 x)) (R : A → B → Type 0) (ends : (x : A) (y : B) → (H x).reads [] y → R x y) (fit : ThenFits A B R n1 f1 m1 n2 f2 m2 null first more) where
    then_takes : (ts : List T) (y : B) (rest : List T) → (G then H).parse ts ≡ Ok (y, rest) → Takes (G then H).parse (G then H).reads ts y rest
    then_takes ts y rest e =
        let b = bind_ok (G.parse ts) (λ x. (H x.0).parse x.1) (y, rest) e in
        let x = b.0 in
        let t1 = g.takes ts x.0 x.1 b.1 in
        let t2 = (h x.0).takes x.1 y rest b.2 in
        record {
          front = t1.front ++ t2.front;
          parts = t1.parts ∙ ap (λ (w : List T). t1.front ++ w) t2.parts ∙ sym (append_assoc t1.front t2.front rest);
          is = (t1.front, t2.front, x.0, refl, t1.is, t2.is);
          local = λ u s.
              let same : SameHead x.1 (t2.front ++ u) = subst (λ (w : List T). SameHead w (t2.front ++ u)) (sym t2.parts) (same_head t2.front rest u s) in
              let l1 = t1.local (t2.front ++ u) same in
              rw (append_assoc t1.front t2.front u, l1) (t2.local u s);
        }

    then_fails : (ts : List T) (n : ℕ) → (G then H).parse ts ≡ Err (At n) → Fails (G then H).parse (G then H).begun ts n
    then_fails ts n e =
        elim (bind_err (G.parse ts) (λ x. (H x.0).parse x.1) (At n) e) [
          | inl e1 ↦
              let f = g.fails ts n e1 in
              record { front = f.front; rest = f.rest; parts = f.parts; left = f.left; is = inl f.is; local = λ u s. rw (f.local u s) refl }
          | inr b ↦
              let x = b.0 in
              let t1 = g.takes ts x.0 x.1 b.1 in
              let f = (h x.0).fails x.1 n b.2 in
              record {
                front = t1.front ++ f.front;
                rest = f.rest;
                parts = t1.parts ∙ ap (λ (w : List T). t1.front ++ w) f.parts ∙ sym (append_assoc t1.front f.front f.rest);
                left = f.left;
                is = inr (t1.front, f.front, x.0, refl, t1.is, f.is);
                local = λ u s.
                    let same : SameHead x.1 (f.front ++ u) = subst (λ (w : List T). SameHead w (f.front ++ u)) (sym f.parts) (same_head f.front f.rest u s) in
                    let l1 = t1.local (f.front ++ u) same in
                    rw (append_assoc t1.front f.front u, l1) (f.local u s);
              }
        ]

    begins_apart : (x : A) (t : T) (ts : List T) → (H x).begun (t ∷ ts) → among (K t) (m1 x) ≡ false
    begins_apart x t ts b = not_both (among (K t) (m1 x)) (λ e. apart_among (f2 x) (m1 x) (K t) (fit.clash x) ((h x).starts t ts b) e)

    null_stops : (x : A) (y : B) (c b : List T) → (H x).reads c y → sees K (more y) b ≡ false → c ≡ [] → sees K (m1 x) b ≡ false
    null_stops x y c b r s e = let r0 = subst (λ (w : List T). (H x).reads w y) e r in sees_within K (m1 x) (more y) b (fit.over x y ((h x).filled y r0) (ends x y r0)) s

    again_ok : (a : List T) (y : B) (b a1 a2 : List T) (x : A) → a ≡ a1 ++ a2 → (H x).reads a2 y → sees K (m2 x y) b ≡ false → (G.parse (a1 ++ (a2 ++ b)) ≡ Ok (x, a2 ++ b)) ⊎ Late (G.parse (a1 ++ (a2 ++ b))) (suc (length (a2 ++ b)))
        → ((G then H).parse (a ++ b) ≡ Ok (y, b)) ⊎ Late ((G then H).parse (a ++ b)) (suc (length b))
    again_ok a y b a1 a2 x e r s (inl l1) = rw (e, append_assoc a1 a2 b, l1) ((h x).again a2 y b r s)
    again_ok a y b a1 a2 x e r s (inr w) = let q = w.is in inr (record { label = w.label; left = w.left; enough = let k = w.enough in omega (arith, length-append a2 b); is = rw (e, append_assoc a1 a2 b, q) refl })

    then_again : (a : List T) (y : B) (b : List T) → (G then H).reads a y → sees K (more y) b ≡ false → ((G then H).parse (a ++ b) ≡ Ok (y, b)) ⊎ Late ((G then H).parse (a ++ b)) (suc (length b))
    then_again a y b r s =
        let x = r.2 in
        let clean : sees K (m1 x) (r.1 ++ b) ≡ false = clear r.1 b (m1 x) (null_stops x y r.1 b r.5 s) (λ t ts e. begins_apart x t ts (subst (λ (w : List T). (H x).begun w) e ((h x).begins r.1 y r.5))) in
        again_ok a y b r.0 r.1 x r.3 r.5 (sees_within K (m2 x y) (more y) b (fit.late x y) s) (g.again r.0 x (r.1 ++ b) r.4 clean)

    late_clear : (x : A) (c : List T) (t : T) (u : List T) → (H x).begun (c ++ (t ∷ [])) → sees K (m1 x) (c ++ (t ∷ u)) ≡ false
    late_clear x [] t u b = begins_apart x t [] b
    late_clear x (v ∷ c) t u b = begins_apart x v (c ++ (t ∷ [])) b

    lates_ok : (i : ℕ) (a : List T) (t : T) (u a1 a2 : List T) (x : A) → a ≡ a1 ++ a2 → (H x).late i a2 t → (G.parse (a1 ++ (a2 ++ (t ∷ u))) ≡ Ok (x, a2 ++ (t ∷ u))) ⊎ Late (G.parse (a1 ++ (a2 ++ (t ∷ u)))) (suc (length (a2 ++ (t ∷ u))))
        → Late ((G then H).parse (a ++ (t ∷ u))) (suc (length u))
    lates_ok i a t u a1 a2 x e l (inl l1) = rw (e, append_assoc a1 a2 (t ∷ u), l1) ((h x).lates i a2 t u l)
    lates_ok i a t u a1 a2 x e l (inr w) = let q = w.is in record { label = w.label; left = w.left; enough = let k = w.enough in omega (arith, length-append a2 (t ∷ u)); is = rw (e, append_assoc a1 a2 (t ∷ u), q) refl }

    then_lates : (i : ℕ) (a : List T) (t : T) (u : List T) → (G then H).late i a t → Late ((G then H).parse (a ++ (t ∷ u))) (suc (length u))
    then_lates i a t u (inl l) = let w = g.lates i a t u l in let q = w.is in record { label = w.label; left = w.left; enough = w.enough; is = rw q refl }
    then_lates i a t u (inr r) = lates_ok i a t u r.0 r.1 r.2 r.3 r.5 (g.again r.0 r.2 (r.1 ++ (t ∷ u)) r.4 (late_clear r.2 r.1 t u ((h r.2).late_begins i r.1 t r.5)))

    then_late_begins : (i : ℕ) (a : List T) (t : T) → (G then H).late i a t → (G then H).begun (a ++ (t ∷ []))
    then_late_begins i a t (inl l) = inl (g.late_begins i a t l)
    then_late_begins i a t (inr r) = inr (r.0, r.1 ++ (t ∷ []), r.2, ap (λ (w : List T). w ++ (t ∷ [])) r.3 ∙ append_assoc r.0 r.1 (t ∷ []), r.4, (h r.2).late_begins i r.1 t r.5)

    then_overs : (ts : List T) (i n : ℕ) → (G then H).parse ts ≡ Err (Over i n) → Overs (G then H).parse (G then H).late ts i n
    then_overs ts i n e =
        elim (bind_err (G.parse ts) (λ x. (H x.0).parse x.1) (Over i n) e) [
          | inl e1 ↦
              let f = g.overs ts i n e1 in
              record { front = f.front; token = f.token; rest = f.rest; parts = f.parts; left = f.left; is = inl f.is; local = λ u. rw (f.local u) refl }
          | inr b ↦
              let x = b.0 in
              let t1 = g.takes ts x.0 x.1 b.1 in
              let f = (h x.0).overs x.1 i n b.2 in
              record {
                front = t1.front ++ f.front;
                token = f.token;
                rest = f.rest;
                parts = t1.parts ∙ ap (λ (w : List T). t1.front ++ w) f.parts ∙ sym (append_assoc t1.front f.front (f.token ∷ f.rest));
                left = f.left;
                is = inr (t1.front, f.front, x.0, refl, t1.is, f.is);
                local = λ u.
                    let same : SameHead x.1 (f.front ++ (f.token ∷ u)) = subst (λ (w : List T). SameHead w (f.front ++ (f.token ∷ u))) (sym f.parts) (same_head f.front (f.token ∷ f.rest) (f.token ∷ u) refl) in
                    let l1 = t1.local (f.front ++ (f.token ∷ u)) same in
                    rw (append_assoc t1.front f.front (f.token ∷ u), l1) (f.local u);
              }
        ]

    begun_clear : (x : A) (c : List T) → (H x).begun c → sees K (m1 x) c ≡ false
    begun_clear x [] b = refl
    begun_clear x (t ∷ ts) b = begins_apart x t ts b

    runs_second : (a a1 a2 : List T) (x : A) → a ≡ a1 ++ a2 → (H x).begun a2 → (G.parse (a1 ++ a2) ≡ Ok (x, a2)) ⊎ Late (G.parse (a1 ++ a2)) (suc (length a2)) → RunsOut ((G then H).parse a)
    runs_second a a1 a2 x e b (inl l1) = rw (e, l1) ((h x).runs a2 b)
    runs_second a a1 a2 x e b (inr w) = let q = w.is in rw (e, q) tt

    then_runs : (a : List T) → (G then H).begun a → RunsOut ((G then H).parse a)
    then_runs a (inl b) = runs_then (G.parse a) (λ x. (H x.0).parse x.1) (g.runs a b) (λ x. (h x).runs [] (h x).empty)
    then_runs a (inr r) =
        runs_second a r.0 r.1 r.2 r.3 r.5 (g.again r.0 r.2 r.1 r.4 (begun_clear r.2 r.1 r.5))

    starts_second : (x : A) (b c : List T) (t : T) (ts : List T) → t ∷ ts ≡ b ++ c → G.reads b x → (H x).begun c → among (K t) first ≡ true
    starts_second x [] c t ts e r bg = within_among (f2 x) first (K t) (fit.next x (g.filled x r)) ((h x).starts t ts (rw e bg))
    starts_second x (u ∷ us) c t ts e r bg = let same : t ≡ u = cc in rw same (within_among f1 first (K u) fit.begin (g.starts u us (g.begins (u ∷ us) x r)))

    then_starts : (t : T) (ts : List T) → (G then H).begun (t ∷ ts) → among (K t) first ≡ true
    then_starts t ts (inl b) = within_among f1 first (K t) fit.begin (g.starts t ts b)
    then_starts t ts (inr r) = starts_second r.2 r.0 r.1 t ts r.3 r.4 r.5

    filled_both : (x : A) (y : B) (b c : List T) → [] ≡ b ++ c → G.reads b x → (H x).reads c y → null ≡ true
    filled_both x y [] [] e r1 r2 = fit.empty (g.filled x r1) ((h x).filled y r2)
    filled_both x y [] (u ∷ us) e r1 r2 = absurd cc
    filled_both x y (u ∷ us) c e r1 r2 = absurd cc

    fronts_second : (a b b0 c0 : List T) (x : A) → G.reads b0 x → (H x).begun c0 → ((d : List T) × (b0 ≡ a ++ d)) ⊎ ((d : List T) × (a ≡ b0 ++ d) × (c0 ≡ d ++ b)) → (G then H).begun a
    fronts_second a b b0 c0 x r bg (inl s) = inl (g.fronts a s.0 (subst (λ (w : List T). G.begun w) s.1 (g.begins b0 x r)))
    fronts_second a b b0 c0 x r bg (inr s) = inr (b0, s.0, x, s.1, r, (h x).fronts s.0 b (subst (λ (w : List T). (H x).begun w) s.2 bg))

    then_fronts : (a b : List T) → (G then H).begun (a ++ b) → (G then H).begun a
    then_fronts a b (inl s) = inl (g.fronts a b s)
    then_fronts a b (inr r) = fronts_second a b r.0 r.1 r.2 r.4 r.5 (front_parts a b r.0 r.1 r.3)

    -- ---- one value, and what goes on after it

    clash_behind : (b : List T) (x : A) (v : T) (e : List T) → G.reads b x → G.begun (b ++ (v ∷ e)) → (ts : List T) → (H x).begun (v ∷ ts) → ⊥
    clash_behind b x v e r bg ts bh = apart_among (f2 x) (m1 x) (K v) (fit.clash x) ((h x).starts v ts bh) (g.goes_on b x v e r bg)

    no_longer : (b c b' c' e : List T) (x : A) → G.reads b x → G.begun b' → b' ≡ b ++ e → c ≡ e ++ c' → (H x).begun c → e ≡ []
    no_longer b c b' c' [] x r bg p q bh = refl
    no_longer b c b' c' (v ∷ e) x r bg p q bh = absurd (clash_behind b x v e r (subst (λ (w : List T). G.begun w) p bg) (e ++ c') (subst (λ (w : List T). (H x).begun w) q bh))

    -- a text is parted in one way at most
    same_parts : (b c b' c' : List T) (x x' : A) → G.reads b x → G.reads b' x' → (H x).begun c → (H x').begun c' → b ++ c ≡ b' ++ c' → (b ≡ b') × (c ≡ c')
    same_parts b c b' c' x x' r r' bh bh' e =
        elim (parted b c b' c' e) [
          | inl p ↦
              let z = no_longer b c b' c' p.0 x r (g.begins b' x' r') p.1 p.2 bh in
              (sym (p.1 ∙ ap (λ (w : List T). b ++ w) z ∙ append-nil b), p.2 ∙ ap (λ (w : List T). w ++ c') z)
          | inr p ↦
              let z = no_longer b' c' b c p.0 x' r' (g.begins b x r) p.1 p.2 bh' in
              (p.1 ∙ ap (λ (w : List T). b' ++ w) z ∙ append-nil b', sym (p.2 ∙ ap (λ (w : List T). w ++ c) z))
        ]

    same_value : (b b' : List T) (x x' : A) → b ≡ b' → G.reads b x → G.reads b' x' → x ≡ x'
    same_value b b' x x' p r r' = g.single b' x x' (subst (λ (w : List T). G.reads w x) p r) r'

    then_single : (a : List T) (y z : B) → (G then H).reads a y → (G then H).reads a z → y ≡ z
    then_single a y z (b, c, x, e, r, s) (b', c', x', e', r', s') =
        let p = same_parts b c b' c' x x' r r' ((h x).begins c y s) ((h x').begins c' z s') (sym e ∙ e') in
        let v = same_value b b' x x' p.0 r r' in
        (h x').single c' y z (subst (λ (w : List T). (H x').reads w y) p.1 (subst (λ (w : A). (H w).reads c y) v s)) s'

    past_both : (b c : List T) (x : A) (y : B) (t : T) (u : List T) → G.reads b x → (H x).reads c y → G.begun (b ++ (c ++ (t ∷ u))) → among (K t) (more y) ≡ true
    past_both b [] x y t u r s bg = within_among (m1 x) (more y) (K t) (fit.over x y ((h x).filled y s) (ends x y s)) (g.goes_on b x t u r bg)
    past_both b (v ∷ c) x y t u r s bg = absurd (clash_behind b x v (c ++ (t ∷ u)) r bg c ((h x).begins (v ∷ c) y s))

    past_first : (b c : List T) (x : A) (y : B) (t : T) (u : List T) (v : T) (e rest : List T) → G.reads b x → (H x).reads c y → G.begun (b ++ (v ∷ e)) → c ++ (t ∷ u) ≡ v ∷ rest → among (K t) (more y) ≡ true
    past_first b [] x y t u v e rest r s bg q =
        let same : v ≡ t = cc in
        past_both b [] x y t e r s (subst (λ (w : T). G.begun (b ++ (w ∷ e))) same bg)
    past_first b (w ∷ c) x y t u v e rest r s bg q =
        let same : w ≡ v = cc in
        absurd (clash_behind b x v e r bg c (subst (λ (k : T). (H x).begun (k ∷ c)) same ((h x).begins (w ∷ c) y s)))

    past_second : (b b' c c' : List T) (x x' : A) (y : B) (t : T) (u : List T) → b ≡ b' → c' ≡ c ++ (t ∷ u) → G.reads b x → G.reads b' x' → (H x).reads c y → (H x').begun c' → among (K t) (more y) ≡ true
    past_second b b' c c' x x' y t u p q r r' s bh =
        let v = same_value b b' x x' p r r' in
        let begun = subst (λ (w : A). (H w).begun (c ++ (t ∷ u))) (sym v) (subst (λ (w : List T). (H x').begun w) q bh) in
        within_among (m2 x y) (more y) (K t) (fit.late x y) ((h x).goes_on c y t u s begun)

    past_parts : (b c b' c' : List T) (x x' : A) (y : B) (t : T) (u : List T) → G.reads b x → G.reads b' x' → (H x).reads c y → (H x').begun c' → ((e : List T) × (b' ≡ b ++ e) × (c ++ (t ∷ u) ≡ e ++ c'))
        ⊎ ((e : List T) × (b ≡ b' ++ e) × (c' ≡ e ++ (c ++ (t ∷ u)))) → among (K t) (more y) ≡ true
    past_parts b c b' c' x x' y t u r r' s bh (inl ([], p, q)) = past_second b b' c c' x x' y t u (sym (p ∙ append-nil b)) (sym q) r r' s bh
    past_parts b c b' c' x x' y t u r r' s bh (inl (v ∷ e, p, q)) = past_first b c x y t u v e (e ++ c') r s (subst (λ (w : List T). G.begun w) p (g.begins b' x' r')) q
    past_parts b c b' c' x x' y t u r r' s bh (inr ([], p, q)) = past_second b b' c c' x x' y t u (p ∙ append-nil b') q r r' s bh
    past_parts b c b' c' x x' y t u r r' s bh (inr (v ∷ e, p, q)) = absurd (clash_behind b' x' v e r' (subst (λ (w : List T). G.begun w) p (g.begins b x r)) (e ++ (c ++ (t ∷ u))) (subst (λ (w : List T). (H x').begun w) q bh))

    then_goes_on : (a : List T) (y : B) (t : T) (u : List T) → (G then H).reads a y → (G then H).begun (a ++ (t ∷ u)) → among (K t) (more y) ≡ true
    then_goes_on a y t u (b, c, x, e, r, s) (inl bg) = past_both b c x y t u r s (subst (λ (w : List T). G.begun w) (ap (λ (w : List T). w ++ (t ∷ u)) e ∙ append_assoc b c (t ∷ u)) bg)
    then_goes_on a y t u (b, c, x, e, r, s) (inr (b', c', x', e', r', bh)) =
        past_parts b c b' c' x x' y t u r r' s bh (parted b (c ++ (t ∷ u)) b' c' (sym (ap (λ (w : List T). w ++ (t ∷ u)) e ∙ append_assoc b c (t ∷ u)) ∙ e'))

    late_in_both : (b c : List T) (x : A) (t : T) → G.reads b x → (H x).begun (c ++ (t ∷ [])) → G.begun (b ++ (c ++ (t ∷ []))) → ⊥
    late_in_both b [] x t r bh bg = clash_behind b x t [] r bg [] bh
    late_in_both b (v ∷ c) x t r bh bg = clash_behind b x v (c ++ (t ∷ [])) r bg (c ++ (t ∷ [])) bh

    late_parts : (a : List T) (t : T) (b c : List T) (x : A) → a ≡ b ++ c → G.reads b x → (H x).begun (c ++ (t ∷ [])) → G.begun (a ++ (t ∷ [])) → ⊥
    late_parts a t b c x e r bh bg = late_in_both b c x t r bh (subst (λ (w : List T). G.begun w) (ap (λ (w : List T). w ++ (t ∷ [])) e ∙ append_assoc b c (t ∷ [])) bg)

    one_second : (i j : ℕ) (t : T) (b c b' c' : List T) (x x' : A) → b ++ c ≡ b' ++ c' → G.reads b x → G.reads b' x' → (H x).late i c t → (H x').late j c' t → i ≡ j
    one_second i j t b c b' c' x x' e r r' l k =
        let whole = sym (append_assoc b c (t ∷ [])) ∙ ap (λ (w : List T). w ++ (t ∷ [])) e ∙ append_assoc b' c' (t ∷ []) in
        let p = same_parts b (c ++ (t ∷ [])) b' (c' ++ (t ∷ [])) x x' r r' ((h x).late_begins i c t l) ((h x').late_begins j c' t k) whole in
        let v = same_value b b' x x' p.0 r r' in
        let rest : c ≡ c' = same_rest b' c c' (ap (λ (w : List T). w ++ c) (sym p.0) ∙ e) in
        (h x').one_limit i j c' t (subst (λ (w : List T). (H x').late i w t) rest (subst (λ (w : A). (H w).late i c t) v l)) k

    then_one_limit : (i j : ℕ) (a : List T) (t : T) → (G then H).late i a t → (G then H).late j a t → i ≡ j
    then_one_limit i j a t (inl l) (inl k) = g.one_limit i j a t l k
    then_one_limit i j a t (inl l) (inr (b, c, x, e, r, k)) = absurd (late_parts a t b c x e r ((h x).late_begins j c t k) (g.late_begins i a t l))
    then_one_limit i j a t (inr (b, c, x, e, r, l)) (inl k) = absurd (late_parts a t b c x e r ((h x).late_begins i c t l) (g.late_begins j a t k))
    then_one_limit i j a t (inr (b, c, x, e, r, l)) (inr (b', c', x', e', r', k)) = one_second i j t b c b' c' x x' (sym e ∙ e') r r' l k

    pub then_exact : IsExact K (G then H) null first more
    then_exact = record {
      takes = then_takes;
      fails = then_fails;
      overs = then_overs;
      again = then_again;
      lates = then_lates;
      late_begins = then_late_begins;
      runs = then_runs;
      begins = λ a y r. inr (r.0, r.1, r.2, r.3, r.4, (h r.2).begins r.1 y r.5);
      fronts = then_fronts;
      empty = inl g.empty;
      starts = then_starts;
      filled = λ y r. filled_both r.2 y r.0 r.1 r.3 r.4 r.5;
      single = then_single;
      goes_on = then_goes_on;
      one_limit = then_one_limit;
    }

  -- ---- alternatives

  module _ {A : Type 0} (ks : List ℕ) (G H : Syntax T A) (n1 : Bool) (f1 : List ℕ) (m1 : A → List ℕ) (n2 : Bool) (f2 : List ℕ) (m2 : A → List ℕ) (null : Bool) (first : List ℕ) (more : A
      → List ℕ) (g : IsExact K G n1 f1 m1) (h : IsExact K H n2 f2 m2) (R : A → Type 0) (ends : (x : A) → H.reads [] x → R x) (fit : ChoiceFits A R ks n1 f1 m1 n2 f2 m2 null first more) where
    same_sight : (ts front rest u : List T) → ts ≡ front ++ rest → SameHead rest u → sees K ks (front ++ u) ≡ sees K ks ts
    same_sight ts front rest u e s = rw e (sym (sees_same K ks (front ++ rest) (front ++ u) (same_head front rest u s)))

    choice_takes : (ts : List T) (x : A) (rest : List T) → (choice K ks G H).parse ts ≡ Ok (x, rest) → Takes (choice K ks G H).parse (choice K ks G H).reads ts x rest
    choice_takes ts x rest e =
        elim (chosen (sees K ks ts) (G.parse ts) (H.parse ts) (Ok (x, rest)) e) [
          | inl p ↦
              let t = g.takes ts x rest p.1 in
              record { front = t.front; parts = t.parts; is = inl t.is; local = λ u s. rw (same_sight ts t.front rest u t.parts s, p.0) (t.local u s) }
          | inr p ↦
              let t = h.takes ts x rest p.1 in
              record { front = t.front; parts = t.parts; is = inr t.is; local = λ u s. rw (same_sight ts t.front rest u t.parts s, p.0) (t.local u s) }
        ]

    choice_fails : (ts : List T) (n : ℕ) → (choice K ks G H).parse ts ≡ Err (At n) → Fails (choice K ks G H).parse (choice K ks G H).begun ts n
    choice_fails ts n e =
        elim (chosen (sees K ks ts) (G.parse ts) (H.parse ts) (Err (At n)) e) [
          | inl p ↦
              let t = g.fails ts n p.1 in
              record { front = t.front; rest = t.rest; parts = t.parts; left = t.left; is = inl t.is; local = λ u s. rw (same_sight ts t.front t.rest u t.parts s, p.0) (t.local u s) }
          | inr p ↦
              let t = h.fails ts n p.1 in
              record { front = t.front; rest = t.rest; parts = t.parts; left = t.left; is = inr t.is; local = λ u s. rw (same_sight ts t.front t.rest u t.parts s, p.0) (t.local u s) }
        ]

    sees_first : (a b : List T) (x : A) → G.reads a x → sees K ks (a ++ b) ≡ true
    sees_first [] b x r = absurd (let e = g.filled x r in let f = fit.solid in cc)
    sees_first (t ∷ ts) b x r = within_among f1 ks (K t) fit.taken (g.starts t ts (g.begins (t ∷ ts) x r))

    not_first : (t : T) (ts : List T) → H.begun (t ∷ ts) → among (K t) ks ≡ false
    not_first t ts b = not_both (among (K t) ks) (λ e. apart_among f2 ks (K t) fit.clash (h.starts t ts b) e)

    sees_second : (a b : List T) (x : A) → H.reads a x → sees K (more x) b ≡ false → sees K ks (a ++ b) ≡ false
    sees_second [] b x r s = sees_within K ks (more x) b (fit.greedy x (h.filled x r) (ends x r)) s
    sees_second (t ∷ ts) b x r s = not_first t ts (h.begins (t ∷ ts) x r)

    choice_again : (a : List T) (x : A) (b : List T) → (choice K ks G H).reads a x → sees K (more x) b ≡ false → ((choice K ks G H).parse (a ++ b) ≡ Ok (x, b)) ⊎ Late ((choice K ks G H).parse (a ++ b)) (suc (length b))
    choice_again a x b (inl r) s = rw (sees_first a b x r) (g.again a x b r (sees_within K (m1 x) (more x) b (fit.over1 x) s))
    choice_again a x b (inr r) s = rw (sees_second a b x r s) (h.again a x b r (sees_within K (m2 x) (more x) b (fit.over2 x) s))

    late_first : (a : List T) (t : T) (u : List T) → G.begun (a ++ (t ∷ [])) → sees K ks (a ++ (t ∷ u)) ≡ true
    late_first [] t u b = within_among f1 ks (K t) fit.taken (g.starts t [] b)
    late_first (v ∷ a) t u b = within_among f1 ks (K v) fit.taken (g.starts v (a ++ (t ∷ [])) b)

    late_second : (a : List T) (t : T) (u : List T) → H.begun (a ++ (t ∷ [])) → sees K ks (a ++ (t ∷ u)) ≡ false
    late_second [] t u b = not_first t [] b
    late_second (v ∷ a) t u b = not_first v (a ++ (t ∷ [])) b

    choice_lates : (i : ℕ) (a : List T) (t : T) (u : List T) → (choice K ks G H).late i a t → Late ((choice K ks G H).parse (a ++ (t ∷ u))) (suc (length u))
    choice_lates i a t u (inl l) = rw (late_first a t u (g.late_begins i a t l)) (g.lates i a t u l)
    choice_lates i a t u (inr l) = rw (late_second a t u (h.late_begins i a t l)) (h.lates i a t u l)

    choice_late_begins : (i : ℕ) (a : List T) (t : T) → (choice K ks G H).late i a t → (choice K ks G H).begun (a ++ (t ∷ []))
    choice_late_begins i a t (inl l) = inl (g.late_begins i a t l)
    choice_late_begins i a t (inr l) = inr (h.late_begins i a t l)

    choice_overs : (ts : List T) (i n : ℕ) → (choice K ks G H).parse ts ≡ Err (Over i n) → Overs (choice K ks G H).parse (choice K ks G H).late ts i n
    choice_overs ts i n e =
        elim (chosen (sees K ks ts) (G.parse ts) (H.parse ts) (Err (Over i n)) e) [
          | inl p ↦
              let t = g.overs ts i n p.1 in
              record { front = t.front; token = t.token; rest = t.rest; parts = t.parts; left = t.left; is = inl t.is; local = λ u. rw (same_sight ts t.front (t.token ∷ t.rest) (t.token ∷ u) t.parts refl, p.0) (t.local u) }
          | inr p ↦
              let t = h.overs ts i n p.1 in
              record { front = t.front; token = t.token; rest = t.rest; parts = t.parts; left = t.left; is = inr t.is; local = λ u. rw (same_sight ts t.front (t.token ∷ t.rest) (t.token ∷ u) t.parts refl, p.0) (t.local u) }
        ]

    choice_runs : (a : List T) → (choice K ks G H).begun a → RunsOut ((choice K ks G H).parse a)
    choice_runs [] b = h.runs [] h.empty
    choice_runs (t ∷ ts) (inl b) = rw (within_among f1 ks (K t) fit.taken (g.starts t ts b)) (g.runs (t ∷ ts) b)
    choice_runs (t ∷ ts) (inr b) = rw (not_first t ts b) (h.runs (t ∷ ts) b)

    choice_begins : (a : List T) (x : A) → (choice K ks G H).reads a x → (choice K ks G H).begun a
    choice_begins a x (inl r) = inl (g.begins a x r)
    choice_begins a x (inr r) = inr (h.begins a x r)

    choice_fronts : (a b : List T) → (choice K ks G H).begun (a ++ b) → (choice K ks G H).begun a
    choice_fronts a b (inl s) = inl (g.fronts a b s)
    choice_fronts a b (inr s) = inr (h.fronts a b s)

    choice_starts : (t : T) (ts : List T) → (choice K ks G H).begun (t ∷ ts) → among (K t) first ≡ true
    choice_starts t ts (inl b) = within_among f1 first (K t) fit.begin1 (g.starts t ts b)
    choice_starts t ts (inr b) = within_among f2 first (K t) fit.begin2 (h.starts t ts b)

    choice_filled : (x : A) → (choice K ks G H).reads [] x → null ≡ true
    choice_filled x (inl r) = absurd (let e = g.filled x r in let f = fit.solid in cc)
    choice_filled x (inr r) = fit.empty (h.filled x r)

    -- ---- one value, and what goes on after it

    first_apart : (t : T) (ts us : List T) → G.begun (t ∷ ts) → H.begun (t ∷ us) → ⊥
    first_apart t ts us bg bh = apart_among f2 ks (K t) fit.clash (h.starts t us bh) (within_among f1 ks (K t) fit.taken (g.starts t ts bg))

    read_apart : (a : List T) (x y : A) → G.reads a x → H.reads a y → ⊥
    read_apart [] x y r s = let e = g.filled x r in let f = fit.solid in cc
    read_apart (t ∷ a) x y r s = first_apart t a a (g.begins (t ∷ a) x r) (h.begins (t ∷ a) y s)

    choice_single : (a : List T) (x y : A) → (choice K ks G H).reads a x → (choice K ks G H).reads a y → x ≡ y
    choice_single a x y (inl r) (inl s) = g.single a x y r s
    choice_single a x y (inl r) (inr s) = absurd (read_apart a x y r s)
    choice_single a x y (inr r) (inl s) = absurd (read_apart a y x s r)
    choice_single a x y (inr r) (inr s) = h.single a x y r s

    past_read : (a : List T) (x : A) (t : T) (u : List T) → G.reads a x → H.begun (a ++ (t ∷ u)) → ⊥
    past_read [] x t u r b = let e = g.filled x r in let f = fit.solid in cc
    past_read (v ∷ a) x t u r b = first_apart v a (a ++ (t ∷ u)) (g.begins (v ∷ a) x r) b

    past_other : (a : List T) (x : A) (t : T) (u : List T) → H.reads a x → G.begun (a ++ (t ∷ u)) → among (K t) (more x) ≡ true
    past_other [] x t u r b = within_among ks (more x) (K t) (fit.greedy x (h.filled x r) (ends x r)) (within_among f1 ks (K t) fit.taken (g.starts t u b))
    past_other (v ∷ a) x t u r b = absurd (first_apart v (a ++ (t ∷ u)) a b (h.begins (v ∷ a) x r))

    choice_goes_on : (a : List T) (x : A) (t : T) (u : List T) → (choice K ks G H).reads a x → (choice K ks G H).begun (a ++ (t ∷ u)) → among (K t) (more x) ≡ true
    choice_goes_on a x t u (inl r) (inl b) = within_among (m1 x) (more x) (K t) (fit.over1 x) (g.goes_on a x t u r b)
    choice_goes_on a x t u (inl r) (inr b) = absurd (past_read a x t u r b)
    choice_goes_on a x t u (inr r) (inl b) = past_other a x t u r b
    choice_goes_on a x t u (inr r) (inr b) = within_among (m2 x) (more x) (K t) (fit.over2 x) (h.goes_on a x t u r b)

    late_apart : (a : List T) (t : T) → G.begun (a ++ (t ∷ [])) → H.begun (a ++ (t ∷ [])) → ⊥
    late_apart [] t b c = first_apart t [] [] b c
    late_apart (v ∷ a) t b c = first_apart v (a ++ (t ∷ [])) (a ++ (t ∷ [])) b c

    choice_one_limit : (i j : ℕ) (a : List T) (t : T) → (choice K ks G H).late i a t → (choice K ks G H).late j a t → i ≡ j
    choice_one_limit i j a t (inl l) (inl k) = g.one_limit i j a t l k
    choice_one_limit i j a t (inl l) (inr k) = absurd (late_apart a t (g.late_begins i a t l) (h.late_begins j a t k))
    choice_one_limit i j a t (inr l) (inl k) = absurd (late_apart a t (g.late_begins j a t k) (h.late_begins i a t l))
    choice_one_limit i j a t (inr l) (inr k) = h.one_limit i j a t l k

    pub choice_exact : IsExact K (choice K ks G H) null first more
    choice_exact = record {
      takes = choice_takes;
      fails = choice_fails;
      overs = choice_overs;
      again = choice_again;
      lates = choice_lates;
      late_begins = choice_late_begins;
      runs = choice_runs;
      begins = choice_begins;
      fronts = choice_fronts;
      empty = inr h.empty;
      starts = choice_starts;
      filled = choice_filled;
      single = choice_single;
      goes_on = choice_goes_on;
      one_limit = choice_one_limit;
    }

  -- ---- larger sets do no harm

  pub widen : {A : Type 0} (G : Syntax T A) (n1 : Bool) (f1 : List ℕ) (m1 : A → List ℕ) (null : Bool) (first : List ℕ) (more : A → List ℕ) → IsExact K G n1 f1 m1 → (n1 ≡ true → null ≡ true) → within f1 first ≡ true
      → ((x : A) → within (m1 x) (more x) ≡ true) → IsExact K G null first more
  widen G n1 f1 m1 null first more g n f m = record {
    takes = g.takes;
    fails = g.fails;
    overs = g.overs;
    again = λ a x b r s. g.again a x b r (sees_within K (m1 x) (more x) b (m x) s);
    lates = g.lates;
    late_begins = g.late_begins;
    runs = g.runs;
    begins = g.begins;
    fronts = g.fronts;
    empty = g.empty;
    starts = λ t ts b. within_among f1 first (K t) f (g.starts t ts b);
    filled = λ x r. n (g.filled x r);
    single = g.single;
    goes_on = λ a x t u r b. within_among (m1 x) (more x) (K t) (m x) (g.goes_on a x t u r b);
    one_limit = g.one_limit;
  }
