-- Sets of kinds of tokens, by computation.
use Rattle.std.proofs.Common.{◌≡◌, ℕ, Bool, true, false, cond, eqb, List, [], ◌∷◌, ◌++◌, refl, sym, ap, subst, ◌⊎◌, inl, inr}
use Rattle.std.proofs.lemmas.Bool.{eqb-true, eq-eqb}
use Rattle.grammar.specs.Syntax.{among, sees}
use Rattle.grammar.specs.Exact.{SameHead}

abbrev pub within : List ℕ → List ℕ → Bool
within [] ys = true
within (x ∷ xs) ys = cond (among x ys) (within xs ys) false

abbrev pub apart : List ℕ → List ℕ → Bool
apart [] ys = true
apart (x ∷ xs) ys = cond (among x ys) false (apart xs ys)

pub cond_true : (b c : Bool) → cond b c false ≡ true → (b ≡ true) × (c ≡ true)
cond_true true c e = (refl, e)
cond_true false c e = absurd cc

pub cond_false : (b c : Bool) → cond b false c ≡ true → (b ≡ false) × (c ≡ true)
cond_false true c e = absurd cc
cond_false false c e = (refl, e)

pub cond_or : (b c : Bool) → cond b true c ≡ true → (b ≡ true) ⊎ (c ≡ true)
cond_or true c e = inl refl
cond_or false c e = inr e

pub not_both : (b : Bool) → (b ≡ true → ⊥) → b ≡ false
not_both true h = absurd (h refl)
not_both false h = refl

pub within_among : (xs ys : List ℕ) (n : ℕ) → within xs ys ≡ true → among n xs ≡ true → among n ys ≡ true
within_among [] ys n w h = absurd cc
within_among (x ∷ xs) ys n w h =
    let p = cond_true (among x ys) (within xs ys) w in
    elim (cond_or (eqb n x) (among n xs) h) [
      | inl e ↦ subst (λ (k : ℕ). among k ys ≡ true) (sym (eqb-true n x e)) p.0
      | inr e ↦ within_among xs ys n p.1 e
    ]

pub apart_among : (xs ys : List ℕ) (n : ℕ) → apart xs ys ≡ true → among n xs ≡ true → among n ys ≡ true → ⊥
apart_among [] ys n w h k = cc
apart_among (x ∷ xs) ys n w h k =
    let p = cond_false (among x ys) (apart xs ys) w in
    elim (cond_or (eqb n x) (among n xs) h) [
      | inl e ↦ let q : among x ys ≡ true = subst (λ (m : ℕ). among m ys ≡ true) (eqb-true n x e) k in cc
      | inr e ↦ apart_among xs ys n p.1 e k
    ]

pub sees_within : {T : Type 0} (K : T → ℕ) (xs ys : List ℕ) (ts : List T) → within xs ys ≡ true → sees K ys ts ≡ false → sees K xs ts ≡ false
sees_within K xs ys [] w h = refl
sees_within K xs ys (t ∷ ts) w h = not_both (among (K t) xs) (λ e. let q = within_among xs ys (K t) w e in absurd cc)

pub sees_same : {T : Type 0} (K : T → ℕ) (ks : List ℕ) (a b : List T) → SameHead a b → sees K ks a ≡ sees K ks b
sees_same K ks [] [] h = refl
sees_same K ks [] (u ∷ us) h = absurd h
sees_same K ks (t ∷ ts) [] h = absurd h
sees_same K ks (t ∷ ts) (u ∷ us) h = ap (λ x. among (K x) ks) h

pub same_head : {T : Type 0} (a u v : List T) → SameHead u v → SameHead (a ++ u) (a ++ v)
same_head [] u v h = h
same_head (t ∷ ts) u v h = refl

among_head : (x : ℕ) (xs : List ℕ) → among x (x ∷ xs) ≡ true
among_head x xs = rw (eq-eqb x x refl) refl

within_more : (x : ℕ) (xs ys : List ℕ) → within xs ys ≡ true → within xs (x ∷ ys) ≡ true
within_more x [] ys h = refl
within_more x (y ∷ xs) ys h =
    let p = cond_true (among y ys) (within xs ys) h in
    rw (among_more x y ys p.0) (within_more x xs ys p.1)
  where
    among_more : (x y : ℕ) (ys : List ℕ) → among y ys ≡ true → among y (x ∷ ys) ≡ true
    among_more x y ys e = both (eqb y x) (among y ys) e
      where
        both : (b c : Bool) → c ≡ true → cond b true c ≡ true
        both true c e = refl
        both false c e = e

pub within_self : (xs : List ℕ) → within xs xs ≡ true
within_self [] = refl
within_self (x ∷ xs) = rw (among_head x xs) (within_more x xs xs (within_self xs))

among_joined : (x : ℕ) (xs ys : List ℕ) → among x xs ≡ true → among x (xs ++ ys) ≡ true
among_joined x [] ys h = absurd cc
among_joined x (y ∷ xs) ys h = elim (cond_or (eqb x y) (among x xs) h) [ inl e ↦ rw e refl | inr e ↦ rw (among_joined x xs ys e) (or_true (eqb x y)) ]
  where
    or_true : (b : Bool) → cond b true true ≡ true
    or_true true = refl
    or_true false = refl

pub within_joined : (xs ys zs : List ℕ) → within xs ys ≡ true → within xs (ys ++ zs) ≡ true
within_joined [] ys zs h = refl
within_joined (x ∷ xs) ys zs h =
    let p = cond_true (among x ys) (within xs ys) h in
    rw (among_joined x ys zs p.0) (within_joined xs ys zs p.1)

pub within_joined_right : (xs ys zs : List ℕ) → within xs zs ≡ true → within xs (ys ++ zs) ≡ true
within_joined_right xs [] zs h = h
within_joined_right xs (y ∷ ys) zs h = within_more y xs (ys ++ zs) (within_joined_right xs ys zs h)

pub within_right : (ys zs : List ℕ) → within zs (ys ++ zs) ≡ true
within_right ys zs = within_joined_right zs ys zs (within_self zs)

pub among_either : (k : ℕ) (xs ys : List ℕ) → among k (xs ++ ys) ≡ true → (among k xs ≡ true) ⊎ (among k ys ≡ true)
among_either k [] ys h = inr h
among_either k (x ∷ xs) ys h = elim (cond_or (eqb k x) (among k (xs ++ ys)) h) [
  | inl e ↦ inl (rw e refl)
  | inr e ↦ elim (among_either k xs ys e) [ inl f ↦ inl (rw f (or_true (eqb k x))) | inr f ↦ inr f ]
]
  where
    or_true : (b : Bool) → cond b true true ≡ true
    or_true true = refl
    or_true false = refl

pub within_left : (xs ys : List ℕ) → within xs (xs ++ ys) ≡ true
within_left xs ys = within_joined xs xs ys (within_self xs)

pub within_both : (xs ys zs : List ℕ) → within xs zs ≡ true → within ys zs ≡ true → within (xs ++ ys) zs ≡ true
within_both [] ys zs h k = k
within_both (x ∷ xs) ys zs h k =
    let p = cond_true (among x zs) (within xs zs) h in
    rw p.0 (within_both xs ys zs p.1 k)

pub apart_joined : (xs ys zs : List ℕ) → apart xs zs ≡ true → apart ys zs ≡ true → apart (xs ++ ys) zs ≡ true
apart_joined [] ys zs a b = b
apart_joined (x ∷ xs) ys zs a b = let p = cond_false (among x zs) (apart xs zs) a in rw p.0 (apart_joined xs ys zs p.1 b)

pub apart_front : (xs ys zs : List ℕ) → apart xs (ys ++ zs) ≡ true → apart xs ys ≡ true
apart_front [] ys zs a = refl
apart_front (x ∷ xs) ys zs a =
    let p = cond_false (among x (ys ++ zs)) (apart xs (ys ++ zs)) a in
    let q : among x ys ≡ false = not_both (among x ys) (λ h. let k = within_among ys (ys ++ zs) x (within_left ys zs) h in let f = p.0 in cc) in
    rw q (apart_front xs ys zs p.1)
