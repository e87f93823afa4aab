-- An integer literal is a prefix, digits and a suffix.
use Rattle.std.proofs.Common.{◌≡◌, ℕ, zero, suc, ◌<◌, ◌≤◌, Bool, true, false, ◌||◌, eqb, leb, ltb, List, [], ◌∷◌, ◌++◌, take, drop, Option, Some, None, option_map, ◌⊎◌, inl, inr, refl, sym, ap, subst, ◌∙◌, arith}
use Rattle.std.specs.Str.Parse.{digits_value}
use Rattle.std.proofs.lemmas.Bool.{ltb-true, leb-true}
use Rattle.std.proofs.lemmas.List.{take-append-drop, length-take}
use Rattle.c_syntax.specs.declared.types.CInt.{CInt}
use Rattle.c_model.specs.Characters.{begins_with}
use Rattle.c_model.specs.MonitoredTokens.{greatest_literal}
use Rattle.c_model.specs.Literals.{is_digit_of, digits_len, value_within, digits_at, suffix_of, types_of, first_fitting, body_of, literal_of}
use Rattle.c_model.specs.CTokenLaws.{HaveBase, IsInteger}
use Rattle.c_model.specs.Words.{◌>>=◌}
use Rattle.c_model.proofs.Spelling.{chosen, begins_is, run_passes, run_within}

record DigitsAre (base most : ℕ) (bs : List ℕ) (d : ℕ × ℕ) : Type 0 where
  some : 0 < digits_len base bs
  value : digits_value base (take (digits_len base bs) bs) ≡ d.0
  small : d.0 ≤ most
  many : digits_len base bs ≡ d.1

same_pair : (a b : ℕ × ℕ) → (let o : Option (ℕ × ℕ) = Some a in o) ≡ Some b → a ≡ b
same_pair a b e = cc

same_value : (a b : ℕ) → (let o : Option ℕ = Some a in o) ≡ Some b → a ≡ b
same_value a b e = cc

digits_are : (base most : ℕ) (bs : List ℕ) (d : ℕ × ℕ) → digits_at base most bs ≡ Some d → DigitsAre base most bs d
unfolding digits_at
digits_are base most bs d e = elim (chosen (ltb 0 (digits_len base bs)) (option_map (λ v. (v, digits_len base bs)) (value_within base most (take (digits_len base bs) bs))) None (Some d) e) [
  | inl h ↦ by (value_within base most (take (digits_len base bs) bs)) refl (ltb-true 0 _ h.0) h.1
  | inr h ↦ absurd (let f = h.1 in cc)
]
  where
    by : (r : Option ℕ) → value_within base most (take (digits_len base bs) bs) ≡ r → 0 < digits_len base bs → (let o : Option (ℕ × ℕ) = option_map (λ v. (v, digits_len base bs)) r in o) ≡ Some d → DigitsAre base most bs d
    by None is some f = absurd cc
    by (Some v) is some f =
        let same = same_pair (v, digits_len base bs) d f in
        let first : v ≡ d.0 = ap (λ (p : ℕ × ℕ). p.0) same in
        elim (chosen (leb (digits_value base (take (digits_len base bs) bs)) most) (Some (digits_value base (take (digits_len base bs) bs))) None (Some v) is) [
          | inl h ↦
              let value : digits_value base (take (digits_len base bs) bs) ≡ d.0 = same_value _ v h.1 ∙ first in
              record { some = some; value = value; small = subst (λ (n : ℕ). n ≤ most) value (leb-true _ _ h.0); many = ap (λ (p : ℕ × ℕ). p.1) same }
          | inr h ↦ absurd (let g = h.1 in cc)
        ]

-- digits and a suffix
record BodyIs (base : ℕ) (bs : List ℕ) (v : ℕ) (t : Option CInt) : Type 0 where
  unsigned : Bool
  long : Bool
  some : 0 < digits_len base bs
  value : digits_value base (take (digits_len base bs) bs) ≡ v
  small : v ≤ greatest_literal
  ends : suffix_of (drop (digits_len base bs) bs) ≡ Some (unsigned, long)
  first : t ≡ first_fitting (types_of (eqb base 10) unsigned long) v

same_literal : (a b : ℕ × Option CInt) → (let o : Option (ℕ × Option CInt) = Some a in o) ≡ Some b → a ≡ b
same_literal a b e = cc

body_is : (base : ℕ) (bs : List ℕ) (v : ℕ) (t : Option CInt) → body_of base bs ≡ Some (v, t) → BodyIs base bs v t
unfolding body_of
body_is base bs v t e = by (digits_at base greatest_literal bs) refl e
  where
    inner : (d : ℕ × ℕ) (r : Option (Bool × Bool)) → digits_at base greatest_literal bs ≡ Some d → suffix_of (drop d.1 bs) ≡ r
        → (let o : Option (ℕ × Option CInt) = r >>= (λ s. Some (d.0, first_fitting (types_of (eqb base 10) s.0 s.1) d.0)) in o) ≡ Some (v, t) → BodyIs base bs v t
    inner d None is l f = absurd cc
    inner d (Some s) is l f =
        let h = digits_are base greatest_literal bs d is in
        let same = same_literal (d.0, first_fitting (types_of (eqb base 10) s.0 s.1) d.0) (v, t) f in
        let value : d.0 ≡ v = ap (λ (p : ℕ × Option CInt). p.0) same in
        record {
          unsigned = s.0;
          long = s.1;
          some = h.some;
          value = h.value ∙ value;
          small = subst (λ (n : ℕ). n ≤ greatest_literal) value h.small;
          ends = ap (λ (n : ℕ). suffix_of (drop n bs)) h.many ∙ l;
          first = sym (ap (λ (p : ℕ × Option CInt). p.1) same) ∙ ap (first_fitting (types_of (eqb base 10) s.0 s.1)) value;
        }

    by : (r : Option (ℕ × ℕ)) → digits_at base greatest_literal bs ≡ r
        → (let o : Option (ℕ × Option CInt) = r >>= (λ d. suffix_of (drop d.1 bs) >>= (λ s. Some (d.0, first_fitting (types_of (eqb base 10) s.0 s.1) d.0))) in o) ≡ Some (v, t) → BodyIs base bs v t
    by None is f = absurd cc
    by (Some d) is f = inner d (suffix_of (drop d.1 bs)) is refl f

same_start : (c n : ℕ) (bs : List ℕ) → 0 < n → begins_with (c ∷ []) (take n bs) ≡ begins_with (c ∷ []) bs
same_start c zero bs h = absurd (omega arith)
same_start c (suc n) [] h = refl
same_start c (suc n) (b ∷ bs) h = refl

-- the literal after its prefix
integer : (base : ℕ) (prefix bs bytes : List ℕ) (v : ℕ) (t : Option CInt) → bytes ≡ prefix ++ bs → HaveBase base prefix (take (digits_len base bs) bs) → BodyIs base bs v t → IsInteger v t bytes
integer base prefix bs bytes v t joined based h =
    let n = digits_len base bs in
    record {
      base = base;
      prefix = prefix;
      digits = take n bs;
      suffix = drop n bs;
      unsigned = h.unsigned;
      long = h.long;
      joined = joined ∙ ap (λ (l : List ℕ). prefix ++ l) (sym (take-append-drop n bs));
      based = based;
      some = omega (arith, h.some, length-take n bs, run_within (is_digit_of base) bs);
      are = run_passes (is_digit_of base) bs;
      value = h.value;
      small = h.small;
      ends = h.ends;
      first = h.first;
    }

either_true : (a b : Bool) → a || b ≡ true → (a ≡ true) ⊎ (b ≡ true)
either_true true b e = inl refl
either_true false b e = inr e

pub literal_is : (bytes : List ℕ) (v : ℕ) (t : Option CInt) → literal_of bytes ≡ Some (v, t) → IsInteger v t bytes
unfolding literal_of
literal_is bytes v t e = elim (chosen (begins_with (48 ∷ 120 ∷ []) bytes || begins_with (48 ∷ 88 ∷ []) bytes) (body_of 16 (drop 2 bytes)) _ (Some (v, t)) e) [
  | inl h ↦ elim (either_true (begins_with (48 ∷ 120 ∷ []) bytes) (begins_with (48 ∷ 88 ∷ []) bytes) h.0) [
    | inl low ↦ integer 16 (48 ∷ 120 ∷ []) (drop 2 bytes) bytes v t (begins_is (48 ∷ 120 ∷ []) bytes low) (inl (refl, inl refl)) (body_is 16 (drop 2 bytes) v t h.1)
    | inr up ↦ integer 16 (48 ∷ 88 ∷ []) (drop 2 bytes) bytes v t (begins_is (48 ∷ 88 ∷ []) bytes up) (inl (refl, inr refl)) (body_is 16 (drop 2 bytes) v t h.1)
  ]
  | inr h ↦ elim (chosen (begins_with (48 ∷ []) bytes) (body_of 8 bytes) (body_of 10 bytes) (Some (v, t)) h.1) [
    | inl g ↦
        let body = body_is 8 bytes v t g.1 in
        integer 8 [] bytes bytes v t refl (inr (inl (refl, refl, same_start 48 (digits_len 8 bytes) bytes body.some ∙ g.0))) body
    | inr g ↦
        let body = body_is 10 bytes v t g.1 in
        integer 10 [] bytes bytes v t refl (inr (inr (refl, refl, same_start 48 (digits_len 10 bytes) bytes body.some ∙ g.0))) body
  ]
]
