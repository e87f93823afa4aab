-- What a word is, as it is spelled and as clap cuts it.
use Rattle.std.proofs.Common.{◌≡◌, ◌∙◌, ℕ, Bool, cond, true, false, not, ◌&&◌, ◌||◌, refl, sym, ap, List, [], ◌∷◌, ◌++◌, Option, Some, None, bytes_eq, nat_eq, codes, eq-eqb, suc, take, drop, ◌+◌, ◌==◌, arith}
use Rattle.std.specs.List.{list_all, before_first, after_first, prefix_len}
use Rattle.std.proofs.lemmas.Bool.{eqb-true}
use Rattle.clap.specs.Lexer.{has_byte, name_and_value}
use Rattle.command_words.specs.Given.{Text, Named, Word, whole, refused, alone, behind_equals, dashed, is_dashed, with_text, word_of}
use Rattle.c_model.specs.Words.{without_front}
use Rattle.command_words.proofs.Finding.{named}

pub unlike : (a b : ℕ) → nat_eq a b ≡ false → nat_eq b a ≡ false
unlike a b e = go (nat_eq b a) refl
  where
    go : (t : Bool) → nat_eq b a ≡ t → t ≡ false
    go true t = let bad : nat_eq a b ≡ true = eq-eqb a b (sym (eqb-true b a t)) in absurd cc
    go false t = refl

-- a name has no `=`
abbrev pub is_plain : Text → Bool
is_plain name = not (has_byte 61 name)

abbrev is_equals : ℕ → Bool
is_equals x = x == 61

before_cons : (x : ℕ) (xs : Text) → before_first is_equals (x ∷ xs) ≡ cond (is_equals x) [] (x ∷ before_first is_equals xs)
before_cons x xs = go (is_equals x)
  where
    k : ℕ
    k = prefix_len (λ y. not (is_equals y)) xs

    one : 1 + k ≡ suc k
    one = omega arith

    go : (t : Bool) → take (cond (not t) (1 + k) 0) (x ∷ xs) ≡ cond t [] (x ∷ take k xs)
    go true = refl
    go false = ap (λ n. take n (x ∷ xs)) one

after_cons : (x : ℕ) (xs : Text) → after_first is_equals (x ∷ xs) ≡ cond (is_equals x) xs (after_first is_equals xs)
after_cons x xs = go (is_equals x)
  where
    k : ℕ
    k = prefix_len (λ y. not (is_equals y)) xs

    one : 1 + k + 1 ≡ suc (k + 1)
    one = omega arith

    go : (t : Bool) → drop (cond (not t) (1 + k) 0 + 1) (x ∷ xs) ≡ cond t xs (drop (k + 1) xs)
    go true = refl
    go false = ap (λ n. drop n (x ∷ xs)) one

-- the answer by how the rest is spelled, and by how it is cut at `=`
module _ (A C : Word) (B : Text → Word) where
  abbrev from : Option Text → Word
  from (Some v) = B v
  from None = C

  abbrev spelled : Text → Text → Word
  spelled name rest = cond (bytes_eq name rest) A (from (without_front (name ++ codes "=") rest))

  abbrev cut : Text → Text → Word
  cut name rest = cond (bytes_eq name (before_first is_equals rest)) (cond (has_byte 61 rest) (B (after_first is_equals rest)) A) C

  at_end : (x : ℕ) (xs : Text) (t : Bool) → nat_eq x 61 ≡ t → spelled [] (x ∷ xs) ≡ cut [] (x ∷ xs)
  at_end x xs true t = rw (before_cons x xs, after_cons x xs, t) refl
  at_end x xs false t = rw (before_cons x xs, after_cons x xs, t) refl

  spelled_cut : (name rest : Text) → is_plain name ≡ true → spelled name rest ≡ cut name rest
  spelled_cut [] [] plain = refl
  spelled_cut [] (x ∷ xs) plain = at_end x xs (nat_eq x 61) refl
  spelled_cut (m ∷ name) [] plain = refl
  spelled_cut (m ∷ name) (x ∷ xs) plain = go (nat_eq m 61) (nat_eq x m) (nat_eq x 61) refl refl refl (λ p. spelled_cut name xs p)
    where
      go : (p q r : Bool) → nat_eq m 61 ≡ p → nat_eq x m ≡ q → nat_eq x 61 ≡ r → (is_plain name ≡ true → spelled name xs ≡ cut name xs) → spelled (m ∷ name) (x ∷ xs) ≡ cut (m ∷ name) (x ∷ xs)
      go true q r p_is q_is r_is same = let bad : not (true || has_byte 61 name) ≡ true = rw p_is at plain in absurd cc
      go false true true p_is q_is r_is same = let bad : nat_eq m 61 ≡ true = eq-eqb m 61 (sym (eqb-true x m q_is) ∙ eqb-true x 61 r_is) in absurd cc
      go false false true p_is q_is r_is same = rw (before_cons x xs, after_cons x xs, q_is, r_is, unlike x m q_is) refl
      go false false false p_is q_is r_is same = rw (before_cons x xs, after_cons x xs, q_is, r_is, unlike x m q_is) refl
      go false true false p_is q_is r_is same = rw (before_cons x xs, after_cons x xs, q_is, r_is, eq-eqb m x (sym (eqb-true x m q_is))) (same (rw p_is at plain))

-- by the name that clap cuts off
abbrev pub by_name : Option Named → Option Text → Word
by_name None v = refused
by_name (Some o) None = alone o
by_name (Some o) (Some text) = with_text o text

abbrev pub are_plain : List Named → Bool
are_plain options = list_all (λ o. is_plain o.0) options

pub plain_here : (a b : Bool) → (a && b) ≡ true → a ≡ true
plain_here true b e = refl
plain_here false b e = absurd cc

pub plain_more : (a b : Bool) → (a && b) ≡ true → b ≡ true
plain_more true b e = e
plain_more false b e = absurd cc

behind_from : (o : Named) (text : Option Text) (other : Word) → behind_equals o text other ≡ from (alone o) other (with_text o) text
behind_from o None other = refl
behind_from o (Some text) other = refl

-- two hyphens and more: the option that is named
pub named_word : (operand : Text) (options : List Named) (x : ℕ) (rest : Text) → are_plain options ≡ true
    → word_of operand options (dashed (x ∷ rest)) ≡ by_name (named (name_and_value (x ∷ rest)).0 options) (name_and_value (x ∷ rest)).1
named_word operand [] x rest plain = refl
named_word operand (o ∷ options) x rest plain =
    ap (cond (bytes_eq o.0 (x ∷ rest)) (alone o)) (behind_from o (without_front (o.0 ++ codes "=") (x ∷ rest)) (word_of operand options (dashed (x ∷ rest))))
    ∙ spelled_cut (alone o) (word_of operand options (dashed (x ∷ rest))) (with_text o) o.0 (x ∷ rest) (plain_here (is_plain o.0) _ plain)
    ∙ ap (cond (bytes_eq o.0 (before_first is_equals (x ∷ rest))) (cond (has_byte 61 (x ∷ rest)) (with_text o (after_first is_equals (x ∷ rest))) (alone o)))
    (named_word operand options x rest (plain_more (is_plain o.0) _ plain))
    ∙ go (bytes_eq o.0 (before_first is_equals (x ∷ rest))) (has_byte 61 (x ∷ rest))
  where
    go : (b v : Bool) → cond b (cond v (with_text o (after_first is_equals (x ∷ rest))) (alone o))
        (by_name (named (before_first is_equals (x ∷ rest)) options) (cond v (Some (after_first is_equals (x ∷ rest))) None))
        ≡ by_name (cond b (Some o) (named (before_first is_equals (x ∷ rest)) options)) (cond v (Some (after_first is_equals (x ∷ rest))) None)
    go true true = refl
    go true false = refl
    go false v = refl

-- a word that no option begins
pub unnamed : (operand : Text) (options : List Named) (word : Text) → ((name : Text) → bytes_eq (dashed name) word ≡ false)
    → ((name : Text) → without_front (dashed name ++ codes "=") word ≡ None) → word_of operand options word ≡ cond (is_dashed word) refused (whole (operand, word))
unnamed operand [] word no_name no_text = refl
unnamed operand (o ∷ options) word no_name no_text = rw (no_name o.0, no_text o.0) (unnamed operand options word no_name no_text)
