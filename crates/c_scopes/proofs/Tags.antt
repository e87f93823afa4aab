-- Tags, and one more.
use Rattle.std.proofs.Common.{◌≡◌, ℕ, List, [], ◌∷◌, ◌++◌, refl, sym, ap, ◌∙◌, arith, cond, nat_eq, ◌||◌, Bool, true, false}
use Rattle.std.proofs.lemmas.Bool.Decides.{nat_tests}
use Rattle.indexmap.specs.IndexSet.{IndexSet, contains}
use Rattle.c_model.specs.ExpressionTyping.{is_among}
use Rattle.c_scopes.specs.Tags.{HasTags}

pub among_last : (x : ℕ) (tags : List ℕ) (tag : ℕ) → is_among x (tags ++ tag ∷ []) ≡ (is_among x tags || nat_eq x tag)
among_last x [] tag = by (nat_eq x tag)
  where
    by : (b : Bool) → (b || false) ≡ b
    by true = refl
    by false = refl
among_last x (t ∷ ts) tag = by (nat_eq x t) (among_last x ts tag)
  where
    by : (b : Bool) → is_among x (ts ++ tag ∷ []) ≡ (is_among x ts || nat_eq x tag) → (b || is_among x (ts ++ tag ∷ [])) ≡ ((b || is_among x ts) || nat_eq x tag)
    by true e = refl
    by false e = e

pub tags_more : {S : Type 0} (set all : IndexSet ℕ S) (tags more : List ℕ) (tag : ℕ) → more ≡ tags ++ tag ∷ [] → ((x : ℕ) → contains nat_eq all x ≡ cond (nat_eq tag x) true (contains nat_eq set x)) → HasTags set tags
    → HasTags all more
tags_more set all tags more tag is with_it has x =
    with_it x ∙ by (nat_eq tag x) refl (contains nat_eq set x) ∙ ap (λ b. b || nat_eq x tag) (has x) ∙ sym (among_last x tags tag) ∙ ap (is_among x) (sym is)
  where
    by : (b : Bool) → nat_eq tag x ≡ b → (c : Bool) → cond b true c ≡ (c || nat_eq x tag)
    by true e true = refl
    by true e false =
        let same : tag ≡ x = grind (arith, nat_tests, e) in
        let t : nat_eq x tag ≡ true = grind (arith, nat_tests, same) in
        sym t
    by false e true = refl
    by false e false =
        let t : nat_eq x tag ≡ false = grind (arith, nat_tests, e) in
        sym t
