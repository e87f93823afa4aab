-- Words of types, and what a word is.
use Rattle.std.proofs.Common.{◌≡◌, ℕ, Bool, true, false, cond, eqb, List, [], ◌∷◌, ◌++◌, refl, ap, ◌∙◌}
use Rattle.std.specs.Prelude.{◌||◌}
use Rattle.grammar.specs.Syntax.{among}
use Rattle.c_model.specs.declared.vocabulary.Word.{Word}
use Rattle.c_model.specs.Vocabulary.{keywords, kept_keywords, other_words, name_or_logic, word_of}
use Rattle.c_model.specs.Terminals.{found_in}

pub among_joined : (k : ℕ) (xs ys : List ℕ) → (among k xs || among k ys) ≡ among k (xs ++ ys)
among_joined k [] ys = refl
among_joined k (x ∷ xs) ys = tested (eqb k x) (among_joined k xs ys)
  where
    tested : (b : Bool) → (among k xs || among k ys) ≡ among k (xs ++ ys) → (cond b true (among k xs) || among k ys) ≡ cond b true (among k (xs ++ ys))
    tested true h = refl
    tested false h = h

-- tables one after another
pub the_word : (w : List ℕ) (a b d e : Word) → a ≡ name_or_logic w → b ≡ found_in other_words w a → d ≡ found_in kept_keywords w b → e ≡ found_in keywords w d → e ≡ word_of w
unfolding word_of
the_word w a b d e p q r s = s ∙ ap (found_in keywords w) (r ∙ ap (found_in kept_keywords w) (q ∙ ap (found_in other_words w) p))
