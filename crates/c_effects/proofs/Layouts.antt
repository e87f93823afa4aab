-- Literals that are found by their numbers.
use Rattle.std.proofs.Common.{◌≡◌, ℕ, zero, suc, slice_get, List, [], ◌∷◌, true, false, length, get_or, ltb, map, refl, ap, subst, sym, ◌∙◌}
use Rattle.std.proofs.Math.Dec.{nltb→le, ltb→lt}
use Rattle.std.proofs.lemmas.Option.{slice_get_past, slice_get-get_or}
use Rattle.std.specs.Prelude.{Some, None, T, not}
use Rattle.c_syntax.specs.declared.program.Text.{Text}
use Rattle.c_syntax.specs.Programs.{StringLiteral, plain_text}
use Rattle.c_model.specs.Meaning.{text_at}

-- an element by its index
pub found : {A : Type 0} (xs : List A) (n : ℕ) (x : A) → true ≡ ltb n (length xs) → x ≡ get_or xs n x → slice_get xs n ≡ Some x
found xs n x within is = slice_get-get_or xs n x (ltb→lt n (length xs) (subst T within tt)) ∙ ap Some (sym is)

pub missing : {A : Type 0} (xs : List A) (n : ℕ) → false ≡ ltb n (length xs) → slice_get xs n ≡ None
missing xs n past = slice_get_past xs n (nltb→le n (length xs) (subst (λ b. T (not b)) past tt))

-- the bytes of a literal, by its number
pub text_there : (texts : List Text) (n : ℕ) (x : Text) → slice_get texts n ≡ Some x → x.bytes ≡ text_at (map (λ (y : StringLiteral). y.bytes) (map plain_text texts)) n
text_there [] n x is = absurd cc
text_there (y ∷ texts) zero x is = let same : x ≡ y = cc in ap (λ (z : Text). z.bytes) same
text_there (y ∷ texts) (suc n) x is = text_there texts n x is

pub text_missing : (texts : List Text) (n : ℕ) → slice_get texts n ≡ None → [] ≡ text_at (map (λ (y : StringLiteral). y.bytes) (map plain_text texts)) n
text_missing [] n is = refl
text_missing (y ∷ texts) zero is = absurd cc
text_missing (y ∷ texts) (suc n) is = text_missing texts n is
