-- What is left of a list, in a loop over it.
use Rattle.std.proofs.Common.{◌≡◌, ℕ, suc, ◌+◌, ◌<◌, ◌≤◌, List, ◌∷◌, [], length, length-drop, drop, get_or, ap, sym, ◌∙◌, arith}
use Rattle.std.proofs.lemmas.List.{nil_from_length}
use Rattle.std.proofs.Math.Seq.{drop-cons}

pub left_or : {A : Type 0} (f : List A → List ℕ) (l : List A) (i : ℕ) (d : A) → i < length l → f (drop i l) ≡ f (get_or l i d ∷ drop (i + 1) l)
left_or f l i d lt =
    let next : suc i ≡ i + 1 = omega arith in
    ap f (drop-cons l i d lt) ∙ ap (λ j. f (get_or l i d ∷ drop j l)) next

pub left_at : {A : Type 0} (f : List A → List ℕ) (l : List A) (i : ℕ) (x : A) → i < length l → x ≡ get_or l i x → f (drop i l) ≡ f (x ∷ drop (i + 1) l)
left_at f l i x lt e = left_or f l i x lt ∙ ap (λ z. f (z ∷ drop (i + 1) l)) (sym e)

pub none_left : {A : Type 0} (f : List A → List ℕ) (l : List A) (i : ℕ) → length l ≤ i → f (drop i l) ≡ f []
none_left f l i le = ap f (nil_from_length (drop i l) (omega (arith, length-drop i l)))
