-- Labels, the innermost first or last.
use Rattle.std.proofs.Common.{◌≡◌, ℕ, Bool, true, false, ◌||◌, List, [], ◌∷◌, ◌++◌, reverse, nat_eq, refl, ap, ◌∙◌}
use Rattle.std.specs.List.{list_any}
use Rattle.std.proofs.lemmas.List.{reverse-append}
use Rattle.std.proofs.lemmas.List.Folds.{list_any-append}

last_first : (a b : Bool) → (a || (b || false)) ≡ (b || a)
last_first true true = refl
last_first true false = refl
last_first false true = refl
last_first false false = refl

pub any_reversed : (l : ℕ) (xs : List ℕ) → list_any (nat_eq l) (reverse xs) ≡ list_any (nat_eq l) xs
any_reversed l [] = refl
any_reversed l (x ∷ xs) =
    ap (list_any (nat_eq l)) (reverse-append (x ∷ []) xs) ∙ list_any-append (nat_eq l) (reverse xs) (x ∷ [])
    ∙ ap (λ b. b || (nat_eq l x || false)) (any_reversed l xs) ∙ last_first (list_any (nat_eq l) xs) (nat_eq l x)

-- the innermost of labels that are opened is the last
pub opened : (l : ℕ) (xs : List ℕ) → reverse (xs ++ l ∷ []) ≡ l ∷ reverse xs
opened l xs = reverse-append xs (l ∷ [])
