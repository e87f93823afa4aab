-- The innermost binder of a name.
use Rattle.std.proofs.Common.{◌≡◌, ℕ, true, false, cond, nat_eq, List, ◌∷◌, Option, Some, None, refl, ap, sym, ◌∙◌}
use Rattle.c_syntax.specs.declared.place.Place.{Place}
use Rattle.c_model.specs.AnnotationSights.{binder_named}
use Rattle.c_model.specs.ExpressionTyping.{or_else}

either_all : (a b c : Option Place) → or_else (or_else a b) c ≡ or_else a (or_else b c)
either_all None b c = refl
either_all (Some p) b c = refl

-- one more binder, that has the name or not
pub named_here : (x : ℕ) (b : Place × ℕ) (rest : List (Place × ℕ)) (found : Option Place) → nat_eq x b.1 ≡ true → or_else (binder_named x rest) (Some b.0) ≡ or_else (binder_named x (b ∷ rest)) found
named_here x b rest found e =
    sym (ap (λ t. or_else (or_else (binder_named x rest) (cond t (Some b.0) None)) found) e ∙ either_all (binder_named x rest) (Some b.0) found)

pub named_elsewhere : (x : ℕ) (b : Place × ℕ) (rest : List (Place × ℕ)) (found : Option Place) → nat_eq x b.1 ≡ false → or_else (binder_named x rest) found ≡ or_else (binder_named x (b ∷ rest)) found
named_elsewhere x b rest found e =
    sym (ap (λ t. or_else (or_else (binder_named x rest) (cond t (Some b.0) None)) found) e ∙ either_all (binder_named x rest) None found)
