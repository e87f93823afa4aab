-- Ours: labels of C (C99 6.8.1) that are known where an annotation stands, each with a mark of what is in sight where it stands itself.
-- The mark of the newest of a name, and of the newest that each hides.
use Rattle.std.specs.Prelude.{◌≡◌, ℕ, List, [], ◌∷◌, ◌++◌, map, nat_eq, cond, Option, Some, None}
use Rattle.std.specs.Map.{lookup}
use Rattle.c_model.specs.ExpressionTyping.{or_else}
use Rattle.c_scopes.specs.declared.sight.Mark.{Mark}
use Rattle.c_scopes.specs.declared.label.KnownLabel.{KnownLabel}

abbrev pub plain_mark : KnownLabel → ℕ × Mark
plain_mark l = (l.name, l.mark)

abbrev pub plain_marks : List KnownLabel → List (ℕ × Mark)
plain_marks ls = map plain_mark ls

-- the newest of a name
abbrev pub mark_named : ℕ → List (ℕ × Mark) → Option Mark
mark_named x [] = None
mark_named x (l ∷ ls) = or_else (mark_named x ls) (cond (nat_eq l.0 x) (Some l.1) None)

-- of each name, the mark of the newest
abbrev pub AreNewest : List (ℕ × Mark) → List (ℕ × Mark) → Type 0
AreNewest marks newest = (x : ℕ) → lookup (nat_eq x) newest ≡ mark_named x marks

-- of each, the mark of the newest that it hides, behind these
abbrev pub hidden_marks : List (ℕ × Mark) → List (ℕ × Mark) → List (Option Mark)
hidden_marks before [] = []
hidden_marks before (l ∷ ls) = mark_named l.0 before ∷ hidden_marks (before ++ l ∷ []) ls

abbrev pub hidden_of : KnownLabel → Option Mark
hidden_of l = l.hidden

-- each knows which it hides
abbrev pub AreHidden : List KnownLabel → Type 0
AreHidden ls = map hidden_of ls ≡ hidden_marks [] (plain_marks ls)
