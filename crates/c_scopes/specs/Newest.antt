-- Ours: how objects and enumerators are found by their names (C99 6.2.1).
-- The number of the newest of a name, and of the newest that each hides.
use Rattle.std.specs.Prelude.{◌≡◌, ℕ, suc, List, [], ◌∷◌, ◌++◌, map, nat_eq, cond, Option, Some, None, option_map}
use Rattle.std.specs.Map.{lookup}
use Rattle.c_model.specs.ExpressionTyping as plain
use Rattle.c_model.specs.ExpressionTyping.{AnObject, AnEnumerator, has_name, or_else}
use Rattle.c_scopes.specs.Entity.{plain_entity}
use Rattle.c_scopes.specs.declared.declarations.Declared.{Declared}

abbrev pub plain_name : plain.Entity → ℕ
plain_name (AnObject b) = b.name
plain_name (AnEnumerator c) = c.name

abbrev pub entity_of : Declared → plain.Entity
entity_of d = plain_entity d.entity

abbrev pub entities_of : List Declared → List plain.Entity
entities_of ds = map entity_of ds

-- the number of the newest of a name
abbrev pub newest_number : ℕ → List plain.Entity → Option ℕ
newest_number x [] = None
newest_number x (e ∷ es) = or_else (option_map suc (newest_number x es)) (cond (has_name x e) (Some 0) None)

-- of each name, the number of the newest
abbrev pub AreNewest : List plain.Entity → List (ℕ × ℕ) → Type 0
AreNewest es newest = (x : ℕ) → lookup (nat_eq x) newest ≡ newest_number x es

-- of each, the number of the newest that it hides, behind these
abbrev pub hidden_numbers : List plain.Entity → List plain.Entity → List (Option ℕ)
hidden_numbers before [] = []
hidden_numbers before (e ∷ es) = newest_number (plain_name e) before ∷ hidden_numbers (before ++ e ∷ []) es

-- each knows which it hides
abbrev pub AreHidden : List Declared → Type 0
AreHidden ds = map (λ (d : Declared). d.hidden) ds ≡ hidden_numbers [] (entities_of ds)
