-- Ours: plain forms, and parts of mon_syntax/specs/Checking.
-- What functions are to their callers, and which is the first of a name.
use Rattle.std.specs.Prelude.{◌≡◌, ℕ, List, Option, Some, None, option_map, map, [], ◌∷◌, ◌++◌, Bool, false, nat_eq, if◌then◌else◌}
use Rattle.std.specs.List.{list_any}
use Rattle.std.specs.Map.{lookup}
use Rattle.mon_syntax.specs.Checking.{Header, find_function}
use Rattle.mon_typing.specs.declared.header.Header as code

abbrev pub plain_header : code.Header → Header
plain_header h = record { name = h.name; parameters = h.parameters.items; result = h.result }

-- of each name that functions have, the number of the first of them
abbrev pub AreFirst : List code.Header → List (ℕ × ℕ) → Type 0
AreFirst headers firsts = (x : ℕ) → lookup (nat_eq x) firsts ≡ option_map (λ (g : ℕ × Header). g.0) (find_function 0 (map plain_header headers) x)

-- the function with this number is the one that is found
abbrev pub is_at : ℕ → Option (ℕ × Header) → Bool
is_at k None = false
is_at k (Some g) = nat_eq g.0 k

-- where no name has a number yet, it is that of the next function
abbrev pub with_first : List (ℕ × ℕ) → ℕ → ℕ → List (ℕ × ℕ)
with_first firsts name number = if list_any (λ (x : ℕ × ℕ). nat_eq x.0 name) firsts then firsts else firsts ++ (name, number) ∷ []
