-- Ours: the plain form of a map.
-- The indices of a program's definitions, as a map keeps them by their numbers.
use Rattle.std.specs.Prelude.{◌≡◌, ℕ, suc, ◌+◌, List, [], ◌∷◌, Option, Some, None, if◌then◌else◌, nat_eq}
use Rattle.c_syntax.specs.Programs.{Function}
use Rattle.c_model.specs.Meaning.{is_definition}

-- the index, among the definitions in order, of the one with this number
abbrev pub index_of : ℕ → List Function → ℕ
index_of n [] = 0
index_of n (f ∷ fs) = if is_definition f then (if nat_eq f.place.offset n then 0 else suc (index_of n fs)) else index_of n fs

-- the index that was found, or else one of those after so many
abbrev pub index_from : Option ℕ → ℕ → ℕ → ℕ
index_from None count behind = count + behind
index_from (Some index) count behind = index

-- by these indices, and after so many definitions, each definition has its index
abbrev pub AreIndices : (ℕ → Option ℕ) → ℕ → List Function → Type 0
AreIndices found count funcs = (n : ℕ) → index_from (found n) count 0 ≡ index_of n funcs

abbrev pub found_or : ℕ → Option ℕ → Option ℕ
found_or index None = Some index
found_or index (Some first) = Some first

-- one more definition, with its number and its index
abbrev pub with_index : (ℕ → Option ℕ) → ℕ → ℕ → ℕ → Option ℕ
with_index found number index n = if nat_eq number n then found_or index (found n) else found n
