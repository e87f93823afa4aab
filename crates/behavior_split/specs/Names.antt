-- Which behavior a name of `complete` and `disjoint` means (ACSL 2.3.3): the first of that name.
use Rattle.std.specs.Prelude.{ℕ, suc, cond, nat_eq, List, [], ◌∷◌, Option, Some, None}
use Rattle.c_syntax.specs.Programs.{NamedBehavior}

-- its index, where these have the indices from k on
abbrev pub index_from : ℕ → ℕ → List NamedBehavior → Option ℕ
index_from x k [] = None
index_from x k (b ∷ bs) = cond (nat_eq x b.name) (Some k) (index_from x (suc k) bs)

abbrev pub index_named : ℕ → List NamedBehavior → Option ℕ
index_named x bs = index_from x 0 bs

-- what was found first
abbrev pub first_of : Option ℕ → Option ℕ → Option ℕ
first_of None later = later
first_of (Some index) later = Some index

-- what is known of names with one more
abbrev pub with_name : (ℕ → Option ℕ) → ℕ → ℕ → ℕ → Option ℕ
with_name found name index x = first_of (found x) (cond (nat_eq x name) (Some index) None)
