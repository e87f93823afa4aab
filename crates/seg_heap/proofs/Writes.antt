-- What a list of numbers has after one of them is written.
use Rattle.std.proofs.Common.{◌≡◌, ℕ, ◌<◌, ◌≤◌, List, length, get_or, set, ap, ◌∙◌, arith}
use Rattle.std.proofs.lemmas.List.{get_or-set_same, get_or-set_other, get_or_past, length-set}

-- a number, where it is written and elsewhere
pub same : (xs : List ℕ) (i j x : ℕ) → j ≡ i → i < length xs → get_or (set xs i x) j 0 ≡ x
same xs i j x e lt = ap (λ k. get_or (set xs i x) k 0) e ∙ get_or-set_same xs i x 0 lt

pub other : (xs : List ℕ) (i j x : ℕ) → (j ≡ i → ⊥) → get_or (set xs i x) j 0 ≡ get_or xs j 0
other xs i j x ne = get_or-set_other xs i j x 0 ne

pub long : (xs : List ℕ) (i x : ℕ) → length (set xs i x) ≡ length xs
long xs i x = length-set xs i x

-- past the end nothing is written
pub past : (xs : List ℕ) (i x : ℕ) → length xs ≤ i → get_or (set xs i x) i 0 ≡ 0
past xs i x ge = get_or_past (set xs i x) i 0 (let e = long xs i x in omega (arith, e, ge))
