-- Ours: how the first of a key is kept, so that it is found without a look at all before it.
-- The number of the first of each key in a list.
use Rattle.std.specs.Prelude.{◌≡◌, ℕ, suc, List, [], ◌∷◌, ◌++◌, length, nat_eq, cond, Option, Some, None, option_map}
use Rattle.std.specs.Map.{lookup}
use Rattle.c_model.specs.ExpressionTyping.{or_else}

-- the number of the first that is this key
abbrev pub first_number : ℕ → List ℕ → Option ℕ
first_number x [] = None
first_number x (k ∷ ks) = cond (nat_eq x k) (Some 0) (option_map suc (first_number x ks))

-- of each of these keys, the number of the first that is it
abbrev pub AreFirst : List ℕ → List (ℕ × ℕ) → Type 0
AreFirst ks firsts = (x : ℕ) → lookup (nat_eq x) firsts ≡ first_number x ks

-- a key has this number where it had none, and each other is as it was
abbrev pub IsNoted : List (ℕ × ℕ) → ℕ → ℕ → List (ℕ × ℕ) → Type 0
IsNoted firsts k n more = (x : ℕ) → lookup (nat_eq x) more ≡ or_else (lookup (nat_eq x) firsts) (cond (nat_eq k x) (Some n) None)

-- a further key, which has this number, was noted
abbrev pub Notes : List (ℕ × ℕ) → ℕ → ℕ → List (ℕ × ℕ) → Type 0
Notes firsts k n more = (ks : List ℕ) → n ≡ length ks → AreFirst ks firsts → AreFirst (ks ++ k ∷ []) more
