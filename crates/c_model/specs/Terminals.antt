-- What both languages' grammars ask of single tokens (C99 6.4): words and punctuators by tables, and the value of a token with its place.
-- The labels of limits are ours.
use Rattle.std.specs.Prelude.{ℕ, List, [], ◌∷◌, Option, Some, None, cond, eqb, if◌then◌else◌, bytes_eq}
use Rattle.c_syntax.specs.declared.place.Place.{Place}
use Rattle.c_syntax.specs.Tokens as token
use Rattle.c_syntax.specs.Tokens.{PlainTokenKind, PlainToken}

-- ---- limits, by their labels

-- of an expression that stands in no other: its tokens in C, the parentheses that are open at once in monitored C
abbrev pub expression_limit : ℕ
expression_limit = 0

-- of the depth at which statements stand in one another
abbrev pub nesting_limit : ℕ
nesting_limit = 1

-- ---- words

-- what a table says of a word, and another where it has none
abbrev pub found_in : {W : Type 0} → List (List ℕ × W) → List ℕ → W → W
found_in [] w other = other
found_in (x ∷ xs) w other = if bytes_eq x.0 w then x.1 else found_in xs w other

-- ---- tokens

-- a token whose kind has a value, with its place
abbrev pub placed : {A : Type 0} → (PlainTokenKind → Option A) → PlainToken → Option (A × Place)
placed f t = elim (f t.kind) [ Some x ↦ Some (x, t.place) | None ↦ None ]

-- what is looked up in a table by a number
abbrev pub entry : {A : Type 0} → ℕ → List (ℕ × A) → Option A
entry n [] = None
entry n (x ∷ xs) = cond (eqb n x.0) (Some x.1) (entry n xs)

-- what a table of punctuators says of a token
abbrev pub mark_entry : {A : Type 0} → List (ℕ × A) → PlainTokenKind → Option A
mark_entry table (token.Mark m) = entry m table
mark_entry table _ = None
