-- Ours: the codes of refusals, as they stand after `E` in a report.
use Rattle.std.specs.Prelude.{ℕ}

-- a byte that begins no token
abbrev pub byte_code : ℕ
byte_code = 1

-- a broken token: an unclosed comment, a literal, a name or a directive of no right form
abbrev pub token_code : ℕ
token_code = 2

-- a word or directive that is outside the profile
abbrev pub profile_code : ℕ
profile_code = 3

-- a token that can't follow those before it
abbrev pub grammar_code : ℕ
grammar_code = 4

-- a name without a fitting declaration
abbrev pub name_code : ℕ
name_code = 5

-- a demand on types that isn't met
abbrev pub type_code : ℕ
type_code = 6

-- an annotation where none of its kind may stand
abbrev pub misplaced_code : ℕ
misplaced_code = 7

-- a quantifier without a guard
abbrev pub guard_code : ℕ
guard_code = 8

-- a label that isn't known, or what may not stand under one
abbrev pub label_code : ℕ
label_code = 9

-- a term whose values may pass signed 128 bits
abbrev pub range_code : ℕ
range_code = 10

-- a limit that is passed
abbrev pub limit_code : ℕ
limit_code = 11

-- globals that take more than their segment
abbrev pub globals_code : ℕ
globals_code = 12

-- no `main`, or one of another form
abbrev pub main_code : ℕ
main_code = 13
