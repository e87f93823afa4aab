-- Ours: laws of mon_syntax/specs/Checking.
-- A tree without a fault spells a valid program.
use Rattle.std.specs.Prelude.{◌≡◌, ℕ, ◌≤◌, List, length, map, None, Ok, true}
use Rattle.std.specs.List.{AllByRecursion}
use Rattle.c_syntax.specs.Tokens.{PlainTokens}
use Rattle.c_model.specs.Characters.{is_part}
use Rattle.c_model.specs.MonitoredTokens.{monitored_tokens}
use Rattle.c_model.specs.MonitoredTokenLaws.{AreDistinct}
use Rattle.mon_syntax.specs.Names.{begins_name}
use Rattle.mon_syntax.specs.Trees.{MonitoredProgram}
use Rattle.mon_syntax.specs.Parsed.{ParsedProgram}
use Rattle.mon_syntax.specs.Words.{word_of}
use Rattle.mon_syntax.specs.Checking.{checked_program}
use Rattle.mon_syntax.specs.Spelled.{last_refusal}
use Rattle.mon_syntax.specs.Valid.{IsValid}
use Rattle.mon_typing.specs.Within.{IsProgramWithin}

-- a word of at most 255 bytes: a letter or `_`, and then letters, digits and `_`
pub record IsWord (w : List ℕ) : Type 0 where
  pub begins : begins_name w ≡ true
  pub parts : AllByRecursion (λ b. is_part b ≡ true) w
  pub short : length w ≤ 255

-- the names of a text
pub record AreNames (names : List (List ℕ)) : Type 0 where
  pub words : AllByRecursion IsWord names
  pub distinct : AreDistinct names

abbrev pub CheckedIsValid : Type 0
CheckedIsValid = (names : List (List ℕ)) (p : ParsedProgram) (m : MonitoredProgram) → AreNames names → IsProgramWithin (map word_of names) (length names) p
    → checked_program names (map word_of names) p ≡ Ok m → last_refusal names p ≡ None → IsValid m

-- the names of a text's tokens are such names
abbrev pub TokensHaveNames : Type 0
TokensHaveNames = (text : List ℕ) (tokens : PlainTokens) → monitored_tokens text ≡ Ok tokens → AreNames tokens.names
