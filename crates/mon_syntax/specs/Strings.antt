-- C99 7.1.1: a string goes up to the first 0.
-- What is known of the string at a place whose bytes are told one by one, and of two such strings.
use Rattle.std.specs.Prelude.{◌≡◌, ℕ, ◌<◌, Bool, true, false, List, length, get_or, Option, Some, None, if◌then◌else◌}
use Rattle.c_model.specs.Reports.{Extends}
pub use Rattle.c_model.specs.Strings.{byte_before, string_from}

-- bytes that are no 0, and then a 0 or none, whatever the number that were looked for
pub record IsString (byte : ℕ → Option ℕ) (string : List ℕ × Bool) : Type 0 where
  pub bytes : (i : ℕ) → i < length string.0 → (byte i ≡ Some (get_or string.0 i 0)) × (0 < get_or string.0 i 0)
  pub end : byte (length string.0) ≡ (if string.1 then Some 0 else None)

-- where the first string ends the second is the same; else it goes on from what the first has
abbrev pub GoesWith : Bool → List ℕ → List ℕ × Bool → Type 0
GoesWith true bytes other = other ≡ (bytes, true)
GoesWith false bytes other = Extends bytes other.0
