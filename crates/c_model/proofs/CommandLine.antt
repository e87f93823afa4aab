-- Numbers of a command line.
use Rattle.std.proofs.Common.{◌≡◌, ℕ, ◌<◌, ◌≤◌, ◌^◌, nat_le, true, List, [], ◌∷◌, length, Some, None, refl, arith, if◌then◌else◌}
use Rattle.std.specs.Str.{all_ascii_digits}
use Rattle.std.specs.Str.Parse.{digits_value}
use Rattle.std.proofs.lemmas.Str.Parse.{IsNumeralModel, numerals_by_value, tells_all_ascii_digits}
use Rattle.c_model.specs.Words.{step_number}

pub own : IsNumeralModel (λ text. all_ascii_digits text ≡ true) (digits_value 10)
own = numerals_by_value (λ text. all_ascii_digits text ≡ true) tells_all_ascii_digits

pub within : (n : ℕ) → n ≤ 1000000000000 → n < 2 ^ 64
within n small = omega arith

pub number_ok : (text : List ℕ) (n : ℕ) → all_ascii_digits text ≡ true → 0 < length text → n ≡ digits_value 10 text → step_number text ≡ (if nat_le n 1000000000000 then Some n else None)
number_ok [] n digits some is = absurd (omega arith)
number_ok (c ∷ text) n digits some is = rw (digits, ← is) refl
