-- A number of steps as the standard library reads it.
use Rattle.std.proofs.Common.{◌≡◌, ◌≢◌, ℕ, ◌<◌, ◌≤◌, ◌^◌, nat_le, Bool, true, false, List, [], ◌∷◌, length, Some, None, Result, Ok, Err, get_or, refl, arith, if◌then◌else◌}
use Rattle.std.proofs.Common.{lit<}
use Rattle.std.specs.Str.{all_ascii_digits}
use Rattle.std.specs.Str.Parse.{digits_value, ParsesUnsigned}
use Rattle.std.specs.Result.{OkIff, result_ok}
use Rattle.std.specs.Str.Pattern.{FindsCharPrefix}
use Rattle.std.specs.Bool.{MatchBool}
use Rattle.std.specs.Str.{IsCharBoundary}
use Rattle.std.proofs.lemmas.Str.Pattern.{starts_char}
use Rattle.std.proofs.lemmas.Bool.{leb-true, le-leb}
use Rattle.std.proofs.lemmas.Str.Parse.{parse_plain}
use Rattle.c_model.specs.Words.{◌>>=◌, step_number}
use Rattle.c_model.proofs.CommandLine.{own, within, number_ok}

number_err : (text : List ℕ) (digits small : Bool) → all_ascii_digits text ≡ digits → nat_le (digits_value 10 text) 1000000000000 ≡ small → ¬ ((all_ascii_digits text ≡ true) × (0 < length text) × (digits_value 10 text < 2 ^ 64))
    → step_number text ≡ None
number_err [] digits small d s lacks = refl
number_err (c ∷ text) false small d s lacks = rw d refl
number_err (c ∷ text) true false d s lacks = rw (d, s) refl
number_err (c ∷ text) true true d s lacks = absurd (lacks (d, omega arith, within _ (leb-true _ _ s)))

parsed : {E : Type 0} (text : List ℕ) (r : Result ℕ E) → OkIff r ((all_ascii_digits text ≡ true) × (0 < length text) × (digits_value 10 text < 2 ^ 64)) (digits_value 10 text)
    → step_number text ≡ (result_ok r >>= λ n. if nat_le n 1000000000000 then Some n else None)
parsed text (Ok n) ((digits, some, fits), is) = number_ok text n digits some is
parsed text (Err e) lacks = number_err text _ _ refl refl lacks

-- `parse` at a text that doesn't begin with `+`
step_number-parse : {E : Type 0} (text : List ℕ) (r : Result ℕ E) → ParsesUnsigned 64 10 text r → get_or text 0 0 ≢ 43 → step_number text ≡ (result_ok r >>= λ n. if nat_le n 1000000000000 then Some n else None)
step_number-parse text r parses plain = parsed text r (parse_plain own 64 text r parses plain)

pub step_number-none : {E : Type 0} (text : List ℕ) (r : Result ℕ E) → ParsesUnsigned 64 10 text r → get_or text 0 0 ≢ 43 → result_ok r ≡ None → step_number text ≡ None
step_number-none text r parses plain e = rw e at (step_number-parse text r parses plain)

pub step_number-some : {E : Type 0} (text : List ℕ) (r : Result ℕ E) (n : ℕ) → ParsesUnsigned 64 10 text r → get_or text 0 0 ≢ 43 → result_ok r ≡ Some n → n ≤ 1000000000000 → step_number text ≡ Some n
step_number-some text r n parses plain e small = rw (e, le-leb n 1000000000000 small) at (step_number-parse text r parses plain)

-- `starts_with` at `+` is false
pub not_plus : (text : List ℕ) → MatchBool false ((n : ℕ) × FindsCharPrefix 43 text (Some n) × IsCharBoundary text n) (FindsCharPrefix 43 text None) → get_or text 0 0 ≢ 43
not_plus text cases plus = let e : false ≡ true = (starts_char 43 text false cases (lit< tt) (lit< tt)).1 plus in cc
