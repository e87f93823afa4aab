-- Monitored texts and their tokens or refusals, by computation.
use Rattle.std.proofs.Common.{◌≡◌, ℕ, ◌+◌, pos, List, [], ◌∷◌, replicate, None, Result, Ok, Err, codes, refl}
use Rattle.c_syntax.specs.declared.place.Place.{Place}
use Rattle.c_syntax.specs.Tokens.{PlainTokenKind, Word, Number, Chars, Mark, Head, PlainTokens}
use Rattle.c_syntax.specs.Programs.{PlainRefusal}
use Rattle.c_model.specs.MonitoredTokens.{monitored_tokens, build, cut, piece_at, head_at, head_line, word_at, marks, number_at, literal_of, string_at, add, token}

abbrev place : ℕ → ℕ → ℕ → Place
place line column offset = record { line = line; column = column; offset = offset }

-- a text of one line and one token
abbrev sole : PlainTokenKind → List (List ℕ) → ℕ → Result PlainTokens PlainRefusal
sole k names n = Ok (record { list = token (place 1 1 0) k ∷ []; names = names; end = place 1 (n + 1) n })

abbrev refusal : ℕ → Place → List ℕ → Result PlainTokens PlainRefusal
refusal code at word = Err (record { code = code; place = at; construct = word })

-- ---- tokens

tokens_in_order : monitored_tokens (codes " #include <e_acsl.h> \ni8 a;\na<<= 007 ;i8->\"a\\134\\000\"") ≡ Ok (record {
  list =
      token (place 1 2 1) (Head 0 0)
      ∷ token (place 2 1 22) (Word 0) ∷ token (place 2 4 25) (Word 1) ∷ token (place 2 5 26) (Mark 36)
      ∷ token (place 3 1 28) (Word 1) ∷ token (place 3 2 29) (Mark 0) ∷ token (place 3 6 33) (Number (pos 7) None) ∷ token (place 3 10 37) (Mark 36)
      ∷ token (place 3 11 38) (Word 0) ∷ token (place 3 13 40) (Mark 4) ∷ token (place 3 15 42) (Chars (97 ∷ 92 ∷ 0 ∷ []))
      ∷ [];
  names = codes "i8" ∷ codes "a" ∷ [];
  end = place 3 26 53;
})
unfolding monitored_tokens build cut piece_at head_at head_line word_at marks number_at literal_of string_at add
tokens_in_order = refl

no_token : monitored_tokens (codes " \t\n") ≡ Ok (record { list = []; names = []; end = place 2 1 3 })
unfolding monitored_tokens build cut piece_at add
no_token = refl

longest_name : monitored_tokens (replicate 255 95) ≡ sole (Word 0) (replicate 255 95 ∷ []) 255
unfolding monitored_tokens build cut piece_at word_at add
longest_name = refl

greatest_number : monitored_tokens (codes "170141183460469231731687303715884105727") ≡ sole (Number (pos 170141183460469231731687303715884105727) None) [] 39
unfolding monitored_tokens build cut piece_at number_at literal_of add
greatest_number = refl

escape_of_a_letter : monitored_tokens (codes "\"\\101\"") ≡ sole (Chars (codes "A")) [] 6
unfolding monitored_tokens build cut piece_at string_at add
escape_of_a_letter = refl

-- ---- refusals

no_piece : monitored_tokens (codes "a\n  $") ≡ refusal 1 (place 2 3 4) (codes "24")
unfolding monitored_tokens build cut piece_at word_at marks add
no_piece = refl

hash_in_a_line : monitored_tokens (codes "a #include <e_acsl.h>") ≡ refusal 1 (place 1 3 2) (codes "23")
unfolding monitored_tokens build cut piece_at word_at marks add
hash_in_a_line = refl

high_byte : monitored_tokens (175 ∷ []) ≡ refusal 1 (place 1 1 0) (codes "af")
unfolding monitored_tokens build cut piece_at marks
high_byte = refl

long_name : monitored_tokens (replicate 256 95) ≡ refusal 2 (place 1 1 0) (codes "name")
unfolding monitored_tokens build cut piece_at word_at
long_name = refl

number_with_a_letter : monitored_tokens (codes "x 12u") ≡ refusal 2 (place 1 3 2) (codes "number")
unfolding monitored_tokens build cut piece_at word_at number_at literal_of add
number_with_a_letter = refl

great_number : monitored_tokens (codes "170141183460469231731687303715884105728") ≡ refusal 2 (place 1 1 0) (codes "number")
unfolding monitored_tokens build cut piece_at number_at literal_of
great_number = refl

open_string : monitored_tokens (codes "\"ab") ≡ refusal 2 (place 1 1 0) (codes "string")
unfolding monitored_tokens build cut piece_at string_at
open_string = refl

short_escape : monitored_tokens (codes "\"\\12\"") ≡ refusal 2 (place 1 1 0) (codes "string")
unfolding monitored_tokens build cut piece_at string_at
short_escape = refl

great_escape : monitored_tokens (codes "\"\\400\"") ≡ refusal 2 (place 1 1 0) (codes "string")
unfolding monitored_tokens build cut piece_at string_at
great_escape = refl

line_end_in_string : monitored_tokens (codes "\"a\nb\"") ≡ refusal 2 (place 1 1 0) (codes "string")
unfolding monitored_tokens build cut piece_at string_at
line_end_in_string = refl

other_directive : monitored_tokens (codes " #include <e_acsl.h> x") ≡ refusal 2 (place 1 2 1) (codes "directive")
unfolding monitored_tokens build cut piece_at head_at head_line add
other_directive = refl

-- the first fault counts
first_fault : monitored_tokens (codes "$ 1x") ≡ refusal 1 (place 1 1 0) (codes "24")
unfolding monitored_tokens build cut piece_at marks
first_fault = refl
