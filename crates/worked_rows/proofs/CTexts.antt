-- C texts with annotations, and their tokens or refusals, by computation.
use Rattle.std.proofs.Common.{◌≡◌, ℕ, ◌+◌, pos, negsuc, List, [], ◌∷◌, replicate, Some, None, Result, Ok, Err, codes, refl}
use Rattle.c_syntax.specs.declared.place.Place.{Place}
use Rattle.c_syntax.specs.declared.types.CInt.TheVariants.{I32, U32, I64, U64}
use Rattle.c_syntax.specs.Tokens.{PlainTokenKind, Word, Number, Letter, Chars, Mark, AnnotOpen, AnnotClose, PlainToken, PlainTokens}
use Rattle.c_syntax.specs.Programs.{PlainRefusal}
use Rattle.c_model.specs.MonitoredTokens.{marks, token}
use Rattle.c_model.specs.Literals.{digits_at, suffix_of, body_of, literal_of, escape_at, unit_at, letter_of}
use Rattle.c_model.specs.Directives.{is_file, ends_marker, headers, include_fault, directive_fault}
use Rattle.c_model.specs.Pieces.{outside_in_c, outside_in_annotations, backslash_names, is_outside, word_at, number_at, letter_at, string_at, annotation_marks, c_mark_at, mark_at, comment_at, open_block, open_line, other_at, directive_at, piece_at}
use Rattle.c_model.specs.Pieces.{cut}
use Rattle.c_model.specs.CTokens.{add, build, tokens_of}

abbrev place : ℕ → ℕ → ℕ → Place
place line column offset = record { line = line; column = column; offset = offset }

-- tokens of a text of one line, at these columns
abbrev in_one_line : List (ℕ × PlainTokenKind) → List PlainToken
in_one_line [] = []
in_one_line (t ∷ ts) = token (place 1 (t.0 + 1) t.0) t.1 ∷ in_one_line ts

abbrev line_of_tokens : List (ℕ × PlainTokenKind) → List (List ℕ) → ℕ → Result PlainTokens PlainRefusal
line_of_tokens ts names n = Ok (record { list = in_one_line ts; names = names; end = place 1 (n + 1) n })

-- a text of one line and one token
abbrev sole : PlainTokenKind → ℕ → Result PlainTokens PlainRefusal
sole k n = line_of_tokens ((0, k) ∷ []) [] n

abbrev refusal : ℕ → Place → List ℕ → Result PlainTokens PlainRefusal
refusal code at word = Err (record { code = code; place = at; construct = word })

-- ---- integer literals

decimal_int : tokens_of (codes "2147483647") ≡ sole (Number (pos 2147483647) (Some I32)) 10
unfolding tokens_of build cut piece_at add marks digits_at suffix_of body_of literal_of escape_at unit_at letter_of is_file ends_marker headers include_fault directive_fault outside_in_c outside_in_annotations backslash_names is_outside word_at
    number_at letter_at string_at annotation_marks c_mark_at mark_at comment_at open_block open_line other_at directive_at
decimal_int = refl

decimal_long : tokens_of (codes "2147483648") ≡ sole (Number (pos 2147483648) (Some I64)) 10
unfolding tokens_of build cut piece_at add marks digits_at suffix_of body_of literal_of escape_at unit_at letter_of is_file ends_marker headers include_fault directive_fault outside_in_c outside_in_annotations backslash_names is_outside word_at
    number_at letter_at string_at annotation_marks c_mark_at mark_at comment_at open_block open_line other_at directive_at
decimal_long = refl

hexadecimal_unsigned : tokens_of (codes "0xFFFFFFFF") ≡ sole (Number (pos 4294967295) (Some U32)) 10
unfolding tokens_of build cut piece_at add marks digits_at suffix_of body_of literal_of escape_at unit_at letter_of is_file ends_marker headers include_fault directive_fault outside_in_c outside_in_annotations backslash_names is_outside word_at
    number_at letter_at string_at annotation_marks c_mark_at mark_at comment_at open_block open_line other_at directive_at
hexadecimal_unsigned = refl

octal_long : tokens_of (codes "0777777777777LL") ≡ sole (Number (pos 68719476735) (Some I64)) 15
unfolding tokens_of build cut piece_at add marks digits_at suffix_of body_of literal_of escape_at unit_at letter_of is_file ends_marker headers include_fault directive_fault outside_in_c outside_in_annotations backslash_names is_outside word_at
    number_at letter_at string_at annotation_marks c_mark_at mark_at comment_at open_block open_line other_at directive_at
octal_long = refl

unsigned_suffix : tokens_of (codes "7uL") ≡ sole (Number (pos 7) (Some U64)) 3
unfolding tokens_of build cut piece_at add marks digits_at suffix_of body_of literal_of escape_at unit_at letter_of is_file ends_marker headers include_fault directive_fault outside_in_c outside_in_annotations backslash_names is_outside word_at
    number_at letter_at string_at annotation_marks c_mark_at mark_at comment_at open_block open_line other_at directive_at
unsigned_suffix = refl

great_decimal : tokens_of (codes "9223372036854775808") ≡ sole (Number (pos 9223372036854775808) None) 19
unfolding tokens_of build cut piece_at add marks digits_at suffix_of body_of literal_of escape_at unit_at letter_of is_file ends_marker headers include_fault directive_fault outside_in_c outside_in_annotations backslash_names is_outside word_at
    number_at letter_at string_at annotation_marks c_mark_at mark_at comment_at open_block open_line other_at directive_at
great_decimal = refl

great_hexadecimal : tokens_of (codes "0x8000000000000000") ≡ sole (Number (pos 9223372036854775808) (Some U64)) 18
unfolding tokens_of build cut piece_at add marks digits_at suffix_of body_of literal_of escape_at unit_at letter_of is_file ends_marker headers include_fault directive_fault outside_in_c outside_in_annotations backslash_names is_outside word_at
    number_at letter_at string_at annotation_marks c_mark_at mark_at comment_at open_block open_line other_at directive_at
great_hexadecimal = refl

greatest : tokens_of (codes "170141183460469231731687303715884105727") ≡ sole (Number (pos 170141183460469231731687303715884105727) None) 39
unfolding tokens_of build cut piece_at add marks digits_at suffix_of body_of literal_of escape_at unit_at letter_of is_file ends_marker headers include_fault directive_fault outside_in_c outside_in_annotations backslash_names is_outside word_at
    number_at letter_at string_at annotation_marks c_mark_at mark_at comment_at open_block open_line other_at directive_at
greatest = refl

zero_is_octal : tokens_of (codes "0") ≡ sole (Number (pos 0) (Some I32)) 1
unfolding tokens_of build cut piece_at add marks digits_at suffix_of body_of literal_of escape_at unit_at letter_of is_file ends_marker headers include_fault directive_fault outside_in_c outside_in_annotations backslash_names is_outside word_at
    number_at letter_at string_at annotation_marks c_mark_at mark_at comment_at open_block open_line other_at directive_at
zero_is_octal = refl

past_the_greatest : tokens_of (codes "170141183460469231731687303715884105728") ≡ refusal 2 (place 1 1 0) (codes "number")
unfolding tokens_of build cut piece_at add marks digits_at suffix_of body_of literal_of escape_at unit_at letter_of is_file ends_marker headers include_fault directive_fault outside_in_c outside_in_annotations backslash_names is_outside word_at
    number_at letter_at string_at annotation_marks c_mark_at mark_at comment_at open_block open_line other_at directive_at
past_the_greatest = refl

octal_eight : tokens_of (codes "08") ≡ refusal 2 (place 1 1 0) (codes "number")
unfolding tokens_of build cut piece_at add marks digits_at suffix_of body_of literal_of escape_at unit_at letter_of is_file ends_marker headers include_fault directive_fault outside_in_c outside_in_annotations backslash_names is_outside word_at
    number_at letter_at string_at annotation_marks c_mark_at mark_at comment_at open_block open_line other_at directive_at
octal_eight = refl

no_digits : tokens_of (codes "0x") ≡ refusal 2 (place 1 1 0) (codes "number")
unfolding tokens_of build cut piece_at add marks digits_at suffix_of body_of literal_of escape_at unit_at letter_of is_file ends_marker headers include_fault directive_fault outside_in_c outside_in_annotations backslash_names is_outside word_at
    number_at letter_at string_at annotation_marks c_mark_at mark_at comment_at open_block open_line other_at directive_at
no_digits = refl

two_cases : tokens_of (codes "1lL") ≡ refusal 2 (place 1 1 0) (codes "number")
unfolding tokens_of build cut piece_at add marks digits_at suffix_of body_of literal_of escape_at unit_at letter_of is_file ends_marker headers include_fault directive_fault outside_in_c outside_in_annotations backslash_names is_outside word_at
    number_at letter_at string_at annotation_marks c_mark_at mark_at comment_at open_block open_line other_at directive_at
two_cases = refl

point : tokens_of (codes "1.") ≡ refusal 2 (place 1 1 0) (codes "number")
unfolding tokens_of build cut piece_at add marks digits_at suffix_of body_of literal_of escape_at unit_at letter_of is_file ends_marker headers include_fault directive_fault outside_in_c outside_in_annotations backslash_names is_outside word_at
    number_at letter_at string_at annotation_marks c_mark_at mark_at comment_at open_block open_line other_at directive_at
point = refl

range_in_c : tokens_of (codes "0..1") ≡ refusal 2 (place 1 1 0) (codes "number")
unfolding tokens_of build cut piece_at add marks digits_at suffix_of body_of literal_of escape_at unit_at letter_of is_file ends_marker headers include_fault directive_fault outside_in_c outside_in_annotations backslash_names is_outside word_at
    number_at letter_at string_at annotation_marks c_mark_at mark_at comment_at open_block open_line other_at directive_at
range_in_c = refl

letter_behind : tokens_of (codes "12x") ≡ refusal 2 (place 1 1 0) (codes "number")
unfolding tokens_of build cut piece_at add marks digits_at suffix_of body_of literal_of escape_at unit_at letter_of is_file ends_marker headers include_fault directive_fault outside_in_c outside_in_annotations backslash_names is_outside word_at
    number_at letter_at string_at annotation_marks c_mark_at mark_at comment_at open_block open_line other_at directive_at
letter_behind = refl

-- ---- characters and strings

plain_letter : tokens_of (codes "'A'") ≡ sole (Letter (pos 65)) 3
unfolding tokens_of build cut piece_at add marks digits_at suffix_of body_of literal_of escape_at unit_at letter_of is_file ends_marker headers include_fault directive_fault outside_in_c outside_in_annotations backslash_names is_outside word_at
    number_at letter_at string_at annotation_marks c_mark_at mark_at comment_at open_block open_line other_at directive_at
plain_letter = refl

octal_escape : tokens_of (codes "'\\377'") ≡ sole (Letter (negsuc 0)) 6
unfolding tokens_of build cut piece_at add marks digits_at suffix_of body_of literal_of escape_at unit_at letter_of is_file ends_marker headers include_fault directive_fault outside_in_c outside_in_annotations backslash_names is_outside word_at
    number_at letter_at string_at annotation_marks c_mark_at mark_at comment_at open_block open_line other_at directive_at
octal_escape = refl

hexadecimal_escape : tokens_of (codes "'\\x0000080'") ≡ sole (Letter (negsuc 127)) 11
unfolding tokens_of build cut piece_at add marks digits_at suffix_of body_of literal_of escape_at unit_at letter_of is_file ends_marker headers include_fault directive_fault outside_in_c outside_in_annotations backslash_names is_outside word_at
    number_at letter_at string_at annotation_marks c_mark_at mark_at comment_at open_block open_line other_at directive_at
hexadecimal_escape = refl

quote_escape : tokens_of (codes "'\\''") ≡ sole (Letter (pos 39)) 4
unfolding tokens_of build cut piece_at add marks digits_at suffix_of body_of literal_of escape_at unit_at letter_of is_file ends_marker headers include_fault directive_fault outside_in_c outside_in_annotations backslash_names is_outside word_at
    number_at letter_at string_at annotation_marks c_mark_at mark_at comment_at open_block open_line other_at directive_at
quote_escape = refl

empty_letter : tokens_of (codes "''") ≡ refusal 2 (place 1 1 0) (codes "character")
unfolding tokens_of build cut piece_at add marks digits_at suffix_of body_of literal_of escape_at unit_at letter_of is_file ends_marker headers include_fault directive_fault outside_in_c outside_in_annotations backslash_names is_outside word_at
    number_at letter_at string_at annotation_marks c_mark_at mark_at comment_at open_block open_line other_at directive_at
empty_letter = refl

great_octal : tokens_of (codes "'\\400'") ≡ refusal 2 (place 1 1 0) (codes "character")
unfolding tokens_of build cut piece_at add marks digits_at suffix_of body_of literal_of escape_at unit_at letter_of is_file ends_marker headers include_fault directive_fault outside_in_c outside_in_annotations backslash_names is_outside word_at
    number_at letter_at string_at annotation_marks c_mark_at mark_at comment_at open_block open_line other_at directive_at
great_octal = refl

no_hexadecimal : tokens_of (codes "'\\x'") ≡ refusal 2 (place 1 1 0) (codes "character")
unfolding tokens_of build cut piece_at add marks digits_at suffix_of body_of literal_of escape_at unit_at letter_of is_file ends_marker headers include_fault directive_fault outside_in_c outside_in_annotations backslash_names is_outside word_at
    number_at letter_at string_at annotation_marks c_mark_at mark_at comment_at open_block open_line other_at directive_at
no_hexadecimal = refl

two_letters : tokens_of (codes "'ab'") ≡ refusal 2 (place 1 1 0) (codes "character")
unfolding tokens_of build cut piece_at add marks digits_at suffix_of body_of literal_of escape_at unit_at letter_of is_file ends_marker headers include_fault directive_fault outside_in_c outside_in_annotations backslash_names is_outside word_at
    number_at letter_at string_at annotation_marks c_mark_at mark_at comment_at open_block open_line other_at directive_at
two_letters = refl

unknown_escape : tokens_of (codes "'\\d'") ≡ refusal 2 (place 1 1 0) (codes "character")
unfolding tokens_of build cut piece_at add marks digits_at suffix_of body_of literal_of escape_at unit_at letter_of is_file ends_marker headers include_fault directive_fault outside_in_c outside_in_annotations backslash_names is_outside word_at
    number_at letter_at string_at annotation_marks c_mark_at mark_at comment_at open_block open_line other_at directive_at
unknown_escape = refl

line_end_in_letter : tokens_of (codes "'\n'") ≡ refusal 2 (place 1 1 0) (codes "character")
unfolding tokens_of build cut piece_at add marks digits_at suffix_of body_of literal_of escape_at unit_at letter_of is_file ends_marker headers include_fault directive_fault outside_in_c outside_in_annotations backslash_names is_outside word_at
    number_at letter_at string_at annotation_marks c_mark_at mark_at comment_at open_block open_line other_at directive_at
line_end_in_letter = refl

joined_strings : tokens_of (codes "\"a\\1014\" /* c */ \"\\x41\"") ≡ sole (Chars (codes "aA4A")) 23
unfolding tokens_of build cut piece_at add marks digits_at suffix_of body_of literal_of escape_at unit_at letter_of is_file ends_marker headers include_fault directive_fault outside_in_c outside_in_annotations backslash_names is_outside word_at
    number_at letter_at string_at annotation_marks c_mark_at mark_at comment_at open_block open_line other_at directive_at
joined_strings = refl

string_over_a_line : tokens_of (codes "\"a\nb\"") ≡ refusal 2 (place 1 1 0) (codes "string")
unfolding tokens_of build cut piece_at add marks digits_at suffix_of body_of literal_of escape_at unit_at letter_of is_file ends_marker headers include_fault directive_fault outside_in_c outside_in_annotations backslash_names is_outside word_at
    number_at letter_at string_at annotation_marks c_mark_at mark_at comment_at open_block open_line other_at directive_at
string_over_a_line = refl

-- ---- names and operators

shift_and_assign : tokens_of (codes "a<<=b") ≡ line_of_tokens ((0, Word 0) ∷ (1, Mark 0) ∷ (4, Word 1) ∷ []) (codes "a" ∷ codes "b" ∷ []) 5
unfolding tokens_of build cut piece_at add marks digits_at suffix_of body_of literal_of escape_at unit_at letter_of is_file ends_marker headers include_fault directive_fault outside_in_c outside_in_annotations backslash_names is_outside word_at
    number_at letter_at string_at annotation_marks c_mark_at mark_at comment_at open_block open_line other_at directive_at
shift_and_assign = refl

equivalence_in_c : tokens_of (codes "<==>") ≡ line_of_tokens ((0, Mark 7) ∷ (2, Mark 28) ∷ (3, Mark 27) ∷ []) [] 4
unfolding tokens_of build cut piece_at add marks digits_at suffix_of body_of literal_of escape_at unit_at letter_of is_file ends_marker headers include_fault directive_fault outside_in_c outside_in_annotations backslash_names is_outside word_at
    number_at letter_at string_at annotation_marks c_mark_at mark_at comment_at open_block open_line other_at directive_at
equivalence_in_c = refl

long_name : tokens_of (replicate 256 95) ≡ refusal 2 (place 1 1 0) (codes "name")
unfolding tokens_of build cut piece_at add marks digits_at suffix_of body_of literal_of escape_at unit_at letter_of is_file ends_marker headers include_fault directive_fault outside_in_c outside_in_annotations backslash_names is_outside word_at
    number_at letter_at string_at annotation_marks c_mark_at mark_at comment_at open_block open_line other_at directive_at
long_name = refl

outside_word : tokens_of (codes "x float") ≡ refusal 3 (place 1 3 2) (codes "float")
unfolding tokens_of build cut piece_at add marks digits_at suffix_of body_of literal_of escape_at unit_at letter_of is_file ends_marker headers include_fault directive_fault outside_in_c outside_in_annotations backslash_names is_outside word_at
    number_at letter_at string_at annotation_marks c_mark_at mark_at comment_at open_block open_line other_at directive_at
outside_word = refl

reserved_name : tokens_of (codes "__e_acsl_x") ≡ refusal 3 (place 1 1 0) (codes "__e_acsl_x")
unfolding tokens_of build cut piece_at add marks digits_at suffix_of body_of literal_of escape_at unit_at letter_of is_file ends_marker headers include_fault directive_fault outside_in_c outside_in_annotations backslash_names is_outside word_at
    number_at letter_at string_at annotation_marks c_mark_at mark_at comment_at open_block open_line other_at directive_at
reserved_name = refl

at_in_c : tokens_of (codes "a @") ≡ refusal 1 (place 1 3 2) (codes "40")
unfolding tokens_of build cut piece_at add marks digits_at suffix_of body_of literal_of escape_at unit_at letter_of is_file ends_marker headers include_fault directive_fault outside_in_c outside_in_annotations backslash_names is_outside word_at
    number_at letter_at string_at annotation_marks c_mark_at mark_at comment_at open_block open_line other_at directive_at
at_in_c = refl

backslash_in_c : tokens_of (codes "\\true") ≡ refusal 1 (place 1 1 0) (codes "5c")
unfolding tokens_of build cut piece_at add marks digits_at suffix_of body_of literal_of escape_at unit_at letter_of is_file ends_marker headers include_fault directive_fault outside_in_c outside_in_annotations backslash_names is_outside word_at
    number_at letter_at string_at annotation_marks c_mark_at mark_at comment_at open_block open_line other_at directive_at
backslash_in_c = refl

-- ---- annotations

block_annotation : tokens_of (codes "/*@ @ 0..n<==>float//x*/y") ≡ line_of_tokens ((0, AnnotOpen) ∷ (6, Number (pos 0) (Some I32)) ∷ (7, Mark 48) ∷ (9, Word 0) ∷ (10, Mark 45) ∷ (14, Word 1) ∷ (22, AnnotClose) ∷ (24, Word 2) ∷ [])
    (codes "n" ∷ codes "float" ∷ codes "y" ∷ []) 25
unfolding tokens_of build cut piece_at add marks digits_at suffix_of body_of literal_of escape_at unit_at letter_of is_file ends_marker headers include_fault directive_fault outside_in_c outside_in_annotations backslash_names is_outside word_at
    number_at letter_at string_at annotation_marks c_mark_at mark_at comment_at open_block open_line other_at directive_at
block_annotation = refl

line_annotation : tokens_of (codes "//@ \\true^^/* // x\n;") ≡ Ok (record {
  list = token (place 1 1 0) AnnotOpen ∷ token (place 1 5 4) (Word 0) ∷ token (place 1 10 9) (Mark 47) ∷ token (place 1 12 11) (Mark 24) ∷ token (place 1 13 12)
      (Mark 23) ∷ token (place 1 19 18) AnnotClose ∷ token (place 2 1 19) (Mark 36) ∷ [];
  names = codes "\\true" ∷ [];
  end = place 2 2 20;
})
unfolding tokens_of build cut piece_at add marks digits_at suffix_of body_of literal_of escape_at unit_at letter_of is_file ends_marker headers include_fault directive_fault outside_in_c outside_in_annotations backslash_names is_outside word_at
    number_at letter_at string_at annotation_marks c_mark_at mark_at comment_at open_block open_line other_at directive_at
line_annotation = refl

line_annotation_at_the_end : tokens_of (codes "//@ x") ≡ line_of_tokens ((0, AnnotOpen) ∷ (4, Word 0) ∷ (5, AnnotClose) ∷ []) (codes "x" ∷ []) 5
unfolding tokens_of build cut piece_at add marks digits_at suffix_of body_of literal_of escape_at unit_at letter_of is_file ends_marker headers include_fault directive_fault outside_in_c outside_in_annotations backslash_names is_outside word_at
    number_at letter_at string_at annotation_marks c_mark_at mark_at comment_at open_block open_line other_at directive_at
line_annotation_at_the_end = refl

annotations_without_a_token : tokens_of (codes "/*@ @ // a\n @*/ //@ @ // b") ≡ Ok (record { list = []; names = []; end = place 2 16 26 })
unfolding tokens_of build cut piece_at add marks digits_at suffix_of body_of literal_of escape_at unit_at letter_of is_file ends_marker headers include_fault directive_fault outside_in_c outside_in_annotations backslash_names is_outside word_at
    number_at letter_at string_at annotation_marks c_mark_at mark_at comment_at open_block open_line other_at directive_at
annotations_without_a_token = refl

string_at_the_end_of_an_annotation : tokens_of (codes "/*@ \"*/\"") ≡ refusal 2 (place 1 5 4) (codes "string")
unfolding tokens_of build cut piece_at add marks digits_at suffix_of body_of literal_of escape_at unit_at letter_of is_file ends_marker headers include_fault directive_fault outside_in_c outside_in_annotations backslash_names is_outside word_at
    number_at letter_at string_at annotation_marks c_mark_at mark_at comment_at open_block open_line other_at directive_at
string_at_the_end_of_an_annotation = refl

open_annotation : tokens_of (codes "; /*@ x") ≡ refusal 2 (place 1 3 2) (codes "comment")
unfolding tokens_of build cut piece_at add marks digits_at suffix_of body_of literal_of escape_at unit_at letter_of is_file ends_marker headers include_fault directive_fault outside_in_c outside_in_annotations backslash_names is_outside word_at
    number_at letter_at string_at annotation_marks c_mark_at mark_at comment_at open_block open_line other_at directive_at
open_annotation = refl

open_comment : tokens_of (codes "/* x *") ≡ refusal 2 (place 1 1 0) (codes "comment")
unfolding tokens_of build cut piece_at add marks digits_at suffix_of body_of literal_of escape_at unit_at letter_of is_file ends_marker headers include_fault directive_fault outside_in_c outside_in_annotations backslash_names is_outside word_at
    number_at letter_at string_at annotation_marks c_mark_at mark_at comment_at open_block open_line other_at directive_at
open_comment = refl

first_end_of_a_comment : tokens_of (codes "/* x */*/ y */") ≡ line_of_tokens ((7, Mark 23) ∷ (8, Mark 24) ∷ (10, Word 0) ∷ (12, Mark 23) ∷ (13, Mark 24) ∷ []) (codes "y" ∷ []) 14
unfolding tokens_of build cut piece_at add marks digits_at suffix_of body_of literal_of escape_at unit_at letter_of is_file ends_marker headers include_fault directive_fault outside_in_c outside_in_annotations backslash_names is_outside word_at
    number_at letter_at string_at annotation_marks c_mark_at mark_at comment_at open_block open_line other_at directive_at
first_end_of_a_comment = refl

outside_word_of_annotations : tokens_of (codes "//@ ghost") ≡ refusal 3 (place 1 5 4) (codes "ghost")
unfolding tokens_of build cut piece_at add marks digits_at suffix_of body_of literal_of escape_at unit_at letter_of is_file ends_marker headers include_fault directive_fault outside_in_c outside_in_annotations backslash_names is_outside word_at
    number_at letter_at string_at annotation_marks c_mark_at mark_at comment_at open_block open_line other_at directive_at
outside_word_of_annotations = refl

unknown_backslash_name : tokens_of (codes "//@ \\lambda x") ≡ refusal 3 (place 1 5 4) (codes "\\lambda")
unfolding tokens_of build cut piece_at add marks digits_at suffix_of body_of literal_of escape_at unit_at letter_of is_file ends_marker headers include_fault directive_fault outside_in_c outside_in_annotations backslash_names is_outside word_at
    number_at letter_at string_at annotation_marks c_mark_at mark_at comment_at open_block open_line other_at directive_at
unknown_backslash_name = refl

backslash_alone : tokens_of (codes "//@ \\ x") ≡ refusal 1 (place 1 5 4) (codes "5c")
unfolding tokens_of build cut piece_at add marks digits_at suffix_of body_of literal_of escape_at unit_at letter_of is_file ends_marker headers include_fault directive_fault outside_in_c outside_in_annotations backslash_names is_outside word_at
    number_at letter_at string_at annotation_marks c_mark_at mark_at comment_at open_block open_line other_at directive_at
backslash_alone = refl

directive_in_an_annotation : tokens_of (codes "/*@ x\n# 1 */") ≡ refusal 1 (place 2 1 6) (codes "23")
unfolding tokens_of build cut piece_at add marks digits_at suffix_of body_of literal_of escape_at unit_at letter_of is_file ends_marker headers include_fault directive_fault outside_in_c outside_in_annotations backslash_names is_outside word_at
    number_at letter_at string_at annotation_marks c_mark_at mark_at comment_at open_block open_line other_at directive_at
directive_in_an_annotation = refl

-- ---- directives

blank_directives : tokens_of (codes " # \n# 1 \"a.c\" 3 4\n#line 7\n#include<stdio.h> \n # include <limits.h>") ≡ Ok (record { list = []; names = []; end = place 5 22 66 })
unfolding tokens_of build cut piece_at add marks digits_at suffix_of body_of literal_of escape_at unit_at letter_of is_file ends_marker headers include_fault directive_fault outside_in_c outside_in_annotations backslash_names is_outside word_at
    number_at letter_at string_at annotation_marks c_mark_at mark_at comment_at open_block open_line other_at directive_at
blank_directives = refl

other_header : tokens_of (codes "#include <string.h>") ≡ refusal 3 (place 1 1 0) (codes "#include")
unfolding tokens_of build cut piece_at add marks digits_at suffix_of body_of literal_of escape_at unit_at letter_of is_file ends_marker headers include_fault directive_fault outside_in_c outside_in_annotations backslash_names is_outside word_at
    number_at letter_at string_at annotation_marks c_mark_at mark_at comment_at open_block open_line other_at directive_at
other_header = refl

quoted_header : tokens_of (codes "#include \"stdio.h\"") ≡ refusal 3 (place 1 1 0) (codes "#include")
unfolding tokens_of build cut piece_at add marks digits_at suffix_of body_of literal_of escape_at unit_at letter_of is_file ends_marker headers include_fault directive_fault outside_in_c outside_in_annotations backslash_names is_outside word_at
    number_at letter_at string_at annotation_marks c_mark_at mark_at comment_at open_block open_line other_at directive_at
quoted_header = refl

broken_include : tokens_of (codes "#include <stdio.h> // x") ≡ refusal 2 (place 1 1 0) (codes "directive")
unfolding tokens_of build cut piece_at add marks digits_at suffix_of body_of literal_of escape_at unit_at letter_of is_file ends_marker headers include_fault directive_fault outside_in_c outside_in_annotations backslash_names is_outside word_at
    number_at letter_at string_at annotation_marks c_mark_at mark_at comment_at open_block open_line other_at directive_at
broken_include = refl

broken_marker : tokens_of (codes "#line x") ≡ refusal 2 (place 1 1 0) (codes "directive")
unfolding tokens_of build cut piece_at add marks digits_at suffix_of body_of literal_of escape_at unit_at letter_of is_file ends_marker headers include_fault directive_fault outside_in_c outside_in_annotations backslash_names is_outside word_at
    number_at letter_at string_at annotation_marks c_mark_at mark_at comment_at open_block open_line other_at directive_at
broken_marker = refl

other_directive : tokens_of (codes "a;\n # define X") ≡ refusal 3 (place 2 2 4) (codes "#define")
unfolding tokens_of build cut piece_at add marks digits_at suffix_of body_of literal_of escape_at unit_at letter_of is_file ends_marker headers include_fault directive_fault outside_in_c outside_in_annotations backslash_names is_outside word_at
    number_at letter_at string_at annotation_marks c_mark_at mark_at comment_at open_block open_line other_at directive_at
other_directive = refl

directive_without_a_name : tokens_of (codes "# \"x\"") ≡ refusal 3 (place 1 1 0) (codes "#")
unfolding tokens_of build cut piece_at add marks digits_at suffix_of body_of literal_of escape_at unit_at letter_of is_file ends_marker headers include_fault directive_fault outside_in_c outside_in_annotations backslash_names is_outside word_at
    number_at letter_at string_at annotation_marks c_mark_at mark_at comment_at open_block open_line other_at directive_at
directive_without_a_name = refl

hash_in_a_line : tokens_of (codes "a # define") ≡ refusal 1 (place 1 3 2) (codes "23")
unfolding tokens_of build cut piece_at add marks digits_at suffix_of body_of literal_of escape_at unit_at letter_of is_file ends_marker headers include_fault directive_fault outside_in_c outside_in_annotations backslash_names is_outside word_at
    number_at letter_at string_at annotation_marks c_mark_at mark_at comment_at open_block open_line other_at directive_at
hash_in_a_line = refl
