-- Directives (C99 6.10): a line whose first byte after blanks is `#`. There is no preprocessor: a null directive, a line marker and
-- the `#include` of four headers are blank lines (this profile).
use Rattle.std.specs.Prelude.{ℕ, suc, List, [], ◌∷◌, length, take, drop, Option, Some, None, Bool, true, false, not, ◌||◌, ◌&&◌, nat_lt, nat_eq, if◌then◌else◌}
use Rattle.std.specs.Prelude.{codes, bytes_eq}
use Rattle.std.specs.List.{prefix_len, list_all, list_any}
use Rattle.c_model.specs.declared.c_tokens.Mode.TheVariants.{Code}
use Rattle.c_model.specs.declared.c_tokens.Fault.{Fault}
use Rattle.c_model.specs.declared.c_tokens.Fault.TheVariants as fault
use Rattle.c_model.specs.Characters.{is_blank, is_digit, is_part}
use Rattle.c_model.specs.Comments.{in_line}
use Rattle.c_model.specs.Literals.{string_len}

-- ---- parts of lines

abbrev pub past_blanks : List ℕ → List ℕ
past_blanks bs = drop (prefix_len is_blank bs) bs

-- the letters, digits and `_` at the front
abbrev pub front_word : List ℕ → List ℕ
front_word bs = take (prefix_len is_part bs) bs

-- what is after these, and after blanks
abbrev pub past_word : List ℕ → List ℕ
past_word bs = past_blanks (drop (prefix_len is_part bs) bs)

-- the line after a `#`, without the blanks at its front
abbrev pub directive_line : List ℕ → List ℕ
directive_line bs = past_blanks (take (prefix_len in_line bs) bs)

-- ---- line markers (6.10.4)

-- a file's name in quotes, and after it digits and blanks alone; or nothing at all
unfoldable pub is_file : List ℕ → Bool
is_file [] = true
is_file (b ∷ bs) = nat_eq b 34 && elim (string_len Code 0 bs) [ None ↦ false | Some n ↦ list_all (λ c. is_blank c || is_digit c) (drop n bs) ]

-- what may stand after a marker's number
unfoldable pub ends_marker : List ℕ → Bool
ends_marker [] = true
ends_marker (b ∷ bs) = is_blank b && is_file (past_blanks bs)

abbrev pub is_marker : List ℕ → Bool
is_marker bs = nat_lt 0 (prefix_len is_digit bs) && ends_marker (drop (prefix_len is_digit bs) bs)

-- ---- headers (6.10.2)

unfoldable pub headers : List (List ℕ)
headers = codes "stdio.h" ∷ codes "stdlib.h" ∷ codes "stddef.h" ∷ codes "limits.h" ∷ []

-- how many bytes stand before the first byte c
abbrev pub len_before : ℕ → List ℕ → ℕ
len_before c bs = prefix_len (λ b. not (nat_eq b c)) bs

-- there is a byte c, and only blanks are after the first
abbrev pub is_closed : ℕ → List ℕ → Bool
is_closed c bs = nat_lt (len_before c bs) (length bs) && list_all is_blank (drop (suc (len_before c bs)) bs)

-- what is wrong with `#include`, given what is after the word: nothing for `<` and one of the headers and `>`
unfoldable pub include_fault : List ℕ → Option Fault
include_fault [] = Some fault.Directive
include_fault (b ∷ bs) =
    if nat_eq b 60 && is_closed 62 bs
    then (if list_any (bytes_eq (take (len_before 62 bs) bs)) headers then None else Some fault.OutsideDirective)
    else (if nat_eq b 34 && is_closed 34 bs then Some fault.OutsideDirective else Some fault.Directive)

-- ---- all directives

-- what is wrong with a directive, given its line
unfoldable pub directive_fault : List ℕ → Option Fault
directive_fault [] = None
directive_fault (b ∷ bs) =
    if is_digit b then (if is_marker (b ∷ bs) then None else Some fault.Directive)
    else (if bytes_eq (front_word (b ∷ bs)) (codes "line") then (if is_marker (past_word (b ∷ bs)) then None else Some fault.Directive)
    else (if bytes_eq (front_word (b ∷ bs)) (codes "include") then include_fault (past_word (b ∷ bs))
    else Some fault.OutsideDirective))
