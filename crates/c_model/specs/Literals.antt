-- Integer literals (C99 6.4.4.1), character literals (6.4.4.4) and string literals (6.4.5).
use Rattle.std.specs.Prelude.{ℕ, zero, suc, ◌+◌, ◌-◌, ℤ, pos, negsuc, List, [], ◌∷◌, take, drop, Option, Some, None, option_map, Bool, true, false, ◌||◌, ◌&&◌}
use Rattle.std.specs.Prelude.{nat_le, nat_lt, nat_eq, if◌then◌else◌, codes}
use Rattle.std.specs.List.{prefix_len}
use Rattle.std.specs.Char.{digit_value}
use Rattle.std.specs.Str.Parse.{digits_value}
use Rattle.c_syntax.specs.declared.types.CInt.{CInt}
use Rattle.c_syntax.specs.declared.types.CInt.TheVariants.{I32, U32, I64, U64}
use Rattle.c_model.specs.declared.c_tokens.Mode.{Mode}
use Rattle.c_model.specs.Characters.{begins_with}
use Rattle.c_model.specs.Integers.{fits}
use Rattle.c_model.specs.MonitoredTokens.{greatest_literal, is_octal}
use Rattle.c_model.specs.Words.{◌>>=◌}
use Rattle.c_model.specs.Comments.{ends_block}

-- ---- digits

-- a digit of a number in this base, in lower or upper case
abbrev pub is_digit_of : ℕ → ℕ → Bool
is_digit_of base b = nat_lt (digit_value b) base

-- how many digits of the base stand at the front
abbrev pub digits_len : ℕ → List ℕ → ℕ
digits_len base bs = prefix_len (is_digit_of base) bs

-- the number that digits write; nothing where it is greater than the most
abbrev pub value_within : ℕ → ℕ → List ℕ → Option ℕ
value_within base most ds = if nat_le (digits_value base ds) most then Some (digits_value base ds) else None

-- the number that the digits at the front write, and how many they are; nothing where there is none
unfoldable pub digits_at : ℕ → ℕ → List ℕ → Option (ℕ × ℕ)
digits_at base most bs =
    if nat_lt 0 (digits_len base bs)
    then option_map (λ v. (v, digits_len base bs)) (value_within base most (take (digits_len base bs) bs))
    else None

-- ---- integer literals

abbrev pub is_u : ℕ → Bool
is_u b = nat_eq b 117 || nat_eq b 85

abbrev pub is_l : ℕ → Bool
is_l b = nat_eq b 108 || nat_eq b 76

-- a suffix is nothing, `u`, `l`, `ll`, or `u` and one of the others in any order, the letters of `ll` in one case:
-- whether there is a `u`, and whether there is an `l`
unfoldable pub suffix_of : List ℕ → Option (Bool × Bool)
suffix_of [] = Some (false, false)
suffix_of (a ∷ []) = if is_u a then Some (true, false) else (if is_l a then Some (false, true) else None)
suffix_of (a ∷ b ∷ []) =
    if (is_u a && is_l b) || (is_l a && is_u b) then Some (true, true)
    else (if is_l a && nat_eq a b then Some (false, true) else None)
suffix_of (a ∷ b ∷ c ∷ []) = if (is_u a && is_l b && nat_eq b c) || (is_l a && nat_eq a b && is_u c) then Some (true, true) else None
suffix_of (a ∷ b ∷ c ∷ d ∷ bs) = None

-- the types that a literal can have, in order (6.4.4.1 p5): whether it is decimal, has a `u`, has an `l`. `long` and `long long`
-- are one type (this profile)
abbrev pub types_of : Bool → Bool → Bool → List CInt
types_of true false false = I32 ∷ I64 ∷ []
types_of true false true = I64 ∷ []
types_of false false false = I32 ∷ U32 ∷ I64 ∷ U64 ∷ []
types_of false false true = I64 ∷ U64 ∷ []
types_of decimal true false = U32 ∷ U64 ∷ []
types_of decimal true true = U64 ∷ []

-- the first of the types that has the value, if one has
abbrev pub first_fitting : List CInt → ℕ → Option CInt
first_fitting [] v = None
first_fitting (t ∷ ts) v = if fits t (pos v) then Some t else first_fitting ts v

-- all of bs is digits of the base and a suffix: the literal's value, at most 2^127 - 1 (this profile), and its type
unfoldable pub body_of : ℕ → List ℕ → Option (ℕ × Option CInt)
body_of base bs = do
  digits ← digits_at base greatest_literal bs
  suffix ← suffix_of (drop digits.1 bs)
  Some (digits.0, first_fitting (types_of (nat_eq base 10) suffix.0 suffix.1) digits.0)

-- all of bs is a literal: hexadecimal after `0x`, else octal after a `0`, which is a digit of it, else decimal
unfoldable pub literal_of : List ℕ → Option (ℕ × Option CInt)
literal_of bs =
    if begins_with (codes "0x") bs || begins_with (codes "0X") bs then body_of 16 (drop 2 bs)
    else (if begins_with (codes "0") bs then body_of 8 bs else body_of 10 bs)

-- ---- characters

-- what the letter or mark after a `\` stands for (6.4.4.4, 5.2.2)
abbrev pub simple_escape : ℕ → Option ℕ
simple_escape c =
    if nat_eq c 110 then Some 10
    else (if nat_eq c 116 then Some 9
    else (if nat_eq c 114 then Some 13
    else (if nat_eq c 97 then Some 7
    else (if nat_eq c 98 then Some 8
    else (if nat_eq c 102 then Some 12
    else (if nat_eq c 118 then Some 11
    else (if nat_eq c 92 || nat_eq c 39 || nat_eq c 34 || nat_eq c 63 then Some c else None)))))))

-- an escape, given what is after its `\`: the byte that it stands for, and how many bytes are after the `\`. It is up to three
-- octal digits, `x` and hexadecimal digits, or simple; its value is at most 255
unfoldable pub escape_at : List ℕ → Option (ℕ × ℕ)
escape_at [] = None
escape_at (c ∷ cs) =
    if is_octal c then digits_at 8 255 (take 3 (c ∷ cs))
    else (if nat_eq c 120 then option_map (λ d. (d.0, d.1 + 1)) (digits_at 16 255 cs)
    else option_map (λ v. (v, 1)) (simple_escape c))

-- a byte or an escape: the byte that it stands for, and how many bytes are after its first. A line's end is none
unfoldable pub unit_at : List ℕ → Option (ℕ × ℕ)
unit_at [] = None
unit_at (b ∷ bs) = if nat_eq b 10 then None else (if nat_eq b 92 then escape_at bs else Some (b, 0))

-- a character literal, given what is after its first quote: one byte or escape and a quote, or nothing. The byte, and how many
-- bytes there are
unfoldable pub letter_of : List ℕ → Option (ℕ × ℕ)
letter_of bs =
    if begins_with (codes "'") bs then None
    else elim (unit_at bs) [
      | None ↦ None
      | Some u ↦ if begins_with (codes "'") (drop (u.1 + 1) bs) then Some (u.0, u.1 + 2) else None
    ]

-- the value of a byte as a signed `char`
abbrev pub signed_char : ℕ → ℤ
signed_char b = if nat_lt b 128 then pos b else negsuc (255 - b)

-- ---- strings

-- the same inside a string literal, which the end of its annotation breaks
abbrev pub unit_in : Mode → List ℕ → Option (ℕ × ℕ)
unit_in m bs = if ends_block m bs then None else unit_at bs

-- a string literal, given what is after its first quote: bytes and escapes up to the next quote, or nothing. How many bytes there
-- are with that quote; k of them still belong to the byte or escape before
abbrev pub string_len : Mode → ℕ → List ℕ → Option ℕ
string_len m k [] = None
string_len m (suc k) (b ∷ bs) = option_map suc (string_len m k bs)
string_len m zero (b ∷ bs) =
    if nat_eq b 34 then Some 1
    else elim (unit_in m (b ∷ bs)) [ None ↦ None | Some u ↦ option_map suc (string_len m u.1 bs) ]

-- the bytes that it stands for
abbrev pub string_bytes : ℕ → List ℕ → List ℕ
string_bytes k [] = []
string_bytes (suc k) (b ∷ bs) = string_bytes k bs
string_bytes zero (b ∷ bs) =
    if nat_eq b 34 then []
    else elim (unit_at (b ∷ bs)) [ None ↦ [] | Some u ↦ u.0 ∷ string_bytes u.1 bs ]
