-- The tokens of a monitored text, or the refusal of its first fault: the text is cut into pieces with their places, and the
-- pieces make tokens. Names and punctuators are those of C99 6.4. Numbers, strings and the one directive are this profile's.
-- Blanks are free, there are no comments, and there is no limit of tokens.
use Rattle.std.specs.Prelude.{ℕ, zero, suc, ◌+◌, ◌-◌, ◌*◌, ◌/◌, ◌%◌, ◌^◌, pos, List, [], ◌∷◌, ◌++◌, length, take, drop, Option, Some, None, is_some, unwrap_or}
use Rattle.std.specs.Prelude.{Result, Ok, Err, Bool, true, not, ◌||◌, ◌&&◌, nat_le, nat_lt, nat_eq, if◌then◌else◌, codes}
use Rattle.std.specs.List.{prefix_len, list_all}
use Rattle.std.specs.Str.Parse.{digits_value}
use Rattle.c_syntax.specs.RefusalCodes.{byte_code, token_code}
use Rattle.c_syntax.specs.declared.place.Place.{Place}
use Rattle.c_syntax.specs.Tokens.{PlainTokenKind, Word, Number, Chars, Mark, Head, PlainToken, PlainTokens}
use Rattle.c_syntax.specs.Programs.{PlainRefusal}
use Rattle.c_model.specs.declared.monitored_tokens.Piece.{Piece}
use Rattle.c_model.specs.declared.monitored_tokens.Piece.TheVariants as piece
use Rattle.c_model.specs.declared.monitored_tokens.Found.{Found}
use Rattle.c_model.specs.declared.monitored_tokens.Fault.{Fault}
use Rattle.c_model.specs.declared.monitored_tokens.Fault.TheVariants as fault
use Rattle.c_model.specs.Characters.{is_blank, is_digit, is_nondigit, is_part, in_literal, begins_with}
use Rattle.c_model.specs.Places.{next, first_place}
use Rattle.c_model.specs.Names.{with_name, name_number}

-- ---- pieces

-- a piece, with so many bytes after its first
abbrev pub found : Piece → ℕ → Result Found Fault
found p n = Ok (record { piece = p; more = n })

-- a name is all the letters, digits and `_` that follow one another (C99 6.4.2.1), at most 255 of them (this profile)
unfoldable pub word_at : List ℕ → Result Found Fault
word_at bs = if nat_lt 255 (prefix_len is_part bs) then Err fault.Name else found piece.Word (prefix_len is_part bs - 1)

-- the greatest number of a monitored text (this profile)
abbrev pub greatest_literal : ℕ
greatest_literal = 2 ^ 127 - 1

-- the value of decimal digits, leading zeros among them; nothing where another byte stands there, or the value is too great
unfoldable pub literal_of : List ℕ → Option ℕ
literal_of bs = if list_all is_digit bs && nat_le (digits_value 10 bs) greatest_literal then Some (digits_value 10 bs) else None

-- a number is all the letters, digits, `_` and `.` that follow one another
unfoldable pub number_at : List ℕ → Result Found Fault
number_at bs = elim (literal_of (take (prefix_len in_literal bs) bs)) [
  | None ↦ Err fault.Number
  | Some v ↦ found (piece.Number v) (prefix_len in_literal bs - 1)
]

-- a byte that stands for itself in a string (this profile): a printable one but `"` and `\`
abbrev pub is_plain : ℕ → Bool
is_plain b = nat_le 32 b && nat_le b 126 && not (nat_eq b 34) && not (nat_eq b 92)

-- an octal digit (C99 6.4.4.1)
abbrev pub is_octal : ℕ → Bool
is_octal b = nat_le 48 b && nat_le b 55

abbrev pub octal_value : ℕ → ℕ → ℕ → ℕ
octal_value a b c = 64 * (a - 48) + 8 * (b - 48) + (c - 48)

-- the byte of an escape with these three digits
abbrev pub octal_byte : ℕ → ℕ → ℕ → Option ℕ
octal_byte a b c = if is_octal a && is_octal b && is_octal c && nat_le (octal_value a b c) 255 then Some (octal_value a b c) else None

-- c before the bytes, where there are any
abbrev pub in_front : Option ℕ → Option (List ℕ) → Option (List ℕ)
in_front None cs = None
in_front (Some c) None = None
in_front (Some c) (Some cs) = Some (c ∷ cs)

-- the bytes that characters and escapes stand for (C99 6.4.5); nothing where another byte stands there. An escape is `\` and
-- three octal digits, also of a byte that could stand for itself
abbrev mutual
  pub chars_of : List ℕ → Option (List ℕ)
  chars_of [] = Some []
  chars_of (b ∷ bs) = if is_plain b then in_front (Some b) (chars_of bs) else (if nat_eq b 92 then escape_of bs else None)

  -- after a `\`
  pub escape_of : List ℕ → Option (List ℕ)
  escape_of [] = None
  escape_of (a ∷ []) = None
  escape_of (a ∷ b ∷ []) = None
  escape_of (a ∷ b ∷ c ∷ bs) = in_front (octal_byte a b c) (chars_of bs)

-- what stands before a closing quote
abbrev pub in_string : ℕ → Bool
in_string b = not (nat_eq b 34)

-- a string, given what is after its first quote: characters and escapes up to the next quote
unfoldable pub string_at : List ℕ → Result Found Fault
string_at bs =
    if nat_lt (prefix_len in_string bs) (length bs) && is_some (chars_of (take (prefix_len in_string bs) bs))
    then found piece.Chars (prefix_len in_string bs + 1)
    else Err fault.Chars

-- only blanks stand up to the line's end
abbrev pub ends_line : List ℕ → Bool
ends_line [] = true
ends_line (b ∷ bs) = nat_eq b 10 || (is_blank b && ends_line bs)

-- the directive of a monitored text (this profile)
unfoldable pub head_line : List ℕ
head_line = codes "#include <e_acsl.h>"

-- a directive is a whole line without the blanks at its ends (C99 6.10)
unfoldable pub head_at : List ℕ → Result Found Fault
head_at bs =
    if begins_with head_line bs && ends_line (drop (length head_line) bs)
    then found piece.Head (length head_line - 1)
    else Err fault.Directive

-- the punctuators (C99 6.4.6), the longer ones first
unfoldable pub marks : List (List ℕ)
marks =
    codes "<<=" ∷ codes ">>="
    ∷ codes "++" ∷ codes "--" ∷ codes "->" ∷ codes "<<" ∷ codes ">>" ∷ codes "<=" ∷ codes ">=" ∷ codes "==" ∷ codes "!="
    ∷ codes "&&" ∷ codes "||" ∷ codes "+=" ∷ codes "-=" ∷ codes "*=" ∷ codes "/=" ∷ codes "%=" ∷ codes "&=" ∷ codes "|=" ∷ codes "^="
    ∷ codes "+" ∷ codes "-" ∷ codes "*" ∷ codes "/" ∷ codes "%" ∷ codes "<" ∷ codes ">" ∷ codes "=" ∷ codes "!" ∷ codes "~"
    ∷ codes "&" ∷ codes "|" ∷ codes "^" ∷ codes "?" ∷ codes ":" ∷ codes ";" ∷ codes "," ∷ codes "."
    ∷ codes "(" ∷ codes ")" ∷ codes "[" ∷ codes "]" ∷ codes "{" ∷ codes "}" ∷ []

-- the first of the marks that begins bs, from the place i on
abbrev pub first_mark : ℕ → List (List ℕ) → List ℕ → Result Found Fault
first_mark i [] bs = Err fault.Byte
first_mark i (m ∷ ms) bs = if begins_with m bs then found (piece.Mark i) (length m - 1) else first_mark (i + 1) ms bs

-- the piece at the front; fresh: only blanks stand before it in its line
unfoldable pub piece_at : Bool → List ℕ → Result Found Fault
piece_at fresh [] = Err fault.Byte
piece_at fresh (b ∷ bs) =
    if is_blank b then found piece.Blank 0
    else (if is_nondigit b then word_at (b ∷ bs)
    else (if is_digit b then number_at (b ∷ bs)
    else (if nat_eq b 34 then string_at bs
    else (if fresh && nat_eq b 35 then head_at (b ∷ bs)
    else first_mark 0 marks (b ∷ bs)))))

-- whether only blanks stand in the line after a byte
abbrev pub fresh_behind : Bool → ℕ → Bool
fresh_behind fresh b = nat_eq b 10 || (fresh && is_blank b)

-- the same after bytes
abbrev pub fresh_after : Bool → List ℕ → Bool
fresh_after fresh [] = fresh
fresh_after fresh (b ∷ bs) = fresh_after (fresh_behind fresh b) bs

-- the pieces of a text, in order: it ends, or something broken stands after them
pub data Pieces : Type 0 where
  Ended : (at : Place) → Pieces
  Broken : (at : Place) (f : Fault) (rest : List ℕ) → Pieces
  Cut : (at : Place) (p : Piece) (bytes : List ℕ) (more : Pieces) → Pieces

-- k bytes still belong to the piece before
unfoldable pub cut : ℕ → Place → Bool → List ℕ → Pieces
cut k at fresh [] = Ended at
cut (suc k) at fresh (b ∷ bs) = cut k (next at b) (fresh_behind fresh b) bs
cut zero at fresh (b ∷ bs) = elim (piece_at fresh (b ∷ bs)) [
  | Err f ↦ Broken at f (b ∷ bs)
  | Ok x ↦ Cut at x.piece (take (suc x.more) (b ∷ bs)) (cut x.more (next at b) (fresh_behind fresh b) bs)
]

-- ---- tokens

-- what is read so far: the names, each at its number, and the tokens
pub record Read : Type 0 where
  pub names : List (List ℕ)
  pub list : List PlainToken

abbrev pub token : Place → PlainTokenKind → PlainToken
token at k = record { place = at; kind = k }

abbrev pub put : Read → Place → PlainTokenKind → Read
put r at k = record { names = r.names; list = r.list ++ token at k ∷ [] }

-- what stands between the quotes
abbrev pub inside : List ℕ → List ℕ
inside [] = []
inside (q ∷ bs) = take (prefix_len in_string bs) bs

unfoldable pub add : Read → Place → Piece → List ℕ → Read
add r at piece.Blank bs = r
add r at piece.Word bs = record { names = with_name r.names bs; list = r.list ++ token at (Word (name_number r.names bs)) ∷ [] }
add r at (piece.Number v) bs = put r at (Number (pos v) None)
add r at piece.Chars bs = put r at (Chars (unwrap_or (chars_of (inside bs)) []))
add r at (piece.Mark m) bs = put r at (Mark m)
add r at piece.Head bs = put r at (Head 0 0)

abbrev pub hex_digit : ℕ → ℕ
hex_digit d = if nat_lt d 10 then 48 + d else 87 + d

-- the two hexadecimal digits of the first byte
abbrev pub first_byte : List ℕ → List ℕ
first_byte [] = []
first_byte (b ∷ bs) = hex_digit (b / 16) ∷ hex_digit (b % 16) ∷ []

abbrev pub code_of : Fault → ℕ
code_of fault.Byte = byte_code
code_of fault.Name = token_code
code_of fault.Number = token_code
code_of fault.Chars = token_code
code_of fault.Directive = token_code

abbrev pub word_of : Fault → List ℕ → List ℕ
word_of fault.Byte rest = first_byte rest
word_of fault.Name rest = codes "name"
word_of fault.Number rest = codes "number"
word_of fault.Chars rest = codes "string"
word_of fault.Directive rest = codes "directive"

abbrev pub refused : Place → Fault → List ℕ → PlainRefusal
refused at f rest = record { code = code_of f; place = at; construct = word_of f rest }

abbrev pub whole : Read → Place → PlainTokens
whole r at = record { list = r.list; names = r.names; end = at }

-- the tokens of the pieces, after those of r
unfoldable pub build : Read → Pieces → Result PlainTokens PlainRefusal
build r (Ended at) = Ok (whole r at)
build r (Broken at f rest) = Err (refused at f rest)
build r (Cut at p bytes more) = build (add r at p bytes) more

abbrev pub nothing_read : Read
nothing_read = record { names = []; list = [] }

abbrev pub pieces_of : List ℕ → Pieces
pieces_of text = cut 0 first_place true text

-- the tokens of a text, or the refusal at its first fault
unfoldable pub monitored_tokens : List ℕ → Result PlainTokens PlainRefusal
monitored_tokens text = build nothing_read (pieces_of text)
