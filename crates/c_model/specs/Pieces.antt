-- The pieces of a C text with annotations: names, literals, operators, blanks, and the ends of annotations (C99 6.4, ACSL).
use Rattle.std.specs.Prelude.{ℕ, zero, suc, ◌+◌, ◌-◌, List, [], ◌∷◌, length, take, drop, Option, Some, None, Result, Ok, Err, Bool, true, false, not, ◌||◌}
use Rattle.std.specs.Prelude.{◌&&◌, nat_lt, nat_eq, if◌then◌else◌, codes, bytes_eq}
use Rattle.std.specs.List.{prefix_len, list_any}
use Rattle.c_syntax.specs.declared.place.Place.{Place}
use Rattle.c_model.specs.declared.c_tokens.Mode.{Mode}
use Rattle.c_model.specs.declared.c_tokens.Mode.TheVariants.{Code, Block, Line}
use Rattle.c_model.specs.declared.c_tokens.Piece.{Piece}
use Rattle.c_model.specs.declared.c_tokens.Piece.TheVariants as piece
use Rattle.c_model.specs.declared.c_tokens.Found.{Found}
use Rattle.c_model.specs.declared.c_tokens.Fault.{Fault}
use Rattle.c_model.specs.declared.c_tokens.Fault.TheVariants as fault
use Rattle.c_model.specs.Characters.{is_digit, is_nondigit, is_part, begins_with}
use Rattle.c_model.specs.Places.{next, first_place}
use Rattle.c_model.specs.MonitoredTokens.{marks, fresh_behind}
use Rattle.c_model.specs.Comments.{is_code, is_line, is_gap, ends_block, in_line, block_len, comment_len, blank_block, is_blank_line}
use Rattle.c_model.specs.Literals.{literal_of, letter_of, string_len}
use Rattle.c_model.specs.Directives.{directive_line, directive_fault}

-- a piece, with so many bytes after its first
abbrev pub found : Piece → ℕ → Result Found Fault
found p n = Ok (record { piece = p; more = n })

-- ---- names

-- the words of C99 that the profile has no use for
unfoldable pub outside_in_c : List (List ℕ)
outside_in_c =
    codes "auto" ∷ codes "register" ∷ codes "extern" ∷ codes "inline" ∷ codes "restrict" ∷ codes "volatile" ∷ codes "goto"
    ∷ codes "union" ∷ codes "float" ∷ codes "double" ∷ codes "_Bool" ∷ codes "_Complex" ∷ codes "_Imaginary" ∷ []

-- the words of ACSL that it has no use for
unfoldable pub outside_in_annotations : List (List ℕ)
outside_in_annotations =
    codes "real" ∷ codes "ghost" ∷ codes "axiomatic" ∷ codes "axiom" ∷ codes "inductive" ∷ codes "lemma" ∷ codes "logic"
    ∷ codes "predicate" ∷ codes "check" ∷ codes "admit" ∷ codes "decreases" ∷ codes "terminates" ∷ codes "allocates" ∷ codes "frees"
    ∷ codes "exits" ∷ codes "breaks" ∷ codes "continues" ∷ codes "returns" ∷ []

-- the names with a `\` that it knows
unfoldable pub backslash_names : List (List ℕ)
backslash_names =
    codes "\\forall" ∷ codes "\\exists" ∷ codes "\\old" ∷ codes "\\at" ∷ codes "\\result" ∷ codes "\\null" ∷ codes "\\true"
    ∷ codes "\\false" ∷ codes "\\nothing" ∷ codes "\\from" ∷ codes "\\valid" ∷ codes "\\valid_read" ∷ codes "\\initialized"
    ∷ codes "\\base_addr" ∷ codes "\\block_length" ∷ codes "\\offset" ∷ codes "\\separated" ∷ []

-- beginnings of names that are kept for monitored programs (this profile)
abbrev pub is_reserved : List ℕ → Bool
is_reserved w = begins_with (codes "__e_acsl_") w || begins_with (codes "__gen_e_acsl_") w

-- words that the profile leaves out, in C or in an annotation
unfoldable pub is_outside : Mode → List ℕ → Bool
is_outside m w =
    is_reserved w
    || (if is_code m then list_any (bytes_eq w) outside_in_c
    else list_any (bytes_eq w) outside_in_annotations || (begins_with (codes "\\") w && not (list_any (bytes_eq w) backslash_names)))

abbrev pub begins_with_nondigit : List ℕ → Bool
begins_with_nondigit [] = false
begins_with_nondigit (b ∷ bs) = is_nondigit b

-- a name begins with a letter or `_` (C99 6.4.2.1), and in an annotation one `\` may stand before that (ACSL)
abbrev pub begins_name : Mode → List ℕ → Bool
begins_name m [] = false
begins_name m (b ∷ bs) = is_nondigit b || (not (is_code m) && nat_eq b 92 && begins_with_nondigit bs)

-- a name is its first byte and all the letters, digits and `_` that follow one another after it
abbrev pub word : List ℕ → List ℕ
word [] = []
word (b ∷ bs) = b ∷ take (prefix_len is_part bs) bs

-- it has at most 255 bytes (this profile)
unfoldable pub word_at : Mode → List ℕ → Result Found Fault
word_at m bs =
    if nat_lt 255 (length (word bs)) then Err fault.Name
    else (if is_outside m (word bs) then Err fault.OutsideWord
    else found piece.Word (length (word bs) - 1))

-- ---- literals

-- a `.` stands there, and in an annotation not the operator `..`
abbrev pub is_dotted : Mode → List ℕ → Bool
is_dotted m bs = begins_with (codes ".") bs && (is_code m || not (begins_with (codes "..") bs))

-- an integer literal is all the letters, digits and `_` that follow one another, and no `.` follows them
unfoldable pub number_at : Mode → List ℕ → Result Found Fault
number_at m bs =
    if is_dotted m (drop (prefix_len is_part bs) bs) then Err fault.Number
    else elim (literal_of (take (prefix_len is_part bs) bs)) [
      | None ↦ Err fault.Number
      | Some x ↦ found (piece.Number x.0 x.1) (prefix_len is_part bs - 1)
    ]

unfoldable pub letter_at : List ℕ → Result Found Fault
letter_at bs = elim (letter_of bs) [ None ↦ Err fault.Letter | Some x ↦ found (piece.Letter x.0) x.1 ]

unfoldable pub string_at : Mode → List ℕ → Result Found Fault
string_at m bs = elim (string_len m 0 bs) [ None ↦ Err fault.Chars | Some n ↦ found piece.Chars n ]

-- ---- operators

-- the operators that annotations have besides (ACSL), tried before the others; their numbers follow those of the others
unfoldable pub annotation_marks : List (List ℕ)
annotation_marks = codes "<==>" ∷ codes "==>" ∷ codes "^^" ∷ codes ".." ∷ []

-- the first of the marks that begins bs, from the place i on
abbrev pub first_mark : ℕ → List (List ℕ) → List ℕ → Option Found
first_mark i [] bs = None
first_mark i (m ∷ ms) bs = if begins_with m bs then Some (record { piece = piece.Mark i; more = length m - 1 }) else first_mark (i + 1) ms bs

unfoldable pub c_mark_at : List ℕ → Result Found Fault
c_mark_at bs = elim (first_mark 0 marks bs) [ None ↦ Err fault.Byte | Some x ↦ Ok x ]

unfoldable pub mark_at : Mode → List ℕ → Result Found Fault
mark_at m bs =
    if is_code m then c_mark_at bs
    else elim (first_mark 45 annotation_marks bs) [ None ↦ c_mark_at bs | Some x ↦ Ok x ]

-- ---- comments, annotations and directives

-- a comment with `/*`, given what is after these
unfoldable pub comment_at : List ℕ → Result Found Fault
comment_at bs = elim (block_len bs) [ None ↦ Err fault.Comment | Some n ↦ found piece.Blank (n + 1) ]

-- an annotation with `/*@`, given what is after these
unfoldable pub open_block : List ℕ → Result Found Fault
open_block bs = elim (block_len bs) [
  | None ↦ Err fault.Comment
  | Some n ↦ elim (blank_block false bs) [ None ↦ found (piece.Open Block) 2 | Some k ↦ found piece.Blank (k + 2) ]
]

-- an annotation with `//@`, given what is after these
unfoldable pub open_line : List ℕ → Result Found Fault
open_line bs = if is_blank_line bs then found piece.Blank (prefix_len in_line bs + 2) else found (piece.Open Line) 2

-- a comment, the beginning of an annotation, or an operator; `/*` begins no comment in an annotation
unfoldable pub other_at : Mode → List ℕ → Result Found Fault
other_at m bs =
    if is_code m && begins_with (codes "/*@") bs then open_block (drop 3 bs)
    else (if is_code m && begins_with (codes "//@") bs then open_line (drop 3 bs)
    else (if is_code m && begins_with (codes "/*") bs then comment_at (drop 2 bs)
    else (if begins_with (codes "//") bs then found piece.Blank (comment_len m bs - 1)
    else mark_at m bs)))

-- a directive, given what is after its `#`
unfoldable pub directive_at : List ℕ → Result Found Fault
directive_at bs = elim (directive_fault (directive_line bs)) [
  | None ↦ found piece.Blank (prefix_len in_line bs)
  | Some f ↦ Err f
]

-- ---- the piece at the front; fresh: only blanks stand before it in its line

unfoldable pub piece_at : Mode → Bool → List ℕ → Result Found Fault
piece_at m fresh [] = Err fault.Byte
piece_at m fresh (b ∷ bs) =
    if is_line m && nat_eq b 10 then found piece.Close 0
    else (if ends_block m (b ∷ bs) then found piece.Close 1
    else (if is_gap m b then found piece.Blank 0
    else (if begins_name m (b ∷ bs) then word_at m (b ∷ bs)
    else (if is_digit b then number_at m (b ∷ bs)
    else (if nat_eq b 39 then letter_at bs
    else (if nat_eq b 34 then string_at m bs
    else (if is_code m && fresh && nat_eq b 35 then directive_at bs
    else other_at m (b ∷ bs))))))))

-- ---- the pieces of a text

abbrev pub mode_after : Mode → Piece → Mode
mode_after m (piece.Open n) = n
mode_after m piece.Close = Code
mode_after m piece.Blank = m
mode_after m piece.Word = m
mode_after m (piece.Number v t) = m
mode_after m (piece.Letter b) = m
mode_after m piece.Chars = m
mode_after m (piece.Mark k) = m

-- the pieces in order: the text ends, or something broken stands after them
pub data Pieces : Type 0 where
  Ended : (at : Place) (m : Mode) → Pieces
  Broken : (at : Place) (f : Fault) (rest : List ℕ) → Pieces
  Cut : (at : Place) (p : Piece) (bytes : List ℕ) (more : Pieces) → Pieces

-- k bytes still belong to the piece before
unfoldable pub cut : ℕ → Place → Bool → Mode → List ℕ → Pieces
cut k at fresh m [] = Ended at m
cut (suc k) at fresh m (b ∷ bs) = cut k (next at b) (fresh_behind fresh b) m bs
cut zero at fresh m (b ∷ bs) = elim (piece_at m fresh (b ∷ bs)) [
  | Err f ↦ Broken at f (b ∷ bs)
  | Ok x ↦ Cut at x.piece (take (suc x.more) (b ∷ bs)) (cut x.more (next at b) (fresh_behind fresh b) (mode_after m x.piece) bs)
]

abbrev pub pieces_of : List ℕ → Pieces
pieces_of text = cut 0 first_place true Code text
