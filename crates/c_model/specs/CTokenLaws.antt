-- Which laws these are is ours; a law that says what C99 6.4 says cites the section.
-- What holds of every C text with annotations, in the text's own words.
use Rattle.std.specs.Prelude.{◌≡◌, ◌↔◌, ◌≤◌, ◌<◌, ◌⊎◌, ℕ, ◌-◌, List, [], ◌∷◌, ◌++◌, length, nat_eq, ◌||◌, ◌&&◌, Bool, true, false, Option, Some, None, is_some}
use Rattle.std.specs.Prelude.{Ok, Err, slice_get, codes}
use Rattle.std.specs.List.{list_all}
use Rattle.std.specs.Str.Parse.{digits_value}
use Rattle.c_syntax.specs.declared.types.CInt.{CInt}
use Rattle.c_syntax.specs.Programs.{PlainRefusal}
use Rattle.c_syntax.specs.Tokens as token
use Rattle.c_syntax.specs.Tokens.{PlainTokenKind, PlainToken, PlainTokens}
use Rattle.c_model.specs.declared.c_tokens.Mode.{Mode}
use Rattle.c_model.specs.declared.c_tokens.Mode.TheVariants.{Code, Block, Line}
use Rattle.c_model.specs.declared.c_tokens.Piece.{Piece}
use Rattle.c_model.specs.declared.c_tokens.Piece.TheVariants as piece
use Rattle.c_model.specs.declared.c_tokens.Fault.{Fault}
use Rattle.c_model.specs.declared.c_tokens.Fault.TheVariants as fault
use Rattle.c_model.specs.Characters.{is_digit, is_part, begins_with}
use Rattle.c_model.specs.MonitoredTokens.{Read, greatest_literal, marks, nothing_read}
use Rattle.c_model.specs.MonitoredTokenLaws.{place_of, starts_line, Stops, IsIn, with_names, AreDistinct}
use Rattle.c_model.specs.Comments.{is_code, is_gap, ends_block, in_line, block_len, blank_block, is_blank_line}
use Rattle.c_model.specs.Literals.{is_digit_of, suffix_of, types_of, first_fitting, literal_of, unit_at, unit_in}
use Rattle.c_model.specs.Directives.{directive_line, directive_fault}
use Rattle.c_model.specs.Pieces.{begins_name, word, is_outside, is_dotted, annotation_marks, mode_after, Pieces, Ended, Broken, Cut, pieces_of}
use Rattle.c_model.specs.CTokens.{add, refused, closed, most_tokens, tokens_of}

-- ---- pieces and places

-- the bytes of the pieces, and those from something broken on
abbrev pub bytes_of : Pieces → List ℕ
bytes_of (Ended at m) = []
bytes_of (Broken at f rest) = rest
bytes_of (Cut at p bytes more) = bytes ++ bytes_of more

-- each piece is at the place after the bytes before it
abbrev pub ArePlaced : List ℕ → Pieces → Type 0
ArePlaced before (Ended at m) = at ≡ place_of before
ArePlaced before (Broken at f rest) = at ≡ place_of before
ArePlaced before (Cut at p bytes more) = (at ≡ place_of before) × ArePlaced (before ++ bytes) more

-- the pieces joined are the text
abbrev pub PiecesAreTheText : Type 0
PiecesAreTheText = (text : List ℕ) → bytes_of (pieces_of text) ≡ text

abbrev pub PiecesArePlaced : Type 0
PiecesArePlaced = (text : List ℕ) → ArePlaced [] (pieces_of text)

-- ---- spelling: names, literals and operators

-- a name (C99 6.4.2.1, and `\` in ACSL) goes as far as it can, and the profile has it
pub record IsName (m : Mode) (bytes behind : List ℕ) : Type 0 where
  pub first : ℕ
  pub others : List ℕ
  pub joined : bytes ≡ first ∷ others
  pub begins : begins_name m (bytes ++ behind) ≡ true
  pub parts : list_all is_part others ≡ true
  pub ends : Stops is_part behind
  pub short : length bytes ≤ 255
  pub inside : is_outside m bytes ≡ false

-- an integer literal with its value and type, which no letter, digit, `_` or `.` follows, save `..` in an annotation
pub record IsLiteral (m : Mode) (v : ℕ) (t : Option CInt) (bytes behind : List ℕ) : Type 0 where
  pub literal : literal_of bytes ≡ Some (v, t)
  pub parts : list_all is_part bytes ≡ true
  pub ends : Stops is_part behind
  pub undotted : is_dotted m behind ≡ false

-- a character literal is quotes round one byte or escape
pub record IsLetter (c : ℕ) (bytes behind : List ℕ) : Type 0 where
  pub unit : List ℕ
  pub quoted : bytes ≡ 39 ∷ unit ++ 39 ∷ []
  pub other : begins_with (codes "'") (unit ++ 39 ∷ behind) ≡ false
  pub one : unit_at (unit ++ 39 ∷ behind) ≡ Some (c, length unit - 1)

-- bytes and escapes, each with the byte that it stands for
abbrev pub spelling_of : List (List ℕ × ℕ) → List ℕ
spelling_of [] = []
spelling_of (u ∷ us) = u.0 ++ spelling_of us

abbrev pub AreUnits : Mode → List (List ℕ × ℕ) → List ℕ → Type 0
AreUnits m [] behind = Unit {0}
AreUnits m (u ∷ us) behind =
    (0 < length u.0) × (unit_in m (u.0 ++ (spelling_of us ++ behind)) ≡ Some (u.1, length u.0 - 1))
    × (begins_with (codes "\"") (u.0 ++ (spelling_of us ++ behind)) ≡ false) × AreUnits m us behind

-- a string literal is quotes round bytes and escapes
pub record IsString (m : Mode) (bytes behind : List ℕ) : Type 0 where
  pub units : List (List ℕ × ℕ)
  pub quoted : bytes ≡ 34 ∷ spelling_of units ++ 34 ∷ []
  pub are : AreUnits m units (34 ∷ behind)

-- `//` begins a comment, and so does `/*` in C (C99 6.4.9); or an annotation, which is a comment for C99
abbrev pub begins_comment : Mode → List ℕ → Bool
begins_comment m bs = (is_code m && begins_with (codes "/*") bs) || begins_with (codes "//") bs

-- a comment of C that begins with `@` is an annotation (ACSL)
abbrev pub begins_annotation : Mode → List ℕ → Bool
begins_annotation m bs = is_code m && (begins_with (codes "/*@") bs || begins_with (codes "//@") bs)

-- where the annotation ends: at `*/`, or at the line's end
abbrev pub ends_annotation : Mode → List ℕ → Bool
ends_annotation Code bs = false
ends_annotation Block bs = begins_with (codes "*/") bs
ends_annotation Line bs = begins_with (10 ∷ []) bs

-- the operators of C, and those of annotations after them
abbrev pub marks_of : Mode → List (List ℕ)
marks_of Code = marks
marks_of Block = marks ++ annotation_marks
marks_of Line = marks ++ annotation_marks

-- the operator at that place of the list, and no longer one begins there (C99 6.4 p4); where no comment begins, and no annotation
-- begins or ends
pub record IsMark (m : Mode) (k : ℕ) (bytes behind : List ℕ) : Type 0 where
  pub at : slice_get (marks_of m) k ≡ Some bytes
  pub longest : (q rest : List ℕ) → IsIn (marks_of m) q → bytes ++ behind ≡ q ++ rest → length q ≤ length bytes
  pub no_comment : begins_comment m (bytes ++ behind) ≡ false
  pub no_end : ends_annotation m (bytes ++ behind) ≡ false

-- ---- spelling: blanks and annotations

-- no byte of these begins `*/`
abbrev pub HaveNoEnd : List ℕ → List ℕ → Type 0
HaveNoEnd [] behind = Unit {0}
HaveNoEnd (b ∷ bs) behind = (begins_with (codes "*/") (b ∷ (bs ++ behind)) ≡ false) × HaveNoEnd bs behind

-- a comment ends at the first `*/` (C99 6.4.9), and isn't an annotation
pub record IsComment (bytes behind : List ℕ) : Type 0 where
  pub inside : List ℕ
  pub joined : bytes ≡ codes "/*" ++ (inside ++ codes "*/")
  pub first : HaveNoEnd inside (codes "*/" ++ behind)
  pub no_annotation : begins_annotation Code (bytes ++ behind) ≡ false

-- after a comment with `//` the line ends, or the annotation
abbrev pub EndsComment : Mode → List ℕ → Type 0
EndsComment m [] = Unit {0}
EndsComment m (b ∷ bs) = (nat_eq b 10 || ends_block m (b ∷ bs)) ≡ true

-- a comment with `//` is within its line, and within the annotation that it stands in; it isn't an annotation
pub record IsLineComment (m : Mode) (bytes behind : List ℕ) : Type 0 where
  pub inside : List ℕ
  pub joined : bytes ≡ codes "//" ++ inside
  pub line : list_all in_line bytes ≡ true
  pub first : m ≡ Block → HaveNoEnd inside behind
  pub ends : EndsComment m behind
  pub no_annotation : begins_annotation m (bytes ++ behind) ≡ false

-- a `/*@` annotation without a token
pub record IsBlankBlock (bytes behind : List ℕ) : Type 0 where
  pub inside : List ℕ
  pub joined : bytes ≡ codes "/*@" ++ inside
  pub blank : blank_block false (inside ++ behind) ≡ Some (length inside)

-- a `//@` annotation without a token, up to the line's end
pub record IsBlankLine (bytes behind : List ℕ) : Type 0 where
  pub inside : List ℕ
  pub joined : bytes ≡ codes "//@" ++ inside
  pub blank : is_blank_line (inside ++ behind) ≡ true
  pub line : list_all in_line inside ≡ true
  pub ends : Stops in_line behind

-- a directive that is read as a blank line
pub record IsDirective (before bytes behind : List ℕ) : Type 0 where
  pub first : starts_line before ≡ true
  pub line : List ℕ
  pub joined : bytes ≡ 35 ∷ line
  pub alone : list_all in_line line ≡ true
  pub ends : Stops in_line behind
  pub sound : directive_fault (directive_line (line ++ behind)) ≡ None

-- a blank byte, with which no annotation ends
pub record IsBlankByte (m : Mode) (bytes behind : List ℕ) : Type 0 where
  pub byte : ℕ
  pub alone : bytes ≡ byte ∷ []
  pub blank : is_gap m byte ≡ true
  pub no_end : ends_annotation m (bytes ++ behind) ≡ false

-- what the lexer passes over
abbrev pub IsBlank : List ℕ → Mode → List ℕ → List ℕ → Type 0
IsBlank before m bytes behind =
    IsBlankByte m bytes behind ⊎ (IsLineComment m bytes behind
    ⊎ ((m ≡ Code) × (IsComment bytes behind ⊎ (IsBlankBlock bytes behind ⊎ (IsBlankLine bytes behind ⊎ IsDirective before bytes behind)))))

-- an annotation with a token begins in C; one with `/*@` has its end
abbrev pub IsOpen : Mode → Mode → List ℕ → List ℕ → Type 0
IsOpen m Code bytes behind = ⊥
IsOpen m Block bytes behind = (m ≡ Code) × (bytes ≡ codes "/*@") × (is_some (block_len behind) ≡ true) × (blank_block false behind ≡ None)
IsOpen m Line bytes behind = (m ≡ Code) × (bytes ≡ codes "//@") × (is_blank_line behind ≡ false)

-- and ends at `*/`, or at the line's end
abbrev pub IsClose : Mode → List ℕ → Type 0
IsClose Code bytes = ⊥
IsClose Block bytes = bytes ≡ codes "*/"
IsClose Line bytes = bytes ≡ 10 ∷ []

-- what a piece of each kind is, given what stands before and after it
abbrev pub Spells : List ℕ → Mode → Piece → List ℕ → List ℕ → Type 0
Spells before m piece.Blank bytes behind = IsBlank before m bytes behind
Spells before m (piece.Open n) bytes behind = IsOpen m n bytes behind
Spells before m piece.Close bytes behind = IsClose m bytes
Spells before m piece.Word bytes behind = IsName m bytes behind
Spells before m (piece.Number v t) bytes behind = IsLiteral m v t bytes behind
Spells before m (piece.Letter c) bytes behind = IsLetter c bytes behind
Spells before m piece.Chars bytes behind = IsString m bytes behind
Spells before m (piece.Mark k) bytes behind = IsMark m k bytes behind

abbrev pub AreSpelled : List ℕ → Mode → Pieces → Type 0
AreSpelled before m (Ended at n) = n ≡ m
AreSpelled before m (Broken at f rest) = Unit {0}
AreSpelled before m (Cut at p bytes more) = Spells before m p bytes (bytes_of more) × AreSpelled (before ++ bytes) (mode_after m p) more

-- each piece is spelled as its kind is, and the text ends in the mode after them
abbrev pub PiecesAreSpelled : Type 0
PiecesAreSpelled = (text : List ℕ) → AreSpelled [] Code (pieces_of text)

-- ---- what is broken

-- no piece begins there: no blank, name or literal, no directive at the beginning of its line, and no operator
pub record BeginsNone (before : List ℕ) (m : Mode) (bs : List ℕ) : Type 0 where
  pub first : ℕ
  pub others : List ℕ
  pub joined : bs ≡ first ∷ others
  pub no_blank : is_gap m first ≡ false
  pub no_name : begins_name m bs ≡ false
  pub no_number : is_digit first ≡ false
  pub no_letter : nat_eq first 39 ≡ false
  pub no_string : nat_eq first 34 ≡ false
  pub no_directive : is_code m && starts_line before && nat_eq first 35 ≡ false
  pub no_mark : (q : List ℕ) → IsIn (marks_of m) q → begins_with q bs ≡ false

-- a `/*` in C, and no `*/` after it
pub record IsUnclosed (m : Mode) (bs : List ℕ) : Type 0 where
  pub code : m ≡ Code
  pub others : List ℕ
  pub joined : bs ≡ codes "/*" ++ others
  pub none : (front behind : List ℕ) → others ≡ front ++ (codes "*/" ++ behind) → ⊥

pub record IsLongName (m : Mode) (bs : List ℕ) : Type 0 where
  pub begins : begins_name m bs ≡ true
  pub long : 255 < length (word bs)

pub record IsOutsideWord (m : Mode) (bs : List ℕ) : Type 0 where
  pub begins : begins_name m bs ≡ true
  pub short : length (word bs) ≤ 255
  pub outside : is_outside m (word bs) ≡ true

-- a digit, and no front is an integer literal
pub record IsNoNumber (m : Mode) (bs : List ℕ) : Type 0 where
  pub first : ℕ
  pub others : List ℕ
  pub joined : bs ≡ first ∷ others
  pub begins : is_digit first ≡ true
  pub none : (v : ℕ) (t : Option CInt) (bytes behind : List ℕ) → bs ≡ bytes ++ behind → IsLiteral m v t bytes behind → ⊥

-- a quote, and no front is a character literal
pub record IsNoLetter (bs : List ℕ) : Type 0 where
  pub others : List ℕ
  pub joined : bs ≡ 39 ∷ others
  pub none : (c : ℕ) (bytes behind : List ℕ) → bs ≡ bytes ++ behind → IsLetter c bytes behind → ⊥

-- a double quote, and no front is a string literal
pub record IsNoString (m : Mode) (bs : List ℕ) : Type 0 where
  pub others : List ℕ
  pub joined : bs ≡ 34 ∷ others
  pub none : (bytes behind : List ℕ) → bs ≡ bytes ++ behind → IsString m bytes behind → ⊥

-- a directive with this fault
pub record IsFaultyDirective (before : List ℕ) (m : Mode) (f : Fault) (bs : List ℕ) : Type 0 where
  pub code : m ≡ Code
  pub first : starts_line before ≡ true
  pub others : List ℕ
  pub joined : bs ≡ 35 ∷ others
  pub fault : directive_fault (directive_line others) ≡ Some f

abbrev pub Breaks : List ℕ → Mode → Fault → List ℕ → Type 0
Breaks before m fault.Byte bs = BeginsNone before m bs
Breaks before m fault.Comment bs = IsUnclosed m bs
Breaks before m fault.Name bs = IsLongName m bs
Breaks before m fault.Number bs = IsNoNumber m bs
Breaks before m fault.Letter bs = IsNoLetter bs
Breaks before m fault.Chars bs = IsNoString m bs
Breaks before m fault.Directive bs = IsFaultyDirective before m fault.Directive bs
Breaks before m fault.OutsideWord bs = IsOutsideWord m bs
Breaks before m fault.OutsideDirective bs = IsFaultyDirective before m fault.OutsideDirective bs
Breaks before m fault.Limit bs = ⊥

abbrev pub AreBroken : List ℕ → Mode → Pieces → Type 0
AreBroken before m (Ended at n) = Unit {0}
AreBroken before m (Broken at f rest) = Breaks before m f rest
AreBroken before m (Cut at p bytes more) = AreBroken (before ++ bytes) (mode_after m p) more

-- what is broken is broken as its fault says
abbrev pub BreaksAreFaults : Type 0
BreaksAreFaults = (text : List ℕ) → AreBroken [] Code (pieces_of text)

-- pieces that meet all these laws are the pieces of the text that they make up, and no others
abbrev pub OnlyTheseAreSpelled : Type 0
OnlyTheseAreSpelled =
    (text : List ℕ) (ps : Pieces) → bytes_of ps ≡ text → ArePlaced [] ps → AreSpelled [] Code ps → AreBroken [] Code ps → ps ≡ pieces_of text

-- ---- integer literals

-- the base of a literal is told by its front (C99 6.4.4.1); the `0` of an octal one is a digit of it
abbrev pub HaveBase : ℕ → List ℕ → List ℕ → Type 0
HaveBase base prefix digits =
    ((base ≡ 16) × ((prefix ≡ codes "0x") ⊎ (prefix ≡ codes "0X")))
    ⊎ (((base ≡ 8) × (prefix ≡ []) × (begins_with (codes "0") digits ≡ true))
    ⊎ ((base ≡ 10) × (prefix ≡ []) × (begins_with (codes "0") digits ≡ false)))

-- a literal is a prefix, digits of the base and a suffix; its value is what the digits write, and its type the first of its list that
-- has the value
pub record IsInteger (v : ℕ) (t : Option CInt) (bytes : List ℕ) : Type 0 where
  pub base : ℕ
  pub prefix : List ℕ
  pub digits : List ℕ
  pub suffix : List ℕ
  pub unsigned : Bool
  pub long : Bool
  pub joined : bytes ≡ prefix ++ (digits ++ suffix)
  pub based : HaveBase base prefix digits
  pub some : 0 < length digits
  pub are : list_all (is_digit_of base) digits ≡ true
  pub value : digits_value base digits ≡ v
  pub small : v ≤ greatest_literal
  pub ends : suffix_of suffix ≡ Some (unsigned, long)
  pub first : t ≡ first_fitting (types_of (nat_eq base 10) unsigned long) v

abbrev pub LiteralsAreIntegers : Type 0
LiteralsAreIntegers = (bytes : List ℕ) (v : ℕ) (t : Option CInt) → literal_of bytes ≡ Some (v, t) → IsInteger v t bytes

-- ---- refusals

-- r is read from the pieces that make up front, each within the limit, and ps are those after them
abbrev pub ReadUpTo : Read → Pieces → List ℕ → Read → Pieces → Type 0
ReadUpTo start (Ended at m) front r ps = (front ≡ []) × (r ≡ start) × (ps ≡ Ended at m)
ReadUpTo start (Broken at f rest) front r ps = (front ≡ []) × (r ≡ start) × (ps ≡ Broken at f rest)
ReadUpTo start (Cut at p bytes more) front r ps =
    ((front ≡ []) × (r ≡ start) × (ps ≡ Cut at p bytes more))
    ⊎ ((after : List ℕ) × (front ≡ bytes ++ after) × (length (add start at p bytes).list ≤ most_tokens) × ReadUpTo (add start at p bytes) more after r ps)

-- what stands there is broken, or one token too many
abbrev pub IsFaulty : Read → Pieces → PlainRefusal → Type 0
IsFaulty r (Broken at f rest) x = x ≡ refused at f rest
IsFaulty r (Cut at p bytes more) x = (x ≡ refused at fault.Limit []) × (most_tokens < length (add r at p bytes).list)
IsFaulty r (Ended at m) x = (x ≡ refused at fault.Limit []) × (most_tokens < length (closed r at m).list)

-- the text is read up to a place where it is faulty, and is refused there
pub record IsRefused (text : List ℕ) (x : PlainRefusal) : Type 0 where
  pub front : List ℕ
  pub read : Read
  pub behind : Pieces
  pub parts : text ≡ front ++ bytes_of behind
  pub sound : ReadUpTo nothing_read (pieces_of text) front read behind
  pub faulty : IsFaulty read behind x
  pub place : x.place ≡ place_of front

-- a text is refused exactly at its first fault
abbrev pub RefusedAtFirstFault : Type 0
RefusedAtFirstFault = (text : List ℕ) (x : PlainRefusal) → (tokens_of text ≡ Err x) ↔ IsRefused text x

-- ---- names

abbrev pub word_then : Piece → List ℕ → List (List ℕ) → List (List ℕ)
word_then piece.Word bytes ws = bytes ∷ ws
word_then piece.Blank bytes ws = ws
word_then (piece.Open m) bytes ws = ws
word_then piece.Close bytes ws = ws
word_then (piece.Number v t) bytes ws = ws
word_then (piece.Letter c) bytes ws = ws
word_then piece.Chars bytes ws = ws
word_then (piece.Mark k) bytes ws = ws

-- the words of the text, in order
abbrev pub words_of : Pieces → List (List ℕ)
words_of (Ended at m) = []
words_of (Broken at f rest) = []
words_of (Cut at p bytes more) = word_then p bytes (words_of more)

abbrev pub NamesInOrder : Type 0
NamesInOrder = (text : List ℕ) (tokens : PlainTokens) → tokens_of text ≡ Ok tokens → tokens.names ≡ with_names [] (words_of (pieces_of text))

abbrev pub NamesDiffer : Type 0
NamesDiffer = (text : List ℕ) (tokens : PlainTokens) → tokens_of text ≡ Ok tokens → AreDistinct tokens.names

-- ---- the list of tokens

-- each token begins after the one before
abbrev pub Ascend : List PlainToken → Type 0
Ascend [] = Unit {0}
Ascend (t ∷ []) = Unit {0}
Ascend (t ∷ u ∷ ts) = (t.place.offset < u.place.offset) × Ascend (u ∷ ts)

abbrev pub is_string : PlainTokenKind → Bool
is_string (token.Chars bytes) = true
is_string _ = false

-- no string follows a string
abbrev pub StringsApart : List PlainToken → Type 0
StringsApart [] = Unit {0}
StringsApart (t ∷ []) = Unit {0}
StringsApart (t ∷ u ∷ ts) = (is_string t.kind && is_string u.kind ≡ false) × StringsApart (u ∷ ts)

abbrev pub TokensAscend : Type 0
TokensAscend = (text : List ℕ) (tokens : PlainTokens) → tokens_of text ≡ Ok tokens → Ascend tokens.list

abbrev pub StringsAreJoined : Type 0
StringsAreJoined = (text : List ℕ) (tokens : PlainTokens) → tokens_of text ≡ Ok tokens → StringsApart tokens.list

abbrev pub TokensAreFew : Type 0
TokensAreFew = (text : List ℕ) (tokens : PlainTokens) → tokens_of text ≡ Ok tokens → length tokens.list ≤ most_tokens

abbrev pub EndIsBehindTheText : Type 0
EndIsBehindTheText = (text : List ℕ) (tokens : PlainTokens) → tokens_of text ≡ Ok tokens → tokens.end ≡ place_of text
