-- Ours: laws of the tokens of monitored C.
-- What holds of every monitored text, in the text's own words.
use Rattle.std.specs.Prelude.{◌≡◌, ◌↔◌, ◌≤◌, ◌<◌, ◌⊎◌, ℕ, ◌+◌, List, [], ◌∷◌, ◌++◌, length, take, count_by, reverse, nat_eq, not, ◌&&◌, Bool, true, false, Some}
use Rattle.std.specs.Prelude.{Ok, Err, slice_get, bytes_eq}
use Rattle.std.specs.List.{prefix_len, list_all, list_any}
use Rattle.std.specs.Str.Parse.{digits_value}
use Rattle.c_syntax.specs.declared.place.Place.{Place}
use Rattle.c_syntax.specs.Programs.{PlainRefusal}
use Rattle.c_syntax.specs.Tokens.{PlainTokens}
use Rattle.c_model.specs.declared.monitored_tokens.Piece.{Piece}
use Rattle.c_model.specs.declared.monitored_tokens.Piece.TheVariants as piece
use Rattle.c_model.specs.declared.monitored_tokens.Fault.{Fault}
use Rattle.c_model.specs.declared.monitored_tokens.Fault.TheVariants as fault
use Rattle.c_model.specs.Characters.{is_blank, is_digit, is_nondigit, is_part, in_literal, begins_with}
use Rattle.c_model.specs.Names.{with_name, name_number}
use Rattle.c_model.specs.MonitoredTokens.{Pieces, Ended, Broken, Cut, greatest_literal, chars_of, ends_line, head_line, marks, refused, pieces_of}
use Rattle.c_model.specs.MonitoredTokens.{monitored_tokens}

-- ---- pieces and places

-- the bytes of the pieces, and those from something broken on
abbrev pub bytes_of : Pieces → List ℕ
bytes_of (Ended at) = []
bytes_of (Broken at f rest) = rest
bytes_of (Cut at p bytes more) = bytes ++ bytes_of more

abbrev pub in_line : ℕ → Bool
in_line b = not (nat_eq b 10)

-- the place after these bytes: each byte 10 ends a line, and columns count the bytes after the last of them
abbrev pub place_of : List ℕ → Place
place_of before = record {
  line = 1 + count_by (λ b. nat_eq b 10) before;
  column = 1 + prefix_len in_line (reverse before);
  offset = length before;
}

-- only blanks stand in the last line of these bytes
abbrev pub starts_line : List ℕ → Bool
starts_line before = list_all is_blank (take (prefix_len in_line (reverse before)) (reverse before))

-- each piece is at the place after the bytes before it
abbrev pub ArePlaced : List ℕ → Pieces → Type 0
ArePlaced before (Ended at) = at ≡ place_of before
ArePlaced before (Broken at f rest) = at ≡ place_of before
ArePlaced before (Cut at p bytes more) = (at ≡ place_of before) × ArePlaced (before ++ bytes) more

-- the pieces joined are the text
abbrev pub PiecesAreTheText : Type 0
PiecesAreTheText = (text : List ℕ) → bytes_of (pieces_of text) ≡ text

abbrev pub PiecesArePlaced : Type 0
PiecesArePlaced = (text : List ℕ) → ArePlaced [] (pieces_of text)

-- ---- spelling

-- no byte that passes stands there
abbrev pub Stops : (ℕ → Bool) → List ℕ → Type 0
Stops p [] = Unit {0}
Stops p (b ∷ bs) = p b ≡ false

-- a name (C99 6.4.2.1) goes as far as it can
pub record IsName (bytes behind : List ℕ) : Type 0 where
  pub first : ℕ
  pub others : List ℕ
  pub joined : bytes ≡ first ∷ others
  pub begins : is_nondigit first ≡ true
  pub parts : list_all is_part bytes ≡ true
  pub ends : Stops is_part behind
  pub short : length bytes ≤ 255

-- a number is decimal digits, which no letter, digit, `_` or `.` follows
pub record IsNumber (v : ℕ) (bytes behind : List ℕ) : Type 0 where
  pub some : 0 < length bytes
  pub digits : list_all is_digit bytes ≡ true
  pub value : digits_value 10 bytes ≡ v
  pub small : v ≤ greatest_literal
  pub ends : Stops in_literal behind

-- a string is quotes round characters and escapes
pub record IsString (bytes : List ℕ) : Type 0 where
  pub between : List ℕ
  pub chars : List ℕ
  pub quoted : bytes ≡ 34 ∷ between ++ 34 ∷ []
  pub are : chars_of between ≡ Some chars

abbrev pub IsIn : List (List ℕ) → List ℕ → Type 0
IsIn [] q = ⊥
IsIn (m ∷ ms) q = (m ≡ q) ⊎ IsIn ms q

-- the punctuator at that place of the list, and no longer one begins there (C99 6.4 p4)
pub record IsMark (k : ℕ) (bytes behind : List ℕ) : Type 0 where
  pub at : slice_get marks k ≡ Some bytes
  pub longest : (m rest : List ℕ) → IsIn marks m → bytes ++ behind ≡ m ++ rest → length m ≤ length bytes

-- the directive, alone in its line but for blanks
pub record IsHead (before bytes behind : List ℕ) : Type 0 where
  pub first : starts_line before ≡ true
  pub line : bytes ≡ head_line
  pub last : ends_line behind ≡ true

pub record IsBlank (bytes : List ℕ) : Type 0 where
  pub byte : ℕ
  pub alone : bytes ≡ byte ∷ []
  pub blank : is_blank byte ≡ true

-- what a piece of each kind is, given what stands before and after it
abbrev pub Spells : List ℕ → Piece → List ℕ → List ℕ → Type 0
Spells before piece.Blank bytes behind = IsBlank bytes
Spells before piece.Word bytes behind = IsName bytes behind
Spells before (piece.Number v) bytes behind = IsNumber v bytes behind
Spells before piece.Chars bytes behind = IsString bytes
Spells before (piece.Mark k) bytes behind = IsMark k bytes behind
Spells before piece.Head bytes behind = IsHead before bytes behind

abbrev pub AreSpelled : List ℕ → Pieces → Type 0
AreSpelled before (Ended at) = Unit {0}
AreSpelled before (Broken at f rest) = Unit {0}
AreSpelled before (Cut at p bytes more) = Spells before p bytes (bytes_of more) × AreSpelled (before ++ bytes) more

-- each piece is spelled as its kind is
abbrev pub PiecesAreSpelled : Type 0
PiecesAreSpelled = (text : List ℕ) → AreSpelled [] (pieces_of text)

-- ---- what is broken

-- no piece begins there: no blank, name, number or string, no directive at the beginning of its line, and no punctuator
pub record BeginsNone (before bs : List ℕ) : Type 0 where
  pub first : ℕ
  pub others : List ℕ
  pub joined : bs ≡ first ∷ others
  pub no_blank : is_blank first ≡ false
  pub no_name : is_nondigit first ≡ false
  pub no_number : is_digit first ≡ false
  pub no_string : nat_eq first 34 ≡ false
  pub no_line : starts_line before && nat_eq first 35 ≡ false
  pub no_mark : (m : List ℕ) → IsIn marks m → begins_with m bs ≡ false

pub record IsLongName (bs : List ℕ) : Type 0 where
  pub first : ℕ
  pub others : List ℕ
  pub joined : bs ≡ first ∷ others
  pub begins : is_nondigit first ≡ true
  pub long : 255 < prefix_len is_part bs

-- a digit, and no front is a number
pub record IsNoNumber (bs : List ℕ) : Type 0 where
  pub first : ℕ
  pub others : List ℕ
  pub joined : bs ≡ first ∷ others
  pub begins : is_digit first ≡ true
  pub none : (v : ℕ) (bytes behind : List ℕ) → bs ≡ bytes ++ behind → IsNumber v bytes behind → ⊥

-- a quote, and no front is a string
pub record IsNoString (bs : List ℕ) : Type 0 where
  pub others : List ℕ
  pub joined : bs ≡ 34 ∷ others
  pub none : (bytes behind : List ℕ) → bs ≡ bytes ++ behind → IsString bytes → ⊥

-- a `#` at the beginning of its line, which is another one
pub record IsOtherLine (before bs : List ℕ) : Type 0 where
  pub others : List ℕ
  pub joined : bs ≡ 35 ∷ others
  pub first : starts_line before ≡ true
  pub none : (bytes behind : List ℕ) → bs ≡ bytes ++ behind → IsHead before bytes behind → ⊥

abbrev pub Breaks : List ℕ → Fault → List ℕ → Type 0
Breaks before fault.Byte bs = BeginsNone before bs
Breaks before fault.Name bs = IsLongName bs
Breaks before fault.Number bs = IsNoNumber bs
Breaks before fault.Chars bs = IsNoString bs
Breaks before fault.Directive bs = IsOtherLine before bs

abbrev pub AreBroken : List ℕ → Pieces → Type 0
AreBroken before (Ended at) = Unit {0}
AreBroken before (Broken at f rest) = Breaks before f rest
AreBroken before (Cut at p bytes more) = AreBroken (before ++ bytes) more

-- what is broken is broken as its fault says
abbrev pub BreaksAreFaults : Type 0
BreaksAreFaults = (text : List ℕ) → AreBroken [] (pieces_of text)

-- pieces that meet all these laws are the pieces of the text that they make up, and no others
abbrev pub OnlyTheseAreSpelled : Type 0
OnlyTheseAreSpelled =
    (text : List ℕ) (ps : Pieces) → bytes_of ps ≡ text → ArePlaced [] ps → AreSpelled [] ps → AreBroken [] ps → ps ≡ pieces_of text

-- ---- refusals

-- the pieces make up front, and after them rest is broken
abbrev pub BreakBehind : Pieces → List ℕ → Fault → List ℕ → Type 0
BreakBehind (Ended at) front f rest = ⊥
BreakBehind (Broken at g end) front f rest = (front ≡ []) × (g ≡ f) × (end ≡ rest)
BreakBehind (Cut at p bytes more) front f rest = (after : List ℕ) × (front ≡ bytes ++ after) × BreakBehind more after f rest

-- the text is pieces up to a place where one is broken, and is refused there
pub record IsRefused (text : List ℕ) (x : PlainRefusal) : Type 0 where
  pub front : List ℕ
  pub rest : List ℕ
  pub fault : Fault
  pub parts : text ≡ front ++ rest
  pub pieces : BreakBehind (pieces_of text) front fault rest
  pub broken : Breaks front fault rest
  pub refusal : x ≡ refused (place_of front) fault rest

-- a text is refused exactly at its first fault
abbrev pub RefusedAtFirstFault : Type 0
RefusedAtFirstFault = (text : List ℕ) (x : PlainRefusal) → (monitored_tokens text ≡ Err x) ↔ IsRefused text x

-- ---- names

abbrev pub word_then : Piece → List ℕ → List (List ℕ) → List (List ℕ)
word_then piece.Blank bytes ws = ws
word_then piece.Word bytes ws = bytes ∷ ws
word_then (piece.Number v) bytes ws = ws
word_then piece.Chars bytes ws = ws
word_then (piece.Mark m) bytes ws = ws
word_then piece.Head bytes ws = ws

-- the words of the text, in order
abbrev pub words_of : Pieces → List (List ℕ)
words_of (Ended at) = []
words_of (Broken at f rest) = []
words_of (Cut at p bytes more) = word_then p bytes (words_of more)

-- each that isn't among the names yet goes after them
abbrev pub with_names : List (List ℕ) → List (List ℕ) → List (List ℕ)
with_names names [] = names
with_names names (w ∷ ws) = with_names (with_name names w) ws

-- no name stands twice
abbrev pub AreDistinct : List (List ℕ) → Type 0
AreDistinct [] = Unit {0}
AreDistinct (w ∷ ws) = (list_any (bytes_eq w) ws ≡ false) × AreDistinct ws

abbrev pub NamesInOrder : Type 0
NamesInOrder = (text : List ℕ) (tokens : PlainTokens) → monitored_tokens text ≡ Ok tokens → tokens.names ≡ with_names [] (words_of (pieces_of text))

abbrev pub NamesDiffer : Type 0
NamesDiffer = (text : List ℕ) (tokens : PlainTokens) → monitored_tokens text ≡ Ok tokens → AreDistinct tokens.names

-- the number that a word gets is its place among the names, whatever names come later
abbrev pub NumbersAreOfNames : Type 0
NumbersAreOfNames = (names : List (List ℕ)) (w : List ℕ) (later : List (List ℕ))
    → slice_get (with_names (with_name names w) later) (name_number names w) ≡ Some w
