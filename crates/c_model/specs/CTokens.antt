-- The tokens of a C text with annotations (C99 6.4, ACSL), or the refusal of its first fault: the text is cut into pieces with their
-- places, and the pieces make tokens.
use Rattle.std.specs.Prelude.{ℕ, pos, List, [], ◌∷◌, ◌++◌, length, drop, Result, Ok, Err, nat_lt, if◌then◌else◌, codes}
use Rattle.c_syntax.specs.RefusalCodes.{byte_code, token_code, profile_code, limit_code}
use Rattle.c_syntax.specs.declared.place.Place.{Place}
use Rattle.c_syntax.specs.Tokens as token
use Rattle.c_syntax.specs.Tokens.{PlainToken, PlainTokens}
use Rattle.c_syntax.specs.Programs.{PlainRefusal}
use Rattle.c_model.specs.declared.c_tokens.Mode.{Mode}
use Rattle.c_model.specs.declared.c_tokens.Mode.TheVariants.{Code, Block, Line}
use Rattle.c_model.specs.declared.c_tokens.Piece.{Piece}
use Rattle.c_model.specs.declared.c_tokens.Piece.TheVariants as piece
use Rattle.c_model.specs.declared.c_tokens.Fault.{Fault}
use Rattle.c_model.specs.declared.c_tokens.Fault.TheVariants as fault
use Rattle.c_model.specs.Names.{with_name, name_number}
use Rattle.c_model.specs.MonitoredTokens as monitored
use Rattle.c_model.specs.MonitoredTokens.{Read, put, first_byte, whole, nothing_read}
use Rattle.c_model.specs.Literals.{signed_char, string_bytes}
use Rattle.c_model.specs.Directives.{front_word, directive_line}
use Rattle.c_model.specs.Pieces.{word, Pieces, Ended, Broken, Cut, pieces_of}

-- ---- tokens

-- a string literal after the last token, which it joins where that is one (C99 6.4.5 p4)
abbrev pub joined_string : PlainToken → Place → List ℕ → List PlainToken
joined_string t at bs = elim t.kind [
  | token.Chars cs ↦ monitored.token t.place (token.Chars (cs ++ bs)) ∷ []
  | token.Word n ↦ t ∷ monitored.token at (token.Chars bs) ∷ []
  | token.Number v c ↦ t ∷ monitored.token at (token.Chars bs) ∷ []
  | token.Letter v ↦ t ∷ monitored.token at (token.Chars bs) ∷ []
  | token.Mark m ↦ t ∷ monitored.token at (token.Chars bs) ∷ []
  | token.AnnotOpen ↦ t ∷ monitored.token at (token.Chars bs) ∷ []
  | token.AnnotClose ↦ t ∷ monitored.token at (token.Chars bs) ∷ []
  | token.Head k n ↦ t ∷ monitored.token at (token.Chars bs) ∷ []
]

abbrev pub with_string : List PlainToken → Place → List ℕ → List PlainToken
with_string [] at bs = monitored.token at (token.Chars bs) ∷ []
with_string (t ∷ []) at bs = joined_string t at bs
with_string (t ∷ u ∷ ts) at bs = t ∷ with_string (u ∷ ts) at bs

-- the token of a piece after those that are read
unfoldable pub add : Read → Place → Piece → List ℕ → Read
add r at piece.Blank bs = r
add r at (piece.Open m) bs = put r at token.AnnotOpen
add r at piece.Close bs = put r at token.AnnotClose
add r at piece.Word bs = record { names = with_name r.names bs; list = r.list ++ monitored.token at (token.Word (name_number r.names bs)) ∷ [] }
add r at (piece.Number v t) bs = put r at (token.Number (pos v) t)
add r at (piece.Letter b) bs = put r at (token.Letter (signed_char b))
add r at piece.Chars bs = record { names = r.names; list = with_string r.list at (string_bytes 0 (drop 1 bs)) }
add r at (piece.Mark k) bs = put r at (token.Mark k)

-- ---- refusals

abbrev pub code_of : Fault → ℕ
code_of fault.Byte = byte_code
code_of fault.Comment = token_code
code_of fault.Name = token_code
code_of fault.Number = token_code
code_of fault.Letter = token_code
code_of fault.Chars = token_code
code_of fault.Directive = token_code
code_of fault.OutsideWord = profile_code
code_of fault.OutsideDirective = profile_code
code_of fault.Limit = limit_code

abbrev pub word_of : Fault → List ℕ → List ℕ
word_of fault.Byte rest = first_byte rest
word_of fault.Comment rest = codes "comment"
word_of fault.Name rest = codes "name"
word_of fault.Number rest = codes "number"
word_of fault.Letter rest = codes "character"
word_of fault.Chars rest = codes "string"
word_of fault.Directive rest = codes "directive"
word_of fault.OutsideWord rest = word rest
word_of fault.OutsideDirective rest = 35 ∷ front_word (directive_line (drop 1 rest))
word_of fault.Limit rest = codes "tokens"

abbrev pub refused : Place → Fault → List ℕ → PlainRefusal
refused at f rest = record { code = code_of f; place = at; construct = word_of f rest }

-- ---- the tokens of a text

-- the greatest number of tokens of a text (this profile); the ends of annotations count
abbrev pub most_tokens : ℕ
most_tokens = 200000

-- what more gives, where the token that stands there is within the limit
abbrev pub limited : Read → Place → Result PlainTokens PlainRefusal → Result PlainTokens PlainRefusal
limited r at more = if nat_lt most_tokens (length r.list) then Err (refused at fault.Limit []) else more

-- the end of the text ends an annotation with `//@`
abbrev pub closed : Read → Place → Mode → Read
closed r at Code = r
closed r at Block = r
closed r at Line = put r at token.AnnotClose

-- the tokens of the pieces, after those of r
unfoldable pub build : Read → Pieces → Result PlainTokens PlainRefusal
build r (Ended at m) = limited (closed r at m) at (Ok (whole (closed r at m) at))
build r (Broken at f rest) = Err (refused at f rest)
build r (Cut at p bytes more) = limited (add r at p bytes) at (build (add r at p bytes) more)

-- the tokens of a text, or the refusal at its first fault
unfoldable pub tokens_of : List ℕ → Result PlainTokens PlainRefusal
tokens_of text = build nothing_read (pieces_of text)
