-- How tokens are named where they are refused, and the refusals that name them: of both languages (this profile).
use Rattle.std.specs.Prelude.{ℕ, suc, ◌-◌, unsigned_abs, List, [], ◌∷◌, length, Option, Some, None, eqb, if◌then◌else◌, nat_lt, slice_get, codes}
use Rattle.std.specs.Fmt.{decimal}
use Rattle.grammar.specs.Syntax as grammar
use Rattle.c_syntax.specs.RefusalCodes.{grammar_code, limit_code}
use Rattle.c_syntax.specs.declared.place.Place.{Place}
use Rattle.c_syntax.specs.Tokens as token
use Rattle.c_syntax.specs.Tokens.{PlainTokenKind, PlainToken, PlainTokens}
use Rattle.c_syntax.specs.Programs.{PlainRefusal}
use Rattle.c_model.specs.MonitoredTokens.{marks, head_line}
use Rattle.c_model.specs.Pieces.{annotation_marks}
use Rattle.c_model.specs.ExpressionTyping.{name_at}
use Rattle.c_model.specs.Terminals.{expression_limit}

-- ---- words

abbrev pub or_nothing : Option (List ℕ) → List ℕ
or_nothing None = []
or_nothing (Some w) = w

-- a punctuator, by its place in the list of all, the annotations' own after the others
abbrev pub mark_word : ℕ → List ℕ
mark_word m = if nat_lt m (length marks) then or_nothing (slice_get marks m) else or_nothing (slice_get annotation_marks (m - length marks))

-- a token: annotated C has none of a line that begins with `#`, and monitored C none of annotations and no character literal
abbrev pub token_word : List (List ℕ) → PlainTokenKind → List ℕ
token_word names (token.Word n) = name_at names n
token_word names (token.Number z t) = decimal (unsigned_abs z)
token_word names (token.Letter z) = codes "character"
token_word names (token.Chars bytes) = codes "string"
token_word names (token.Mark m) = mark_word m
token_word names token.AnnotOpen = codes "annotation"
token_word names token.AnnotClose = codes "end of annotation"
token_word names (token.Head k n) = head_line

-- the first of tokens, or the end of the text
abbrev pub place_at : Place → List PlainToken → Place
place_at end [] = end
place_at end (t ∷ ts) = t.place

abbrev pub word_at : List (List ℕ) → List PlainToken → List ℕ
word_at names [] = codes "end of file"
word_at names (t ∷ ts) = token_word names t.kind

-- a limit
abbrev pub limit_word : ℕ → List ℕ
limit_word limit = if eqb limit expression_limit then codes "expression" else codes "nesting"

-- ---- refusals

-- the tokens from a place on
abbrev pub from_place : Place → List PlainToken → List PlainToken
from_place at [] = []
from_place at (t ∷ ts) = if eqb t.place.offset at.offset then t ∷ ts else from_place at ts

-- the refusal at a place, by the token that stands there
abbrev pub refused_at_place : PlainTokens → ℕ → Place → PlainRefusal
refused_at_place ts code at = record { code = code; place = at; construct = word_at ts.names (from_place at ts.list) }

-- the last n of tokens
abbrev pub last : ℕ → List PlainToken → List PlainToken
last n [] = []
last n (t ∷ ts) = if eqb n (suc (length ts)) then t ∷ ts else last n ts

-- the refusal at the first of some tokens
abbrev pub refused_at : PlainTokens → ℕ → List PlainToken → PlainRefusal
refused_at ts code rest = record { code = code; place = place_at ts.end rest; construct = word_at ts.names rest }

-- E4 at the first token that can't follow those before it, or E11 at one that passes a limit
abbrev pub syntax_refusal : PlainTokens → grammar.ParseFault → PlainRefusal
syntax_refusal ts (grammar.At n) = refused_at ts grammar_code (last n ts.list)
syntax_refusal ts (grammar.Over limit n) = record { code = limit_code; place = place_at ts.end (last n ts.list); construct = limit_word limit }
