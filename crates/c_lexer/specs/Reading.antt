-- Ours: how the code compares with the tokens that c_model defines (C99 6.4), and with those of monitored C.
-- What a function read of a text is what the definition gives, unless memory ran out.
use Rattle.std.specs.Prelude.{◌≡◌, ◌≤◌, ℕ, List, map, Result, Ok, Err, MatchResult}
use Rattle.std.specs.Global.{Vec}
use Rattle.indexmap.specs.IndexSet.{IndexSet}
use Rattle.c_syntax.specs.declared.refusal.FrontFault.{FrontFault}
use Rattle.c_syntax.specs.declared.refusal.FrontFault.TheVariants.{Refused, Memory}
use Rattle.c_syntax.specs.declared.token.Tokens.{Tokens}
use Rattle.c_syntax.specs.Tokens.{plain_token, PlainTokens, plain_tokens}
use Rattle.c_syntax.specs.Programs.{PlainRefusal, plain_refusal}
use Rattle.c_model.specs.declared.monitored_tokens.Piece.{Piece}
use Rattle.c_model.specs.declared.monitored_tokens.Piece.TheVariants as piece
use Rattle.c_model.specs.MonitoredTokens.{Read, greatest_literal}
use Rattle.c_lexer.specs.declared.reading.Reading.{Reading}

-- a fault is this refusal, unless memory ran out
abbrev pub IsRefusal : FrontFault → PlainRefusal → Type 0
IsRefusal (Refused r) x = plain_refusal r ≡ x
IsRefusal Memory x = Unit {0}

-- the definition gives the refusal, unless memory ran out
abbrev pub Refuses : {Y : Type 0} → FrontFault → Result Y PlainRefusal → Type 0
Refuses (Refused r) read = read ≡ Err (plain_refusal r)
Refuses Memory read = Unit {0}

abbrev pub Gives : Result Tokens FrontFault → Result PlainTokens PlainRefusal → Type 0
Gives result read = MatchResult result (λ tokens. read ≡ Ok (plain_tokens tokens)) (λ fault. Refuses fault read)

-- names, by their bytes
abbrev pub spelled : List (Vec ℕ) → List (List ℕ)
spelled vs = map (λ v. v.items) vs

abbrev pub seen : {S : Type 0} → IndexSet (Vec ℕ) S → List (List ℕ)
seen s = spelled s.keys

-- what is read so far
abbrev pub read_of : Reading → Read
read_of r = record { names = seen r.names; list = map plain_token r.list.items }

-- a number of a piece is small enough for a token
abbrev pub FitsPiece : Piece → Type 0
FitsPiece piece.Blank = Unit {0}
FitsPiece piece.Word = Unit {0}
FitsPiece (piece.Number v) = v ≤ greatest_literal
FitsPiece piece.Chars = Unit {0}
FitsPiece (piece.Mark m) = Unit {0}
FitsPiece piece.Head = Unit {0}
