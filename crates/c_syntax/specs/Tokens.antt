-- The plain form of tokens (C99 6.4): their kinds, numbers, bytes and places, without vectors.
use Rattle.std.specs.Prelude.{ℕ, ℤ, List, map, Option}
use Rattle.c_syntax.specs.declared.place.Place.{Place}
use Rattle.c_syntax.specs.declared.types.CInt.{CInt}
use Rattle.c_syntax.specs.declared.token.TokenKind.{TokenKind}
use Rattle.c_syntax.specs.declared.token.TokenKind.TheVariants as code
use Rattle.c_syntax.specs.declared.token.Token.{Token}
use Rattle.c_syntax.specs.declared.token.Tokens.{Tokens}

pub data PlainTokenKind : Type 0 where
  Word : ℕ → PlainTokenKind
  Number : ℤ → Option CInt → PlainTokenKind
  Letter : ℤ → PlainTokenKind
  Chars : List ℕ → PlainTokenKind
  Mark : ℕ → PlainTokenKind
  AnnotOpen : PlainTokenKind
  AnnotClose : PlainTokenKind
  Head : ℕ → ℕ → PlainTokenKind

pub record PlainToken : Type 0 where
  pub place : Place
  pub kind : PlainTokenKind

pub record PlainTokens : Type 0 where
  pub list : List PlainToken
  pub names : List (List ℕ)
  pub end : Place

abbrev pub plain_token_kind : TokenKind → PlainTokenKind
plain_token_kind (code.Word n) = Word n
plain_token_kind (code.Number v t) = Number v t
plain_token_kind (code.Letter v) = Letter v
plain_token_kind (code.Chars bytes) = Chars bytes
plain_token_kind (code.Mark m) = Mark m
plain_token_kind code.AnnotOpen = AnnotOpen
plain_token_kind code.AnnotClose = AnnotClose
plain_token_kind (code.Head k n) = Head k n

abbrev pub plain_token : Token → PlainToken
plain_token t = record { place = t.place; kind = plain_token_kind t.kind }

abbrev pub plain_tokens : Tokens → PlainTokens
plain_tokens t = record { list = map plain_token t.list.items; names = t.names.items; end = t.end }
