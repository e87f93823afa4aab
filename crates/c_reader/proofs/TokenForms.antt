-- The tokens of a text, and what holds of each reading of a production over them, by the number of its tokens.
use Rattle.std.proofs.Common.{◌≡◌, ℕ, ◌<◌, ℤ, pos, ◌≤ℤ◌, Option, Some, None, refl, ap, ◌∙◌, subst}
use Rattle.grammar.specs.Syntax.{Syntax, one}
use Rattle.grammar.proofs.Readings.{EachOf, each_one}
use Rattle.c_syntax.specs.declared.place.Place.{Place}
use Rattle.c_syntax.specs.Tokens as token
use Rattle.c_syntax.specs.Tokens.{PlainTokenKind, PlainToken}
use Rattle.c_model.specs.ExpressionGrammar.{letter_of}
use Rattle.c_model.specs.Formed.{IsApart}
use Rattle.c_model.specs.LetterValues.{IsCharacter}
use Rattle.c_model.specs.Terminals.{placed}
use Rattle.c_model.specs.ReadTree.{AreBytes}

-- a token of a text with so many names: a word has one of their numbers, a literal is never negative, a character is a value of `char`, and a
-- string is of bytes
abbrev pub IsLexedKind : ℕ → PlainTokenKind → Type 0
IsLexedKind size (token.Word n) = n < size
IsLexedKind size (token.Number z t) = pos 0 ≤ℤ z
IsLexedKind size (token.Letter z) = IsCharacter z
IsLexedKind size (token.Chars bytes) = AreBytes bytes
IsLexedKind size _ = Unit {0}

-- a word's offset is no number of another thing
abbrev pub IsWordApart : PlainTokenKind → Place → Type 0
IsWordApart (token.Word n) at = IsApart at
IsWordApart _ at = Unit {0}

abbrev pub IsLexed : ℕ → PlainToken → Type 0
IsLexed size t = IsLexedKind size t.kind × IsWordApart t.kind t.place

-- each value that G reads of such tokens is P at the number of its tokens
abbrev pub Each : ℕ → {A : Type 0} → Syntax PlainToken A → (ℕ → A → Type 0) → Type 0
Each size G P = EachOf (IsLexed size) G P

pub each_token : {size : ℕ} {A : Type 0} (f : PlainToken → Option A) → Each size (one f) (λ k x. k ≡ 1)
each_token f = each_one f (λ t x _ e. refl)

pub each_any : {size : ℕ} {A : Type 0} (G : Syntax PlainToken A) → Each size G (λ k x. Unit {0})
each_any G = record { holds = λ a x o r. tt }

-- ---- tokens with their places

pub placed_is : {A : Type 0} (f : PlainTokenKind → Option A) (t : PlainToken) (y : A × Place) → placed f t ≡ Some y → f t.kind ≡ Some y.0
placed_is {A} f t y e = by (f t.kind) refl e
  where
    by : (o : Option A) → f t.kind ≡ o → elim o [ Some x ↦ Some (x, t.place) | None ↦ None ] ≡ Some y → f t.kind ≡ Some y.0
    by (Some x) is e = let same : (x, t.place) ≡ y = cc in is ∙ ap (λ (w : A × Place). Some w.0) same
    by None is e = absurd cc

pub placed_at : {A : Type 0} (f : PlainTokenKind → Option A) (t : PlainToken) (y : A × Place) → placed f t ≡ Some y → t.place ≡ y.1
placed_at {A} f t y e = by (f t.kind) e
  where
    by : (o : Option A) → elim o [ Some x ↦ Some (x, t.place) | None ↦ None ] ≡ Some y → t.place ≡ y.1
    by (Some x) e = let same : (x, t.place) ≡ y = cc in ap (λ (w : A × Place). w.1) same
    by None e = absurd cc

-- ---- characters

letter_is : (size : ℕ) (t : PlainTokenKind) (y : ℤ) → IsLexedKind size t → letter_of t ≡ Some y → IsCharacter y
letter_is size (token.Letter z) y h e = let same : z ≡ y = cc in subst IsCharacter same h
letter_is size (token.Number z c) y h e = absurd cc
letter_is size (token.Word n) y h e = absurd cc
letter_is size (token.Chars bytes) y h e = absurd cc
letter_is size (token.Mark m) y h e = absurd cc
letter_is size token.AnnotOpen y h e = absurd cc
letter_is size token.AnnotClose y h e = absurd cc
letter_is size (token.Head k n) y h e = absurd cc

pub each_letter : {size : ℕ} → Each size (one (placed letter_of)) (λ k x. (k ≡ 1) × IsCharacter x.0)
each_letter {size} = each_one _ (λ t x h e. (refl, letter_is size t.kind x.0 h.0 (placed_is letter_of t x e)))
