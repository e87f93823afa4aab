-- The tokens of a monitored text: a word token has the number of a name, and a string token has bytes.
use Rattle.std.proofs.Common.{◌≡◌, ℕ, zero, suc, ◌<◌, ◌≤◌, Bool, true, false, cond, ◌&&◌, nat_le, eqb, List, [], ◌∷◌, ◌++◌, length, length-append, Option, Some, None, unwrap_or, slice_get, Result, Ok, bytes_eq, refl, subst, arith}
use Rattle.std.proofs.lemmas.Bool.Decides.{nat_tests}
use Rattle.std.proofs.lemmas.Bool.{leb-true}
use Rattle.std.specs.List.{list_any, AllByRecursion}
use Rattle.c_syntax.specs.declared.place.Place.{Place}
use Rattle.c_syntax.specs.Tokens as token
use Rattle.c_syntax.specs.Tokens.{PlainTokenKind, PlainToken, PlainTokens}
use Rattle.c_syntax.specs.Programs.{PlainRefusal}
use Rattle.c_model.specs.declared.monitored_tokens.Piece.{Piece}
use Rattle.c_model.specs.declared.monitored_tokens.Piece.TheVariants as piece
use Rattle.c_model.specs.Names.{with_name, name_number}
use Rattle.c_model.specs.MonitoredTokens.{is_plain, is_octal, octal_value, octal_byte, in_front, chars_of, escape_of, Pieces, Ended, Broken, Cut, Read, inside, add, whole, build, nothing_read, pieces_of, monitored_tokens}
use Rattle.c_model.proofs.NameLaws.{number_points}

-- ---- bytes of strings

abbrev pub AreBytes : List ℕ → Type 0
AreBytes bytes = AllByRecursion (λ b. b < 256) bytes

abbrev IsByteWhereAny : Option ℕ → Type 0
IsByteWhereAny None = Unit {0}
IsByteWhereAny (Some b) = b < 256

abbrev AreBytesWhereAny : Option (List ℕ) → Type 0
AreBytesWhereAny None = Unit {0}
AreBytesWhereAny (Some bytes) = AreBytes bytes

front_bytes : (b : Option ℕ) (bs : Option (List ℕ)) → IsByteWhereAny b → AreBytesWhereAny bs → AreBytesWhereAny (in_front b bs)
front_bytes None bs h g = tt
front_bytes (Some b) None h g = tt
front_bytes (Some b) (Some bs) h g = (h, g)

plain_byte : (b : ℕ) → is_plain b ≡ true → b < 256
plain_byte b h = grind (arith, nat_tests)

fourth_true : (p q r s : Bool) → p && q && r && s ≡ true → s ≡ true
fourth_true true true true s e = e
fourth_true true true false s e = absurd cc
fourth_true true false r s e = absurd cc
fourth_true false q r s e = absurd cc

octal_is_byte : (a b c : ℕ) → IsByteWhereAny (octal_byte a b c)
octal_is_byte a b c = by (is_octal a && is_octal b && is_octal c && nat_le (octal_value a b c) 255) refl
  where
    by : (t : Bool) → (is_octal a && is_octal b && is_octal c && nat_le (octal_value a b c) 255) ≡ t → IsByteWhereAny (cond t (Some (octal_value a b c)) None)
    by true e =
        let le : octal_value a b c ≤ 255 = leb-true (octal_value a b c) 255 (fourth_true (is_octal a) (is_octal b) (is_octal c) (nat_le (octal_value a b c) 255) e) in
        omega (arith, le)
    by false e = tt

plain_or_escape : (b : ℕ) (p q : Bool) (more escape : Option (List ℕ)) → is_plain b ≡ p → AreBytesWhereAny more → AreBytesWhereAny escape → AreBytesWhereAny (cond p (in_front (Some b) more) (cond q escape None))
plain_or_escape b true q more escape e h g = front_bytes (Some b) more (plain_byte b e) h
plain_or_escape b false true more escape e h g = g
plain_or_escape b false false more escape e h g = tt

mutual
  chars_bytes : (bs : List ℕ) → AreBytesWhereAny (chars_of bs)
  chars_bytes [] = tt
  chars_bytes (b ∷ bs) = plain_or_escape b (is_plain b) (eqb b 92) (chars_of bs) (escape_of bs) refl (chars_bytes bs) (escape_bytes bs)

  escape_bytes : (bs : List ℕ) → AreBytesWhereAny (escape_of bs)
  escape_bytes [] = tt
  escape_bytes (a ∷ []) = tt
  escape_bytes (a ∷ b ∷ []) = tt
  escape_bytes (a ∷ b ∷ c ∷ bs) = front_bytes (octal_byte a b c) (chars_of bs) (octal_is_byte a b c) (chars_bytes bs)

bytes_or_none : (o : Option (List ℕ)) → AreBytesWhereAny o → AreBytes (unwrap_or o [])
bytes_or_none None h = tt
bytes_or_none (Some bytes) h = h

-- ---- tokens

-- a token of a text with so many names
abbrev pub IsLexedKind : ℕ → PlainTokenKind → Type 0
IsLexedKind size (token.Word n) = n < size
IsLexedKind size (token.Chars bytes) = AreBytes bytes
IsLexedKind size (token.Number z t) = Unit {0}
IsLexedKind size (token.Letter z) = Unit {0}
IsLexedKind size (token.Mark m) = Unit {0}
IsLexedKind size token.AnnotOpen = Unit {0}
IsLexedKind size token.AnnotClose = Unit {0}
IsLexedKind size (token.Head k n) = Unit {0}

abbrev pub IsLexed : ℕ → PlainToken → Type 0
IsLexed size t = IsLexedKind size t.kind

abbrev pub AreLexed : ℕ → List PlainToken → Type 0
AreLexed size ts = AllByRecursion (IsLexed size) ts

within : (names : List (List ℕ)) (n : ℕ) (w : List ℕ) → slice_get names n ≡ Some w → n < length names
within [] zero w e = absurd cc
within [] (suc n) w e = absurd cc
within (x ∷ names) zero w e = omega arith
within (x ∷ names) (suc n) w e = omega (arith, within names n w e)

number_within : (names : List (List ℕ)) (w : List ℕ) → name_number names w < length (with_name names w)
number_within names w = within (with_name names w) (name_number names w) w (number_points names w [])

kind_more : (n m : ℕ) (k : PlainTokenKind) → n ≤ m → IsLexedKind n k → IsLexedKind m k
kind_more n m (token.Word i) le h = omega (arith, h)
kind_more n m (token.Number z t) le h = tt
kind_more n m (token.Letter z) le h = tt
kind_more n m (token.Chars bytes) le h = h
kind_more n m (token.Mark i) le h = tt
kind_more n m token.AnnotOpen le h = tt
kind_more n m token.AnnotClose le h = tt
kind_more n m (token.Head k i) le h = tt

all_more : (n m : ℕ) (ts : List PlainToken) → n ≤ m → AreLexed n ts → AreLexed m ts
all_more n m [] le h = tt
all_more n m (t ∷ ts) le h = (kind_more n m t.kind le h.0, all_more n m ts le h.1)

behind : (n : ℕ) (ts : List PlainToken) (t : PlainToken) → AreLexed n ts → IsLexed n t → AreLexed n (ts ++ t ∷ [])
behind n [] t h p = (p, tt)
behind n (u ∷ ts) t h p = (h.0, behind n ts t h.1 p)

grows : (names : List (List ℕ)) (w : List ℕ) → length names ≤ length (with_name names w)
grows names w = by (list_any (bytes_eq w) names)
  where
    by : (b : Bool) → length names ≤ length (cond b names (names ++ w ∷ []))
    by true = omega arith
    by false = omega (arith, length-append names (w ∷ []))

abbrev IsRead : Read → Type 0
IsRead r = AreLexed (length r.names) r.list

add_lexed : (r : Read) (at : Place) (p : Piece) (bs : List ℕ) → IsRead r → IsRead (add r at p bs)
unfolding add
add_lexed r at piece.Blank bs h = h
add_lexed r at piece.Word bs h = behind (length (with_name r.names bs)) r.list _ (all_more (length r.names) (length (with_name r.names bs)) r.list (grows r.names bs) h) (number_within r.names bs)
add_lexed r at (piece.Number v) bs h = behind (length r.names) r.list _ h tt
add_lexed r at piece.Chars bs h = behind (length r.names) r.list _ h (bytes_or_none (chars_of (inside bs)) (chars_bytes (inside bs)))
add_lexed r at (piece.Mark k) bs h = behind (length r.names) r.list _ h tt
add_lexed r at piece.Head bs h = behind (length r.names) r.list _ h tt

same_tokens : (x y : PlainTokens) → (let r : Result PlainTokens PlainRefusal = Ok x in r) ≡ Ok y → x ≡ y
same_tokens x y e = cc

build_lexed : (r : Read) (ps : Pieces) (tokens : PlainTokens) → IsRead r → build r ps ≡ Ok tokens → AreLexed (length tokens.names) tokens.list
unfolding build
build_lexed r (Ended at) tokens h e = subst (λ (x : PlainTokens). AreLexed (length x.names) x.list) (same_tokens (whole r at) tokens e) h
build_lexed r (Broken at f rest) tokens h e = absurd cc
build_lexed r (Cut at p bytes more) tokens h e = build_lexed (add r at p bytes) more tokens (add_lexed r at p bytes h) e

pub tokens_lexed : (text : List ℕ) (tokens : PlainTokens) → monitored_tokens text ≡ Ok tokens → AreLexed (length tokens.names) tokens.list
unfolding monitored_tokens
tokens_lexed text tokens e = build_lexed nothing_read (pieces_of text) tokens tt e
