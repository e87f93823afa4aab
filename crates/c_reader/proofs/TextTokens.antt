-- The tokens of a C text: its names are words, a word token has the number of a name, literals are never negative, characters are
-- those of bytes, and strings are of bytes.
use Rattle.std.proofs.Common.{◌≡◌, ℕ, zero, suc, ◌<◌, ◌≤◌, ◌-◌, pos, negsuc, ◌≤ℤ◌, nat_lt, Bool, true, false, cond, if◌then◌else◌, ◌&&◌, ◌||◌, nat_eq, ltb, List, [], ◌∷◌, ◌++◌, length, length-append, drop, map}
use Rattle.std.proofs.Common.{Some, Result, Ok, Err, ◌⊎◌, inl, inr, bytes_eq, refl, sym, ap, subst, ◌∙◌, arith}
use Rattle.std.proofs.lemmas.Bool.{eqb-true, ltb-true, ltb-false}
use Rattle.std.proofs.lemmas.Bool.Decides.{nat_tests}
use Rattle.std.proofs.lemmas.Int.{ints}
use Rattle.std.specs.Prelude.{slice_get}
use Rattle.std.specs.List.{list_any, list_all, AllByRecursion}
use Rattle.c_syntax.specs.declared.place.Place.{Place}
use Rattle.c_syntax.specs.Tokens as token
use Rattle.c_syntax.specs.Tokens.{PlainTokenKind, PlainToken, PlainTokens}
use Rattle.c_syntax.specs.Programs.{PlainRefusal}
use Rattle.c_model.specs.declared.c_tokens.Mode.{Mode}
use Rattle.c_model.specs.declared.c_tokens.Mode.TheVariants.{Code, Block, Line}
use Rattle.c_model.specs.declared.c_tokens.Piece.{Piece}
use Rattle.c_model.specs.declared.c_tokens.Piece.TheVariants as piece
use Rattle.c_model.specs.declared.c_tokens.Fault.TheVariants as fault
use Rattle.c_model.specs.Characters.{is_nondigit, is_part}
use Rattle.c_model.specs.Literals.{signed_char}
use Rattle.c_model.specs.Names.{with_name, name_number}
use Rattle.c_model.specs.MonitoredTokens.{Read, whole, nothing_read}
use Rattle.c_model.specs.MonitoredTokenLaws.{with_names}
use Rattle.c_model.specs.Pieces.{Pieces, Ended, Broken, Cut, begins_name, mode_after, pieces_of}
use Rattle.c_model.specs.CTokens.{joined_string, with_string, add, refused, closed, most_tokens, build, tokens_of}
use Rattle.c_model.specs.CTokenLaws.{bytes_of, IsName, Spells, AreSpelled, word_then, words_of, Ascend}
use Rattle.c_model.specs.declared.vocabulary.LogicWord.{LogicWord}
use Rattle.c_model.specs.declared.vocabulary.LogicWord.TheVariants as logic
use Rattle.c_model.specs.Vocabulary.{word_of, word_at}
use Rattle.c_model.specs.ExpressionGrammar.{name_kind, logic_word_kind, word_kind}
use Rattle.c_model.specs.Formed as program
use Rattle.c_model.specs.ExpressionTyping.{name_at}
use Rattle.c_model.proofs.Spelling.{chosen}
use Rattle.c_model.proofs.NameLaws.{number_points}
use Rattle.c_model.proofs.CNameLaws.{names_in_order}
use Rattle.c_model.proofs.CPieceLaws.{pieces_joined, pieces_spelled}
use Rattle.c_model.proofs.CListLaws.{AllBelow, WordBelow, WordsBelow, tokens_ascend, tokens_below, words_below}
use Rattle.c_model.specs.ReadTree.{AreBytes}
use Rattle.c_model.specs.LetterValues.{IsCharacter}
use Rattle.c_reader.proofs.TokenForms.{IsLexed, IsLexedKind, IsWordApart}
use Rattle.c_reader.proofs.PlacedReadings.{Reach}
use Rattle.c_reader.proofs.DeclarationForms.{IsNewName}
use Rattle.c_reader.proofs.StringBytes.{bytes_joined, bytes_before, bytes_behind, bytes_dropped, letter_is_byte, string_is_bytes}

-- ---- words

-- a letter, `_` or `\`, and then letters, digits and `_`, at most 255 bytes
pub record IsWord (w : List ℕ) : Type 0 where
  pub first : ℕ
  pub others : List ℕ
  pub joined : w ≡ first ∷ others
  pub begins : (is_part first ≡ true) ⊎ (first ≡ 92)
  pub parts : AllByRecursion (λ b. is_part b ≡ true) others
  pub short : length w ≤ 255

abbrev AreWords : List (List ℕ) → Type 0
AreWords ws = AllByRecursion IsWord ws

and_parts : (a b : Bool) → a && b ≡ true → (a ≡ true) × (b ≡ true)
and_parts true b h = (refl, h)
and_parts false b h = absurd cc

each_part : (bs : List ℕ) → list_all is_part bs ≡ true → AllByRecursion (λ b. is_part b ≡ true) bs
each_part [] h = tt
each_part (b ∷ bs) h = let p = and_parts (is_part b) (list_all is_part bs) h in (p.0, each_part bs p.1)

or_parts : (a b : Bool) → a || b ≡ true → (a ≡ true) ⊎ (b ≡ true)
or_parts true b h = inl refl
or_parts false b h = inr h

begin_of : (m : Mode) (b : ℕ) (bs : List ℕ) → begins_name m (b ∷ bs) ≡ true → (is_part b ≡ true) ⊎ (b ≡ 92)
begin_of m b bs h = elim (or_parts (is_nondigit b) _ h) [
  | inl e ↦ inl (rw e refl)
  | inr e ↦ inr (eqb-true b 92 (and_parts _ (nat_eq b 92) (and_parts _ _ e).0).1)
]

name_is_word : (m : Mode) (bytes behind : List ℕ) → IsName m bytes behind → IsWord bytes
name_is_word m bytes behind n = record {
  first = n.first;
  others = n.others;
  joined = n.joined;
  begins = begin_of m n.first (n.others ++ behind) (subst (λ (w : List ℕ). begins_name m (w ++ behind) ≡ true) n.joined n.begins);
  parts = each_part n.others n.parts;
  short = n.short;
}

then_words : (before : List ℕ) (m : Mode) (p : Piece) (bytes behind : List ℕ) (ws : List (List ℕ)) → Spells before m p bytes behind → AreWords ws → AreWords (word_then p bytes ws)
then_words before m piece.Blank bytes behind ws s w = w
then_words before m (piece.Open n) bytes behind ws s w = w
then_words before m piece.Close bytes behind ws s w = w
then_words before m piece.Word bytes behind ws s w = (name_is_word m bytes behind s, w)
then_words before m (piece.Number v t) bytes behind ws s w = w
then_words before m (piece.Letter c) bytes behind ws s w = w
then_words before m piece.Chars bytes behind ws s w = w
then_words before m (piece.Mark k) bytes behind ws s w = w

words_are : (before : List ℕ) (m : Mode) (ps : Pieces) → AreSpelled before m ps → AreWords (words_of ps)
words_are before m (Ended at n) s = tt
words_are before m (Broken at f rest) s = tt
words_are before m (Cut at p bytes more) s = then_words before m p bytes (bytes_of more) (words_of more) s.0 (words_are (before ++ bytes) (mode_after m p) more s.1)

one_more : (names : List (List ℕ)) (w : List ℕ) → AreWords names → IsWord w → AreWords (names ++ w ∷ [])
one_more [] w all h = (h, tt)
one_more (n ∷ names) w all h = (all.0, one_more names w all.1 h)

one_name : (names : List (List ℕ)) (w : List ℕ) (b : Bool) → AreWords names → IsWord w → AreWords (cond b names (names ++ w ∷ []))
one_name names w true all h = all
one_name names w false all h = one_more names w all h

all_names : (names ws : List (List ℕ)) → AreWords names → AreWords ws → AreWords (with_names names ws)
all_names names [] all h = all
all_names names (w ∷ ws) all h = all_names (with_name names w) ws (one_name names w (list_any (bytes_eq w) names) all h.0) h.1

names_are_words : (text : List ℕ) (tokens : PlainTokens) → tokens_of text ≡ Ok tokens → AreWords tokens.names
names_are_words text tokens is = subst AreWords (sym (names_in_order text tokens is)) (all_names [] (words_of (pieces_of text)) tt (words_are [] Code (pieces_of text) (pieces_spelled text)))

-- ---- tokens

within : (names : List (List ℕ)) (n : ℕ) (w : List ℕ) → slice_get names n ≡ Some w → n < length names
within [] zero w e = absurd cc
within [] (suc n) w e = absurd cc
within (x ∷ names) zero w e = omega arith
within (x ∷ names) (suc n) w e = omega (arith, within names n w e)

number_within : (names : List (List ℕ)) (w : List ℕ) → name_number names w < length (with_name names w)
number_within names w = within (with_name names w) (name_number names w) w (number_points names w [])

kind_more : (n m : ℕ) (k : PlainTokenKind) → n ≤ m → IsLexedKind n k → IsLexedKind m k
kind_more n m (token.Word i) le h = omega (arith, h)
kind_more n m (token.Number z t) le h = h
kind_more n m (token.Letter z) le h = h
kind_more n m (token.Chars bytes) le h = h
kind_more n m (token.Mark i) le h = tt
kind_more n m token.AnnotOpen le h = tt
kind_more n m token.AnnotClose le h = tt
kind_more n m (token.Head k i) le h = tt

abbrev HasKind : ℕ → PlainToken → Type 0
HasKind n t = IsLexedKind n t.kind

abbrev AreLexed : ℕ → List PlainToken → Type 0
AreLexed n ts = AllByRecursion (HasKind n) ts

all_more : (n m : ℕ) (ts : List PlainToken) → n ≤ m → AreLexed n ts → AreLexed m ts
all_more n m [] le h = tt
all_more n m (t ∷ ts) le h = (kind_more n m t.kind le h.0, all_more n m ts le h.1)

behind : (n : ℕ) (ts : List PlainToken) (t : PlainToken) → AreLexed n ts → HasKind n t → AreLexed n (ts ++ t ∷ [])
behind n [] t h p = (p, tt)
behind n (u ∷ ts) t h p = (h.0, behind n ts t h.1 p)

joined_lexed : (n : ℕ) (t : PlainToken) (at : Place) (bs : List ℕ) → HasKind n t → AreBytes bs → AreLexed n (joined_string t at bs)
joined_lexed n t at bs h are = by t.kind t.place h
  where
    by : (k : PlainTokenKind) (p : Place) → IsLexedKind n k → AreLexed n (joined_string (record { place = p; kind = k }) at bs)
    by (token.Chars cs) p h = (bytes_joined cs bs h are, tt)
    by (token.Word i) p h = (h, (are, tt))
    by (token.Number v c) p h = (h, (are, tt))
    by (token.Letter v) p h = (h, (are, tt))
    by (token.Mark i) p h = (tt, (are, tt))
    by token.AnnotOpen p h = (tt, (are, tt))
    by token.AnnotClose p h = (tt, (are, tt))
    by (token.Head k i) p h = (tt, (are, tt))

string_lexed : (n : ℕ) (ts : List PlainToken) (at : Place) (bs : List ℕ) → AreLexed n ts → AreBytes bs → AreLexed n (with_string ts at bs)
string_lexed n [] at bs h are = (are, tt)
string_lexed n (t ∷ []) at bs h are = joined_lexed n t at bs h.0 are
string_lexed n (t ∷ u ∷ ts) at bs h are = (h.0, string_lexed n (u ∷ ts) at bs h.1 are)

grows : (names : List (List ℕ)) (w : List ℕ) → length names ≤ length (with_name names w)
grows names w = by (list_any (bytes_eq w) names)
  where
    by : (b : Bool) → length names ≤ length (cond b names (names ++ w ∷ []))
    by true = omega arith
    by false = omega (arith, length-append names (w ∷ []))

abbrev IsRead : Read → Type 0
IsRead r = AreLexed (length r.names) r.list

-- a byte is a value of `char`, as a signed one
is_character : (c : ℕ) → c < 256 → IsCharacter (signed_char c)
is_character c lt = by (nat_lt c 128) refl
  where
    by : (b : Bool) → nat_lt c 128 ≡ b → IsCharacter (if b then pos c else negsuc (255 - c))
    by true e = let less = ltb-true c 128 e in record { low = omega (arith, ints); high = omega (arith, ints, less) }
    by false e = let least = ltb-false c 128 e in record { low = omega (arith, ints, lt, least); high = omega (arith, ints) }

-- the piece is no character constant, or that of a byte
abbrev IsByteLetter : Piece → Type 0
IsByteLetter (piece.Letter c) = c < 256
IsByteLetter _ = Unit {0}

abbrev LettersAreBytes : Pieces → Type 0
LettersAreBytes (Ended at n) = Unit {0}
LettersAreBytes (Broken at f rest) = Unit {0}
LettersAreBytes (Cut at p bytes more) = IsByteLetter p × LettersAreBytes more

spelled_letter : (before : List ℕ) (m : Mode) (p : Piece) (bytes behind : List ℕ) → Spells before m p bytes behind → AreBytes bytes → AreBytes behind → IsByteLetter p
spelled_letter before m piece.Blank bytes behind s h g = tt
spelled_letter before m (piece.Open n) bytes behind s h g = tt
spelled_letter before m piece.Close bytes behind s h g = tt
spelled_letter before m piece.Word bytes behind s h g = tt
spelled_letter before m (piece.Number v t) bytes behind s h g = tt
spelled_letter before m (piece.Letter c) bytes behind s h g = letter_is_byte c bytes behind s h g
spelled_letter before m piece.Chars bytes behind s h g = tt
spelled_letter before m (piece.Mark k) bytes behind s h g = tt

letters_are_bytes : (before : List ℕ) (m : Mode) (ps : Pieces) → AreSpelled before m ps → AreBytes (bytes_of ps) → LettersAreBytes ps
letters_are_bytes before m (Ended at n) s are = tt
letters_are_bytes before m (Broken at f rest) s are = tt
letters_are_bytes before m (Cut at p bytes more) s are =
    let behind = bytes_behind bytes (bytes_of more) are in
    (spelled_letter before m p bytes (bytes_of more) s.0 (bytes_before bytes (bytes_of more) are) behind, letters_are_bytes (before ++ bytes) (mode_after m p) more s.1 behind)

add_lexed : (r : Read) (at : Place) (p : Piece) (bs : List ℕ) → AreBytes bs → IsByteLetter p → IsRead r → IsRead (add r at p bs)
unfolding add
add_lexed r at piece.Blank bs are l h = h
add_lexed r at (piece.Open m) bs are l h = behind (length r.names) r.list _ h tt
add_lexed r at piece.Close bs are l h = behind (length r.names) r.list _ h tt
add_lexed r at piece.Word bs are l h = behind (length (with_name r.names bs)) r.list _ (all_more (length r.names) (length (with_name r.names bs)) r.list (grows r.names bs) h) (number_within r.names bs)
add_lexed r at (piece.Number v t) bs are l h = behind (length r.names) r.list _ h (let zero_below : pos 0 ≤ℤ pos v = omega (arith, ints) in zero_below)
add_lexed r at (piece.Letter c) bs are l h = behind (length r.names) r.list _ h (is_character c l)
add_lexed r at piece.Chars bs are l h = string_lexed (length r.names) r.list at _ h (string_is_bytes (drop 1 bs) 0 (bytes_dropped 1 bs are))
add_lexed r at (piece.Mark k) bs are l h = behind (length r.names) r.list _ h tt

closed_lexed : (r : Read) (at : Place) (m : Mode) → IsRead r → IsRead (closed r at m)
closed_lexed r at Code h = h
closed_lexed r at Block h = h
closed_lexed r at Line h = behind (length r.names) r.list _ h tt

same_tokens : (x y : PlainTokens) → (let r : Result PlainTokens PlainRefusal = Ok x in r) ≡ Ok y → x ≡ y
same_tokens x y e = cc

build_lexed : (r : Read) (ps : Pieces) (tokens : PlainTokens) → AreBytes (bytes_of ps) → LettersAreBytes ps → IsRead r → build r ps ≡ Ok tokens → AreLexed (length tokens.names) tokens.list
unfolding build
build_lexed r (Ended at m) tokens are l h e = elim (chosen (ltb most_tokens (length (closed r at m).list)) (Err (refused at fault.Limit [])) (Ok (whole (closed r at m) at)) (Ok tokens) e) [
  | inl f ↦ absurd (let g = f.1 in cc)
  | inr f ↦ subst (λ (x : PlainTokens). AreLexed (length x.names) x.list) (same_tokens (whole (closed r at m) at) tokens f.1) (closed_lexed r at m h)
]
build_lexed r (Broken at f rest) tokens are l h e = absurd cc
build_lexed r (Cut at p bytes more) tokens are l h e = elim (chosen (ltb most_tokens (length (add r at p bytes).list)) (Err (refused at fault.Limit [])) (build (add r at p bytes) more) (Ok tokens) e) [
  | inl f ↦ absurd (let g = f.1 in cc)
  | inr f ↦ build_lexed (add r at p bytes) more tokens (bytes_behind bytes (bytes_of more) are) l.1 (add_lexed r at p bytes (bytes_before bytes (bytes_of more) are) l.0 h) f.1
]

tokens_lexed : (text : List ℕ) (tokens : PlainTokens) → AreBytes text → tokens_of text ≡ Ok tokens → AreLexed (length tokens.names) tokens.list
unfolding tokens_of
tokens_lexed text tokens are e =
    let pieces = pieces_of text in
    let bytes = subst AreBytes (sym (pieces_joined text)) are in
    build_lexed nothing_read pieces tokens bytes (letters_are_bytes [] Code pieces (pieces_spelled text) bytes) tt e

-- ---- places

-- the offset after the last token
abbrev last_end : ℕ → List PlainToken → ℕ
last_end l [] = l
last_end l (t ∷ ts) = last_end (suc t.place.offset) ts

ascending : (l : ℕ) (t : PlainToken) (ts : List PlainToken) → l ≤ t.place.offset → Ascend (t ∷ ts) → Reach l (t ∷ ts) (last_end l (t ∷ ts))
ascending l t [] le h = (le, refl)
ascending l t (u ∷ ts) le h = (le, ascending (suc t.place.offset) u ts (omega (arith, h.0)) h.1)

reached : (ts : List PlainToken) → Ascend ts → Reach 0 ts (last_end 0 ts)
reached [] h = refl
reached (t ∷ ts) h = ascending 0 t ts (omega arith) h

-- what is below a number ends there
end_below : (l n : ℕ) (ts : List PlainToken) → l ≤ n → AllBelow n ts → last_end l ts ≤ n
end_below l n [] le h = le
end_below l n (t ∷ ts) le h = end_below (suc t.place.offset) n ts (omega (arith, h.0)) h.1

-- no word has the offset that a text is too short for
word_apart : (n : ℕ) (k : PlainTokenKind) (at : Place) → n < 4294967295 → WordBelow n k at.offset → IsWordApart k at
word_apart n (token.Word w) at few h = tested (nat_eq at.offset 4294967294) refl
  where
    tested : (b : Bool) → nat_eq at.offset 4294967294 ≡ b → nat_eq at.offset 4294967294 ≡ false
    tested true e = let q : at.offset ≡ 4294967294 = grind (arith, nat_tests, e) in absurd (omega (arith, q, few, h))
    tested false e = e
word_apart n (token.Number z c) at few h = tt
word_apart n (token.Letter z) at few h = tt
word_apart n (token.Chars bytes) at few h = tt
word_apart n (token.Mark m) at few h = tt
word_apart n token.AnnotOpen at few h = tt
word_apart n token.AnnotClose at few h = tt
word_apart n (token.Head k m) at few h = tt

all_lexed : (size n : ℕ) (ts : List PlainToken) → n < 4294967295 → AreLexed size ts → WordsBelow n ts → AllByRecursion (IsLexed size) ts
all_lexed size n [] few h w = tt
all_lexed size n (t ∷ ts) few h w = ((h.0, word_apart n t.kind t.place few w.0), all_lexed size n ts few h.1 w.1)

pub record Lexed (length_of_text : ℕ) (tokens : PlainTokens) : Type 0 where
  pub names : AreWords tokens.names
  pub list : AllByRecursion (IsLexed (length tokens.names)) tokens.list
  pub end : ℕ
  pub reach : Reach 0 tokens.list end
  pub below : end ≤ suc length_of_text

pub lexed : (text : List ℕ) (tokens : PlainTokens) → AreBytes text → length text < 4294967295 → tokens_of text ≡ Ok tokens → Lexed (length text) tokens
lexed text tokens are few e = record {
  names = names_are_words text tokens e;
  list = all_lexed (length tokens.names) (length text) tokens.list few (tokens_lexed text tokens are e) (words_below text tokens e);
  end = last_end 0 tokens.list;
  reach = reached tokens.list (tokens_ascend text tokens e);
  below = end_below 0 (suc (length text)) tokens.list (omega arith) (tokens_below text tokens e);
}

-- ---- names that are declared

-- no word of annotations is a name
no_logic_name : (w : LogicWord) → logic_word_kind w ≡ name_kind → ⊥
no_logic_name (logic.Truth b) h = cc
no_logic_name logic.Null h = cc
no_logic_name (logic.Told f) h = cc
no_logic_name (logic.Asks q) h = cc
no_logic_name logic.Separated h = cc
no_logic_name logic.Result h = cc
no_logic_name logic.Old h = cc
no_logic_name logic.At h = cc
no_logic_name logic.Kept h = cc
no_logic_name (logic.Quantifier q) h = cc

backslash_word : (w : List ℕ) → word_kind (word_of (92 ∷ w)) ≡ name_kind → ⊥
unfolding word_of
backslash_word w h = no_logic_name _ h

part_first : (w : List ℕ) → IsWord w → word_kind (word_of w) ≡ name_kind → program.IsName w
part_first w h k = elim h.begins [
  | inl p ↦ record {
    parts = subst (AllByRecursion (λ b. is_part b ≡ true)) (sym h.joined) (p, h.parts);
    not_empty = subst (λ (v : List ℕ). 0 < length v) (sym h.joined) (omega arith);
    short = h.short;
  }
  | inr p ↦ absurd (backslash_word h.others (subst (λ b. word_kind (word_of (b ∷ h.others)) ≡ name_kind) p (subst (λ (v : List ℕ). word_kind (word_of v) ≡ name_kind) h.joined k)))
]

record IsAt (names : List (List ℕ)) (n : ℕ) : Type 0 where
  word : IsWord (name_at names n)
  kind : word_at (map word_of names) n ≡ word_of (name_at names n)

at_number : (names : List (List ℕ)) (n : ℕ) → n < length names → AreWords names → IsAt names n
at_number [] n lt all = absurd (omega (arith, lt))
at_number (w ∷ names) zero lt all = record { word = all.0; kind = refl }
at_number (w ∷ names) (suc n) lt all = let rest = at_number names n (omega (arith, lt)) all.1 in record { word = rest.word; kind = rest.kind }

pub new_name_is : (names : List (List ℕ)) (n : ℕ) → AreWords names → IsNewName (length names) (map word_of names) n → program.IsName (name_at names n)
new_name_is names n all h =
    let at = at_number names n h.there all in
    part_first (name_at names n) at.word (ap word_kind (sym at.kind) ∙ h.kind)
