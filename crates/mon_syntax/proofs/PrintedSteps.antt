-- What the words of a text are, and how a production goes over one token.
use Rattle.std.proofs.Common.{◌≡◌, ℕ, zero, suc, ◌<◌, Bool, true, false, cond, ◌&&◌, eqb, List, [], ◌∷◌, map, slice_get, Option, Some, None, Ok, refl, sym, ap, ◌∙◌, arith, eq-eqb, true≢false}
use Rattle.std.specs.Prelude.{bytes_eq, if◌then◌else◌}
use Rattle.grammar.specs.Syntax.{among, sees, one, one_at}
use Rattle.c_syntax.specs.declared.place.Place.{Place}
use Rattle.c_syntax.specs.Tokens as token
use Rattle.c_syntax.specs.Tokens.{PlainTokenKind, PlainToken}
use Rattle.c_model.specs.MonitoredTokens as made
use Rattle.c_model.proofs.Spelling.{and_true}
use Rattle.c_model.specs.Terminals.{entry, found_in, placed}
use Rattle.c_model.specs.Punctuators.{left_paren}
use Rattle.mon_syntax.specs.declared.tree.MonType.{MonType}
use Rattle.mon_syntax.specs.declared.tree.MonType.TheVariants.{I8, U8, I16, U16, I32, U32, I64, U64, I128, Ptr}
use Rattle.mon_syntax.specs.declared.tree.MonOp.{MonOp}
use Rattle.mon_syntax.specs.declared.tree.MonOp.TheVariants.{Add, Sub, Mul, Div, Rem, Shl, Shr, And, Or, Xor, Eq, Ne, Lt, Le, Gt, Ge}
use Rattle.mon_syntax.specs.declared.word.Word.{Word}
use Rattle.mon_syntax.specs.declared.word.Word.TheVariants as word
use Rattle.mon_syntax.specs.Names.{type_word, constant_word, reserved_words, is_reserved, IsFreeName}
use Rattle.mon_syntax.specs.Words.{Words, type_words, constant_words, keywords, runtime_words, word_of}
use Rattle.mon_syntax.specs.Text as text
use Rattle.mon_syntax.specs.Grammar.{Vocabulary, name_kind, mark_kind, word_kind, word_at, kind, operators, fixed, mark, name_of, name, opened}
use Rattle.mon_syntax.proofs.PrintedPieces.{punctuator}
use Rattle.mon_syntax.proofs.PrintedAlone.{same_bytes}

-- ---- words

pub type_word_is : (t : MonType) → word_of (type_word t) ≡ word.TypeName t
unfolding word_of
type_word_is I8 = refl
type_word_is U8 = refl
type_word_is I16 = refl
type_word_is U16 = refl
type_word_is I32 = refl
type_word_is U32 = refl
type_word_is I64 = refl
type_word_is U64 = refl
type_word_is I128 = refl
type_word_is Ptr = refl

pub constant_word_is : (t : MonType) → word_of (constant_word t) ≡ word.Constant t
unfolding word_of
constant_word_is I8 = refl
constant_word_is U8 = refl
constant_word_is I16 = refl
constant_word_is U16 = refl
constant_word_is I32 = refl
constant_word_is U32 = refl
constant_word_is I64 = refl
constant_word_is U64 = refl
constant_word_is I128 = refl
constant_word_is Ptr = refl

pub operator_mark_is : (op : MonOp) → entry (punctuator (text.operator_mark op)) operators ≡ Some op
operator_mark_is Add = refl
operator_mark_is Sub = refl
operator_mark_is Mul = refl
operator_mark_is Div = refl
operator_mark_is Rem = refl
operator_mark_is Shl = refl
operator_mark_is Shr = refl
operator_mark_is And = refl
operator_mark_is Or = refl
operator_mark_is Xor = refl
operator_mark_is Eq = refl
operator_mark_is Ne = refl
operator_mark_is Lt = refl
operator_mark_is Le = refl
operator_mark_is Gt = refl
operator_mark_is Ge = refl

-- each word of a table is reserved
are_reserved : Words → Bool
are_reserved [] = true
are_reserved (x ∷ xs) = is_reserved x.0 && are_reserved xs

not_found : (xs : Words) (w : List ℕ) (other : Word) → are_reserved xs ≡ true → is_reserved w ≡ false → found_in xs w other ≡ other
unfolding are_reserved
not_found [] w other h free = refl
not_found (x ∷ xs) w other h free =
    let a = and_true (is_reserved x.0) (are_reserved xs) h in
    by (bytes_eq x.0 w) refl a.0 (not_found xs w other a.1 free)
  where
    by : (t : Bool) → bytes_eq x.0 w ≡ t → is_reserved x.0 ≡ true → found_in xs w other ≡ other → (let r : Word = if t then x.1 else found_in xs w other in r) ≡ other
    by true e reserved rest = absurd (true≢false (sym reserved ∙ ap is_reserved (same_bytes x.0 w e) ∙ free))
    by false e reserved rest = rest

all_reserved : (are_reserved type_words ≡ true) × (are_reserved constant_words ≡ true) × (are_reserved keywords ≡ true) × (are_reserved runtime_words ≡ true)
unfolding are_reserved reserved_words
all_reserved = (refl, refl, refl, refl)

-- a free name is a name
pub free_is_name : (w : List ℕ) → IsFreeName w → word_of w ≡ word.Name
unfolding word_of
free_is_name w h =
    let a = all_reserved in
    not_found type_words w _ a.0 h.free ∙ not_found constant_words w _ a.1 h.free ∙ not_found keywords w _ a.2 h.free ∙ not_found runtime_words w word.Name a.3 h.free

-- what a word is where it stands among the names
pub word_there : (names : List (List ℕ)) (n : ℕ) (w : List ℕ) → slice_get names n ≡ Some w → word_at (map word_of names) n ≡ word_of w
word_there [] n w e = absurd cc
word_there (v ∷ vs) zero w e = let same : v ≡ w = cc in ap word_of same
word_there (v ∷ vs) (suc n) w e = word_there vs n w e

-- ---- tokens

one_read : {A : Type 0} (f : PlainToken → Option A) (t : PlainToken) (x : A) (more : List PlainToken) → f t ≡ Some x → (one f).parse (t ∷ more) ≡ Ok (x, more)
one_read f t x more h = rw (h, one_at) refl

module _ (ws : Vocabulary) where
  pub mark_read : (m : ℕ) {at : Place} {ts more : List PlainToken} → ts ≡ made.token at (token.Mark m) ∷ more → (mark ws m).parse ts ≡ Ok (at, more)
  mark_read m {at} {ts} {more} e = ap (mark ws m).parse e ∙ one_read (λ (t : PlainToken). cond (eqb (kind ws t) (mark_kind m)) (Some t.place) None) (made.token at (token.Mark m)) at more
      (ap (λ (b : Bool). cond b (Some at) None) (eq-eqb (mark_kind m) (mark_kind m) refl))

  pub fixed_read : (k n : ℕ) {at : Place} {ts more : List PlainToken} → ts ≡ made.token at (token.Word n) ∷ more → word_kind (word_at ws n) ≡ k → (fixed ws k).parse ts ≡ Ok (at, more)
  fixed_read k n {at} {ts} {more} e h = ap (fixed ws k).parse e ∙ one_read (λ (t : PlainToken). cond (eqb (kind ws t) k) (Some t.place) None) (made.token at (token.Word n)) at more
      (ap (λ (b : Bool). cond b (Some at) None) (eq-eqb (word_kind (word_at ws n)) k h))

  pub placed_read : {A : Type 0} (f : PlainTokenKind → Option A) (k : PlainTokenKind) (x : A) {at : Place} {ts more : List PlainToken} → ts ≡ made.token at k ∷ more → f k ≡ Some x → (one (placed f)).parse ts ≡ Ok ((x, at), more)
  placed_read {A} f k x {at} {ts} {more} e h = ap (one (placed f)).parse e ∙ one_read (placed f) (made.token at k) (x, at) more (rw (h, placed) refl)

  pub name_read : (n : ℕ) {at : Place} {ts more : List PlainToken} → ts ≡ made.token at (token.Word n) ∷ more → word_kind (word_at ws n) ≡ name_kind → (name ws).parse ts ≡ Ok (record { place = at; number = n }, more)
  unfolding name
  name_read n {at} {ts} {more} e h = rw (placed_read (name_of ws) (token.Word n) n e (ap (λ (b : Bool). cond b (Some n) None) (eq-eqb (word_kind (word_at ws n)) name_kind h))) refl

  pub opened_read : (n : ℕ) {at : Place} {ts more : List PlainToken} → 0 < n → ts ≡ made.token at (token.Mark left_paren) ∷ more → (opened ws n).parse ts ≡ Ok (at, more)
  unfolding opened
  opened_read zero some e = absurd (omega arith)
  opened_read (suc n) some e = mark_read left_paren e

  -- the first token is a mark, or a word
  pub sees_mark : (m : ℕ) {at : Place} {ts more : List PlainToken} → ts ≡ made.token at (token.Mark m) ∷ more → (ks : List ℕ) (b : Bool) → among (mark_kind m) ks ≡ b → sees (kind ws) ks ts ≡ b
  sees_mark m e ks b h = ap (sees (kind ws) ks) e ∙ h

  pub sees_word : (n k : ℕ) {at : Place} {ts more : List PlainToken} → ts ≡ made.token at (token.Word n) ∷ more → word_kind (word_at ws n) ≡ k → (ks : List ℕ) (b : Bool) → among k ks ≡ b → sees (kind ws) ks ts ≡ b
  sees_word n k e c ks b h = ap (sees (kind ws) ks) e ∙ ap (λ (x : ℕ). among x ks) c ∙ h
