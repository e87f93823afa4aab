-- A token of a kind that a production of one token has is taken by it.
use Rattle.std.proofs.Common.{◌≡◌, ◌≤◌, ℕ, Bool, true, false, cond, eqb, List, [], ◌∷◌, Option, Some, None, refl, arith, subst, inl, inr}
use Rattle.std.specs.Prelude.{ℤ, option_map}
use Rattle.std.proofs.lemmas.Bool.{eqb-true, eq-eqb}
use Rattle.grammar.specs.Syntax.{Syntax, among, one}
use Rattle.grammar.proofs.Sets.{cond_or, among_either, within_among}
use Rattle.grammar.proofs.Solid.{IsSolid, one_solid}
use Rattle.c_syntax.specs.declared.place.Place.{Place}
use Rattle.c_syntax.specs.declared.types.CInt.{CInt}
use Rattle.c_syntax.specs.Ctypes.{PlainType}
use Rattle.c_syntax.specs.Tokens as tokens
use Rattle.c_syntax.specs.Tokens.{PlainTokenKind, PlainToken}
use Rattle.c_model.specs.declared.vocabulary.Keyword.{Keyword}
use Rattle.c_model.specs.declared.vocabulary.Keyword.TheVariants as keyword
use Rattle.c_model.specs.declared.vocabulary.LogicWord.{LogicWord}
use Rattle.c_model.specs.declared.vocabulary.LogicWord.TheVariants as logic
use Rattle.c_model.specs.declared.vocabulary.Word.{Word}
use Rattle.c_model.specs.declared.vocabulary.Word.TheVariants as word
use Rattle.c_model.specs.declared.vocabulary.SignWords.{SignWords}
use Rattle.c_model.specs.declared.vocabulary.SignWords.TheVariants as sign
use Rattle.c_model.specs.declared.vocabulary.SizeWords.{SizeWords}
use Rattle.c_model.specs.declared.vocabulary.SizeWords.TheVariants as size
use Rattle.c_model.specs.declared.vocabulary.IntegerWords.{IntegerWords}
use Rattle.c_model.specs.Vocabulary.{Vocabulary, word_at, sign_with, size_with, words_with}
use Rattle.c_model.specs.ExpressionGrammar.{name_kind, number_kind, letter_kind, type_name_kind, keyword_kind, logic_word_kind, mark_kind, word_kind, token_kind, kind, number_of, letter_of, kinds_of, signs_behind, sizes_behind, first_any_name}
use Rattle.c_model.specs.Terminals.{placed, entry, mark_entry}
use Rattle.c_model.specs.ExpressionGrammar.{words_behind, first_integer_words, keyword_of, next_words, named_type, type_named_by, typedef_name_of, fixed, name_of, name, any_name_of, any_name}
use Rattle.c_expr_parser.proofs.ExactTokens.{fixed_good, name_good, number_good, letter_good, marks_good, next_words_good, any_name_good, typedef_name_good}
use Rattle.c_expr_parser.proofs.ExactTypes.{words_within}

-- a production whose place of refusal is the first token that can't follow, where what stands before it is no reading
abbrev pub Solid : {A : Type 0} → Vocabulary → ℕ → Syntax PlainToken A → Bool → Bool → List ℕ → List ℕ → Type 0
Solid ws n G lead null first more = IsSolid (kind ws) n G lead null first (λ _. more)

-- ---- kinds of words and of punctuators

-- the kind of a keyword
pub keyword_large : (k : Keyword) → 10 ≤ keyword_kind k
keyword_large keyword.Char = omega arith
keyword_large keyword.Short = omega arith
keyword_large keyword.Int = omega arith
keyword_large keyword.Long = omega arith
keyword_large keyword.Signed = omega arith
keyword_large keyword.Unsigned = omega arith
keyword_large keyword.Void = omega arith
keyword_large keyword.Const = omega arith
keyword_large keyword.Static = omega arith
keyword_large keyword.If = omega arith
keyword_large keyword.Else = omega arith
keyword_large keyword.While = omega arith
keyword_large keyword.Do = omega arith
keyword_large keyword.For = omega arith
keyword_large keyword.Break = omega arith
keyword_large keyword.Continue = omega arith
keyword_large keyword.Return = omega arith
keyword_large keyword.Sizeof = omega arith
keyword_large keyword.Struct = omega arith
keyword_large keyword.Enum = omega arith
keyword_large keyword.Typedef = omega arith
keyword_large keyword.Switch = omega arith
keyword_large keyword.Case = omega arith
keyword_large keyword.Default = omega arith
keyword_large keyword.Kept = omega arith

keyword_small : (k : Keyword) → keyword_kind k ≤ 34
keyword_small keyword.Char = omega arith
keyword_small keyword.Short = omega arith
keyword_small keyword.Int = omega arith
keyword_small keyword.Long = omega arith
keyword_small keyword.Signed = omega arith
keyword_small keyword.Unsigned = omega arith
keyword_small keyword.Void = omega arith
keyword_small keyword.Const = omega arith
keyword_small keyword.Static = omega arith
keyword_small keyword.If = omega arith
keyword_small keyword.Else = omega arith
keyword_small keyword.While = omega arith
keyword_small keyword.Do = omega arith
keyword_small keyword.For = omega arith
keyword_small keyword.Break = omega arith
keyword_small keyword.Continue = omega arith
keyword_small keyword.Return = omega arith
keyword_small keyword.Sizeof = omega arith
keyword_small keyword.Struct = omega arith
keyword_small keyword.Enum = omega arith
keyword_small keyword.Typedef = omega arith
keyword_small keyword.Switch = omega arith
keyword_small keyword.Case = omega arith
keyword_small keyword.Default = omega arith
keyword_small keyword.Kept = omega arith

logic_small : (w : LogicWord) → logic_word_kind w ≤ 42
logic_small (logic.Truth b) = omega arith
logic_small logic.Null = omega arith
logic_small (logic.Told f) = omega arith
logic_small (logic.Asks q) = omega arith
logic_small logic.Separated = omega arith
logic_small logic.Result = omega arith
logic_small logic.Old = omega arith
logic_small logic.At = omega arith
logic_small (logic.Quantifier q) = omega arith
logic_small logic.Kept = omega arith

-- no word of annotations has the kind of a literal, of the name of a type, or of a word of an integer type
no_logic_literal : (w : LogicWord) (k : ℕ) → 1 ≤ k → k ≤ 3 → eqb (logic_word_kind w) k ≡ true → ⊥
no_logic_literal (logic.Truth b) k l g h = let e = eqb-true 5 k h in omega (arith, e)
no_logic_literal logic.Null k l g h = let e = eqb-true 35 k h in omega (arith, e)
no_logic_literal (logic.Told f) k l g h = let e = eqb-true 36 k h in omega (arith, e)
no_logic_literal (logic.Asks q) k l g h = let e = eqb-true 37 k h in omega (arith, e)
no_logic_literal logic.Separated k l g h = let e = eqb-true 38 k h in omega (arith, e)
no_logic_literal logic.Result k l g h = let e = eqb-true 39 k h in omega (arith, e)
no_logic_literal logic.Old k l g h = let e = eqb-true 40 k h in omega (arith, e)
no_logic_literal logic.At k l g h = let e = eqb-true 41 k h in omega (arith, e)
no_logic_literal (logic.Quantifier q) k l g h = let e = eqb-true 42 k h in omega (arith, e)
no_logic_literal logic.Kept k l g h = let e = eqb-true 5 k h in omega (arith, e)

no_logic_type_name : (w : LogicWord) → eqb (logic_word_kind w) type_name_kind ≡ true → ⊥
no_logic_type_name (logic.Truth b) h = cc
no_logic_type_name logic.Null h = cc
no_logic_type_name (logic.Told f) h = cc
no_logic_type_name (logic.Asks q) h = cc
no_logic_type_name logic.Separated h = cc
no_logic_type_name logic.Result h = cc
no_logic_type_name logic.Old h = cc
no_logic_type_name logic.At h = cc
no_logic_type_name (logic.Quantifier q) h = cc
no_logic_type_name logic.Kept h = cc

no_logic_integer : (w : LogicWord) → 10 ≤ logic_word_kind w → logic_word_kind w ≤ 15 → ⊥
no_logic_integer (logic.Truth b) l g = omega (arith, l, g)
no_logic_integer logic.Null l g = omega (arith, l, g)
no_logic_integer (logic.Told f) l g = omega (arith, l, g)
no_logic_integer (logic.Asks q) l g = omega (arith, l, g)
no_logic_integer logic.Separated l g = omega (arith, l, g)
no_logic_integer logic.Result l g = omega (arith, l, g)
no_logic_integer logic.Old l g = omega (arith, l, g)
no_logic_integer logic.At l g = omega (arith, l, g)
no_logic_integer (logic.Quantifier q) l g = omega (arith, l, g)
no_logic_integer logic.Kept l g = omega (arith, l, g)

pub word_small : (w : Word) → word_kind w ≤ 42
word_small (word.Keyword k) = let s = keyword_small k in omega (arith, s)
word_small (word.TypeName t) = omega arith
word_small (word.Clause c) = omega arith
word_small word.Integer = omega arith
word_small (word.Logic w) = logic_small w
word_small word.Name = omega arith

-- no word has the kind of a literal
pub no_literal : (w : Word) (k : ℕ) → 1 ≤ k → k ≤ 3 → eqb (word_kind w) k ≡ true → ⊥
no_literal (word.Keyword n) k l g h = let e = eqb-true (keyword_kind n) k h in let s = keyword_large n in omega (arith, e, s)
no_literal (word.TypeName t) k l g h = let e = eqb-true 4 k h in omega (arith, e)
no_literal (word.Clause c) k l g h = let e = eqb-true 0 k h in omega (arith, e)
no_literal word.Integer k l g h = let e = eqb-true 0 k h in omega (arith, e)
no_literal (word.Logic w) k l g h = no_logic_literal w k l g h
no_literal word.Name k l g h = let e = eqb-true 0 k h in omega (arith, e)

-- the only kind of a set of one
pub the_kind : (k j : ℕ) → among k (j ∷ []) ≡ true → eqb k j ≡ true
the_kind k j h = tested (eqb k j) h
  where
    tested : (b : Bool) → cond b true false ≡ true → b ≡ true
    tested true e = refl
    tested false e = e

-- what is among the kinds of a table is the kind of one of its punctuators
pub in_table : {A : Type 0} (P : Type 0) (k : ℕ) (table : List (ℕ × A)) → ((m : ℕ) (x : A) → k ≡ mark_kind m → entry m table ≡ Some x → P) → among k (kinds_of table) ≡ true → P
in_table P k [] f h = absurd cc
in_table {A} P k (y ∷ ys) f h = elim (cond_or (eqb k (mark_kind y.0)) (among k (kinds_of ys)) h) [
  | inl e ↦ f y.0 y.1 (eqb-true k (mark_kind y.0) e) (found y.0)
  | inr e ↦ in_table P k ys (λ m x is g. behind m x is g) e
]
  where
    found : (m : ℕ) → entry m ((m, y.1) ∷ ys) ≡ Some y.1
    found m = rw (eq-eqb m m refl) refl

    behind : (m : ℕ) (x : A) → k ≡ mark_kind m → entry m ys ≡ Some x → P
    behind m x is g = tested (eqb m y.0) refl
      where
        tested : (b : Bool) → eqb m y.0 ≡ b → P
        tested true e = f m y.1 is (rw e refl)
        tested false e = f m x is (rw e g)

-- the kind of an integer type's word
word_range : (k : ℕ) → among k first_integer_words ≡ true → (10 ≤ k) × (k ≤ 15)
word_range k h = elim (cond_or (eqb k 10) _ h) [
  | inl e ↦ at 10 (eqb-true k 10 e) (omega arith) (omega arith)
  | inr a ↦ elim (cond_or (eqb k 11) _ a) [
    | inl e ↦ at 11 (eqb-true k 11 e) (omega arith) (omega arith)
    | inr b ↦ elim (cond_or (eqb k 12) _ b) [
      | inl e ↦ at 12 (eqb-true k 12 e) (omega arith) (omega arith)
      | inr c ↦ elim (cond_or (eqb k 13) _ c) [
        | inl e ↦ at 13 (eqb-true k 13 e) (omega arith) (omega arith)
        | inr d ↦ elim (cond_or (eqb k 14) _ d) [
          | inl e ↦ at 14 (eqb-true k 14 e) (omega arith) (omega arith)
          | inr f ↦ at 15 (eqb-true k 15 (the_kind k 15 f)) (omega arith) (omega arith)
        ]
      ]
    ]
  ]
]
  where
    at : (n : ℕ) → k ≡ n → 10 ≤ n → n ≤ 15 → (10 ≤ k) × (k ≤ 15)
    at n e l g = (omega (arith, e, l), omega (arith, e, g))

-- ---- words of integer types

sign_taken : (s : SignWords) (k : Keyword) → among (keyword_kind k) (signs_behind s) ≡ true → (t : SignWords) × (sign_with s k ≡ Some t)
sign_taken sign.Nothing keyword.Signed e = (sign.Signed, refl)
sign_taken sign.Nothing keyword.Unsigned e = (sign.Unsigned, refl)
sign_taken _ _ e = absurd cc

size_taken : (z : SizeWords) (k : Keyword) → among (keyword_kind k) (sizes_behind z) ≡ true → (t : SizeWords) × (size_with z k ≡ Some t)
size_taken size.Nothing keyword.Char e = (size.Char, refl)
size_taken size.Nothing keyword.Short e = (size.Short, refl)
size_taken size.Nothing keyword.Int e = (size.Int, refl)
size_taken size.Nothing keyword.Long e = (size.Long, refl)
size_taken size.Short keyword.Int e = (size.ShortInt, refl)
size_taken size.Int keyword.Short e = (size.ShortInt, refl)
size_taken size.Int keyword.Long e = (size.LongInt, refl)
size_taken size.Long keyword.Int e = (size.LongInt, refl)
size_taken size.Long keyword.Long e = (size.LongLong, refl)
size_taken size.LongInt keyword.Long e = (size.LongLongInt, refl)
size_taken size.LongLong keyword.Int e = (size.LongLongInt, refl)
size_taken _ _ e = absurd cc

words_taken : (x : IntegerWords) (k : Keyword) → among (keyword_kind k) (words_behind x) ≡ true → (y : IntegerWords) × (words_with x k ≡ Some y)
words_taken x k h = by_sign (sign_with x.sign k) refl
  where
    Taken : Option SignWords → Type 0
    Taken o = (y : IntegerWords) × (elim o [ Some s ↦ Some (record { sign = s; size = x.size }) | None ↦ option_map (λ z. record { sign = x.sign; size = z }) (size_with x.size k) ] ≡ Some y)

    by_size : among (keyword_kind k) (sizes_behind x.size) ≡ true → Taken None
    by_size a = let w = size_taken x.size k a in (record { sign = x.sign; size = w.0 }, rw (w.1) refl)

    by_sign : (o : Option SignWords) → sign_with x.sign k ≡ o → Taken o
    by_sign (Some s) is = (record { sign = s; size = x.size }, refl)
    by_sign None is = elim (among_either (keyword_kind k) (signs_behind x.sign) (sizes_behind x.size) h) [
      | inl a ↦ absurd (let w = sign_taken x.sign k a in let q = w.1 in cc)
      | inr a ↦ by_size a
    ]

-- ---- tokens

module _ (ws : Vocabulary) where
  fixed_taken : (k : ℕ) (t : PlainToken) → among (kind ws t) (k ∷ []) ≡ true → (p : Place) × (cond (eqb (kind ws t) k) (Some t.place) None ≡ Some p)
  fixed_taken k t h = tested (eqb (kind ws t) k) (the_kind (kind ws t) k h)
    where
      tested : (b : Bool) → b ≡ true → (p : Place) × (cond b (Some t.place) None ≡ Some p)
      tested true e = (t.place, refl)
      tested false e = absurd cc

  pub fixed_solid : {n : ℕ} (k : ℕ) → Solid ws n (fixed ws k) true false (k ∷ []) []
  fixed_solid k = one_solid _ (k ∷ []) (fixed_taken k) (fixed_good ws {n = 0} k).here

  placed_taken : {A : Type 0} (f : PlainTokenKind → Option A) (ks : List ℕ) → ((k : PlainTokenKind) → among (token_kind ws k) ks ≡ true → (x : A) × (f k ≡ Some x)) → (t : PlainToken) → among (kind ws t) ks ≡ true
      → (y : A × Place) × (placed f t ≡ Some y)
  placed_taken f ks h t e = let w = h t.kind e in ((w.0, t.place), rw (w.1, placed) refl)

  name_taken : (t : PlainTokenKind) → among (token_kind ws t) (name_kind ∷ []) ≡ true → (m : ℕ) × (name_of ws t ≡ Some m)
  name_taken (tokens.Word k) h = tested (eqb (word_kind (word_at ws k)) name_kind) (the_kind (word_kind (word_at ws k)) name_kind h)
    where
      tested : (b : Bool) → b ≡ true → (m : ℕ) × (cond b (Some k) None ≡ Some m)
      tested true e = (k, refl)
      tested false e = absurd cc
  name_taken (tokens.Mark m) h = absurd (let e = eqb-true (mark_kind m) name_kind (the_kind (mark_kind m) name_kind h) in omega (arith, e))
  name_taken _ h = absurd cc

  pub name_solid : {n : ℕ} → Solid ws n (name ws) true false (name_kind ∷ []) []
  name_solid = one_solid (placed (name_of ws)) (name_kind ∷ []) (placed_taken (name_of ws) (name_kind ∷ []) name_taken) (name_good ws {n = 0}).here

  any_name_taken : (t : PlainTokenKind) → among (token_kind ws t) first_any_name ≡ true → (m : ℕ) × (any_name_of ws t ≡ Some m)
  any_name_taken (tokens.Word k) h = tested (among (word_kind (word_at ws k)) first_any_name) h
    where
      tested : (b : Bool) → b ≡ true → (m : ℕ) × (cond b (Some k) None ≡ Some m)
      tested true e = (k, refl)
      tested false e = absurd cc
  any_name_taken (tokens.Mark m) h = elim (cond_or (eqb (mark_kind m) name_kind) (among (mark_kind m) (type_name_kind ∷ [])) h) [
    | inl e ↦ absurd (let q = eqb-true (mark_kind m) name_kind e in omega (arith, q))
    | inr g ↦ absurd (let q = eqb-true (mark_kind m) type_name_kind (the_kind (mark_kind m) type_name_kind g) in omega (arith, q))
  ]
  any_name_taken _ h = absurd cc

  pub any_name_solid : {n : ℕ} → Solid ws n (any_name ws) true false first_any_name []
  any_name_solid = one_solid (placed (any_name_of ws)) first_any_name (placed_taken (any_name_of ws) first_any_name any_name_taken) (any_name_good ws {n = 0}).here

  number_taken : (t : PlainTokenKind) → among (token_kind ws t) (number_kind ∷ []) ≡ true → (z : ℤ × Option CInt) × (number_of t ≡ Some z)
  number_taken (tokens.Number v c) h = ((v, c), refl)
  number_taken (tokens.Word n) h = absurd (no_literal (word_at ws n) number_kind (omega arith) (omega arith) (the_kind (word_kind (word_at ws n)) number_kind h))
  number_taken (tokens.Mark m) h = absurd (let e = eqb-true (mark_kind m) number_kind (the_kind (mark_kind m) number_kind h) in omega (arith, e))
  number_taken _ h = absurd cc

  pub number_solid : {n : ℕ} → Solid ws n (one (placed number_of)) true false (number_kind ∷ []) []
  number_solid = one_solid (placed number_of) (number_kind ∷ []) (placed_taken number_of (number_kind ∷ []) number_taken) (number_good ws {n = 0}).here

  letter_taken : (t : PlainTokenKind) → among (token_kind ws t) (letter_kind ∷ []) ≡ true → (z : ℤ) × (letter_of t ≡ Some z)
  letter_taken (tokens.Letter v) h = (v, refl)
  letter_taken (tokens.Word n) h = absurd (no_literal (word_at ws n) letter_kind (omega arith) (omega arith) (the_kind (word_kind (word_at ws n)) letter_kind h))
  letter_taken (tokens.Mark m) h = absurd (let e = eqb-true (mark_kind m) letter_kind (the_kind (mark_kind m) letter_kind h) in omega (arith, e))
  letter_taken _ h = absurd cc

  pub letter_solid : {n : ℕ} → Solid ws n (one (placed letter_of)) true false (letter_kind ∷ []) []
  letter_solid = one_solid (placed letter_of) (letter_kind ∷ []) (placed_taken letter_of (letter_kind ∷ []) letter_taken) (letter_good ws {n = 0}).here

  marks_taken : {A : Type 0} (table : List (ℕ × A)) (t : PlainTokenKind) → among (token_kind ws t) (kinds_of table) ≡ true → (x : A) × (mark_entry table t ≡ Some x)
  marks_taken {A} table t h = by t h
    where
      other : (k : PlainTokenKind) → token_kind ws k ≤ 42 → among (token_kind ws k) (kinds_of table) ≡ true → (x : A) × (mark_entry table k ≡ Some x)
      other k small g = in_table _ (token_kind ws k) table (λ m x is e. absurd (omega (arith, small, is))) g

      by : (k : PlainTokenKind) → among (token_kind ws k) (kinds_of table) ≡ true → (x : A) × (mark_entry table k ≡ Some x)
      by (tokens.Mark m) g = in_table _ (mark_kind m) table (λ k x is e. (x, subst (λ (j : ℕ). entry j table ≡ Some x) (let same : k ≡ m = omega (arith, is) in same) e)) g
      by (tokens.Word n) g = other (tokens.Word n) (word_small (word_at ws n)) g
      by (tokens.Number z c) g = other (tokens.Number z c) (omega arith) g
      by (tokens.Letter z) g = other (tokens.Letter z) (omega arith) g
      by (tokens.Chars b) g = other (tokens.Chars b) (omega arith) g
      by tokens.AnnotOpen g = other tokens.AnnotOpen (omega arith) g
      by tokens.AnnotClose g = other tokens.AnnotClose (omega arith) g
      by (tokens.Head k n) g = other (tokens.Head k n) (omega arith) g

  pub marks_solid : {A : Type 0} {n : ℕ} (table : List (ℕ × A)) → Solid ws n (one (placed (mark_entry table))) true false (kinds_of table) []
  marks_solid table = one_solid (placed (mark_entry table)) (kinds_of table) (placed_taken (mark_entry table) (kinds_of table) (marks_taken table)) (marks_good ws {n = 0} table).here

  integer_taken : (x : IntegerWords) (t : PlainTokenKind) → among (token_kind ws t) (words_behind x) ≡ true → (y : IntegerWords) × (next_words ws x t ≡ Some y)
  integer_taken x t h = by t h (word_range (token_kind ws t) (within_among (words_behind x) first_integer_words (token_kind ws t) (words_within x) h))
    where
      by_word : (w : Word) → among (word_kind w) (words_behind x) ≡ true → (10 ≤ word_kind w) × (word_kind w ≤ 15) → (y : IntegerWords) × (elim (keyword_of ws w) [ None ↦ None | Some k ↦ words_with x k ] ≡ Some y)
      by_word (word.Keyword k) g r = words_taken x k g
      by_word (word.TypeName c) g r = absurd (let l = r.0 in omega (arith, l))
      by_word (word.Clause c) g r = absurd (let l = r.0 in omega (arith, l))
      by_word word.Integer g r = absurd (let l = r.0 in omega (arith, l))
      by_word (word.Logic w) g r = absurd (no_logic_integer w r.0 r.1)
      by_word word.Name g r = absurd (let l = r.0 in omega (arith, l))

      by : (k : PlainTokenKind) → among (token_kind ws k) (words_behind x) ≡ true → (10 ≤ token_kind ws k) × (token_kind ws k ≤ 15) → (y : IntegerWords) × (next_words ws x k ≡ Some y)
      by (tokens.Word n) g r = by_word (word_at ws n) g r
      by (tokens.Mark m) g r = absurd (let l = r.1 in omega (arith, l))
      by (tokens.Number z c) g r = absurd (let l = r.0 in omega (arith, l))
      by (tokens.Letter z) g r = absurd (let l = r.0 in omega (arith, l))
      by (tokens.Chars b) g r = absurd (let l = r.0 in omega (arith, l))
      by tokens.AnnotOpen g r = absurd (let l = r.0 in omega (arith, l))
      by tokens.AnnotClose g r = absurd (let l = r.0 in omega (arith, l))
      by (tokens.Head k n) g r = absurd (let l = r.0 in omega (arith, l))

  pub next_words_solid : {n : ℕ} (x : IntegerWords) → Solid ws n (one (placed (next_words ws x))) true false (words_behind x) []
  next_words_solid x = one_solid (placed (next_words ws x)) (words_behind x) (placed_taken (next_words ws x) (words_behind x) (integer_taken x)) (next_words_good ws {n = 0} x).here

  typedef_name_taken : (t : PlainTokenKind) → among (token_kind ws t) (type_name_kind ∷ []) ≡ true → (u : PlainType) × (typedef_name_of ws t ≡ Some u)
  typedef_name_taken (tokens.Word n) h = by_word (word_at ws n) (the_kind (word_kind (word_at ws n)) type_name_kind h)
    where
      by_word : (w : Word) → eqb (word_kind w) type_name_kind ≡ true → (u : PlainType) × (type_named_by n w ≡ Some u)
      by_word (word.TypeName c) e = (named_type n c, refl)
      by_word (word.Keyword k) e = absurd (let q = eqb-true (keyword_kind k) type_name_kind e in let s = keyword_large k in omega (arith, q, s))
      by_word (word.Logic w) e = absurd (no_logic_type_name w e)
      by_word _ e = absurd cc
  typedef_name_taken (tokens.Mark m) h = absurd (let e = eqb-true (mark_kind m) type_name_kind (the_kind (mark_kind m) type_name_kind h) in omega (arith, e))
  typedef_name_taken _ h = absurd cc

  pub typedef_name_solid : {n : ℕ} → Solid ws n (one (placed (typedef_name_of ws))) true false (type_name_kind ∷ []) []
  typedef_name_solid = one_solid (placed (typedef_name_of ws)) (type_name_kind ∷ []) (placed_taken (typedef_name_of ws) (type_name_kind ∷ []) typedef_name_taken) (typedef_name_good ws {n = 0}).here
