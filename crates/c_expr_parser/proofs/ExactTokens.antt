-- Single tokens are read exactly.
use Rattle.std.proofs.Common.{◌≡◌, ℕ, Bool, true, false, cond, eqb, List, [], ◌∷◌, Option, Some, None, refl, subst}
use Rattle.std.specs.Prelude.{ℤ, ◌++◌, option_map}
use Rattle.std.proofs.lemmas.Bool.{eqb-true, eq-eqb}
use Rattle.grammar.specs.Syntax.{Syntax, among, one}
use Rattle.grammar.specs.Exact.{IsGood}
use Rattle.grammar.proofs.Sets.{within_among, within_left, within_right}
use Rattle.grammar.proofs.Productions.{token}
use Rattle.c_syntax.specs.declared.place.Place.{Place}
use Rattle.c_syntax.specs.declared.types.CInt.{CInt}
use Rattle.c_syntax.specs.Ctypes.{PlainType}
use Rattle.c_syntax.specs.Tokens as tokens
use Rattle.c_syntax.specs.Tokens.{PlainTokenKind, PlainToken}
use Rattle.c_model.specs.declared.vocabulary.Keyword.{Keyword}
use Rattle.c_model.specs.declared.vocabulary.Keyword.TheVariants as keyword
use Rattle.c_model.specs.declared.vocabulary.Word.{Word}
use Rattle.c_model.specs.declared.vocabulary.Word.TheVariants as word
use Rattle.c_model.specs.declared.vocabulary.SignWords.TheVariants as sign
use Rattle.c_model.specs.declared.vocabulary.SignWords.{SignWords}
use Rattle.c_model.specs.declared.vocabulary.SizeWords.TheVariants as size
use Rattle.c_model.specs.declared.vocabulary.SizeWords.{SizeWords}
use Rattle.c_model.specs.declared.vocabulary.IntegerWords.{IntegerWords}
use Rattle.c_model.specs.Vocabulary.{Vocabulary, word_at, sign_with, size_with, words_with}
use Rattle.c_model.specs.ExpressionGrammar.{name_kind, number_kind, letter_kind, type_name_kind, keyword_kind, mark_kind, word_kind, token_kind, kind, number_of, letter_of, kinds_of, first_type, first_any_name}
use Rattle.c_model.specs.ExpressionGrammar.{signs_behind, sizes_behind}
use Rattle.c_model.specs.Terminals.{placed, entry, mark_entry}
use Rattle.c_model.specs.ExpressionGrammar.{words_behind, keyword_of, next_words, type_named_by, typedef_name_of, TypeStart, type_start_of, type_start, fixed, name_of, name, any_name_of, any_name}

-- a production is read exactly, with these sets: where it can be empty, what begins it, and what a reading can go on with
abbrev pub IsRead : {A : Type 0} → Vocabulary → Syntax PlainToken A → Bool → List ℕ → List ℕ → Type 0
IsRead ws G null first more = IsGood (kind ws) 0 G G null first (λ _. more)

-- the same of two productions, on texts below n tokens
abbrev pub AreRead : {A : Type 0} → Vocabulary → ℕ → Syntax PlainToken A → Syntax PlainToken A → Bool → List ℕ → List ℕ → Type 0
AreRead ws n G H null first more = IsGood (kind ws) n G H null first (λ _. more)

-- ---- tables of punctuators

among_first : (n : ℕ) (xs : List ℕ) → among n (n ∷ xs) ≡ true
among_first n xs = rw (eq-eqb n n refl) refl

among_rest : (n m : ℕ) (xs : List ℕ) → among n xs ≡ true → among n (m ∷ xs) ≡ true
among_rest n m xs h = tested (eqb n m)
  where
    tested : (b : Bool) → cond b true (among n xs) ≡ true
    tested true = refl
    tested false = h

-- an entry of a table is the punctuator of one of its kinds
entry_among : {A : Type 0} (m : ℕ) (table : List (ℕ × A)) (x : A) → entry m table ≡ Some x → among (mark_kind m) (kinds_of table) ≡ true
entry_among m [] x e = absurd cc
entry_among {A} m (y ∷ ys) x e = tested (eqb m y.0) refl (entry_among m ys x) e
  where
    tested : (b : Bool) → eqb m y.0 ≡ b → (entry m ys ≡ Some x → among (mark_kind m) (kinds_of ys) ≡ true) → cond b (Some y.1) (entry m ys) ≡ Some x → among (mark_kind m) (mark_kind y.0 ∷ kinds_of ys) ≡ true
    tested true is go h = subst (λ (k : ℕ). among (mark_kind m) (mark_kind k ∷ kinds_of ys) ≡ true) (eqb-true m y.0 is) (among_first (mark_kind m) (kinds_of ys))
    tested false is go h = among_rest (mark_kind m) (mark_kind y.0) (kinds_of ys) (go h)

-- ---- words of integer types

signs_among : (s : SignWords) (k : Keyword) (t : SignWords) → sign_with s k ≡ Some t → among (keyword_kind k) (signs_behind s) ≡ true
signs_among sign.Nothing keyword.Signed t e = refl
signs_among sign.Nothing keyword.Unsigned t e = refl
signs_among _ _ t e = absurd cc

sizes_among : (z : SizeWords) (k : Keyword) (t : SizeWords) → size_with z k ≡ Some t → among (keyword_kind k) (sizes_behind z) ≡ true
sizes_among size.Nothing keyword.Char t e = refl
sizes_among size.Nothing keyword.Short t e = refl
sizes_among size.Nothing keyword.Int t e = refl
sizes_among size.Nothing keyword.Long t e = refl
sizes_among size.Short keyword.Int t e = refl
sizes_among size.Int keyword.Short t e = refl
sizes_among size.Int keyword.Long t e = refl
sizes_among size.Long keyword.Int t e = refl
sizes_among size.Long keyword.Long t e = refl
sizes_among size.LongInt keyword.Long t e = refl
sizes_among size.LongLong keyword.Int t e = refl
sizes_among _ _ t e = absurd cc

among_left : (n : ℕ) (xs ys : List ℕ) → among n xs ≡ true → among n (xs ++ ys) ≡ true
among_left n xs ys h = within_among xs (xs ++ ys) n (within_left xs ys) h

among_right : (n : ℕ) (xs ys : List ℕ) → among n ys ≡ true → among n (xs ++ ys) ≡ true
among_right n xs ys h = within_among ys (xs ++ ys) n (within_right xs ys) h

words_among : (x : IntegerWords) (k : Keyword) (y : IntegerWords) → words_with x k ≡ Some y → among (keyword_kind k) (words_behind x) ≡ true
words_among x k y e = by_sign (sign_with x.sign k) refl e
  where
    by_size : (o : Option SizeWords) → size_with x.size k ≡ o → option_map (λ z. record { sign = x.sign; size = z }) o ≡ Some y → among (keyword_kind k) (words_behind x) ≡ true
    by_size (Some z) is h = among_right (keyword_kind k) (signs_behind x.sign) (sizes_behind x.size) (sizes_among x.size k z is)
    by_size None is h = absurd cc

    by_sign : (o : Option SignWords) → sign_with x.sign k ≡ o → elim o [ Some s ↦ Some (record { sign = s; size = x.size }) | None ↦ option_map (λ z. record { sign = x.sign; size = z }) (size_with x.size k) ] ≡ Some y
        → among (keyword_kind k) (words_behind x) ≡ true
    by_sign (Some s) is h = among_left (keyword_kind k) (signs_behind x.sign) (sizes_behind x.size) (signs_among x.sign k s is)
    by_sign None is h = by_size (size_with x.size k) refl h

-- ---- tokens

module _ (ws : Vocabulary) where
  fixed_among : (k : ℕ) (t : PlainToken) (p : Place) → cond (eqb (kind ws t) k) (Some t.place) None ≡ Some p → among (kind ws t) (k ∷ []) ≡ true
  fixed_among k t p e = tested (eqb (kind ws t) k) e
    where
      tested : (b : Bool) → cond b (Some t.place) None ≡ Some p → cond b true false ≡ true
      tested true e = refl
      tested false e = absurd cc

  pub fixed_good : {n : ℕ} (k : ℕ) → AreRead ws n (fixed ws k) (fixed ws k) false (k ∷ []) []
  fixed_good k = token _ (k ∷ []) (fixed_among k)

  placed_among : {A : Type 0} (f : PlainTokenKind → Option A) (ks : List ℕ) → ((t : PlainTokenKind) (x : A) → f t ≡ Some x → among (token_kind ws t) ks ≡ true) → (t : PlainToken) (y : A × Place) → placed f t ≡ Some y → among (kind ws t) ks ≡ true
  placed_among {A} f ks h t y e = tested (f t.kind) refl e
    where
      tested : (o : Option A) → f t.kind ≡ o → elim o [ Some x ↦ Some (x, t.place) | None ↦ None ] ≡ Some y → among (kind ws t) ks ≡ true
      tested (Some x) is e = h t.kind x is
      tested None is e = absurd cc

  pub placed_good : {A : Type 0} {n : ℕ} (f : PlainTokenKind → Option A) (ks : List ℕ) → ((t : PlainTokenKind) (x : A) → f t ≡ Some x → among (token_kind ws t) ks ≡ true) → AreRead ws n (one (placed f)) (one (placed f)) false ks []
  placed_good f ks h = token (placed f) ks (placed_among f ks h)

  name_among : (t : PlainTokenKind) (m : ℕ) → name_of ws t ≡ Some m → among (token_kind ws t) (name_kind ∷ []) ≡ true
  name_among (tokens.Word k) m e = tested (eqb (word_kind (word_at ws k)) name_kind) e
    where
      tested : (b : Bool) → cond b (Some k) None ≡ Some m → cond b true false ≡ true
      tested true e = refl
      tested false e = absurd cc
  name_among _ m e = absurd cc

  pub name_good : {n : ℕ} → AreRead ws n (name ws) (name ws) false (name_kind ∷ []) []
  name_good = placed_good (name_of ws) (name_kind ∷ []) name_among

  any_name_among : (t : PlainTokenKind) (m : ℕ) → any_name_of ws t ≡ Some m → among (token_kind ws t) first_any_name ≡ true
  any_name_among (tokens.Word k) m e = tested (among (word_kind (word_at ws k)) first_any_name) e
    where
      tested : (b : Bool) → cond b (Some k) None ≡ Some m → b ≡ true
      tested true e = refl
      tested false e = absurd cc
  any_name_among _ m e = absurd cc

  pub any_name_good : {n : ℕ} → AreRead ws n (any_name ws) (any_name ws) false first_any_name []
  any_name_good = placed_good (any_name_of ws) first_any_name any_name_among

  number_among : (t : PlainTokenKind) (z : ℤ × Option CInt) → number_of t ≡ Some z → among (token_kind ws t) (number_kind ∷ []) ≡ true
  number_among (tokens.Number v c) z e = refl
  number_among _ z e = absurd cc

  pub number_good : {n : ℕ} → AreRead ws n (one (placed number_of)) (one (placed number_of)) false (number_kind ∷ []) []
  number_good = placed_good number_of (number_kind ∷ []) number_among

  letter_among : (t : PlainTokenKind) (z : ℤ) → letter_of t ≡ Some z → among (token_kind ws t) (letter_kind ∷ []) ≡ true
  letter_among (tokens.Letter v) z e = refl
  letter_among _ z e = absurd cc

  pub letter_good : {n : ℕ} → AreRead ws n (one (placed letter_of)) (one (placed letter_of)) false (letter_kind ∷ []) []
  letter_good = placed_good letter_of (letter_kind ∷ []) letter_among

  marks_among : {A : Type 0} (table : List (ℕ × A)) (t : PlainTokenKind) (x : A) → mark_entry table t ≡ Some x → among (token_kind ws t) (kinds_of table) ≡ true
  marks_among table (tokens.Mark m) x e = entry_among m table x e
  marks_among table _ x e = absurd cc

  pub marks_good : {A : Type 0} {n : ℕ} (table : List (ℕ × A)) → AreRead ws n (one (placed (mark_entry table))) (one (placed (mark_entry table))) false (kinds_of table) []
  marks_good table = placed_good (mark_entry table) (kinds_of table) (marks_among table)

  keyword_among : (x : IntegerWords) (w : Word) (y : IntegerWords) → elim (keyword_of ws w) [ None ↦ None | Some k ↦ words_with x k ] ≡ Some y → among (word_kind w) (words_behind x) ≡ true
  keyword_among x (word.Keyword k) y e = words_among x k y e
  keyword_among x _ y e = absurd cc

  integer_among : (x : IntegerWords) (t : PlainTokenKind) (y : IntegerWords) → next_words ws x t ≡ Some y → among (token_kind ws t) (words_behind x) ≡ true
  integer_among x (tokens.Word m) y e = keyword_among x (word_at ws m) y e
  integer_among x _ y e = absurd cc

  pub next_words_good : {n : ℕ} (x : IntegerWords) → AreRead ws n (one (placed (next_words ws x))) (one (placed (next_words ws x))) false (words_behind x) []
  next_words_good x = placed_good (next_words ws x) (words_behind x) (integer_among x)

  typedef_word : (n : ℕ) (w : Word) (t : PlainType) → type_named_by n w ≡ Some t → among (word_kind w) (type_name_kind ∷ []) ≡ true
  typedef_word n (word.TypeName k) t e = refl
  typedef_word n _ t e = absurd cc

  typedef_name_among : (t : PlainTokenKind) (u : PlainType) → typedef_name_of ws t ≡ Some u → among (token_kind ws t) (type_name_kind ∷ []) ≡ true
  typedef_name_among (tokens.Word m) u e = typedef_word m (word_at ws m) u e
  typedef_name_among _ u e = absurd cc

  pub typedef_name_good : {n : ℕ} → AreRead ws n (one (placed (typedef_name_of ws))) (one (placed (typedef_name_of ws))) false (type_name_kind ∷ []) []
  typedef_name_good = placed_good (typedef_name_of ws) (type_name_kind ∷ []) typedef_name_among

  start_word : (n : ℕ) (w : Word) (s : TypeStart) → type_start_of ws n w ≡ Some s → among (word_kind w) first_type ≡ true
  start_word n (word.TypeName t) s e = refl
  start_word n (word.Keyword keyword.Char) s e = refl
  start_word n (word.Keyword keyword.Short) s e = refl
  start_word n (word.Keyword keyword.Int) s e = refl
  start_word n (word.Keyword keyword.Long) s e = refl
  start_word n (word.Keyword keyword.Signed) s e = refl
  start_word n (word.Keyword keyword.Unsigned) s e = refl
  start_word n (word.Keyword keyword.Void) s e = refl
  start_word n (word.Keyword keyword.Const) s e = refl
  start_word n (word.Keyword keyword.Struct) s e = refl
  start_word n (word.Keyword keyword.Enum) s e = refl
  start_word n _ s e = absurd cc

  type_start_among : (t : PlainTokenKind) (s : TypeStart × ℕ) → type_start ws t ≡ Some s → among (token_kind ws t) first_type ≡ true
  type_start_among (tokens.Word m) s e = by (type_start_of ws m (word_at ws m)) refl e
    where
      by : (o : Option TypeStart) → type_start_of ws m (word_at ws m) ≡ o → option_map (λ b. (b, m)) o ≡ Some s → among (word_kind (word_at ws m)) first_type ≡ true
      by (Some b) is h = start_word m (word_at ws m) b is
      by None is h = absurd cc
  type_start_among _ s e = absurd cc

  pub type_start_good : {n : ℕ} → AreRead ws n (one (placed (type_start ws))) (one (placed (type_start ws))) false first_type []
  type_start_good = placed_good (type_start ws) first_type type_start_among
