-- Single tokens are read exactly.
use Rattle.std.proofs.Common.{◌≡◌, ℕ, Bool, true, false, cond, eqb, List, [], ◌∷◌, Option, Some, None, refl}
use Rattle.std.specs.Prelude.{ℤ, ◌&&◌}
use Rattle.std.proofs.lemmas.Bool.{eqb-true, eq-eqb}
use Rattle.grammar.specs.Syntax.{Syntax, among, one}
use Rattle.grammar.specs.Exact.{IsGood}
use Rattle.grammar.proofs.Productions.{token}
use Rattle.c_syntax.specs.declared.place.Place.{Place}
use Rattle.c_syntax.specs.Tokens as tokens
use Rattle.c_syntax.specs.Tokens.{PlainTokenKind, PlainToken}
use Rattle.c_model.specs.Terminals.{entry, placed}
use Rattle.mon_syntax.specs.declared.tree.MonType.{MonType}
use Rattle.mon_syntax.specs.declared.tree.MonOp.{MonOp}
use Rattle.mon_syntax.specs.declared.word.Word.{Word}
use Rattle.mon_syntax.specs.declared.word.Word.TheVariants as word
use Rattle.mon_syntax.specs.Grammar.{Vocabulary, name_kind, type_kind, constant_kind, number_kind, text_kind, head_kind, mark_kind, word_kind, word_at, token_kind, kind, number_of, text_of, type_of_word, type_of, constant_of_word}
use Rattle.mon_syntax.specs.Grammar.{constant_of, operators, operator_of, kinds_of, first_operator, fixed, name_of, is_number, is_same_name, is_head}

-- a production is read exactly, with these sets: where it can be empty, what begins it, and what a reading can go on with
abbrev pub IsRead : {A : Type 0} → Vocabulary → Syntax PlainToken A → Bool → List ℕ → List ℕ → Type 0
IsRead ws G null first more = IsGood (kind ws) 0 G G null first (λ _. more)

among_rest : (n m : ℕ) (xs : List ℕ) → among n xs ≡ true → among n (m ∷ xs) ≡ true
among_rest n m xs h = tested (eqb n m)
  where
    tested : (b : Bool) → cond b true (among n xs) ≡ true
    tested true = refl
    tested false = h

-- an entry of a table is the punctuator of one of its kinds
entry_among : {A : Type 0} (m : ℕ) (table : List (ℕ × A)) (x : A) → entry m table ≡ Some x → among (mark_kind m) (kinds_of table) ≡ true
entry_among m [] x e = absurd cc
entry_among {A} m (y ∷ ys) x e = tested (eqb m y.0) refl (entry_among m ys x) e
  where
    tested : (b : Bool) → eqb m y.0 ≡ b → (entry m ys ≡ Some x → among (mark_kind m) (kinds_of ys) ≡ true) → cond b (Some y.1) (entry m ys) ≡ Some x → among (mark_kind m) (mark_kind y.0 ∷ kinds_of ys) ≡ true
    tested true is go h = rw (eqb-true m y.0 is, eq-eqb (mark_kind y.0) (mark_kind y.0) refl) refl
    tested false is go h = among_rest (mark_kind m) (mark_kind y.0) (kinds_of ys) (go h)

module _ (ws : Vocabulary) where
  fixed_among : (k : ℕ) (t : PlainToken) (p : Place) → cond (eqb (kind ws t) k) (Some t.place) None ≡ Some p → among (kind ws t) (k ∷ []) ≡ true
  fixed_among k t p e = tested (eqb (kind ws t) k) e
    where
      tested : (b : Bool) → cond b (Some t.place) None ≡ Some p → cond b true false ≡ true
      tested true e = refl
      tested false e = absurd cc

  pub fixed_good : (k : ℕ) → IsRead ws (fixed ws k) false (k ∷ []) []
  fixed_good k = token _ (k ∷ []) (fixed_among k)

  placed_among : {A : Type 0} (f : PlainTokenKind → Option A) (ks : List ℕ) → ((t : PlainTokenKind) (x : A) → f t ≡ Some x → among (token_kind ws t) ks ≡ true) → (t : PlainToken) (y : A × Place) → placed f t ≡ Some y → among (kind ws t) ks ≡ true
  placed_among {A} f ks h t y e = tested (f t.kind) refl e
    where
      tested : (o : Option A) → f t.kind ≡ o → elim o [ Some x ↦ Some (x, t.place) | None ↦ None ] ≡ Some y → among (kind ws t) ks ≡ true
      tested (Some x) is e = h t.kind x is
      tested None is e = absurd cc

  placed_good : {A : Type 0} (f : PlainTokenKind → Option A) (ks : List ℕ) → ((t : PlainTokenKind) (x : A) → f t ≡ Some x → among (token_kind ws t) ks ≡ true) → IsRead ws (one (placed f)) false ks []
  placed_good f ks h = token (placed f) ks (placed_among f ks h)

  name_among : (t : PlainTokenKind) (n : ℕ) → name_of ws t ≡ Some n → among (token_kind ws t) (name_kind ∷ []) ≡ true
  name_among (tokens.Word m) n e = tested (eqb (word_kind (word_at ws m)) name_kind) e
    where
      tested : (b : Bool) → cond b (Some m) None ≡ Some n → cond b true false ≡ true
      tested true e = refl
      tested false e = absurd cc
  name_among _ n e = absurd cc

  pub name_good : IsRead ws (one (placed (name_of ws))) false (name_kind ∷ []) []
  name_good = placed_good (name_of ws) (name_kind ∷ []) name_among

  number_among : (t : PlainTokenKind) (z : ℤ) → number_of t ≡ Some z → among (token_kind ws t) (number_kind ∷ []) ≡ true
  number_among (tokens.Number v c) z e = refl
  number_among _ z e = absurd cc

  pub number_good : IsRead ws (one (placed number_of)) false (number_kind ∷ []) []
  number_good = placed_good number_of (number_kind ∷ []) number_among

  text_among : (t : PlainTokenKind) (bytes : List ℕ) → text_of t ≡ Some bytes → among (token_kind ws t) (text_kind ∷ []) ≡ true
  text_among (tokens.Chars b) bytes e = refl
  text_among _ bytes e = absurd cc

  pub text_good : IsRead ws (one (placed text_of)) false (text_kind ∷ []) []
  text_good = placed_good text_of (text_kind ∷ []) text_among

  type_word : (w : Word) (t : MonType) → type_of_word w ≡ Some t → among (word_kind w) (type_kind ∷ []) ≡ true
  type_word (word.TypeName k) t e = refl
  type_word _ t e = absurd cc

  type_among : (k : PlainTokenKind) (t : MonType) → type_of ws k ≡ Some t → among (token_kind ws k) (type_kind ∷ []) ≡ true
  type_among (tokens.Word n) t e = type_word (word_at ws n) t e
  type_among _ t e = absurd cc

  pub type_good : IsRead ws (one (placed (type_of ws))) false (type_kind ∷ []) []
  type_good = placed_good (type_of ws) (type_kind ∷ []) type_among

  constant_word : (w : Word) (t : MonType) → constant_of_word w ≡ Some t → among (word_kind w) (constant_kind ∷ []) ≡ true
  constant_word (word.Constant k) t e = refl
  constant_word _ t e = absurd cc

  constant_among : (k : PlainTokenKind) (t : MonType) → constant_of ws k ≡ Some t → among (token_kind ws k) (constant_kind ∷ []) ≡ true
  constant_among (tokens.Word n) t e = constant_word (word_at ws n) t e
  constant_among _ t e = absurd cc

  pub constant_word_good : IsRead ws (one (placed (constant_of ws))) false (constant_kind ∷ []) []
  constant_word_good = placed_good (constant_of ws) (constant_kind ∷ []) constant_among

  this_among : (n : ℕ) (k : PlainTokenKind) (x : Unit {0}) → is_number n k ≡ Some x → among (token_kind ws k) (number_kind ∷ []) ≡ true
  this_among n (tokens.Number z c) x e = refl
  this_among n _ x e = absurd cc

  pub this_number_good : (n : ℕ) → IsRead ws (one (placed (is_number n))) false (number_kind ∷ []) []
  this_number_good n = placed_good (is_number n) (number_kind ∷ []) (this_among n)

  same_among : (n : ℕ) (k : PlainTokenKind) (x : Unit {0}) → is_same_name n k ≡ Some x → among (token_kind ws k) (word_kind (word_at ws n) ∷ []) ≡ true
  same_among n (tokens.Word m) x e = tested (eqb m n) refl e
    where
      tested : (b : Bool) → eqb m n ≡ b → cond b (Some tt) None ≡ Some x → among (word_kind (word_at ws m)) (word_kind (word_at ws n) ∷ []) ≡ true
      tested true is e = rw (eqb-true m n is, eq-eqb (word_kind (word_at ws n)) (word_kind (word_at ws n)) refl) refl
      tested false is e = absurd cc
  same_among n _ x e = absurd cc

  pub same_name_good : (n : ℕ) → IsRead ws (one (placed (is_same_name n))) false (word_kind (word_at ws n) ∷ []) []
  same_name_good n = placed_good (is_same_name n) (word_kind (word_at ws n) ∷ []) (same_among n)

  pub head_good : IsRead ws (one (is_head ws)) false (head_kind ∷ []) []
  head_good = token (is_head ws) (head_kind ∷ []) head_among
    where
      tested : (t : PlainToken) (b c : Bool) (x : Unit {0}) → cond (b && c) (Some tt) None ≡ Some x → cond b true false ≡ true
      tested t true c x e = refl
      tested t false c x e = absurd cc

      head_among : (t : PlainToken) (x : Unit {0}) → is_head ws t ≡ Some x → among (kind ws t) (head_kind ∷ []) ≡ true
      head_among t x e = tested t (eqb (kind ws t) head_kind) (eqb t.place.line 1) x e

  operator_among : (t : PlainTokenKind) (op : MonOp) → operator_of t ≡ Some op → among (token_kind ws t) first_operator ≡ true
  operator_among (tokens.Mark m) op e = entry_among m operators op e
  operator_among _ op e = absurd cc

  pub operator_good : IsRead ws (one (placed operator_of)) false first_operator []
  operator_good = placed_good operator_of first_operator operator_among
