-- Single tokens of annotations are read exactly: their kinds are those of C, but that `integer` has one of its own.
use Rattle.std.proofs.Common.{◌≡◌, ℕ, Bool, true, false, cond, eqb, List, [], ◌∷◌, Option, Some, None, refl, sym, ◌∙◌, ◌<◌, arith}
use Rattle.std.proofs.lemmas.Bool.{eqb-true}
use Rattle.grammar.specs.Syntax.{Syntax, among, sees, one}
use Rattle.grammar.specs.Exact.{IsExact, IsGood}
use Rattle.grammar.proofs.Productions.{token, same, recast}
use Rattle.grammar.proofs.Sets.{within_among}
use Rattle.c_syntax.specs.declared.place.Place.{Place}
use Rattle.c_syntax.specs.Tokens as tokens
use Rattle.c_syntax.specs.Tokens.{PlainTokenKind, PlainToken}
use Rattle.c_syntax.specs.declared.logic.BlockFact.{BlockFact}
use Rattle.c_syntax.specs.declared.logic.MemoryQuestion.{MemoryQuestion}
use Rattle.c_syntax.specs.declared.logic.Quantifier.{Quantifier}
use Rattle.c_model.specs.declared.vocabulary.LogicWord.TheVariants as logic
use Rattle.c_model.specs.declared.vocabulary.Word.{Word}
use Rattle.c_model.specs.declared.vocabulary.Word.TheVariants as word
use Rattle.c_model.specs.Vocabulary.{Vocabulary, word_at}
use Rattle.c_model.specs.Terminals.{placed, mark_entry}
use Rattle.c_model.specs.ExpressionGrammar.{type_name_kind, fact_kind, question_kind, quantifier_kind, first_any_name, any_name_of, any_name, name_kind, number_kind, letter_kind, logic_kind, mark_kind, word_kind, token_kind, kind}
use Rattle.c_model.specs.ExpressionGrammar.{number_of, letter_of}
use Rattle.c_model.specs.ExpressionGrammar.{kinds_of, first_type, fixed}
use Rattle.c_model.specs.AnnotationGrammar.{fact_word, fact_of, question_word, question_of, quantifier_word, quantifier_of, integer_kind, formula_word_kind, formula_token_kind, formula_kind, formula_name_of, truth_word, truth_of, integer_word}
use Rattle.c_expr_parser.proofs.ExactTokens.{fixed_good, number_good, letter_good, marks_good}

-- a production of annotations is read exactly, with these sets
abbrev pub IsForm : {A : Type 0} → Vocabulary → Syntax PlainToken A → Bool → List ℕ → List ℕ → Type 0
IsForm ws G null first more = IsGood (formula_kind ws) 0 G G null first (λ _. more)

-- the same of two productions, on texts below n tokens
abbrev pub AreForms : {A : Type 0} → Vocabulary → ℕ → Syntax PlainToken A → Syntax PlainToken A → Bool → List ℕ → List ℕ → Type 0
AreForms ws n G H null first more = IsGood (formula_kind ws) n G H null first (λ _. more)

-- what may be the name of a member
abbrev pub first_member : List ℕ
first_member = name_kind ∷ type_name_kind ∷ integer_kind ∷ []

-- neither a name nor `integer` is of these kinds
pub record NoName (ks : List ℕ) : Type 0 where
  pub name : among name_kind ks ≡ false
  pub integer : among integer_kind ks ≡ false

-- the kinds of punctuators are those of no word
marks_no_word : {A : Type 0} (k : ℕ) (table : List (ℕ × A)) → k < 60 → among k (kinds_of table) ≡ false
marks_no_word k [] h = refl
marks_no_word {A} k (x ∷ xs) h = tested (eqb k (mark_kind x.0)) refl (marks_no_word k xs h)
  where
    tested : (b : Bool) → eqb k (mark_kind x.0) ≡ b → among k (kinds_of xs) ≡ false → cond b true (among k (kinds_of xs)) ≡ false
    tested true e g = let is = eqb-true k (mark_kind x.0) e in absurd (omega (arith, is, h))
    tested false e g = g

pub marks_no_name : {A : Type 0} (table : List (ℕ × A)) → NoName (kinds_of table)
marks_no_name table = record { name = marks_no_word name_kind table (omega arith); integer = marks_no_word integer_kind table (omega arith) }

module _ (ws : Vocabulary) where
  word_same : (ks : List ℕ) → NoName ks → (w : Word) → among (word_kind w) ks ≡ among (formula_word_kind w) ks
  word_same ks h word.Integer = h.name ∙ sym h.integer
  word_same ks h (word.Keyword k) = refl
  word_same ks h (word.TypeName t) = refl
  word_same ks h (word.Clause c) = refl
  word_same ks h (word.Logic w) = refl
  word_same ks h word.Name = refl

  token_same : (ks : List ℕ) → NoName ks → (t : PlainTokenKind) → among (token_kind ws t) ks ≡ among (formula_token_kind ws t) ks
  token_same ks h (tokens.Word n) = word_same ks h (word_at ws n)
  token_same ks h (tokens.Number z c) = refl
  token_same ks h (tokens.Letter z) = refl
  token_same ks h (tokens.Chars b) = refl
  token_same ks h (tokens.Mark m) = refl
  token_same ks h tokens.AnnotOpen = refl
  token_same ks h tokens.AnnotClose = refl
  token_same ks h (tokens.Head k n) = refl

  sees_same : (ks : List ℕ) → NoName ks → (ts : List PlainToken) → sees (kind ws) ks ts ≡ sees (formula_kind ws) ks ts
  sees_same ks h [] = refl
  sees_same ks h (t ∷ ts) = token_same ks h t.kind

  pub sees_marks : {A : Type 0} (table : List (ℕ × A)) (ts : List PlainToken) → sees (kind ws) (kinds_of table) ts ≡ sees (formula_kind ws) (kinds_of table) ts
  sees_marks table ts = sees_same (kinds_of table) (marks_no_name table) ts

  pub sees_type : (ts : List PlainToken) → sees (kind ws) first_type ts ≡ sees (formula_kind ws) first_type ts
  sees_type ts = sees_same first_type (record { name = refl; integer = refl }) ts

  -- ---- what is read exactly in C and begins with no name is so here

  pub in_annotations : {A : Type 0} {G : Syntax PlainToken A} {null : Bool} (first more : List ℕ) → NoName first → NoName more → IsExact (kind ws) G null first (λ _. more) → IsExact (formula_kind ws) G null first (λ _. more)
  in_annotations first more f m g = recast first (λ _. more) (λ t h. sym (token_same first f t.kind) ∙ h) (λ x t h. sym (token_same more m t.kind) ∙ h) g

  -- the other way round, where a name may be of these kinds
  pub token_is : (ks : List ℕ) → among integer_kind ks ≡ false → (t : PlainTokenKind) → among (formula_token_kind ws t) ks ≡ true → among (token_kind ws t) ks ≡ true
  token_is ks h (tokens.Word n) e = word_is (word_at ws n) e
    where
      word_is : (w : Word) → among (formula_word_kind w) ks ≡ true → among (word_kind w) ks ≡ true
      word_is word.Integer e = absurd cc
      word_is (word.Keyword k) e = e
      word_is (word.TypeName t) e = e
      word_is (word.Clause c) e = e
      word_is (word.Logic w) e = e
      word_is word.Name e = e
  token_is ks h (tokens.Number z c) e = e
  token_is ks h (tokens.Letter z) e = e
  token_is ks h (tokens.Chars b) e = e
  token_is ks h (tokens.Mark m) e = e
  token_is ks h tokens.AnnotOpen e = e
  token_is ks h tokens.AnnotClose e = e
  token_is ks h (tokens.Head k n) e = e

  pub in_c : {A : Type 0} {G : Syntax PlainToken A} {null : Bool} (first more : List ℕ) → among integer_kind first ≡ false → among integer_kind more ≡ false → IsExact (formula_kind ws) G null first (λ _. more)
      → IsExact (kind ws) G null first (λ _. more)
  in_c first more f m g = recast first (λ _. more) (λ t h. token_is first f t.kind h) (λ x t h. token_is more m t.kind h) g

  no_more : NoName []
  no_more = record { name = refl; integer = refl }

  pub fixed_form : {n : ℕ} (k : ℕ) → NoName (k ∷ []) → AreForms ws n (fixed ws k) (fixed ws k) false (k ∷ []) []
  fixed_form k h = same (in_annotations (k ∷ []) [] h no_more (fixed_good ws {n = 0} k).here)

  pub mark_form : {n : ℕ} (m : ℕ) → AreForms ws n (fixed ws (mark_kind m)) (fixed ws (mark_kind m)) false (mark_kind m ∷ []) []
  mark_form m = fixed_form (mark_kind m) (marks_no_name ((m, tt {0}) ∷ []))

  pub number_form : {n : ℕ} → AreForms ws n (one (placed number_of)) (one (placed number_of)) false (number_kind ∷ []) []
  number_form = same (in_annotations (number_kind ∷ []) [] (record { name = refl; integer = refl }) no_more (number_good ws {n = 0}).here)

  pub letter_form : {n : ℕ} → AreForms ws n (one (placed letter_of)) (one (placed letter_of)) false (letter_kind ∷ []) []
  letter_form = same (in_annotations (letter_kind ∷ []) [] (record { name = refl; integer = refl }) no_more (letter_good ws {n = 0}).here)

  pub marks_form : {A : Type 0} {n : ℕ} (table : List (ℕ × A)) → AreForms ws n (one (placed (mark_entry table))) (one (placed (mark_entry table))) false (kinds_of table) []
  marks_form table = same (in_annotations (kinds_of table) [] (marks_no_name table) no_more (marks_good ws {n = 0} table).here)

  -- ---- tokens of annotations alone

  pub placed_among : {A : Type 0} (K : PlainTokenKind → ℕ) (f : PlainTokenKind → Option A) (ks : List ℕ) → ((t : PlainTokenKind) (x : A) → f t ≡ Some x → among (K t) ks ≡ true) → (t : PlainToken) (y : A × Place) → placed f t ≡ Some y
      → among (K t.kind) ks ≡ true
  placed_among {A} K f ks h t y e = tested (f t.kind) refl e
    where
      tested : (o : Option A) → f t.kind ≡ o → elim o [ Some x ↦ Some (x, t.place) | None ↦ None ] ≡ Some y → among (K t.kind) ks ≡ true
      tested (Some x) is e = h t.kind x is
      tested None is e = absurd cc

  placed_form : {A : Type 0} {n : ℕ} (f : PlainTokenKind → Option A) (ks : List ℕ) → ((t : PlainTokenKind) (x : A) → f t ≡ Some x → among (formula_token_kind ws t) ks ≡ true) → AreForms ws n (one (placed f)) (one (placed f)) false ks []
  placed_form f ks h = token (placed f) ks (placed_among (formula_token_kind ws) f ks h)

  name_among : (t : PlainTokenKind) (m : ℕ) → formula_name_of ws t ≡ Some m → among (formula_token_kind ws t) (name_kind ∷ []) ≡ true
  name_among (tokens.Word k) m e = tested (eqb (formula_word_kind (word_at ws k)) name_kind) e
    where
      tested : (b : Bool) → cond b (Some k) None ≡ Some m → cond b true false ≡ true
      tested true e = refl
      tested false e = absurd cc
  name_among _ m e = absurd cc

  pub name_form : {n : ℕ} → AreForms ws n (one (placed (formula_name_of ws))) (one (placed (formula_name_of ws))) false (name_kind ∷ []) []
  name_form = placed_form (formula_name_of ws) (name_kind ∷ []) name_among

  truth_is_logic : (w : Word) (b : Bool) → truth_word w ≡ Some b → among (formula_word_kind w) (logic_kind ∷ []) ≡ true
  truth_is_logic (word.Logic (logic.Truth c)) b e = refl
  truth_is_logic _ b e = absurd cc

  truth_among : (t : PlainTokenKind) (b : Bool) → truth_of ws t ≡ Some b → among (formula_token_kind ws t) (logic_kind ∷ []) ≡ true
  truth_among (tokens.Word k) b e = truth_is_logic (word_at ws k) b e
  truth_among _ b e = absurd cc

  pub truth_form : {n : ℕ} → AreForms ws n (one (placed (truth_of ws))) (one (placed (truth_of ws))) false (logic_kind ∷ []) []
  truth_form = placed_form (truth_of ws) (logic_kind ∷ []) truth_among

  fact_is_fact : (w : Word) (f : BlockFact) → fact_word w ≡ Some f → among (formula_word_kind w) (fact_kind ∷ []) ≡ true
  fact_is_fact (word.Logic (logic.Told g)) f e = refl
  fact_is_fact _ f e = absurd cc

  fact_among : (t : PlainTokenKind) (f : BlockFact) → fact_of ws t ≡ Some f → among (formula_token_kind ws t) (fact_kind ∷ []) ≡ true
  fact_among (tokens.Word k) f e = fact_is_fact (word_at ws k) f e
  fact_among _ f e = absurd cc

  pub fact_form : {n : ℕ} → AreForms ws n (one (placed (fact_of ws))) (one (placed (fact_of ws))) false (fact_kind ∷ []) []
  fact_form = placed_form (fact_of ws) (fact_kind ∷ []) fact_among

  question_is_question : (w : Word) (q : MemoryQuestion) → question_word w ≡ Some q → among (formula_word_kind w) (question_kind ∷ []) ≡ true
  question_is_question (word.Logic (logic.Asks r)) q e = refl
  question_is_question _ q e = absurd cc

  question_among : (t : PlainTokenKind) (q : MemoryQuestion) → question_of ws t ≡ Some q → among (formula_token_kind ws t) (question_kind ∷ []) ≡ true
  question_among (tokens.Word k) q e = question_is_question (word_at ws k) q e
  question_among _ q e = absurd cc

  pub question_form : {n : ℕ} → AreForms ws n (one (placed (question_of ws))) (one (placed (question_of ws))) false (question_kind ∷ []) []
  question_form = placed_form (question_of ws) (question_kind ∷ []) question_among

  quantifier_is_quantifier : (w : Word) (q : Quantifier) → quantifier_word w ≡ Some q → among (formula_word_kind w) (quantifier_kind ∷ []) ≡ true
  quantifier_is_quantifier (word.Logic (logic.Quantifier r)) q e = refl
  quantifier_is_quantifier _ q e = absurd cc

  quantifier_among : (t : PlainTokenKind) (q : Quantifier) → quantifier_of ws t ≡ Some q → among (formula_token_kind ws t) (quantifier_kind ∷ []) ≡ true
  quantifier_among (tokens.Word k) q e = quantifier_is_quantifier (word_at ws k) q e
  quantifier_among _ q e = absurd cc

  pub quantifier_form : {n : ℕ} → AreForms ws n (one (placed (quantifier_of ws))) (one (placed (quantifier_of ws))) false (quantifier_kind ∷ []) []
  quantifier_form = placed_form (quantifier_of ws) (quantifier_kind ∷ []) quantifier_among

  -- the name of a member may be that of a type, and `integer`
  some_so : (b : Bool) (k m : ℕ) → cond b (Some k) None ≡ Some m → b ≡ true
  some_so true k m e = refl
  some_so false k m e = absurd cc

  member_word : (w : Word) → among (word_kind w) first_any_name ≡ true → among (formula_word_kind w) first_member ≡ true
  member_word word.Integer e = refl
  member_word (word.Keyword k) e = within_among first_any_name first_member (word_kind (word.Keyword k)) refl e
  member_word (word.TypeName t) e = refl
  member_word (word.Clause c) e = refl
  member_word (word.Logic w) e = within_among first_any_name first_member (word_kind (word.Logic w)) refl e
  member_word word.Name e = refl

  member_among : (t : PlainTokenKind) (m : ℕ) → any_name_of ws t ≡ Some m → among (formula_token_kind ws t) first_member ≡ true
  member_among (tokens.Word k) m e = member_word (word_at ws k) (some_so (among (word_kind (word_at ws k)) first_any_name) k m e)
  member_among _ m e = absurd cc

  pub member_form : {n : ℕ} → AreForms ws n (any_name ws) (any_name ws) false first_member []
  member_form = placed_form (any_name_of ws) first_member member_among

  integer_among : (t : PlainToken) (p : Place) → cond (eqb (formula_kind ws t) integer_kind) (Some t.place) None ≡ Some p → among (formula_kind ws t) (integer_kind ∷ []) ≡ true
  integer_among t p e = tested (eqb (formula_kind ws t) integer_kind) e
    where
      tested : (b : Bool) → cond b (Some t.place) None ≡ Some p → cond b true false ≡ true
      tested true e = refl
      tested false e = absurd cc

  pub integer_form : {n : ℕ} → AreForms ws n (integer_word ws) (integer_word ws) false (integer_kind ∷ []) []
  integer_form = token _ (integer_kind ∷ []) integer_among
