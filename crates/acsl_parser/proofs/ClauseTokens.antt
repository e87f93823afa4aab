-- Where clauses begin, their words have kinds of their own: what is read exactly as a form is so there too.
use Rattle.std.proofs.Common.{◌≡◌, ℕ, ◌+◌, ◌≤◌, Bool, true, false, cond, eqb, List, [], ◌∷◌, ◌++◌, Option, Some, None, refl, arith}
use Rattle.std.proofs.lemmas.Bool.{eqb-true}
use Rattle.grammar.specs.Syntax.{Syntax, among, one}
use Rattle.grammar.specs.Exact.{IsExact, IsGood}
use Rattle.grammar.proofs.Productions.{token, same, recast}
use Rattle.grammar.proofs.Sets.{within, apart, within_among, apart_among, within_left, within_right}
use Rattle.c_syntax.specs.declared.place.Place.{Place}
use Rattle.c_syntax.specs.declared.annotation.Kind.{Kind}
use Rattle.c_syntax.specs.Tokens as tokens
use Rattle.c_syntax.specs.Tokens.{PlainTokenKind, PlainToken}
use Rattle.c_model.specs.declared.formulas.ClauseGroup.{ClauseGroup}
use Rattle.c_model.specs.declared.formulas.ClauseGroup.TheVariants as group
use Rattle.c_model.specs.declared.vocabulary.ClauseWord.{ClauseWord}
use Rattle.c_model.specs.declared.vocabulary.ClauseWord.TheVariants as clause
use Rattle.c_model.specs.declared.vocabulary.TypeName.TheVariants.{DeclaredClause}
use Rattle.c_model.specs.declared.vocabulary.Word.{Word}
use Rattle.c_model.specs.declared.vocabulary.Word.TheVariants as word
use Rattle.c_model.specs.Vocabulary.{Vocabulary, word_at}
use Rattle.c_model.specs.Terminals.{placed}
use Rattle.c_model.specs.ExpressionGrammar.{name_kind, type_name_kind, word_kind, token_kind, kind}
use Rattle.c_model.specs.AnnotationGrammar.{integer_kind, formula_word_kind, formula_token_kind, formula_kind}
use Rattle.c_model.specs.ClauseGrammar.{clause_word_of, clause_word, clause_word_kind, clause_token_kind, clause_kind, kind_in, cover_kind, kind_among, fixed_word}
use Rattle.c_model.specs.ClauseGrammar.{assert_kind, requires_kind, assumes_kind, ensures_kind, behavior_kind, complete_kind, disjoint_kind, behaviors_kind, assigns_kind, loop_kind, invariant_kind, variant_kind}
use Rattle.c_model.specs.ClauseGrammar.{first_in, first_cover}
use Rattle.c_expr_parser.proofs.TakenTokens.{word_small}
use Rattle.acsl_parser.proofs.FormulaTokens.{placed_among, token_is}

-- a production of what stands in annotations is read exactly, with these sets
abbrev pub AreClauses : {A : Type 0} → Vocabulary → ℕ → Syntax PlainToken A → Bool → List ℕ → List ℕ → Type 0
AreClauses ws n G null first more = IsGood (clause_kind ws) n G G null first (λ _. more)

abbrev pub clause_kinds : List ℕ
clause_kinds = assert_kind ∷ requires_kind ∷ assumes_kind ∷ ensures_kind ∷ behavior_kind ∷ complete_kind ∷ disjoint_kind ∷ behaviors_kind ∷ assigns_kind ∷ loop_kind ∷ invariant_kind
    ∷ variant_kind ∷ []

-- what begins a clause, by the kinds of C's tokens
abbrev pub first_clause : List ℕ
first_clause = name_kind ∷ type_name_kind ∷ []

is_clause_kind : (c : ClauseWord) → among (clause_word_kind c) clause_kinds ≡ true
is_clause_kind clause.Assert = refl
is_clause_kind clause.Requires = refl
is_clause_kind clause.Assumes = refl
is_clause_kind clause.Ensures = refl
is_clause_kind clause.Behavior = refl
is_clause_kind clause.Complete = refl
is_clause_kind clause.Disjoint = refl
is_clause_kind clause.Behaviors = refl
is_clause_kind clause.Assigns = refl
is_clause_kind clause.Loop = refl
is_clause_kind clause.Invariant = refl
is_clause_kind clause.Variant = refl

-- a word of clauses is a name in C, or the name of a type
named_in_c : (w : Word) (c : ClauseWord) → clause_word_of w ≡ Some c → among (word_kind w) first_clause ≡ true
named_in_c (word.Clause d) c e = refl
named_in_c (word.TypeName (DeclaredClause d)) c e = refl
named_in_c _ c e = absurd cc

kind_is_first : (g : ClauseGroup) (c : ClauseWord) (k : Kind) → kind_in g c ≡ Some k → among (clause_word_kind c) (first_in g) ≡ true
kind_is_first group.Asserts clause.Assert k e = refl
kind_is_first group.Contract clause.Requires k e = refl
kind_is_first group.Contract clause.Ensures k e = refl
kind_is_first group.Behavior clause.Requires k e = refl
kind_is_first group.Behavior clause.Assumes k e = refl
kind_is_first group.Behavior clause.Ensures k e = refl
kind_is_first group.Loop clause.Invariant k e = refl
kind_is_first group.Loop clause.Variant k e = refl
kind_is_first _ _ k e = absurd cc

cover_is_first : (c : ClauseWord) (k : Kind) → cover_kind c ≡ Some k → among (clause_word_kind c) first_cover ≡ true
cover_is_first clause.Complete k e = refl
cover_is_first clause.Disjoint k e = refl
cover_is_first _ k e = absurd cc

-- ---- no other token has the kind of a word of clauses

abbrev Differs : ℕ → List ℕ → Type 0
Differs k [] = Unit {0}
Differs k (x ∷ xs) = (k ≡ x → ⊥) × Differs k xs

not_among : (k : ℕ) (xs : List ℕ) → Differs k xs → among k xs ≡ false
not_among k [] d = refl
not_among k (x ∷ xs) d = tested (eqb k x) refl (not_among k xs d.1)
  where
    tested : (b : Bool) → eqb k x ≡ b → among k xs ≡ false → cond b true (among k xs) ≡ false
    tested true e rest = absurd (d.0 (eqb-true k x e))
    tested false e rest = rest

below_clauses : (k : ℕ) → k ≤ 42 → among k clause_kinds ≡ false
below_clauses k h =
    not_among k clause_kinds (
      λ e. omega (arith, h, e),
      (
        λ e. omega (arith, h, e),
        (
          λ e. omega (arith, h, e),
          (
            λ e. omega (arith, h, e),
            (
              λ e. omega (arith, h, e),
              (λ e. omega (arith, h, e), (λ e. omega (arith, h, e), (λ e. omega (arith, h, e), (λ e. omega (arith, h, e), (λ e. omega (arith, h, e), (λ e. omega (arith, h, e), (λ e. omega (arith, h, e), tt))))))),
            ),
          ),
        ),
      ),
    )

above_clauses : (k : ℕ) → 60 ≤ k → among k clause_kinds ≡ false
above_clauses k h =
    not_among k clause_kinds (
      λ e. omega (arith, h, e),
      (
        λ e. omega (arith, h, e),
        (
          λ e. omega (arith, h, e),
          (
            λ e. omega (arith, h, e),
            (
              λ e. omega (arith, h, e),
              (λ e. omega (arith, h, e), (λ e. omega (arith, h, e), (λ e. omega (arith, h, e), (λ e. omega (arith, h, e), (λ e. omega (arith, h, e), (λ e. omega (arith, h, e), (λ e. omega (arith, h, e), tt))))))),
            ),
          ),
        ),
      ),
    )

word_below : (w : Word) → formula_word_kind w ≤ 42
word_below word.Integer = omega arith
word_below (word.Keyword k) = word_small (word.Keyword k)
word_below (word.TypeName t) = word_small (word.TypeName t)
word_below (word.Clause c) = word_small (word.Clause c)
word_below (word.Logic l) = word_small (word.Logic l)
word_below word.Name = word_small word.Name

no_clause_kind : (ws : Vocabulary) (t : PlainTokenKind) → among (formula_token_kind ws t) clause_kinds ≡ false
no_clause_kind ws (tokens.Word n) = below_clauses (formula_word_kind (word_at ws n)) (word_below (word_at ws n))
no_clause_kind ws (tokens.Number z c) = refl
no_clause_kind ws (tokens.Letter z) = refl
no_clause_kind ws (tokens.Chars s) = refl
no_clause_kind ws (tokens.Mark m) = above_clauses (60 + m) (omega arith)
no_clause_kind ws tokens.AnnotOpen = refl
no_clause_kind ws tokens.AnnotClose = refl
no_clause_kind ws (tokens.Head k n) = refl

module _ (ws : Vocabulary) where
  -- ---- what is read exactly as a form is so where clauses begin

  -- where names are among the kinds, the words of clauses are
  pub name_among : (ks ks' : List ℕ) → within ks ks' ≡ true → within clause_kinds ks' ≡ true → (t : PlainTokenKind) → among (formula_token_kind ws t) ks ≡ true → among (clause_token_kind ws t) ks' ≡ true
  name_among ks ks' w v t h = tested (clause_word ws t)
    where
      tested : (o : Option ClauseWord) → among (elim o [ Some c ↦ clause_word_kind c | None ↦ formula_token_kind ws t ]) ks' ≡ true
      tested (Some c) = within_among clause_kinds ks' (clause_word_kind c) v (is_clause_kind c)
      tested None = within_among ks ks' (formula_token_kind ws t) w h

  -- where they are not, the kinds are the same
  pub mark_among : (ks : List ℕ) → among name_kind ks ≡ false → among type_name_kind ks ≡ false → (t : PlainTokenKind) → among (formula_token_kind ws t) ks ≡ true → among (clause_token_kind ws t) ks ≡ true
  mark_among ks a b (tokens.Word n) h = of_word (word_at ws n) h
    where
      of_word : (w : Word) → among (formula_word_kind w) ks ≡ true → among (elim (clause_word_of w) [ Some c ↦ clause_word_kind c | None ↦ formula_word_kind w ]) ks ≡ true
      of_word (word.Clause c) h = absurd cc
      of_word (word.TypeName (DeclaredClause c)) h = absurd cc
      of_word (word.TypeName t) h = absurd cc
      of_word (word.Keyword k) h = h
      of_word word.Integer h = h
      of_word (word.Logic l) h = h
      of_word word.Name h = h
  mark_among ks a b (tokens.Number z c) h = h
  mark_among ks a b (tokens.Letter z) h = h
  mark_among ks a b (tokens.Chars s) h = h
  mark_among ks a b (tokens.Mark m) h = h
  mark_among ks a b tokens.AnnotOpen h = h
  mark_among ks a b tokens.AnnotClose h = h
  mark_among ks a b (tokens.Head k n) h = h

  -- begun by a name
  pub as_clause : {A : Type 0} {n : ℕ} {G : Syntax PlainToken A} {null : Bool} (first more more' : List ℕ) → ((t : PlainTokenKind) → among (formula_token_kind ws t) more ≡ true → among (clause_token_kind ws t) more' ≡ true)
      → IsExact (formula_kind ws) G null first (λ _. more) → AreClauses ws n G null (first ++ clause_kinds) more'
  as_clause first more more' m g =
      same (recast (first ++ clause_kinds) (λ _. more') (λ t h. name_among first (first ++ clause_kinds) (within_left first clause_kinds) (within_right first clause_kinds) t.kind h) (λ x t h. m t.kind h) g)

  -- begun by a punctuator or the like
  pub as_mark : {A : Type 0} {n : ℕ} {G : Syntax PlainToken A} {null : Bool} (first : List ℕ) → among name_kind first ≡ false → among type_name_kind first ≡ false → IsExact (formula_kind ws) G null first (λ _. [])
      → AreClauses ws n G null first []
  as_mark first a b g = same (recast first (λ _. []) (λ t h. mark_among first a b t.kind h) (λ x t h. absurd cc) g)

  -- ---- and the other way round, by the kinds of C's tokens

  out_among : (ks : List ℕ) → apart clause_kinds ks ≡ true → (t : PlainTokenKind) → among (clause_token_kind ws t) ks ≡ true → among (formula_token_kind ws t) ks ≡ true
  out_among ks a t h = tested (clause_word ws t) h
    where
      tested : (o : Option ClauseWord) → among (elim o [ Some c ↦ clause_word_kind c | None ↦ formula_token_kind ws t ]) ks ≡ true → among (formula_token_kind ws t) ks ≡ true
      tested (Some c) h = absurd (apart_among clause_kinds ks (clause_word_kind c) a (is_clause_kind c) h)
      tested None h = h

  pub out_of : {A : Type 0} {G : Syntax PlainToken A} {null : Bool} (first : List ℕ) → apart clause_kinds first ≡ true → among integer_kind first ≡ false → IsExact (clause_kind ws) G null first (λ _. []) → IsExact (kind ws) G null first (λ _. [])
  out_of first a b g = recast first (λ _. []) (λ t h. token_is ws first b t.kind (out_among first a t.kind h)) (λ x t h. absurd cc) g

  -- ---- words of clauses

  -- what a word of clauses is read as is among the kinds, if each word is
  word_among : (K : PlainTokenKind → ℕ) (ks : List ℕ) (kinds : ClauseWord → Option Kind) → ((t : PlainTokenKind) (c : ClauseWord) (k : Kind) → clause_word ws t ≡ Some c → kinds c ≡ Some k → among (K t) ks ≡ true) → (t : PlainTokenKind) (k : Kind)
      → kind_among ws kinds t ≡ Some k → among (K t) ks ≡ true
  word_among K ks kinds h t k e = tested (clause_word ws t) refl e
    where
      tested : (o : Option ClauseWord) → clause_word ws t ≡ o → elim o [ Some c ↦ kinds c | None ↦ None ] ≡ Some k → among (K t) ks ≡ true
      tested (Some c) is e = h t c k is e
      tested None is e = absurd cc

  own_kind : (ks : List ℕ) (t : PlainTokenKind) (c : ClauseWord) → clause_word ws t ≡ Some c → among (clause_word_kind c) ks ≡ true → among (clause_token_kind ws t) ks ≡ true
  own_kind ks t c is h = rw (is, clause_token_kind) h

  c_kind : (t : PlainTokenKind) (c : ClauseWord) → clause_word ws t ≡ Some c → among (token_kind ws t) first_clause ≡ true
  c_kind (tokens.Word n) c is = named_in_c (word_at ws n) c is
  c_kind _ c is = absurd cc

  -- what is begun by words of clauses is so by the kinds of C's tokens
  words_in_c : (ks : List ℕ) → within ks clause_kinds ≡ true → (t : PlainTokenKind) → among (clause_token_kind ws t) ks ≡ true → among (token_kind ws t) first_clause ≡ true
  words_in_c ks w t h = tested (clause_word ws t) refl h
    where
      tested : (o : Option ClauseWord) → clause_word ws t ≡ o → among (elim o [ Some c ↦ clause_word_kind c | None ↦ formula_token_kind ws t ]) ks ≡ true → among (token_kind ws t) first_clause ≡ true
      tested (Some c) is e = c_kind t c is
      tested None is e = let q = within_among ks clause_kinds (formula_token_kind ws t) w e in let p = no_clause_kind ws t in absurd cc

  pub begun_in_c : {A : Type 0} {G : Syntax PlainToken A} {null : Bool} (first : List ℕ) → within first clause_kinds ≡ true → IsExact (clause_kind ws) G null first (λ _. []) → IsExact (kind ws) G null first_clause (λ _. [])
  begun_in_c first w g = recast first_clause (λ _. []) (λ t h. words_in_c first w t.kind h) (λ x t h. absurd cc) g

  pub kind_clause : {n : ℕ} (g : ClauseGroup) → AreClauses ws n (one (placed (kind_among ws (kind_in g)))) false (first_in g) []
  kind_clause g =
      token _ (first_in g) (placed_among ws (clause_token_kind ws) (kind_among ws (kind_in g)) (first_in g)
      (word_among (clause_token_kind ws) (first_in g) (kind_in g) (λ t c k is e. own_kind (first_in g) t c is (kind_is_first g c k e))))

  pub cover_clause_word : {n : ℕ} → AreClauses ws n (one (placed (kind_among ws cover_kind))) false first_cover []
  cover_clause_word =
      token _ first_cover (placed_among ws (clause_token_kind ws) (kind_among ws cover_kind) first_cover
      (word_among (clause_token_kind ws) first_cover cover_kind (λ t c k is e. own_kind first_cover t c is (cover_is_first c k e))))

  -- the same by the kinds of C's tokens
  pub kind_in_c : {n : ℕ} (kinds : ClauseWord → Option Kind) → IsGood (kind ws) n (one (placed (kind_among ws kinds))) (one (placed (kind_among ws kinds))) false first_clause (λ _. [])
  kind_in_c kinds =
      token _ first_clause (placed_among ws (token_kind ws) (kind_among ws kinds) first_clause (word_among (token_kind ws) first_clause kinds (λ t c k is e. c_kind t c is)))

  -- ---- the word of clauses with a kind

  pub fixed_among : (K : PlainTokenKind → ℕ) (ks : List ℕ) (k : ℕ) → ((t : PlainTokenKind) (c : ClauseWord) → clause_word ws t ≡ Some c → eqb (clause_word_kind c) k ≡ true → among (K t) ks ≡ true) → (t : PlainToken) (p : Place)
      → elim (clause_word ws t.kind) [ Some c ↦ cond (eqb (clause_word_kind c) k) (Some t.place) None | None ↦ None ] ≡ Some p → among (K t.kind) ks ≡ true
  fixed_among K ks k h t p e = tested (clause_word ws t.kind) refl e
    where
      of_kind : (c : ClauseWord) (b : Bool) → eqb (clause_word_kind c) k ≡ b → clause_word ws t.kind ≡ Some c → cond b (Some t.place) None ≡ Some p → among (K t.kind) ks ≡ true
      of_kind c true so is e = h t.kind c is so
      of_kind c false so is e = absurd cc

      tested : (o : Option ClauseWord) → clause_word ws t.kind ≡ o → elim o [ Some c ↦ cond (eqb (clause_word_kind c) k) (Some t.place) None | None ↦ None ] ≡ Some p → among (K t.kind) ks ≡ true
      tested (Some c) is e = of_kind c (eqb (clause_word_kind c) k) refl is e
      tested None is e = absurd cc

  pub fixed_clause : {n : ℕ} (k : ℕ) → AreClauses ws n (fixed_word ws k) false (k ∷ []) []
  fixed_clause k = token _ (k ∷ []) (fixed_among (clause_token_kind ws) (k ∷ []) k (λ t c is e. own_kind (k ∷ []) t c is (rw e refl)))

  pub fixed_in_c : {n : ℕ} (k : ℕ) → IsGood (kind ws) n (fixed_word ws k) (fixed_word ws k) false first_clause (λ _. [])
  fixed_in_c k = token _ first_clause (fixed_among (token_kind ws) first_clause k (λ t c is e. c_kind t c is))
