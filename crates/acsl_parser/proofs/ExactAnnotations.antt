-- Clauses, contracts and annotations are read exactly.
use Rattle.std.proofs.Common.{◌≡◌, ℕ, Bool, true, false, cond, eqb, List, [], ◌∷◌, ◌++◌, Some, None, refl, ap, ◌∙◌, arith}
use Rattle.std.proofs.lemmas.Bool.{eqb-true}
use Rattle.grammar.specs.Syntax.{among, one, many}
use Rattle.grammar.specs.Exact.{IsExact, IsGood}
use Rattle.grammar.proofs.Sets.{within, apart}
use Rattle.grammar.proofs.Productions.{and, seq, after, either, again_and_again, declared, given, same, token, recast, one_lower, counted}
use Rattle.c_syntax.specs.declared.place.Place.{Place}
use Rattle.c_syntax.specs.Logic.{Annotation}
use Rattle.c_syntax.specs.Programs.{FunctionContract}
use Rattle.c_model.specs.declared.formulas.ClauseGroup.{ClauseGroup}
use Rattle.c_model.specs.declared.formulas.ClauseGroup.TheVariants as group
use Rattle.c_model.specs.Vocabulary.{Vocabulary}
use Rattle.c_model.specs.Punctuators.{colon, semicolon, comma}
use Rattle.c_model.specs.Terminals.{placed, expression_limit}
use Rattle.c_model.specs.ExpressionGrammar.{kind, name_kind, type_name_kind, annot_open_kind, annot_close_kind, mark_kind, fixed, mark, most_in_expression}
use Rattle.c_model.specs.AnnotationGrammar.{integer_kind, formula_name_of, form}
use Rattle.c_syntax.specs.Tokens as tokens
use Rattle.c_syntax.specs.Tokens.{PlainTokenKind, PlainToken}
use Rattle.c_model.specs.declared.vocabulary.ClauseWord.{ClauseWord}
use Rattle.c_model.specs.Vocabulary.{word_at}
use Rattle.c_model.specs.ExpressionGrammar.{token_kind}
use Rattle.c_model.specs.ClauseGrammar.{LoopClauses, passes, passed_kind, passed, clause_word, clause_word_kind, clause_token_kind, assigns_kind, loop_kind, first_own, assigns, full_assigns, looped, loop_assigns, loop_clause}
use Rattle.c_model.specs.ClauseGrammar.{full_loop_clause, next_loop_clause, more_loop_clauses, loop_clauses, next_own, more_owns, placed_own}
use Rattle.c_model.specs.ClauseGrammar.{first_in, first_cover, behavior_kind, behaviors_kind, complete_kind, disjoint_kind, cover_kind, kind_in}
use Rattle.c_model.specs.ClauseGrammar.{form_clause, full_clause, next_clause, more_clauses, asserts, behavior, next_behavior, more_behaviors, behavior_names, cover_clause, full_cover, next_cover, more_covers}
use Rattle.c_model.specs.ClauseGrammar.{behaviors_and_covers, own_first, behavior_first, cover_first, contract, clauses, annotations}
use Rattle.c_expr_parser.proofs.ExactTokens.{IsRead, fixed_good}
use Rattle.acsl_parser.proofs.FormulaTokens.{NoName, AreForms, in_c, fixed_form, name_form}
use Rattle.acsl_parser.proofs.ClauseTokens.{AreClauses, first_clause, clause_kinds, name_among, mark_among, as_clause, as_mark, out_of, kind_clause, cover_clause_word, kind_in_c, fixed_among, fixed_clause, fixed_in_c, begun_in_c}
use Rattle.c_expr_parser.proofs.TakenTokens.{word_small}
use Rattle.acsl_parser.proofs.ExactForms.{first_form, more_form, some_names_good, form_good}
use Rattle.acsl_parser.proofs.UnlimitedForms.{clause_free, cover_free, assigns_free, loop_clause_free}

abbrev pub behavior_or_cover : List ℕ
behavior_or_cover = behavior_kind ∷ complete_kind ∷ disjoint_kind ∷ []

-- clauses of a group follow one another
pub turns_in : (g : ClauseGroup) → and (apart (first_in g) []) (within (first_in g) (first_in g)) ≡ true
turns_in group.Asserts = refl
turns_in group.Contract = refl
turns_in group.Behavior = refl
turns_in group.Loop = refl

pub own_turns : (g : ClauseGroup) → and (apart (first_own g) []) (within (first_own g) (first_own g)) ≡ true
own_turns group.Asserts = refl
own_turns group.Contract = refl
own_turns group.Behavior = refl
own_turns group.Loop = refl

-- ---- what is passed over: its tokens have two kinds, and a third kind is that of the word before them

passed_so : (b : Bool) (x : Unit {0}) → cond b (Some tt) None ≡ Some x → among (cond b 1 0) (1 ∷ []) ≡ true
passed_so true x e = refl
passed_so false x e = absurd cc

passed_among : (b p : Bool) → among (cond p 1 0) (1 ∷ []) ≡ true → among (cond b 2 (cond p 1 0)) (1 ∷ 2 ∷ []) ≡ true
passed_among true p e = refl
passed_among false true e = refl
passed_among false false e = absurd cc

word_alone : (k : ℕ) (b p : Bool) → eqb k assigns_kind ≡ b → among (cond b 2 (cond p 1 0)) (2 ∷ []) ≡ true → among k (assigns_kind ∷ []) ≡ true
word_alone k true p is e = rw is refl
word_alone k false true is e = absurd cc
word_alone k false false is e = absurd cc

pub passed_good : {n : ℕ} → IsGood passed_kind n (one passed) (one passed) false (1 ∷ []) (λ _. [])
passed_good = token passed (1 ∷ []) (λ t x e. passed_so (passes t.kind) x e)

over_passed : IsExact passed_kind (many passed_kind (λ _. 1 ∷ []) (λ _. one passed) (tt {0})) true (1 ∷ []) (λ _. 1 ∷ [])
over_passed = (again_and_again {n = 0} (1 ∷ []) (λ _. passed_good) refl (tt {0})).here

module _ (ws : Vocabulary) where
  -- ---- names of behaviors, which are read as forms are

  names_good : {n : ℕ} → AreForms ws n (behavior_names ws) (behavior_names ws) true (name_kind ∷ []) (name_kind ∷ mark_kind comma ∷ [])
  unfolding behavior_names
  names_good = declared (either (name_kind ∷ []) (some_names_good ws) (given _) refl) refl

  -- ---- the same where clauses begin

  form_clauses : {n : ℕ} → AreClauses ws n (form ws) false (first_form ++ clause_kinds) more_form
  form_clauses = as_clause ws first_form more_form more_form (mark_among ws more_form refl refl) (form_good ws {n = 0}).here

  name_clauses : {n : ℕ} → AreClauses ws n (one (placed (formula_name_of ws))) false (name_kind ∷ clause_kinds) []
  name_clauses = as_clause ws (name_kind ∷ []) [] [] (mark_among ws [] refl refl) (name_form ws {n = 0}).here

  names_clauses : {n : ℕ} → AreClauses ws n (behavior_names ws) true (name_kind ∷ clause_kinds) (name_kind ∷ mark_kind comma ∷ clause_kinds)
  names_clauses =
      as_clause ws (name_kind ∷ []) (name_kind ∷ mark_kind comma ∷ []) (name_kind ∷ mark_kind comma ∷ clause_kinds) (name_among ws (name_kind ∷ mark_kind comma ∷ []) (name_kind ∷ mark_kind comma ∷ clause_kinds) refl refl)
      (names_good {n = 0}).here

  fixed_clauses : {n : ℕ} (k : ℕ) → NoName (k ∷ []) → among type_name_kind (k ∷ []) ≡ false → AreClauses ws n (fixed ws k) false (k ∷ []) []
  fixed_clauses k h t = as_mark ws (k ∷ []) h.name t (fixed_form ws {n = 0} k h).here

  mark_clauses : {n : ℕ} (m : ℕ) → among name_kind (mark_kind m ∷ []) ≡ false → among integer_kind (mark_kind m ∷ []) ≡ false → among type_name_kind (mark_kind m ∷ []) ≡ false → AreClauses ws n (mark ws m) false (mark_kind m ∷ []) []
  mark_clauses m a b t = fixed_clauses (mark_kind m) (record { name = a; integer = b }) t

  -- ---- what is passed over

  abbrev taken_kind : PlainTokenKind → ℕ
  taken_kind t = cond (eqb (clause_token_kind ws t) assigns_kind) 2 (cond (passes t) 1 0)

  taken_word : (t : PlainTokenKind) (c : ClauseWord) → clause_word ws t ≡ Some c → eqb (clause_word_kind c) assigns_kind ≡ true → among (taken_kind t) (2 ∷ []) ≡ true
  taken_word t c is e =
      let q : clause_token_kind ws t ≡ clause_word_kind c = rw (is, clause_token_kind) refl in
      let k : taken_kind t ≡ 2 = ap (λ (k : ℕ). cond (eqb k assigns_kind) 2 (cond (passes t) 1 0)) q ∙ ap (λ (b : Bool). cond b 2 (cond (passes t) 1 0)) e in
      ap (λ (k : ℕ). among k (2 ∷ [])) k

  ends_marked : (m : ℕ) → eqb (mark_kind m) (mark_kind semicolon) ≡ true → among (taken_kind (tokens.Mark m)) (0 ∷ []) ≡ true
  ends_marked m e =
      let q = eqb-true (mark_kind m) (mark_kind semicolon) e in
      let is : m ≡ semicolon = omega (arith, q) in rw is refl

  ends_taken : (t : PlainTokenKind) → eqb (token_kind ws t) (mark_kind semicolon) ≡ true → among (taken_kind t) (0 ∷ []) ≡ true
  ends_taken (tokens.Word n) e = let s = word_small (word_at ws n) in let q = eqb-true (token_kind ws (tokens.Word n)) (mark_kind semicolon) e in absurd (omega (arith, s, q))
  ends_taken (tokens.Number z c) e = absurd cc
  ends_taken (tokens.Letter z) e = absurd cc
  ends_taken (tokens.Chars s) e = absurd cc
  ends_taken (tokens.Mark m) e = ends_marked m e
  ends_taken tokens.AnnotOpen e = absurd cc
  ends_taken tokens.AnnotClose e = absurd cc
  ends_taken (tokens.Head k n) e = absurd cc

  end_taken : (t : PlainToken) (p : Place) → cond (eqb (kind ws t) (mark_kind semicolon)) (Some t.place) None ≡ Some p → among (taken_kind t.kind) (0 ∷ []) ≡ true
  end_taken t p e = tested (eqb (kind ws t) (mark_kind semicolon)) refl e
    where
      tested : (b : Bool) → eqb (kind ws t) (mark_kind semicolon) ≡ b → cond b (Some t.place) None ≡ Some p → among (taken_kind t.kind) (0 ∷ []) ≡ true
      tested true is e = ends_taken t.kind is
      tested false is e = absurd cc

  over_taken : {n : ℕ} → IsGood (λ t. taken_kind t.kind) n (many passed_kind (λ _. 1 ∷ []) (λ _. one passed) (tt {0})) (many passed_kind (λ _. 1 ∷ []) (λ _. one passed) (tt {0})) true (1 ∷ 2 ∷ []) (λ _. 1 ∷ 2 ∷ [])
  over_taken =
      same (recast (1 ∷ 2 ∷ []) (λ _. 1 ∷ 2 ∷ []) (λ t h. passed_among (eqb (clause_token_kind ws t.kind) assigns_kind) (passes t.kind) h)
      (λ x t h. passed_among (eqb (clause_token_kind ws t.kind) assigns_kind) (passes t.kind) h) over_passed)

  assigns_taken : IsExact (λ t. taken_kind t.kind) (assigns ws) false (2 ∷ []) (λ _. [])
  unfolding assigns
  assigns_taken =
      (declared {n = 0} {H = assigns ws}
      (seq (token _ (2 ∷ []) (fixed_among ws taken_kind (2 ∷ []) assigns_kind taken_word)) (λ at. seq over_taken (λ _. seq (token _ (0 ∷ []) end_taken) (λ _. given _) refl) refl) refl) refl).here

  pub assigns_good : {n : ℕ} → AreClauses ws n (assigns ws) false (assigns_kind ∷ []) []
  assigns_good =
      same (recast (assigns_kind ∷ []) (λ _. []) (λ t h. word_alone (clause_token_kind ws t.kind) (eqb (clause_token_kind ws t.kind) assigns_kind) (passes t.kind) refl h) (λ x t h. absurd cc) assigns_taken)

  -- the same, by the kinds of C's tokens
  pub assigns_exact : IsExact (kind ws) (assigns ws) false first_clause (λ _. [])
  assigns_exact = begun_in_c ws (assigns_kind ∷ []) refl (assigns_good {n = 0}).here

  pub full_assigns_good : {n : ℕ} → AreClauses ws n (full_assigns ws) false (assigns_kind ∷ []) []
  unfolding full_assigns
  full_assigns_good = counted expression_limit most_in_expression (assigns_free ws) (assigns_free ws) assigns_good

  -- ---- clauses that say a form

  pub clause_good : {n : ℕ} (g : ClauseGroup) (first : ℕ) → AreClauses ws n (form_clause ws g first) false (first_in g) []
  unfolding form_clause
  clause_good g first = one_lower (after (kind_clause ws g) (λ k. seq form_clauses (λ f. seq (mark_clauses semicolon refl refl refl) (λ _. given _) refl) refl) refl)

  -- the same, by the kinds of C's tokens
  pub clause_exact : (g : ClauseGroup) (first : ℕ) → IsExact (kind ws) (form_clause ws g first) false first_clause (λ _. [])
  unfolding form_clause
  clause_exact g first =
      let f = same (in_c ws first_form more_form refl refl (form_good ws {n = 0}).here) in
      (declared {n = 0} {H = form_clause ws g first} (seq (kind_in_c ws (kind_in g)) (λ k. seq f (λ x. seq (fixed_good ws (mark_kind semicolon)) (λ _. given _) refl) refl) refl) refl).here

  pub full_clause_good : {n : ℕ} (g : ClauseGroup) (first : ℕ) → AreClauses ws n (full_clause ws g first) false (first_in g) []
  unfolding full_clause
  full_clause_good g first = counted expression_limit most_in_expression (clause_free ws g first) (clause_free ws g first) (clause_good g first)

  pub next_clause_good : {n : ℕ} (g : ClauseGroup) (x : List Annotation × ℕ) → AreClauses ws n (next_clause ws g x) false (first_in g) []
  unfolding next_clause
  next_clause_good g x = one_lower (after (full_clause_good g x.1) (λ a. given _) refl)

  more_asserts_good : {n : ℕ} (x : List Annotation × ℕ) → AreClauses ws n (more_clauses ws group.Asserts x) true (first_in group.Asserts) (first_in group.Asserts)
  unfolding more_clauses
  more_asserts_good x = declared (again_and_again (first_in group.Asserts) (next_clause_good group.Asserts) refl x) refl

  asserts_good : {n : ℕ} (first : ℕ) → AreClauses ws n (asserts ws first) false (first_in group.Asserts) (first_in group.Asserts)
  unfolding asserts
  asserts_good first = declared (seq (next_clause_good group.Asserts ([], first)) (λ x. more_asserts_good x) refl) refl

  -- ---- clauses of loops

  looped_good : {n : ℕ} (at : Place) (first : ℕ) → AreClauses ws n (looped ws at first) false (first_in group.Loop) []
  unfolding looped
  looped_good at first = declared (seq (clause_good group.Loop first) (λ a. given _) refl) refl

  loop_assigns_good : {n : ℕ} (at : Place) → AreClauses ws n (loop_assigns ws at) false (assigns_kind ∷ []) []
  unfolding loop_assigns
  loop_assigns_good at = declared (seq assigns_good (λ _. given _) refl) refl

  pub loop_clause_good : {n : ℕ} (first : ℕ) → AreClauses ws n (loop_clause ws first) false (loop_kind ∷ []) []
  unfolding loop_clause
  loop_clause_good first = declared (seq (fixed_clause ws loop_kind) (λ at. either (assigns_kind ∷ []) (loop_assigns_good at) (looped_good at first) refl) refl) refl

  -- the same, by the kinds of C's tokens
  pub loop_clause_exact : (first : ℕ) → IsExact (kind ws) (loop_clause ws first) false first_clause (λ _. [])
  loop_clause_exact first = begun_in_c ws (loop_kind ∷ []) refl (loop_clause_good {n = 0} first).here

  full_loop_clause_good : {n : ℕ} (first : ℕ) → AreClauses ws n (full_loop_clause ws first) false (loop_kind ∷ []) []
  unfolding full_loop_clause
  full_loop_clause_good first = counted expression_limit most_in_expression (loop_clause_free ws first) (loop_clause_free ws first) (loop_clause_good first)

  pub next_loop_clause_good : {n : ℕ} (x : LoopClauses × ℕ) → AreClauses ws n (next_loop_clause ws x) false (loop_kind ∷ []) []
  unfolding next_loop_clause
  next_loop_clause_good x = declared (seq (full_loop_clause_good x.1) (λ c. given _) refl) refl

  more_loop_clauses_good : {n : ℕ} (x : LoopClauses × ℕ) → AreClauses ws n (more_loop_clauses ws x) true (loop_kind ∷ []) (loop_kind ∷ [])
  unfolding more_loop_clauses
  more_loop_clauses_good x = declared (again_and_again (loop_kind ∷ []) next_loop_clause_good refl x) refl

  loop_clauses_good : {n : ℕ} (first : ℕ) → AreClauses ws n (loop_clauses ws first) false (loop_kind ∷ []) (loop_kind ∷ [])
  unfolding loop_clauses
  loop_clauses_good first = declared (seq (full_loop_clause_good first) (λ c. more_loop_clauses_good _) refl) refl

  -- ---- clauses of contracts and of behaviors

  pub next_own_good : {n : ℕ} (g : ClauseGroup) (x : List Annotation × ℕ) → AreClauses ws n (next_own ws g x) false (first_own g) []
  unfolding next_own
  next_own_good group.Asserts x = declared (either (assigns_kind ∷ []) (seq full_assigns_good (λ _. given x) refl) (next_clause_good group.Asserts x) refl) refl
  next_own_good group.Contract x = declared (either (assigns_kind ∷ []) (seq full_assigns_good (λ _. given x) refl) (next_clause_good group.Contract x) refl) refl
  next_own_good group.Behavior x = declared (either (assigns_kind ∷ []) (seq full_assigns_good (λ _. given x) refl) (next_clause_good group.Behavior x) refl) refl
  next_own_good group.Loop x = declared (either (assigns_kind ∷ []) (seq full_assigns_good (λ _. given x) refl) (next_clause_good group.Loop x) refl) refl

  own_contract_good : {n : ℕ} (x : List Annotation × ℕ) → AreClauses ws n (more_owns ws group.Contract x) true (first_own group.Contract) (first_own group.Contract)
  unfolding more_owns
  own_contract_good x = declared (again_and_again (first_own group.Contract) (next_own_good group.Contract) refl x) refl

  own_behavior_good : {n : ℕ} (x : List Annotation × ℕ) → AreClauses ws n (more_owns ws group.Behavior x) true (first_own group.Behavior) (first_own group.Behavior)
  unfolding more_owns
  own_behavior_good x = declared (again_and_again (first_own group.Behavior) (next_own_good group.Behavior) refl x) refl

  -- ---- behaviors

  behavior_good : {n : ℕ} (first : ℕ) → AreClauses ws n (behavior ws first) false (behavior_kind ∷ []) (first_own group.Behavior)
  unfolding behavior
  behavior_good first =
      declared (seq (fixed_clause ws behavior_kind) (λ at. seq name_clauses (λ x. seq (mark_clauses colon refl refl refl) (λ _. seq (own_behavior_good ([], first)) (λ c. given _) refl) refl) refl) refl) refl

  pub next_behavior_good : {n : ℕ} (x : FunctionContract × ℕ) → AreClauses ws n (next_behavior ws x) false (behavior_kind ∷ []) (first_own group.Behavior)
  unfolding next_behavior
  next_behavior_good x = declared (seq (behavior_good x.1) (λ b. given _) refl) refl

  more_behaviors_good : {n : ℕ} (x : FunctionContract × ℕ) → AreClauses ws n (more_behaviors ws x) true (behavior_kind ∷ []) (behavior_kind ∷ first_own group.Behavior)
  unfolding more_behaviors
  more_behaviors_good x = declared (again_and_again (behavior_kind ∷ []) next_behavior_good refl x) refl

  -- ---- clauses that name behaviors

  cover_good : {n : ℕ} (first : ℕ) → AreClauses ws n (cover_clause ws first) false first_cover []
  unfolding cover_clause
  cover_good first =
      declared (seq (cover_clause_word ws) (λ k. seq (fixed_clause ws behaviors_kind) (λ _. seq names_clauses (λ names. seq (mark_clauses semicolon refl refl refl) (λ _. given _) refl) refl) refl) refl) refl

  -- the same, by the kinds of C's tokens
  pub cover_exact : (first : ℕ) → IsExact (kind ws) (cover_clause ws first) false first_clause (λ _. [])
  unfolding cover_clause
  cover_exact first =
      let names = same (in_c ws (name_kind ∷ []) (name_kind ∷ mark_kind comma ∷ []) refl refl (names_good {n = 0}).here) in
      (declared {n = 0} {H = cover_clause ws first}
      (seq (kind_in_c ws cover_kind) (λ k. seq (fixed_in_c ws behaviors_kind) (λ _. seq names (λ xs. seq (fixed_good ws (mark_kind semicolon)) (λ _. given _) refl) refl) refl) refl) refl).here

  full_cover_good : {n : ℕ} (first : ℕ) → AreClauses ws n (full_cover ws first) false first_cover []
  unfolding full_cover
  full_cover_good first = counted expression_limit most_in_expression (cover_free ws first) (cover_free ws first) (cover_good first)

  pub next_cover_good : {n : ℕ} (x : FunctionContract × ℕ) → AreClauses ws n (next_cover ws x) false first_cover []
  unfolding next_cover
  next_cover_good x = declared (seq (full_cover_good x.1) (λ a. given _) refl) refl

  more_covers_good : {n : ℕ} (x : FunctionContract × ℕ) → AreClauses ws n (more_covers ws x) true first_cover first_cover
  unfolding more_covers
  more_covers_good x = declared (again_and_again first_cover next_cover_good refl x) refl

  -- ---- contracts

  abbrev more_contract : List ℕ
  more_contract = first_cover ++ (behavior_kind ∷ first_own group.Behavior)

  behind_own_good : {n : ℕ} (x : FunctionContract × ℕ) → AreClauses ws n (behaviors_and_covers ws x) true behavior_or_cover more_contract
  unfolding behaviors_and_covers
  behind_own_good x = declared (seq (more_behaviors_good x) (λ y. more_covers_good y) refl) refl

  placed_own_good : {n : ℕ} (first : ℕ) → AreClauses ws n (placed_own ws first) false (first_own group.Contract) []
  unfolding placed_own
  placed_own_good first = declared (either (assigns_kind ∷ []) (seq full_assigns_good (λ at. given _) refl) (seq (full_clause_good group.Contract first) (λ a. given _) refl) refl) refl

  own_first_good : {n : ℕ} (first : ℕ) → AreClauses ws n (own_first ws first) false (first_own group.Contract) more_contract
  unfolding own_first
  own_first_good first = declared (seq (placed_own_good first) (λ a. seq (own_contract_good a.1) (λ x. behind_own_good _) refl) refl) refl

  behavior_first_good : {n : ℕ} (first : ℕ) → AreClauses ws n (behavior_first ws first) false (behavior_kind ∷ []) more_contract
  unfolding behavior_first
  behavior_first_good first = declared (seq (behavior_good first) (λ b. behind_own_good _) refl) refl

  cover_first_good : {n : ℕ} (first : ℕ) → AreClauses ws n (cover_first ws first) false first_cover first_cover
  unfolding cover_first
  cover_first_good first = declared (seq (full_cover_good first) (λ a. more_covers_good _) refl) refl

  contract_good : {n : ℕ} (first : ℕ) → AreClauses ws n (contract ws first) false (first_own group.Contract ++ behavior_or_cover) more_contract
  unfolding contract
  contract_good first = declared (either (first_own group.Contract) (own_first_good first) (either (behavior_kind ∷ []) (behavior_first_good first) (cover_first_good first) refl) refl) refl

  -- ---- annotations

  abbrev more_annotation : List ℕ
  more_annotation = first_in group.Asserts ++ loop_kind ∷ more_contract

  clauses_good : {n : ℕ} (first : ℕ) → AreClauses ws n (clauses ws first) false (first_in group.Asserts ++ loop_kind ∷ (first_own group.Contract ++ behavior_or_cover)) more_annotation
  unfolding clauses
  clauses_good first =
      declared (either (first_in group.Asserts) (seq (asserts_good first) (λ x. given _) refl)
      (either (loop_kind ∷ []) (seq (loop_clauses_good first) (λ x. given _) refl) (seq (contract_good first) (λ x. given _) refl) refl) refl) refl

  annotations_clauses : {n : ℕ} (first : ℕ) → AreClauses ws n (annotations ws first) false (annot_open_kind ∷ []) []
  unfolding annotations
  annotations_clauses first =
      let front = fixed_clauses annot_open_kind (record { name = refl; integer = refl }) refl in
      let back = fixed_clauses annot_close_kind (record { name = refl; integer = refl }) refl in
      declared (seq front (λ _. seq (clauses_good first) (λ x. seq back (λ _. given _) refl) refl) refl) refl

  -- the same, by the kinds of C's tokens
  pub annotations_good : (first : ℕ) → IsRead ws (annotations ws first) false (annot_open_kind ∷ []) []
  annotations_good first = same (out_of ws (annot_open_kind ∷ []) refl refl (annotations_clauses {n = 0} first).here)
