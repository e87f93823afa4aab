-- Statements of each depth, functions and whole texts are read exactly, so tokens are read in one way at most.
use Rattle.std.proofs.Common.{◌≡◌, ℕ, zero, suc, ◌-◌, Bool, true, false, cond, eqb, List, [], ◌∷◌, Option, None, refl, arith}
use Rattle.std.proofs.lemmas.Bool.{eqb-true}
use Rattle.grammar.specs.Syntax.{none, among, choice}
use Rattle.grammar.specs.Exact.{AtMostOne, IsGood}
use Rattle.grammar.proofs.Parts.{widen, none_exact}
use Rattle.grammar.proofs.Productions.{seq, either, again_and_again, declared, given, same, too_deep as below_limit, recast}
use Rattle.grammar.proofs.Theorem.{at_most_one}
use Rattle.c_syntax.specs.declared.place.Place.{Place}
use Rattle.c_syntax.specs.Ctypes.{PlainType}
use Rattle.c_syntax.specs.Statements.{Declaration}
use Rattle.c_syntax.specs.Programs.{StringLiteral, FunctionContract}
use Rattle.c_syntax.specs.Tokens as tokens
use Rattle.c_syntax.specs.Tokens.{PlainTokenKind, PlainToken}
use Rattle.c_model.specs.declared.declarations.AnnotationState.{AnnotationState}
use Rattle.c_model.specs.declared.declarations.Storage.{Storage}
use Rattle.c_model.specs.declared.declarations.Storage.TheVariants as storage
use Rattle.c_model.specs.declared.declarations.Named.TheVariants as named
use Rattle.c_model.specs.Vocabulary.{Vocabulary, word_at}
use Rattle.c_model.specs.Punctuators.{assign, semicolon, comma, left_paren, left_brace, right_brace, left_bracket}
use Rattle.c_model.specs.ExpressionGrammar.{annot_open_kind, mark_kind, token_kind, kind, most_nested}
use Rattle.c_model.specs.Terminals.{nesting_limit}
use Rattle.c_model.specs.DeclarationGrammar.{first_spec, Declarator, names_function, ended}
use Rattle.c_model.specs.ProgramGrammar.{first_statement, first_branch, nothing, too_deep, statement_in, branch_in, behind_in, inside_in, FileParts, after_contract, contract_taken, awaiting_nothing, with_typedef}
use Rattle.c_model.specs.ProgramGrammar.{no_parts, function_rest}
use Rattle.c_model.specs.ProgramGrammar.{function, globals, behind_declarator, declared_at_file, next_typedef, more_typedefs}
use Rattle.c_model.specs.ProgramGrammar.{typedefs, behind_spec, next_stray, strays, declared_external, external, any_kind, more_external, unit}
use Rattle.c_expr_parser.proofs.ExactTokens.{IsRead, fixed_good}
use Rattle.c_expr_parser.proofs.TakenTokens.{word_small}
use Rattle.c_parser.proofs.Openings.{opens, branch_opens}
use Rattle.c_declaration_parser.proofs.ExactDeclarations.{first_dtor, more_dtor, ended_good, full_dtor_good, initialised_good, more_declared_good, parameters_good, file_spec_good}
use Rattle.c_parser.proofs.ExactStatements.{ReadsStatements, ReadsBranches, ReadsAnnotated, more_statement, loop_of_good, unlooped_good, statement_of_good, branch_of_good, inside_of_good, items_good}
use Rattle.acsl_parser.proofs.ExactAnnotations.{annotations_good}

module _ (ws : Vocabulary) where
  none_reads : ReadsStatements ws (nothing ws)
  none_reads k = same (widen (kind ws) none false [] (λ _. []) false first_statement more_statement (none_exact (kind ws)) (λ h. h) refl (λ x. refl))

  no_branch : ReadsBranches ws (nothing ws)
  no_branch k = same (widen (kind ws) none false [] (λ _. []) false first_branch more_statement (none_exact (kind ws)) (λ h. h) refl (λ x. refl))

  nothing_behind : ReadsAnnotated ws (λ x. nothing ws)
  nothing_behind x = no_branch

  record AreGood (d : ℕ) : Type 0 where
    statement : ReadsStatements ws (statement_in ws d)
    branch : ReadsBranches ws (branch_in ws d)
    behind : ReadsAnnotated ws (behind_in ws d)
    inside : ReadsAnnotated ws (inside_in ws d)

  -- one statement too deep, with an annotation or without
  deeper : ReadsBranches ws (too_deep ws)
  unfolding too_deep
  deeper k = below_limit nesting_limit first_branch (branch_of_good ws nothing_behind (statement_of_good ws none_reads nothing_behind no_branch) k).here (branch_opens ws (nothing ws) (λ x. nothing ws) (nothing ws) (λ x. nothing ws) k)

  at_depth : (d : ℕ) → AreGood d
  unfolding statement_in
  at_depth zero = record {
    statement = λ k. below_limit nesting_limit first_statement (statement_of_good ws none_reads nothing_behind no_branch k).here (opens ws (nothing ws) (λ x. nothing ws) (nothing ws) k);
    branch = deeper;
    behind = λ x k. deeper _;
    inside = λ x k. deeper _;
  }
  at_depth (suc d) =
      let h = at_depth d in
      let each = statement_of_good ws h.statement h.inside h.branch in
      record {
        statement = each;
        branch = branch_of_good ws h.behind each;
        behind = inside_of_good ws h.behind (loop_of_good ws h.branch) each (unlooped_good ws h.statement h.inside h.branch);
        inside = h.behind;
      }

  pub statement_good : (d : ℕ) → ReadsStatements ws (statement_in ws d)
  statement_good d = (at_depth d).statement

  pub inside_good : (d : ℕ) → ReadsAnnotated ws (inside_in ws d)
  inside_good d = (at_depth d).inside

  -- ---- functions and objects

  function_rest_good : (t : PlainType) (f : ℕ × Place) (params : List Declaration) (c : Option FunctionContract) (n : AnnotationState) → IsRead ws (function_rest ws t f params c n) false (mark_kind semicolon ∷ mark_kind left_brace ∷ []) []
  unfolding function_rest
  function_rest_good t f params c n =
      declared (either (mark_kind semicolon ∷ []) (seq (fixed_good ws (mark_kind semicolon)) (λ at. given _) refl)
      (seq (fixed_good ws (mark_kind left_brace)) (λ start. seq (items_good ws (statement_good (most_nested - 1)) (inside_good (most_nested - 1)) ([], n)) (λ x. seq (fixed_good ws (mark_kind right_brace)) (λ close. given _) refl) refl) refl)
      refl) refl

  function_good : (t : PlainType) (x : FileParts) (d : Declarator) → IsRead ws (function ws t x d) false (mark_kind left_paren ∷ []) []
  unfolding function
  function_good t x d =
      declared (seq (fixed_good ws (mark_kind left_paren)) (λ _. seq (parameters_good ws) (λ params. seq (function_rest_good _ _ params (contract_taken x d.name) (after_contract x d.name)) (λ f. given _) refl) refl) refl) refl

  -- what stands after the first declarator of objects
  abbrev first_globals : List ℕ
  first_globals = mark_kind assign ∷ mark_kind comma ∷ mark_kind semicolon ∷ []

  globals_good : (t : PlainType) (x : FileParts) (d : Declarator) → IsRead ws (globals ws t x d) false first_globals []
  unfolding globals
  globals_good t x d = declared (seq (initialised_good ws t d) (λ g. seq (more_declared_good ws t _) (λ gs. given _) refl) refl) refl

  behind_declarator_good : (t : PlainType) (x : FileParts) (d : Declarator) → IsRead ws (behind_declarator ws t x d) false (mark_kind left_paren ∷ first_globals) []
  unfolding behind_declarator
  behind_declarator_good t x d = by (names_function d)
    where
      by : (b : Bool) → IsRead ws (cond b (choice (kind ws) (mark_kind left_paren ∷ []) (function ws t x d) (globals ws t x d)) (globals ws t x d)) false (mark_kind left_paren ∷ first_globals) []
      by true = declared (either (mark_kind left_paren ∷ []) (function_good t x d) (globals_good t x d) refl) refl
      by false = declared (globals_good t x d) refl

  declared_at_file_good : (t : PlainType) (x : FileParts) → IsRead ws (declared_at_file ws t x) false (mark_kind semicolon ∷ first_dtor) []
  unfolding declared_at_file
  declared_at_file_good t x = declared (either (mark_kind semicolon ∷ []) (seq (fixed_good ws (mark_kind semicolon)) (λ at. given _) refl) (seq (full_dtor_good ws named.Ordinary) (λ d. behind_declarator_good t x d) refl) refl) refl

-- ---- punctuators are told whatever the words are

mark_stays : (ws vs : Vocabulary) (m : ℕ) (t : PlainToken) → among (kind ws t) (mark_kind m ∷ []) ≡ true → among (kind vs t) (mark_kind m ∷ []) ≡ true
mark_stays ws vs m t h = by t.kind h
  where
    first : (b : Bool) → cond b true false ≡ true → b ≡ true
    first true e = refl
    first false e = absurd cc

    by : (k : PlainTokenKind) → among (token_kind ws k) (mark_kind m ∷ []) ≡ true → among (token_kind vs k) (mark_kind m ∷ []) ≡ true
    by (tokens.Word n) e = absurd (let s = word_small (word_at ws n) in let k = eqb-true _ (mark_kind m) (first _ e) in omega (arith, s, k))
    by (tokens.Number z c) e = e
    by (tokens.Letter z) e = e
    by (tokens.Chars bytes) e = e
    by (tokens.Mark n) e = e
    by tokens.AnnotOpen e = e
    by tokens.AnnotClose e = e
    by (tokens.Head n k) e = e

abbrev behind_typedef : List ℕ
behind_typedef = mark_kind comma ∷ mark_kind semicolon ∷ []

either_stays : (ws vs : Vocabulary) (t : PlainToken) → among (kind ws t) behind_typedef ≡ true → among (kind vs t) behind_typedef ≡ true
either_stays ws vs t h = by (eqb (kind ws t) (mark_kind comma)) refl h
  where
    one : (b : Bool) → b ≡ true → cond b true false ≡ true
    one b e = rw e refl

    here : (b c : Bool) → cond b true false ≡ true → cond b true c ≡ true
    here true c e = refl
    here false c e = absurd cc

    there : (b c : Bool) → c ≡ true → cond b true c ≡ true
    there true c e = refl
    there false c e = e

    by : (b : Bool) → eqb (kind ws t) (mark_kind comma) ≡ b → cond b true (among (kind ws t) (mark_kind semicolon ∷ [])) ≡ true → among (kind vs t) behind_typedef ≡ true
    by true is e = here (eqb (kind vs t) (mark_kind comma)) (among (kind vs t) (mark_kind semicolon ∷ [])) (mark_stays ws vs comma t (one (eqb (kind ws t) (mark_kind comma)) is))
    by false is e = there (eqb (kind vs t) (mark_kind comma)) (among (kind vs t) (mark_kind semicolon ∷ [])) (mark_stays ws vs semicolon t e)

-- ---- typedefs

next_typedef_read : (t : PlainType) (x : FileParts) → IsRead x.words (next_typedef t x) false (mark_kind comma ∷ []) more_dtor
unfolding next_typedef
next_typedef_read t x = declared (seq (fixed_good x.words (mark_kind comma)) (λ _. seq (full_dtor_good x.words named.Ordinary) (λ d. given _) refl) refl) refl

pub next_typedef_good : (t : PlainType) (x : FileParts) → IsRead [] (next_typedef t x) false (mark_kind comma ∷ []) more_dtor
next_typedef_good t x = same (recast (mark_kind comma ∷ []) (λ _. more_dtor) (mark_stays x.words [] comma) (λ _. mark_stays x.words [] left_bracket) (next_typedef_read t x).here)

ended_words_good : (x : FileParts) → IsRead [] (ended x.words x) false (mark_kind semicolon ∷ []) []
ended_words_good x = same (recast (mark_kind semicolon ∷ []) (λ _. []) (mark_stays x.words [] semicolon) (λ _ _ e. e) (ended_good x.words x).here)

more_typedefs_read : (t : PlainType) (x : FileParts) → IsRead [] (more_typedefs t x) false behind_typedef []
unfolding more_typedefs
more_typedefs_read t x = declared (seq (again_and_again (mark_kind comma ∷ []) (next_typedef_good t) refl x) (λ y. ended_words_good y) refl) refl

more_typedefs_good : (ws : Vocabulary) (t : PlainType) (x : FileParts) → IsRead ws (more_typedefs t x) false behind_typedef []
more_typedefs_good ws t x = same (recast behind_typedef (λ _. []) (either_stays [] ws) (λ _ _ e. e) (more_typedefs_read t x).here)

typedefs_good : (t : PlainType) (x : FileParts) → IsRead x.words (typedefs t x) false first_dtor []
unfolding typedefs
typedefs_good t x = declared (seq (full_dtor_good x.words named.Ordinary) (λ d. more_typedefs_good x.words t (with_typedef t x d)) refl) refl

-- ---- whole texts

behind_spec_good : (s : Storage) (t : PlainType) (x : FileParts) → IsRead x.words (behind_spec s t x) false (mark_kind semicolon ∷ first_dtor) []
behind_spec_good storage.Typedef t x = declared (typedefs_good t x) refl
behind_spec_good storage.Static t x = declared_at_file_good x.words t x
behind_spec_good storage.Nothing t x = declared_at_file_good x.words t x

declared_read : (x : FileParts) → IsRead x.words (declared_external x) false first_spec []
unfolding declared_external
declared_read x = declared (seq (file_spec_good x.words x.definitions) (λ s. behind_spec_good s.storage s.ctype _) refl) refl

pub next_stray_good : (ws : Vocabulary) (x : AnnotationState × Option FunctionContract) → IsRead ws (next_stray ws x) false (annot_open_kind ∷ []) []
unfolding next_stray
next_stray_good ws x = declared (seq (annotations_good ws x.0.number) (λ y. given _) refl) refl

external_read : (x : FileParts) → IsRead x.words (external x) false (annot_open_kind ∷ first_spec) []
unfolding external strays
external_read x =
    declared (seq (again_and_again (annot_open_kind ∷ []) (next_stray_good x.words) refl (x.annotations, None)) (λ s. seq (declared_read (record x { annotations = s.0; awaiting = s.1 })) (λ y. given (awaiting_nothing y)) refl) refl) refl

-- what each token is among
abbrev pub any : List ℕ
any = 0 ∷ []

pub external_good : (x : FileParts) → IsGood any_kind 0 (external x) (external x) false any (λ _. [])
external_good x = same (recast any (λ _. []) (λ t e. refl) (λ _ _ e. absurd cc) (external_read x).here)

more_external_good : (x : FileParts) → IsGood any_kind 0 (more_external x) (more_external x) true any (λ _. any)
unfolding more_external
more_external_good x = declared (again_and_again any external_good refl x) refl

pub unit_good : (ws : Vocabulary) (names : List (List ℕ)) (texts : List StringLiteral) → IsGood any_kind 0 (unit ws names texts) (unit ws names texts) true any (λ _. any)
unfolding unit
unit_good ws names texts = declared (seq (more_external_good (no_parts ws)) (λ x. given _) refl) refl

pub one_unit : (ws : Vocabulary) (names : List (List ℕ)) (texts : List StringLiteral) → AtMostOne (unit ws names texts)
one_unit ws names texts = at_most_one (unit ws names texts) true any (λ _. any) (unit_good ws names texts).here
