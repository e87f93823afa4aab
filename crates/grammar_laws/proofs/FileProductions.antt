-- The productions of declarations at file scope are those of the heads of their grammars.
use Rattle.std.proofs.Common.{ℕ, ◌-◌, None, Bool, true, false, not, List, [], ◌∷◌, ◌++◌, refl, inl, inr}
use Rattle.grammar.specs.Syntax.{Syntax, none, gives, ◌then◌, many}
use Rattle.grammar.specs.Exact.{Same}
use Rattle.grammar.proofs.Forms.{to_left}
use Rattle.grammar_laws.specs.Plain.{◌or◌, repeated, only}
use Rattle.grammar_laws.proofs.Inclusions.{Within, both, forth, back, itself, ◌so◌, either, first, second, each, nothing, on, in_turn, turns, apart_after}
use Rattle.grammar_laws.proofs.Inclusions.{handed, handed_back, guarded_forth, guarded_back}
use Rattle.grammar_laws.proofs.StatementProductions.{items_line}
use Rattle.c_syntax.specs.Ctypes.{PlainType}
use Rattle.c_syntax.specs.Statements.{Declaration}
use Rattle.c_syntax.specs.Programs.{Function}
use Rattle.c_syntax.specs.Tokens.{PlainToken}
use Rattle.c_model.specs.declared.declarations.AnnotationState.{AnnotationState}
use Rattle.c_model.specs.declared.declarations.Named.TheVariants as named
use Rattle.c_model.specs.declared.declarations.Storage.{Storage}
use Rattle.c_model.specs.declared.declarations.Storage.TheVariants as storage
use Rattle.c_model.specs.declared.vocabulary.Keyword.TheVariants as keyword
use Rattle.c_model.specs.Vocabulary.{Vocabulary}
use Rattle.c_model.specs.Punctuators.{assign, semicolon, comma, left_paren, left_brace}
use Rattle.c_model.specs.ExpressionGrammar.{kind, mark_kind, keyword_kind, annot_open_kind, most_nested, pointers, mark, star_words}
use Rattle.c_model.specs.DeclarationGrammar.{Declarator, Definitions, FileSpec, names_function, storage_words, storage_word, more_storage, full_dtor, dtor}
use Rattle.c_model.specs.DeclarationGrammar.{initialised, declared_once, next_declared, more_declared, ended, parameters, file_spec}
use Rattle.c_model.specs.ProgramGrammar.{FileParts, with_nameless, with_typedef, contract_taken, after_contract, awaiting_nothing, statement_in, inside_in, next_stray, strays, function_rest, behind_declarator}
use Rattle.c_model.specs.ProgramGrammar.{declared_at_file, next_typedef, more_typedefs, typedefs, behind_spec, declared_external, any_kind, more_external}
use Rattle.c_model.specs.ProgramGrammar as parsed
use Rattle.grammar_laws.specs.FileProductions.{no_storage, is_typedef}
use Rattle.grammar_laws.specs.DeclarationProductions as written
use Rattle.grammar_laws.specs.FileProductions as production

abbrev no : PlainToken → ℕ
no t = 0

module _ (ws : Vocabulary) where
  -- ---- specs

  word_line : (s : Storage) → Same (storage_word ws s) (production.storage_word ws s)
  unfolding storage_word
  word_line storage.Nothing =
      both (each (kind ws) (keyword_kind keyword.Static ∷ []) no [] (itself _) (each (kind ws) (keyword_kind keyword.Typedef ∷ []) no [] (itself _) (itself _)))
      (each no [] (kind ws) (keyword_kind keyword.Static ∷ []) (itself _) (each no [] (kind ws) (keyword_kind keyword.Typedef ∷ []) (itself _) (itself _)))
  word_line storage.Static = both (second no [] none (second no [] none (itself _))) (either no [] (nothing _ (inl (inl refl))) (either no [] (nothing _ (inl (inl refl))) (itself _)))
  word_line storage.Typedef = both (second no [] none (second no [] none (itself _))) (either no [] (nothing _ (inl (inl refl))) (either no [] (nothing _ (inl (inl refl))) (itself _)))

  pub spec_line : (d : Definitions) → Same (file_spec ws d) (production.spec ws d)
  unfolding file_spec more_storage
  spec_line d =
      both (in_turn (turns (kind ws) storage_words no (λ _. []) (λ s. forth (word_line s)) storage.Nothing) (λ s. itself _))
      (in_turn (turns no (λ _. []) (kind ws) storage_words (λ s. back (word_line s)) storage.Nothing) (λ s. itself _))

  -- ---- variables and functions

  pub declared_line : (t : PlainType) (d : Declarator) → Same (initialised ws t d) (written.declared ws t d)
  unfolding initialised
  declared_line t d = both (each (kind ws) (mark_kind assign ∷ []) no [] (itself _) (itself _)) (each no [] (kind ws) (mark_kind assign ∷ []) (itself _) (itself _))

  pub next_line : (t : PlainType) (ds : List Declaration) → Same (next_declared ws t ds) (written.next_declared ws t ds)
  unfolding next_declared declared_once
  next_line t ds =
      both (on (mark ws comma) (λ _. on (full_dtor ws named.Ordinary) (λ d. in_turn (forth (declared_line t d)) (λ x. itself _))))
      (on (mark ws comma) (λ _. on (full_dtor ws named.Ordinary) (λ d. in_turn (back (declared_line t d)) (λ x. itself _))))

  module _ (t : PlainType) (x : FileParts) where
    -- the declared of a text after the first
    abbrev More : List Declaration → Syntax PlainToken (List Declaration)
    More gs = many (kind ws) (λ _. mark_kind comma ∷ []) (next_declared ws t) gs

    abbrev Semicolon : List Declaration → Syntax PlainToken (List Declaration)
    Semicolon gs = mark ws semicolon then λ _. gives gs

    abbrev With : List Declaration → Syntax PlainToken FileParts
    With gs = gives (record x { globals = gs })

    abbrev Plain : Declarator → Syntax PlainToken FileParts
    Plain d = written.declared ws t d then λ g. repeated (written.next_declared ws t) (x.globals ++ g ∷ []) then λ gs. mark ws semicolon then λ _. With gs

    globals_forth : (d : Declarator) → Within (parsed.globals ws t x d) (Plain d)
    unfolding parsed.globals more_declared ended
    globals_forth d =
        in_turn (forth (declared_line t d)) (λ g.
        back (to_left (More (x.globals ++ g ∷ [])) Semicolon With)
        so in_turn (turns (kind ws) (λ _. mark_kind comma ∷ []) no (λ _. []) (λ gs. forth (next_line t gs)) (x.globals ++ g ∷ []))
        (λ gs. handed_back (mark ws semicolon) (λ _. gs) With (λ _. refl)))

    globals_back : (d : Declarator) → Within (Plain d) (parsed.globals ws t x d)
    unfolding parsed.globals more_declared ended
    globals_back d =
        in_turn (back (declared_line t d)) (λ g.
        in_turn (turns no (λ _. []) (kind ws) (λ _. mark_kind comma ∷ []) (λ gs. back (next_line t gs)) (x.globals ++ g ∷ [])) (λ gs. handed (mark ws semicolon) (λ _. gs) With)
        so forth (to_left (More (x.globals ++ g ∷ [])) Semicolon With))

    globals_empty : (d : Declarator) → (parsed.globals ws t x d).begun []
    unfolding parsed.globals initialised
    globals_empty d = inl (inr refl)

    -- the body of a function stands behind its contract
    abbrev Taken : Declarator → List Declaration → Syntax PlainToken (Function × AnnotationState)
    Taken d params = production.function_rest ws t d params (contract_taken x d.name) (after_contract x d.name)

    rest_line : (d : Declarator) (params : List Declaration)
        → Same (function_rest ws (pointers d.stars.count t) (d.name, d.place) params (contract_taken x d.name) (after_contract x d.name)) (Taken d params)
    unfolding function_rest
    rest_line d params =
        let body = items_line ws (statement_in ws (most_nested - 1)) (inside_in ws (most_nested - 1)) (after_contract x d.name) in
        both (each (kind ws) (mark_kind semicolon ∷ []) no [] (itself _) (on (mark ws left_brace) (λ start. in_turn (forth body) (λ y. itself _))))
        (each no [] (kind ws) (mark_kind semicolon ∷ []) (itself _) (on (mark ws left_brace) (λ start. in_turn (back body) (λ y. itself _))))

    abbrev Called : Declarator → Syntax PlainToken FileParts
    Called d =
        mark ws left_paren then λ _. parameters ws then λ params. Taken d params then λ f.
        gives (record x { functions = x.functions ++ f.0 ∷ []; annotations = f.1; awaiting = None })

    function_line : (d : Declarator) → Same (parsed.function ws t x d) (Called d)
    unfolding parsed.function
    function_line d =
        both (on (mark ws left_paren) (λ _. on (parameters ws) (λ params. in_turn (forth (rest_line d params)) (λ f. itself _))))
        (on (mark ws left_paren) (λ _. on (parameters ws) (λ params. in_turn (back (rest_line d params)) (λ f. itself _))))

    abbrev Dtor : Syntax PlainToken Declarator
    Dtor = full_dtor ws named.Ordinary

    guarded : (b : Bool) {F F' : Syntax PlainToken FileParts} → Within F F' → Within (only b F) (only b F')
    guarded true w = w
    guarded false w = itself none

    declared_forth : Within (declared_at_file ws t x) (production.variables ws t x or production.function ws t x)
    unfolding declared_at_file behind_declarator
    declared_forth =
        either (kind ws) (mark_kind semicolon ∷ []) (first no [] _ (first no [] _ (itself _)))
        (on Dtor (λ d. guarded_forth (kind ws) (mark_kind left_paren ∷ []) no [] (names_function d) (parsed.function ws t x d) (parsed.globals ws t x d)
        so each no [] no [] (globals_forth d) (guarded (names_function d) (forth (function_line d))))
        so apart_after no [] Dtor Plain (λ d. only (names_function d) (Called d))
        so either no [] (first no [] _ (second no [] _ (itself _))) (second no [] _ (itself _)))

    behind_back : (d : Declarator) → Within (Plain d or only (names_function d) (Called d)) (behind_declarator ws t x d)
    unfolding behind_declarator
    behind_back d =
        each no [] no [] (globals_back d) (guarded (names_function d) (back (function_line d)))
        so guarded_back (kind ws) (mark_kind left_paren ∷ []) no [] (names_function d) (parsed.function ws t x d) (parsed.globals ws t x d) (globals_empty d)

    declared_back : Within (production.variables ws t x or production.function ws t x) (declared_at_file ws t x)
    unfolding declared_at_file
    declared_back =
        either no [] (either no [] (first (kind ws) (mark_kind semicolon ∷ []) _ (itself _)) (second (kind ws) (mark_kind semicolon ∷ []) _ (on Dtor (λ d. first no [] _ (itself (Plain d)) so behind_back d))))
        (second (kind ws) (mark_kind semicolon ∷ []) _ (on Dtor (λ d. second no [] _ (itself (only (names_function d) (Called d))) so behind_back d)))

    declared_empty : (declared_at_file ws t x).begun []
    unfolding declared_at_file
    declared_empty = inl (inl (inl refl))

-- ---- typedefs

typedefs_line : (t : PlainType) (x : FileParts) → Same (typedefs t x) (production.typedefs t x)
unfolding typedefs more_typedefs next_typedef ended
typedefs_line t x =
    both (on (full_dtor x.words named.Ordinary) (λ d. in_turn (turns (kind []) (λ _. mark_kind comma ∷ []) no (λ _. []) (λ y. itself _) (with_typedef t x d)) (λ y. itself _)))
    (on (full_dtor x.words named.Ordinary) (λ d. in_turn (turns no (λ _. []) (kind []) (λ _. mark_kind comma ∷ []) (λ y. itself _) (with_typedef t x d)) (λ y. itself _)))

-- ---- externals

abbrev parts_with : FileParts → FileSpec → FileParts
parts_with x s = record x { definitions = s.definitions }

abbrev Three : Storage → PlainType → FileParts → Syntax PlainToken FileParts
Three k t x =
    only (not (is_typedef k)) (production.variables x.words t x) or only (is_typedef k) (production.typedefs t x) or only (not (is_typedef k)) (production.function x.words t x)

behind_forth : (k : Storage) (t : PlainType) (x : FileParts) → Within (behind_spec k t x) (Three k t x)
behind_forth storage.Typedef t x = forth (typedefs_line t x) so second no [] none (first no [] none (itself (production.typedefs t x)))
behind_forth storage.Static t x = declared_forth x.words t x so each no [] no [] (itself (production.variables x.words t x)) (second no [] none (itself (production.function x.words t x)))
behind_forth storage.Nothing t x = declared_forth x.words t x so each no [] no [] (itself (production.variables x.words t x)) (second no [] none (itself (production.function x.words t x)))

typedefs_empty : (t : PlainType) (x : FileParts) → (full_dtor x.words named.Ordinary).begun [] → (typedefs t x).begun []
unfolding typedefs
typedefs_empty t x e = inl e

dtor_empty : (ws : Vocabulary) → (full_dtor ws named.Ordinary).begun []
unfolding full_dtor dtor star_words
dtor_empty ws = inl (0, inr refl)

declared_only : (x : FileParts) (t : PlainType) → Within (production.variables x.words t x or none or production.function x.words t x) (declared_at_file x.words t x)
declared_only x t =
    either no [] (first no [] (production.function x.words t x) (itself (production.variables x.words t x)) so declared_back x.words t x)
    (either no [] (nothing (declared_at_file x.words t x) (declared_empty x.words t x)) (second no [] (production.variables x.words t x) (itself (production.function x.words t x)) so declared_back x.words t x))

behind_spec_back : (k : Storage) (t : PlainType) (x : FileParts) → Within (Three k t x) (behind_spec k t x)
behind_spec_back storage.Typedef t x =
    either no [] (nothing (typedefs t x) (typedefs_empty t x (dtor_empty x.words))) (either no [] (back (typedefs_line t x)) (nothing (typedefs t x) (typedefs_empty t x (dtor_empty x.words))))
behind_spec_back storage.Static t x = declared_only x t
behind_spec_back storage.Nothing t x = declared_only x t

pub external_line : (x : FileParts) → Same (declared_external x) (production.external x)
unfolding declared_external
external_line x =
    let Spec = file_spec x.words x.definitions in
    both
    (on Spec (λ s. behind_forth s.storage s.ctype (parts_with x s))
    so apart_after no [] Spec (λ s. only (not (is_typedef s.storage)) (production.variables x.words s.ctype (parts_with x s)))
    (λ s. only (is_typedef s.storage) (production.typedefs s.ctype (parts_with x s)) or only (not (is_typedef s.storage)) (production.function x.words s.ctype (parts_with x s)))
    so each no [] no [] (itself _) (apart_after no [] Spec (λ s. only (is_typedef s.storage) (production.typedefs s.ctype (parts_with x s))) (λ s. only (not (is_typedef s.storage)) (production.function x.words s.ctype (parts_with x s)))))
    (either no [] (on Spec (λ s. first no [] _ (itself _) so behind_spec_back s.storage s.ctype (parts_with x s)))
    (either no [] (on Spec (λ s. second no [] _ (first no [] _ (itself _)) so behind_spec_back s.storage s.ctype (parts_with x s)))
    (on Spec (λ s. second no [] _ (second no [] _ (itself _)) so behind_spec_back s.storage s.ctype (parts_with x s)))))

-- ---- units

external_turn : (x : FileParts) → Same (parsed.external x) (repeated (next_stray x.words) (x.annotations, None) then λ s. declared_external (record x { annotations = s.0; awaiting = s.1 }) then λ z. gives (awaiting_nothing z))
unfolding parsed.external strays
external_turn x =
    both (in_turn (turns (kind x.words) (λ _. annot_open_kind ∷ []) no (λ _. []) (λ s. itself _) (x.annotations, None)) (λ s. itself _))
    (in_turn (turns no (λ _. []) (kind x.words) (λ _. annot_open_kind ∷ []) (λ s. itself _) (x.annotations, None)) (λ s. itself _))

pub unit_line : (x : FileParts) → Same (more_external x) (production.unit x)
unfolding more_external
unit_line x = both (turns any_kind (λ _. 0 ∷ []) no (λ _. []) (λ y. forth (external_turn y)) x) (turns no (λ _. []) any_kind (λ _. 0 ∷ []) (λ y. back (external_turn y)) x)
