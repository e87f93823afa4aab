-- The productions of declarations at file scope as the heads of c_model/specs/DeclarationGrammar and ProgramGrammar have them (C99 6.7.1, 6.9).
-- What a production is made of are the values that are parsed.
use Rattle.std.specs.Prelude.{◌-◌, List, [], ◌∷◌, ◌++◌, Option, Some, None, Bool, true, false, not}
use Rattle.grammar.specs.Syntax.{Syntax, gives, ◌then◌}
use Rattle.grammar_laws.specs.Plain.{◌or◌, repeated, only}
use Rattle.grammar_laws.specs.DeclarationProductions.{declared, next_declared}
use Rattle.grammar_laws.specs.StatementProductions.{items}
use Rattle.c_syntax.specs.Ctypes.{PlainType}
use Rattle.c_syntax.specs.Statements as statement
use Rattle.c_syntax.specs.Statements.{Declaration}
use Rattle.c_syntax.specs.Programs.{FunctionContract, Function}
use Rattle.c_syntax.specs.Tokens.{PlainToken}
use Rattle.c_model.specs.declared.declarations.AnnotationState.{AnnotationState}
use Rattle.c_model.specs.declared.declarations.Named.TheVariants as named
use Rattle.c_model.specs.declared.declarations.Storage.{Storage}
use Rattle.c_model.specs.declared.declarations.Storage.TheVariants as storage
use Rattle.c_model.specs.declared.vocabulary.Keyword.TheVariants as keyword
use Rattle.c_model.specs.Vocabulary.{Vocabulary}
use Rattle.c_model.specs.Punctuators.{semicolon, comma, left_paren, left_brace, right_brace}
use Rattle.c_model.specs.ExpressionGrammar.{most_nested, pointers, mark, reserved, consts}
use Rattle.c_model.specs.DeclarationGrammar.{Declarator, Definitions, FileSpec, names_function, braced, braces_in, full_dtor, parameters, file_spec}
use Rattle.c_model.specs.ProgramGrammar.{FileParts, block_items, function_with, contract_taken, after_contract, with_nameless, with_typedef}
use Rattle.c_model.specs.ProgramGrammar.{statement_in, inside_in, next_stray, declared_external, awaiting_nothing}

abbrev pub no_storage : Storage → Bool
no_storage storage.Nothing = true
no_storage storage.Static = false
no_storage storage.Typedef = false

abbrev pub is_typedef : Storage → Bool
is_typedef storage.Nothing = false
is_typedef storage.Static = false
is_typedef storage.Typedef = true

module _ (ws : Vocabulary) where
  -- "static" | "typedef" | "const", the first two once at most
  abbrev pub storage_word : Storage → Syntax PlainToken Storage
  storage_word s =
      only (no_storage s) (reserved ws keyword.Static then λ _. gives storage.Static)
      or only (no_storage s) (reserved ws keyword.Typedef then λ _. gives storage.Typedef) or (reserved ws keyword.Const then λ _. gives s)

  -- spec = { "static" | "typedef" | "const" } braced { "const" }
  abbrev pub spec : Definitions → Syntax PlainToken FileSpec
  spec d =
      repeated storage_word storage.Nothing then λ s. braced ws (braces_in ws most_nested) d then λ y. consts ws y.0 then λ t.
      gives (record { storage = s; ctype = t; definitions = y.1 })

  -- [ declared { "," declared } ] ";"
  abbrev pub variables : PlainType → FileParts → Syntax PlainToken FileParts
  variables t x =
      (mark ws semicolon then λ at. gives (with_nameless t x at))
      or (full_dtor ws named.Ordinary then λ d. declared ws t d then λ g. repeated (next_declared ws t) (x.globals ++ g ∷ []) then λ gs.
      mark ws semicolon then λ _. gives (record x { globals = gs }))

  -- ";" | body
  abbrev pub function_rest : PlainType → Declarator → List Declaration → Option FunctionContract → AnnotationState
      → Syntax PlainToken (Function × AnnotationState)
  function_rest t d params c n =
      (mark ws semicolon then λ at. gives (function_with (pointers d.stars.count t) (d.name, d.place) params c None at, n))
      or (mark ws left_brace then λ start. items ws (statement_in ws (most_nested - 1)) (inside_in ws (most_nested - 1)) n then λ x.
      mark ws right_brace then λ close.
      gives (function_with (pointers d.stars.count t) (d.name, d.place) params c (Some (statement.Block start (block_items x.0))) close, x.1))

  -- { "*" } NAME "(" params ")" ( ";" | body ): a dtor without "const" and brackets is { "*" } NAME; with the contract that awaits it
  abbrev pub function : PlainType → FileParts → Syntax PlainToken FileParts
  function t x =
      full_dtor ws named.Ordinary then λ d.
      only (names_function d) (mark ws left_paren then λ _. parameters ws then λ params.
      function_rest t d params (contract_taken x d.name) (after_contract x d.name) then λ f.
      gives (record x { functions = x.functions ++ f.0 ∷ []; annotations = f.1; awaiting = None }))

-- "," dtor, whose name is that of a type from its end on
abbrev pub next_typedef : PlainType → FileParts → Syntax PlainToken FileParts
next_typedef t x = mark x.words comma then λ _. full_dtor x.words named.Ordinary then λ d. gives (with_typedef t x d)

-- dtor { "," dtor } ";"
abbrev pub typedefs : PlainType → FileParts → Syntax PlainToken FileParts
typedefs t x =
    full_dtor x.words named.Ordinary then λ d. repeated (next_typedef t) (with_typedef t x d) then λ y. mark y.words semicolon then λ _. gives y

-- external = spec [ declared { "," declared } ] ";" | spec dtor { "," dtor } ";" | spec { "*" } NAME "(" params ")" ( ";" | body ),
-- the second with "typedef" among the words of the spec, and the others without
abbrev pub external : FileParts → Syntax PlainToken FileParts
external x =
    (file_spec x.words x.definitions then λ s. only (not (is_typedef s.storage)) (variables x.words s.ctype (record x { definitions = s.definitions })))
    or (file_spec x.words x.definitions then λ s. only (is_typedef s.storage) (typedefs s.ctype (record x { definitions = s.definitions })))
    or (file_spec x.words x.definitions then λ s. only (not (is_typedef s.storage)) (function x.words s.ctype (record x { definitions = s.definitions })))

-- unit = { { annotation } external }, after these parts; the contract that is the last annotation awaits a function
abbrev pub unit : FileParts → Syntax PlainToken FileParts
unit x =
    repeated (λ y. repeated (next_stray y.words) (y.annotations, None) then λ s.
    declared_external (record y { annotations = s.0; awaiting = s.1 }) then λ z. gives (awaiting_nothing z)) x
