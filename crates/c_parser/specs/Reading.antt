-- Ours: productions of C99 6.8 and 6.9 (c_model/specs/ProgramGrammar), cut as the code reads them.
-- Parts of productions that functions of their own read, and the plain forms of what is read in parts.
use Rattle.std.specs.Prelude.{ℕ, ◌-◌, cond, List, [], ◌∷◌, length, map, Result, Err, Option, Some, None, option_map}
use Rattle.grammar.specs.Syntax.{Syntax, ParseFault, At, Over, sees, gives, ◌then◌, many}
use Rattle.c_model.specs.Terminals.{nesting_limit}
use Rattle.c_syntax.specs.declared.place.Place.{Place}
use Rattle.c_syntax.specs.Ctypes.{PlainType}
use Rattle.c_syntax.specs.Tokens.{PlainToken}
use Rattle.c_syntax.specs.declared.statement.Item.{Item}
use Rattle.c_syntax.specs.declared.statement.Case as code_case
use Rattle.c_syntax.specs.Expressions.{Expression, plain_expr}
use Rattle.c_syntax.specs.Statements.{Statement, Block, Do, Eval, For, Break, Continue, ForFirst, NoFirst, First, plain_decl, plain_item, plain_stmt}
use Rattle.c_syntax.specs.Programs.{Function, FunctionContract, plain_contract, plain_func}
use Rattle.c_model.specs.declared.declarations.AnnotationState.{AnnotationState}
use Rattle.c_model.specs.Vocabulary.{Vocabulary}
use Rattle.c_model.specs.declared.vocabulary.Keyword.TheVariants as keyword
use Rattle.c_parser.specs.declared.loops.ForHeading as code_heading
use Rattle.c_parser.specs.declared.function.Body.{Body}
use Rattle.c_parser.specs.declared.program.FileParts as code_parts
use Rattle.c_model.specs.Punctuators.{comma, left_paren, left_brace, right_brace}
use Rattle.c_model.specs.ExpressionGrammar.{annot_open_kind, kind, mark, reserved, mark_kind, most_nested, pointers, full_placed_expression}
use Rattle.c_model.specs.DeclarationGrammar.{Declarator, parameters}
use Rattle.c_syntax.specs.Logic.{Annotation}
use Rattle.c_model.specs.ClauseGrammar.{ReadAnnotation, Assertions, Contracted, Looped}
use Rattle.c_model.specs.ProgramGrammar.{first_branch, FileParts, Numbered, ReadCase, block_items, first_misplaced, after_placed, after_misplaced}
use Rattle.c_model.specs.ProgramGrammar.{for_first, maybe_ended, for_behind, items, statement_in, inside_in, function_rest, next_typedef, next_stray}
use Rattle.c_declaration_parser.specs.Reading.{plain_definitions}
pub use Rattle.c_model.specs.DeclarationGrammar.{ended}

-- what stands before the body of a `for`
pub record ForHeading : Type 0 where
  pub place : Place
  pub first : ForFirst
  pub condition : Option Expression
  pub step : Option Expression

abbrev pub for_with : List Annotation → ForHeading → Statement → Statement
for_with annots h body = For h.place annots h.first h.condition h.step body

-- no token, with a statement and what is read of annotations
abbrev pub counted : Statement → AnnotationState → Syntax PlainToken (Statement × AnnotationState)
counted s n = gives (s, n)

module _ (ws : Vocabulary) where
  -- what a statement inside another is read as that is one too deep
  abbrev pub deep_fault : List PlainToken → Result ((Statement × AnnotationState) × List PlainToken) ParseFault
  deep_fault ts = cond (sees (kind ws) first_branch ts) (Err (Over nesting_limit (length ts))) (Err (At (length ts)))

  -- "break" ";"
  unfoldable pub break_statement : Numbered
  break_statement n = reserved ws keyword.Break then λ at. ended ws (Break at, n)

  -- "continue" ";"
  unfoldable pub continue_statement : Numbered
  continue_statement n = reserved ws keyword.Continue then λ at. ended ws (Continue at, n)

  -- comma ";", first in the parentheses of a `for`
  unfoldable pub for_effect : Numbered
  for_effect n = full_placed_expression ws then λ e. ended ws (Eval e.1 e.0, n)

  -- what stands before the body of a `for`
  unfoldable pub for_heading : AnnotationState → Syntax PlainToken (ForHeading × AnnotationState)
  for_heading n =
      reserved ws keyword.For then λ at. mark ws left_paren then λ _. for_first ws n then λ first. maybe_ended ws then λ e. for_behind ws then λ behind.
      gives (record { place = at; first = first.0; condition = e; step = behind }, first.1)

  -- a function's body with the place of its closing brace
  unfoldable pub function_body : AnnotationState → Syntax PlainToken ((Statement × Place) × AnnotationState)
  function_body n =
      mark ws left_brace then λ start. items ws (statement_in ws (most_nested - 1)) (inside_in ws (most_nested - 1)) ([], n) then λ x.
      mark ws right_brace then λ close. gives ((Block start (block_items x.0), close), x.1)

  -- ";", after a `do` with its condition
  abbrev pub ended_do : Place → Statement → Expression → AnnotationState → Syntax PlainToken (Statement × AnnotationState)
  ended_do at a e n = ended ws (Do at a e, n)

  -- a function or a prototype with this contract, after its stars and its name
  unfoldable pub function_behind : PlainType → Declarator → Option FunctionContract → AnnotationState → Syntax PlainToken (Function × AnnotationState)
  function_behind t d c n =
      mark ws left_paren then λ _. parameters ws then λ params. function_rest ws (pointers d.stars.count t) (d.name, d.place) params c n

  -- annotations before a declaration, after those that are read, with the contract that is the last of them
  unfoldable pub more_strays : AnnotationState × Option FunctionContract → Syntax PlainToken (AnnotationState × Option FunctionContract)
  more_strays x = many (kind ws) (λ _. annot_open_kind ∷ []) (next_stray ws) x

-- after an annotation at this place that is misplaced, where there is one
abbrev pub with_misplaced : AnnotationState → Option Place → AnnotationState
with_misplaced s place = record s { misplaced = first_misplaced s.misplaced place }

-- what an annotation before a declaration leaves: a contract waits for a function, and any other is misplaced
abbrev pub behind_stray : AnnotationState → ReadAnnotation × ℕ → AnnotationState × Option FunctionContract
behind_stray s y = elim y.0 [
  | Assertions asserts ↦ (after_misplaced s y, None)
  | Contracted c ↦ (after_placed s y.1, Some c)
  | Looped l ↦ (after_misplaced s y, None)
]

unfoldable pub other_typedefs : PlainType → FileParts → Syntax PlainToken FileParts
other_typedefs t x = many (kind []) (λ _. mark_kind comma ∷ []) (next_typedef t) x

-- what stands first in the parentheses of a `for`
abbrev pub plain_first : Option Item → ForFirst
plain_first None = NoFirst
plain_first (Some i) = First (plain_item i)

abbrev pub plain_heading : code_heading.ForHeading → ForHeading
plain_heading h = record {
  place = h.place;
  first = plain_first h.first;
  condition = option_map plain_expr h.condition;
  step = option_map plain_expr h.step;
}

abbrev pub read_case : code_case.Case → ReadCase
read_case c = record { place = c.place; value = option_map plain_expr c.value; items = map plain_item c.items.items }

abbrev pub plain_body : Body → Statement × Place
plain_body b = (plain_stmt b.block, b.close)

abbrev pub plain_parts : code_parts.FileParts → FileParts
plain_parts x = record {
  words = x.words.items;
  definitions = plain_definitions x.definitions;
  typedefs = map plain_decl x.typedefs.items;
  globals = map plain_decl x.globals.items;
  functions = map plain_func x.functions.all.items;
  annotations = x.annotations;
  awaiting = option_map plain_contract x.awaiting;
}
