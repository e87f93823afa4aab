-- The productions of statements as the head of c_model/specs/ProgramGrammar has them (C99 6.8). What a production is made of are the values
-- that are parsed; T stands for a statement in a block, B for what stands behind an annotation there, and S for a statement inside another.
use Rattle.std.specs.Prelude.{List, [], ◌∷◌, ◌++◌, Option, Some, None, Bool, true, false, not, cond}
use Rattle.grammar.specs.Syntax.{Syntax, none, gives, ◌then◌}
use Rattle.grammar_laws.specs.Plain.{◌or◌, repeated, only}
use Rattle.c_syntax.specs.declared.place.Place.{Place}
use Rattle.c_syntax.specs.Expressions.{Expression}
use Rattle.c_syntax.specs.Logic.{Annotation}
use Rattle.c_syntax.specs.Statements as statement
use Rattle.c_syntax.specs.Statements.{Statement, NoElse, ForFirst, NoFirst, First, BlockItem}
use Rattle.c_syntax.specs.Tokens.{PlainToken}
use Rattle.c_model.specs.declared.declarations.AnnotationState.{AnnotationState}
use Rattle.c_model.specs.declared.operands.Level.TheVariants.{Conditional}
use Rattle.c_model.specs.declared.vocabulary.Keyword.TheVariants as keyword
use Rattle.c_model.specs.Vocabulary.{Vocabulary}
use Rattle.c_model.specs.Punctuators.{semicolon, colon, left_paren, right_paren, left_brace, right_brace}
use Rattle.c_model.specs.ExpressionGrammar.{mark, reserved, name, full_expression, full_placed_expression, full_expression_at}
use Rattle.c_model.specs.DeclarationGrammar.{declaration}
use Rattle.c_model.specs.ClauseGrammar.{ReadAnnotation, Assertions, Contracted, Looped, annotations}
use Rattle.c_model.specs.ProgramGrammar.{Numbered, Annotated, Looping, ReadCase, is_open, block_items, cases_of, after_placed, after_misplaced, after_loop}
use Rattle.c_model.specs.ProgramGrammar as parsed

-- whether an annotation is one with asserts, and these
abbrev pub are_asserts : ReadAnnotation → Bool
are_asserts x = elim x [ Assertions asserts ↦ true | Contracted c ↦ false | Looped l ↦ false ]

abbrev pub asserts_of : ReadAnnotation → List Annotation
asserts_of x = elim x [ Assertions asserts ↦ asserts | Contracted c ↦ [] | Looped l ↦ [] ]

module _ (ws : Vocabulary) where
  -- [ G ]
  abbrev pub maybe : {A : Type 0} → Syntax PlainToken A → Syntax PlainToken (Option A)
  maybe G = (G then λ x. gives (Some x)) or gives None

  -- "(" comma ")"
  abbrev pub condition : Syntax PlainToken Expression
  condition = mark ws left_paren then λ _. full_expression ws then λ e. mark ws right_paren then λ _. gives e

  -- asserts
  abbrev pub asserts : AnnotationState → Syntax PlainToken (BlockItem × AnnotationState)
  asserts n = annotations ws n.number then λ x. only (are_asserts x.0) (gives (statement.Asserts (asserts_of x.0), after_placed n x.1))

  -- annotation inside, where the annotation is none with asserts
  abbrev pub annotated : Annotated → AnnotationState → Syntax PlainToken (BlockItem × AnnotationState)
  annotated B n = annotations ws n.number then λ x. only (not (are_asserts x.0)) (B x n then λ y. gives (statement.Run y.0, y.1))

  -- item = asserts | annotation inside | decl | stmt
  abbrev pub item : Numbered → Annotated → AnnotationState → Syntax PlainToken (BlockItem × AnnotationState)
  item T B n = asserts n or annotated B n or (declaration ws then λ i. gives (i, n)) or (T n then λ x. gives (statement.Run x.0, x.1))

  -- { item }
  abbrev pub items : Numbered → Annotated → AnnotationState → Syntax PlainToken (List BlockItem × AnnotationState)
  items T B n = repeated (λ x. parsed.item ws T B x.1 then λ i. gives (x.0 ++ i.0 ∷ [], i.1)) ([], n)

  -- "{" { item } "}"
  abbrev pub block : Numbered → Annotated → Numbered
  block T B n = mark ws left_brace then λ at. items T B n then λ x. mark ws right_brace then λ _. gives (statement.Block at (block_items x.0), x.1)

  -- ";"
  abbrev pub empty : Numbered
  empty n = mark ws semicolon then λ at. gives (statement.Empty at, n)

  -- "if" "(" comma ")" branch [ "else" branch ], where a branch that is open takes the "else" itself
  abbrev pub selection : Numbered → Numbered
  selection S n =
      reserved ws keyword.If then λ at. condition then λ e. S n then λ x.
      gives (statement.If at e x.0 NoElse, x.1)
      or cond (is_open x.0) none (reserved ws keyword.Else then λ _. S x.1 then λ y. gives (statement.If at e x.0 (statement.Else y.0), y.1))

  -- "while" "(" comma ")" branch
  abbrev pub while_loop : Numbered → Looping
  while_loop S annots n = reserved ws keyword.While then λ at. condition then λ e. S n then λ x. gives (statement.While at annots e x.0, x.1)

  -- "do" branch "while" "(" comma ")" ";"
  abbrev pub do_loop : Numbered → Numbered
  do_loop S n =
      reserved ws keyword.Do then λ at. S n then λ x. reserved ws keyword.While then λ _. condition then λ e.
      mark ws semicolon then λ _. gives (statement.Do at x.0 e, x.1)

  -- decl | [ comma ] ";"
  abbrev pub for_first : AnnotationState → Syntax PlainToken (ForFirst × AnnotationState)
  for_first n =
      (declaration ws then λ i. gives (First i, n))
      or (full_placed_expression ws then λ e. mark ws semicolon then λ _. gives (First (statement.Run (statement.Eval e.1 e.0)), n))
      or (mark ws semicolon then λ _. gives (NoFirst, n))

  -- "for" "(" ( decl | [ comma ] ";" ) [ comma ] ";" [ comma ] ")" branch
  abbrev pub for_loop : Numbered → Looping
  for_loop S annots n =
      reserved ws keyword.For then λ at. mark ws left_paren then λ _. for_first n then λ first. maybe (full_expression ws) then λ e.
      mark ws semicolon then λ _. maybe (full_expression ws) then λ behind. mark ws right_paren then λ _.
      S first.1 then λ x. gives (statement.For at annots first.0 e behind x.0, x.1)

  -- loop
  abbrev pub loop : Numbered → Looping
  loop S annots n = while_loop S annots n or for_loop S annots n

  -- "return" [ comma ] ";"
  abbrev pub return_statement : Numbered
  return_statement n =
      reserved ws keyword.Return then λ at. maybe (full_expression ws) then λ e. mark ws semicolon then λ _. gives (statement.Return at e, n)

  -- "break" ";" | "continue" ";"
  abbrev pub jump : Numbered
  jump n =
      (reserved ws keyword.Break then λ at. mark ws semicolon then λ _. gives (statement.Break at, n))
      or (reserved ws keyword.Continue then λ at. mark ws semicolon then λ _. gives (statement.Continue at, n))

  -- ( "case" cond | "default" ) ":"
  abbrev pub case_label : Syntax PlainToken (Place × Option Expression)
  case_label =
      (reserved ws keyword.Case then λ at. full_expression_at ws Conditional then λ e. mark ws colon then λ _. gives (at, Some e))
      or (reserved ws keyword.Default then λ at. mark ws colon then λ _. gives (at, None))

  -- asserts | annotation inside | stmt
  abbrev pub case_item : Numbered → Annotated → AnnotationState → Syntax PlainToken (BlockItem × AnnotationState)
  case_item T B n = asserts n or annotated B n or (T n then λ x. gives (statement.Run x.0, x.1))

  -- { asserts | annotation inside | stmt }
  abbrev pub case_items : Numbered → Annotated → AnnotationState → Syntax PlainToken (List BlockItem × AnnotationState)
  case_items T B n = repeated (λ x. case_item T B x.1 then λ i. gives (x.0 ++ i.0 ∷ [], i.1)) ([], n)

  -- case = ( "case" cond | "default" ) ":" { asserts | annotation inside | stmt }, after others
  abbrev pub next_case : Numbered → Annotated → List ReadCase × AnnotationState → Syntax PlainToken (List ReadCase × AnnotationState)
  next_case T B x = case_label then λ l. case_items T B x.1 then λ y. gives (x.0 ++ record { place = l.0; value = l.1; items = y.0 } ∷ [], y.1)

  -- { case }
  abbrev pub cases : Numbered → Annotated → AnnotationState → Syntax PlainToken (List ReadCase × AnnotationState)
  cases T B n = repeated (next_case T B) ([], n)

  -- "switch" "(" comma ")" "{" { case } "}"
  abbrev pub switch_statement : Numbered → Annotated → Numbered
  switch_statement T B n =
      reserved ws keyword.Switch then λ at. condition then λ e. mark ws left_brace then λ _. cases T B n then λ x.
      mark ws right_brace then λ _. gives (statement.Switch at e (cases_of x.0), x.1)

  -- comma ";"
  abbrev pub effect_statement : Numbered
  effect_statement n = full_placed_expression ws then λ e. mark ws semicolon then λ _. gives (statement.Eval e.1 e.0, n)

  -- NAME ":" branch
  abbrev pub labelled : Numbered → Numbered
  labelled S n = name ws then λ x. mark ws colon then λ _. S n then λ y. gives (statement.Labelled x.1 x.0 y.0, y.1)

  -- a statement that is no loop
  abbrev pub unlooped : Numbered → Annotated → Numbered → Numbered
  unlooped T B S n =
      block T B n or empty n or effect_statement n or labelled S n or selection S n or do_loop S n or switch_statement T B n or jump n
      or return_statement n

  -- stmt
  abbrev pub stmt : Numbered → Annotated → Numbered → Numbered
  stmt T B S n = loop S [] n or unlooped T B S n

  -- branch = annotation inside | stmt
  abbrev pub branch : Numbered → Annotated → Numbered
  branch T A n = (annotations ws n.number then λ x. A x n) or T n

  -- inside = loop, behind its clauses | branch, where the annotation is misplaced: behind clauses of a loop the branch begins with no loop
  abbrev pub inside : Looping → Numbered → Numbered → Annotated → Annotated
  inside W T U A x n = elim x.0 [
    | Assertions asserts ↦ branch T A (after_misplaced n x)
    | Contracted c ↦ branch T A (after_misplaced n x)
    | Looped l ↦ W l.clauses (after_loop n l x.1) or branch U A (after_misplaced n x)
  ]
