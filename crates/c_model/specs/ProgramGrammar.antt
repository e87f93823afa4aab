-- The grammar of annotated C, with the trees that are read (C99 6.8, 6.9, ACSL 2.3, 2.4); declarations stand in DeclarationGrammar, and
-- expressions in ExpressionGrammar:
--
--   unit       = { { annotation } external }
--   external   = spec [ declared { "," declared } ] ";" | spec dtor { "," dtor } ";" | spec { "*" } NAME "(" params ")" ( ";" | body )
--   body       = "{" { item } "}"
--   item       = asserts | annotation inside | decl | stmt
--   branch     = annotation inside | stmt
--   inside     = loop, behind loops | branch
--   stmt       = "{" { item } "}" | ";" | comma ";" | NAME ":" branch
--              | "if" "(" comma ")" branch [ "else" branch ]
--              | loop | "do" branch "while" "(" comma ")" ";"
--              | "switch" "(" comma ")" "{" { case } "}"
--              | "break" ";" | "continue" ";" | "return" [ comma ] ";"
--   loop       = "while" "(" comma ")" branch | "for" "(" ( decl | [ comma ] ";" ) [ comma ] ";" [ comma ] ")" branch
--   case       = ( "case" cond | "default" ) ":" { asserts | annotation inside | stmt }
--   annotation : see ClauseGrammar; asserts and loops are those with asserts, and those with clauses of a loop
--
-- Asserts are items, a contract stands directly before a function, which has at most one among all its declarations (ACSL 2.3), and clauses of a loop
-- stand directly before it, with at most one variant among them (ACSL 2.4.2). Any other annotation stands where none of its kind may: it is passed over.
-- The first place where such a thing stands is kept: the first word of the annotation, or of a variant behind another one. A branch or a statement
-- with an annotation is a statement inside which what stands behind the annotation stands.
--
-- A spec has "typedef" among the words before its type, as it may have "static", and then it stands in the second form, and else in the
-- others. A name that a typedef declares is the name of a type from the end of its declarator on. The stars before the name of a function,
-- with the name, have at most 400 tokens. Statements are at most 200 deep, a function's body being 1 deep. "else" goes with the nearest "if".
use Rattle.std.specs.Prelude.{ℕ, zero, suc, ◌-◌, List, [], ◌∷◌, ◌++◌, Option, Some, None, Bool, true, false, ◌||◌, ◌&&◌, cond, nat_eq, slice_set}
use Rattle.grammar.specs.Syntax.{Syntax, none, gives, ◌then◌, choice, many, deep}
use Rattle.c_syntax.specs.declared.place.Place.{Place}
use Rattle.c_syntax.specs.Ctypes.{PlainType}
use Rattle.c_syntax.specs.Expressions.{Expression}
use Rattle.c_syntax.specs.Statements as statement
use Rattle.c_syntax.specs.Statements.{Declaration, Statement, ElsePart, NoElse, ForFirst, NoFirst, First, BlockItem, BlockItems, NoItem, Then}
use Rattle.c_syntax.specs.Statements.{Cases, NoCase, AnotherCase}
use Rattle.c_syntax.specs.Logic.{Annotation}
use Rattle.c_syntax.specs.Programs.{FunctionContract, Function, StringLiteral, TranslationUnit}
use Rattle.c_syntax.specs.Tokens as token
use Rattle.c_syntax.specs.Tokens.{PlainToken}
use Rattle.c_model.specs.declared.declarations.AnnotationState.{AnnotationState}
use Rattle.c_model.specs.declared.declarations.Storage.{Storage}
use Rattle.c_model.specs.declared.declarations.Storage.TheVariants as storage
use Rattle.c_model.specs.declared.declarations.Named.TheVariants as ordinary
use Rattle.c_model.specs.declared.operands.Level.TheVariants.{Conditional}
use Rattle.c_model.specs.declared.vocabulary.Keyword.TheVariants as keyword
use Rattle.c_model.specs.Vocabulary.{Vocabulary, word_at, declared_word}
use Rattle.c_model.specs.Punctuators.{semicolon, colon, comma, left_paren, left_brace, right_brace}
use Rattle.c_model.specs.Terminals.{nesting_limit}
use Rattle.c_model.specs.ExpressionGrammar.{name_kind, annot_open_kind, keyword_kind, mark_kind, kind, first_type, first_expression, pointers, name}
use Rattle.c_model.specs.ExpressionGrammar.{most_nested, mark, reserved, closed}
use Rattle.c_model.specs.ExpressionGrammar.{full_expression, full_placed_expression, full_nameless_expression, full_expression_behind, full_expression_at}
use Rattle.c_model.specs.DeclarationGrammar.{Declarator, Definitions, names_function, declared_by, nameless, ended, full_dtor, initialised, more_declared}
use Rattle.c_model.specs.DeclarationGrammar.{declaration, parameters, file_spec}
use Rattle.c_model.specs.ClauseGrammar.{LoopClauses, ReadAnnotation, Assertions, Contracted, Looped, annotations}
use Rattle.c_model.specs.Library.{is_there}

-- ---- what begins what: these sets serve `parse` alone

abbrev pub first_statement : List ℕ
first_statement =
    mark_kind left_brace ∷ mark_kind semicolon ∷ keyword_kind keyword.If ∷ keyword_kind keyword.While ∷ keyword_kind keyword.Do ∷ keyword_kind keyword.For
    ∷ keyword_kind keyword.Switch ∷ keyword_kind keyword.Break ∷ keyword_kind keyword.Continue ∷ keyword_kind keyword.Return ∷ first_expression

abbrev pub first_loop : List ℕ
first_loop = keyword_kind keyword.While ∷ keyword_kind keyword.For ∷ []

-- what begins a statement inside another
abbrev pub first_branch : List ℕ
first_branch = annot_open_kind ∷ first_statement

abbrev pub first_item : List ℕ
first_item = annot_open_kind ∷ first_type ++ first_statement

abbrev pub first_case : List ℕ
first_case = keyword_kind keyword.Case ∷ keyword_kind keyword.Default ∷ []

-- ---- trees

abbrev pub block_items : List BlockItem → BlockItems
block_items [] = NoItem
block_items (i ∷ is) = Then i (block_items is)

-- a case as it is read: the place of its word, its value, or none for `default`, and its items
pub record ReadCase : Type 0 where
  pub place : Place
  pub value : Option Expression
  pub items : List BlockItem

abbrev pub cases_of : List ReadCase → Cases
cases_of [] = NoCase
cases_of (c ∷ cs) = AnotherCase c.place c.value (block_items c.items) (cases_of cs)

abbrev mutual
  -- an `if` without `else` at the end, with which a further `else` would go (C99 6.8.4.1 p3)
  pub is_open : Statement → Bool
  is_open (statement.If at e a b) = is_open_else b
  is_open (statement.While at annots e a) = is_open a
  is_open (statement.For at annots first e behind a) = is_open a
  is_open (statement.Do at a e) = false
  is_open (statement.Empty at) = false
  is_open (statement.Eval at e) = false
  is_open (statement.Block at items) = false
  is_open (statement.Break at) = false
  is_open (statement.Continue at) = false
  is_open (statement.Return at e) = false
  is_open (statement.Labelled at l a) = is_open a
  is_open (statement.Switch at e cases) = false

  pub is_open_else : ElsePart → Bool
  is_open_else NoElse = true
  is_open_else (statement.Else a) = is_open a

-- how a statement is read, with what is read of annotations before it and after it
abbrev pub Numbered : Type 1
Numbered = AnnotationState → Syntax PlainToken (Statement × AnnotationState)

-- how what stands inside a statement behind an annotation is read, with what that was read as and the number after it
abbrev pub Annotated : Type 1
Annotated = ReadAnnotation × ℕ → Numbered

-- how a loop is read that these annotations stand before
abbrev pub Looping : Type 1
Looping = List Annotation → Numbered

-- the place of the first word of an annotation
abbrev pub first_word : ReadAnnotation → Option Place
first_word (Assertions []) = None
first_word (Assertions (a ∷ asserts)) = Some a.place
first_word (Contracted c) = Some c.place
first_word (Looped l) = Some l.place

-- that of a contract, where there is one
abbrev pub contract_place : Option FunctionContract → Option Place
contract_place None = None
contract_place (Some c) = Some c.place

-- the first of the places of misplaced annotations, with that of an annotation that follows
abbrev pub first_misplaced : Option Place → Option Place → Option Place
first_misplaced (Some at) place = Some at
first_misplaced None place = place

-- after annotations that stand where they may, with the number of the next clause
abbrev pub after_placed : AnnotationState → ℕ → AnnotationState
after_placed s n = record { number = n; misplaced = s.misplaced }

-- after annotations that don't
abbrev pub after_misplaced : AnnotationState → ReadAnnotation × ℕ → AnnotationState
after_misplaced s x = record { number = x.1; misplaced = first_misplaced s.misplaced (first_word x.0) }

-- after the clauses of a loop that follows
abbrev pub after_loop : AnnotationState → LoopClauses → ℕ → AnnotationState
after_loop s l n = record { number = n; misplaced = first_misplaced s.misplaced l.again }

-- after a contract that no function takes
abbrev pub without : AnnotationState → Option FunctionContract → AnnotationState
without s c = record s { misplaced = first_misplaced s.misplaced (contract_place c) }

abbrev pub function_with : PlainType → ℕ × Place → List Declaration → Option FunctionContract → Option Statement → Place → Function
function_with t f params contract body close = record {
  place = f.1;
  name = f.0;
  result = t;
  params = params;
  contract = contract;
  body = body;
  close = close;
}

-- what is read of a text so far: what its words are by now, what it defines and declares, and its annotations
pub record FileParts : Type 0 where
  pub words : Vocabulary
  pub definitions : Definitions
  pub typedefs : List Declaration
  pub globals : List Declaration
  pub functions : List Function
  pub annotations : AnnotationState
  -- the contract that stands directly before what is read next
  pub awaiting : Option FunctionContract

abbrev pub no_parts : Vocabulary → FileParts
no_parts ws = record {
  words = ws;
  definitions = record { structs = []; enums = [] };
  typedefs = [];
  globals = [];
  functions = [];
  annotations = record { number = 1; misplaced = None };
  awaiting = None;
}

-- whether a function of this name has a contract
abbrev pub has_contract : ℕ → List Function → Bool
has_contract x [] = false
has_contract x (f ∷ fs) = (nat_eq f.name x && is_there f.contract) || has_contract x fs

-- what a function of this name takes of a contract before it: all, or nothing where one has a contract already
abbrev pub taken : Option FunctionContract → Bool → Option FunctionContract
taken c again = cond again None c

abbrev pub left_over : Option FunctionContract → Bool → Option FunctionContract
left_over c again = cond again c None

abbrev pub contract_taken : FileParts → ℕ → Option FunctionContract
contract_taken x f = taken x.awaiting (has_contract f x.functions)

-- the annotations before the body of a function of this name
abbrev pub after_contract : FileParts → ℕ → AnnotationState
after_contract x f = without x.annotations (left_over x.awaiting (has_contract f x.functions))

-- a contract that nothing took is misplaced
abbrev pub awaiting_nothing : FileParts → FileParts
awaiting_nothing x = record x { annotations = without x.annotations x.awaiting; awaiting = None }

-- a type that a `typedef` declares, and its name, which is that of a type from here on (C99 6.7.7)
abbrev pub with_typedef : PlainType → FileParts → Declarator → FileParts
with_typedef t x d = record x {
  words = slice_set x.words d.name (declared_word (word_at x.words d.name));
  typedefs = x.typedefs ++ declared_by t d None ∷ [];
}

-- a declaration without declarators, which stands among the names of types and names nothing
abbrev pub with_nameless : PlainType → FileParts → Place → FileParts
with_nameless t x at = record x { typedefs = x.typedefs ++ nameless t at ∷ [] }

-- the string literals among tokens (C99 6.4.5)
abbrev pub texts_of : List PlainToken → List StringLiteral
texts_of [] = []
texts_of (t ∷ ts) = elim t.kind [
  | token.Chars bytes ↦ record { place = t.place; bytes = bytes } ∷ texts_of ts
  | token.Word n ↦ texts_of ts
  | token.Number z k ↦ texts_of ts
  | token.Letter z ↦ texts_of ts
  | token.Mark m ↦ texts_of ts
  | token.AnnotOpen ↦ texts_of ts
  | token.AnnotClose ↦ texts_of ts
  | token.Head k n ↦ texts_of ts
]

abbrev pub unit_with : List (List ℕ) → List StringLiteral → FileParts → TranslationUnit
unit_with names texts x = record {
  names = names;
  texts = texts;
  structs = x.definitions.structs;
  enums = x.definitions.enums;
  typedefs = x.typedefs;
  globals = x.globals;
  funcs = x.functions;
  strays = [];
}

module _ (ws : Vocabulary) where
  -- ---- statements; T stands for a statement in a block, B for what stands behind an annotation there, and S for a statement inside another

  -- "(" comma ")"
  unfoldable pub condition : Syntax PlainToken Expression
  condition = mark ws left_paren then λ _. full_expression ws then λ e. closed ws e

  unfoldable pub else_branch : Numbered → Place → Expression → Statement × AnnotationState → Syntax PlainToken (Statement × AnnotationState)
  else_branch S at e x = reserved ws keyword.Else then λ _. S x.1 then λ y. gives (statement.If at e x.0 (statement.Else y.0), y.1)

  -- [ "else" stmt ], which goes with the nearest `if`
  unfoldable pub else_part : Numbered → Place → Expression → Statement × AnnotationState → Syntax PlainToken (Statement × AnnotationState)
  else_part S at e x =
      cond (is_open x.0) (gives (statement.If at e x.0 NoElse, x.1))
      (choice (kind ws) (keyword_kind keyword.Else ∷ []) (else_branch S at e x) (gives (statement.If at e x.0 NoElse, x.1)))

  unfoldable pub selection : Numbered → Numbered
  selection S n = reserved ws keyword.If then λ at. condition then λ e. S n then λ x. else_part S at e x

  unfoldable pub while_loop : Numbered → Looping
  while_loop S annots n = reserved ws keyword.While then λ at. condition then λ e. S n then λ x. gives (statement.While at annots e x.0, x.1)

  unfoldable pub do_loop : Numbered → Numbered
  do_loop S n =
      reserved ws keyword.Do then λ at. S n then λ x. reserved ws keyword.While then λ _. condition then λ e.
      ended ws (statement.Do at x.0 e, x.1)

  -- decl | [ comma ] ";"
  unfoldable pub for_first : AnnotationState → Syntax PlainToken (ForFirst × AnnotationState)
  for_first n =
      choice (kind ws) first_type (declaration ws then λ i. gives (First i, n))
      (choice (kind ws) first_expression (full_placed_expression ws then λ e. ended ws (First (statement.Run (statement.Eval e.1 e.0)), n))
      (ended ws (NoFirst, n)))

  -- [ comma ] ";"
  unfoldable pub maybe_ended : Syntax PlainToken (Option Expression)
  maybe_ended = choice (kind ws) first_expression (full_expression ws then λ e. ended ws (Some e)) (ended ws None)

  -- [ comma ] ")"
  unfoldable pub for_behind : Syntax PlainToken (Option Expression)
  for_behind = choice (kind ws) first_expression (full_expression ws then λ e. closed ws (Some e)) (closed ws None)

  unfoldable pub for_loop : Numbered → Looping
  for_loop S annots n =
      reserved ws keyword.For then λ at. mark ws left_paren then λ _. for_first n then λ first. maybe_ended then λ e. for_behind then λ behind.
      S first.1 then λ x. gives (statement.For at annots first.0 e behind x.0, x.1)

  -- a loop to which annotations belong
  unfoldable pub loop_of : Numbered → Looping
  loop_of S annots n = choice (kind ws) (keyword_kind keyword.While ∷ []) (while_loop S annots n) (for_loop S annots n)

  unfoldable pub jump : Numbered
  jump n =
      choice (kind ws) (keyword_kind keyword.Break ∷ []) (reserved ws keyword.Break then λ at. ended ws (statement.Break at, n))
      (reserved ws keyword.Continue then λ at. ended ws (statement.Continue at, n))

  -- [ comma ] ";"
  unfoldable pub returned : Syntax PlainToken (Option Expression)
  returned = choice (kind ws) first_expression (full_expression ws then λ e. ended ws (Some e)) (ended ws None)

  unfoldable pub return_statement : Numbered
  return_statement n = reserved ws keyword.Return then λ at. returned then λ e. gives (statement.Return at e, n)

  -- a statement as an item
  unfoldable pub run_item : Numbered → AnnotationState → Syntax PlainToken (BlockItem × AnnotationState)
  run_item T n = T n then λ x. gives (statement.Run x.0, x.1)

  -- what stands behind an annotation in a block: nothing behind asserts, which are an item, and else the rest of a statement
  unfoldable pub behind_annotation : Annotated → AnnotationState → ReadAnnotation × ℕ → Syntax PlainToken (BlockItem × AnnotationState)
  behind_annotation B n x = elim x.0 [
    | Assertions asserts ↦ gives (statement.Asserts asserts, after_placed n x.1)
    | Contracted c ↦ run_item (B x) n
    | Looped l ↦ run_item (B x) n
  ]

  unfoldable pub annotated_item : Annotated → AnnotationState → Syntax PlainToken (BlockItem × AnnotationState)
  annotated_item B n = annotations ws n.number then λ x. behind_annotation B n x

  unfoldable pub item : Numbered → Annotated → AnnotationState → Syntax PlainToken (BlockItem × AnnotationState)
  item T B n =
      choice (kind ws) (annot_open_kind ∷ []) (annotated_item B n)
      (choice (kind ws) first_type (declaration ws then λ i. gives (i, n)) (run_item T n))

  unfoldable pub items_once : Numbered → Annotated → List BlockItem × AnnotationState → Syntax PlainToken (List BlockItem × AnnotationState)
  items_once T B x = item T B x.1 then λ i. gives (x.0 ++ i.0 ∷ [], i.1)

  -- { item }, after the items x
  unfoldable pub items : Numbered → Annotated → List BlockItem × AnnotationState → Syntax PlainToken (List BlockItem × AnnotationState)
  items T B x = many (kind ws) (λ _. first_item) (items_once T B) x

  unfoldable pub block : Numbered → Annotated → Numbered
  block T B n = mark ws left_brace then λ at. items T B ([], n) then λ x. mark ws right_brace then λ _. gives (statement.Block at (block_items x.0), x.1)

  unfoldable pub empty_statement : Numbered
  empty_statement n = mark ws semicolon then λ at. gives (statement.Empty at, n)

  -- ---- `switch` (C99 6.8.4.2)

  -- "case" cond ":"
  unfoldable pub valued_case : Syntax PlainToken (Place × Option Expression)
  valued_case = reserved ws keyword.Case then λ at. full_expression_at ws Conditional then λ e. mark ws colon then λ _. gives (at, Some e)

  -- "default" ":"
  unfoldable pub default_case : Syntax PlainToken (Place × Option Expression)
  default_case = reserved ws keyword.Default then λ at. mark ws colon then λ _. gives (at, None)

  unfoldable pub case_label : Syntax PlainToken (Place × Option Expression)
  case_label = choice (kind ws) (keyword_kind keyword.Case ∷ []) valued_case default_case

  -- asserts | annotation inside | stmt
  unfoldable pub case_item : Numbered → Annotated → AnnotationState → Syntax PlainToken (BlockItem × AnnotationState)
  case_item T B n = choice (kind ws) (annot_open_kind ∷ []) (annotated_item B n) (run_item T n)

  unfoldable pub case_items_once : Numbered → Annotated → List BlockItem × AnnotationState → Syntax PlainToken (List BlockItem × AnnotationState)
  case_items_once T B x = case_item T B x.1 then λ i. gives (x.0 ++ i.0 ∷ [], i.1)

  -- { asserts | annotation inside | stmt }, after the items x
  unfoldable pub case_items : Numbered → Annotated → List BlockItem × AnnotationState → Syntax PlainToken (List BlockItem × AnnotationState)
  case_items T B x = many (kind ws) (λ _. first_branch) (case_items_once T B) x

  -- case, after others
  unfoldable pub next_case : Numbered → Annotated → List ReadCase × AnnotationState → Syntax PlainToken (List ReadCase × AnnotationState)
  next_case T B x = case_label then λ l. case_items T B ([], x.1) then λ y. gives (x.0 ++ record { place = l.0; value = l.1; items = y.0 } ∷ [], y.1)

  -- { case }, after the cases x
  unfoldable pub cases : Numbered → Annotated → List ReadCase × AnnotationState → Syntax PlainToken (List ReadCase × AnnotationState)
  cases T B x = many (kind ws) (λ _. first_case) (next_case T B) x

  unfoldable pub switch_statement : Numbered → Annotated → Numbered
  switch_statement T B n =
      reserved ws keyword.Switch then λ at. condition then λ e. mark ws left_brace then λ _. cases T B ([], n) then λ x.
      mark ws right_brace then λ _. gives (statement.Switch at e (cases_of x.0), x.1)

  -- comma ";", where it begins with no name
  unfoldable pub effect_statement : Numbered
  effect_statement n = full_nameless_expression ws then λ e. ended ws (statement.Eval e.1 e.0, n)

  -- ":" branch, after a name, which is a label (C99 6.8.1)
  unfoldable pub labelled_statement : Numbered → ℕ × Place → Numbered
  labelled_statement S x n = mark ws colon then λ _. S n then λ y. gives (statement.Labelled x.1 x.0 y.0, y.1)

  -- the rest of comma ";", after a name that it begins with
  unfoldable pub effect_behind : ℕ × Place → Numbered
  effect_behind x n = full_expression_behind ws x then λ e. ended ws (statement.Eval e.1 e.0, n)

  -- a statement that begins with a name: only behind that is it seen which one it is
  unfoldable pub named_statement : Numbered → Numbered
  named_statement S n = name ws then λ x. choice (kind ws) (mark_kind colon ∷ []) (labelled_statement S x n) (effect_behind x n)

  -- any statement but a loop to which annotations may belong
  unfoldable pub unlooped_of : Numbered → Annotated → Numbered → Numbered
  unlooped_of T B S n =
      choice (kind ws) (mark_kind left_brace ∷ []) (block T B n)
      (choice (kind ws) (mark_kind semicolon ∷ []) (empty_statement n)
      (choice (kind ws) (keyword_kind keyword.If ∷ []) (selection S n)
      (choice (kind ws) (keyword_kind keyword.Do ∷ []) (do_loop S n)
      (choice (kind ws) (keyword_kind keyword.Switch ∷ []) (switch_statement T B n)
      (choice (kind ws) (keyword_kind keyword.Return ∷ []) (return_statement n)
      (choice (kind ws) (keyword_kind keyword.Break ∷ keyword_kind keyword.Continue ∷ []) (jump n)
      (choice (kind ws) (name_kind ∷ []) (named_statement S n) (effect_statement n))))))))

  unfoldable pub statement_of : Numbered → Annotated → Numbered → Numbered
  statement_of T B S n = choice (kind ws) first_loop (loop_of S [] n) (unlooped_of T B S n)

  -- a statement inside another, with or without annotations before it; A stands for what stands behind one
  unfoldable pub branch_of : Numbered → Annotated → Numbered
  branch_of T A n = choice (kind ws) (annot_open_kind ∷ []) (annotations ws n.number then λ x. A x n) (T n)

  -- what stands inside a statement behind an annotation: the loop W right behind its clauses, or a branch, before which the annotation is misplaced;
  -- T and U stand for a statement in it, and for one that is no loop
  unfoldable pub inside_of : Looping → Numbered → Numbered → Annotated → Annotated
  inside_of W T U A x n = elim x.0 [
    | Assertions asserts ↦ branch_of T A (after_misplaced n x)
    | Contracted c ↦ branch_of T A (after_misplaced n x)
    | Looped l ↦ choice (kind ws) first_loop (W l.clauses (after_loop n l x.1)) (branch_of U A (after_misplaced n x))
  ]

  -- no statement
  abbrev pub nothing : Numbered
  nothing n = none

  -- a statement inside another, where it is one too deep
  unfoldable pub too_deep : Numbered
  too_deep n = deep nesting_limit (kind ws) first_branch (branch_of (statement_of nothing (λ x. nothing) nothing) (λ x. nothing) n)

  unfoldable mutual
    -- a statement in which statements stand at most d deep, itself included; one deeper passes the limit
    pub statement_in : ℕ → Numbered
    statement_in zero n = deep nesting_limit (kind ws) first_statement (statement_of nothing (λ x. nothing) nothing n)
    statement_in (suc d) n = statement_of (statement_in d) (inside_in d) (branch_in d) n

    -- the same inside another
    pub branch_in : ℕ → Numbered
    branch_in zero n = too_deep n
    branch_in (suc d) n = branch_of (statement_of (statement_in d) (inside_in d) (branch_in d)) (behind_in d) n

    -- what stands behind an annotation, where statements stand at most d deep
    pub behind_in : ℕ → Annotated
    behind_in zero x n = too_deep (after_misplaced n x)
    behind_in (suc d) x n =
        inside_of (loop_of (branch_in d)) (statement_of (statement_in d) (inside_in d) (branch_in d)) (unlooped_of (statement_in d) (inside_in d) (branch_in d))
        (behind_in d) x n

    -- what stands inside a statement of that depth that begins with an annotation; it passes the limit where it is one deeper
    pub inside_in : ℕ → Annotated
    inside_in zero x n = too_deep (after_misplaced n x)
    inside_in (suc d) x n = behind_in d x n

  -- ---- functions (C99 6.9.1)

  -- ";", or a body
  unfoldable pub function_rest : PlainType → ℕ × Place → List Declaration → Option FunctionContract → AnnotationState
      → Syntax PlainToken (Function × AnnotationState)
  function_rest t f params c n =
      choice (kind ws) (mark_kind semicolon ∷ []) (mark ws semicolon then λ at. gives (function_with t f params c None at, n))
      (mark ws left_brace then λ start. items (statement_in (most_nested - 1)) (inside_in (most_nested - 1)) ([], n) then λ x.
      mark ws right_brace then λ close. gives (function_with t f params c (Some (statement.Block start (block_items x.0))) close, x.1))

  -- a function or a prototype, after its name
  unfoldable pub function : PlainType → FileParts → Declarator → Syntax PlainToken FileParts
  function t x d =
      mark ws left_paren then λ _. parameters ws then λ params.
      function_rest (pointers d.stars.count t) (d.name, d.place) params (contract_taken x d.name) (after_contract x d.name) then λ f.
      gives (record x { functions = x.functions ++ f.0 ∷ []; annotations = f.1; awaiting = None })

  -- ---- declarations at file scope (C99 6.9.2)

  -- [ "=" init ] { "," declared } ";", after the first declarator
  unfoldable pub globals : PlainType → FileParts → Declarator → Syntax PlainToken FileParts
  globals t x d = initialised ws t d then λ g. more_declared ws t (x.globals ++ g ∷ []) then λ gs. gives (record x { globals = gs })

  -- what stands after the first declarator
  unfoldable pub behind_declarator : PlainType → FileParts → Declarator → Syntax PlainToken FileParts
  behind_declarator t x d =
      cond (names_function d) (choice (kind ws) (mark_kind left_paren ∷ []) (function t x d) (globals t x d)) (globals t x d)

  -- what stands after the words for a type
  unfoldable pub declared_at_file : PlainType → FileParts → Syntax PlainToken FileParts
  declared_at_file t x =
      choice (kind ws) (mark_kind semicolon ∷ []) (mark ws semicolon then λ at. gives (with_nameless t x at))
      (full_dtor ws ordinary.Ordinary then λ d. behind_declarator t x d)

-- ---- what a typedef declares (C99 6.7.7), each name being that of a type from the end of its declarator on

unfoldable pub next_typedef : PlainType → FileParts → Syntax PlainToken FileParts
next_typedef t x = mark x.words comma then λ _. full_dtor x.words ordinary.Ordinary then λ d. gives (with_typedef t x d)

-- { "," dtor } ";"; a comma is one whatever the words are
unfoldable pub more_typedefs : PlainType → FileParts → Syntax PlainToken FileParts
more_typedefs t x = many (kind []) (λ _. mark_kind comma ∷ []) (next_typedef t) x then λ y. ended y.words y

-- dtor { "," dtor } ";"
unfoldable pub typedefs : PlainType → FileParts → Syntax PlainToken FileParts
typedefs t x = full_dtor x.words ordinary.Ordinary then λ d. more_typedefs t (with_typedef t x d)

-- ---- texts (C99 6.9)

-- what stands after a spec
abbrev pub behind_spec : Storage → PlainType → FileParts → Syntax PlainToken FileParts
behind_spec storage.Typedef t x = typedefs t x
behind_spec storage.Static t x = declared_at_file x.words t x
behind_spec storage.Nothing t x = declared_at_file x.words t x

-- an annotation before a declaration; a contract before it is not directly before the declaration
unfoldable pub next_stray : Vocabulary → AnnotationState × Option FunctionContract → Syntax PlainToken (AnnotationState × Option FunctionContract)
next_stray ws x = annotations ws x.0.number then λ y. gives (elim y.0 [
  | Assertions asserts ↦ (after_misplaced (without x.0 x.1) y, None)
  | Contracted c ↦ (after_placed (without x.0 x.1) y.1, Some c)
  | Looped l ↦ (after_misplaced (without x.0 x.1) y, None)
])

-- { annotation }, with the contract that is the last of them
unfoldable pub strays : Vocabulary → AnnotationState → Syntax PlainToken (AnnotationState × Option FunctionContract)
strays ws s = many (kind ws) (λ _. annot_open_kind ∷ []) (next_stray ws) (s, None)

unfoldable pub declared_external : FileParts → Syntax PlainToken FileParts
declared_external x = file_spec x.words x.definitions then λ s. behind_spec s.storage s.ctype (record x { definitions = s.definitions })

-- { annotation } external
unfoldable pub external : FileParts → Syntax PlainToken FileParts
external x =
    strays x.words x.annotations then λ s. declared_external (record x { annotations = s.0; awaiting = s.1 }) then λ y. gives (awaiting_nothing y)

-- a kind that all tokens have, which serves `parse` alone
abbrev pub any_kind : PlainToken → ℕ
any_kind t = 0

-- what a text declares, after these parts, as far as there are tokens
unfoldable pub more_external : FileParts → Syntax PlainToken FileParts
more_external x = many any_kind (λ _. 0 ∷ []) external x

-- a text, given what its words are, its names and its string literals; with the place of the first misplaced annotation
unfoldable pub unit : Vocabulary → List (List ℕ) → List StringLiteral → Syntax PlainToken (TranslationUnit × Option Place)
unit ws names texts = more_external (no_parts ws) then λ x. gives (unit_with names texts x, x.annotations.misplaced)
