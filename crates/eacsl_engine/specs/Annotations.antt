-- Ours; where annotations stand is ACSL 2.2 to 2.4.
-- How many annotations a program has: each clause counts, wherever it stands.
use Rattle.std.specs.Prelude.{ℕ, ◌+◌, length, Option, Some, None}
use Rattle.std.specs.List.{sum_by}
use Rattle.c_syntax.specs.declared.statement.Item.{Item}
use Rattle.c_syntax.specs.Statements.{plain_item, Statement, Cases, ElsePart, ForFirst, BlockItem, BlockItems, Empty}
use Rattle.c_syntax.specs.Statements.{Eval, Block, If, While, Do, For, Break, Continue, Return, Labelled, Switch, NoCase, AnotherCase, NoElse}
use Rattle.c_syntax.specs.Statements.{Else, NoFirst, First, Declare, Specify, Run, Asserts, NoItem, Then}
use Rattle.c_syntax.specs.Programs.{NamedBehavior, FunctionContract, Function, TranslationUnit}

-- asserts, and the clauses of loop annotations
abbrev mutual
  pub in_statement : Statement → ℕ
  in_statement (Empty at) = 0
  in_statement (Eval at e) = 0
  in_statement (Block at items) = in_items items
  in_statement (If at e a b) = in_statement a + in_else b
  in_statement (While at annots e a) = length annots + in_statement a
  in_statement (Do at a e) = in_statement a
  in_statement (For at annots first e step a) = length annots + (in_first first + in_statement a)
  in_statement (Break at) = 0
  in_statement (Continue at) = 0
  in_statement (Return at e) = 0
  in_statement (Labelled at label a) = in_statement a
  in_statement (Switch at e cases) = in_cases cases

  pub in_cases : Cases → ℕ
  in_cases NoCase = 0
  in_cases (AnotherCase at value items more) = in_items items + in_cases more

  pub in_else : ElsePart → ℕ
  in_else NoElse = 0
  in_else (Else a) = in_statement a

  pub in_first : ForFirst → ℕ
  in_first NoFirst = 0
  in_first (First item) = in_item item

  pub in_item : BlockItem → ℕ
  in_item (Declare decls) = 0
  in_item (Specify at t) = 0
  in_item (Run a) = in_statement a
  in_item (Asserts annots) = length annots

  pub in_items : BlockItems → ℕ
  in_items NoItem = 0
  in_items (Then item more) = in_item item + in_items more

-- the plain form of the first part of a `for`, which may be left out
abbrev pub plain_first_part : Option Item → ForFirst
plain_first_part None = NoFirst
plain_first_part (Some item) = First (plain_item item)

-- a prototype has no body
abbrev pub in_body : Option Statement → ℕ
in_body None = 0
in_body (Some s) = in_statement s

-- `complete behaviors` and `disjoint behaviors` are clauses too
abbrev pub in_behavior : NamedBehavior → ℕ
in_behavior b = length b.clauses

abbrev pub in_contract : FunctionContract → ℕ
in_contract c = length c.clauses + (sum_by in_behavior c.behaviors + length c.covers)

abbrev pub in_contract_part : Option FunctionContract → ℕ
in_contract_part None = 0
in_contract_part (Some c) = in_contract c

abbrev pub in_function : Function → ℕ
in_function f = in_contract_part f.contract + in_body f.body

-- those of its functions, and those that stand where none may
abbrev pub annotations_of : TranslationUnit → ℕ
annotations_of p = sum_by in_function p.funcs + length p.strays
