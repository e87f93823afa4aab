-- Ours: the inference of ranges over the annotations of statements, functions and files. No standard bounds the integers of annotations.
use Rattle.std.specs.Prelude.{List, [], ◌∷◌, Option, Some, None}
use Rattle.c_syntax.specs.Statements.{Statement, Empty, Eval, Block, If, While, Do, For, Break, Continue, Return, Labelled, ElsePart, NoElse, Else, Switch}
use Rattle.c_syntax.specs.Statements.{Cases, NoCase, AnotherCase}
use Rattle.c_syntax.specs.Statements.{BlockItem, Declare, Specify, Run, Asserts, BlockItems, NoItem, Then}
use Rattle.c_syntax.specs.Ctypes.{PlainType}
use Rattle.c_syntax.specs.Programs.{NamedBehavior, FunctionContract, Function, TranslationUnit}
use Rattle.c_model.specs.Checked.{Checked, Good, one_part, both_parts}
use Rattle.c_model.specs.ContractChecks.{result_number}
use Rattle.c_model.specs.TermRanges.{Seen, place_range, ranged_annotations}

abbrev mutual
  pub ranged_statement : Statement → Checked Statement
  ranged_statement (Empty at) = Good (Empty at)
  ranged_statement (Eval at e) = Good (Eval at e)
  ranged_statement (Block at items) = one_part (ranged_items items) (λ items. Good (Block at items))
  ranged_statement (If at e a b) = one_part (ranged_statement a) (λ a. one_part (ranged_else b) (λ b. Good (If at e a b)))
  ranged_statement (While at annots e a) =
      one_part (ranged_annotations [] annots) (λ annots. one_part (ranged_statement a) (λ a. Good (While at annots e a)))
  ranged_statement (Do at a e) = one_part (ranged_statement a) (λ a. Good (Do at a e))
  ranged_statement (For at annots first e step a) =
      one_part (ranged_annotations [] annots) (λ annots. one_part (ranged_statement a) (λ a. Good (For at annots first e step a)))
  ranged_statement (Break at) = Good (Break at)
  ranged_statement (Continue at) = Good (Continue at)
  ranged_statement (Return at e) = Good (Return at e)
  ranged_statement (Labelled at l a) = one_part (ranged_statement a) (λ a. Good (Labelled at l a))
  ranged_statement (Switch at e cases) = one_part (ranged_cases cases) (λ cases. Good (Switch at e cases))

  pub ranged_cases : Cases → Checked Cases
  ranged_cases NoCase = Good NoCase
  ranged_cases (AnotherCase at v items rest) =
      one_part (ranged_items items) (λ items. one_part (ranged_cases rest) (λ rest. Good (AnotherCase at v items rest)))

  pub ranged_else : ElsePart → Checked ElsePart
  ranged_else NoElse = Good NoElse
  ranged_else (Else a) = one_part (ranged_statement a) (λ a. Good (Else a))

  pub ranged_item : BlockItem → Checked BlockItem
  ranged_item (Declare ds) = Good (Declare ds)
  ranged_item (Specify at t) = Good (Specify at t)
  ranged_item (Run a) = one_part (ranged_statement a) (λ a. Good (Run a))
  ranged_item (Asserts annots) = one_part (ranged_annotations [] annots) (λ annots. Good (Asserts annots))

  pub ranged_items : BlockItems → Checked BlockItems
  ranged_items NoItem = Good NoItem
  ranged_items (Then i rest) = one_part (ranged_item i) (λ i. one_part (ranged_items rest) (λ rest. Good (Then i rest)))

abbrev pub ranged_body : Option Statement → Checked (Option Statement)
ranged_body None = Good None
ranged_body (Some a) = one_part (ranged_statement a) (λ a. Good (Some a))

-- ---- contracts

-- the range of `\result`, of a function with a result of this type; of none where that is void
abbrev pub seen_result : PlainType → Seen
seen_result t = elim (place_range (Some t)) [ None ↦ [] | Some r ↦ (result_number, r) ∷ [] ]

abbrev pub ranged_behaviors : Seen → List NamedBehavior → Checked (List NamedBehavior)
ranged_behaviors seen [] = Good []
ranged_behaviors seen (b ∷ bs) =
    one_part (ranged_annotations seen b.clauses) (λ clauses. one_part (ranged_behaviors seen bs) (λ bs. Good (record b { clauses = clauses } ∷ bs)))

abbrev pub ranged_contract : Seen → FunctionContract → Checked FunctionContract
ranged_contract seen c =
    one_part (ranged_annotations seen c.clauses) (λ clauses. one_part (ranged_behaviors seen c.behaviors) (λ behaviors.
    Good (record c { clauses = clauses; behaviors = behaviors })))

abbrev pub ranged_maybe : Seen → Option FunctionContract → Checked (Option FunctionContract)
ranged_maybe seen None = Good None
ranged_maybe seen (Some c) = one_part (ranged_contract seen c) (λ c. Good (Some c))

-- ---- files

abbrev pub ranged_function : Function → Checked Function
ranged_function f =
    both_parts (ranged_maybe (seen_result f.result) f.contract) (ranged_body f.body) (λ c b. Good (record f { contract = c; body = b }))

-- a contract may stand before the function that has it, also behind others
abbrev pub ranged_functions : List Function → Checked (List Function)
ranged_functions [] = Good []
ranged_functions (f ∷ fs) = both_parts (ranged_function f) (ranged_functions fs) (λ f fs. Good (f ∷ fs))

-- the annotations of a text whose names and types have no fault
abbrev pub ranged_unit : TranslationUnit → Checked TranslationUnit
ranged_unit p = one_part (ranged_functions p.funcs) (λ fs. Good (record p { funcs = fs }))
