-- The labels of a statement are those of the statement without the ranges of its annotations.
use Rattle.std.proofs.Common.{◌≡◌, ◌∷◌, ◌++◌, [], Option, Some, None, option_map, refl, ap}
use Rattle.c_syntax.specs.Statements.{Statement, Empty, Eval, Block, If, While, Do, For, Break, Continue, Return, Labelled, Switch, Cases, NoCase, AnotherCase}
use Rattle.c_syntax.specs.Statements.{ElsePart, NoElse, Else, BlockItem, Declare, Specify, Run, Asserts, BlockItems, NoItem, Then}
use Rattle.c_model.specs.StatementTyping.{labels_within, labels_in_cases, labels_in_else, labels_in_item, labels_in_items, distinct_labels, typed_labels}
use Rattle.c_model.specs.UnrangedPrograms.{unranged_statement, unranged_cases, unranged_else, unranged_item, unranged_items}

mutual
  statement_labels : (a : Statement) → labels_within (unranged_statement a) ≡ labels_within a
  statement_labels (Empty at) = refl
  statement_labels (Eval at e) = refl
  statement_labels (Block at items) = items_labels items
  statement_labels (If at e a b) = λ i. statement_labels a i ++ else_labels b i
  statement_labels (While at annots e a) = statement_labels a
  statement_labels (Do at a e) = statement_labels a
  statement_labels (For at annots first e step a) = statement_labels a
  statement_labels (Break at) = refl
  statement_labels (Continue at) = refl
  statement_labels (Return at e) = refl
  statement_labels (Labelled at l a) = ap (λ ls. (at, l) ∷ ls) (statement_labels a)
  statement_labels (Switch at e cases) = cases_labels cases

  cases_labels : (cases : Cases) → labels_in_cases (unranged_cases cases) ≡ labels_in_cases cases
  cases_labels NoCase = refl
  cases_labels (AnotherCase at v items rest) = λ i. items_labels items i ++ cases_labels rest i

  else_labels : (b : ElsePart) → labels_in_else (unranged_else b) ≡ labels_in_else b
  else_labels NoElse = refl
  else_labels (Else a) = statement_labels a

  item_labels : (x : BlockItem) → labels_in_item (unranged_item x) ≡ labels_in_item x
  item_labels (Declare ds) = refl
  item_labels (Specify at t) = refl
  item_labels (Run a) = statement_labels a
  item_labels (Asserts annots) = refl

  items_labels : (xs : BlockItems) → labels_in_items (unranged_items xs) ≡ labels_in_items xs
  items_labels NoItem = refl
  items_labels (Then x rest) = λ i. item_labels x i ++ items_labels rest i

pub body_labels : (b : Option Statement) → typed_labels (option_map unranged_statement b) ≡ typed_labels b
body_labels None = refl
body_labels (Some a) = ap (distinct_labels []) (statement_labels a)
