-- Typing leaves labels as they are: a typed statement has those of the statement that was read, at their places.
use Rattle.std.proofs.Common.{◌≡◌, ℕ, List, [], ◌∷◌, ◌++◌, Option, Some, None, refl, ap, ◌∙◌}
use Rattle.c_syntax.specs.declared.place.Place.{Place}
use Rattle.c_syntax.specs.Statements.{Statement, Empty, Eval, Block, If, While, Do, For, Break, Continue, Return, Labelled, Switch, Cases, NoCase, AnotherCase}
use Rattle.c_syntax.specs.Statements.{ElsePart, NoElse, Else, BlockItem, Declare, Specify, Run, Asserts, BlockItems, NoItem, Then}
use Rattle.c_model.specs.StatementTyping.{labels_within, labels_in_cases, labels_in_else, labels_in_item, labels_in_items, distinct_labels, typed_labels}
use Rattle.c_model.specs.TypedReadings.{StatementTypedAs, CasesTypedAs, ElseTypedAs, ItemTypedAs, ItemsTypedAs, BodyTypedAs}

mutual
  statement_labels : (a b : Statement) → StatementTypedAs a b → labels_within b ≡ labels_within a
  statement_labels (Empty at) b h = ap labels_within h
  statement_labels (Eval at e) b h = ap labels_within h.1
  statement_labels (Block at items) b h = ap labels_within h.1 ∙ items_labels items h.0 h.2
  statement_labels (If at e a c) b h = ap labels_within h.3 ∙ (λ i. statement_labels a h.1 h.5 i ++ else_labels c h.2 h.6 i)
  statement_labels (While at annots e a) b h = ap labels_within h.2 ∙ statement_labels a h.1 h.4
  statement_labels (Do at a e) b h = ap labels_within h.2 ∙ statement_labels a h.0 h.3
  statement_labels (For at annots first e step a) b h = ap labels_within h.4 ∙ statement_labels a h.3 h.8
  statement_labels (Break at) b h = ap labels_within h
  statement_labels (Continue at) b h = ap labels_within h
  statement_labels (Return at e) b h = ap labels_within h.1
  statement_labels (Labelled at l a) b h = ap labels_within h.1 ∙ ap (λ ls. (at, l) ∷ ls) (statement_labels a h.0 h.2)
  statement_labels (Switch at e cases) b h = ap labels_within h.2 ∙ cases_labels cases h.1 h.4

  cases_labels : (cases ds : Cases) → CasesTypedAs cases ds → labels_in_cases ds ≡ labels_in_cases cases
  cases_labels NoCase ds h = ap labels_in_cases h
  cases_labels (AnotherCase at v items rest) ds h = ap labels_in_cases h.3 ∙ (λ i. items_labels items h.1 h.5 i ++ cases_labels rest h.2 h.6 i)

  else_labels : (a b : ElsePart) → ElseTypedAs a b → labels_in_else b ≡ labels_in_else a
  else_labels NoElse b h = ap labels_in_else h
  else_labels (Else a) b h = ap labels_in_else h.1 ∙ statement_labels a h.0 h.2

  item_labels : (i j : BlockItem) → ItemTypedAs i j → labels_in_item j ≡ labels_in_item i
  item_labels (Declare ds) j h = ap labels_in_item h.1
  item_labels (Specify at t) j h = ap labels_in_item h.1
  item_labels (Run a) j h = ap labels_in_item h.1 ∙ statement_labels a h.0 h.2
  item_labels (Asserts annots) j h = ap labels_in_item h

  items_labels : (is js : BlockItems) → ItemsTypedAs is js → labels_in_items js ≡ labels_in_items is
  items_labels NoItem js h = ap labels_in_items h
  items_labels (Then i rest) js h = ap labels_in_items h.2 ∙ (λ k. item_labels i h.0 h.3 k ++ items_labels rest h.1 h.4 k)

pub body_labels : (a b : Option Statement) → BodyTypedAs a b → typed_labels b ≡ typed_labels a
body_labels None b h = ap typed_labels h
body_labels (Some (Block at items)) b h = ap typed_labels h.1 ∙ ap (distinct_labels []) (items_labels items h.0 h.2)
body_labels (Some (Empty at)) b h = ap typed_labels h
body_labels (Some (Eval at e)) b h = ap typed_labels h
body_labels (Some (If at e a c)) b h = ap typed_labels h
body_labels (Some (While at annots e a)) b h = ap typed_labels h
body_labels (Some (Do at a e)) b h = ap typed_labels h
body_labels (Some (For at annots first e step a)) b h = ap typed_labels h
body_labels (Some (Break at)) b h = ap typed_labels h
body_labels (Some (Continue at)) b h = ap typed_labels h
body_labels (Some (Return at e)) b h = ap typed_labels h
body_labels (Some (Labelled at l a)) b h = ap typed_labels h
body_labels (Some (Switch at e cases)) b h = ap typed_labels h
