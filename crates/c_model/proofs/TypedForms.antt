-- The typing of C leaves annotations as they are: a typed file has those of the file that was read.
use Rattle.std.proofs.Common.{◌≡◌, ℕ, ◌+◌, List, [], ◌∷◌, Option, Some, None, refl, ap, ◌∙◌}
use Rattle.c_syntax.specs.Statements.{Statement, Empty, Eval, Block, If, While, Do, For, Break, Continue, Return, Labelled, Switch, Cases, NoCase, AnotherCase}
use Rattle.c_syntax.specs.Statements.{ElsePart, NoElse, Else, ForFirst, NoFirst, First, BlockItem, Declare, Specify, Run, Asserts, BlockItems, NoItem, Then}
use Rattle.c_syntax.specs.Programs.{Function, TranslationUnit}
use Rattle.c_model.specs.PlacedForms.{annotations_at, contract_at, statement_at, cases_at, else_at, first_at, item_at, items_at, body_at, functions_at}
use Rattle.c_model.specs.TypedReadings.{StatementTypedAs, CasesTypedAs, ElseTypedAs, FirstTypedAs, ItemTypedAs, ItemsTypedAs, BodyTypedAs, FunctionTypedAs}
use Rattle.c_model.specs.TypedFileItems.{FunctionsTypedAs, FileTypedAs}

module _ (o : ℕ) where
  mutual
    statement_same : (a b : Statement) → StatementTypedAs a b → statement_at o b ≡ statement_at o a
    statement_same (Empty at) b h = ap (statement_at o) h
    statement_same (Eval at e) b h = ap (statement_at o) h.1
    statement_same (Block at items) b h = ap (statement_at o) h.1 ∙ items_same items h.0 h.2
    statement_same (If at e a c) b h = ap (statement_at o) h.3 ∙ (λ i. statement_same a h.1 h.5 i + else_same c h.2 h.6 i)
    statement_same (While at annots e a) b h = ap (statement_at o) h.2 ∙ ap (λ n. annotations_at o annots + n) (statement_same a h.1 h.4)
    statement_same (Do at a e) b h = ap (statement_at o) h.2 ∙ statement_same a h.0 h.3
    statement_same (For at annots first e step a) b h = ap (statement_at o) h.4 ∙ (λ i. annotations_at o annots + (first_same first h.0 h.5 i + statement_same a h.3 h.8 i))
    statement_same (Break at) b h = ap (statement_at o) h
    statement_same (Continue at) b h = ap (statement_at o) h
    statement_same (Return at e) b h = ap (statement_at o) h.1
    statement_same (Labelled at l a) b h = ap (statement_at o) h.1 ∙ statement_same a h.0 h.2
    statement_same (Switch at e cases) b h = ap (statement_at o) h.2 ∙ cases_same cases h.1 h.4

    cases_same : (cases ds : Cases) → CasesTypedAs cases ds → cases_at o ds ≡ cases_at o cases
    cases_same NoCase ds h = ap (cases_at o) h
    cases_same (AnotherCase at v items rest) ds h = ap (cases_at o) h.3 ∙ (λ i. items_same items h.1 h.5 i + cases_same rest h.2 h.6 i)

    else_same : (a b : ElsePart) → ElseTypedAs a b → else_at o b ≡ else_at o a
    else_same NoElse b h = ap (else_at o) h
    else_same (Else a) b h = ap (else_at o) h.1 ∙ statement_same a h.0 h.2

    first_same : (a b : ForFirst) → FirstTypedAs a b → first_at o b ≡ first_at o a
    first_same NoFirst b h = ap (first_at o) h
    first_same (First i) b h = ap (first_at o) h.1 ∙ item_same i h.0 h.2

    item_same : (i j : BlockItem) → ItemTypedAs i j → item_at o j ≡ item_at o i
    item_same (Declare ds) j h = ap (item_at o) h.1
    item_same (Specify at t) j h = ap (item_at o) h.1
    item_same (Run a) j h = ap (item_at o) h.1 ∙ statement_same a h.0 h.2
    item_same (Asserts annots) j h = ap (item_at o) h

    items_same : (is js : BlockItems) → ItemsTypedAs is js → items_at o js ≡ items_at o is
    items_same NoItem js h = ap (items_at o) h
    items_same (Then i rest) js h = ap (items_at o) h.2 ∙ (λ k. item_same i h.0 h.3 k + items_same rest h.1 h.4 k)

  body_same : (a b : Option Statement) → BodyTypedAs a b → body_at o b ≡ body_at o a
  body_same None b h = ap (body_at o) h
  body_same (Some (Block at items)) b h = ap (body_at o) h.1 ∙ items_same items h.0 h.2
  body_same (Some (Empty at)) b h = ap (body_at o) h
  body_same (Some (Eval at e)) b h = ap (body_at o) h
  body_same (Some (If at e a c)) b h = ap (body_at o) h
  body_same (Some (While at annots e a)) b h = ap (body_at o) h
  body_same (Some (Do at a e)) b h = ap (body_at o) h
  body_same (Some (For at annots first e step a)) b h = ap (body_at o) h
  body_same (Some (Break at)) b h = ap (body_at o) h
  body_same (Some (Continue at)) b h = ap (body_at o) h
  body_same (Some (Return at e)) b h = ap (body_at o) h
  body_same (Some (Labelled at l a)) b h = ap (body_at o) h
  body_same (Some (Switch at e cases)) b h = ap (body_at o) h

  functions_same : (fs gs : List Function) → FunctionsTypedAs fs gs → functions_at o gs ≡ functions_at o fs
  functions_same [] gs h = ap (functions_at o) h
  functions_same (f ∷ fs) gs h = ap (functions_at o) h.2 ∙ (λ i. (ap (contract_at o) h.3.contract i + body_same f.body h.0.body h.3.body i) + functions_same fs h.1 h.4 i)

pub typed_annotations_same : (p q : TranslationUnit) → FileTypedAs p q → (o : ℕ) → functions_at o q.funcs ≡ functions_at o p.funcs
typed_annotations_same p q h o = functions_same o p.funcs q.funcs h.functions
