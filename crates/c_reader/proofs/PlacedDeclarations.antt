-- Where the numbers of all declarations of a tree are below 4294967295, each is an offset.
use Rattle.std.proofs.Common.{◌≡◌, ℕ, suc, ◌<◌, Bool, true, false, nat_eq, List, [], ◌∷◌, ◌++◌, map, Option, Some, None, refl, arith}
use Rattle.std.specs.List.{AllByRecursion}
use Rattle.std.proofs.lemmas.Bool.{eqb-true}
use Rattle.c_syntax.specs.Statements.{Declaration, Statement, Empty, Eval, Block, If, While, Do, For, Break, Continue, Return, ElsePart, NoElse, Else}
use Rattle.c_syntax.specs.Statements.{Labelled, Switch, Cases, NoCase, AnotherCase, ForFirst, NoFirst, First, BlockItem, Declare, Specify, Run, Asserts, BlockItems, NoItem, Then}
use Rattle.c_syntax.specs.Programs.{Function}
use Rattle.c_model.specs.Formed.{number_of, numbers_of, declared_within, declared_in_cases, declared_in_else, declared_in_first, declared_in_item, declared_in_items, declared_in_body}
use Rattle.c_model.specs.PlacedTrees.{IsOffset, AreAtOffsets, StatementAtOffsets, CasesAtOffsets, ElseAtOffsets, FirstAtOffsets, ItemAtOffsets, ItemsAtOffsets, BodyAtOffsets, ParametersAtOffsets, FunctionAtOffsets}
use Rattle.c_model.specs.ReadTree.{Between}
use Rattle.c_reader.proofs.ItemOrder.{between_on}
use Rattle.c_reader.proofs.ParameterForms.{HasNoInitialiser}

pub is_offset : (n : ℕ) → n < 4294967295 → IsOffset n
is_offset n lt = by (nat_eq n 4294967295) refl
  where
    by : (b : Bool) → nat_eq n 4294967295 ≡ b → nat_eq n 4294967295 ≡ false
    by true e = let same = eqb-true n 4294967295 e in absurd (omega (arith, lt, same))
    by false e = e

abbrev AreBelow : List Declaration → Type 0
AreBelow ds = AllByRecursion (λ (d : Declaration). number_of d < 4294967295) ds

below_front : (ds es : List Declaration) → AreBelow (ds ++ es) → AreBelow ds
below_front [] es h = tt
below_front (d ∷ ds) es h = (h.0, below_front ds es h.1)

below_back : (ds es : List Declaration) → AreBelow (ds ++ es) → AreBelow es
below_back [] es h = h
below_back (d ∷ ds) es h = below_back ds es h.1

pub between_below : (l : ℕ) (ds : List Declaration) → Between l (map number_of ds) 4294967295 → AreBelow ds
between_below l [] h = tt
between_below l (d ∷ ds) h =
    let le = between_on (suc (number_of d)) 4294967295 (map number_of ds) h.1 in
    (omega (arith, le), between_below (suc (number_of d)) ds h.1)

placed : (ds : List Declaration) → AreBelow ds → AreAtOffsets ds
placed [] h = tt
placed (d ∷ ds) h = (is_offset (number_of d) h.0, placed ds h.1)

mutual
  statement_placed : (a : Statement) → AreBelow (declared_within a) → StatementAtOffsets a
  statement_placed (Empty at) h = tt
  statement_placed (Eval at e) h = tt
  statement_placed (Block at items) h = items_placed items h
  statement_placed (If at e a b) h = (statement_placed a (below_front (declared_within a) (declared_in_else b) h), else_placed b (below_back (declared_within a) (declared_in_else b) h))
  statement_placed (While at annots e a) h = statement_placed a h
  statement_placed (Do at a e) h = statement_placed a h
  statement_placed (For at annots first e step a) h =
      (first_placed first (below_front (declared_in_first first) (declared_within a) h), statement_placed a (below_back (declared_in_first first) (declared_within a) h))
  statement_placed (Break at) h = tt
  statement_placed (Continue at) h = tt
  statement_placed (Return at e) h = tt
  statement_placed (Labelled at l a) h = statement_placed a h
  statement_placed (Switch at e cases) h = cases_placed cases h

  cases_placed : (cases : Cases) → AreBelow (declared_in_cases cases) → CasesAtOffsets cases
  cases_placed NoCase h = tt
  cases_placed (AnotherCase at v items rest) h =
      (items_placed items (below_front (declared_in_items items) (declared_in_cases rest) h), cases_placed rest (below_back (declared_in_items items) (declared_in_cases rest) h))

  else_placed : (b : ElsePart) → AreBelow (declared_in_else b) → ElseAtOffsets b
  else_placed NoElse h = tt
  else_placed (Else a) h = statement_placed a h

  first_placed : (first : ForFirst) → AreBelow (declared_in_first first) → FirstAtOffsets first
  first_placed NoFirst h = tt
  first_placed (First i) h = item_placed i h

  item_placed : (i : BlockItem) → AreBelow (declared_in_item i) → ItemAtOffsets i
  item_placed (Declare ds) h = placed ds h
  item_placed (Specify at t) h = tt
  item_placed (Run a) h = statement_placed a h
  item_placed (Asserts annots) h = tt

  items_placed : (is : BlockItems) → AreBelow (declared_in_items is) → ItemsAtOffsets is
  items_placed NoItem h = tt
  items_placed (Then i is) h =
      (item_placed i (below_front (declared_in_item i) (declared_in_items is) h), items_placed is (below_back (declared_in_item i) (declared_in_items is) h))

body_placed : (b : Option Statement) → AreBelow (declared_in_body b) → BodyAtOffsets b
body_placed None h = tt
body_placed (Some a) h = statement_placed a h

parameters_placed : (ds : List Declaration) → AreBelow ds → AllByRecursion HasNoInitialiser ds → ParametersAtOffsets ds
parameters_placed [] h bare = tt
parameters_placed (d ∷ ds) h bare = (is_offset (number_of d) h.0, bare.0, parameters_placed ds h.1 bare.1)

pub function_placed : (f : Function) → Between f.place.offset (numbers_of f) 4294967295 → AllByRecursion HasNoInitialiser f.params → FunctionAtOffsets f
function_placed f h bare =
    let below = between_below (suc f.place.offset) (f.params ++ declared_in_body f.body) h.1 in
    record {
      params = parameters_placed f.params (below_front f.params (declared_in_body f.body) below) bare;
      body = body_placed f.body (below_back f.params (declared_in_body f.body) below);
    }
