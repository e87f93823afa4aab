-- The typing of the annotations of statements, functions and files (ACSL 2.3, 2.4), after that of the text's C: each where it stands. A label of C is known
-- behind it, as far as the smallest block around it reaches: a body, a block, an `if`, a `switch` with all its cases, a loop, or a statement inside one of
-- these. A contract is typed where it stands, with the parameters of the declaration behind it, which have the numbers of those of the function's definition;
-- then it belongs to the definition, where the file has one.
use Rattle.std.specs.Prelude.{ℕ, List, [], ◌∷◌, map, Option, Some, None, ◌&&◌, cond, nat_eq, nat_lt}
use Rattle.c_syntax.specs.declared.place.Place.{Place}
use Rattle.c_syntax.specs.declared.annotation.Kind.{Kind}
use Rattle.c_syntax.specs.Statements.{Statement, Empty, Eval, Block, If, While, Do, For, Break, Continue, Return, Labelled, ElsePart, NoElse, Else, Switch}
use Rattle.c_syntax.specs.Statements.{Cases, NoCase, AnotherCase}
use Rattle.c_syntax.specs.Statements.{ForFirst, BlockItem, Declare, Specify, Run, Asserts, BlockItems, NoItem, Then}
use Rattle.c_syntax.specs.Programs.{StructType, FunctionContract, Function, TranslationUnit}
use Rattle.c_syntax.specs.Statements.{Declaration}
use Rattle.c_model.specs.Meaning.{is_definition}
use Rattle.c_model.specs.Library.{is_there}
use Rattle.c_model.specs.Checked.{Checked, Good, one_part}
use Rattle.c_model.specs.ExpressionTyping.{Sight, inner, or_else}
use Rattle.c_model.specs.AnnotationSights.{InBody, AnnotationSight}
use Rattle.c_model.specs.PredicateTyping.{typed_annotations}
use Rattle.c_model.specs.ContractTyping.{sight_of_clause, typed_contract}
use Rattle.c_model.specs.StatementTyping.{behind, behind_first}
use Rattle.c_model.specs.UnitTyping.{FileItem, AFunction, items_of_file, sight_with, definition_of, with_function, with_parameters}
use Rattle.c_model.specs.UnitTyping.{behind_item}

-- ---- what is known where a statement stands

abbrev pub inside_block : AnnotationSight → AnnotationSight
inside_block s = record s { here = inner s.here }

abbrev pub inside_for : AnnotationSight → ForFirst → AnnotationSight
inside_for s first = record s { here = behind_first (inner s.here) first }

abbrev pub with_label : AnnotationSight → ℕ → AnnotationSight
with_label s l = record s { labels = (l, s.here) ∷ s.labels }

-- behind the labels before a statement
abbrev pub behind_labels : AnnotationSight → Statement → AnnotationSight
behind_labels s (Labelled at l a) = behind_labels (with_label s l) a
behind_labels s _ = s

-- behind the labels of an item
abbrev pub labels_behind : AnnotationSight → BlockItem → AnnotationSight
labels_behind s (Run a) = behind_labels s a
labels_behind s _ = s

-- behind an item, with what it declares
abbrev pub behind_noted : AnnotationSight → BlockItem → AnnotationSight
behind_noted s i = record (labels_behind s i) { here = behind s.here i }

-- behind the items of a case: nothing is declared directly in a `switch`
abbrev pub behind_case : AnnotationSight → BlockItems → AnnotationSight
behind_case s NoItem = s
behind_case s (Then i rest) = behind_case (labels_behind s i) rest

-- ---- the annotations of typed statements, each with what is known where it stands

abbrev mutual
  pub noted_statement : AnnotationSight → Statement → Checked Statement
  noted_statement s (Empty at) = Good (Empty at)
  noted_statement s (Eval at e) = Good (Eval at e)
  noted_statement s (Block at items) = one_part (noted_items (inside_block s) items) (λ items. Good (Block at items))
  noted_statement s (If at e a b) = one_part (noted_statement s a) (λ a. one_part (noted_else s b) (λ b. Good (If at e a b)))
  noted_statement s (While at annots e a) =
      one_part (typed_annotations s annots) (λ annots. one_part (noted_statement s a) (λ a. Good (While at annots e a)))
  noted_statement s (Do at a e) = one_part (noted_statement s a) (λ a. Good (Do at a e))
  noted_statement s (For at annots first e step a) =
      one_part (typed_annotations (inside_for s first) annots) (λ annots.
      one_part (noted_statement (inside_for s first) a) (λ a. Good (For at annots first e step a)))
  noted_statement s (Break at) = Good (Break at)
  noted_statement s (Continue at) = Good (Continue at)
  noted_statement s (Return at e) = Good (Return at e)
  noted_statement s (Labelled at l a) = one_part (noted_statement (with_label s l) a) (λ a. Good (Labelled at l a))
  noted_statement s (Switch at e cases) = one_part (noted_cases s cases) (λ cases. Good (Switch at e cases))

  pub noted_cases : AnnotationSight → Cases → Checked Cases
  noted_cases s NoCase = Good NoCase
  noted_cases s (AnotherCase at v items rest) =
      one_part (noted_items s items) (λ items. one_part (noted_cases (behind_case s items) rest) (λ rest. Good (AnotherCase at v items rest)))

  pub noted_else : AnnotationSight → ElsePart → Checked ElsePart
  noted_else s NoElse = Good NoElse
  noted_else s (Else a) = one_part (noted_statement s a) (λ a. Good (Else a))

  pub noted_item : AnnotationSight → BlockItem → Checked BlockItem
  noted_item s (Declare ds) = Good (Declare ds)
  noted_item s (Specify at t) = Good (Specify at t)
  noted_item s (Run a) = one_part (noted_statement s a) (λ a. Good (Run a))
  noted_item s (Asserts annots) = one_part (typed_annotations s annots) (λ annots. Good (Asserts annots))

  pub noted_items : AnnotationSight → BlockItems → Checked BlockItems
  noted_items s NoItem = Good NoItem
  noted_items s (Then i rest) = one_part (noted_item s i) (λ i. one_part (noted_items (behind_noted s i) rest) (λ rest. Good (Then i rest)))

-- ---- functions

-- where a body begins
abbrev pub in_body : Sight → AnnotationSight
in_body s = record { here = s; labels = []; clause = InBody s; binders = [] }

-- a body is a block, whose scope is that of the parameters
abbrev pub noted_body : AnnotationSight → Option Statement → Checked (Option Statement)
noted_body s (Some (Block at items)) = one_part (noted_items s items) (λ items. Good (Some (Block at items)))
noted_body s b = Good b

-- a struct that is defined behind a place has no size there (C99 6.2.5 p22)
abbrev pub known_before : Place → StructType → StructType
known_before at struct = cond (nat_lt struct.place.offset at.offset) struct (record struct { size = 0 })

-- what is in sight of a function at this place, among the structs of the whole file
abbrev pub known_at : Place → Sight → Sight
known_at at s = record s { structs = map (known_before at) s.structs }

-- parameters with the numbers of others, one by one
abbrev pub numbered_as : List Declaration → List Declaration → List Declaration
numbered_as [] es = []
numbered_as (d ∷ ds) [] = d ∷ ds
numbered_as (d ∷ ds) (e ∷ es) = record d { place = e.place } ∷ numbered_as ds es

-- the parameters of the definition of a name, or these where there is none
abbrev pub defined_parameters : ℕ → List Function → List Declaration → List Declaration
defined_parameters x [] ds = ds
defined_parameters x (f ∷ fs) ds = cond (is_definition f && nat_eq f.name x) f.params (defined_parameters x fs ds)

abbrev pub contract_parameters : List Function → Function → List Declaration
contract_parameters all f = numbered_as f.params (defined_parameters f.name all f.params)

abbrev pub numbers_of_parameters : List Declaration → List ℕ
numbers_of_parameters ds = map (λ (d : Declaration). d.place.offset) ds

-- where the contract before a function stands, among all functions of the file
abbrev pub contract_sight : List Function → Sight → Function → Kind → AnnotationSight
contract_sight all s f =
    let params = contract_parameters all f in sight_of_clause (with_parameters (inner s) params) (numbers_of_parameters params) f.result

abbrev pub noted_contract : List Function → Sight → Function → Option FunctionContract → Checked (Option FunctionContract)
noted_contract all s f None = Good None
noted_contract all s f (Some c) = one_part (typed_contract (contract_sight all (known_at c.place s) f) c) (λ c. Good (Some c))

-- a body, where this is in sight in the function
abbrev pub noted_in : Sight → Function → Checked (Option Statement)
noted_in s f = noted_body (in_body (with_parameters (inner s) f.params)) f.body

-- a function, where this is in sight at file scope, itself included; no struct is defined inside a function
abbrev pub noted_function : List Function → Sight → Function → Checked Function
noted_function all s f =
    one_part (noted_contract all s f f.contract) (λ c. one_part (noted_in (known_at f.place s) f) (λ b. Good (record f { contract = c; body = b })))

-- ---- files

-- the functions among what the file declares, in the order of the text
abbrev pub noted_functions : TranslationUnit → Sight → List FileItem → Checked (List Function)
noted_functions p s [] = Good []
noted_functions p s (AFunction f ∷ is) =
    one_part (noted_function p.funcs (with_function p s f) f) (λ g.
    one_part (noted_functions p (behind_item p s (AFunction f)) is) (λ fs. Good (g ∷ fs)))
noted_functions p s (i ∷ is) = noted_functions p (behind_item p s i) is

-- the contract of a name, which one of its declarations has at most
abbrev pub contract_named : ℕ → List Function → Option FunctionContract
contract_named x [] = None
contract_named x (f ∷ fs) = or_else (cond (nat_eq f.name x) f.contract None) (contract_named x fs)

-- a function, with the contract of its name where it is the definition; a prototype has none where there is a definition
abbrev pub contract_moved : List Function → Function → Option FunctionContract
contract_moved all f = cond (is_there (definition_of f.name all)) (cond (is_definition f) (contract_named f.name all) None) f.contract

abbrev pub with_contract : List Function → Function → Function
with_contract all f = record f { contract = contract_moved all f }

abbrev pub with_contracts : List Function → List Function
with_contracts fs = map (with_contract fs) fs

-- the annotations of a text whose C is typed
abbrev pub noted_unit : TranslationUnit → Checked TranslationUnit
noted_unit p = one_part (noted_functions p (sight_with p p.structs) (items_of_file p)) (λ fs. Good (record p { funcs = with_contracts fs }))
