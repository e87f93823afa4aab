-- Ours: plain forms.
-- The plain form of what the translation takes: of what may be left out of a statement, and of where a statement stands; and what statements
-- become where a function's names are these.
use Rattle.std.specs.Prelude.{ℕ, ℤ, zero, suc, ◌+◌, pos, Bool, if◌then◌else◌, List, [], ◌∷◌, ◌++◌, length, map, reverse, Option, Some, None}
use Rattle.c_syntax.specs.declared.place.Place.{Place}
use Rattle.c_syntax.specs.declared.statement.Case.{Case}
use Rattle.c_syntax.specs.declared.statement.Item.{Item}
use Rattle.c_syntax.specs.declared.statement.Stmt.{Stmt}
use Rattle.c_syntax.specs.declared.expression.Expr.{Expr}
use Rattle.c_syntax.specs.Ctypes.{PlainType}
use Rattle.c_syntax.specs.Expressions.{Expression, Node, Number, plain_expr, type_of}
use Rattle.c_syntax.specs.Programs.{NamedBehavior, FunctionContract, Function, TranslationUnit, plain_func}
use Rattle.c_syntax.specs.Statements.{Declaration, Statement, ElsePart, ForFirst, NoFirst, First, BlockItem, Declare, Specify, Run, Asserts, BlockItems}
use Rattle.c_syntax.specs.declared.logic.Annot.{Annot}
use Rattle.c_syntax.specs.Logic.{Annotation, plain_annot}
use Rattle.c_syntax.specs.Statements.{Cases, NoCase, AnotherCase, NoItem, While, Do, Switch, Initialiser}
use Rattle.c_syntax.specs.Statements as source
use Rattle.c_syntax.specs.Statements.{plain_stmt, plain_item, plain_items, plain_cases}
use Rattle.c_model.specs.Formed.{number_of}
use Rattle.c_model.specs.StaticObjects.{static_objects}
use Rattle.mon_syntax.specs.declared.tree.MonType.{MonType}
use Rattle.mon_syntax.specs.declared.tree.MonType.TheVariants.{I32, Ptr}
use Rattle.mon_syntax.specs.Registers.{Bindings, Names, bound_with, next_register, with_table}
use Rattle.mon_syntax.specs.Trees.{MonStatement, MonStatements, NoStatement, Then, Labelled, Global, Constant}
use Rattle.track_scopes.specs.Blocks.{births, deaths, entered, with_born}
use Rattle.c_effects.specs.Expressions.{before, object_of_global, set, value_type}
use Rattle.c_effects.specs.Full.{takes}
use Rattle.c_initialisers.specs.Initialisers.{initialise_by}
use Rattle.c_effects.specs.Named.{unit_of, with_registers}
use Rattle.c_evaluation.specs.Evaluated.{prepare_by, result_by}
use Rattle.c_simulation.specs.Keeping.{Kept, is_pointer_term}
use Rattle.c_simulation.specs.Labels.{leave_label}
use Rattle.annot_code.specs.Checks.{entry_by, leave_by, names_behind_entry, names_behind_leave}
use Rattle.annot_simulation.specs.Code.{assertions}
use Rattle.annot_code.specs.Passages.{snapshot_by}
use Rattle.annot_pieces.specs.Plain.{Known}
use Rattle.annot_simulation.specs.Plan.{value_types as value_types_of}
use Rattle.annot_pieces.specs.Tables.{plain_plan}
use Rattle.instrument.specs.declared.contract.Frame as declared
use Rattle.instrument.specs.declared.spot.Spot as code
use Rattle.instrument.specs.Limits.{HaveNumbers}
use Rattle.instrument.specs.Translation.{Spot, after_body, after_cases, after_else, after_first, after_item, after_items, after_statement, else_part}
use Rattle.instrument.specs.Translation.{blocks_of_cases, code_of, first_part, front, front_temporaries, global_temporaries}
use Rattle.instrument.specs.Translation.{item, items, last_return, next_cases, others_in_block, outermost, parameters, passed_label}
use Rattle.instrument.specs.Translation.{result_held, result_of, returned}
use Rattle.instrument.specs.Translation.{returned_temporaries, search, statement, test, test_if_any, where_reached}

abbrev pub plain_first_part : Option Item → ForFirst
plain_first_part None = NoFirst
plain_first_part (Some i) = First (plain_item i)

-- the code has blocks in order of birth
abbrev pub plain_spot : code.Spot → Spot
plain_spot s = record {
  levels = s.levels;
  innermost = s.innermost;
  inside = reverse s.inside.now;
  between = reverse s.between.now;
  outside = reverse s.outside.now;
  result = s.result;
}

-- what its function keeps at its labels
abbrev pub plan_in : code.Spot → List Kept
plan_in s = plain_plan s.plan.now.kept.now

-- ---- the names after a part

abbrev pub entering : List Declaration → Names → Names
entering ds n = with_table (entered ds n.table) n

-- where a function keeps these terms at its labels
module _ (plan : List Kept) where
  abbrev pub after : Statement → Names → Names
  after a n = with_table (after_statement (unit_of n) plan a n.table) n

  abbrev pub behind_else : ElsePart → Names → Names
  behind_else b n = with_table (after_else (unit_of n) plan b n.table) n

  abbrev pub behind_first : ForFirst → Names → Names
  behind_first first n = with_table (after_first (unit_of n) plan first n.table) n

  abbrev pub behind_item : BlockItem → Names → Names
  behind_item i n = with_table (after_item (unit_of n) plan i n.table) n

  abbrev pub behind_items : BlockItems → Names → Names
  behind_items block n = with_table (after_items (unit_of n) plan block n.table) n

  abbrev pub behind_cases : Cases → Names → Names
  behind_cases cases n = with_table (after_cases (unit_of n) plan cases n.table) n

  abbrev pub behind_body : Option Statement → Names → Names
  behind_body a n = with_table (after_body (unit_of n) plan a n.table) n

  abbrev pub passed : Option ℕ → Names → Names
  passed l n = with_table (passed_label (unit_of n) plan l n.table) n

-- ---- what parts become

abbrev pub births_by : Names → List Declaration → MonStatements
births_by n ds = births (unit_of n).structs (next_register n.table) ds

module _ (plan : List Kept) where
  abbrev pub statement_by : Names → Spot → Statement → MonStatements
  statement_by n spot a = statement (unit_of n) plan spot n.table a

  abbrev pub else_part_by : Names → Spot → ElsePart → MonStatements
  else_part_by n spot b = else_part (unit_of n) plan spot n.table b

  abbrev pub first_part_by : Names → Spot → ForFirst → MonStatements
  first_part_by n spot first = first_part (unit_of n) plan spot n.table first

  abbrev pub item_by : Names → Spot → BlockItem → MonStatements
  item_by n spot i = item (unit_of n) plan spot n.table i

  abbrev pub items_by : Names → Spot → BlockItems → MonStatements
  items_by n spot block = items (unit_of n) plan spot n.table block

  abbrev pub asserts_by : Names → List Annotation → MonStatements
  asserts_by n annots = assertions (unit_of n) n.table.bound plan [] n.table.kinds annots

-- the number behind `case`, which typing has put there
abbrev pub number_behind : Option Expression → Option ℤ
number_behind (Some (Node at t (Number n k))) = Some n
number_behind _ = None

-- how many cases stand in a block
abbrev pub cases_in_block : ℕ
cases_in_block = suc others_in_block

abbrev pub items_of_case : Case → BlockItems
items_of_case c = plain_items c.items.items

-- the items of a case with this index, of the cases from an index on, and of blocks of cases, where the register has the index of the chosen one
module _ (plan : List Kept) where
  abbrev pub reached_by : Names → Spot → ℕ → ℕ → Case → MonStatement
  reached_by n spot j i c = where_reached j i (items_by plan n spot (items_of_case c))

  abbrev pub next_cases_by : Names → Spot → ℕ → ℕ → ℕ → Cases → MonStatements
  next_cases_by n spot j i k cases = next_cases (unit_of n) plan spot n.table j i k cases

  abbrev pub blocks_of_cases_by : Names → Spot → ℕ → ℕ → ℕ → Cases → MonStatements
  blocks_of_cases_by n spot j i k cases = blocks_of_cases (unit_of n) plan spot n.table j i k cases

-- what stands before the cases of a `switch`
abbrev pub chosen_by : Names → ℕ → Expression → Cases → MonStatements
chosen_by n levels e cases =
    before (prepare_by n e) (before (set (length (n.table.kinds ++ takes (unit_of n) e)) (result_by n e))
    (search levels (value_type (type_of e)) (length (n.table.kinds ++ takes (unit_of n) e))
    (length (n.table.kinds ++ returned_temporaries (unit_of n) e)) cases))

abbrev pub returned_by : List Kept → Names → Spot → Option Expression → MonStatements
returned_by plan n spot e = returned (unit_of n) plan spot n.table e

abbrev pub test_by : Names → ℕ → Expression → MonStatements
test_by n loops e = test (unit_of n) n.table.bound n.table.kinds loops e

abbrev pub test_if_any_by : Names → ℕ → Option Expression → MonStatements
test_if_any_by n loops e = test_if_any (unit_of n) n.table.bound n.table.kinds loops e

-- the body of a function, where it has one
abbrev pub body_by : List Kept → Names → Spot → Option Statement → MonStatements
body_by plan n spot None = NoStatement
body_by plan n spot (Some a) = statement_by plan n spot a

-- ---- statements from their parts; their own place plays no part in their translation

abbrev pub while_loop : List Annot → Stmt → Expr → Statement
while_loop annots a e = While a.place (map plain_annot annots) (plain_expr e) (plain_stmt a)

abbrev pub do_loop : Stmt → Expr → Statement
do_loop a e = Do a.place (plain_stmt a) (plain_expr e)

abbrev pub labelled_of : ℕ → Stmt → Statement
labelled_of l a = source.Labelled a.place l (plain_stmt a)

abbrev pub switch_of : Expr → List Case → Statement
switch_of e cases = Switch e.place (plain_expr e) (plain_cases cases)

-- the first of these cases, so many at most
abbrev pub first_cases : ℕ → Cases → Cases
first_cases zero cases = NoCase
first_cases (suc n) NoCase = NoCase
first_cases (suc n) (AnotherCase at v body rest) = AnotherCase at v body (first_cases n rest)

-- the items of these cases have numbers
abbrev pub ItemsHaveNumbers : Cases → Type 0
ItemsHaveNumbers NoCase = Unit {0}
ItemsHaveNumbers (AnotherCase at v body rest) = HaveNumbers body × ItemsHaveNumbers rest

-- ---- blocks

-- so many registers from one on, the youngest first
abbrev pub youngest : ℕ → ℕ → List ℕ
youngest first zero = []
youngest first (suc n) = (first + n) ∷ youngest first n

-- after the births of these blocks
abbrev pub with_blocks : List ℕ → Spot → Spot
with_blocks own spot = record spot { inside = own ++ spot.inside }

-- what stands first in a `for`, as items of a block
abbrev pub items_of_first : ForFirst → BlockItems
items_of_first NoFirst = NoItem
items_of_first (First i) = source.Then i NoItem

-- what an item declares itself
abbrev pub declared_by : BlockItem → List Declaration
declared_by (Declare ds) = ds
declared_by (Specify at t) = []
declared_by (Run a) = []
declared_by (Asserts annots) = []

-- ---- globals

-- a global with this index is initialised, if it has an initialiser
abbrev pub started : Names → ℕ → PlainType → Option (Place × Initialiser) → MonStatements
started n g t None = NoStatement
started n g t (Some i) = before (set (next_register n.table) (Global g)) (initialise_by (with_registers (Ptr ∷ []) n) (next_register n.table) t (Some i))

abbrev pub global_initialised : Names → Declaration → MonStatements
global_initialised n d = started n (object_of_global (number_of d) (static_objects (unit_of n))) d.ctype d.init

-- globals in order
abbrev pub globals_initialised : Names → List Declaration → MonStatements
globals_initialised n [] = NoStatement
globals_initialised n (d ∷ ds) = before (global_initialised n d) (globals_initialised (with_registers (global_temporaries (unit_of n) d.init) n) ds)

-- ---- what a function keeps beside its variables

-- the types of the registers of a term, of these terms, and of the flags of these behaviors
abbrev pub types_of_term : Kept → List MonType
types_of_term k = I32 ∷ value_types_of (is_pointer_term k.term) k.term

abbrev pub types_of_kept : List Kept → List MonType
types_of_kept [] = []
types_of_kept (k ∷ ks) = types_of_term k ++ types_of_kept ks

abbrev pub flag_types : List NamedBehavior → List MonType
flag_types bs = map (λ (b : NamedBehavior). I32) bs

-- ---- functions

-- the registers from r on are bound to these variables
abbrev pub bound_from : ℕ → List Declaration → Bindings → Bindings
bound_from r [] b = b
bound_from r (d ∷ ds) b = bound_from (suc r) ds (bound_with (number_of d) r b)

-- where these variables are in scope, and nothing else that is declared in a function
abbrev pub with_these_alone : ℕ → List Declaration → Names → Names
with_these_alone r ds n = with_table (record { kinds = n.table.kinds; bound = bound_from r ds [] }) n

-- what is known where a contract is checked that ends a body: what is kept, and what the function gives, in this register
abbrev pub known_at_end : List Kept → ℕ → PlainType → Known
known_at_end plan r t = record { plan = plan; held = result_held r (result_of t); readings = [] }

-- `main` gives 0 at its closing brace
abbrev pub brace : ℕ → Bool → MonStatements
brace r is_main = if is_main then set r (Constant I32 (pos 0)) else NoStatement

-- A function that keeps these terms, and what it gives in the register r, before the flags of behaviors. Registers from q on point to the blocks of its
-- parameters, which live.
module _ (plan : List Kept) (r q : ℕ) (live : List ℕ) (f : Function) where
  -- what is asked where the body ends, and what stands behind it
  abbrev pub end_by : Names → FunctionContract → MonStatements
  end_by n c = before (leave_by n (known_at_end plan r f.result) (suc r) c) (before (deaths live) (last_return r (result_of f.result)))

  -- the names behind the body
  abbrev pub behind_inner : FunctionContract → Names → Names
  behind_inner c n = behind_body plan f.body (names_behind_entry (suc r) c n)

  -- the body of which each `return` goes to its end
  abbrev pub inner_by : Bool → Names → MonStatements
  inner_by is_main n = before (body_by plan n (outermost (Some r) []) f.body) (brace r is_main)

  abbrev pub checked_by : Bool → Names → FunctionContract → MonStatements
  checked_by is_main n c =
      before (entry_by n (suc r) c)
      (Then (Labelled (inner_by is_main (names_behind_entry (suc r) c n)) leave_label) (end_by (with_these_alone q f.params (behind_inner c n)) c))

  abbrev pub bare_by : Names → MonStatements
  bare_by n = before (body_by plan n (outermost None live) f.body) (deaths live)

  -- the body with what is asked around it, and the names behind it
  abbrev pub contracted_by : Bool → Names → Option FunctionContract → MonStatements
  contracted_by is_main n None = bare_by n
  contracted_by is_main n (Some c) = checked_by is_main n c

  abbrev pub behind_checked : FunctionContract → Names → Names
  behind_checked c n = names_behind_leave (known_at_end plan r f.result) (suc r) c (with_these_alone q f.params (behind_inner c n))

  abbrev pub behind_contracted : Option FunctionContract → Names → Names
  behind_contracted None n = behind_body plan f.body n
  behind_contracted (Some c) n = behind_checked c n

-- what is known of a function whose parameters live
abbrev pub kept_in : declared.Frame → List Kept
kept_in x = plain_plan x.plan.now.kept.now

abbrev pub func_in : declared.Frame → Function
func_in x = plain_func x.func.now

abbrev pub end_in : declared.Frame → Names → FunctionContract → MonStatements
end_in x n c = end_by (kept_in x) x.given x.first (reverse x.params.now) (func_in x) n c

abbrev pub inner_in : declared.Frame → Bool → Names → MonStatements
inner_in x is_main n = inner_by (kept_in x) x.given x.first (reverse x.params.now) (func_in x) is_main n

abbrev pub bare_in : declared.Frame → Names → MonStatements
bare_in x n = bare_by (kept_in x) x.given x.first (reverse x.params.now) (func_in x) n

abbrev pub checked_in : declared.Frame → Bool → Names → FunctionContract → MonStatements
checked_in x is_main n c = checked_by (kept_in x) x.given x.first (reverse x.params.now) (func_in x) is_main n c

abbrev pub contracted_in : declared.Frame → Bool → Names → Option FunctionContract → MonStatements
contracted_in x is_main n c = contracted_by (kept_in x) x.given x.first (reverse x.params.now) (func_in x) is_main n c

abbrev pub behind_checked_in : declared.Frame → FunctionContract → Names → Names
behind_checked_in x c n = behind_checked (kept_in x) x.given x.first (reverse x.params.now) (func_in x) c n

abbrev pub behind_contracted_in : declared.Frame → Option FunctionContract → Names → Names
behind_contracted_in x c n = behind_contracted (kept_in x) x.given x.first (reverse x.params.now) (func_in x) c n

-- a function that keeps these terms, and what it gives in the register r: births, what is kept at the beginning, and the body
module _ (plan : List Kept) (r : ℕ) (f : Function) where
  abbrev pub own_code : Bool → Names → MonStatements
  own_code is_main n =
      before (parameters (unit_of n) (next_register n.table) 0 f.params)
      (before (snapshot_by (entering f.params n) None plan)
      (contracted_by plan r (next_register n.table) (with_born (next_register n.table) f.params []) f is_main
      (passed plan None (entering f.params n)) f.contract))

  abbrev pub behind_whole : Names → Names
  behind_whole n =
      behind_contracted plan r (next_register n.table) (with_born (next_register n.table) f.params []) f f.contract (passed plan None (entering f.params n))

-- the code of a function, which initialises the globals first where it is `main`
abbrev pub whole_code : TranslationUnit → Bool → Function → MonStatements
whole_code p is_main f = before (front p is_main f) (code_of p (front_temporaries p is_main) f is_main)
