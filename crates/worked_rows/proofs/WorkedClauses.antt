-- How programs with contracts, labels and annotated loops are written by hand, at few places and without ranges, and how their runs end.
use Rattle.std.specs.Prelude.{ℕ, ℤ, ◌+◌, negsuc, List, [], ◌∷◌, Some, None, codes}
use Rattle.c_syntax.specs.declared.types.How.TheVariants as how
use Rattle.c_syntax.specs.declared.expression.BinOp.{BinOp}
use Rattle.c_syntax.specs.declared.expression.BinOp.TheVariants.{Add, Sub, Div}
use Rattle.c_syntax.specs.declared.annotation.Kind.{Kind}
use Rattle.c_syntax.specs.declared.annotation.Relation.{Relation}
use Rattle.c_syntax.specs.declared.place.Place.{Place}
use Rattle.c_syntax.specs.Ctypes.{PlainType, Void, int_type}
use Rattle.c_syntax.specs.Expressions.{Expression, Node, Number}
use Rattle.c_syntax.specs.declared.logic.Label.{Label}
use Rattle.c_syntax.specs.declared.logic.Label.TheVariants.{Pre}
use Rattle.c_syntax.specs.Logic.{LogicTerm, Predicate, Named, At, Holds, Behaviors, Annotation}
use Rattle.c_syntax.specs.Statements.{Declaration, Statement, BlockItem, Eval, Block, Return, Declare, Run, Asserts}
use Rattle.c_syntax.specs.Programs.{NamedBehavior, Function, TranslationUnit}
use Rattle.c_model.specs.State.{Final, Exits, Broken}
use Rattle.c_model.specs.Meaning.{Ran, run}
use Rattle.worked_rows.proofs.WorkedTrees.{place, literal, variable, binary, assignment, call, library_call, int_variable, int_parameter, items_of, literal_term, variable_term}
use Rattle.worked_rows.proofs.WorkedTrees.{binary_term, related_terms, no_range, definition, unit_of, no_input}

-- a place by its line and its offset
abbrev pub at : ℕ → ℕ → Place
at l o = place l 1 o

-- ---- terms and predicates

abbrev pub result : LogicTerm
result = Named (at 1 1) (Some int_type) no_range (record { name = 0; decl = 4294967294 })

abbrev pub at_label : Label → LogicTerm → LogicTerm
at_label l t = At (at 1 1) None no_range l t

abbrev pub is : LogicTerm → Relation → LogicTerm → Predicate
is a r b = related_terms (at 1 1) r a b

abbrev pub plus : LogicTerm → LogicTerm → LogicTerm
plus a b = binary_term (at 1 1) Add a b

abbrev pub less : LogicTerm → LogicTerm → LogicTerm
less a b = binary_term (at 1 1) Sub a b

abbrev pub by : LogicTerm → LogicTerm → LogicTerm
by a b = binary_term (at 1 1) Div a b

abbrev pub number : ℕ → LogicTerm
number n = literal_term (at 1 1) n

abbrev pub x_of : ℕ → LogicTerm
x_of decl = variable_term (at 1 (1000 + decl)) 0 decl

-- in an `ensures`
abbrev pub formal : ℕ → LogicTerm
formal decl = at_label Pre (x_of decl)

-- ---- clauses

abbrev pub noted : Kind → ℕ → ℕ → Predicate → Annotation
noted k number line p = record { number = number; kind = k; place = at line 1; body = Holds p }

abbrev pub covers : Kind → ℕ → ℕ → Annotation
covers k number line = record { number = number; kind = k; place = at line 1; body = Behaviors [] }

-- each in the line that its number names
abbrev pub clause : Kind → ℕ → Predicate → Annotation
clause k number p = noted k number number p

abbrev pub covers_named : Kind → ℕ → List (Place × ℕ) → Annotation
covers_named k number names = record { number = number; kind = k; place = at number 1; body = Behaviors names }

abbrev pub contracted : List Annotation → List NamedBehavior → List Annotation → Function → Function
contracted clauses behaviors covers f = record f { contract = Some (record { place = at 1 1; clauses = clauses; behaviors = behaviors; covers = covers }) }

abbrev pub named : ℕ → List Annotation → NamedBehavior
named name clauses = record { place = at 1 1; name = name; clauses = clauses }

-- ---- expressions and statements

abbrev pub lit : ℕ → Expression
lit n = literal (at 1 1) n

abbrev pub minus_one : Expression
minus_one = Node (at 1 1) int_type (Number (negsuc 0) None)

abbrev pub var : ℕ → Expression
var decl = variable (at 1 1) 0 decl

abbrev pub set_to : ℕ → Expression → Expression
set_to decl e = assignment (at 1 1) (var decl) e

abbrev pub operated : BinOp → Expression → Expression → Expression
operated op a b = binary (at 1 1) op a b

abbrev pub call_of : ℕ → List Expression → Expression
call_of f es = call int_type (at 1 1) 0 f es

abbrev pub put_of : Expression → Expression
put_of e = library_call int_type (at 1 1) 2 (e ∷ [])

abbrev pub does : Expression → BlockItem
does e = Run (Eval (at 1 1) e)

abbrev pub sets : ℕ → Expression → BlockItem
sets decl e = does (set_to decl e)

abbrev pub calls : ℕ → Expression → BlockItem
calls f e = does (call_of f (e ∷ []))

abbrev pub puts : ℕ → BlockItem
puts c = does (put_of (lit c))

abbrev pub exits_with : Expression → BlockItem
exits_with e = does (library_call Void (at 1 1) 3 (e ∷ []))

abbrev pub returns : Expression → BlockItem
returns e = Run (Return (at 1 1) (Some e))

abbrev pub block_of : List BlockItem → Statement
block_of items = Block (at 1 1) (items_of items)

abbrev pub int_of : ℕ → Expression → BlockItem
int_of decl e = Declare (int_variable (at 1 decl) 0 (at 1 1) e ∷ [])

abbrev pub asserted : Annotation → BlockItem
asserted a = Asserts (a ∷ [])

-- ---- programs: a global with the number 5, functions, and `main`

abbrev pub global_of : Expression → Declaration
global_of e = int_variable (at 1 5) 0 (at 1 6) e

-- a function of one int parameter, which has the number 20; its closing brace stands in line 9
abbrev pub function_of : PlainType → ℕ → List BlockItem → Function
function_of t decl items = definition t (at 1 decl) 1 (int_parameter (at 1 20) 0 ∷ []) (at 1 2) (at 9 9) items

abbrev pub main_of : List BlockItem → Function
main_of items = definition int_type (at 1 40) 0 [] (at 1 41) (at 9 99) items

abbrev pub program : List Declaration → List Function → TranslationUnit
program globals functions = record (unit_of (codes "main" ∷ codes "f" ∷ codes "putchar" ∷ codes "exit" ∷ codes "malloc" ∷ codes "free" ∷ []) functions) { globals = globals }

-- ---- runs with nine steps

abbrev pub runs : TranslationUnit → Ran
runs p = run p no_input 9

abbrev pub ends : Final → List ℕ → ℕ → Ran
ends final output left = record { final = final; output = output; left = left }

abbrev pub exits : ℤ → ℕ → Ran
exits z left = ends (Exits z) [] left

-- the annotation with this number, in the line of its number
abbrev pub false_at : ℕ → Kind → ℕ → Ran
false_at number k left = ends (Broken number number k how.False) [] left

abbrev pub undefined_at : ℕ → Kind → ℕ → Ran
undefined_at number k left = ends (Broken number number k how.Undefined) [] left
