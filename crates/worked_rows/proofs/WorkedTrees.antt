-- How the trees of small programs are written by hand.
use Rattle.std.specs.Prelude.{ℕ, pos, true, false, List, [], ◌∷◌, Some, None}
use Rattle.c_syntax.specs.declared.place.Place.{Place}
use Rattle.c_syntax.specs.declared.types.CInt.{CInt}
use Rattle.c_syntax.specs.declared.types.CInt.TheVariants.{I32}
use Rattle.c_syntax.specs.declared.expression.BinOp.{BinOp}
use Rattle.c_syntax.specs.declared.expression.BumpOp.{BumpOp}
use Rattle.c_syntax.specs.declared.annotation.Kind.TheVariants.{Assert}
use Rattle.c_syntax.specs.declared.annotation.Range.{Range}
use Rattle.c_syntax.specs.declared.annotation.Relation.{Relation}
use Rattle.c_syntax.specs.Ctypes.{PlainType, Int, int_type}
use Rattle.c_syntax.specs.Expressions.{Expression, Node, Number, Letter, Variable, Binary, Assign, Bump, Call, Cast, Expressions, NoExpression, Following, place_of}
use Rattle.c_syntax.specs.Formulas as formula
use Rattle.c_syntax.specs.Formulas.{Form}
use Rattle.c_syntax.specs.Logic as logic
use Rattle.c_syntax.specs.Logic.{LogicTerm, Predicate, ClauseBody, Holds, Annotation}
use Rattle.c_syntax.specs.Statements.{One, Declaration, Block, BlockItem, BlockItems, NoItem, Then}
use Rattle.c_syntax.specs.Programs.{Function, TranslationUnit}
use Rattle.c_model.specs.State.{Input, EndOfInput, InputFault}

abbrev pub place : ℕ → ℕ → ℕ → Place
place line column offset = record { line = line; column = column; offset = offset }

-- ---- expressions

abbrev pub literal : Place → ℕ → Expression
literal at n = Node at int_type (Number (pos n) (Some I32))

abbrev pub letter : Place → ℕ → Expression
letter at n = Node at int_type (Letter (pos n))

abbrev pub typed_variable : Place → CInt → ℕ → ℕ → Expression
typed_variable at k name decl = Node at (Int k) (Variable (record { name = name; decl = decl }))

-- a variable, with the number of its declaration
abbrev pub variable : Place → ℕ → ℕ → Expression
variable at = typed_variable at I32

abbrev pub binary : Place → BinOp → Expression → Expression → Expression
binary at op a b = Node at int_type (Binary op a b)

abbrev pub assignment : Place → Expression → Expression → Expression
assignment at a b = Node at int_type (Assign None a b)

abbrev pub compound_assignment : Place → BinOp → Expression → Expression → Expression
compound_assignment at op a b = Node at int_type (Assign (Some op) a b)

abbrev pub bump : Place → BumpOp → Expression → Expression
bump at op a = Node at int_type (Bump op a)

-- the conversion that typing puts around an operand, at the operand's place
abbrev pub cast : CInt → Expression → Expression
cast k e = Node (place_of e) (Int k) (Cast (Int k) e)

abbrev pub arguments_of : List Expression → Expressions
arguments_of [] = NoExpression
arguments_of (e ∷ es) = Following e (arguments_of es)

-- a call of the function with this name and number
abbrev pub call : PlainType → Place → ℕ → ℕ → List Expression → Expression
call result at name decl es = Node at result (Call (record { name = name; decl = decl }) (arguments_of es))

abbrev pub library_call : PlainType → Place → ℕ → List Expression → Expression
library_call result at name es = call result at name 4294967295 es

abbrev pub putchar_call : Place → ℕ → Expression → Expression
putchar_call at name e = library_call int_type at name (e ∷ [])

-- ---- declarations and blocks

abbrev pub object_of : PlainType → Place → ℕ → Place → Expression → Declaration
object_of t at name equals e = record { place = at; name = name; named = true; ctype = t; init = Some (equals, One e) }

abbrev pub int_variable : Place → ℕ → Place → Expression → Declaration
int_variable = object_of int_type

-- a variable without initialiser
abbrev pub unwritten_int : Place → ℕ → Declaration
unwritten_int at name = record { place = at; name = name; named = true; ctype = int_type; init = None }

abbrev pub parameter : PlainType → Place → ℕ → Declaration
parameter t at name = record { place = at; name = name; named = true; ctype = t; init = None }

abbrev pub int_parameter : Place → ℕ → Declaration
int_parameter = parameter int_type

-- a parameter without a name, at the first word of its type
abbrev pub unnamed_parameter : PlainType → Place → ℕ → Declaration
unnamed_parameter t at word = record { place = at; name = word; named = false; ctype = t; init = None }

abbrev pub items_of : List BlockItem → BlockItems
items_of [] = NoItem
items_of (i ∷ rest) = Then i (items_of rest)

-- ---- assertions

abbrev pub no_range : Range
no_range = record { lo = pos 0; hi = pos 0 }

abbrev pub literal_term : Place → ℕ → LogicTerm
literal_term at n = logic.Number at None no_range (pos n)

abbrev pub variable_term : Place → ℕ → ℕ → LogicTerm
variable_term at name decl = logic.Variable at (Some int_type) no_range (record { name = name; decl = decl })

abbrev pub binary_term : Place → BinOp → LogicTerm → LogicTerm → LogicTerm
binary_term at op a b = logic.Binary at None no_range op a b

abbrev pub related_terms : Place → Relation → LogicTerm → LogicTerm → Predicate
related_terms at r a b = logic.Chain at a (logic.Linked at r b logic.NoLink)

-- the same as they are read
abbrev pub literal_form : Place → ℕ → Form
literal_form at n = formula.Number at (pos n)

abbrev pub name_form : Place → ℕ → Form
name_form at name = formula.Name at (record { name = name; decl = 0 })

abbrev pub related_forms : Place → Relation → Form → Form → Form
related_forms at r a b = formula.Chain at a (formula.Linked at r b formula.NoLink)

-- an assertion of a clause, and of a predicate
abbrev pub asserted : ℕ → Place → ClauseBody → Annotation
asserted number at clause = record { number = number; kind = Assert; place = at; body = clause }

abbrev pub assertion : ℕ → Place → Predicate → Annotation
assertion number at p = asserted number at (Holds p)

-- ---- functions and files

-- the result, the name, the parameters, the places of the braces, and the items between them
abbrev pub definition : PlainType → Place → ℕ → List Declaration → Place → Place → List BlockItem → Function
definition result at name params opening closing items = record {
  place = at;
  name = name;
  result = result;
  params = params;
  contract = None;
  body = Some (Block opening (items_of items));
  close = closing;
}

-- the result, the name, the parameters, and the place of the `;`
abbrev pub prototype : PlainType → Place → ℕ → List Declaration → Place → Function
prototype result at name params closing = record {
  place = at;
  name = name;
  result = result;
  params = params;
  contract = None;
  body = None;
  close = closing;
}

abbrev pub unit_of : List (List ℕ) → List Function → TranslationUnit
unit_of names functions = record {
  names = names;
  texts = [];
  structs = [];
  enums = [];
  typedefs = [];
  globals = [];
  funcs = functions;
  strays = [];
}

-- a file of `main` alone: the names, the places of `main` and of its braces, and its items
abbrev pub main_alone : List (List ℕ) → Place → Place → Place → List BlockItem → TranslationUnit
main_alone names at opening closing items = unit_of names (definition int_type at 0 [] opening closing items ∷ [])

-- ---- inputs

abbrev pub input_of : List ℕ → Input
input_of bytes = record { bytes = bytes; tail = EndOfInput }

-- an input that fails after these bytes
abbrev pub failing_behind : List ℕ → Input
failing_behind bytes = record { bytes = bytes; tail = InputFault }

abbrev pub no_input : Input
no_input = input_of []
