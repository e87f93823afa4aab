-- Small expressions with pointers and calls of the heap and what they become, by computation, and how many parentheses these have open.
use Rattle.std.proofs.Common.{◌≡◌, ℕ, pos, true, [], ◌∷◌, Some, None, refl}
use Rattle.c_syntax.specs.declared.place.Place.{Place}
use Rattle.c_syntax.specs.declared.types.CInt.TheVariants as c
use Rattle.c_syntax.specs.declared.expression.UnOp.TheVariants as prefix
use Rattle.c_syntax.specs.declared.expression.BinOp.TheVariants as operator
use Rattle.c_syntax.specs.Ctypes.{PlainType, Void, Int, Ptr, Array, Count, int_type}
use Rattle.c_syntax.specs.Expressions as source
use Rattle.c_syntax.specs.Expressions.{Expression, Node}
use Rattle.c_syntax.specs.Statements as statement
use Rattle.c_syntax.specs.Statements.{Declaration, Cases, NoCase, AnotherCase, BlockItems, NoItem, Run}
use Rattle.c_syntax.specs.Programs.{TranslationUnit}
use Rattle.std.specs.Prelude.{codes}
use Rattle.mon_syntax.specs.declared.tree.MemoryCall.TheVariants.{Malloc, Free}
use Rattle.mon_syntax.specs.declared.tree.MonOp.TheVariants as mon
use Rattle.mon_syntax.specs.declared.tree.MonType.TheVariants as kind
use Rattle.mon_syntax.specs.Registers.{Bindings, RegisterTable}
use Rattle.mon_syntax.specs.Trees.{Register, Global, Constant, Binary, Minus, Cast, Load, Set, Store, PutChar, PrintText, PrintSigned, PrintString, Act, If, Labelled, Goto, Return, MonStatement, MonStatements, Then, NoStatement, Zeros, Literal}
use Rattle.mon_syntax.specs.Valid.{open_parens}
use Rattle.c_effects.specs.Expressions.{literal, pointer_to, one}
use Rattle.c_simulation.specs.Labels.{end_label}
use Rattle.instrument.specs.Translation as target
use Rattle.instrument.specs.Translation.{outermost, case_label, text_name, global_name, monitored_globals}
use Rattle.c_effects.specs.Full.{act, result}
use Rattle.c_model.specs.Sizes.{weight_of}

abbrev here : Place
here = record { line = 1; column = 1; offset = 1 }

-- variables have the numbers of their names
abbrev variable : PlainType → ℕ → Expression
variable t x = Node here t (source.Variable (record { name = x; decl = x }))

abbrev int : ℕ → Expression
int x = variable int_type x

abbrev pointer : ℕ → Expression
pointer x = variable (Ptr int_type) x

-- `int a[3];`, the one global, with the number 5
abbrev global : Declaration
global = record { place = record { line = 1; column = 1; offset = 5 }; name = 5; named = true; ctype = Array int_type (Count 3); init = None }

abbrev program : TranslationUnit
program = record { names = []; structs = []; enums = []; typedefs = []; globals = global ∷ []; funcs = []; texts = []; strays = [] }

-- register 0 points to the block of 1, and register 1 to that of 2
abbrev bound : Bindings
bound = (1, 0) ∷ (2, 1) ∷ []

-- `p[i]`
abbrev index : Expression
index = Node here int_type (source.Index (pointer 1) (int 2))

-- `a[i]`, whose array is the address of its first element
abbrev array : Expression
array = Node here int_type (source.Index (Node here (Ptr int_type) (source.Cast (Ptr int_type) (variable (Array int_type (Count 3)) 5))) (int 2))

-- `*(p - 1)`
abbrev back : Expression
back = Node here int_type (source.Unary prefix.Deref (Node here (Ptr int_type) (source.Binary operator.Sub (pointer 1) (Node here int_type (source.Number (pos 1) (Some c.I32))))))

index_is : result program bound [] index
    ≡ Load kind.I32 (Binary mon.Add kind.Ptr (Load kind.Ptr (Register 0)) (Binary mon.Mul kind.I64 (Cast kind.I64 (Load kind.I32 (Register 1))) (Constant kind.I64 (pos 4))))
index_is = refl

array_is : result program bound [] array ≡ Load kind.I32 (Binary mon.Add kind.Ptr (Global 0) (Binary mon.Mul kind.I64 (Cast kind.I64 (Load kind.I32 (Register 1))) (Constant kind.I64 (pos 4))))
array_is = refl

back_is : result program bound [] back
    ≡ Load kind.I32 (Binary mon.Add kind.Ptr (Load kind.Ptr (Register 0)) (Minus kind.I64 (Binary mon.Mul kind.I64 (Cast kind.I64 (Constant kind.I32 (pos 1))) (Constant kind.I64 (pos 4)))))
back_is = refl

-- parentheses, and the weights that bound them
index_parens : open_parens (result program bound [] index) ≡ 6
index_parens = refl

index_weight : weight_of index ≡ 8
index_weight = refl

array_weight : weight_of array ≡ 9
array_weight = refl

back_parens : open_parens (result program bound [] back) ≡ 6
back_parens = refl

back_weight : weight_of back ≡ 10
back_weight = refl

-- ---- the heap, by the names `malloc` and `free`

abbrev heap_program : TranslationUnit
heap_program = record program { names = codes "malloc" ∷ codes "free" ∷ [] }

abbrev library : ℕ → PlainType → Expression → Expression
library x t e = Node here t (source.Call (record { name = x; decl = 4294967295 }) (source.Following e source.NoExpression))

-- `p = malloc(8)`
malloc_is : act heap_program bound (kind.Ptr ∷ kind.Ptr ∷ [])
    (Node here (Ptr Void) (source.Assign None (variable (Ptr Void) 1) (library 0 (Ptr Void) (Node here (Int c.U64) (source.Number (pos 8) (Some c.U64))))))
    ≡ Then (Act (Some 2) Malloc (Constant kind.U64 (pos 8) ∷ [])) (Then (Store 0 kind.Ptr (Register 2)) NoStatement)
malloc_is = refl

-- `free(p)`
free_is : act heap_program bound [] (library 1 Void (variable (Ptr Void) 1)) ≡ Then (Act None Free (Load kind.Ptr (Register 0) ∷ [])) NoStatement
free_is = refl

-- ---- `printf("%d%% of %c: %s\n", n, n, s)`, whose literal is the one of the text: a statement for each piece of its format

abbrev print_program : TranslationUnit
print_program = record program { names = codes "printf" ∷ []; texts = record { place = here; bytes = codes "%d%% of %c: %s\n" } ∷ [] }

abbrev string : PlainType
string = Ptr (Int c.I8)

abbrev format : Expression
format = Node here string (source.Cast string (Node here (Array (Int c.I8) (Count 16)) (source.Text 0)))

abbrev printed : source.Expressions
printed = source.Following format (source.Following (int 2) (source.Following (int 2) (source.Following (variable string 1) source.NoExpression)))

printf_is : act print_program bound [] (Node here Void (source.Call (record { name = 0; decl = 4294967295 }) printed))
    ≡ Then (PrintSigned (Cast kind.I64 (Load kind.I32 (Register 1)))) (Then (PrintText (codes "% of ")) (Then (PutChar None (Load kind.I32 (Register 1)))
    (Then (PrintText (codes ": ")) (Then (PrintString (Load kind.Ptr (Register 0))) (Then (PrintText (codes "\n")) NoStatement)))))
printf_is = refl

-- ---- globals and literals in the order of the text

-- one literal before the global, and one behind it
abbrev with_literals : TranslationUnit
with_literals = record program {
  texts = record { place = here; bytes = codes "x" } ∷ record { place = record { line = 1; column = 1; offset = 9 }; bytes = codes "yz" } ∷ [];
}

monitored_globals-with_literals : monitored_globals with_literals
    ≡ record { name = text_name 0; content = Literal (codes "x") } ∷ record { name = global_name 0 []; content = Zeros 12 } ∷ record { name = text_name 1; content = Literal (codes "yz") } ∷ []
monitored_globals-with_literals = refl

literal-first : literal with_literals 0 ≡ Global 0
literal-first = refl

pointer_to-global : pointer_to with_literals bound 5 ≡ Global 1
pointer_to-global = refl

literal-last : literal with_literals 1 ≡ Global 2
literal-last = refl

-- ---- `switch (n) { case 3: break; default: case 7: return; }`, in a function that isn't in a loop

abbrev number : ℕ → Expression
number n = Node here int_type (source.Number (pos n) (Some c.I32))

abbrev run : statement.Statement → BlockItems
run a = statement.Then (Run a) NoItem

abbrev three_cases : Cases
three_cases = AnotherCase here (Some (number 3)) (run (statement.Break here)) (AnotherCase here None NoItem (AnotherCase here (Some (number 7)) (run (statement.Return here None)) NoCase))

-- after the registers of two variables
abbrev two : RegisterTable
two = record { kinds = kind.Ptr ∷ kind.Ptr ∷ []; bound = bound }

-- the test of a case
abbrev found : ℕ → ℕ → MonStatement
found n i = If (Binary mon.Eq kind.I32 (Register 2) (Constant kind.I32 (pos n))) (Then (Set 3 (Constant kind.U64 (pos i))) (one (Goto (case_label 1)))) NoStatement

-- what is done where the case that is chosen is this one or stands in front of it
abbrev reached : ℕ → MonStatements → MonStatement
reached i a = If (Binary mon.Le kind.U64 (Register 3) (Constant kind.U64 (pos i))) a NoStatement

switch_is : target.statement program [] (outermost None []) two (statement.Switch here (int 2) three_cases)
    ≡ Then (Set 2 (Load kind.I32 (Register 1))) (Then (Set 3 (Constant kind.U64 (pos 1))) (Then (Labelled (Then (found 3 0) (one (found 7 2))) (case_label 1))
    (one (Labelled (one (reached 15 (Then (reached 0 (one (Goto (end_label 1)))) (Then (reached 1 NoStatement) (one (reached 2 (one (Return None)))))))) (end_label 1)))))
switch_is = refl

switch_registers : (target.after_statement program [] (statement.Switch here (int 2) three_cases) two).kinds ≡ kind.Ptr ∷ kind.Ptr ∷ kind.I32 ∷ kind.U64 ∷ []
switch_registers = refl
