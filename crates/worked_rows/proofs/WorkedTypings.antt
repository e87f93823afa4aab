-- What typing makes of small files with functions and inner declarations, by computation: the tree, or the fault that refuses.
use Rattle.std.proofs.Common.{◌≡◌, ℕ, [], ◌∷◌, Some, None, codes, refl}
use Rattle.c_syntax.specs.declared.types.CInt.{CInt}
use Rattle.c_syntax.specs.declared.types.CInt.TheVariants.{I8, I32, I64, U64}
use Rattle.c_syntax.specs.declared.expression.BinOp.TheVariants.{Add, Lt}
use Rattle.c_syntax.specs.declared.expression.BumpOp.TheVariants.{PostUp}
use Rattle.c_syntax.specs.declared.annotation.Relation.TheVariants as relation
use Rattle.c_syntax.specs.Ctypes.{Void, Int, int_type}
use Rattle.c_syntax.specs.Expressions.{Expression, Node, SizeOfExpr}
use Rattle.c_syntax.specs.Logic.{ClauseBody, Raw, Holds}
use Rattle.c_syntax.specs.Statements.{Eval, Block, For, Return, First, Declare, Run, Asserts}
use Rattle.c_syntax.specs.Programs.{TranslationUnit}
use Rattle.c_model.specs.Library.{library_constant, is_library_name}
use Rattle.c_model.specs.Checked.{Good, refusing}
use Rattle.c_model.specs.UnitTyping.{typed_unit, main_fault}
use Rattle.c_model.specs.AnnotationTyping.{noted_unit}
use Rattle.worked_rows.proofs.WorkedTrees.{place, literal, typed_variable, variable, binary, assignment, bump, cast, call, object_of, int_variable, unwritten_int, parameter, int_parameter, unnamed_parameter, items_of}
use Rattle.worked_rows.proofs.WorkedTrees.{literal_term, variable_term, related_terms, literal_form, name_form, related_forms, asserted, definition, prototype, unit_of}

-- as it is read a use has the number 0, and after typing that of its declaration
abbrev as_read : ℕ → ℕ
as_read n = 0

abbrev pub as_typed : ℕ → ℕ
as_typed n = n

-- as it is read no operand is converted
abbrev unconverted : CInt → Expression → Expression
unconverted k e = e

-- ---- accepted files, by the numbers of uses

-- a call in sight of two prototypes, with the definition after it
--     int f(int n);
--     int f(int);
--     int main(void) { return f(1); }
--     int f(int x) { return x; }
abbrev calls_what_is_defined_later : (ℕ → ℕ) → TranslationUnit
calls_what_is_defined_later number = unit_of (codes "int" ∷ codes "f" ∷ codes "n" ∷ codes "main" ∷ codes "void" ∷ codes "return" ∷ codes "x" ∷ []) (
    prototype int_type (place 1 5 4) 1 (int_parameter (place 1 11 10) 2 ∷ []) (place 1 13 12) ∷
    prototype int_type (place 2 5 18) 1 (unnamed_parameter int_type (place 2 7 20) 0 ∷ []) (place 2 11 24) ∷
    definition int_type (place 3 5 30) 3 [] (place 3 16 41) (place 3 31 56) (
    Run (Return (place 3 18 43) (Some (call int_type (place 3 26 51) 1 (number 62) (literal (place 3 27 52) 1 ∷ [])))) ∷
    []) ∷
    definition int_type (place 4 5 62) 1 (int_parameter (place 4 11 68) 6 ∷ []) (place 4 14 71) (place 4 26 83) (
    Run (Return (place 4 16 73) (Some (variable (place 4 23 80) 6 (number 68)))) ∷
    []) ∷
    [])

-- the name in an initialiser is that of the outer variable
--     int main(void) {
--       int x = 1;
--       {
--         int y = x;
--         int x = 2;
--         putchar(x + y);
--       }
--       return x;
--     }
abbrev initialises_from_outside : (ℕ → ℕ) → TranslationUnit
initialises_from_outside number = unit_of (codes "main" ∷ codes "x" ∷ codes "y" ∷ codes "putchar" ∷ []) (
    definition int_type (place 1 5 4) 0 [] (place 1 16 15) (place 9 1 100) (
    Declare (int_variable (place 2 7 23) 1 (place 2 9 25) (literal (place 2 11 27) 1) ∷ []) ∷
    Run (Block (place 3 3 32) (items_of (
    Declare (int_variable (place 4 9 42) 2 (place 4 11 44) (variable (place 4 13 46) 1 (number 23)) ∷ []) ∷
    Declare (int_variable (place 5 9 57) 1 (place 5 11 59) (literal (place 5 13 61) 2) ∷ []) ∷
    Run (Eval (place 6 5 68) (call int_type (place 6 12 75) 3 (number 4294967295)
    (binary (place 6 15 78) Add (variable (place 6 13 76) 1 (number 57)) (variable (place 6 17 80) 2 (number 42)) ∷ []))) ∷
    []))) ∷
    Run (Return (place 8 3 90) (Some (variable (place 8 10 97) 1 (number 23)))) ∷
    []) ∷
    [])

-- a block inside may hide a parameter, and a loop's body what its header declares
--     int f(int x) {
--       {
--         int x = 2;
--         for (int i = x; i < 3; i++) {
--           int i = x;
--           putchar(i);
--         }
--       }
--       return x;
--     }
--     int main(void) { return 0; }
abbrev hides_a_parameter : (ℕ → ℕ) → TranslationUnit
hides_a_parameter number = unit_of (codes "f" ∷ codes "x" ∷ codes "i" ∷ codes "putchar" ∷ codes "main" ∷ []) (
    definition int_type (place 1 5 4) 0 (int_parameter (place 1 11 10) 1 ∷ []) (place 1 14 13) (place 10 1 125) (
    Run (Block (place 2 3 17) (items_of (
    Declare (int_variable (place 3 9 27) 1 (place 3 11 29) (literal (place 3 13 31) 2) ∷ []) ∷
    Run (For (place 4 5 38) [] (First (Declare (int_variable (place 4 14 47) 2 (place 4 16 49) (variable (place 4 18 51) 1 (number 27)) ∷ [])))
    (Some (binary (place 4 23 56) Lt (variable (place 4 21 54) 2 (number 47)) (literal (place 4 25 58) 3)))
    (Some (bump (place 4 29 62) PostUp (variable (place 4 28 61) 2 (number 47)))) (Block (place 4 33 66) (items_of (
    Declare (int_variable (place 5 11 78) 2 (place 5 13 80) (variable (place 5 15 82) 1 (number 27)) ∷ []) ∷
    Run (Eval (place 6 7 91) (call int_type (place 6 14 98) 3 (number 4294967295) (variable (place 6 15 99) 2 (number 78) ∷ []))) ∷
    [])))) ∷
    []))) ∷
    Run (Return (place 9 3 115) (Some (variable (place 9 10 122) 1 (number 10)))) ∷
    []) ∷
    definition int_type (place 11 5 131) 4 [] (place 11 16 142) (place 11 28 154) (
    Run (Return (place 11 18 144) (Some (literal (place 11 25 151) 0))) ∷
    []) ∷
    [])

-- a name in its own initialiser is that of the variable that it initialises (C99 6.2.1 p7)
--     int main(void) {
--       int x = 1;
--       {
--         int x = x + 1;
--         putchar(x);
--       }
--       return x;
--     }
abbrev pub reads_itself : (ℕ → ℕ) → TranslationUnit
reads_itself number = unit_of (codes "main" ∷ codes "x" ∷ codes "putchar" ∷ []) (
    definition int_type (place 1 5 4) 0 [] (place 1 16 15) (place 8 1 85) (
    Declare (int_variable (place 2 7 23) 1 (place 2 9 25) (literal (place 2 11 27) 1) ∷ []) ∷
    Run (Block (place 3 3 32) (items_of (
    Declare (int_variable (place 4 9 42) 1 (place 4 11 44) (binary (place 4 15 48) Add (variable (place 4 13 46) 1 (number 42)) (literal (place 4 17 50) 1)) ∷ []) ∷
    Run (Eval (place 5 5 57) (call int_type (place 5 12 64) 2 (number 4294967295) (variable (place 5 13 65) 1 (number 42) ∷ []))) ∷
    []))) ∷
    Run (Return (place 7 3 75) (Some (variable (place 7 10 82) 1 (number 23)))) ∷
    []) ∷
    [])

-- so is its type
--     int main(void) {
--       long x = 1;
--       {
--         char x = sizeof x;
--         putchar(x);
--       }
--       return 0;
--     }
abbrev pub measures_itself : (ℕ → ℕ) → (CInt → Expression → Expression) → TranslationUnit
measures_itself number converted = unit_of (codes "main" ∷ codes "x" ∷ codes "putchar" ∷ []) (
    definition int_type (place 1 5 4) 0 [] (place 1 16 15) (place 8 1 90) (
    Declare (object_of (Int I64) (place 2 8 24) 1 (place 2 10 26) (converted I64 (literal (place 2 12 28) 1)) ∷ []) ∷
    Run (Block (place 3 3 33) (items_of (
    Declare (object_of (Int I8) (place 4 10 44) 1 (place 4 12 46) (converted I8 (Node (place 4 14 48) (Int U64) (SizeOfExpr (typed_variable (place 4 21 55) I8 1 (number 44))))) ∷ []) ∷
    Run (Eval (place 5 5 62) (call int_type (place 5 12 69) 2 (number 4294967295) (converted I32 (typed_variable (place 5 13 70) I8 1 (number 44)) ∷ []))) ∷
    []))) ∷
    Run (Return (place 7 3 80) (Some (literal (place 7 10 87) 0))) ∷
    []) ∷
    [])

-- a variable without initialiser
--     int main(void) {
--       int x;
--       x = 2;
--       return x;
--     }
abbrev pub is_written_later : (ℕ → ℕ) → TranslationUnit
is_written_later number = unit_of (codes "main" ∷ codes "x" ∷ []) (
    definition int_type (place 1 5 4) 0 [] (place 1 16 15) (place 5 1 47) (
    Declare (unwritten_int (place 2 7 23) 1 ∷ []) ∷
    Run (Eval (place 3 3 28) (assignment (place 3 5 30) (variable (place 3 3 28) 1 (number 23)) (literal (place 3 7 32) 2))) ∷
    Run (Return (place 4 3 37) (Some (variable (place 4 10 44) 1 (number 23)))) ∷
    []) ∷
    [])

-- ---- refused files, as they are read

-- a second definition (C99 6.9 p5)
--     int f(void) { return 0; }
--     int f(void) { return 0; }
--     int main(void) { return 0; }
abbrev defined_twice : TranslationUnit
defined_twice = unit_of (codes "f" ∷ codes "main" ∷ []) (
    definition int_type (place 1 5 4) 0 [] (place 1 13 12) (place 1 25 24) (
    Run (Return (place 1 15 14) (Some (literal (place 1 22 21) 0))) ∷
    []) ∷
    definition int_type (place 2 5 30) 0 [] (place 2 13 38) (place 2 25 50) (
    Run (Return (place 2 15 40) (Some (literal (place 2 22 47) 0))) ∷
    []) ∷
    definition int_type (place 3 5 56) 1 [] (place 3 16 67) (place 3 28 79) (
    Run (Return (place 3 18 69) (Some (literal (place 3 25 76) 0))) ∷
    []) ∷
    [])

-- prototypes with unequal results (C99 6.7 p4)
--     int f(int n);
--     void f(int n);
--     int main(void) { return 0; }
abbrev unequal_results : TranslationUnit
unequal_results = unit_of (codes "f" ∷ codes "n" ∷ codes "main" ∷ []) (
    prototype int_type (place 1 5 4) 0 (int_parameter (place 1 11 10) 1 ∷ []) (place 1 13 12) ∷
    prototype Void (place 2 6 19) 0 (int_parameter (place 2 12 25) 1 ∷ []) (place 2 14 27) ∷
    definition int_type (place 3 5 33) 2 [] (place 3 16 44) (place 3 28 56) (
    Run (Return (place 3 18 46) (Some (literal (place 3 25 53) 0))) ∷
    []) ∷
    [])

-- a definition of another type than its prototype
--     int f(int a, int b);
--     int f(int a) { return a; }
--     int main(void) { return 0; }
abbrev unequal_parameters : TranslationUnit
unequal_parameters = unit_of (codes "f" ∷ codes "a" ∷ codes "b" ∷ codes "main" ∷ []) (
    prototype int_type (place 1 5 4) 0 (int_parameter (place 1 11 10) 1 ∷ int_parameter (place 1 18 17) 2 ∷ []) (place 1 20 19) ∷
    definition int_type (place 2 5 25) 0 (int_parameter (place 2 11 31) 1 ∷ []) (place 2 14 34) (place 2 26 46) (
    Run (Return (place 2 16 36) (Some (variable (place 2 23 43) 1 0))) ∷
    []) ∷
    definition int_type (place 3 5 52) 3 [] (place 3 16 63) (place 3 28 75) (
    Run (Return (place 3 18 65) (Some (literal (place 3 25 72) 0))) ∷
    []) ∷
    [])

-- a call of a function that the file does not define
--     int f(int n);
--     int main(void) { return f(1); }
abbrev calls_nothing : TranslationUnit
calls_nothing = unit_of (codes "f" ∷ codes "n" ∷ codes "main" ∷ []) (
    prototype int_type (place 1 5 4) 0 (int_parameter (place 1 11 10) 1 ∷ []) (place 1 13 12) ∷
    definition int_type (place 2 5 18) 2 [] (place 2 16 29) (place 2 31 44) (
    Run (Return (place 2 18 31) (Some (call int_type (place 2 26 39) 0 0 (literal (place 2 27 40) 1 ∷ [])))) ∷
    []) ∷
    [])

-- a call before the first declaration (C99 6.2.1 p7)
--     int main(void) { return f(1); }
--     int f(int n) { return n; }
abbrev calls_ahead : TranslationUnit
calls_ahead = unit_of (codes "main" ∷ codes "f" ∷ codes "n" ∷ []) (
    definition int_type (place 1 5 4) 0 [] (place 1 16 15) (place 1 31 30) (
    Run (Return (place 1 18 17) (Some (call int_type (place 1 26 25) 1 0 (literal (place 1 27 26) 1 ∷ [])))) ∷
    []) ∷
    definition int_type (place 2 5 36) 1 (int_parameter (place 2 11 42) 2 ∷ []) (place 2 14 45) (place 2 26 57) (
    Run (Return (place 2 16 47) (Some (variable (place 2 23 54) 2 0))) ∷
    []) ∷
    [])

-- a call of `main`
--     int main(void) { return main(); }
abbrev calls_main : TranslationUnit
calls_main = unit_of (codes "main" ∷ []) (
    definition int_type (place 1 5 4) 0 [] (place 1 16 15) (place 1 33 32) (
    Run (Return (place 1 18 17) (Some (call int_type (place 1 29 28) 0 0 []))) ∷
    []) ∷
    [])

-- a wrong number of arguments (C99 6.5.2.2 p2)
--     int f(int a, int b) { return a; }
--     int main(void) { return f(1); }
abbrev too_few_arguments : TranslationUnit
too_few_arguments = unit_of (codes "f" ∷ codes "a" ∷ codes "b" ∷ codes "main" ∷ []) (
    definition int_type (place 1 5 4) 0 (int_parameter (place 1 11 10) 1 ∷ int_parameter (place 1 18 17) 2 ∷ []) (place 1 21 20) (place 1 33 32) (
    Run (Return (place 1 23 22) (Some (variable (place 1 30 29) 1 0))) ∷
    []) ∷
    definition int_type (place 2 5 38) 3 [] (place 2 16 49) (place 2 31 64) (
    Run (Return (place 2 18 51) (Some (call int_type (place 2 26 59) 0 0 (literal (place 2 27 60) 1 ∷ [])))) ∷
    []) ∷
    [])

-- a call that gives no value, where one is asked for
--     void f(void) { return; }
--     int main(void) { int x = f(); return x; }
abbrev gives_void : TranslationUnit
gives_void = unit_of (codes "f" ∷ codes "main" ∷ codes "x" ∷ []) (
    definition Void (place 1 6 5) 0 [] (place 1 14 13) (place 1 24 23) (
    Run (Return (place 1 16 15) None) ∷
    []) ∷
    definition int_type (place 2 5 29) 1 [] (place 2 16 40) (place 2 41 65) (
    Declare (int_variable (place 2 22 46) 2 (place 2 24 48) (call int_type (place 2 27 51) 0 0 []) ∷ []) ∷
    Run (Return (place 2 31 55) (Some (variable (place 2 38 62) 2 0))) ∷
    []) ∷
    [])

-- a parameter of type void
--     int f(void x) { return 0; }
--     int main(void) { return 0; }
abbrev void_parameter : TranslationUnit
void_parameter = unit_of (codes "f" ∷ codes "x" ∷ codes "main" ∷ []) (
    definition int_type (place 1 5 4) 0 (parameter Void (place 1 12 11) 1 ∷ []) (place 1 15 14) (place 1 27 26) (
    Run (Return (place 1 17 16) (Some (literal (place 1 24 23) 0))) ∷
    []) ∷
    definition int_type (place 2 5 32) 2 [] (place 2 16 43) (place 2 28 55) (
    Run (Return (place 2 18 45) (Some (literal (place 2 25 52) 0))) ∷
    []) ∷
    [])

-- two parameters of one name
--     int f(int a, int a);
--     int main(void) { return 0; }
abbrev same_parameters : TranslationUnit
same_parameters = unit_of (codes "f" ∷ codes "a" ∷ codes "main" ∷ []) (
    prototype int_type (place 1 5 4) 0 (int_parameter (place 1 11 10) 1 ∷ int_parameter (place 1 18 17) 1 ∷ []) (place 1 20 19) ∷
    definition int_type (place 2 5 25) 2 [] (place 2 16 36) (place 2 28 48) (
    Run (Return (place 2 18 38) (Some (literal (place 2 25 45) 0))) ∷
    []) ∷
    [])

-- a variable of a parameter's name in the outermost block (C99 6.2.1 p4)
--     int f(int a) {
--       int a = 1;
--       return a;
--     }
--     int main(void) { return 0; }
abbrev declares_a_parameter_again : TranslationUnit
declares_a_parameter_again = unit_of (codes "f" ∷ codes "a" ∷ codes "main" ∷ []) (
    definition int_type (place 1 5 4) 0 (int_parameter (place 1 11 10) 1 ∷ []) (place 1 14 13) (place 4 1 40) (
    Declare (int_variable (place 2 7 21) 1 (place 2 9 23) (literal (place 2 11 25) 1) ∷ []) ∷
    Run (Return (place 3 3 30) (Some (variable (place 3 10 37) 1 0))) ∷
    []) ∷
    definition int_type (place 5 5 46) 2 [] (place 5 16 57) (place 5 28 69) (
    Run (Return (place 5 18 59) (Some (literal (place 5 25 66) 0))) ∷
    []) ∷
    [])

-- two declarations of one name in a block inside
--     int main(void) {
--       {
--         int a = 1;
--         int a = 2;
--       }
--       return 0;
--     }
abbrev declares_twice : TranslationUnit
declares_twice = unit_of (codes "main" ∷ codes "a" ∷ []) (
    definition int_type (place 1 5 4) 0 [] (place 1 16 15) (place 7 1 67) (
    Run (Block (place 2 3 19) (items_of (
    Declare (int_variable (place 3 9 29) 1 (place 3 11 31) (literal (place 3 13 33) 1) ∷ []) ∷
    Declare (int_variable (place 4 9 44) 1 (place 4 11 46) (literal (place 4 13 48) 2) ∷ []) ∷
    []))) ∷
    Run (Return (place 6 3 57) (Some (literal (place 6 10 64) 0))) ∷
    []) ∷
    [])

-- a name after the block that declares it
--     int main(void) {
--       {
--         int a = 1;
--       }
--       return a;
--     }
abbrev uses_behind_a_block : TranslationUnit
uses_behind_a_block = unit_of (codes "main" ∷ codes "a" ∷ []) (
    definition int_type (place 1 5 4) 0 [] (place 1 16 15) (place 6 1 52) (
    Run (Block (place 2 3 19) (items_of (
    Declare (int_variable (place 3 9 29) 1 (place 3 11 31) (literal (place 3 13 33) 1) ∷ []) ∷
    []))) ∷
    Run (Return (place 5 3 42) (Some (variable (place 5 10 49) 1 0))) ∷
    []) ∷
    [])

-- a function's name in the initialiser of a variable of that name
--     int f(void) { return 0; }
--     int main(void) {
--       int f = f();
--       return f;
--     }
abbrev calls_a_variable : TranslationUnit
calls_a_variable = unit_of (codes "f" ∷ codes "main" ∷ []) (
    definition int_type (place 1 5 4) 0 [] (place 1 13 12) (place 1 25 24) (
    Run (Return (place 1 15 14) (Some (literal (place 1 22 21) 0))) ∷
    []) ∷
    definition int_type (place 2 5 30) 1 [] (place 2 16 41) (place 5 1 70) (
    Declare (int_variable (place 3 7 49) 0 (place 3 9 51) (call int_type (place 3 12 54) 0 0 []) ∷ []) ∷
    Run (Return (place 4 3 60) (Some (variable (place 4 10 67) 0 0))) ∷
    []) ∷
    [])

-- a second declaration that names itself, which is refused at its name
--     int main(void) {
--       int a = 1;
--       int a = a;
--       return a;
--     }
abbrev declares_itself_again : TranslationUnit
declares_itself_again = unit_of (codes "main" ∷ codes "a" ∷ []) (
    definition int_type (place 1 5 4) 0 [] (place 1 16 15) (place 5 1 55) (
    Declare (int_variable (place 2 7 23) 1 (place 2 9 25) (literal (place 2 11 27) 1) ∷ []) ∷
    Declare (int_variable (place 3 7 36) 1 (place 3 9 38) (variable (place 3 11 40) 1 0) ∷ []) ∷
    Run (Return (place 4 3 45) (Some (variable (place 4 10 52) 1 0))) ∷
    []) ∷
    [])

-- a function with a name of the library
--     int getchar(void) { return 0; }
--     int main(void) { return 0; }
abbrev names_the_library : TranslationUnit
names_the_library = unit_of (codes "getchar" ∷ codes "main" ∷ []) (
    definition int_type (place 1 5 4) 0 [] (place 1 19 18) (place 1 31 30) (
    Run (Return (place 1 21 20) (Some (literal (place 1 28 27) 0))) ∷
    []) ∷
    definition int_type (place 2 5 36) 1 [] (place 2 16 47) (place 2 28 59) (
    Run (Return (place 2 18 49) (Some (literal (place 2 25 56) 0))) ∷
    []) ∷
    [])

-- ---- asserts, with their clauses as they are given

-- an assert of a parameter
--     int f(int a) {
--       //@ assert a > 0;
--       return a;
--     }
--     int main(void) { return 0; }
abbrev asserts_of_a_parameter : ClauseBody → TranslationUnit
asserts_of_a_parameter clause = unit_of (codes "f" ∷ codes "a" ∷ codes "main" ∷ []) (
    definition int_type (place 1 5 4) 0 (int_parameter (place 1 11 10) 1 ∷ []) (place 1 14 13) (place 4 1 47) (
    Asserts (asserted 1 (place 2 7 21) clause ∷ []) ∷
    Run (Return (place 3 3 37) (Some (variable (place 3 10 44) 1 10))) ∷
    []) ∷
    definition int_type (place 5 5 53) 2 [] (place 5 16 64) (place 5 28 76) (
    Run (Return (place 5 18 66) (Some (literal (place 5 25 73) 0))) ∷
    []) ∷
    [])

-- an assert of another function's parameter
--     int f(int a) { return a; }
--     int main(void) {
--       //@ assert a > 0;
--       return 0;
--     }
abbrev asserts_of_another : ClauseBody → TranslationUnit
asserts_of_another clause = unit_of (codes "f" ∷ codes "a" ∷ codes "main" ∷ []) (
    definition int_type (place 1 5 4) 0 (int_parameter (place 1 11 10) 1 ∷ []) (place 1 14 13) (place 1 26 25) (
    Run (Return (place 1 16 15) (Some (variable (place 1 23 22) 1 10))) ∷
    []) ∷
    definition int_type (place 2 5 31) 2 [] (place 2 16 42) (place 5 1 76) (
    Asserts (asserted 1 (place 3 7 50) clause ∷ []) ∷
    Run (Return (place 4 3 66) (Some (literal (place 4 10 73) 0))) ∷
    []) ∷
    [])

-- ---- files with `main`, or without

-- `main` is declared, and not defined
--     int main(void);
--     int f(void) { return 0; }
abbrev declares_main_alone : TranslationUnit
declares_main_alone = unit_of (codes "main" ∷ codes "f" ∷ []) (
    prototype int_type (place 1 5 4) 0 [] (place 1 15 14) ∷
    definition int_type (place 2 5 20) 1 [] (place 2 13 28) (place 2 25 40) (
    Run (Return (place 2 15 30) (Some (literal (place 2 22 37) 0))) ∷
    []) ∷
    [])

-- `main` is defined after its declaration
--     int main(void);
--     int main(void) { return 0; }
abbrev defines_main_behind : TranslationUnit
defines_main_behind = unit_of (codes "main" ∷ []) (
    prototype int_type (place 1 5 4) 0 [] (place 1 15 14) ∷
    definition int_type (place 2 5 20) 0 [] (place 2 16 31) (place 2 28 43) (
    Run (Return (place 2 18 33) (Some (literal (place 2 25 40) 0))) ∷
    []) ∷
    [])

-- `main` has a parameter
--     int f(void) { return 0; }
--     int main(int n) { return n; }
abbrev main_with_a_parameter : TranslationUnit
main_with_a_parameter = unit_of (codes "f" ∷ codes "main" ∷ codes "n" ∷ []) (
    definition int_type (place 1 5 4) 0 [] (place 1 13 12) (place 1 25 24) (
    Run (Return (place 1 15 14) (Some (literal (place 1 22 21) 0))) ∷
    []) ∷
    definition int_type (place 2 5 30) 1 (int_parameter (place 2 14 39) 2 ∷ []) (place 2 17 42) (place 2 29 54) (
    Run (Return (place 2 19 44) (Some (variable (place 2 26 51) 2 39))) ∷
    []) ∷
    [])

-- ---- typings

typed_unit-calls_what_is_defined_later : typed_unit (calls_what_is_defined_later as_read) ≡ Good (calls_what_is_defined_later as_typed)
unfolding library_constant is_library_name
typed_unit-calls_what_is_defined_later = refl

typed_unit-initialises_from_outside : typed_unit (initialises_from_outside as_read) ≡ Good (initialises_from_outside as_typed)
unfolding library_constant is_library_name
typed_unit-initialises_from_outside = refl

typed_unit-hides_a_parameter : typed_unit (hides_a_parameter as_read) ≡ Good (hides_a_parameter as_typed)
unfolding library_constant is_library_name
typed_unit-hides_a_parameter = refl

typed_unit-reads_itself : typed_unit (reads_itself as_read) ≡ Good (reads_itself as_typed)
unfolding library_constant is_library_name
typed_unit-reads_itself = refl

typed_unit-measures_itself : typed_unit (measures_itself as_read unconverted) ≡ Good (measures_itself as_typed cast)
unfolding library_constant is_library_name
typed_unit-measures_itself = refl

typed_unit-is_written_later : typed_unit (is_written_later as_read) ≡ Good (is_written_later as_typed)
unfolding library_constant is_library_name
typed_unit-is_written_later = refl

typed_unit-defined_twice : refusing (typed_unit defined_twice) ≡ Some (record { code = 5; place = place 2 5 30 })
unfolding library_constant is_library_name
typed_unit-defined_twice = refl

typed_unit-unequal_results : refusing (typed_unit unequal_results) ≡ Some (record { code = 5; place = place 2 6 19 })
unfolding library_constant is_library_name
typed_unit-unequal_results = refl

typed_unit-unequal_parameters : refusing (typed_unit unequal_parameters) ≡ Some (record { code = 5; place = place 2 5 25 })
unfolding library_constant is_library_name
typed_unit-unequal_parameters = refl

typed_unit-calls_nothing : refusing (typed_unit calls_nothing) ≡ Some (record { code = 5; place = place 2 26 39 })
unfolding library_constant is_library_name
typed_unit-calls_nothing = refl

typed_unit-calls_ahead : refusing (typed_unit calls_ahead) ≡ Some (record { code = 5; place = place 1 26 25 })
unfolding library_constant is_library_name
typed_unit-calls_ahead = refl

typed_unit-calls_main : refusing (typed_unit calls_main) ≡ Some (record { code = 6; place = place 1 29 28 })
unfolding library_constant is_library_name
typed_unit-calls_main = refl

typed_unit-too_few_arguments : refusing (typed_unit too_few_arguments) ≡ Some (record { code = 6; place = place 2 26 59 })
unfolding library_constant is_library_name
typed_unit-too_few_arguments = refl

typed_unit-gives_void : refusing (typed_unit gives_void) ≡ Some (record { code = 6; place = place 2 24 48 })
unfolding library_constant is_library_name
typed_unit-gives_void = refl

typed_unit-void_parameter : refusing (typed_unit void_parameter) ≡ Some (record { code = 6; place = place 1 12 11 })
unfolding library_constant is_library_name
typed_unit-void_parameter = refl

typed_unit-same_parameters : refusing (typed_unit same_parameters) ≡ Some (record { code = 5; place = place 1 18 17 })
unfolding library_constant is_library_name
typed_unit-same_parameters = refl

typed_unit-declares_a_parameter_again : refusing (typed_unit declares_a_parameter_again) ≡ Some (record { code = 5; place = place 2 7 21 })
unfolding library_constant is_library_name
typed_unit-declares_a_parameter_again = refl

typed_unit-declares_twice : refusing (typed_unit declares_twice) ≡ Some (record { code = 5; place = place 4 9 44 })
unfolding library_constant is_library_name
typed_unit-declares_twice = refl

typed_unit-uses_behind_a_block : refusing (typed_unit uses_behind_a_block) ≡ Some (record { code = 5; place = place 5 10 49 })
unfolding library_constant is_library_name
typed_unit-uses_behind_a_block = refl

typed_unit-calls_a_variable : refusing (typed_unit calls_a_variable) ≡ Some (record { code = 6; place = place 3 12 54 })
unfolding library_constant is_library_name
typed_unit-calls_a_variable = refl

typed_unit-declares_itself_again : refusing (typed_unit declares_itself_again) ≡ Some (record { code = 5; place = place 3 7 36 })
unfolding library_constant is_library_name
typed_unit-declares_itself_again = refl

typed_unit-names_the_library : refusing (typed_unit names_the_library) ≡ Some (record { code = 5; place = place 1 5 4 })
unfolding library_constant is_library_name
typed_unit-names_the_library = refl

-- ---- asserts

noted_unit-asserts_of_a_parameter : noted_unit (asserts_of_a_parameter (Raw (related_forms (place 2 16 30) relation.Gt (name_form (place 2 14 28) 1) (literal_form (place 2 18 32) 0))))
    ≡ Good (asserts_of_a_parameter (Holds (related_terms (place 2 16 30) relation.Gt (variable_term (place 2 14 28) 1 10) (literal_term (place 2 18 32) 0))))
noted_unit-asserts_of_a_parameter = refl

noted_unit-asserts_of_another : refusing (noted_unit (asserts_of_another (Raw (related_forms (place 3 16 59) relation.Gt (name_form (place 3 14 57) 1) (literal_form (place 3 18 61) 0)))))
    ≡ Some (record { code = 5; place = place 3 14 57 })
unfolding library_constant is_library_name
noted_unit-asserts_of_another = refl

-- ---- `main`

main_fault-declares_main_alone : main_fault declares_main_alone.names declares_main_alone.funcs ≡ Some (record { code = 13; place = place 1 1 0 })
main_fault-declares_main_alone = refl

main_fault-defines_main_behind : main_fault defines_main_behind.names defines_main_behind.funcs ≡ None
main_fault-defines_main_behind = refl

main_fault-main_with_a_parameter : main_fault main_with_a_parameter.names main_with_a_parameter.funcs ≡ Some (record { code = 13; place = place 2 5 30 })
main_fault-main_with_a_parameter = refl
