-- Whole runs of small programs with functions, inner declarations and input, by computation: their ends, what they print, the steps
-- left, and what calls leave of the memory.
use Rattle.std.proofs.Common.{◌≡◌, ℕ, pos, negsuc, false, [], ◌∷◌, ◌++◌, Some, None, codes, refl}
use Rattle.c_syntax.specs.declared.types.How.TheVariants as how
use Rattle.c_syntax.specs.declared.types.Segment.TheVariants.{Frames}
use Rattle.c_syntax.specs.declared.types.BlockKind.TheVariants.{Stack}
use Rattle.c_syntax.specs.declared.expression.BinOp.TheVariants.{Add, Sub, Mul, Div, Lt, Gt}
use Rattle.c_syntax.specs.declared.expression.BumpOp.TheVariants.{PostUp}
use Rattle.c_syntax.specs.declared.annotation.Kind.TheVariants.{Assert}
use Rattle.c_syntax.specs.declared.annotation.Relation.TheVariants as relation
use Rattle.c_syntax.specs.Ctypes.{Void, int_type}
use Rattle.c_syntax.specs.Expressions.{Expression}
use Rattle.c_syntax.specs.Logic.{Chain, NoLink, Linked}
use Rattle.c_syntax.specs.Statements.{Eval, Block, If, While, For, Return, NoElse, First, Declare, Run, Asserts}
use Rattle.c_syntax.specs.Programs.{TranslationUnit}
use Rattle.c_model.specs.Memory.{Integer, Number, Block as StoredBlock}
use Rattle.c_model.specs.State.{State, Exits, Broken, Undefined, Spent, Full, ReadFault, Over, Normal, Stop}
use Rattle.c_model.specs.Meaning.{eval, start, run}
use Rattle.c_model.specs.Reports.{report}
use Rattle.worked_rows.proofs.WorkedTrees.{place, literal, letter, variable, binary, assignment, bump, call, library_call, int_variable, int_parameter, items_of, literal_term, variable_term, assertion, definition, unit_of, input_of, failing_behind}
use Rattle.worked_rows.proofs.WorkedTrees.{no_input}

-- ---- programs

-- two parameters, in a call that initialises
--     int minus(int a, int b) { return a - b; }
--     int main(void) {
--       int d = minus(7, 4);
--       return d;
--     }
abbrev subtracts : TranslationUnit
subtracts = unit_of (codes "minus" ∷ codes "a" ∷ codes "b" ∷ codes "main" ∷ codes "d" ∷ []) (
    definition int_type (place 1 5 4) 0 (int_parameter (place 1 15 14) 1 ∷ int_parameter (place 1 22 21) 2 ∷ []) (place 1 25 24) (place 1 41 40) (
    Run (Return (place 1 27 26) (Some (binary (place 1 36 35) Sub (variable (place 1 34 33) 1 14) (variable (place 1 38 37) 2 21)))) ∷
    []) ∷
    definition int_type (place 2 5 46) 3 [] (place 2 16 57) (place 5 1 94) (
    Declare (int_variable (place 3 7 65) 4 (place 3 9 67) (call int_type (place 3 16 74) 0 4
    (literal (place 3 17 75) 7 ∷ literal (place 3 20 78) 4 ∷ [])) ∷ []) ∷
    Run (Return (place 4 3 84) (Some (variable (place 4 10 91) 4 65))) ∷
    []) ∷
    [])

-- a function that calls itself, each call with variables of its own
--     int factorial(int n) {
--       if (n < 2) return 1;
--       int m = factorial(n - 1);
--       return n * m;
--     }
--     int main(void) { return factorial(3); }
abbrev counts_factors : TranslationUnit
counts_factors = unit_of (codes "factorial" ∷ codes "n" ∷ codes "m" ∷ codes "main" ∷ []) (
    definition int_type (place 1 5 4) 0 (int_parameter (place 1 19 18) 1 ∷ []) (place 1 22 21) (place 5 1 90) (
    Run (If (place 2 3 25) (binary (place 2 9 31) Lt (variable (place 2 7 29) 1 18) (literal (place 2 11 33) 2))
    (Return (place 2 14 36) (Some (literal (place 2 21 43) 1))) NoElse) ∷
    Declare (int_variable (place 3 7 52) 2 (place 3 9 54) (call int_type (place 3 20 65) 0 4
    (binary (place 3 23 68) Sub (variable (place 3 21 66) 1 18) (literal (place 3 25 70) 1) ∷ [])) ∷ []) ∷
    Run (Return (place 4 3 76) (Some (binary (place 4 12 85) Mul (variable (place 4 10 83) 1 18) (variable (place 4 14 87) 2 52)))) ∷
    []) ∷
    definition int_type (place 6 5 96) 3 [] (place 6 16 107) (place 6 39 130) (
    Run (Return (place 6 18 109) (Some (call int_type (place 6 34 125) 0 4 (literal (place 6 35 126) 3 ∷ [])))) ∷
    []) ∷
    [])

-- a block's variable that hides another one after its declaration
--     int main(void) {
--       int x = 1;
--       {
--         int y = x;
--         int x = 2;
--         putchar(65 + y);
--         putchar(65 + x);
--       }
--       return x;
--     }
abbrev shadows : TranslationUnit
shadows = unit_of (codes "main" ∷ codes "x" ∷ codes "y" ∷ codes "putchar" ∷ []) (
    definition int_type (place 1 5 4) 0 [] (place 1 16 15) (place 10 1 122) (
    Declare (int_variable (place 2 7 23) 1 (place 2 9 25) (literal (place 2 11 27) 1) ∷ []) ∷
    Run (Block (place 3 3 32) (items_of (
    Declare (int_variable (place 4 9 42) 2 (place 4 11 44) (variable (place 4 13 46) 1 23) ∷ []) ∷
    Declare (int_variable (place 5 9 57) 1 (place 5 11 59) (literal (place 5 13 61) 2) ∷ []) ∷
    Run (Eval (place 6 5 68) (library_call int_type (place 6 12 75) 3 (binary (place 6 16 79) Add (literal (place 6 13 76) 65)
    (variable (place 6 18 81) 2 42) ∷ []))) ∷
    Run (Eval (place 7 5 89) (library_call int_type (place 7 12 96) 3 (binary (place 7 16 100) Add (literal (place 7 13 97) 65)
    (variable (place 7 18 102) 1 57) ∷ []))) ∷
    []))) ∷
    Run (Return (place 9 3 112) (Some (variable (place 9 10 119) 1 23))) ∷
    []) ∷
    [])

-- a variable of a loop's header, and one of its body
--     int main(void) {
--       int i = 7;
--       for (int i = 0; i < 3; i++) {
--         int j = i + 1;
--         putchar('0' + j);
--       }
--       return i;
--     }
abbrev counts_in_a_loop : TranslationUnit
counts_in_a_loop = unit_of (codes "main" ∷ codes "i" ∷ codes "j" ∷ codes "putchar" ∷ []) (
    definition int_type (place 1 5 4) 0 [] (place 1 16 15) (place 8 1 119) (
    Declare (int_variable (place 2 7 23) 1 (place 2 9 25) (literal (place 2 11 27) 7) ∷ []) ∷
    Run (For (place 3 3 32) [] (First (Declare (int_variable (place 3 12 41) 1 (place 3 14 43) (literal (place 3 16 45) 0) ∷ [])))
    (Some (binary (place 3 21 50) Lt (variable (place 3 19 48) 1 41) (literal (place 3 23 52) 3)))
    (Some (bump (place 3 27 56) PostUp (variable (place 3 26 55) 1 41))) (Block (place 3 31 60) (items_of (
    Declare (int_variable (place 4 9 70) 2 (place 4 11 72) (binary (place 4 15 76) Add (variable (place 4 13 74) 1 41) (literal (place 4 17 78) 1)) ∷ []) ∷
    Run (Eval (place 5 5 85) (library_call int_type (place 5 12 92) 3 (binary (place 5 17 97) Add (letter (place 5 13 93) 48)
    (variable (place 5 19 99) 2 70) ∷ []))) ∷
    [])))) ∷
    Run (Return (place 7 3 109) (Some (variable (place 7 10 116) 1 23))) ∷
    []) ∷
    [])

-- what is read is written, up to the end, which stays
--     int main(void) {
--       int c = getchar();
--       while (c > 0 - 1) {
--         putchar(c);
--         c = getchar();
--       }
--       return getchar();
--     }
abbrev echoes : TranslationUnit
echoes = unit_of (codes "main" ∷ codes "c" ∷ codes "getchar" ∷ codes "putchar" ∷ []) (
    definition int_type (place 1 5 4) 0 [] (place 1 16 15) (place 8 1 119) (
    Declare (int_variable (place 2 7 23) 1 (place 2 9 25) (library_call int_type (place 2 18 34) 2 []) ∷ []) ∷
    Run (While (place 3 3 40) [] (binary (place 3 12 49) Gt (variable (place 3 10 47) 1 23)
    (binary (place 3 16 53) Sub (literal (place 3 14 51) 0) (literal (place 3 18 55) 1))) (Block (place 3 21 58) (items_of (
    Run (Eval (place 4 5 64) (library_call int_type (place 4 12 71) 3 (variable (place 4 13 72) 1 23 ∷ []))) ∷
    Run (Eval (place 5 5 80) (assignment (place 5 7 82) (variable (place 5 5 80) 1 23) (library_call int_type (place 5 16 91) 2 []))) ∷
    [])))) ∷
    Run (Return (place 7 3 101) (Some (library_call int_type (place 7 17 115) 2 []))) ∷
    []) ∷
    [])

-- the run is ended from inside a call
--     void leave(int k) {
--       putchar('x');
--       exit(k);
--       putchar('y');
--     }
--     int main(void) {
--       leave(4);
--       putchar('z');
--       return 0;
--     }
abbrev leaves_from_a_call : TranslationUnit
leaves_from_a_call = unit_of (codes "leave" ∷ codes "k" ∷ codes "putchar" ∷ codes "exit" ∷ codes "main" ∷ []) (
    definition Void (place 1 6 5) 0 (int_parameter (place 1 16 15) 1 ∷ []) (place 1 19 18) (place 5 1 63) (
    Run (Eval (place 2 3 22) (library_call int_type (place 2 10 29) 2 (letter (place 2 11 30) 120 ∷ []))) ∷
    Run (Eval (place 3 3 38) (library_call Void (place 3 7 42) 3 (variable (place 3 8 43) 1 15 ∷ []))) ∷
    Run (Eval (place 4 3 49) (library_call int_type (place 4 10 56) 2 (letter (place 4 11 57) 121 ∷ []))) ∷
    []) ∷
    definition int_type (place 6 5 69) 4 [] (place 6 16 80) (place 10 1 122) (
    Run (Eval (place 7 3 84) (call Void (place 7 8 89) 0 5 (literal (place 7 9 90) 4 ∷ []))) ∷
    Run (Eval (place 8 3 96) (library_call int_type (place 8 10 103) 2 (letter (place 8 11 104) 122 ∷ []))) ∷
    Run (Return (place 9 3 112) (Some (literal (place 9 10 119) 0))) ∷
    []) ∷
    [])

-- the closing brace of a function of type void, and of one of type int (C99 6.9.1 p12)
--     void skip(int x) {
--       if (x) return;
--       putchar('s');
--     }
--     int one(int x) {
--       if (x) return 1;
--     }
--     int main(void) {
--       skip(1);
--       skip(0);
--       int x = one(1);
--       putchar('0' + x);
--       x = one(0);
--       return x;
--     }
abbrev falls_off : TranslationUnit
falls_off = unit_of (codes "skip" ∷ codes "x" ∷ codes "putchar" ∷ codes "one" ∷ codes "main" ∷ []) (
    definition Void (place 1 6 5) 0 (int_parameter (place 1 15 14) 1 ∷ []) (place 1 18 17) (place 4 1 52) (
    Run (If (place 2 3 21) (variable (place 2 7 25) 1 14) (Return (place 2 10 28) None) NoElse) ∷
    Run (Eval (place 3 3 38) (library_call int_type (place 3 10 45) 2 (letter (place 3 11 46) 115 ∷ []))) ∷
    []) ∷
    definition int_type (place 5 5 58) 3 (int_parameter (place 5 13 66) 1 ∷ []) (place 5 16 69) (place 7 1 90) (
    Run (If (place 6 3 73) (variable (place 6 7 77) 1 66) (Return (place 6 10 80) (Some (literal (place 6 17 87) 1))) NoElse) ∷
    []) ∷
    definition int_type (place 8 5 96) 4 [] (place 8 16 107) (place 15 1 195) (
    Run (Eval (place 9 3 111) (call Void (place 9 7 115) 0 5 (literal (place 9 8 116) 1 ∷ []))) ∷
    Run (Eval (place 10 3 122) (call Void (place 10 7 126) 0 5 (literal (place 10 8 127) 0 ∷ []))) ∷
    Declare (int_variable (place 11 7 137) 1 (place 11 9 139) (call int_type (place 11 14 144) 3 58 (literal (place 11 15 145) 1 ∷ [])) ∷ []) ∷
    Run (Eval (place 12 3 151) (library_call int_type (place 12 10 158) 2
    (binary (place 12 15 163) Add (letter (place 12 11 159) 48) (variable (place 12 17 165) 1 137) ∷ []))) ∷
    Run (Eval (place 13 3 171) (assignment (place 13 5 173) (variable (place 13 3 171) 1 137)
    (call int_type (place 13 10 178) 3 58 (literal (place 13 11 179) 0 ∷ [])))) ∷
    Run (Return (place 14 3 185) (Some (variable (place 14 10 192) 1 137))) ∷
    []) ∷
    [])

-- an assertion of a parameter, which holds in the first call
--     void check(int n) {
--       //@ assert n > 0;
--       putchar('c');
--     }
--     int main(void) {
--       check(1);
--       check(0);
--       return 0;
--     }
abbrev asserts_in_a_call : TranslationUnit
asserts_in_a_call = unit_of (codes "check" ∷ codes "n" ∷ codes "putchar" ∷ codes "main" ∷ []) (
    definition Void (place 1 6 5) 0 (int_parameter (place 1 16 15) 1 ∷ []) (place 1 19 18) (place 4 1 56) (
    Asserts (assertion 1 (place 2 7 26) (Chain (place 2 16 35) (variable_term (place 2 14 33) 1 15)
    (Linked (place 2 16 35) relation.Gt (literal_term (place 2 18 37) 0) NoLink)) ∷ []) ∷
    Run (Eval (place 3 3 42) (library_call int_type (place 3 10 49) 2 (letter (place 3 11 50) 99 ∷ []))) ∷
    []) ∷
    definition int_type (place 5 5 62) 3 [] (place 5 16 73) (place 9 1 111) (
    Run (Eval (place 6 3 77) (call Void (place 6 8 82) 0 5 (literal (place 6 9 83) 1 ∷ []))) ∷
    Run (Eval (place 7 3 89) (call Void (place 7 8 94) 0 5 (literal (place 7 9 95) 0 ∷ []))) ∷
    Run (Return (place 8 3 101) (Some (literal (place 8 10 108) 0))) ∷
    []) ∷
    [])

-- undefined arguments, of which the left one counts
--     int f(int a, int b) { return 0; }
--     int main(void) { return f(1 / 0, 2 / 0); }
abbrev divides_in_arguments : TranslationUnit
divides_in_arguments = unit_of (codes "f" ∷ codes "a" ∷ codes "b" ∷ codes "main" ∷ []) (
    definition int_type (place 1 5 4) 0 (int_parameter (place 1 11 10) 1 ∷ int_parameter (place 1 18 17) 2 ∷ []) (place 1 21 20) (place 1 33 32) (
    Run (Return (place 1 23 22) (Some (literal (place 1 30 29) 0))) ∷
    []) ∷
    definition int_type (place 2 5 38) 3 [] (place 2 16 49) (place 2 42 75) (
    Run (Return (place 2 18 51) (Some (call int_type (place 2 26 59) 0 4
    (binary (place 2 29 62) Div (literal (place 2 27 60) 1) (literal (place 2 31 64) 0) ∷ binary (place 2 36 69) Div (literal (place 2 34 67) 2)
    (literal (place 2 38 71) 0) ∷ [])))) ∷
    []) ∷
    [])

-- not typed: a function that uses a variable of its caller's
--     int f(void) { return x; }
--     int main(void) {
--       int x = 5;
--       return f();
--     }
abbrev sees_another : TranslationUnit
sees_another = unit_of (codes "f" ∷ codes "x" ∷ codes "main" ∷ []) (
    definition int_type (place 1 5 4) 0 [] (place 1 13 12) (place 1 25 24) (
    Run (Return (place 1 15 14) (Some (variable (place 1 22 21) 1 49))) ∷
    []) ∷
    definition int_type (place 2 5 30) 2 [] (place 2 16 41) (place 5 1 70) (
    Declare (int_variable (place 3 7 49) 1 (place 3 9 51) (literal (place 3 11 53) 5) ∷ []) ∷
    Run (Return (place 4 3 58) (Some (call int_type (place 4 11 66) 0 4 []))) ∷
    []) ∷
    [])

-- ---- runs

run-subtracts : run subtracts no_input 10000000 ≡ record { final = Exits (pos 3); output = []; left = 9999999 }
run-subtracts = refl

-- a step is due at each call of a function of the file
run-counts_factors : run counts_factors no_input 10000000 ≡ record { final = Exits (pos 6); output = []; left = 9999997 }
run-counts_factors = refl

run-counts_factors-enough : run counts_factors no_input 3 ≡ record { final = Exits (pos 6); output = []; left = 0 }
run-counts_factors-enough = refl

run-counts_factors-spent : run counts_factors no_input 2 ≡ record { final = Spent; output = []; left = 0 }
run-counts_factors-spent = refl

run-shadows : run shadows no_input 10000000 ≡ record { final = Exits (pos 1); output = codes "BC"; left = 10000000 }
run-shadows = refl

run-counts_in_a_loop : run counts_in_a_loop no_input 10000000 ≡ record { final = Exits (pos 7); output = codes "123"; left = 9999997 }
run-counts_in_a_loop = refl

-- a call of a function of the library takes no step
run-echoes : run echoes (input_of (codes "ab")) 10000000 ≡ record { final = Exits (negsuc 0); output = codes "ab"; left = 9999998 }
run-echoes = refl

run-echoes-nothing : run echoes no_input 10000000 ≡ record { final = Exits (negsuc 0); output = []; left = 10000000 }
run-echoes-nothing = refl

-- the fault comes where a byte is asked for after the last one
run-echoes-fault : run echoes (failing_behind (codes "ab")) 10000000 ≡ record { final = ReadFault; output = codes "ab"; left = 9999998 }
run-echoes-fault = refl

run-leaves_from_a_call : run leaves_from_a_call no_input 10000000 ≡ record { final = Exits (pos 4); output = codes "x"; left = 9999999 }
run-leaves_from_a_call = refl

run-falls_off : run falls_off no_input 10000000 ≡ record { final = Undefined (place 7 1 90); output = codes "s1"; left = 9999996 }
run-falls_off = refl

run-asserts_in_a_call : run asserts_in_a_call no_input 10000000 ≡ record { final = Broken 1 2 Assert how.False; output = codes "c"; left = 9999998 }
run-asserts_in_a_call = refl

-- arguments are evaluated before the step
run-divides_in_arguments : run divides_in_arguments no_input 0 ≡ record { final = Undefined (place 2 29 62); output = []; left = 0 }
run-divides_in_arguments = refl

run-sees_another : run sees_another no_input 10000000 ≡ record { final = Undefined (place 1 22 21); output = []; left = 9999999 }
run-sees_another = refl

-- ---- a call from a state

-- minus(7, 4)
abbrev seven_minus_four : Expression
seven_minus_four = call int_type (place 3 16 74) 0 4 (literal (place 3 17 75) 7 ∷ literal (place 3 20 78) 4 ∷ [])

-- the block of a parameter of type int, after its call
abbrev dead_block : ℕ → StoredBlock
dead_block n = record { kind = Stack; size = 4; live = false; bytes = Number n ∷ Number 0 ∷ Number 0 ∷ Number 0 ∷ []; place = 0 }

-- with so many calls active, and so many steps left
abbrev busy : ℕ → ℕ → State
busy calls steps = record (start subtracts no_input steps) { calls = calls }

-- the parameters' blocks are born in order, and none outlives the call
eval-seven_minus_four : eval subtracts 10 seven_minus_four (busy 1 5)
    ≡ Normal (Integer (pos 3)) (record (busy 1 4) { store = dead_block 7 ∷ dead_block 4 ∷ [] })
eval-seven_minus_four = refl

-- the 65,536th active call
eval-seven_minus_four-last : eval subtracts 10 seven_minus_four (busy 65535 5)
    ≡ Normal (Integer (pos 3)) (record (busy 65535 4) { store = dead_block 7 ∷ dead_block 4 ∷ [] })
eval-seven_minus_four-last = refl

eval-seven_minus_four-full : eval subtracts 10 seven_minus_four (busy 65536 5) ≡ Stop (Over (Full Frames)) (busy 65536 4)
eval-seven_minus_four-full = refl

-- the step is due before the frame
eval-seven_minus_four-spent : eval subtracts 10 seven_minus_four (busy 65536 0) ≡ Stop (Over Spent) (busy 65536 0)
eval-seven_minus_four-spent = refl

-- ---- reports

report-echoes-fault : report (run echoes (failing_behind (codes "ab")) 10000000).final
    ≡ Some (record { status = 7; line = codes "eacsl: read fault" ++ 10 ∷ [] })
report-echoes-fault = refl

report-full-frames : report (Full Frames) ≡ Some (record { status = 4; line = codes "eacsl: full frames" ++ 10 ∷ [] })
report-full-frames = refl
