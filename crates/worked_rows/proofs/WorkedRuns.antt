-- Whole runs of small programs, by computation: their ends, what they print, the steps left and the lines of their reports.
use Rattle.std.proofs.Common.{◌≡◌, pos, negsuc, [], ◌∷◌, ◌++◌, Some, None, codes, refl}
use Rattle.std.specs.Fmt.{digits}
use Rattle.c_syntax.specs.declared.types.CInt.TheVariants.{U8, I32, U32, I64, U64}
use Rattle.c_syntax.specs.declared.types.How.TheVariants as how
use Rattle.c_syntax.specs.declared.expression.BinOp.TheVariants.{Add, Sub, Div, Eq, Lt, Gt}
use Rattle.c_syntax.specs.declared.expression.UnOp.TheVariants.{Flip}
use Rattle.c_syntax.specs.declared.expression.BumpOp.TheVariants.{PostUp, PostDown}
use Rattle.c_syntax.specs.declared.annotation.Kind.TheVariants.{Assert}
use Rattle.c_syntax.specs.declared.annotation.Relation.TheVariants as relation
use Rattle.c_syntax.specs.Ctypes.{Int, int_type}
use Rattle.c_syntax.specs.Expressions.{Node, Number, Unary, Binary, Both, Choice, Assign, SizeOfType, SizeOfExpr}
use Rattle.c_syntax.specs.Logic.{Chain, NoLink, Linked}
use Rattle.c_syntax.specs.Statements.{Eval, Block, If, While, Do, For, Break, Continue, Return, NoElse, Else, First, Declare, Run, Asserts}
use Rattle.c_syntax.specs.Programs.{TranslationUnit}
use Rattle.c_model.specs.State.{Exits, Broken, Undefined, Spent}
use Rattle.c_model.specs.Meaning.{run}
use Rattle.c_model.specs.Reports.{report}
use Rattle.worked_rows.proofs.WorkedTrees.{place, literal, letter, typed_variable, variable, binary, assignment, compound_assignment, bump}
use Rattle.worked_rows.proofs.WorkedTrees.{cast, putchar_call, object_of, int_variable, unwritten_int, items_of, literal_term, variable_term, binary_term}
use Rattle.worked_rows.proofs.WorkedTrees.{assertion, main_alone, no_input}
use Rattle.worked_rows.proofs.WorkedTypings.{as_typed, reads_itself, measures_itself, is_written_later}

-- ---- programs

-- one assertion, which holds
--     int main(void) {
--       int x = 2;
--       //@ assert x + 1 == 3;
--       putchar('A');
--       return 0;
--     }
abbrev adds_and_asserts : TranslationUnit
adds_and_asserts = main_alone (codes "main" ∷ codes "x" ∷ codes "putchar" ∷ []) (place 1 5 4) (place 1 16 15) (place 6 1 83) (
    Declare (int_variable (place 2 7 23) 1 (place 2 9 25) (literal (place 2 11 27) 2) ∷ []) ∷
    Asserts (assertion 1 (place 3 7 36) (Chain (place 3 20 49) (binary_term (place 3 16 45) Add (variable_term (place 3 14 43) 1 23) (literal_term (place 3 18 47) 1)) (Linked (place 3 20 49) relation.Eq (literal_term (place 3 23 52) 3) NoLink)) ∷ [])
    ∷
    Run (Eval (place 4 3 57) (putchar_call (place 4 10 64) 2 (letter (place 4 11 65) 65))) ∷
    Run (Return (place 5 3 73) (Some (literal (place 5 10 80) 0))) ∷
    [])

-- two assertions, the second false
--     int main(void) {
--       int x = 2;
--       putchar('A');
--       //@ assert x == 2;
--       //@ assert x > 2;
--       putchar('B');
--       return 0;
--     }
abbrev breaks_an_assertion : TranslationUnit
breaks_an_assertion = main_alone (codes "main" ∷ codes "x" ∷ codes "putchar" ∷ []) (place 1 5 4) (place 1 16 15) (place 8 1 115) (
    Declare (int_variable (place 2 7 23) 1 (place 2 9 25) (literal (place 2 11 27) 2) ∷ []) ∷
    Run (Eval (place 3 3 32) (putchar_call (place 3 10 39) 2 (letter (place 3 11 40) 65))) ∷
    Asserts (assertion 1 (place 4 7 52) (Chain (place 4 16 61) (variable_term (place 4 14 59) 1 23) (Linked (place 4 16 61) relation.Eq (literal_term (place 4 19 64) 2) NoLink)) ∷ []) ∷
    Asserts (assertion 2 (place 5 7 73) (Chain (place 5 16 82) (variable_term (place 5 14 80) 1 23) (Linked (place 5 16 82) relation.Gt (literal_term (place 5 18 84) 2) NoLink)) ∷ []) ∷
    Run (Eval (place 6 3 89) (putchar_call (place 6 10 96) 2 (letter (place 6 11 97) 66))) ∷
    Run (Return (place 7 3 105) (Some (literal (place 7 10 112) 0))) ∷
    [])

-- a loop without end
--     int main(void) { while (1) putchar('x'); }
abbrev prints_for_ever : TranslationUnit
prints_for_ever = main_alone (codes "main" ∷ codes "putchar" ∷ []) (place 1 5 4) (place 1 16 15) (place 1 42 41) (
    Run (While (place 1 18 17) [] (literal (place 1 25 24) 1) (Eval (place 1 28 27) (putchar_call (place 1 35 34) 1 (letter (place 1 36 35) 120)))) ∷
    [])

-- an overflow of int (C99 6.5 p5)
--     int main(void) {
--       int x = 2147483647;
--       putchar('A');
--       x = x + 1;
--       putchar('B');
--       return 0;
--     }
abbrev overflows : TranslationUnit
overflows = main_alone (codes "main" ∷ codes "x" ∷ codes "putchar" ∷ []) (place 1 5 4) (place 1 16 15) (place 7 1 96) (
    Declare (int_variable (place 2 7 23) 1 (place 2 9 25) (literal (place 2 11 27) 2147483647) ∷ []) ∷
    Run (Eval (place 3 3 41) (putchar_call (place 3 10 48) 2 (letter (place 3 11 49) 65))) ∷
    Run (Eval (place 4 3 57) (assignment (place 4 5 59) (variable (place 4 3 57) 1 23) (binary (place 4 9 63) Add (variable (place 4 7 61) 1 23) (literal (place 4 11 65) 1)))) ∷
    Run (Eval (place 5 3 70) (putchar_call (place 5 10 77) 2 (letter (place 5 11 78) 66))) ∷
    Run (Return (place 6 3 86) (Some (literal (place 6 10 93) 0))) ∷
    [])

-- choices inside a loop, a chain of relations, and a negative exit value
--     int main(void) {
--       int n = 3;
--       int s = 0;
--       while (n > 0) {
--         if (n == 2) {
--           putchar('b');
--         } else {
--           if (n < 2) putchar('c'); else putchar('a');
--         }
--         s = s - n;
--         n = n - 1;
--       }
--       //@ assert 0 - 7 < s <= 0 - 6 < n;
--       return s;
--     }
abbrev counts_down : TranslationUnit
counts_down = main_alone (codes "main" ∷ codes "n" ∷ codes "s" ∷ codes "putchar" ∷ []) (place 1 5 4) (place 1 16 15) (place 15 1 251) (
    Declare (int_variable (place 2 7 23) 1 (place 2 9 25) (literal (place 2 11 27) 3) ∷ []) ∷
    Declare (int_variable (place 3 7 36) 2 (place 3 9 38) (literal (place 3 11 40) 0) ∷ []) ∷
    Run (While (place 4 3 45) [] (binary (place 4 12 54) Gt (variable (place 4 10 52) 1 23) (literal (place 4 14 56) 0)) (Block (place 4 17 59) (items_of (
    Run (If (place 5 5 65) (binary (place 5 11 71) Eq (variable (place 5 9 69) 1 23) (literal (place 5 14 74) 2)) (Block (place 5 17 77) (items_of (
    Run (Eval (place 6 7 85) (putchar_call (place 6 14 92) 3 (letter (place 6 15 93) 98))) ∷
    []))) (Else (Block (place 7 12 110) (items_of (
    Run (If (place 8 7 118) (binary (place 8 13 124) Lt (variable (place 8 11 122) 1 23) (literal (place 8 15 126) 2)) (Eval (place 8 18 129) (putchar_call (place 8 25 136) 3 (letter (place 8 26 137) 99)))
    (Else (Eval (place 8 37 148) (putchar_call (place 8 44 155) 3 (letter (place 8 45 156) 97))))) ∷
    []))))) ∷
    Run (Eval (place 10 5 172) (assignment (place 10 7 174) (variable (place 10 5 172) 2 36) (binary (place 10 11 178) Sub (variable (place 10 9 176) 2 36) (variable (place 10 13 180) 1 23)))) ∷
    Run (Eval (place 11 5 187) (assignment (place 11 7 189) (variable (place 11 5 187) 1 23) (binary (place 11 11 193) Sub (variable (place 11 9 191) 1 23) (literal (place 11 13 195) 1)))) ∷
    [])))) ∷
    Asserts (assertion 1 (place 13 7 208) (Chain (place 13 20 221) (binary_term (place 13 16 217) Sub (literal_term (place 13 14 215) 0) (literal_term (place 13 18 219) 7)) (Linked (place 13 20 221) relation.Lt (variable_term (place 13 22 223) 2 36)
    (Linked (place 13 24 225) relation.Le (binary_term (place 13 29 230) Sub (literal_term (place 13 27 228) 0) (literal_term (place 13 31 232) 6)) (Linked (place 13 33 234) relation.Lt (variable_term (place 13 35 236) 1 23) NoLink)))) ∷ []) ∷
    Run (Return (place 14 3 241) (Some (variable (place 14 10 248) 2 36))) ∷
    [])

-- loops that are continued and left
--     int main(void) {
--       int n = 0;
--       for (int i = 0; i < 9; i++) {
--         if (i == 1) continue;
--         if (i == 4) break;
--         putchar('0' + i);
--         n += i;
--       }
--       do {
--         n--;
--         putchar('d');
--       } while (n > 3);
--       return n;
--     }
abbrev leaves_loops : TranslationUnit
leaves_loops = main_alone (codes "main" ∷ codes "n" ∷ codes "i" ∷ codes "putchar" ∷ []) (place 1 5 4) (place 1 16 15) (place 14 1 214) (
    Declare (int_variable (place 2 7 23) 1 (place 2 9 25) (literal (place 2 11 27) 0) ∷ []) ∷
    Run (For (place 3 3 32) [] (First (Declare (int_variable (place 3 12 41) 2 (place 3 14 43) (literal (place 3 16 45) 0) ∷ []))) (Some (binary (place 3 21 50) Lt (variable (place 3 19 48) 2 41) (literal (place 3 23 52) 9)))
    (Some (bump (place 3 27 56) PostUp (variable (place 3 26 55) 2 41))) (Block (place 3 31 60) (items_of (
    Run (If (place 4 5 66) (binary (place 4 11 72) Eq (variable (place 4 9 70) 2 41) (literal (place 4 14 75) 1)) (Continue (place 4 17 78)) NoElse) ∷
    Run (If (place 5 5 92) (binary (place 5 11 98) Eq (variable (place 5 9 96) 2 41) (literal (place 5 14 101) 4)) (Break (place 5 17 104)) NoElse) ∷
    Run (Eval (place 6 5 115) (putchar_call (place 6 12 122) 3 (binary (place 6 17 127) Add (letter (place 6 13 123) 48) (variable (place 6 19 129) 2 41)))) ∷
    Run (Eval (place 7 5 137) (compound_assignment (place 7 7 139) Add (variable (place 7 5 137) 1 23) (variable (place 7 10 142) 2 41))) ∷
    [])))) ∷
    Run (Do (place 9 3 151) (Block (place 9 6 154) (items_of (
    Run (Eval (place 10 5 160) (bump (place 10 6 161) PostDown (variable (place 10 5 160) 1 23))) ∷
    Run (Eval (place 11 5 169) (putchar_call (place 11 12 176) 3 (letter (place 11 13 177) 100))) ∷
    []))) (binary (place 12 14 196) Gt (variable (place 12 12 194) 1 23) (literal (place 12 16 198) 3))) ∷
    Run (Return (place 13 3 204) (Some (variable (place 13 10 211) 1 23))) ∷
    [])

-- conversions of operands and results, and a division that is not evaluated
--     int main(void) {
--       unsigned char c = 200;
--       unsigned long u = sizeof c + sizeof(long);
--       c += 100;
--       return c == 44 && ~0u > 5 ? u : 1 / 0;
--     }
abbrev computes_in_types : TranslationUnit
computes_in_types = main_alone (codes "main" ∷ codes "c" ∷ codes "u" ∷ []) (place 1 5 4) (place 1 16 15) (place 6 1 140) (
    Declare (object_of (Int U8) (place 2 17 33) 1 (place 2 19 35) (cast U8 (literal (place 2 21 37) 200)) ∷ []) ∷
    Declare (object_of (Int U64) (place 3 17 58) 2 (place 3 19 60) (Node (place 3 30 71) (Int U64) (Binary Add (Node (place 3 21 62) (Int U64) (SizeOfExpr (typed_variable (place 3 28 69) U8 1 33)))
    (Node (place 3 32 73) (Int U64) (SizeOfType (Int I64))))) ∷ []) ∷
    Run (Eval (place 4 3 89) (Node (place 4 5 91) (Int U8) (Assign (Some Add) (typed_variable (place 4 3 89) U8 1 33) (literal (place 4 8 94) 100)))) ∷
    Run (Return (place 5 3 101) (Some (cast I32 (Node (place 5 29 127) (Int U64) (Choice
    (Node (place 5 18 116) int_type (Both
    (binary (place 5 12 110) Eq (cast I32 (typed_variable (place 5 10 108) U8 1 33)) (literal (place 5 15 113) 44))
    (binary (place 5 25 123) Gt (Node (place 5 21 119) (Int U32) (Unary Flip (Node (place 5 22 120) (Int U32) (Number (pos 0) (Some U32))))) (cast U32 (literal (place 5 27 125) 5)))))
    (typed_variable (place 5 31 129) U64 2 58)
    (cast U64 (binary (place 5 37 135) Div (literal (place 5 35 133) 1) (literal (place 5 39 137) 0)))))))) ∷
    [])

-- an assertion of a variable that is not written yet
--     int main(void) {
--       int x;
--       //@ assert x == x;
--       return 0;
--     }
abbrev asserts_of_nothing_written : TranslationUnit
asserts_of_nothing_written = main_alone (codes "main" ∷ codes "x" ∷ []) (place 1 5 4) (place 1 16 15) (place 5 1 59) (
    Declare (unwritten_int (place 2 7 23) 1 ∷ []) ∷
    Asserts (assertion 1 (place 3 7 32) (Chain (place 3 16 41) (variable_term (place 3 14 39) 1 23) (Linked (place 3 16 41) relation.Eq (variable_term (place 3 19 44) 1 23) NoLink)) ∷ []) ∷
    Run (Return (place 4 3 49) (Some (literal (place 4 10 56) 0))) ∷
    [])

-- ---- runs

run-adds_and_asserts : run adds_and_asserts no_input 10000000 ≡ record { final = Exits (pos 0); output = codes "A"; left = 10000000 }
run-adds_and_asserts = refl

run-adds_and_asserts-longer : run adds_and_asserts no_input 1000000000000 ≡ record { final = Exits (pos 0); output = codes "A"; left = 1000000000000 }
run-adds_and_asserts-longer = refl

run-breaks_an_assertion : run breaks_an_assertion no_input 10000000 ≡ record { final = Broken 2 5 Assert how.False; output = codes "A"; left = 10000000 }
run-breaks_an_assertion = refl

run-breaks_an_assertion-longer : run breaks_an_assertion no_input 1000000000000 ≡ record { final = Broken 2 5 Assert how.False; output = codes "A"; left = 1000000000000 }
run-breaks_an_assertion-longer = refl

run-overflows : run overflows no_input 10000000 ≡ record { final = Undefined (place 4 9 63); output = codes "A"; left = 10000000 }
run-overflows = refl

run-overflows-longer : run overflows no_input 1000000000000 ≡ record { final = Undefined (place 4 9 63); output = codes "A"; left = 1000000000000 }
run-overflows-longer = refl

run-counts_down : run counts_down no_input 10000000 ≡ record { final = Exits (negsuc 5); output = codes "abc"; left = 9999997 }
run-counts_down = refl

run-counts_down-longer : run counts_down no_input 1000000000000 ≡ record { final = Exits (negsuc 5); output = codes "abc"; left = 999999999997 }
run-counts_down-longer = refl

run-prints_for_ever : run prints_for_ever no_input 5 ≡ record { final = Spent; output = codes "xxxxx"; left = 0 }
run-prints_for_ever = refl

run-leaves_loops : run leaves_loops no_input 10000000 ≡ record { final = Exits (pos 3); output = codes "023dd"; left = 9999993 }
run-leaves_loops = refl

run-leaves_loops-spent : run leaves_loops no_input 6 ≡ record { final = Spent; output = codes "023d"; left = 0 }
run-leaves_loops-spent = refl

run-computes_in_types : run computes_in_types no_input 10000000 ≡ record { final = Exits (pos 9); output = []; left = 10000000 }
run-computes_in_types = refl

-- a variable is unwritten in its own initialiser, and without one until it is assigned
run-reads_itself : run (reads_itself as_typed) no_input 10000000 ≡ record { final = Undefined (place 4 13 46); output = []; left = 10000000 }
run-reads_itself = refl

run-measures_itself : run (measures_itself as_typed cast) no_input 10000000 ≡ record { final = Exits (pos 0); output = 1 ∷ []; left = 10000000 }
run-measures_itself = refl

run-is_written_later : run (is_written_later as_typed) no_input 10000000 ≡ record { final = Exits (pos 2); output = []; left = 10000000 }
run-is_written_later = refl

run-asserts_of_nothing_written : run asserts_of_nothing_written no_input 10000000 ≡ record { final = Broken 1 3 Assert how.Undefined; output = []; left = 10000000 }
run-asserts_of_nothing_written = refl

-- ---- reports

report-adds_and_asserts : report (run adds_and_asserts no_input 10000000).final ≡ Some (record { status = 0; line = codes "eacsl: exit 0" ++ 10 ∷ [] })
unfolding digits
report-adds_and_asserts = refl

report-breaks_an_assertion : report (run breaks_an_assertion no_input 10000000).final ≡ Some (record { status = 1; line = codes "eacsl: annotation 2, line 5: assert is false" ++ 10 ∷ [] })
unfolding digits
report-breaks_an_assertion = refl

report-prints_for_ever : report (run prints_for_ever no_input 5).final ≡ Some (record { status = 5; line = codes "eacsl: steps spent" ++ 10 ∷ [] })
report-prints_for_ever = refl

report-overflows : report (run overflows no_input 10000000).final ≡ None
report-overflows = refl

report-counts_down : report (run counts_down no_input 10000000).final ≡ Some (record { status = 0; line = codes "eacsl: exit -6" ++ 10 ∷ [] })
unfolding digits
report-counts_down = refl
