-- Runs of small programs with contracts and labels, by computation.
use Rattle.std.proofs.Common.{◌≡◌, ℕ, pos, [], ◌∷◌, None, codes, refl}
use Rattle.c_syntax.specs.declared.types.How.TheVariants as how
use Rattle.c_syntax.specs.declared.expression.BinOp.TheVariants.{Add, Sub, Mul, Div, Lt, Gt}
use Rattle.c_syntax.specs.declared.annotation.Kind.TheVariants.{Assert, Requires, Assumes, Ensures, Complete, Disjoint}
use Rattle.c_syntax.specs.declared.annotation.Relation.TheVariants as relation
use Rattle.c_syntax.specs.declared.logic.Connective.TheVariants.{And}
use Rattle.c_syntax.specs.Ctypes.{Void, int_type}
use Rattle.c_syntax.specs.declared.logic.Label.TheVariants.{Pre, Marked}
use Rattle.c_syntax.specs.Logic.{Connected}
use Rattle.c_syntax.specs.Statements.{Eval, Block, If, While, Return, Labelled, NoElse, Declare, Run, Asserts}
use Rattle.c_syntax.specs.Programs.{TranslationUnit}
use Rattle.c_model.specs.State.{Exits, Broken}
use Rattle.c_model.specs.Meaning.{run}
use Rattle.worked_rows.proofs.WorkedTrees.{assignment, binary, call, int_variable, int_parameter, items_of, variable_term, binary_term, definition, unit_of, no_input}
use Rattle.worked_rows.proofs.WorkedClauses.{at, result, at_label, is, plus, number, noted, covers, contracted, named, sets, calls, returns, lit, var, minus_one, x_of}
use Rattle.worked_rows.proofs.WorkedClauses.{formal}

-- ---- a parameter that changes
--     /*@ requires n >= 0;
--       @ ensures \result == \old(n) + 1 && n == \old(n); */
--     int next(int n) { n = n + 1; return n; }
--     int main(void) {
--       int x = 0;
--       x = next(4);
--       //@ assert x == 5;
--       x = next(-1);
--       return 0;
--     }
abbrev pub counts_on : TranslationUnit
counts_on = unit_of (codes "next" ∷ codes "main" ∷ []) (
    contracted (noted Requires 1 1 (is (x_of 20) relation.Ge (number 0)) ∷ noted Ensures 2 2 (Connected (at 1 1) And (is result relation.Eq (plus (formal 20) (number 1))) (is (formal 20) relation.Eq (formal 20))) ∷ []) [] []
    (definition int_type (at 3 10) 0 (int_parameter (at 3 20) 0 ∷ []) (at 3 25) (at 6 30) (sets 20 (binary (at 4 1) Add (var 20) (lit 1)) ∷ returns (var 20) ∷ [])) ∷
    definition int_type (at 7 40) 1 [] (at 7 41) (at 13 90) (
    Declare (int_variable (at 8 50) 0 (at 8 51) (lit 0) ∷ []) ∷
    sets 50 (call int_type (at 9 1) 0 10 (lit 4 ∷ [])) ∷
    Asserts (noted Assert 3 10 (is (x_of 50) relation.Eq (number 5)) ∷ []) ∷
    sets 50 (call int_type (at 11 1) 0 10 (minus_one ∷ [])) ∷
    returns (lit 0) ∷ []) ∷ [])

run-counts_on : run counts_on no_input 10000000 ≡ record { final = Broken 1 1 Requires how.False; output = []; left = 9999998 }
run-counts_on = refl

-- ---- behaviors, with a call in main
--     /*@ requires n != 7;
--       @ behavior low: assumes n < 10; requires n != 3; ensures \result == 1;
--       @ behavior high: assumes n > 5; ensures \result == 1;
--       @ complete behaviors low, high;
--       @ disjoint behaviors; */
--     int f(int n) { return 1; }
abbrev pub behaves : ℕ → TranslationUnit
behaves k = unit_of (codes "f" ∷ codes "main" ∷ []) (
    contracted (noted Requires 1 1 (is (x_of 20) relation.Ne (number 7)) ∷ [])
    (named 5 (noted Assumes 2 2 (is (x_of 20) relation.Lt (number 10)) ∷ noted Requires 3 2 (is (x_of 20) relation.Ne (number 3)) ∷ noted Ensures 4 2 (is result relation.Eq (number 1)) ∷ [])
    ∷ named 6 (noted Assumes 5 3 (is (x_of 20) relation.Gt (number 5)) ∷ noted Ensures 6 3 (is result relation.Eq (number 1)) ∷ []) ∷ [])
    (covers Complete 7 4 ∷ covers Disjoint 8 5 ∷ [])
    (definition int_type (at 6 10) 0 (int_parameter (at 6 20) 0 ∷ []) (at 6 25) (at 6 30) (returns (lit 1) ∷ [])) ∷
    definition int_type (at 7 40) 1 [] (at 7 41) (at 7 90) (calls 10 (lit 2) ∷ calls 10 (lit 20) ∷ calls 10 (lit k) ∷ returns (lit 0) ∷ []) ∷ [])

run-behaves-both : run (behaves 8) no_input 10000000 ≡ record { final = Broken 8 5 Disjoint how.False; output = []; left = 9999997 }
run-behaves-both = refl

run-behaves-own : run (behaves 7) no_input 10000000 ≡ record { final = Broken 1 1 Requires how.False; output = []; left = 9999997 }
run-behaves-own = refl

run-behaves-one : run (behaves 3) no_input 10000000 ≡ record { final = Broken 3 2 Requires how.False; output = []; left = 9999997 }
run-behaves-one = refl

run-behaves : run (behaves 4) no_input 10000000 ≡ record { final = Exits (pos 0); output = []; left = 9999997 }
run-behaves = refl

-- ---- an `assumes` that says nothing is broken, and not before one of its behavior that is false
--     /*@ behavior b: assumes n != 0; assumes 1 / n == 1; ensures \result == n;
--       @ behavior c: assumes 1 / n == 1; */
--     int f(int n) { return n; }
--     int main(void) { f(1); f(0); return 0; }
abbrev pub divides : TranslationUnit
divides = unit_of (codes "f" ∷ codes "main" ∷ []) (
    contracted []
    (named 5 (noted Assumes 1 1 (is (x_of 20) relation.Ne (number 0)) ∷ noted Assumes 2 1 (is (binary_term (at 1 1) Div (number 1) (x_of 20)) relation.Eq (number 1)) ∷ noted Ensures 3 1 (is result relation.Eq (formal 20)) ∷ [])
    ∷ named 6 (noted Assumes 4 2 (is (binary_term (at 1 1) Div (number 1) (x_of 20)) relation.Eq (number 1)) ∷ []) ∷ []) []
    (definition int_type (at 3 10) 0 (int_parameter (at 3 20) 0 ∷ []) (at 3 25) (at 3 30) (returns (var 20) ∷ [])) ∷
    definition int_type (at 4 40) 1 [] (at 4 41) (at 4 90) (calls 10 (lit 1) ∷ calls 10 (lit 0) ∷ returns (lit 0) ∷ []) ∷ [])

run-divides : run divides no_input 10000000 ≡ record { final = Broken 4 2 Assumes how.Undefined; output = []; left = 9999998 }
run-divides = refl

-- ---- a label that is passed in each turn
--     int main(void) {
--       int x = 1;
--       int i = 0;
--       while (i < 2) {
--         L: x = x * 10;
--         //@ assert x == \at(x, L) * 10;
--         i = i + 1;
--         //@ assert \at(i, L) == i - 1;
--         //@ assert \at(x, L) == 1;
--       }
--       return 0;
--     }
abbrev pub passes : TranslationUnit
passes = unit_of (codes "main" ∷ []) (
    definition int_type (at 1 10) 0 [] (at 1 11) (at 12 90) (
    Declare (int_variable (at 2 50) 0 (at 2 51) (lit 1) ∷ []) ∷
    Declare (int_variable (at 3 60) 0 (at 3 61) (lit 0) ∷ []) ∷
    Run (While (at 4 62) [] (binary (at 4 63) Lt (var 60) (lit 2)) (Block (at 4 64) (items_of (
    Run (Labelled (at 5 65) 7 (Eval (at 5 66) (assignment (at 5 67) (var 50) (binary (at 5 68) Mul (var 50) (lit 10))))) ∷
    Asserts (noted Assert 1 6 (is (x_of 50) relation.Eq (binary_term (at 1 1) Mul (at_label (Marked 7) (x_of 50)) (number 10))) ∷ []) ∷
    sets 60 (binary (at 7 1) Add (var 60) (lit 1)) ∷
    Asserts (noted Assert 2 8 (is (at_label (Marked 7) (x_of 60)) relation.Eq (binary_term (at 1 1) Sub (x_of 60) (number 1))) ∷ []) ∷
    Asserts (noted Assert 3 9 (is (at_label (Marked 7) (x_of 50)) relation.Eq (number 1)) ∷ []) ∷ [])))) ∷
    returns (lit 0) ∷ []) ∷ [])

run-passes : run passes no_input 10000000 ≡ record { final = Broken 3 9 Assert how.False; output = []; left = 9999998 }
run-passes = refl

-- ---- each call has marks of its own
--     /*@ requires 0 <= n;
--       @ ensures \result == \old(n) * (\old(n) + 1) / 2; */
--     int sum(int n) { int r = 0; if (n > 0) { r = sum(n - 1); r = n + r; } n = 100; return r; }
--     int main(void) { return sum(4); }
abbrev pub sums : TranslationUnit
sums = unit_of (codes "sum" ∷ codes "main" ∷ []) (
    contracted (noted Requires 1 1 (is (number 0) relation.Le (x_of 20)) ∷ noted Ensures 2 2 (is result relation.Eq (binary_term (at 1 1) Div (binary_term (at 1 1) Mul (formal 20) (plus (formal 20) (number 1))) (number 2))) ∷ []) [] []
    (definition int_type (at 3 10) 0 (int_parameter (at 3 20) 0 ∷ []) (at 3 25) (at 3 39) (
    Declare (int_variable (at 3 30) 0 (at 3 31) (lit 0) ∷ []) ∷
    Run (If (at 3 32) (binary (at 3 33) Gt (var 20) (lit 0)) (Block (at 3 34) (items_of (sets 30 (call int_type (at 3 36) 0 10 (binary (at 3 37) Sub (var 20) (lit 1) ∷ [])) ∷ sets 30 (binary (at 3 35) Add (var 20) (var 30)) ∷ []))) NoElse) ∷
    sets 20 (lit 100) ∷ returns (var 30) ∷ [])) ∷
    definition int_type (at 4 40) 1 [] (at 4 41) (at 4 90) (returns (call int_type (at 4 42) 0 10 (lit 4 ∷ [])) ∷ []) ∷ [])

run-sums : run sums no_input 10000000 ≡ record { final = Exits (pos 10); output = []; left = 9999995 }
run-sums = refl

-- ---- main's own contract: it gives 0 at its closing brace
--     /*@ ensures \result == 1; */ int main(void) { }
abbrev pub ends : TranslationUnit
ends = unit_of (codes "main" ∷ []) (
    contracted (noted Ensures 1 1 (is result relation.Eq (number 1)) ∷ []) [] []
    (definition int_type (at 1 10) 0 [] (at 1 11) (at 1 12) []) ∷ [])

run-ends : run ends no_input 10000000 ≡ record { final = Broken 1 1 Ensures how.False; output = []; left = 10000000 }
run-ends = refl

-- ---- a function without a result, and a global
--     int g = 1;
--     /*@ behavior more: assumes n > 3; ensures \at(g, Pre) < g;
--       @ ensures g == \old(g) + n; */
--     void add(int n) { g = g + n; n = 70; L: if (n > 3) return; }
--     int main(void) { add(2); add(4); //@ assert \at(g, Pre) == 1;
--       return g; }
abbrev pub adds : TranslationUnit
adds = record (unit_of (codes "add" ∷ codes "main" ∷ codes "g" ∷ []) (
    contracted (noted Ensures 3 3 (is (x_of 5) relation.Eq (plus (at_label Pre (variable_term (at 1 2001) 0 5)) (formal 20))) ∷ [])
    (named 6 (noted Assumes 1 2 (is (x_of 20) relation.Gt (number 3)) ∷ noted Ensures 2 2 (is (at_label Pre (variable_term (at 1 2002) 0 5)) relation.Lt (x_of 5)) ∷ []) ∷ []) []
    (definition Void (at 4 10) 0 (int_parameter (at 4 20) 0 ∷ []) (at 4 25) (at 4 39) (
    sets 5 (binary (at 4 1) Add (var 5) (var 20)) ∷ sets 20 (lit 70) ∷
    Run (Labelled (at 4 30) 9 (If (at 4 31) (binary (at 4 33) Gt (var 20) (lit 3)) (Return (at 4 34) None) NoElse)) ∷ [])) ∷
    definition int_type (at 5 40) 1 [] (at 5 41) (at 5 90) (
    Run (Eval (at 5 50) (call Void (at 5 51) 0 10 (lit 2 ∷ []))) ∷ Run (Eval (at 5 52) (call Void (at 5 53) 0 10 (lit 4 ∷ []))) ∷
    Asserts (noted Assert 4 5 (is (at_label Pre (variable_term (at 1 2003) 0 5)) relation.Eq (number 1)) ∷ []) ∷
    returns (var 5) ∷ []) ∷ [])) {
      globals = int_variable (at 1 5) 2 (at 1 6) (lit 1) ∷ [];
    }

run-adds : run adds no_input 10000000 ≡ record { final = Exits (pos 7); output = []; left = 9999998 }
run-adds = refl
