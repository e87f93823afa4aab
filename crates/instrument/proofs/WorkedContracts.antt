-- Programs with contracts and labels do the same as their translations, by computation.
use Rattle.std.proofs.Common.{◌≡◌, ℕ, ◌+◌, pos, [], ◌∷◌, Some, None, codes, refl}
use Rattle.c_syntax.specs.declared.annotation.Kind.TheVariants.{Assert, Ensures}
use Rattle.c_syntax.specs.declared.annotation.Relation.TheVariants as relation
use Rattle.c_syntax.specs.declared.expression.UnOp.TheVariants.{Address}
use Rattle.c_syntax.specs.declared.logic.Label.{Label}
use Rattle.c_syntax.specs.declared.logic.Label.TheVariants.{Pre, Marked}
use Rattle.c_syntax.specs.Ctypes.{PlainType, Ptr, int_type}
use Rattle.c_syntax.specs.Expressions.{Expression, Node, Variable, Unary, Assign}
use Rattle.c_syntax.specs.Logic as logic
use Rattle.c_syntax.specs.Logic.{LogicTerm}
use Rattle.c_syntax.specs.Statements.{Eval, Labelled, Declare, Run, Asserts}
use Rattle.c_syntax.specs.Programs.{TranslationUnit}
use Rattle.c_model.specs.Reports.{Agrees}
use Rattle.c_model.specs.Meaning.{run}
use Rattle.c_model.specs.MonitoredRuns.{Exits, Broken}
use Rattle.c_syntax.specs.declared.types.How.TheVariants as how
use Rattle.worked_rows.proofs.WorkedTrees.{call, definition, int_variable, no_input, no_range, object_of, parameter, unit_of}
use Rattle.worked_rows.proofs.WorkedClauses.{at, contracted, is, lit, noted, number, returns, sets, var}
use Rattle.worked_rows.proofs.WorkedContracts.{counts_on, behaves, divides, passes, sums, ends, adds}
use Rattle.mon_syntax.specs.BlockMemory.{block_run}
use Rattle.instrument.specs.Translation.{translated}

same-counts_on : Agrees (run counts_on no_input 1000) (block_run (translated counts_on) no_input 1000)
same-counts_on = refl

same-behaves-both : Agrees (run (behaves 8) no_input 1000) (block_run (translated (behaves 8)) no_input 1000)
same-behaves-both = refl

same-behaves-own : Agrees (run (behaves 7) no_input 1000) (block_run (translated (behaves 7)) no_input 1000)
same-behaves-own = refl

same-behaves-one : Agrees (run (behaves 3) no_input 1000) (block_run (translated (behaves 3)) no_input 1000)
same-behaves-one = refl

same-behaves : Agrees (run (behaves 4) no_input 1000) (block_run (translated (behaves 4)) no_input 1000)
same-behaves = refl

same-divides : Agrees (run divides no_input 1000) (block_run (translated divides) no_input 1000)
same-divides = refl

same-passes : Agrees (run passes no_input 1000) (block_run (translated passes) no_input 1000)
same-passes = refl

same-sums : Agrees (run sums no_input 1000) (block_run (translated sums) no_input 1000)
same-sums = refl

same-ends : Agrees (run ends no_input 1000) (block_run (translated ends) no_input 1000)
same-ends = refl

same-adds : Agrees (run adds no_input 1000) (block_run (translated adds) no_input 1000)
same-adds = refl

-- ---- pointers that are kept
--     /*@ ensures \result == p; */
--     int *same(int *p) { return p; }
--     int main(void) {
--       int x = 1;
--       int y = 2;
--       int *p = same(&x);
--       L: p = &y;
--       //@ assert \at(p, L) != p;
--       //@ assert *\at(p, L) == 1;
--       x = 3;
--       //@ assert *\at(p, L) == n;
--       return 0;
--     }
abbrev pointer : PlainType
pointer = Ptr int_type

abbrev held : ℕ → Expression
held decl = Node (at 1 1) pointer (Variable (record { name = 0; decl = decl }))

abbrev address : ℕ → Expression
address decl = Node (at 1 1) pointer (Unary Address (var decl))

abbrev term_of : ℕ → LogicTerm
term_of decl = logic.Variable (at 1 (1000 + decl)) (Some pointer) no_range (record { name = 0; decl = decl })

abbrev past : Label → ℕ → LogicTerm
past l decl = logic.At (at 1 1) (Some pointer) no_range l (term_of decl)

abbrev there : LogicTerm
there = logic.Deref (at 1 1) (Some int_type) no_range (past (Marked 7) 70)

abbrev given : LogicTerm
given = logic.Named (at 1 1) (Some pointer) no_range (record { name = 0; decl = 4294967294 })

abbrev points : ℕ → TranslationUnit
points n = unit_of (codes "same" ∷ codes "main" ∷ []) (
    contracted (noted Ensures 1 1 (is given relation.Eq (past Pre 20)) ∷ []) [] []
    (definition pointer (at 2 10) 0 (parameter pointer (at 2 20) 0 ∷ []) (at 2 25) (at 2 30) (returns (held 20) ∷ [])) ∷
    definition int_type (at 3 40) 1 [] (at 3 41) (at 12 90) (
    Declare (int_variable (at 4 50) 0 (at 4 51) (lit 1) ∷ []) ∷
    Declare (int_variable (at 5 60) 0 (at 5 61) (lit 2) ∷ []) ∷
    Declare (object_of pointer (at 6 70) 0 (at 6 71) (call pointer (at 6 72) 0 10 (address 50 ∷ [])) ∷ []) ∷
    Run (Labelled (at 7 80) 7 (Eval (at 7 81) (Node (at 7 82) pointer (Assign None (held 70) (address 60))))) ∷
    Asserts (noted Assert 2 8 (is (past (Marked 7) 70) relation.Ne (term_of 70)) ∷ []) ∷
    Asserts (noted Assert 3 9 (is there relation.Eq (number 1)) ∷ []) ∷
    sets 50 (lit 3) ∷
    Asserts (noted Assert 4 11 (is there relation.Eq (number n)) ∷ []) ∷
    returns (lit 0) ∷ []) ∷ [])

same-points : Agrees (run (points 3) no_input 1000) (block_run (translated (points 3)) no_input 1000)
same-points = refl

ends-points : block_run (translated (points 3)) no_input 1000 ≡ record { final = Exits (pos 0); output = []; left = 999 }
ends-points = refl

same-points-broken : Agrees (run (points 1) no_input 1000) (block_run (translated (points 1)) no_input 1000)
same-points-broken = refl

ends-points-broken : block_run (translated (points 1)) no_input 1000 ≡ record { final = Broken 4 11 Assert how.False; output = []; left = 999 }
ends-points-broken = refl
