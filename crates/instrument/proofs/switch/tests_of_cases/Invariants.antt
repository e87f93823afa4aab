use Rattle.std.proofs.Common.{◌≡◌, drop}
use Rattle.c_syntax.specs.Statements.{plain_cases}
use Rattle.mon_syntax.specs.Trees.{plain_stmts}
use Rattle.c_effects.specs.Expressions.{before}
use Rattle.instrument.specs.Translation.{tests_of_cases}
use Rattle.instrument.proofs.switch.tests_of_cases.Given as goal

abbrev pub invariant-loop-index : goal.invariant-loop-index
invariant-loop-index l =
    before (plain_stmts l.code.items) (tests_of_cases l.levels l.choice.kind l.choice.value l.choice.index l.index (plain_cases (drop l.index l.cases)))
    ≡ tests_of_cases l.levels l.choice.kind l.choice.value l.choice.index 0 (plain_cases l.cases)
