use Rattle.std.proofs.Common.{◌≡◌, ◌+◌, drop}
use Rattle.c_syntax.specs.Statements.{plain_cases}
use Rattle.c_model.specs.Meaning.{default_of}
use Rattle.instrument.proofs.switch.default_of.Given as goal

abbrev pub invariant-loop-index : goal.invariant-loop-index
invariant-loop-index l = l.index + default_of (plain_cases (drop l.index l.cases)) ≡ default_of (plain_cases l.cases)
