use Rattle.std.proofs.Common.{◌≡◌, ◌++◌, drop, map}
use Rattle.mon_syntax.specs.Trees.{plain_register}
use Rattle.instrument.specs.Translation.{registers_from}
use Rattle.instrument.proofs.program.registers.Given as goal

abbrev pub invariant-kinds : goal.invariant-kinds
invariant-kinds l = map plain_register l.all.items ++ registers_from l.k (drop l.k l.kinds) ≡ registers_from l.fn.first (drop l.fn.first l.kinds)
