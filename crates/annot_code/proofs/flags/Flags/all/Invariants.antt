use Rattle.std.proofs.Common.{◌≡◌, ◌++◌, drop, map}
use Rattle.c_syntax.specs.Programs.{plain_behavior}
use Rattle.annot_simulation.specs.ContractCode.{flags_from}
use Rattle.annot_code.proofs.flags.Flags.all.Given as goal

-- with those that are left they are all flags
abbrev pub invariant-turn : goal.invariant-turn
invariant-turn l = l.flags.items ++ flags_from l.flag (map plain_behavior (drop l.index l.self.behaviors.now)) ≡ flags_from l.self.first (map plain_behavior l.self.behaviors.now)
