use Rattle.std.proofs.Common.{◌≡◌, drop, map}
use Rattle.c_syntax.specs.Programs.{plain_behavior}
use Rattle.mon_syntax.specs.Trees.{plain_stmts}
use Rattle.c_effects.specs.Expressions.{before}
use Rattle.annot_simulation.specs.ContractCode.{all_flagged}
use Rattle.annot_code.proofs.flags.raise_all.Given as goal

-- with those that are left all are raised
abbrev pub invariant-turn : goal.invariant-turn
invariant-turn l =
    before (plain_stmts l.to.items) (all_flagged l.flag (map plain_behavior (drop l.index l.behaviors))) ≡ before (plain_stmts l.initial.to.items) (all_flagged l.first (map plain_behavior l.behaviors))
