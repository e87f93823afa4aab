use Rattle.std.proofs.Common.{◌≡◌, drop}
use Rattle.mon_syntax.specs.Trees.{plain_stmts}
use Rattle.c_effects.specs.Expressions.{before}
use Rattle.annot_simulation.specs.ContractCode.{summed}
use Rattle.annot_code.proofs.flags.summed.Given as goal

-- with those that are left all are added
abbrev pub invariant-turn : goal.invariant-turn
invariant-turn l = before (plain_stmts l.to.items) (summed l.sum (drop l.flag-index l.flags)) ≡ before (plain_stmts l.initial.to.items) (summed l.sum l.flags)
