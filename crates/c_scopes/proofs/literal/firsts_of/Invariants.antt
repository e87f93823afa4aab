use Rattle.std.proofs.Common.{map, take}
use Rattle.c_scopes.specs.Firsts.{AreFirst}
use Rattle.c_scopes.specs.Literals.{offset_of_literal}
use Rattle.c_scopes.proofs.literal.firsts_of.Given as goal

abbrev pub invariant-loop-k : goal.invariant-loop-k
invariant-loop-k l = AreFirst (map offset_of_literal (take l.k l.texts)) l.firsts.entries
