use Rattle.std.proofs.Common.{◌≡◌, ◌≤◌, ◌++◌, length, map, reverse, take}
use Rattle.mon_syntax.specs.Trees.{plain_stmt}
use Rattle.track_scopes.specs.Blocks.{death}
use Rattle.track_scopes.proofs.scope.leave.Given as goal

abbrev pub invariant-each : goal.invariant-each
invariant-each l = record {
  pushed : map plain_stmt l.code.items ++ map death (reverse (take l.left l.blocks)) ≡ map death (reverse l.blocks);
  inside : l.left ≤ length l.blocks;
}

abbrev pub decreases-each : goal.decreases-each
decreases-each l = l.left
