use Rattle.std.proofs.Common.{◌≡◌, ◌≤◌, length, drop, reverse, map}
use Rattle.mon_syntax.specs.Trees.{plain_func}
use Rattle.c_lower.specs.Code.{functions_code}
use Rattle.c_lower.specs.Entries.{entries_left}
use Rattle.c_lower.proofs.program.emit_functions.Given as goal

-- the functions from here on are written
abbrev pub invariant-loop-left : goal.invariant-loop-left
invariant-loop-left l = record {
  within : l.left ≤ length l.functions;
  code : l.code ≡ functions_code (map plain_func (drop l.left l.functions));
  entries : l.entries.items ≡ reverse (entries_left (map plain_func (drop l.left l.functions)));
}

abbrev pub decreases-loop-left : goal.decreases-loop-left
decreases-loop-left l = l.left
