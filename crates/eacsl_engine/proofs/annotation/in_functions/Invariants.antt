use Rattle.std.proofs.Common.{◌≡◌, ◌+◌, length, map}
use Rattle.std.specs.List.{sum_by}
use Rattle.c_syntax.specs.Programs.{plain_func}
use Rattle.eacsl_engine.specs.Annotations.{in_function}
use Rattle.eacsl_engine.proofs.annotation.in_functions.Given as goal

abbrev pub invariant-turn : goal.invariant-turn
invariant-turn l = l.found + sum_by in_function (map plain_func l.rest) ≡ sum_by in_function (map plain_func l.funcs)

abbrev pub decreases-turn : goal.decreases-turn
decreases-turn l = length l.rest
