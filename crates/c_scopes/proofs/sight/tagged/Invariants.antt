use Rattle.std.proofs.Common.{◌≡◌, drop, map}
use Rattle.c_syntax.specs.Programs.{plain_layout}
use Rattle.c_model.specs.ExpressionTyping.{tagged}
use Rattle.c_scopes.proofs.sight.tagged.Given as goal

abbrev pub invariant-loop-k : goal.invariant-loop-k
invariant-loop-k l = tagged l.tag l.k (map plain_layout (drop l.k l.structs)) ≡ tagged l.tag 0 (map plain_layout l.structs)
