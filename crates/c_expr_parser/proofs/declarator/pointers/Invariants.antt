use Rattle.std.proofs.Common.{◌≡◌}
use Rattle.c_syntax.specs.Ctypes.{plain_type}
use Rattle.c_model.specs.ExpressionGrammar.{pointers}
use Rattle.c_expr_parser.proofs.declarator.pointers.Given as goal

abbrev pub invariant-turn : goal.invariant-turn
invariant-turn l = pointers l.left (plain_type l.made) ≡ pointers l.fn.count (plain_type l.fn.t)

abbrev pub decreases-turn : goal.decreases-turn
decreases-turn l = l.left
