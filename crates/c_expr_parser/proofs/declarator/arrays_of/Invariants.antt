use Rattle.std.proofs.Common.{◌≡◌, length}
use Rattle.c_syntax.specs.Ctypes.{plain_type}
use Rattle.c_model.specs.ExpressionGrammar.{arrays_of}
use Rattle.c_expr_parser.specs.Reading.{plain_brackets}
use Rattle.c_expr_parser.proofs.declarator.arrays_of.Given as goal

abbrev pub invariant-turn : goal.invariant-turn
invariant-turn l = arrays_of (plain_type l.made) (plain_brackets l.left.items) ≡ arrays_of (plain_type l.fn.t) (plain_brackets l.fn.brackets.items)

abbrev pub decreases-turn : goal.decreases-turn
decreases-turn l = length l.left.items
