use Rattle.std.proofs.Common.{◌+◌, ◌*◌, max}
use Rattle.mon_parser.proofs.parsed.ParsedExpr.TheLaws.{the_size}
use Rattle.mon_typing.proofs.expression.+expression.Given as goal

abbrev pub decreases-checked_expression : goal.decreases-checked_expression
decreases-checked_expression l = 2 * the_size l.e.now

abbrev pub decreases-negated : goal.decreases-negated
decreases-negated l = 2 * the_size l.a.now + 1

abbrev pub decreases-flipped : goal.decreases-flipped
decreases-flipped l = 2 * the_size l.a.now + 1

abbrev pub decreases-converted : goal.decreases-converted
decreases-converted l = 2 * the_size l.a.now + 1

abbrev pub decreases-operation : goal.decreases-operation
decreases-operation l = 2 * max (the_size l.a.now) (the_size l.b.now) + 1

abbrev pub decreases-loaded : goal.decreases-loaded
decreases-loaded l = 2 * the_size l.a.now + 1
