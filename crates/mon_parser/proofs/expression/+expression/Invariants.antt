use Rattle.std.proofs.Common.{◌+◌, ◌*◌}
use Rattle.mon_parser.proofs.expression.+expression.Given as goal

abbrev pub decreases-second_operand : goal.decreases-second_operand
decreases-second_operand l = 10 * l.room + 5

abbrev pub decreases-right_operand : goal.decreases-right_operand
decreases-right_operand l = 10 * l.room + 4

abbrev pub decreases-negation : goal.decreases-negation
decreases-negation l = 10 * l.room + 4

abbrev pub decreases-complement : goal.decreases-complement
decreases-complement l = 10 * l.room + 4

abbrev pub decreases-cast : goal.decreases-cast
decreases-cast l = 10 * l.room + 5

abbrev pub decreases-cast_operand : goal.decreases-cast_operand
decreases-cast_operand l = 10 * l.room + 4

abbrev pub decreases-load : goal.decreases-load
decreases-load l = 10 * l.room + 5

abbrev pub decreases-load_operand : goal.decreases-load_operand
decreases-load_operand l = 10 * l.room + 4

abbrev pub decreases-plain_operation : goal.decreases-plain_operation
decreases-plain_operation l = 10 * l.room + 6

abbrev pub decreases-behind_two : goal.decreases-behind_two
decreases-behind_two l = 10 * l.room + 6

abbrev pub decreases-behind_opened : goal.decreases-behind_opened
decreases-behind_opened l = 10 * l.room + 1

abbrev pub decreases-other_expression : goal.decreases-other_expression
decreases-other_expression l = 10 * l.room + 2

abbrev pub decreases-expression_in : goal.decreases-expression_in
decreases-expression_in l = 10 * l.room + 3
