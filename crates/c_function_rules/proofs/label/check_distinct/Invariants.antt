use Rattle.std.proofs.Common.{◌≡◌, [], length}
use Rattle.c_model.specs.StatementTyping.{distinct_labels}
use Rattle.c_function_rules.proofs.label.check_distinct.Given as goal

abbrev pub invariant-turn : goal.invariant-turn
invariant-turn l = distinct_labels l.names.list.items l.rest ≡ distinct_labels [] l.labels

abbrev pub decreases-turn : goal.decreases-turn
decreases-turn l = length l.rest
