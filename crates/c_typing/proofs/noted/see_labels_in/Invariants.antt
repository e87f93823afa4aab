use Rattle.std.proofs.Common.{◌≡◌, ◌++◌, length}
use Rattle.c_syntax.specs.Statements.{plain_items}
use Rattle.c_scopes.specs.KnownLabels.{marks_of}
use Rattle.c_typing.specs.NotedLabels.{marks_in_case}
use Rattle.c_typing.proofs.noted.see_labels_in.Given as goal

abbrev pub invariant-turn : goal.invariant-turn
invariant-turn l = marks_of l.labels ++ marks_in_case l.mark (plain_items l.rest) ≡ marks_of l.initial.labels ++ marks_in_case l.mark (plain_items l.items)

abbrev pub decreases-turn : goal.decreases-turn
decreases-turn l = length l.rest
