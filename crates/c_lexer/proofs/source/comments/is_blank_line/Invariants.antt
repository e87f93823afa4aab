use Rattle.std.proofs.Common.{◌≡◌, length}
use Rattle.c_model.specs.Comments.{is_blank_line}
use Rattle.c_lexer.proofs.source.comments.is_blank_line.Given as goal

abbrev pub invariant-turn : goal.invariant-turn
invariant-turn l = is_blank_line l.rest ≡ is_blank_line l.bytes

abbrev pub decreases-turn : goal.decreases-turn
decreases-turn l = length l.rest
