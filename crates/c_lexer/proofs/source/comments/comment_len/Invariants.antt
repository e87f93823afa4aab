use Rattle.std.proofs.Common.{◌≡◌, ◌+◌, length}
use Rattle.c_model.specs.Comments.{comment_len}
use Rattle.c_lexer.proofs.source.comments.comment_len.Given as goal

abbrev pub invariant-turn : goal.invariant-turn
invariant-turn l = record {
  so_far : l.n + comment_len l.mode l.rest ≡ comment_len l.mode l.bytes;
  within : l.n + length l.rest ≡ length l.bytes;
}

abbrev pub decreases-turn : goal.decreases-turn
decreases-turn l = length l.rest
