use Rattle.std.proofs.Common.{◌≡◌, ◌+◌, length, option_map}
use Rattle.c_model.specs.Comments.{block_len}
use Rattle.c_lexer.proofs.source.comments.block_len.Given as goal

abbrev pub invariant-turn : goal.invariant-turn
invariant-turn l = record {
  so_far : option_map (λ k. l.n + k) (block_len l.rest) ≡ block_len l.bytes;
  within : l.n + length l.rest ≡ length l.bytes;
}

abbrev pub decreases-turn : goal.decreases-turn
decreases-turn l = length l.rest
