use Rattle.std.proofs.Common.{◌≡◌, ◌+◌, length, option_map, false}
use Rattle.c_model.specs.Comments.{blank_block}
use Rattle.c_lexer.proofs.source.comments.blank_block.Given as goal

abbrev pub invariant-turn : goal.invariant-turn
invariant-turn l = record {
  so_far : option_map (λ k. l.n + k) (blank_block l.is_open l.rest) ≡ blank_block false l.bytes;
  within : l.n + length l.rest ≡ length l.bytes;
}

abbrev pub decreases-turn : goal.decreases-turn
decreases-turn l = length l.rest
