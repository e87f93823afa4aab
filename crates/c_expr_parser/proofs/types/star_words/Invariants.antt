use Rattle.std.proofs.Common.{◌≡◌, ◌+◌, ◌≤◌, length}
use Rattle.c_model.specs.ExpressionGrammar.{star_words}
use Rattle.c_expr_parser.specs.Reading.{more_stars}
use Rattle.token_reader.specs.Reading.{plain_list}
use Rattle.c_expr_parser.proofs.types.star_words.Given as goal

abbrev pub invariant-turn : goal.invariant-turn
invariant-turn l = record {
  same : (more_stars l.words l.stars).parse (plain_list l.rest) ≡ (star_words l.words).parse (plain_list l.fn.tokens);
  shorter : l.stars.count + length l.rest ≤ length l.fn.tokens;
}

abbrev pub decreases-turn : goal.decreases-turn
decreases-turn l = length l.rest
