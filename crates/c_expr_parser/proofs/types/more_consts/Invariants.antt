use Rattle.std.proofs.Common.{◌≡◌, ◌≤◌, length}
use Rattle.c_model.specs.ExpressionGrammar.{more_consts}
use Rattle.token_reader.specs.Reading.{plain_list}
use Rattle.c_expr_parser.proofs.types.more_consts.Given as goal

abbrev pub invariant-turn : goal.invariant-turn
invariant-turn l = record {
  same : (more_consts l.words l.constant).parse (plain_list l.rest) ≡ (more_consts l.words l.fn.constant).parse (plain_list l.fn.tokens);
  shorter : length l.rest ≤ length l.fn.tokens;
}

abbrev pub decreases-turn : goal.decreases-turn
decreases-turn l = length l.rest
