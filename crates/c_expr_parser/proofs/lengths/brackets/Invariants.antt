use Rattle.std.proofs.Common.{◌≡◌, ◌≤◌, length}
use Rattle.c_model.specs.ExpressionGrammar.{expression, length_or_none, brackets}
use Rattle.c_expr_parser.specs.Reading.{plain_brackets, more_brackets}
use Rattle.token_reader.specs.Reading.{plain_list}
use Rattle.c_expr_parser.proofs.lengths.brackets.Given as goal

abbrev pub invariant-turn : goal.invariant-turn
invariant-turn l = record {
  same : (more_brackets l.words (length_or_none l.words (expression l.words)) (plain_brackets l.all.items)).parse (plain_list l.rest) ≡ (brackets l.words (length_or_none l.words (expression l.words))).parse (plain_list l.fn.tokens);
  shorter : length l.rest ≤ length l.fn.tokens;
}

abbrev pub decreases-turn : goal.decreases-turn
decreases-turn l = length l.rest
