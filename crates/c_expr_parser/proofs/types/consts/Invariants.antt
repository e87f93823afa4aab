use Rattle.std.proofs.Common.{◌≡◌, ◌≤◌, length}
use Rattle.c_syntax.specs.Ctypes.{PlainType}
use Rattle.c_model.specs.ExpressionGrammar.{consts}
use Rattle.token_reader.specs.Reading.{plain_list}
use Rattle.c_expr_parser.proofs.types.consts.Given as goal

abbrev pub invariant-turn : goal.invariant-turn
invariant-turn l = record {
  none : (consts l.words (tt {0})).parse (plain_list l.rest) ≡ (consts l.words (tt {0})).parse (plain_list l.fn.tokens);
  some : (t : PlainType) → (consts l.words t).parse (plain_list l.rest) ≡ (consts l.words t).parse (plain_list l.fn.tokens);
  shorter : length l.rest ≤ length l.fn.tokens;
}

abbrev pub decreases-turn : goal.decreases-turn
decreases-turn l = length l.rest
