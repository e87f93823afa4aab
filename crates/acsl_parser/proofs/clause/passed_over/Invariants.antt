use Rattle.std.proofs.Common.{◌≡◌, ◌≤◌, length}
use Rattle.acsl_parser.specs.Reading.{passed_over}
use Rattle.token_reader.specs.Reading.{plain_list}
use Rattle.acsl_parser.proofs.clause.passed_over.Given as goal

abbrev pub invariant-turn : goal.invariant-turn
invariant-turn l = record {
  same : passed_over.parse (plain_list l.rest) ≡ passed_over.parse (plain_list l.fn.tokens);
  shorter : length l.rest ≤ length l.fn.tokens;
}

abbrev pub decreases-turn : goal.decreases-turn
decreases-turn l = length l.rest
