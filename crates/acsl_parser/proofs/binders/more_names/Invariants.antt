use Rattle.std.proofs.Common.{◌≡◌, ◌≤◌, length}
use Rattle.acsl_parser.specs.Reading.{more_names}
use Rattle.token_reader.specs.Reading.{plain_list}
use Rattle.acsl_parser.proofs.binders.more_names.Given as goal

abbrev pub invariant-turn : goal.invariant-turn
invariant-turn l = record {
  same : (more_names l.words l.all.items).parse (plain_list l.rest) ≡ (more_names l.words l.fn.all.items).parse (plain_list l.fn.tokens);
  shorter : length l.rest ≤ length l.fn.tokens;
}

abbrev pub decreases-turn : goal.decreases-turn
decreases-turn l = length l.rest
