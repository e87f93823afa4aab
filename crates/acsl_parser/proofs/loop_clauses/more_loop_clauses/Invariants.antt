use Rattle.std.proofs.Common.{◌≡◌, length}
use Rattle.c_model.specs.ClauseGrammar.{more_loop_clauses}
use Rattle.acsl_parser.specs.Reading.{plain_loop}
use Rattle.token_reader.specs.Reading.{plain_list}
use Rattle.acsl_parser.proofs.loop_clauses.more_loop_clauses.Given as goal

abbrev pub invariant-turn : goal.invariant-turn
invariant-turn l = (more_loop_clauses l.words (plain_loop l.all, l.number)).parse (plain_list l.rest) ≡ (more_loop_clauses l.words (plain_loop l.fn.all, l.fn.number)).parse (plain_list l.fn.tokens)

abbrev pub decreases-turn : goal.decreases-turn
decreases-turn l = length l.rest
