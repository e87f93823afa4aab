use Rattle.std.proofs.Common.{◌≡◌, ◌+◌, ◌*◌, length, map}
use Rattle.mon_syntax.specs.Grammar.{statement_in}
use Rattle.mon_parser.specs.ParsedTrees.{plain_stmt}
use Rattle.mon_parser.specs.Reading.{plain_loop, more_statements, more_in_loop}
use Rattle.token_reader.specs.Reading.{plain_list}
use Rattle.mon_parser.proofs.statement.+statement.Given as goal

abbrev pub decreases-statement : goal.decreases-statement
decreases-statement l = 10 * l.levels

abbrev pub decreases-labelled : goal.decreases-labelled
decreases-labelled l = 10 * l.levels + 5

abbrev pub decreases-iteration : goal.decreases-iteration
decreases-iteration l = 10 * l.levels + 6

abbrev pub decreases-forever : goal.decreases-forever
decreases-forever l = 10 * l.levels + 5

abbrev pub decreases-loop_body : goal.decreases-loop_body
decreases-loop_body l = 10 * l.levels + 4

abbrev pub decreases-selection : goal.decreases-selection
decreases-selection l = 10 * l.levels + 8

abbrev pub decreases-condition : goal.decreases-condition
decreases-condition l = 10 * l.levels + 7

abbrev pub decreases-branches : goal.decreases-branches
decreases-branches l = 10 * l.levels + 6

abbrev pub decreases-second_branch : goal.decreases-second_branch
decreases-second_branch l = 10 * l.levels + 5

abbrev pub decreases-body : goal.decreases-body
decreases-body l = 10 * l.levels + 4

abbrev pub decreases-more_in_loop : goal.decreases-more_in_loop
decreases-more_in_loop l = 10 * l.levels + 3

abbrev pub invariant-more_in_loop-turn : goal.invariant-more_in_loop-turn
invariant-more_in_loop-turn l = (more_in_loop l.words (statement_in l.words l.levels) (plain_loop l.read)).parse (plain_list l.rest) ≡ (more_in_loop l.words (statement_in l.words l.levels) (plain_loop l.fn.read)).parse (plain_list l.fn.tokens)

abbrev pub decreases-more_in_loop-turn : goal.decreases-more_in_loop-turn
decreases-more_in_loop-turn l = length l.rest

abbrev pub decreases-more_statements : goal.decreases-more_statements
decreases-more_statements l = 10 * l.levels + 3

abbrev pub invariant-more_statements-turn : goal.invariant-more_statements-turn
invariant-more_statements-turn l = (more_statements l.words (statement_in l.words l.levels) (map plain_stmt l.all.items)).parse (plain_list l.rest) ≡ (more_statements l.words (statement_in l.words l.levels) (map plain_stmt l.fn.all.items)).parse
    (plain_list l.fn.tokens)

abbrev pub decreases-more_statements-turn : goal.decreases-more_statements-turn
decreases-more_statements-turn l = length l.rest

abbrev pub decreases-one_more : goal.decreases-one_more
decreases-one_more l = 10 * l.levels + 2

abbrev pub decreases-one_more_in_loop : goal.decreases-one_more_in_loop
decreases-one_more_in_loop l = 10 * l.levels + 2
