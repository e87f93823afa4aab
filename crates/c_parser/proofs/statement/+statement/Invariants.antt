use Rattle.std.proofs.Common.{◌≡◌, ◌+◌, ◌*◌, length, map}
use Rattle.c_syntax.specs.Statements.{plain_item}
use Rattle.c_model.specs.ProgramGrammar.{items, case_items, cases, statement_in, inside_in}
use Rattle.token_reader.specs.Reading.{plain_list}
use Rattle.c_parser.specs.Reading.{read_case}
use Rattle.c_parser.proofs.statement.+statement.Given as goal

abbrev pub decreases-else_branch : goal.decreases-else_branch
decreases-else_branch l = 10 * l.levels + 2

abbrev pub decreases-else_part : goal.decreases-else_part
decreases-else_part l = 10 * l.levels + 3

abbrev pub decreases-selection : goal.decreases-selection
decreases-selection l = 10 * l.levels + 4

abbrev pub decreases-while_loop : goal.decreases-while_loop
decreases-while_loop l = 10 * l.levels + 4

abbrev pub decreases-do_loop : goal.decreases-do_loop
decreases-do_loop l = 10 * l.levels + 4

abbrev pub decreases-for_loop : goal.decreases-for_loop
decreases-for_loop l = 10 * l.levels + 4

abbrev pub decreases-loop_of : goal.decreases-loop_of
decreases-loop_of l = 10 * l.levels + 5

abbrev pub decreases-run_item : goal.decreases-run_item
decreases-run_item l = 10 * l.levels + 1

abbrev pub decreases-behind_annotation : goal.decreases-behind_annotation
decreases-behind_annotation l = 10 * l.levels + 1

abbrev pub decreases-annotated_item : goal.decreases-annotated_item
decreases-annotated_item l = 10 * l.levels + 2

abbrev pub decreases-item : goal.decreases-item
decreases-item l = 10 * l.levels + 3

abbrev pub decreases-items_once : goal.decreases-items_once
decreases-items_once l = 10 * l.levels + 4

abbrev pub decreases-items : goal.decreases-items
decreases-items l = 10 * l.levels + 5

abbrev pub invariant-items-turn : goal.invariant-items-turn
invariant-items-turn l = (items l.words (statement_in l.words l.levels) (inside_in l.words l.levels) (map plain_item l.all.items, l.state)).parse (plain_list l.rest) ≡
    (items l.words (statement_in l.words l.levels) (inside_in l.words l.levels) (map plain_item l.fn.all.items, l.fn.state)).parse (plain_list l.fn.tokens)

abbrev pub decreases-items-turn : goal.decreases-items-turn
decreases-items-turn l = length l.rest

abbrev pub decreases-block : goal.decreases-block
decreases-block l = 10 * l.levels + 6

abbrev pub decreases-case_item : goal.decreases-case_item
decreases-case_item l = 10 * l.levels + 3

abbrev pub decreases-case_items_once : goal.decreases-case_items_once
decreases-case_items_once l = 10 * l.levels + 4

abbrev pub decreases-case_items : goal.decreases-case_items
decreases-case_items l = 10 * l.levels + 5

abbrev pub invariant-case_items-turn : goal.invariant-case_items-turn
invariant-case_items-turn l = (case_items l.words (statement_in l.words l.levels) (inside_in l.words l.levels) (map plain_item l.all.items, l.state)).parse (plain_list l.rest) ≡
    (case_items l.words (statement_in l.words l.levels) (inside_in l.words l.levels) (map plain_item l.fn.all.items, l.fn.state)).parse (plain_list l.fn.tokens)

abbrev pub decreases-case_items-turn : goal.decreases-case_items-turn
decreases-case_items-turn l = length l.rest

abbrev pub decreases-next_case : goal.decreases-next_case
decreases-next_case l = 10 * l.levels + 6

abbrev pub decreases-cases : goal.decreases-cases
decreases-cases l = 10 * l.levels + 7

abbrev pub invariant-cases-turn : goal.invariant-cases-turn
invariant-cases-turn l = (cases l.words (statement_in l.words l.levels) (inside_in l.words l.levels) (map read_case l.all.items, l.state)).parse (plain_list l.rest) ≡
    (cases l.words (statement_in l.words l.levels) (inside_in l.words l.levels) (map read_case l.fn.all.items, l.fn.state)).parse (plain_list l.fn.tokens)

abbrev pub decreases-cases-turn : goal.decreases-cases-turn
decreases-cases-turn l = length l.rest

abbrev pub decreases-switch_statement : goal.decreases-switch_statement
decreases-switch_statement l = 10 * l.levels + 8

abbrev pub decreases-labelled_statement : goal.decreases-labelled_statement
decreases-labelled_statement l = 10 * l.levels + 2

abbrev pub decreases-named_statement : goal.decreases-named_statement
decreases-named_statement l = 10 * l.levels + 3

abbrev pub decreases-statement : goal.decreases-statement
decreases-statement l = 10 * l.levels

abbrev pub decreases-branch : goal.decreases-branch
decreases-branch l = 10 * l.levels + 1

abbrev pub decreases-unlooped : goal.decreases-unlooped
decreases-unlooped l = 10 * l.levels + 9

abbrev pub decreases-behind_loop : goal.decreases-behind_loop
decreases-behind_loop l = 10 * l.levels + 2

abbrev pub decreases-behind : goal.decreases-behind
decreases-behind l = 10 * l.levels + 3

abbrev pub decreases-inside : goal.decreases-inside
decreases-inside l = 10 * l.levels
