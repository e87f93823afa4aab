use Rattle.std.proofs.Common.{◌≡◌, ◌+◌, ◌*◌, length, map}
use Rattle.c_syntax.specs.Statements.{plain_init}
use Rattle.c_model.specs.DeclarationGrammar.{first_item_of_list, more_items, item_of_list, list_in}
use Rattle.token_reader.specs.Reading.{plain_list}
use Rattle.c_declaration_parser.proofs.initialiser.+initialiser.Given as goal

abbrev pub decreases-item_of_list : goal.decreases-item_of_list
decreases-item_of_list l = 10 * l.levels + 1

abbrev pub decreases-next_item : goal.decreases-next_item
decreases-next_item l = 10 * l.levels + 2

abbrev pub decreases-item_once : goal.decreases-item_once
decreases-item_once l = 10 * l.levels + 3

abbrev pub decreases-more_items : goal.decreases-more_items
decreases-more_items l = 10 * l.levels + 4

abbrev pub invariant-more_items-turn : goal.invariant-more_items-turn
invariant-more_items-turn l = (more_items l.words first_item_of_list (item_of_list l.words (list_in l.words l.levels)) (map plain_init l.all.items, l.comma)).parse (plain_list l.rest) ≡
    (more_items l.words first_item_of_list (item_of_list l.words (list_in l.words l.levels)) (map plain_init l.fn.all.items, l.fn.comma)).parse (plain_list l.fn.tokens)

abbrev pub decreases-more_items-turn : goal.decreases-more_items-turn
decreases-more_items-turn l = length l.rest

abbrev pub decreases-listed : goal.decreases-listed
decreases-listed l = 10 * l.levels + 5

abbrev pub decreases-list_in : goal.decreases-list_in
decreases-list_in l = 10 * l.levels
