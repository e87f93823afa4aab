use Rattle.std.proofs.Common.{◌≡◌, ◌+◌, ◌*◌, length, map}
use Rattle.c_syntax.specs.Programs.{plain_member}
use Rattle.c_model.specs.DeclarationGrammar.{more_members, braces_in}
use Rattle.token_reader.specs.Reading.{plain_list}
use Rattle.c_declaration_parser.specs.Reading.{plain_definitions}
use Rattle.c_declaration_parser.proofs.tagged.+braces.Given as goal

abbrev pub decreases-behind_tag : goal.decreases-behind_tag
decreases-behind_tag l = 10 * l.levels + 1

abbrev pub decreases-behind_word : goal.decreases-behind_word
decreases-behind_word l = 10 * l.levels + 2

abbrev pub decreases-tagged_type : goal.decreases-tagged_type
decreases-tagged_type l = 10 * l.levels + 3

abbrev pub decreases-braced : goal.decreases-braced
decreases-braced l = 10 * l.levels + 4

abbrev pub decreases-member : goal.decreases-member
decreases-member l = 10 * l.levels + 5

abbrev pub decreases-more_members : goal.decreases-more_members
decreases-more_members l = 10 * l.levels + 6

abbrev pub invariant-more_members-turn : goal.invariant-more_members-turn
invariant-more_members-turn l = (more_members l.words (braces_in l.words l.levels) (map plain_member l.all.items, plain_definitions l.definitions)).parse (plain_list l.rest) ≡
    (more_members l.words (braces_in l.words l.levels) (map plain_member l.fn.all.items, plain_definitions l.fn.definitions)).parse (plain_list l.fn.tokens)

abbrev pub decreases-more_members-turn : goal.decreases-more_members-turn
decreases-more_members-turn l = length l.rest

abbrev pub decreases-struct_braces : goal.decreases-struct_braces
decreases-struct_braces l = 10 * l.levels + 7

abbrev pub decreases-braces : goal.decreases-braces
decreases-braces l = 10 * l.levels
