use Rattle.std.proofs.Common.{◌≡◌, map, length}
use Rattle.c_syntax.specs.Logic.{plain_annot}
use Rattle.c_model.specs.ClauseGrammar.{more_owns}
use Rattle.token_reader.specs.Reading.{plain_list}
use Rattle.acsl_parser.proofs.clause.more_owns.Given as goal

abbrev pub invariant-turn : goal.invariant-turn
invariant-turn l = (more_owns l.words l.group (map plain_annot l.all.items, l.number)).parse (plain_list l.rest) ≡
    (more_owns l.words l.group (map plain_annot l.fn.all.items, l.fn.number)).parse (plain_list l.fn.tokens)

abbrev pub decreases-turn : goal.decreases-turn
decreases-turn l = length l.rest
