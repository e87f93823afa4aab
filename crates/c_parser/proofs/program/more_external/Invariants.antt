use Rattle.std.proofs.Common.{◌≡◌, length}
use Rattle.c_model.specs.ProgramGrammar.{more_external}
use Rattle.token_reader.specs.Reading.{plain_list}
use Rattle.c_parser.specs.Reading.{plain_parts}
use Rattle.c_parser.proofs.program.more_external.Given as goal

abbrev pub invariant-turn : goal.invariant-turn
invariant-turn l = (more_external (plain_parts l.parts)).parse (plain_list l.rest) ≡ (more_external (plain_parts l.fn.parts)).parse (plain_list l.fn.tokens)

abbrev pub decreases-turn : goal.decreases-turn
decreases-turn l = length l.rest
