use Rattle.std.proofs.Common.{◌≡◌, length}
use Rattle.c_syntax.specs.Programs.{plain_contract}
use Rattle.c_model.specs.ClauseGrammar.{more_behaviors}
use Rattle.token_reader.specs.Reading.{plain_list}
use Rattle.acsl_parser.proofs.contract.more_behaviors.Given as goal

abbrev pub invariant-turn : goal.invariant-turn
invariant-turn l = (more_behaviors l.words (plain_contract l.contract, l.number)).parse (plain_list l.rest) ≡ (more_behaviors l.words (plain_contract l.fn.contract, l.fn.number)).parse (plain_list l.fn.tokens)

abbrev pub decreases-turn : goal.decreases-turn
decreases-turn l = length l.rest
