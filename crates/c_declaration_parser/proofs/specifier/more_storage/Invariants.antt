use Rattle.std.proofs.Common.{◌≡◌, length}
use Rattle.c_model.specs.DeclarationGrammar.{more_storage}
use Rattle.token_reader.specs.Reading.{plain_list}
use Rattle.c_declaration_parser.proofs.specifier.more_storage.Given as goal

abbrev pub invariant-turn : goal.invariant-turn
invariant-turn l = (more_storage l.words l.storage).parse (plain_list l.rest) ≡ (more_storage l.words l.fn.storage).parse (plain_list l.fn.tokens)

abbrev pub decreases-turn : goal.decreases-turn
decreases-turn l = length l.rest
