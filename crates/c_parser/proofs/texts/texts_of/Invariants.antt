use Rattle.std.proofs.Common.{◌≡◌, ◌++◌, length, map}
use Rattle.c_syntax.specs.Programs.{plain_text}
use Rattle.c_model.specs.ProgramGrammar.{texts_of}
use Rattle.token_reader.specs.Reading.{plain_list}
use Rattle.c_parser.proofs.texts.texts_of.Given as goal

abbrev pub invariant-turn : goal.invariant-turn
invariant-turn l = texts_of (plain_list l.fn.tokens) ≡ map plain_text l.texts.items ++ texts_of (plain_list l.rest)

abbrev pub decreases-turn : goal.decreases-turn
decreases-turn l = length l.rest
