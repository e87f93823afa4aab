use Rattle.std.proofs.Common.{◌≡◌, map, take}
use Rattle.c_model.specs.Vocabulary.{word_of}
use Rattle.c_expr_parser.proofs.vocabulary.vocabulary.Given as goal

abbrev pub invariant-loop-name : goal.invariant-loop-name
invariant-loop-name l = l.words.items ≡ map word_of (take l.name-index l.names)
