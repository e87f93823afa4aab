use Rattle.std.proofs.Common.{◌≡◌, map, take}
use Rattle.mon_syntax.specs.Words.{word_of}
use Rattle.mon_parser.proofs.vocabulary.vocabulary.Given as goal

abbrev pub invariant-loop-name : goal.invariant-loop-name
invariant-loop-name l = l.words.items ≡ map word_of (take l.name-index l.names)
