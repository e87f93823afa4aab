use Rattle.std.proofs.Common.{◌≡◌, length}
use Rattle.c_model.specs.MonitoredTokens.{chars_of}
use Rattle.c_lexer.proofs.Characters.{behind_chars}
use Rattle.c_lexer.proofs.chars.chars_of.Given as goal

abbrev pub invariant-turn : goal.invariant-turn
invariant-turn l = behind_chars l.values.items (chars_of l.rest) ≡ chars_of l.bytes

abbrev pub decreases-turn : goal.decreases-turn
decreases-turn l = length l.rest
