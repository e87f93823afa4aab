use Rattle.std.proofs.Common.{◌≡◌, length, is_some}
use Rattle.c_model.specs.MonitoredTokens.{chars_of}
use Rattle.c_lexer.proofs.chars.are_chars.Given as goal

abbrev pub invariant-turn : goal.invariant-turn
invariant-turn l = is_some (chars_of l.rest) ≡ is_some (chars_of l.bytes)

abbrev pub decreases-turn : goal.decreases-turn
decreases-turn l = length l.rest
