use Rattle.std.proofs.Common.{◌≡◌, length}
use Rattle.c_model.specs.MonitoredTokens.{ends_line}
use Rattle.c_lexer.proofs.bytes.ends_line.Given as goal

abbrev pub invariant-turn : goal.invariant-turn
invariant-turn l = ends_line l.rest ≡ ends_line l.bytes

abbrev pub decreases-turn : goal.decreases-turn
decreases-turn l = length l.rest
