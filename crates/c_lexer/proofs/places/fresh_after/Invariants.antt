use Rattle.std.proofs.Common.{◌≡◌, drop}
use Rattle.c_model.specs.MonitoredTokens.{fresh_after}
use Rattle.c_lexer.proofs.places.fresh_after.Given as goal

abbrev pub invariant-loop-b : goal.invariant-loop-b
invariant-loop-b l = fresh_after l.fresh (drop l.b-index l.bytes) ≡ fresh_after l.fn.fresh l.bytes
