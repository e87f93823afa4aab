use Rattle.std.proofs.Common.{◌≡◌, ◌≤◌, length}
use Rattle.c_model.specs.MonitoredTokens.{greatest_literal}
use Rattle.c_lexer.proofs.Digits.{literal_from}
use Rattle.c_lexer.proofs.numbers.literal_of.Given as goal

abbrev pub invariant-turn : goal.invariant-turn
invariant-turn l = record {
  same : literal_from l.value l.rest ≡ literal_from 0 l.bytes;
  fits : l.value ≤ greatest_literal;
}

abbrev pub decreases-turn : goal.decreases-turn
decreases-turn l = length l.rest
