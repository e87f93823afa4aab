use Rattle.std.proofs.Common.{◌≡◌, ◌≤◌, length}
use Rattle.std.specs.Str.Parse.{digits_value, digits_value_after}
use Rattle.c_lexer.specs.Source.{base_of}
use Rattle.c_lexer.proofs.source.digits.value_within.Given as goal

abbrev pub invariant-turn : goal.invariant-turn
invariant-turn l = record {
  so_far : digits_value_after (base_of l.base) l.value l.rest ≡ digits_value (base_of l.base) l.digits;
  small : l.value ≤ l.most;
}

abbrev pub decreases-turn : goal.decreases-turn
decreases-turn l = length l.rest
