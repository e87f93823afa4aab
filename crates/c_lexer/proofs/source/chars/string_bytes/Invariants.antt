use Rattle.std.proofs.Common.{◌≡◌, ◌≤◌, ◌-◌, ◌++◌, length, drop}
use Rattle.c_model.specs.Literals.{string_bytes}
use Rattle.c_lexer.proofs.source.chars.string_bytes.Given as goal

abbrev pub invariant-turn : goal.invariant-turn
invariant-turn l = record {
  so_far : l.values.items ++ string_bytes 0 (drop l.n l.bytes) ≡ string_bytes 0 l.bytes;
  within : l.n ≤ length l.bytes;
}

abbrev pub decreases-turn : goal.decreases-turn
decreases-turn l = length l.bytes - l.n
