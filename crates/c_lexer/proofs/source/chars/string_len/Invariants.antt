use Rattle.std.proofs.Common.{◌≡◌, ◌≤◌, ◌+◌, ◌-◌, length, drop, option_map}
use Rattle.c_model.specs.Literals.{string_len}
use Rattle.c_lexer.proofs.source.chars.string_len.Given as goal

abbrev pub invariant-turn : goal.invariant-turn
invariant-turn l = record {
  so_far : option_map (λ k. l.n + k) (string_len l.mode 0 (drop l.n l.bytes)) ≡ string_len l.mode 0 l.bytes;
  within : l.n ≤ length l.bytes;
}

abbrev pub decreases-turn : goal.decreases-turn
decreases-turn l = length l.bytes - l.n
