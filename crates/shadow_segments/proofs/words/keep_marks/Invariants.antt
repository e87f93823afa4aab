use Rattle.std.proofs.Common.{◌≡◌, ℕ, ◌<◌, ◌≤◌, ◌⊎◌, get_or}
use Rattle.std.specs.Vec.{vec_capacity, vec_len}
use Rattle.shadow_segments.specs.Words.{nothing, low_pair}
use Rattle.shadow_segments.proofs.words.keep_marks.Given as goal

abbrev pub invariant-loop-unit : goal.invariant-loop-unit
invariant-loop-unit l = record {
  inside : (u : ℕ) → l.from ≤ u → u < l.unit → get_or l.units.items u nothing ≡ low_pair (get_or l.fn.units.items u nothing);
  others : (u : ℕ) → (u < l.from) ⊎ (l.unit ≤ u) → get_or l.units.items u nothing ≡ get_or l.fn.units.items u nothing;
  len : vec_len l.units ≡ vec_len l.fn.units;
  room : vec_capacity l.units ≡ vec_capacity l.fn.units;
}
