-- Sums, differences, opposites and complements lie in their ranges.
use Rattle.std.proofs.Common.{ℤ, pos, negsuc, neg_ℤ, ◌+ℤ◌, ◌-ℤ◌, ◌≤ℤ◌, arith}
use Rattle.std.proofs.lemmas.Int.{ints}
use Rattle.c_model.specs.Operators.{complement}
use Rattle.c_model.specs.Ranges.{from_to}
use Rattle.ea_num.specs.Laws.{SumsLie, DifferencesLie, NegationsLie, ComplementsLie}
use Rattle.ea_num.proofs.Bounded.{lies_in_bounded}

pub sums_lie : SumsLie
sums_lie a b r x y e h k = lies_in_bounded (from_to (a.lo +ℤ b.lo) (a.hi +ℤ b.hi)) r (x +ℤ y) e (record { above = omega (arith, ints); below = omega (arith, ints) })

pub differences_lie : DifferencesLie
differences_lie a b r x y e h k = lies_in_bounded (from_to (a.lo -ℤ b.hi) (a.hi -ℤ b.lo)) r (x -ℤ y) e (record { above = omega (arith, ints); below = omega (arith, ints) })

pub negations_lie : NegationsLie
negations_lie a r x e h = lies_in_bounded (from_to (neg_ℤ a.hi) (neg_ℤ a.lo)) r (neg_ℤ x) e (record { above = omega (arith, ints); below = omega (arith, ints) })

complement-antitone : (x y : ℤ) → x ≤ℤ y → complement y ≤ℤ complement x
complement-antitone (pos a) (pos b) h = omega (arith, ints)
complement-antitone (pos a) (negsuc b) h = absurd (omega (arith, ints))
complement-antitone (negsuc a) (pos b) h = omega (arith, ints)
complement-antitone (negsuc a) (negsuc b) h = omega (arith, ints)

pub complements_lie : ComplementsLie
complements_lie a r x e h = lies_in_bounded _ r _ e (record { above = complement-antitone x a.hi h.below; below = complement-antitone a.lo x h.above })
