use Rattle.std.proofs.Common.{◌≡◌, ◌+◌, ◌-◌, length, drop, map}
use Rattle.c_model.specs.Pieces.{first_mark}
use Rattle.c_lexer.proofs.source.pieces.first_mark.Given as goal

abbrev pub invariant-turn : goal.invariant-turn
invariant-turn l = first_mark (l.first + l.i) (map (λ w. w.now) (drop l.i l.table)) l.bytes ≡ first_mark l.first (map (λ w. w.now) l.table) l.bytes

abbrev pub decreases-turn : goal.decreases-turn
decreases-turn l = length l.table - l.i
