use Rattle.std.proofs.Common.{◌≡◌, length, map}
use Rattle.std.specs.Prelude.{bytes_eq}
use Rattle.std.specs.List.{list_any}
use Rattle.c_lexer.proofs.source.words.is_among.Given as goal

abbrev pub invariant-turn : goal.invariant-turn
invariant-turn l = list_any (bytes_eq l.word) (map (λ w. w.now) l.rest) ≡ list_any (bytes_eq l.word) (map (λ w. w.now) l.fn.words)

abbrev pub decreases-turn : goal.decreases-turn
decreases-turn l = length l.rest
