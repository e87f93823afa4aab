use Rattle.std.proofs.Common.{◌<◌, arith, length}
use Rattle.std.specs.Prelude.{nat_lt}
use Rattle.std.proofs.lemmas.Bool.{OnTrue_from}
use Rattle.std.proofs.lemmas.Bool.Decides.{nat_tests}
use Rattle.shadow_segments.proofs.Pairs.{count_is}
use Rattle.shadow_segments.proofs.words.Words.has.Goals as goal

pub returns : goal.returns
returns c =
    OnTrue_from (nat_lt c.args.unit c.self.inside.from) (c.args.unit < length c.args.self.now.states)
    (λ is. let lt : c.args.unit < c.self.inside.from = grind (arith, nat_tests, is) in omega (arith, lt, c.self.invariant, (count_is _ _ _ c.self.view_is).0))
