use Rattle.std.proofs.Common.{rules, FitsSigned}
use Rattle.std.specs.Int.{w128}
use Rattle.std.proofs.lemmas.Int.{to_z-of_z}
use Rattle.ea_num.proofs.Shifted.{power_of_code}
use Rattle.ea_num.proofs.shifts.power_of_count.Goals as goal

pub returns : goal.returns
returns c =
    let k : FitsSigned w128 c.args.k = c.ranges.k in
    let m : FitsSigned w128 c.max.result = search rules in
    let e = simp to_z-of_z at c.max.ensures.value in
    rw (to_z-of_z w128 c.max.result m) (power_of_code c.args.k c.max.result e c.requires)
