use Rattle.std.proofs.Common.{rules, FitsSigned}
use Rattle.std.specs.Int.{w128}
use Rattle.std.proofs.lemmas.Int.{to_z-of_z}
use Rattle.ea_num.proofs.Shifted.{powers_of_code, shift_left_of_code}
use Rattle.ea_num.proofs.shifts.shl.Goals as goal

pub mul-requires-clause-right : goal.mul-requires-clause-right
mul-requires-clause-right c =
    let kl : FitsSigned w128 c.args.k.lo = search rules in
    let kh : FitsSigned w128 c.args.k.hi = search rules in
    let p : FitsSigned w128 c.power_of_count.result = search rules in
    let q : FitsSigned w128 c.power_of_count-2.result = search rules in
    powers_of_code c.args.k c.power_of_count.result c.power_of_count-2.result c.requires.count p q
    (simp to_z-of_z at c.power_of_count.ensures) (simp to_z-of_z at c.power_of_count-2.ensures)

pub returns : goal.returns
returns c =
    let kl : FitsSigned w128 c.args.k.lo = search rules in
    let kh : FitsSigned w128 c.args.k.hi = search rules in
    let p : FitsSigned w128 c.power_of_count.result = search rules in
    let q : FitsSigned w128 c.power_of_count-2.result = search rules in
    shift_left_of_code c.args.a c.args.k c.power_of_count.result c.power_of_count-2.result c.mul.result p q
    (simp to_z-of_z at c.if-k-gt-LARGEST_COUNT.false) (simp to_z-of_z at c.power_of_count.ensures) (simp to_z-of_z at c.power_of_count-2.ensures) c.mul.ensures
