use Rattle.std.proofs.Common.{◌≡◌, ◌-◌, max, rules, FitsSigned, arith}
use lib.Count.{count_leading_zeros}
use Rattle.std.specs.Int.{w128}
use Rattle.std.specs.Int.Signed.{mag}
use Rattle.std.proofs.lemmas.Int.{to_z-of_z}
use Rattle.ea_num.proofs.Masked.{LeastBits, bits_of_code}
use Rattle.ea_num.proofs.bits.bits_of_both.Goals as goal

least : (c : goal.After-max-most) → LeastBits (128 - count_leading_zeros 128 c.max-most.result) c.args.a c.args.b
least c =
    let al : FitsSigned w128 c.args.a.lo = search rules in
    let ah : FitsSigned w128 c.args.a.hi = search rules in
    let bl : FitsSigned w128 c.args.b.lo = search rules in
    let bh : FitsSigned w128 c.args.b.hi = search rules in
    let e = simp to_z-of_z at c.magnitude.ensures in
    let f = simp to_z-of_z at c.magnitude-2.ensures in
    let g = simp to_z-of_z at c.magnitude-3.ensures in
    let h = simp to_z-of_z at c.magnitude-4.ensures in
    let m = c.max.ensures in
    let n = c.max-2.ensures in
    let is : c.max-most.result ≡ max (max (mag c.args.a.lo) (mag c.args.a.hi)) (max (mag c.args.b.lo) (mag c.args.b.hi)) = rw (← e, ← f, ← g, ← h, ← m, ← n) c.max-most.ensures in
    bits_of_code c.args.a c.args.b c.max-most.result is (omega (arith, al.sfits, ah.sfits, bl.sfits, bh.sfits))

pub returns-clause-value : goal.returns-clause-value
returns-clause-value c = (least c).same

pub returns-clause-bound : goal.returns-clause-bound
returns-clause-bound c = (least c).bound
