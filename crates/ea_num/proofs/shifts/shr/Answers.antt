use Rattle.std.proofs.Common.{rules, FitsSigned}
use Rattle.std.specs.Int.{w128}
use Rattle.std.proofs.lemmas.Int.{to_z-of_z}
use Rattle.c_model.specs.Ranges.{shifted_by_count}
use Rattle.ea_num.proofs.Hull.{hull_of_some}
use Rattle.ea_num.proofs.shifts.shr.Goals as goal

pub returns : goal.returns
returns c =
    let al : FitsSigned w128 c.args.a.lo = search rules in
    let ah : FitsSigned w128 c.args.a.hi = search rules in
    let kl : FitsSigned w128 c.args.k.lo = search rules in
    let kh : FitsSigned w128 c.args.k.hi = search rules in
    let p : FitsSigned w128 c.shifted_by_count.result = search rules in
    let q : FitsSigned w128 c.shifted_by_count-2.result = search rules in
    let r : FitsSigned w128 c.shifted_by_count-3.result = search rules in
    let s : FitsSigned w128 c.shifted_by_count-4.result = search rules in
    let e = simp to_z-of_z at c.shifted_by_count.ensures in
    let f = simp to_z-of_z at c.shifted_by_count-2.ensures in
    let g = simp to_z-of_z at c.shifted_by_count-3.ensures in
    let h = simp to_z-of_z at c.shifted_by_count-4.ensures in
    hull_of_some (shifted_by_count c.args.a.lo c.args.k.lo) (shifted_by_count c.args.a.lo c.args.k.hi) (shifted_by_count c.args.a.hi c.args.k.lo) (shifted_by_count c.args.a.hi c.args.k.hi)
    c.shifted_by_count.result c.shifted_by_count-2.result c.shifted_by_count-3.result c.shifted_by_count-4.result c.hull_of_four.result
    (rw (← e) p, e) (rw (← f) q, f) (rw (← g) r, g) (rw (← h) s, h) c.hull_of_four.ensures
