use Rattle.std.proofs.Common.{rules, FitsSigned}
use Rattle.std.specs.Int.{w128}
use Rattle.std.proofs.lemmas.Int.{to_z-of_z}
use Rattle.ea_num.proofs.Hull.{hull_of_code}
use Rattle.ea_num.proofs.products.hull_of_four.Goals as goal

pub returns : goal.returns
returns c =
    let p : FitsSigned w128 c.args.a = c.ranges.a in
    let q : FitsSigned w128 c.args.b = c.ranges.b in
    let r : FitsSigned w128 c.args.c = c.ranges.c in
    let s : FitsSigned w128 c.args.d = c.ranges.d in
    let m : FitsSigned w128 c.min.result = search rules in
    let n : FitsSigned w128 c.min-2.result = search rules in
    let t : FitsSigned w128 c.max.result = search rules in
    let u : FitsSigned w128 c.max-2.result = search rules in
    let e = simp to_z-of_z at c.min.ensures.value in
    let f = simp to_z-of_z at c.min-2.ensures.value in
    let g = simp to_z-of_z at c.min-3.ensures.value in
    let h = simp to_z-of_z at c.max.ensures.value in
    let i = simp to_z-of_z at c.max-2.ensures.value in
    let j = simp to_z-of_z at c.max-3.ensures.value in
    hull_of_code c.args.a c.args.b c.args.c c.args.d c.min-3.result c.max-3.result p q r s (rw (← e, ← f) g) (rw (← h, ← i) j)
