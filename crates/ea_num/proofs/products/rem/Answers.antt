use Rattle.std.proofs.Common.{rules, FitsSigned, ◌-◌, ◌<◌, ◌^◌, ℕ, ap, ◌∙◌, arith}
use Rattle.std.specs.Int.{w128}
use Rattle.std.proofs.lemmas.Int.{ints, to_z-of_z, to_z_pos}
use Rattle.ea_num.proofs.Multiplied.{remainder_of_code}
use Rattle.ea_num.proofs.products.rem.Goals as goal

pub returns : goal.returns
returns c =
    let p : FitsSigned w128 c.args.a.lo = search rules in
    let q : FitsSigned w128 c.args.a.hi = search rules in
    let r : FitsSigned w128 c.args.b.lo = search rules in
    let s : FitsSigned w128 c.args.b.hi = search rules in
    let x : FitsSigned w128 c.least_remainder.result = search rules in
    let y : FitsSigned w128 c.greatest_remainder.result = search rules in
    let m = c.saturating_sub-most.ensures in
    let n = c.greatest_abs.ensures in
    let small : c.saturating_sub-most.result < 2 ^ 127 = omega (arith, ints) in
    let l = simp (to_z-of_z, to_z_pos) at c.least_remainder.ensures in
    let g = simp (to_z-of_z, to_z_pos) at c.greatest_remainder.ensures in
    remainder_of_code c.args.a c.args.b c.least_remainder.result c.greatest_remainder.result c.saturating_sub-most.result
    x y c.if-a-eq-LEAST.false (m ∙ ap (λ (k : ℕ). k - 1) n) l g
