use Rattle.std.proofs.Common.{rules, FitsSigned, ◌-ℤ◌, sym, ◌∙◌}
use Rattle.std.specs.Int.{w128}
use Rattle.std.proofs.lemmas.Int.{to_z-of_z}
use Rattle.c_model.specs.Ranges.{from_to}
use Rattle.ea_num.proofs.Bounded.{bounded-high, bounded_of_some}
use Rattle.ea_num.proofs.arithmetic.sub.Goals as goal

pub returns-in_err-hi : goal.returns-in_err-hi
returns-in_err-hi c =
    let ah : FitsSigned w128 c.args.a.hi = search rules in
    let bl : FitsSigned w128 c.args.b.lo = search rules in
    let f = simp to_z-of_z at c.in_err-hi.ensures in
    c.from_residual-in_err-hi.ensures ∙ sym (bounded-high (from_to (c.args.a.lo -ℤ c.args.b.hi) (c.args.a.hi -ℤ c.args.b.lo)) f)

pub returns : goal.returns
returns c =
    let al : FitsSigned w128 c.args.a.lo = search rules in
    let ah : FitsSigned w128 c.args.a.hi = search rules in
    let bl : FitsSigned w128 c.args.b.lo = search rules in
    let bh : FitsSigned w128 c.args.b.hi = search rules in
    let e = simp to_z-of_z at c.in_ok-lo.ensures in
    let f = simp to_z-of_z at c.in_ok-hi.ensures in
    bounded_of_some (c.args.a.lo -ℤ c.args.b.hi) (c.args.a.hi -ℤ c.args.b.lo) c.in_ok-lo.lo c.in_ok-hi.hi e f
