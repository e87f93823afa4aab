use Rattle.std.proofs.Common.{rules, FitsSigned, ◌*ℤ◌, sym, ◌∙◌}
use Rattle.std.specs.Int.{w128}
use Rattle.std.proofs.lemmas.Int.{to_z-of_z}
use Rattle.ea_num.proofs.Hull.{first_in_hull, second_in_hull, third_in_hull, fourth_in_hull, bounded-beyond, hull_of_some}
use Rattle.ea_num.proofs.products.mul.Goals as goal

pub returns-in_err-low_low : goal.returns-in_err-low_low
returns-in_err-low_low c =
    let al : FitsSigned w128 c.args.a.lo = search rules in
    let bl : FitsSigned w128 c.args.b.lo = search rules in
    let out = simp to_z-of_z at c.in_err-low_low.ensures in
    c.from_residual.ensures ∙ sym (bounded-beyond _ _ (first_in_hull (c.args.a.lo *ℤ c.args.b.lo) (c.args.a.lo *ℤ c.args.b.hi) (c.args.a.hi *ℤ c.args.b.lo) (c.args.a.hi *ℤ c.args.b.hi)) out)

pub returns-in_err-low_high : goal.returns-in_err-low_high
returns-in_err-low_high c =
    let al : FitsSigned w128 c.args.a.lo = search rules in
    let bh : FitsSigned w128 c.args.b.hi = search rules in
    let out = simp to_z-of_z at c.in_err-low_high.ensures in
    c.from_residual-in_err-low_high.ensures ∙ sym (bounded-beyond _ _ (second_in_hull (c.args.a.lo *ℤ c.args.b.lo) (c.args.a.lo *ℤ c.args.b.hi) (c.args.a.hi *ℤ c.args.b.lo) (c.args.a.hi *ℤ c.args.b.hi)) out)

pub returns-in_err-high_low : goal.returns-in_err-high_low
returns-in_err-high_low c =
    let ah : FitsSigned w128 c.args.a.hi = search rules in
    let bl : FitsSigned w128 c.args.b.lo = search rules in
    let out = simp to_z-of_z at c.in_err-high_low.ensures in
    c.from_residual-in_err-high_low.ensures ∙ sym (bounded-beyond _ _ (third_in_hull (c.args.a.lo *ℤ c.args.b.lo) (c.args.a.lo *ℤ c.args.b.hi) (c.args.a.hi *ℤ c.args.b.lo) (c.args.a.hi *ℤ c.args.b.hi)) out)

pub returns-in_err-high_high : goal.returns-in_err-high_high
returns-in_err-high_high c =
    let ah : FitsSigned w128 c.args.a.hi = search rules in
    let bh : FitsSigned w128 c.args.b.hi = search rules in
    let out = simp to_z-of_z at c.in_err-high_high.ensures in
    c.from_residual-in_err-high_high.ensures ∙ sym (bounded-beyond _ _ (fourth_in_hull (c.args.a.lo *ℤ c.args.b.lo) (c.args.a.lo *ℤ c.args.b.hi) (c.args.a.hi *ℤ c.args.b.lo) (c.args.a.hi *ℤ c.args.b.hi)) out)

pub returns : goal.returns
returns c =
    let al : FitsSigned w128 c.args.a.lo = search rules in
    let ah : FitsSigned w128 c.args.a.hi = search rules in
    let bl : FitsSigned w128 c.args.b.lo = search rules in
    let bh : FitsSigned w128 c.args.b.hi = search rules in
    let p = simp to_z-of_z at c.in_ok-low_low.ensures in
    let q = simp to_z-of_z at c.in_ok-low_high.ensures in
    let r = simp to_z-of_z at c.in_ok-high_low.ensures in
    let s = simp to_z-of_z at c.in_ok-high_high.ensures in
    hull_of_some (c.args.a.lo *ℤ c.args.b.lo) (c.args.a.lo *ℤ c.args.b.hi) (c.args.a.hi *ℤ c.args.b.lo) (c.args.a.hi *ℤ c.args.b.hi)
    c.in_ok-low_low.low_low c.in_ok-low_high.low_high c.in_ok-high_low.high_low c.in_ok-high_high.high_high
    c.hull_of_four.result p q r s c.hull_of_four.ensures
