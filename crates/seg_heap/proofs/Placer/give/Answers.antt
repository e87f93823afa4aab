use Rattle.std.proofs.Common.{arith, refl}
use Rattle.seg_heap.proofs.Kept.{apart_kept}
use Rattle.seg_heap.proofs.Giving.{start_some, front_fits, gap_fits, kept_given, given_is}
use Rattle.seg_heap.proofs.Placer.give.Goals as goal

pub overflow_sub-count : goal.overflow_sub-count
overflow_sub-count c = start_some c.self.inside.units c.args.place c.at.result 0 0 _ _ _ _ c.self.invariant c.self.view_is c.requires c.at.ensures

pub overflow_add-gap : goal.overflow_add-gap
overflow_add-gap c =
    let fits = gap_fits c.self.inside.units c.args.place c.at.result c.at-front.result c.at-back.result _ _ _ _ c.self.invariant c.self.view_is c.requires c.at.ensures c.at-front.ensures c.at-back.ensures in
    omega (arith, fits, c.self.invariant.small)

pub overflow_add-gap-2 : goal.overflow_add-gap-2
overflow_add-gap-2 c =
    let fits = gap_fits c.self.inside.units c.args.place c.at.result c.at-front.result c.at-back.result _ _ _ _ c.self.invariant c.self.view_is c.requires c.at.ensures c.at-front.ensures c.at-back.ensures in
    omega (arith, fits, c.self.invariant.small)

pub overflow_sub-unit : goal.overflow_sub-unit
overflow_sub-unit c = front_fits c.self.inside.units c.args.place c.at.result c.at-front.result 0 _ _ _ _ c.self.invariant c.self.view_is c.requires c.at.ensures c.at-front.ensures

pub overflow_sub-unit-2 : goal.overflow_sub-unit-2
overflow_sub-unit-2 c = front_fits c.self.inside.units c.args.place c.at.result c.at-front.result 0 _ _ _ _ c.self.invariant c.self.view_is c.requires c.at.ensures c.at-front.ensures

pub overflow_add-unit-3 : goal.overflow_add-unit-3
overflow_add-unit-3 c =
    let fits = gap_fits c.self.inside.units c.args.place c.at.result c.at-front.result c.at-back.result _ _ _ _ c.self.invariant c.self.view_is c.requires c.at.ensures c.at-front.ensures c.at-back.ensures in
    omega (arith, fits, c.self.invariant.small)

pub invariant_of-self : goal.invariant_of-self
invariant_of-self c =
    kept_given c.self.inside.units c.args.place c.at.result c.at-front.result c.at-back.result _ _ _ _ c.self.invariant c.self.view_is c.requires c.at.ensures c.at-front.ensures c.at-back.ensures _ _ _ _
    c.set.ensures c.set-2.ensures c.set-3.ensures c.set-4.ensures

pub returns-clause-given : goal.returns-clause-given
returns-clause-given c = given_is c.self.inside.units c.args.place c.at.result 0 0 _ _ _ _ c.self.invariant c.self.view_is c.requires c.at.ensures _ c.set-4.ensures

pub returns-clause-apart : goal.returns-clause-apart
returns-clause-apart c = apart_kept c.self.inside.units _ _ _ _ (invariant_of-self c) refl
