use Rattle.std.proofs.Common.{◌+◌, ◌/◌, refl}
use Rattle.seg_heap.proofs.Kept.{apart_kept, least_kept, full_kept}
use Rattle.seg_heap.proofs.Taking.{kept_taken, taken_is}
use Rattle.seg_heap.proofs.Placer.take.Goals as goal

pub returns-then-length-size-clause-apart : goal.returns-then-length-size-clause-apart
returns-then-length-size-clause-apart c = apart_kept c.self.inside.units _ _ _ _ c.self.invariant c.self.view_is

pub returns-in-None-clause-least : goal.returns-in-None-clause-least
returns-in-None-clause-least c = full_kept c.self.inside.units c.args.length _ _ _ _ c.self.invariant c.self.view_is c.in-None.ensures

pub returns-in-None-clause-apart : goal.returns-in-None-clause-apart
returns-in-None-clause-apart c = apart_kept c.self.inside.units _ _ _ _ c.self.invariant c.self.view_is

pub invariant_of-self : goal.invariant_of-self
invariant_of-self c =
    kept_taken c.self.inside.units c.args.length (c.args.length / 16 + 1) c.in-Some.first c.at.result _ _ _ c.self.invariant refl c.at.ensures c.in-Some.ensures.0 _ _ _ _ _
    c.set.ensures c.set-2.ensures c.set-3.ensures c.set-4.ensures c.set-5.ensures

pub returns-clause-least : goal.returns-clause-least
returns-clause-least c = least_kept c.self.inside.units c.args.length c.in-Some.first _ _ _ _ c.self.invariant c.self.view_is c.in-Some.ensures.0 c.in-Some.ensures.1

pub returns-clause-taken : goal.returns-clause-taken
returns-clause-taken c =
    taken_is c.self.inside.units c.args.length (c.args.length / 16 + 1) c.in-Some.first c.at.result _ _ _ c.self.invariant refl c.at.ensures c.in-Some.ensures.0 _ _ _ _ _
    c.set.ensures c.set-2.ensures c.set-3.ensures c.set-4.ensures c.set-5.ensures _ c.self.view_is

pub returns-clause-apart : goal.returns-clause-apart
returns-clause-apart c = apart_kept c.self.inside.units _ _ _ _ (invariant_of-self c) refl
