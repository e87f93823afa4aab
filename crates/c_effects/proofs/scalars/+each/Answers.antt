use Rattle.std.specs.Prelude.{Some, None, option_map}
use Rattle.std.proofs.Common.{◌+◌, ◌-◌, drop, map, refl, ap, sym, ◌∙◌, arith}
use Rattle.c_syntax.specs.Ctypes.{plain_type}
use Rattle.c_syntax.specs.Programs.{plain_layout, plain_member}
use Rattle.c_syntax.specs.Layouts.{in_each, in_members, scalars_from}
use Rattle.mon_syntax.specs.Trees.{plain_stmts}
use Rattle.c_effects.specs.Expressions.{before}
use Rattle.c_effects.specs.Scalars.{done_to, task_after}
use Rattle.c_effects.proofs.Sequences.{all_there, left_at, more, none_left, nothing}
use Rattle.c_effects.proofs.ScalarTrees.{after_none, done_none, each_after, each_more, members_after, members_more, no_element, no_scalars, struct_scalars, task_more}
use Rattle.c_effects.proofs.Layouts.{found, missing}
use Rattle.c_effects.proofs.Depths.{deepest, deepest_member, layout_depth, less_deep, member_depth}
use Rattle.c_effects.proofs.Trees.{if_ok_then, on_ok_then}
use Rattle.std.proofs.lemmas.Option.{slice_get-map}
use Rattle.c_effects.proofs.scalars.+each.Goals as goal

pub each_in_elements-returns-clause-code : goal.each_in_elements-returns-clause-code
each_in_elements-returns-clause-code t c =
    let s = c.args.task in
    let inside = scalars_from (map plain_layout c.args.structs.layouts.now) c.args.structs.deep (plain_type c.args.t.now) in
    all_there (ap (done_to c.elements.next) (no_element c.elements.at c.in_ok-size.size c.elements.left inside c.elements-test.false) ∙ done_none c.elements.next) c.elements.invariant.code
    ∙ ap (λ z. before (plain_stmts c.args.to.now.items) (done_to s (in_each c.args.distance z c.args.count inside))) c.in_ok-size.ensures

pub each_in_elements-returns-clause-task : goal.each_in_elements-returns-clause-task
each_in_elements-returns-clause-task t c =
    let s = c.args.task in
    let inside = scalars_from (map plain_layout c.args.structs.layouts.now) c.args.structs.deep (plain_type c.args.t.now) in
    sym (ap (task_after c.elements.next) (no_element c.elements.at c.in_ok-size.size c.elements.left inside c.elements-test.false) ∙ after_none c.elements.next) ∙ c.elements.invariant.task
    ∙ ap (λ z. task_after s (in_each c.args.distance z c.args.count inside)) c.in_ok-size.ensures

pub each_in_elements-elements-preserved : goal.each_in_elements-elements-preserved
each_in_elements-elements-preserved t c =
    let s = c.elements.next in
    let z = c.in_ok-size.size in
    let at = c.elements.at in
    let inside = scalars_from (map plain_layout c.args.structs.layouts.now) c.args.structs.deep (plain_type c.args.t.now) in
    let rest = in_each (at + z) z (c.elements.left - 1) inside in
    let t0 = plain_stmts c.elements.to.items in
    let next = c.in_ok-next.next in
    record {
      code =
          ap (λ k. before (plain_stmts c.each_scalar.new.to.items) (done_to next (in_each k z (c.elements.left - 1) inside))) c.in_ok-at.ensures
          ∙ ap (λ u. before (plain_stmts c.each_scalar.new.to.items) (done_to u rest)) c.in_ok-next.ensures.task
          ∙ more t0 (done_to s (inside at)) (done_to (task_after s (inside at)) rest) (each_more s at z c.elements.left inside c.elements-test.true) c.in_ok-next.ensures.code c.elements.invariant.code;
      task =
          ap (λ k. task_after next (in_each k z (c.elements.left - 1) inside)) c.in_ok-at.ensures
          ∙ task_more next (inside at) rest s (each_after s at z c.elements.left inside c.elements-test.true) c.in_ok-next.ensures.task c.elements.invariant.task;
    }

pub each_in_members-returns-clause-code : goal.each_in_members-returns-clause-code
each_in_members-returns-clause-code t c =
    let s = c.members.next in
    let inside = scalars_from (map plain_layout c.args.structs.layouts.now) c.args.structs.deep in
    all_there (none_left (λ l. done_to s (in_members (map plain_member l) c.args.distance inside)) c.args.members.now c.members.m-index c.members-test.false ∙ done_none s) c.members.invariant.code

pub each_in_members-returns-clause-task : goal.each_in_members-returns-clause-task
each_in_members-returns-clause-task t c =
    let s = c.members.next in
    let inside = scalars_from (map plain_layout c.args.structs.layouts.now) c.args.structs.deep in
    sym (none_left (λ l. task_after s (in_members (map plain_member l) c.args.distance inside)) c.args.members.now c.members.m-index c.members-test.false ∙ after_none s) ∙ c.members.invariant.task

pub each_in_members-members-preserved : goal.each_in_members-members-preserved
each_in_members-members-preserved t c =
    let s = c.members.next in
    let ms = c.args.members.now in
    let d = c.args.distance in
    let m = plain_member c.m-item.result in
    let rest = map plain_member (drop (c.members.m-index + 1) ms) in
    let t0 = plain_stmts c.members.to.items in
    let inside = scalars_from (map plain_layout c.args.structs.layouts.now) c.args.structs.deep in
    let others = in_members rest d inside in
    let here = c.in_ok-at.ensures ∙ ap (λ o. d + o) c.from.ensures in
    let next = c.in_ok-next.next in
    let after = c.in_ok-next.ensures.task ∙ ap (λ k. task_after s (inside m.ctype k)) here in
    let left = left_at (λ l. in_members (map plain_member l) d inside) ms c.members.m-index _ _ c.members-test.true c.m-item.is refl in
    record {
      code =
          ap (λ u. before (plain_stmts c.each_scalar.new.to.items) (done_to u others)) after
          ∙ more t0 (done_to s (inside m.ctype (d + m.offset))) (done_to (task_after s (inside m.ctype (d + m.offset))) others) (ap (done_to s) left ∙ members_more s d m rest inside)
          (c.in_ok-next.ensures.code ∙ ap (λ k. before t0 (done_to s (inside m.ctype k))) here) c.members.invariant.code;
      task = task_more next (inside m.ctype (d + m.offset)) others s (ap (task_after s) left ∙ members_after s d m rest inside) after c.members.invariant.task;
    }

pub each_in_members-each_scalar-requires : goal.each_in_members-each_scalar-requires
each_in_members-each_scalar-requires t c =
    let smaller = member_depth c.args.members.now c.members.m-index c.m-item.result c.members-test.true c.m-item.is in
    let measure = c.decreases in
    (omega (arith, smaller, measure), tt)

pub each_in_struct-each_in_members-requires : goal.each_in_struct-each_in_members-requires
each_in_struct-each_in_members-requires t c =
    let ls = c.args.structs.layouts.now in
    let deep = c.args.structs.deep in
    let layout = c.in-Some.layout.now in
    let at = c.in-Some.ensures.lookup in
    let smaller = layout_depth ls c.args.number layout (found ls c.args.number layout at.0 at.1) in
    let less = less_deep deep (deepest ls) (omega (arith, c.if-deep-eq0.false)) in
    let same = ap deepest_member c.deref.ensures.value in
    let measure = c.decreases in
    (omega (arith, smaller, less, same, measure), tt)

pub each_in_struct-returns-then-deep-eq0-clause-code : goal.each_in_struct-returns-then-deep-eq0-clause-code
each_in_struct-returns-then-deep-eq0-clause-code t c =
    let ss = map plain_layout c.args.structs.layouts.now in
    nothing _ _ (ap (done_to c.args.task) (sym (no_scalars ss c.args.structs.deep c.args.number c.args.distance c.if-deep-eq0.true)) ∙ done_none c.args.task)

pub each_in_struct-returns-then-deep-eq0-clause-task : goal.each_in_struct-returns-then-deep-eq0-clause-task
each_in_struct-returns-then-deep-eq0-clause-task t c =
    let ss = map plain_layout c.args.structs.layouts.now in
    sym (after_none c.args.task) ∙ ap (task_after c.args.task) (no_scalars ss c.args.structs.deep c.args.number c.args.distance c.if-deep-eq0.true)

pub each_in_struct-returns-in-Some-clause-code : goal.each_in_struct-returns-in-Some-clause-code
each_in_struct-returns-in-Some-clause-code t c =
    let s = c.args.task in
    let d = c.args.distance in
    let ls = c.args.structs.layouts.now in
    let ss = map plain_layout ls in
    let deep = c.args.structs.deep in
    let layout = c.in-Some.layout.now in
    let at = c.in-Some.ensures.lookup in
    let t0 = plain_stmts c.args.to.now.items in
    let is = sym (slice_get-map plain_layout ls c.args.number ∙ ap (option_map plain_layout) (found ls c.args.number layout at.0 at.1)) in
    on_ok_then c.each_in_members.result
    (λ last. last ∙ ap (λ l. before t0 (done_to s (in_members (map plain_member l) d (scalars_from ss (deep - 1))))) c.deref.ensures.value
    ∙ ap (λ l. before t0 (done_to s l)) (struct_scalars ss deep c.args.number d (Some (plain_layout layout)) (omega (arith, c.if-deep-eq0.false)) is))
    c.each_in_members.ensures.code

pub each_in_struct-returns-in-Some-clause-task : goal.each_in_struct-returns-in-Some-clause-task
each_in_struct-returns-in-Some-clause-task t c =
    let s = c.args.task in
    let d = c.args.distance in
    let ls = c.args.structs.layouts.now in
    let ss = map plain_layout ls in
    let deep = c.args.structs.deep in
    let layout = c.in-Some.layout.now in
    let at = c.in-Some.ensures.lookup in
    let is = sym (slice_get-map plain_layout ls c.args.number ∙ ap (option_map plain_layout) (found ls c.args.number layout at.0 at.1)) in
    if_ok_then c.each_in_members.result
    (λ after last. last ∙ ap (λ l. task_after s (in_members (map plain_member l) d (scalars_from ss (deep - 1)))) c.deref.ensures.value
    ∙ ap (task_after s) (struct_scalars ss deep c.args.number d (Some (plain_layout layout)) (omega (arith, c.if-deep-eq0.false)) is))
    c.each_in_members.ensures.task

pub each_in_struct-returns-in-None-clause-code : goal.each_in_struct-returns-in-None-clause-code
each_in_struct-returns-in-None-clause-code t c =
    let ls = c.args.structs.layouts.now in
    let ss = map plain_layout ls in
    let is = sym (slice_get-map plain_layout ls c.args.number ∙ ap (option_map plain_layout) (missing ls c.args.number c.in-None.ensures.lookup.0)) in
    nothing _ _ (ap (done_to c.args.task) (sym (struct_scalars ss c.args.structs.deep c.args.number c.args.distance None (omega (arith, c.if-deep-eq0.false)) is)) ∙ done_none c.args.task)

pub each_in_struct-returns-in-None-clause-task : goal.each_in_struct-returns-in-None-clause-task
each_in_struct-returns-in-None-clause-task t c =
    let ls = c.args.structs.layouts.now in
    let ss = map plain_layout ls in
    let is = sym (slice_get-map plain_layout ls c.args.number ∙ ap (option_map plain_layout) (missing ls c.args.number c.in-None.ensures.lookup.0)) in
    sym (after_none c.args.task) ∙ ap (task_after c.args.task) (struct_scalars ss c.args.structs.deep c.args.number c.args.distance None (omega (arith, c.if-deep-eq0.false)) is)
