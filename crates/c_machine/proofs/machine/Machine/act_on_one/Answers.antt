use Rattle.std.proofs.Common.{rules, FitsSigned, ◌∷◌, [], refl, sym, ap, subst, ◌∙◌}
use Rattle.std.specs.Int.{w128}
use Rattle.std.proofs.lemmas.Int.{to_z-of_z}
use Rattle.mon_syntax.specs.FlatMemory.{act_on_flat}
use Rattle.c_machine.specs.Held.{from_top}
use Rattle.c_machine.specs.Replies.{Refuses}
use Rattle.c_machine.proofs.Moves.{goes_after, goes_kept, goes_with}
use Rattle.c_machine.proofs.Acted.{one_taken, act_goes, act_ends}
use Rattle.c_machine.proofs.machine.Machine.act_on_one.Goals as goal

pub returns-in-Ok : goal.returns-in-Ok
returns-in-Ok c links ports =
    let m = c.args.self.now in
    let z = c.in-Some.argument in
    let below = from_top c.pop.new.self.height m.operands.items in
    let fz : FitsSigned w128 z = search rules in
    let fv : FitsSigned w128 c.in-Ok.value = search rules in
    let m0 = record m { memory = c.act_on_one.new.memory } in
    act_goes links c.args.f 1 m.cursor m (z ∷ []) below (one_taken links c.args.f m.cursor m z below c.in-Some.ensures.top) c.act_on_one.new.memory _ _ c.in-Ok.value
    (ap (λ x. act_on_flat c.args.f (x ∷ []) m.memory) (sym (to_z-of_z w128 z fz)) ∙ c.in-Ok.ensures)
    (goes_after m.cursor c.pop.new.self m0 _ _ (c.in-Ok.value ∷ below) c.in-Some.ensures.others
    (goes_kept c.pop.new.self m0 c.give.new.self c.give.new.machine (c.in-Ok.value ∷ below) _
    (goes_with c.pop.new.self m0 _ _ c.in-Ok.value c.in-Ok.value below fv refl c.give.ensures))) ports

pub returns-in-Err : goal.returns-in-Err
returns-in-Err c links ports =
    let m = c.args.self.now in
    let z = c.in-Some.argument in
    let below = from_top c.pop.new.self.height m.operands.items in
    let fz : FitsSigned w128 z = search rules in
    act_ends links c.args.f 1 m.cursor m (z ∷ []) below (one_taken links c.args.f m.cursor m z below c.in-Some.ensures.top) m.cursor m c.in-Err.end refl
    (subst (λ x. Refuses (act_on_flat c.args.f (x ∷ []) m.memory) c.in-Err.end) (to_z-of_z w128 z fz) c.in-Err.ensures) ports
