use Rattle.std.proofs.Common.{rules, FitsSigned, to_z, of_z, ◌∷◌, [], refl, sym, subst, ◌∙◌}
use Rattle.std.specs.Int.{w128}
use Rattle.std.proofs.lemmas.Int.{to_z-of_z}
use Rattle.mon_syntax.specs.FlatMemory.{act_on_flat}
use Rattle.c_machine.specs.Held.{from_top}
use Rattle.c_machine.specs.Replies.{Refuses}
use Rattle.c_machine.proofs.Moves.{goes_after, goes_kept, goes_with}
use Rattle.c_machine.proofs.Acted.{two_taken, act_goes, act_ends}
use Rattle.c_machine.proofs.machine.Machine.act_on_two.Goals as goal

pub returns-in-Ok : goal.returns-in-Ok
returns-in-Ok c links ports =
    let m = c.args.self.now in
    let y = c.in-Some.second in
    let x = c.in-Some-pop.first in
    let c1 = c.pop.new.self in
    let c2 = c.pop-2.new.self in
    let below = from_top c2.height m.operands.items in
    let fx : FitsSigned w128 x = search rules in
    let fy : FitsSigned w128 y = search rules in
    let fv : FitsSigned w128 c.in-Ok.value = search rules in
    let m0 = record m { memory = c.act_on_two.new.memory } in
    act_goes links c.args.f 2 m.cursor m (x ∷ y ∷ []) below (two_taken links c.args.f m.cursor m x y _ below c.in-Some.ensures.top c.in-Some-pop.ensures.top) c.act_on_two.new.memory _ _ c.in-Ok.value
    ((λ i. act_on_flat c.args.f (sym (to_z-of_z w128 x fx) i ∷ sym (to_z-of_z w128 y fy) i ∷ []) m.memory) ∙ c.in-Ok.ensures)
    (goes_after m.cursor c1 m0 _ _ (c.in-Ok.value ∷ below) c.in-Some.ensures.others
    (goes_after c1 c2 m0 _ _ (c.in-Ok.value ∷ below) c.in-Some-pop.ensures.others
    (goes_kept c2 m0 c.give.new.self c.give.new.machine (c.in-Ok.value ∷ below) _
    (goes_with c2 m0 _ _ c.in-Ok.value c.in-Ok.value below fv refl c.give.ensures)))) ports

pub returns-in-Err : goal.returns-in-Err
returns-in-Err c links ports =
    let m = c.args.self.now in
    let y = c.in-Some.second in
    let x = c.in-Some-pop.first in
    let below = from_top c.pop-2.new.self.height m.operands.items in
    let fx : FitsSigned w128 x = search rules in
    let fy : FitsSigned w128 y = search rules in
    act_ends links c.args.f 2 m.cursor m (x ∷ y ∷ []) below (two_taken links c.args.f m.cursor m x y _ below c.in-Some.ensures.top c.in-Some-pop.ensures.top) m.cursor m c.in-Err.end refl
    (subst (λ a. Refuses (act_on_flat c.args.f (a ∷ y ∷ []) m.memory) c.in-Err.end) (to_z-of_z w128 x fx)
    (subst (λ b. Refuses (act_on_flat c.args.f (to_z w128 (of_z w128 x) ∷ b ∷ []) m.memory) c.in-Err.end) (to_z-of_z w128 y fy) c.in-Err.ensures)) ports
