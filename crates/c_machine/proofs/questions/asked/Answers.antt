use Rattle.std.proofs.Common.{rules, ℤ, pos, List, [], ◌∷◌, FitsSigned, subst, ◌∙◌}
use Rattle.std.specs.Int.{w128}
use Rattle.std.proofs.Math.ListN.{get_or}
use Rattle.std.proofs.lemmas.Int.{to_z-of_z}
use Rattle.mon_syntax.specs.FlatMemory.{act_on_flat}
use Rattle.c_machine.specs.Questions.{Tells}
use Rattle.c_machine.proofs.Asked.{six_are}
use Rattle.c_machine.proofs.questions.asked.Goals as goal

pub returns-in-len6 : goal.returns-in-len6
returns-in-len6 c =
    let xs : List ℤ = c.args.arguments.now in
    let f0 : FitsSigned w128 (get_or xs 0 (pos 0)) = search rules in
    let f1 : FitsSigned w128 (get_or xs 1 (pos 0)) = search rules in
    let f2 : FitsSigned w128 (get_or xs 2 (pos 0)) = search rules in
    let f3 : FitsSigned w128 (get_or xs 3 (pos 0)) = search rules in
    let f4 : FitsSigned w128 (get_or xs 4 (pos 0)) = search rules in
    let f5 : FitsSigned w128 (get_or xs 5 (pos 0)) = search rules in
    subst (λ l. Tells (act_on_flat c.args.f l c.args.memory.now) c.args.memory.now c.asked_of_two.result)
    ((λ i. to_z-of_z w128 _ f0 i ∷ to_z-of_z w128 _ f1 i ∷ to_z-of_z w128 _ f2 i ∷ to_z-of_z w128 _ f3 i ∷ to_z-of_z w128 _ f4 i ∷ to_z-of_z w128 _ f5 i ∷ [])
    ∙ six_are xs c.in-len6.len_at_least c.in-len6.len_below) c.asked_of_two.ensures
