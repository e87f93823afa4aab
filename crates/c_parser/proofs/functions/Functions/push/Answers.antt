use Rattle.std.proofs.Common.{rules, ◌≡◌, ◌∷◌, [], ◌++◌, ◌<◌, ◌∙◌, true, false, is_some, length, refl}
use Rattle.c_parser.proofs.Contracted.{marks_pushed, marks_kept}
use Rattle.c_parser.proofs.functions.Functions.push.Goals as goal

pub invariant_of-self-then-contracted : goal.invariant_of-self-then-contracted
invariant_of-self-then-contracted c =
    let items : c.push.new.self.items ≡ c.args.self.now.all.items ++ c.args.f ∷ [] = search rules in
    let there : is_some c.args.f.contract ≡ true = search rules in
    let long : c.args.f.name < length c.grow.new.flags.items = search rules in
    record { marks = marks_pushed c.grow.new.flags.items _ c.args.self.now.all.items c.push.new.self.items c.args.f (λ x. c.grow.ensures.same x ∙ c.args.self.now.marks x) items there long refl }

pub invariant_of-self-else-contracted : goal.invariant_of-self-else-contracted
invariant_of-self-else-contracted c =
    let items : c.push.new.self.items ≡ c.args.self.now.all.items ++ c.args.f ∷ [] = search rules in
    let there : is_some c.args.f.contract ≡ false = search rules in
    record { marks = marks_kept c.grow.new.flags.items c.args.self.now.all.items c.push.new.self.items c.args.f (λ x. c.grow.ensures.same x ∙ c.args.self.now.marks x) items there }
