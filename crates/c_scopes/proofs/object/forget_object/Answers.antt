use Rattle.std.proofs.Common.{rules, arith, ◌≡◌, ◌∙◌, ℕ, sym, ap, subst, nat_eq, Option, Some, None}
use Rattle.std.specs.Map.{lookup}
use Rattle.c_scopes.specs.Objects.{ForgetsObject}
use Rattle.c_scopes.proofs.Objects.{object_forgotten, object_kept, none_forgotten}
use Rattle.c_scopes.proofs.object.forget_object.Goals as goal

pub returns-then-first-number : goal.returns-then-first-number
returns-then-first-number c =
    let old = c.args.firsts.now.entries in
    let new = c.swap_remove.new.self.entries in
    let known : Some c.in-Some-get.first.now ≡ lookup (nat_eq c.in-Some.decl) old = search rules in
    let same : c.in-Some-get.first.now ≡ c.args.number = omega (arith, c.if-first-number.true) in
    subst (λ (o : Option ℕ). ForgetsObject old o c.args.number new) (sym c.in-Some.is)
    (object_forgotten old new c.in-Some.decl c.args.number (sym known ∙ ap Some same) c.swap_remove.ensures.updates.0)

pub returns-else-first-number : goal.returns-else-first-number
returns-else-first-number c =
    let old = c.args.firsts.now.entries in
    let known : Some c.in-Some-get.first.now ≡ lookup (nat_eq c.in-Some.decl) old = search rules in
    subst (λ (o : Option ℕ). ForgetsObject old o c.args.number old) (sym c.in-Some.is)
    (object_kept old c.in-Some.decl c.args.number (λ this.
    let both : Some c.in-Some-get.first.now ≡ Some c.args.number = known ∙ this in
    let same : c.in-Some-get.first.now ≡ c.args.number = cc in
    omega (arith, same, c.if-first-number.false)))

pub returns-in-None-get : goal.returns-in-None-get
returns-in-None-get c =
    let old = c.args.firsts.now.entries in
    let known : None ≡ lookup (nat_eq c.in-Some.decl) old = search rules in
    subst (λ (o : Option ℕ). ForgetsObject old o c.args.number old) (sym c.in-Some.is)
    (object_kept old c.in-Some.decl c.args.number (λ this.
    let both : None ≡ Some c.args.number = known ∙ this in
    absurd cc))

pub returns-in-None : goal.returns-in-None
returns-in-None c =
    let old = c.args.firsts.now.entries in
    subst (λ (o : Option ℕ). ForgetsObject old o c.args.number old) (sym c.in-None.is) (none_forgotten old c.args.number)
