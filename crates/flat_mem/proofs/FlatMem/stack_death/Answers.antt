use Rattle.std.proofs.Common.{sym, ap, ◌∙◌, subst}
use Rattle.flat_mem.specs.Tidy.{IsTidy}
use Rattle.flat_mem.proofs.Tidied.{tidy_deleted}
use Rattle.flat_mem.proofs.FlatMem.stack_death.Goals as goal

pub invariant_of-self : goal.invariant_of-self
invariant_of-self c =
    let tidy = subst (λ t. IsTidy c.self.inside.stack t) (ap (λ m. m.top) c.self.view_is) c.self.invariant.1 in (
      c.self.invariant.0,
      tidy_deleted c.self.inside.stack c.death.new.self c.args.self.now c.args.at tidy (ap (λ m. m.stack) c.self.view_is) (sym c.len.ensures.value ∙ c.len.ensures.notes) c.requires c.death.ensures,
      c.self.invariant.2,
    )
