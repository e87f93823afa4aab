use Rattle.std.proofs.Common.{◌∙◌, ap}
use Rattle.mon_syntax.specs.Registers.{Names, register_of}
use Rattle.mon_syntax.proofs.Bindings.{found}
use Rattle.mon_syntax.proofs.registers.Registers.register_of.Goals as goal

pub returns : goal.returns
returns c =
    c.copied.ensures ∙ c.get.ensures.value ∙ found c.self.inside.bound.entries c.args.decl
    ∙ ap (λ (names : Names). register_of names.table.bound c.args.decl) c.self.view_is
