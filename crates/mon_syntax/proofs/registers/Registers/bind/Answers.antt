use Rattle.std.proofs.Common.{◌∙◌, ap}
use Rattle.mon_syntax.specs.Registers.{Bindings, Names, with_binding, with_table}
use Rattle.mon_syntax.proofs.Bindings.{inserted}
use Rattle.mon_syntax.proofs.registers.Registers.bind.Goals as goal

pub returns : goal.returns
returns c =
    let made : Bindings → Names = λ bound. record { program = c.self.inside.definitions.program.now; table = record { kinds = c.self.inside.kinds.items; bound = bound } } in
    let put = c.in_ok-insert.ensures.entries ∙ inserted c.self.inside.bound.entries c.args.decl c.args.register in
    ap made put ∙ ap (λ (names : Names). with_table (with_binding c.args.decl c.args.register names.table) names) c.self.view_is
