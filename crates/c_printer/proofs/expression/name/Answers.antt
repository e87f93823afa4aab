use Rattle.std.proofs.Common.{◌∙◌}
use Rattle.c_printer.proofs.Names.{name_behind, name_past}
use Rattle.c_printer.proofs.expression.name.Goals as goal

pub returns-in-Some-get : goal.returns-in-Some-get
returns-in-Some-get c =
    let at = c.in-Some-get.ensures.lookup in
    c.bytes-in-Some-get.ensures ∙ name_behind c.args.named.now.parameters.now c.args.named.now.registers.now c.args.r c.in-Some-get.register.now c.in-None.ensures.lookup.0 at.0 at.1

pub returns-in-None-get : goal.returns-in-None-get
returns-in-None-get c =
    name_past c.args.named.now.parameters.now c.args.named.now.registers.now c.args.r c.in-None.ensures.lookup.0 c.in-None-get.ensures.lookup.0
