use Rattle.std.proofs.Common.{◌∙◌}
use Rattle.c_printer.proofs.Names.{global_within, global_past}
use Rattle.c_printer.proofs.expression.global_name.Goals as goal

pub returns-in-Some : goal.returns-in-Some
returns-in-Some c =
    let at = c.in-Some.ensures.lookup in
    c.bytes.ensures ∙ global_within c.args.named.now.globals.now c.args.g c.in-Some.global.now at.0 at.1

pub returns-in-None : goal.returns-in-None
returns-in-None c = global_past c.args.named.now.globals.now c.args.g c.in-None.ensures.lookup.0
