use Rattle.std.proofs.Common.{◌∙◌}
use Rattle.c_printer.proofs.Names.{function_within, function_past}
use Rattle.c_printer.proofs.call.callee.Goals as goal

pub returns-in-Some : goal.returns-in-Some
returns-in-Some c =
    let at = c.in-Some.ensures.lookup in
    c.bytes.ensures ∙ function_within c.args.named.now.functions.now c.args.f c.in-Some.function.now at.0 at.1

pub returns-in-None : goal.returns-in-None
returns-in-None c = function_past c.args.named.now.functions.now c.args.f c.in-None.ensures.lookup.0
