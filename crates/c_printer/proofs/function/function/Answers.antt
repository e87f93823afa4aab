use Rattle.std.proofs.Common.{map}
use Rattle.std.proofs.lemmas.List.{map-append}
use Rattle.mon_syntax.specs.Trees.{plain_func, plain_global, plain_register}
use Rattle.c_printer.specs.Sight.{names_of}
use Rattle.c_printer.proofs.Written.{then, shown}
use Rattle.c_printer.proofs.Texts.{function_text}
use Rattle.c_printer.proofs.function.function.Goals as goal

pub returns : goal.returns
returns g c =
    let f = c.args.f.now in
    let body = rw (c.deref-3.ensures.value, c.deref.ensures.value, c.deref-2.ensures.value, map-append plain_register f.parameters.items f.registers.items) at c.statements.ensures in
    shown (function_text (names_of c.args.all.now) (map plain_global c.args.globals.now) (plain_func f)) (then c.head.ensures (then body (then c.closing.ensures c.line.ensures)))
