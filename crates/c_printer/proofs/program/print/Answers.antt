use Rattle.std.proofs.Common.{map}
use Rattle.mon_syntax.specs.Trees.{plain_func, plain_global}
use Rattle.mon_syntax.specs.Text.{functions_pieces, globals_pieces}
use Rattle.c_printer.specs.Sight.{names_of}
use Rattle.c_printer.proofs.Written.{then, shown}
use Rattle.c_printer.proofs.Texts.{spelled_append}
use Rattle.c_printer.proofs.program.print.Goals as goal

pub returns : goal.returns
returns g c =
    let gs = map plain_global c.args.m.now.globals.items in
    let fs = c.args.m.now.functions.items in
    let first = rw c.new-to.ensures at c.write.ensures in
    let second = rw c.deref.ensures.value at c.globals.ensures in
    let third = rw (c.deref-2.ensures.value, c.deref-3.ensures.value) at c.functions.ensures in
    c.finish.ensures _ _ _ (then first (shown (spelled_append (globals_pieces gs) (functions_pieces (names_of fs) gs (map plain_func fs))) (then second third)))
