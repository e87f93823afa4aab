use Rattle.std.proofs.Common.{◌+◌, ◌∙◌, drop, map}
use Rattle.mon_syntax.specs.Trees.{plain_func, plain_global}
use Rattle.mon_syntax.specs.Text.{function_pieces, functions_pieces, spelled}
use Rattle.c_printer.specs.Sight.{names_of}
use Rattle.c_printer.proofs.Behind.{left_at, none_left}
use Rattle.c_printer.proofs.Written.{up_none, up_more, up_all}
use Rattle.c_printer.proofs.Texts.{functions_each}
use Rattle.c_printer.proofs.function.functions.Goals as goal

pub list-init : goal.list-init
list-init g c = up_none _ (spelled (functions_pieces (names_of c.args.list.now) (map plain_global c.args.globals.now) (map plain_func c.args.list.now)))

pub list-preserved : goal.list-preserved
list-preserved g c =
    let names = names_of c.args.list.now in
    let globals = map plain_global c.args.globals.now in
    let f = c.f-item.result in
    let rest = drop (c.list.f-index + 1) c.args.list.now in
    up_more (spelled (function_pieces names globals (plain_func f))) (spelled (functions_pieces names globals (map plain_func rest)))
    (left_at (λ l. spelled (functions_pieces names globals (map plain_func l))) c.args.list.now c.list.f-index f c.list-test.true c.f-item.is ∙ functions_each names globals f rest)
    c.list.invariant
    (c.function.ensures)

pub returns : goal.returns
returns g c =
    up_all (none_left (λ l. spelled (functions_pieces (names_of c.args.list.now) (map plain_global c.args.globals.now) (map plain_func l))) c.args.list.now c.list.f-index c.list-test.false) c.list.invariant
