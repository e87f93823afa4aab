use Rattle.std.proofs.Common.{◌+◌, ◌∙◌, ◌++◌, drop, map, codes}
use Rattle.mon_syntax.specs.Trees.{plain_expr}
use Rattle.mon_syntax.specs.Text.{more_arguments, spelled}
use Rattle.c_printer.specs.Sight.{in_sight}
use Rattle.c_printer.proofs.Behind.{left_at, none_left}
use Rattle.c_printer.proofs.Written.{then, up_none, up_more, up_all}
use Rattle.c_printer.proofs.Texts.{text, arguments_each}
use Rattle.c_printer.proofs.call.more_arguments.Goals as goal

pub list-init : goal.list-init
list-init g c = up_none _ (spelled (more_arguments (in_sight c.args.named.now) (map plain_expr c.args.list.now)))

pub list-preserved : goal.list-preserved
list-preserved g c =
    let rs = in_sight c.args.named.now in
    let rest = drop (c.list.e-index + 1) c.args.list.now in
    up_more (codes ", " ++ text rs (plain_expr c.e-item.result)) (spelled (more_arguments rs (map plain_expr rest)))
    (left_at (λ l. spelled (more_arguments rs (map plain_expr l))) c.args.list.now c.list.e-index c.e-item.result c.list-test.true c.e-item.is ∙ arguments_each rs c.e-item.result rest)
    c.list.invariant
    (then c.write.ensures c.expression.ensures)

pub returns : goal.returns
returns g c =
    up_all (none_left (λ l. spelled (more_arguments (in_sight c.args.named.now) (map plain_expr l))) c.args.list.now c.list.e-index c.list-test.false) c.list.invariant
