use Rattle.std.proofs.Common.{◌+◌, ◌∙◌, ◌++◌, drop, map, codes}
use Rattle.mon_syntax.specs.Trees.{plain_register}
use Rattle.mon_syntax.specs.Text.{more_parameters, parameter_pieces, spelled}
use Rattle.c_printer.proofs.Behind.{left_at, none_left}
use Rattle.c_printer.proofs.Written.{then, up_none, up_more, up_all}
use Rattle.c_printer.proofs.Texts.{parameters_each}
use Rattle.c_printer.proofs.function.more_parameters.Goals as goal

pub list-init : goal.list-init
list-init g c = up_none _ (spelled (more_parameters (map plain_register c.args.list.now)))

pub list-preserved : goal.list-preserved
list-preserved g c =
    let rest = drop (c.list.r-index + 1) c.args.list.now in
    up_more (codes ", " ++ spelled (parameter_pieces (plain_register c.r-item.result))) (spelled (more_parameters (map plain_register rest)))
    (left_at (λ l. spelled (more_parameters (map plain_register l))) c.args.list.now c.list.r-index c.r-item.result c.list-test.true c.r-item.is ∙ parameters_each c.r-item.result rest)
    c.list.invariant
    (then c.write.ensures c.declared.ensures)

pub returns : goal.returns
returns g c = up_all (none_left (λ l. spelled (more_parameters (map plain_register l))) c.args.list.now c.list.r-index c.list-test.false) c.list.invariant
