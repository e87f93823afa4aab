use Rattle.std.proofs.Common.{◌+◌, ◌∙◌, ◌++◌, drop, map, codes}
use Rattle.mon_syntax.specs.Trees.{plain_register}
use Rattle.mon_syntax.specs.Text.{new_line, parameter_pieces, registers_pieces, spelled, spelled_piece}
use Rattle.c_printer.proofs.Behind.{left_at, none_left}
use Rattle.c_printer.proofs.Written.{then, up_none, up_more, up_all}
use Rattle.c_printer.proofs.Texts.{registers_each}
use Rattle.c_printer.proofs.function.registers.Goals as goal

pub list-init : goal.list-init
list-init g c = up_none _ (spelled (registers_pieces (map plain_register c.args.list.now)))

pub list-preserved : goal.list-preserved
list-preserved g c =
    let rest = drop (c.list.r-index + 1) c.args.list.now in
    up_more (spelled_piece (new_line 1) ++ (spelled (parameter_pieces (plain_register c.r-item.result)) ++ codes ";")) (spelled (registers_pieces (map plain_register rest)))
    (left_at (λ l. spelled (registers_pieces (map plain_register l))) c.args.list.now c.list.r-index c.r-item.result c.list-test.true c.r-item.is ∙ registers_each c.r-item.result rest)
    c.list.invariant
    (then c.line.ensures (then c.declared.ensures c.write.ensures))

pub returns : goal.returns
returns g c = up_all (none_left (λ l. spelled (registers_pieces (map plain_register l))) c.args.list.now c.list.r-index c.list-test.false) c.list.invariant
