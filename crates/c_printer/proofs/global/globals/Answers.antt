use Rattle.std.proofs.Common.{◌+◌, ◌∙◌, ◌++◌, drop, map, codes}
use Rattle.mon_syntax.specs.Trees.{plain_global}
use Rattle.mon_syntax.specs.Text.{globals_pieces, new_line, spelled, spelled_piece}
use Rattle.c_printer.proofs.Behind.{left_at, none_left}
use Rattle.c_printer.proofs.Written.{then, up_none, up_more, up_all}
use Rattle.c_printer.proofs.Texts.{global_text, globals_each}
use Rattle.c_printer.proofs.global.globals.Goals as goal

pub list-init : goal.list-init
list-init g c = up_none _ (spelled (globals_pieces (map plain_global c.args.list.now)))

pub list-preserved : goal.list-preserved
list-preserved g c =
    let rest = drop (c.list.g-index + 1) c.args.list.now in
    let content = rw c.bytes.ensures at c.content.ensures in
    up_more (codes "static " ++ (global_text c.g-item.result ++ spelled_piece (new_line 0))) (spelled (globals_pieces (map plain_global rest)))
    (left_at (λ l. spelled (globals_pieces (map plain_global l))) c.args.list.now c.list.g-index c.g-item.result c.list-test.true c.g-item.is ∙ globals_each c.g-item.result rest)
    c.list.invariant
    (then c.write.ensures (then content c.line.ensures))

pub returns : goal.returns
returns g c = up_all (none_left (λ l. spelled (globals_pieces (map plain_global l))) c.args.list.now c.list.g-index c.list-test.false) c.list.invariant
