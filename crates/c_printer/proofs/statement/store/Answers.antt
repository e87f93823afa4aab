use Rattle.mon_syntax.specs.Trees.{plain_expr}
use Rattle.c_printer.specs.Depths.{depth_of}
use Rattle.c_printer.specs.Sight.{in_sight}
use Rattle.c_printer.proofs.Written.{then, shown}
use Rattle.c_printer.proofs.Texts.{store_text}
use Rattle.c_printer.proofs.statement.store.Goals as goal

pub returns : goal.returns
returns g c =
    let front = rw (c.as_bytes.ensures.value, c.type_word.ensures) at c.write_three.ensures in
    shown (store_text (in_sight c.args.named.now) (depth_of c.args.depth.now) c.args.r c.args.t (plain_expr c.args.e.now))
    (then front (then c.set.ensures (then c.expression.ensures (then c.write.ensures (then c.line.ensures c.mark.ensures)))))
