use Rattle.mon_syntax.specs.Trees.{plain_expr}
use Rattle.c_printer.specs.Sight.{in_sight}
use Rattle.c_printer.proofs.Written.{then, shown}
use Rattle.c_printer.proofs.Texts.{assertion_parts}
use Rattle.c_printer.proofs.statement.assertion.Goals as goal

pub returns : goal.returns
returns g c =
    let kind = rw (c.as_bytes.ensures.value, c.kind_word.ensures) at c.string.ensures in
    shown (assertion_parts (in_sight c.args.named.now) (plain_expr c.args.d.now) (plain_expr c.args.v.now) c.args.annotation c.args.line c.args.kind)
    (then c.between.ensures (then c.between-2.ensures (then c.number.ensures (then c.write.ensures (then c.number-2.ensures (then c.write-2.ensures (then kind c.write-3.ensures)))))))
