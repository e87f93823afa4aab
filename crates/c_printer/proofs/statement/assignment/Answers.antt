use Rattle.c_printer.proofs.Written.{then, shown}
use Rattle.c_printer.proofs.Texts.{assignment_text}
use Rattle.mon_syntax.specs.Trees.{plain_expr}
use Rattle.c_printer.specs.Sight.{in_sight}
use Rattle.c_printer.proofs.statement.assignment.Goals as goal

pub returns : goal.returns
returns g c =
    shown (assignment_text (in_sight c.args.named.now) c.args.r (plain_expr c.args.e.now)) (then c.set.ensures (then c.expression.ensures c.write.ensures))
