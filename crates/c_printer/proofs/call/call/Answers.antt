use Rattle.c_printer.proofs.Written.{then, shown}
use Rattle.c_printer.proofs.Texts.{call_text}
use Rattle.mon_syntax.specs.Trees.{plain_expr}
use Rattle.c_printer.specs.Sight.{in_sight}
use Rattle.c_printer.proofs.call.call.Goals as goal

pub returns : goal.returns
returns g c =
    shown (call_text c.args.callee.now (in_sight c.args.named.now) (plain_expr c.args.e.now))
    (then c.write.ensures c.between.ensures)
