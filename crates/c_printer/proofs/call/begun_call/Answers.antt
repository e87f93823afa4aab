use Rattle.std.proofs.Common.{map}
use Rattle.mon_syntax.specs.Trees.{plain_expr}
use Rattle.mon_syntax.specs.Text.{arguments_pieces}
use Rattle.c_printer.specs.Sight.{in_sight}
use Rattle.c_printer.proofs.Written.{then, shown}
use Rattle.c_printer.proofs.Texts.{begun_text}
use Rattle.c_printer.proofs.call.begun_call.Goals as goal

pub returns : goal.returns
returns g c =
    let rs = in_sight c.args.named.now in
    shown (begun_text rs c.args.r c.args.callee.now (arguments_pieces rs (map plain_expr c.args.list.now)))
    (then c.target.ensures (then c.write.ensures (then c.write-2.ensures c.arguments.ensures)))
