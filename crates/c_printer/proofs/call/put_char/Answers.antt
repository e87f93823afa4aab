use Rattle.std.proofs.Common.{codes}
use Rattle.mon_syntax.specs.Trees.{plain_expr}
use Rattle.mon_syntax.specs.Text.{call_pieces, expression_pieces, set_or_none}
use Rattle.c_printer.specs.Sight.{in_sight}
use Rattle.c_printer.proofs.Written.{then, shown}
use Rattle.c_printer.proofs.Texts.{spelled_append}
use Rattle.c_printer.proofs.call.put_char.Goals as goal

pub returns : goal.returns
returns g c =
    let rs = in_sight c.args.named.now in
    shown (spelled_append (set_or_none rs c.args.r) (call_pieces (codes "putchar") (expression_pieces rs (plain_expr c.args.e.now)))) (then c.target.ensures c.call.ensures)
