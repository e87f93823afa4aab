use Rattle.c_printer.specs.Sight.{in_sight}
use Rattle.c_printer.proofs.Written.{nothing, then, shown}
use Rattle.c_printer.proofs.Texts.{no_arguments_text, arguments_text}
use Rattle.c_printer.proofs.call.arguments.Goals as goal

pub returns-in-empty : goal.returns-in-empty
returns-in-empty g c = shown (no_arguments_text (in_sight c.args.named.now) c.args.list.now c.in-empty.len_below) (nothing _)

pub returns-in-len1-up : goal.returns-in-len1-up
returns-in-len1-up g c =
    shown (arguments_text (in_sight c.args.named.now) c.args.list.now c.first-item.result c.in-len1-up.len_at_least c.first-item.is) (then c.expression.ensures c.more_arguments.ensures)
