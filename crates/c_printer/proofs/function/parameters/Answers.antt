use Rattle.c_printer.proofs.Written.{then, shown}
use Rattle.c_printer.proofs.Texts.{no_parameters_text, parameters_text}
use Rattle.c_printer.proofs.function.parameters.Goals as goal

pub returns-in-empty : goal.returns-in-empty
returns-in-empty g c = shown (no_parameters_text c.args.list.now c.in-empty.len_below) c.write.ensures

pub returns-in-len1-up : goal.returns-in-len1-up
returns-in-len1-up g c =
    shown (parameters_text c.args.list.now c.first-item.result c.in-len1-up.len_at_least c.first-item.is) (then c.declared.ensures c.more_parameters.ensures)
