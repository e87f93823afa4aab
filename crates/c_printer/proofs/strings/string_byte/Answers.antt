use Rattle.std.proofs.Common.{sym}
use Rattle.c_printer.proofs.Written.{then, shown}
use Rattle.c_printer.proofs.Texts.{escaped_text}
use Rattle.c_printer.proofs.strings.string_byte.Goals as goal

pub returns-else-is_plain : goal.returns-else-is_plain
returns-else-is_plain g c =
    shown (escaped_text c.args.byte (sym c.if-is_plain.ensures)) (then c.write-else-is_plain.ensures c.write-else-is_plain-2.ensures)
