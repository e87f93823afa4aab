use Rattle.std.proofs.Common.{sym}
use Rattle.c_printer.specs.Sight.{in_sight}
use Rattle.c_printer.proofs.Written.{then, shown}
use Rattle.c_printer.proofs.Texts.{pointer_mark_text, number_mark_text}
use Rattle.c_printer.proofs.statement.mark.Goals as goal

pub returns-then-is_pointer : goal.returns-then-is_pointer
returns-then-is_pointer g c =
    shown (pointer_mark_text (in_sight c.args.named.now) c.args.r c.args.t (sym c.if-is_pointer.ensures)) (rw c.name.ensures at c.write_three.ensures)

pub returns-else-is_pointer : goal.returns-else-is_pointer
returns-else-is_pointer g c =
    let front = rw c.name-else-is_pointer.ensures at c.write_three-else-is_pointer.ensures in
    let size = rw c.byte_count.ensures.exact at c.number.ensures in
    shown (number_mark_text (in_sight c.args.named.now) c.args.r c.args.t (sym c.if-is_pointer.ensures)) (then front (then size c.write.ensures))
