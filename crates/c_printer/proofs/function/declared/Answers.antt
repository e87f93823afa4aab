use Rattle.c_printer.proofs.Written.{shown}
use Rattle.c_printer.proofs.Texts.{register_text}
use Rattle.mon_syntax.specs.Trees.{plain_register}
use Rattle.c_printer.proofs.function.declared.Goals as goal

pub returns : goal.returns
returns g c =
    shown (register_text (plain_register c.args.r.now)) (rw (c.as_bytes.ensures.value, c.type_word.ensures, c.bytes.ensures) at c.write_three.ensures)
