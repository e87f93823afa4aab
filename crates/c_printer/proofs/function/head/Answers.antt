use Rattle.mon_syntax.specs.Trees.{plain_func}
use Rattle.c_printer.proofs.Written.{then, shown}
use Rattle.c_printer.proofs.Texts.{head_text}
use Rattle.c_printer.proofs.function.head.Goals as goal

pub returns : goal.returns
returns g c =
    let front = rw (c.as_bytes.ensures.value, c.result_word.ensures, c.bytes.ensures) at c.write_three.ensures in
    let parameters = rw c.deref.ensures.value at c.parameters.ensures in
    let registers = rw c.deref-2.ensures.value at c.registers.ensures in
    shown (head_text (plain_func c.args.f.now))
    (then front (then c.write.ensures (then parameters (then c.write-2.ensures registers))))
