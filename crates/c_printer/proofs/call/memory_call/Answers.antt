use Rattle.std.proofs.Common.{map}
use Rattle.mon_syntax.specs.Trees.{plain_expr}
use Rattle.mon_syntax.specs.Text.{arguments_pieces, memory_word, size_argument}
use Rattle.c_printer.specs.Sight.{in_sight}
use Rattle.c_printer.proofs.Written.{then, shown}
use Rattle.c_printer.proofs.Texts.{memory_text}
use Rattle.c_printer.proofs.call.memory_call.Goals as goal

pub returns : goal.returns
returns g c =
    let rs = in_sight c.args.named.now in
    let begun = rw (c.as_bytes.ensures.value, c.memory_word.ensures) at c.begun_call.ensures in
    shown (memory_text rs c.args.r (memory_word c.args.f) (arguments_pieces rs (map plain_expr c.args.list.now)) (size_argument c.args.f))
    (then begun (then c.size_argument.ensures c.write.ensures))
