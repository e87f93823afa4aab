use Rattle.std.proofs.Common.{ap, ◌∙◌}
use Rattle.mon_syntax.specs.Trees.{plain_content}
use Rattle.mon_syntax.specs.Text.{content_pieces, spelled}
use Rattle.c_printer.proofs.Written.{then, shown}
use Rattle.c_printer.proofs.Texts.{zeros_text, literal_text}
use Rattle.c_printer.proofs.global.content.Goals as goal

pub returns-in-Zeros : goal.returns-in-Zeros
returns-in-Zeros g c =
    shown (ap (λ x. spelled (content_pieces c.args.name.now (plain_content x))) c.in-Zeros.is ∙ zeros_text c.args.name.now c.in-Zeros.size) (then c.write_three.ensures (then c.number.ensures c.write.ensures))

pub returns-in-Literal : goal.returns-in-Literal
returns-in-Literal g c =
    let count = rw c.bytes.ensures at c.number-in-Literal.ensures in
    let text = rw c.bytes-in-Literal.ensures at c.string.ensures in
    shown (ap (λ x. spelled (content_pieces c.args.name.now (plain_content x))) c.in-Literal.is ∙ literal_text c.args.name.now c.in-Literal.bytes)
    (then c.write_three-in-Literal.ensures (then count (then c.write-in-Literal.ensures (then text c.write-in-Literal-2.ensures))))
