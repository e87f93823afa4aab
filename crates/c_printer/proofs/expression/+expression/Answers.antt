use Rattle.std.proofs.Common.{ap, sym, ◌∙◌, FitsSigned, rules}
use Rattle.std.specs.Int.{w128}
use Rattle.std.proofs.lemmas.Int.{to_z-of_z}
use Rattle.std.proofs.lemmas.List.{append-nil}
use Rattle.mon_syntax.specs.Trees.{plain_expr, plain_expr_kind}
use Rattle.c_printer.specs.Sight.{in_sight}
use Rattle.c_printer.proofs.Written.{then, shown}
use Rattle.c_printer.proofs.Texts.{text, at_expression, binary_text, minus_text, flip_text, cast_text, load_text}
use Rattle.c_printer.proofs.expression.+expression.Goals as goal

pub between-returns : goal.between-returns
between-returns g t c = then c.write.ensures (then c.expression.ensures c.write-2.ensures)

pub expression-returns-in-Register : goal.expression-returns-in-Register
expression-returns-in-Register g t c =
    let rs = in_sight c.args.named.now in
    shown (ap (λ e. text rs (plain_expr_kind e)) (sym c.deref.ensures ∙ c.in-Register.is) ∙ append-nil _) (rw c.name.ensures at c.write.ensures)

pub expression-returns-in-Global : goal.expression-returns-in-Global
expression-returns-in-Global g t c =
    let rs = in_sight c.args.named.now in
    shown (ap (λ e. text rs (plain_expr_kind e)) (sym c.deref.ensures ∙ c.in-Global.is) ∙ append-nil _) (rw c.global_name.ensures at c.write-in-Global.ensures)

pub expression-returns-in-Constant : goal.expression-returns-in-Constant
expression-returns-in-Constant g t c =
    let f : FitsSigned w128 c.in-Constant.z = search rules in
    let constant = rw (to_z-of_z w128 c.in-Constant.z f) at c.constant.ensures in
    shown (ap (λ e. text (in_sight c.args.named.now) (plain_expr_kind e)) (sym c.deref.ensures ∙ c.in-Constant.is)) constant

pub expression-returns-in-Binary : goal.expression-returns-in-Binary
expression-returns-in-Binary g t c =
    let rs = in_sight c.args.named.now in
    let mark = rw (c.as_bytes.ensures.value, c.operator_mark.ensures) at c.write-in-Binary.ensures in
    shown (at_expression rs _ _ (sym c.deref.ensures ∙ c.in-Binary.is) (binary_text rs c.in-Binary.op c.in-Binary.field-1 (plain_expr c.in-Binary.a) (plain_expr c.in-Binary.b)))
    (then c.between.ensures (then mark c.between-in-Binary.ensures))

pub expression-returns-in-Minus : goal.expression-returns-in-Minus
expression-returns-in-Minus g t c =
    let rs = in_sight c.args.named.now in
    shown (at_expression rs _ _ (sym c.deref.ensures ∙ c.in-Minus.is) (minus_text rs c.in-Minus.field-0 (plain_expr c.in-Minus.a))) c.between-in-Minus.ensures

pub expression-returns-in-Flip : goal.expression-returns-in-Flip
expression-returns-in-Flip g t c =
    let rs = in_sight c.args.named.now in
    shown (at_expression rs _ _ (sym c.deref.ensures ∙ c.in-Flip.is) (flip_text rs c.in-Flip.field-0 (plain_expr c.in-Flip.a))) c.between-in-Flip.ensures

pub expression-returns-in-Cast : goal.expression-returns-in-Cast
expression-returns-in-Cast g t c =
    let rs = in_sight c.args.named.now in
    let word = rw (c.as_bytes-in-Cast.ensures.value, c.type_word.ensures) at c.write_three.ensures in
    shown (at_expression rs _ _ (sym c.deref.ensures ∙ c.in-Cast.is) (cast_text rs c.in-Cast.t (plain_expr c.in-Cast.a)))
    (then word c.between-in-Cast.ensures)

pub expression-returns-in-Load : goal.expression-returns-in-Load
expression-returns-in-Load g t c =
    let rs = in_sight c.args.named.now in
    let word = rw (c.as_bytes-in-Load.ensures.value, c.type_word-in-Load.ensures) at c.write_three-in-Load.ensures in
    shown (at_expression rs _ _ (sym c.deref.ensures ∙ c.in-Load.is) (load_text rs c.in-Load.t (plain_expr c.in-Load.a)))
    (then word c.between-in-Load.ensures)
