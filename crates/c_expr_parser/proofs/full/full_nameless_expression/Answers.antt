use Rattle.std.proofs.Common.{arith}
use Rattle.c_syntax.specs.Expressions.{plain_expr}
use Rattle.c_expr_parser.proofs.Windows.{full_nameless_expression_over, full_nameless_expression_behind}
use Rattle.c_expr_parser.proofs.full.full_nameless_expression.Goals as goal

pub returns-in-0-clause-read : goal.returns-in-0-clause-read
returns-in-0-clause-read c =
    rw c.passed.ensures (full_nameless_expression_over c.args.words.now c.args.tokens.now c.window.result.now (plain_expr c.in-Ok.e, c.in-Ok.first) c.in-Ok.rest.now c.window.ensures.front (omega (arith, c.if-tokens-le-MOST.false))
    c.in-Ok.ensures.read
    (omega (arith, c.in-0.is)))

pub returns-in_default-clause-read : goal.returns-in_default-clause-read
returns-in_default-clause-read c =
    full_nameless_expression_behind c.args.words.now c.args.tokens.now c.window.result.now (plain_expr c.in-Ok.e, c.in-Ok.first) c.in-Ok.rest.now c.behind.result.now c.window.ensures.front (omega (arith, c.if-tokens-le-MOST.false))
    c.in-Ok.ensures.read
    (λ z. omega (arith, z, c.in_default)) (omega (arith, c.in-Ok.ensures.shorter)) c.behind.ensures.rest
