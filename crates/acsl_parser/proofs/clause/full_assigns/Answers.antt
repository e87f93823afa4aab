use Rattle.std.proofs.Common.{arith}
use Rattle.acsl_parser.proofs.Clauses.{full_assigns_over, full_assigns_behind}
use Rattle.acsl_parser.proofs.clause.full_assigns.Goals as goal

pub returns-in-0 : goal.returns-in-0
returns-in-0 c =
    rw c.passed.ensures (full_assigns_over c.args.words.now c.args.tokens.now c.window.result.now c.in-Ok.place c.in-Ok.rest.now c.window.ensures.front (omega (arith, c.if-tokens-le-MOST.false)) c.in-Ok.ensures.read
    (omega (arith, c.in-0.is)))

pub returns-in_default : goal.returns-in_default
returns-in_default c =
    full_assigns_behind c.args.words.now c.args.tokens.now c.window.result.now c.in-Ok.place c.in-Ok.rest.now c.behind.result.now c.window.ensures.front (omega (arith, c.if-tokens-le-MOST.false)) c.in-Ok.ensures.read
    (λ z. omega (arith, z, c.in_default)) (omega (arith, c.in-Ok.ensures.shorter)) c.behind.ensures.rest
