use Rattle.std.proofs.Common.{arith}
use Rattle.acsl_parser.specs.Reading.{plain_placed}
use Rattle.acsl_parser.proofs.Clauses.{full_loop_clause_over, full_loop_clause_behind}
use Rattle.acsl_parser.proofs.loop_clauses.full_loop_clause.Goals as goal

pub returns-in-0 : goal.returns-in-0
returns-in-0 c =
    rw c.passed.ensures (full_loop_clause_over c.args.words.now c.args.number c.args.tokens.now c.window.result.now (plain_placed c.in-Ok.clause) c.in-Ok.rest.now c.window.ensures.front (omega (arith, c.if-tokens-le-MOST.false)) c.in-Ok.ensures.read
    (omega (arith, c.in-0.is)))

pub returns-in_default : goal.returns-in_default
returns-in_default c =
    full_loop_clause_behind c.args.words.now c.args.number c.args.tokens.now c.window.result.now (plain_placed c.in-Ok.clause) c.in-Ok.rest.now c.behind.result.now c.window.ensures.front (omega (arith, c.if-tokens-le-MOST.false)) c.in-Ok.ensures.read
    (λ z. omega (arith, z, c.in_default)) (omega (arith, c.in-Ok.ensures.shorter)) c.behind.ensures.rest
