use Rattle.std.proofs.Common.{arith}
use Rattle.c_syntax.specs.Logic.{plain_annot}
use Rattle.acsl_parser.proofs.Clauses.{full_cover_over, full_cover_behind}
use Rattle.acsl_parser.proofs.contract.full_cover.Goals as goal

pub returns-in-0 : goal.returns-in-0
returns-in-0 c =
    rw c.passed.ensures (full_cover_over c.args.words.now c.args.number c.args.tokens.now c.window.result.now (plain_annot c.in-Ok.clause) c.in-Ok.rest.now c.window.ensures.front (omega (arith, c.if-tokens-le-MOST.false)) c.in-Ok.ensures.read
    (omega (arith, c.in-0.is)))

pub returns-in_default : goal.returns-in_default
returns-in_default c =
    full_cover_behind c.args.words.now c.args.number c.args.tokens.now c.window.result.now (plain_annot c.in-Ok.clause) c.in-Ok.rest.now c.behind.result.now c.window.ensures.front (omega (arith, c.if-tokens-le-MOST.false)) c.in-Ok.ensures.read
    (λ z. omega (arith, z, c.in_default)) (omega (arith, c.in-Ok.ensures.shorter)) c.behind.ensures.rest
