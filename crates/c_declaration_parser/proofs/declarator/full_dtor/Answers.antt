use Rattle.std.proofs.Common.{arith}
use Rattle.c_declaration_parser.specs.Reading.{plain_declarator}
use Rattle.c_declaration_parser.proofs.DeclaratorWindows.{declarator_over, declarator_behind}
use Rattle.c_declaration_parser.proofs.declarator.full_dtor.Goals as goal

pub returns-in-0-clause-read : goal.returns-in-0-clause-read
returns-in-0-clause-read c =
    rw c.passed.ensures (declarator_over c.args.words.now c.args.named c.args.tokens.now c.window.result.now (plain_declarator c.in-Ok.d) c.in-Ok.rest.now c.window.ensures.front (omega (arith, c.if-tokens-le-MOST.false)) c.in-Ok.ensures.read
    (omega (arith, c.in-0.is)))

pub returns-in_default-clause-read : goal.returns-in_default-clause-read
returns-in_default-clause-read c =
    declarator_behind c.args.words.now c.args.named c.args.tokens.now c.window.result.now (plain_declarator c.in-Ok.d) c.in-Ok.rest.now c.behind.result.now c.window.ensures.front (omega (arith, c.if-tokens-le-MOST.false)) c.in-Ok.ensures.read
    (λ z. omega (arith, z, c.in_default)) (omega (arith, c.in-Ok.ensures.shorter)) c.behind.ensures.rest
