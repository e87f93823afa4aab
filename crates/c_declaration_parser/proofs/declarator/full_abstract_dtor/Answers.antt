use Rattle.std.proofs.Common.{arith}
use Rattle.c_declaration_parser.specs.Reading.{plain_abstract}
use Rattle.c_declaration_parser.proofs.DeclaratorWindows.{abstract_over, abstract_behind}
use Rattle.c_declaration_parser.proofs.declarator.full_abstract_dtor.Goals as goal

pub returns-in-0-clause-read : goal.returns-in-0-clause-read
returns-in-0-clause-read c =
    rw c.passed.ensures (abstract_over c.args.words.now c.args.tokens.now c.window.result.now (plain_abstract c.in-Ok.d) c.in-Ok.rest.now c.window.ensures.front (omega (arith, c.if-tokens-le-MOST.false)) c.in-Ok.ensures.read
    (omega (arith, c.in-0.is)))

pub returns-in_default-clause-read : goal.returns-in_default-clause-read
returns-in_default-clause-read c =
    abstract_behind c.args.words.now c.args.tokens.now c.window.result.now (plain_abstract c.in-Ok.d) c.in-Ok.rest.now c.behind.result.now c.window.ensures.front (omega (arith, c.if-tokens-le-MOST.false)) c.in-Ok.ensures.read
    (λ z. omega (arith, z, c.in_default)) (omega (arith, c.in-Ok.ensures.shorter)) c.behind.ensures.rest
