use Rattle.std.proofs.Common.{rules}
use Rattle.c_syntax.specs.Programs.{plain_func}
use Rattle.c_scopes.specs.Sights.{plain_sight}
use Rattle.c_typing.specs.NotedContracts.{numbers_in}
use Rattle.c_typing.proofs.NotedContracts.{function_noted}
use Rattle.c_typing.proofs.noted.note_function.Goals as goal

pub returns-clause-noted : goal.returns-clause-noted
returns-clause-noted c =
    let whole = function_noted (numbers_in c.args.definitions.now) (plain_sight c.args.sight.now) (plain_sight c.note_contract.new.sight) (plain_func c.args.f.now) (plain_func c.note_contract.new.f) (plain_func c.note_parts.new.f)
    c.note_parts.result c.in_ok-note_contract.ensures.noted c.note_contract.ensures.rest c.in_ok-note_contract.ensures.same (search rules) c.note_parts.ensures.rest in
    search (rules, whole)
