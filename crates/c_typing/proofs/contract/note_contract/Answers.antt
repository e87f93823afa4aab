use Rattle.std.proofs.Common.{ap, map, rules}
use Rattle.c_syntax.specs.Statements.{plain_decl}
use Rattle.c_syntax.specs.Programs.{plain_contract, plain_func}
use Rattle.c_scopes.specs.Sights.{plain_sight}
use Rattle.c_typing.specs.NotedContracts.{numbers_in, numbers_or_none}
use Rattle.c_typing.proofs.NotedContracts.{contract_noted}
use Rattle.c_typing.proofs.contract.note_contract.Goals as goal

pub returns-in-Some-clause-noted : goal.returns-in-Some-clause-noted
returns-in-Some-clause-noted c =
    let whole = contract_noted c.numbers_at-numbers.result.now (numbers_or_none (numbers_in c.args.definitions.now c.args.f.now.name)) (plain_sight c.args.sight.now) (plain_func c.args.f.now) (map plain_decl c.deref.result.now)
    (plain_contract c.in-Some.c) (plain_contract c.note_standing.new.c) c.note_standing.result c.numbers_at-numbers.ensures (ap (map plain_decl) c.deref.ensures.value) c.note_standing.ensures.noted in
    search (rules, whole)
