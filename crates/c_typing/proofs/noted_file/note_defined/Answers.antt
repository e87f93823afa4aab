use Rattle.std.proofs.Common.{rules, nat_eq}
use Rattle.indexmap.specs.IndexMap.{get}
use Rattle.c_syntax.specs.Programs.{plain_func}
use Rattle.c_scopes.specs.Sights.{plain_sight}
use Rattle.c_function_rules.specs.Functions.{with_function_by}
use Rattle.c_typing.specs.NotedContracts.{numbers_in}
use Rattle.c_typing.proofs.NotedContracts.{same_noted}
use Rattle.c_typing.proofs.noted_file.note_defined.Goals as goal

pub returns-clause-noted : goal.returns-clause-noted
returns-clause-noted c =
    let whole = same_noted (numbers_in c.args.definitions.now) (with_function_by (get nat_eq c.args.numbers.now) (plain_sight c.args.sight.now) (plain_func c.args.f.now)) (plain_sight c.see_function.new.sight)
    (plain_func c.args.f.now) (plain_func c.note_function.new.f) c.note_function.result c.in_ok-see_function.ensures (search rules) in
    search (rules, whole)
