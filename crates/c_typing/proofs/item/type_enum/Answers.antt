use Rattle.std.proofs.Common.{rules, map}
use Rattle.c_syntax.specs.Programs.{plain_enumerator}
use Rattle.c_scopes.specs.Sights.{plain_sight}
use Rattle.c_typing.proofs.ItemParts.{enumerators_keep}
use Rattle.c_typing.proofs.item.type_enum.Goals as goal

pub returns-clause-structs : goal.returns-clause-structs
returns-clause-structs c =
    enumerators_keep (plain_sight c.args.course.now.sight) (plain_sight c.type_enumerators.new.sight) (map plain_enumerator c.args.e.now.items.items)
    (map plain_enumerator c.type_enumerators.new.items.items) (search rules)
