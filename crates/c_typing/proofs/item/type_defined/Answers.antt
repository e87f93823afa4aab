use Rattle.std.proofs.Common.{refl, rules, nat_eq}
use Rattle.indexmap.specs.IndexMap.{get}
use Rattle.c_syntax.specs.Programs.{plain_func}
use Rattle.c_scopes.specs.Sights.{plain_sight}
use Rattle.c_typing.specs.Files.{plain_course}
use Rattle.c_typing.proofs.ItemParts.{defined_made}
use Rattle.c_typing.proofs.item.type_defined.Goals as goal

pub returns : goal.returns
returns c =
    let s = plain_course c.args.course.now in
    let whole = defined_made s (record s { sight = plain_sight c.type_function.new.sight; names = get nat_eq c.type_function.new.names }) (get nat_eq c.args.numbers.now) (plain_func c.args.f.now)
    (plain_func c.type_function.new.f) c.type_function.result c.type_function.ensures.typed c.type_function.ensures.behind c.type_function.ensures.names refl in
    search (rules, whole)
