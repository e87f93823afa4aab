use Rattle.std.proofs.Common.{refl, rules}
use Rattle.c_syntax.specs.Statements.{plain_decl}
use Rattle.c_scopes.specs.Sights.{plain_sight}
use Rattle.c_typing.specs.Files.{plain_course}
use Rattle.c_typing.proofs.ItemParts.{global_made}
use Rattle.c_typing.proofs.item.type_object.Goals as goal

pub returns : goal.returns
returns c =
    let s = plain_course c.args.course.now in
    let whole = global_made s (record s { sight = plain_sight c.type_global.new.sight }) (plain_decl c.args.d.now) (plain_decl c.type_global.new.d) c.type_global.result c.type_global.ensures.typed
    c.type_global.ensures.declared refl refl in
    search (rules, whole)
