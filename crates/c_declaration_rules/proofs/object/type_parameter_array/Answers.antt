use Rattle.std.proofs.Common.{◌≡◌, ◌∙◌, sym, false}
use Rattle.c_syntax.specs.Ctypes.{plain_length, plain_type}
use Rattle.c_scopes.specs.Sights.{plain_sight}
use Rattle.c_declaration_rules.specs.Objects.{is_left}
use Rattle.c_declaration_rules.proofs.Parts.{array_made}
use Rattle.c_declaration_rules.proofs.object.type_parameter_array.Goals as goal

pub returns-else-is_left-clause-typed : goal.returns-else-is_left-clause-typed
returns-else-is_left-clause-typed c =
    let left : is_left (plain_length c.args.n.now) ≡ false = sym c.is_left.ensures ∙ c.if-is_left.false in
    array_made (plain_sight c.args.sight.now) c.args.place (plain_type c.args.u.now) (plain_type c.type_pointed-pointed.new.u) (plain_length c.args.n.now) (plain_length c.type_length.new.n)
    c.type_pointed-pointed.result c.type_length.result c.both.result left c.type_pointed-pointed.ensures.typed c.type_length.ensures.typed c.both.ensures.is
