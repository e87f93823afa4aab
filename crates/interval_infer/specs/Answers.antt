-- Ours: what the functions of this crate answer.
use Rattle.std.specs.Prelude.{Option, Some, None, Result, Ok, Err}
use Rattle.c_syntax.specs.RefusalCodes.{range_code}
use Rattle.c_syntax.specs.declared.place.Place.{Place}
use Rattle.c_syntax.specs.declared.annotation.Range.{Range}
use Rattle.c_syntax.specs.declared.logic.Zone as code
use Rattle.c_syntax.specs.Logic.{Zone, plain_zone_kind}
use Rattle.c_scopes.specs.declared.fault.TypeFault.{TypeFault}
use Rattle.c_scopes.specs.declared.fault.TypeFault.TheVariants.{Refused}

-- the refusal of what has no range
abbrev pub no_range : Place → TypeFault
no_range at = Refused (record { code = range_code; place = at })

-- the range, or the refusal of the term that has none
abbrev pub or_no_range : Option Range → Place → Result Range TypeFault
or_no_range None at = Err (no_range at)
or_no_range (Some r) at = Ok r

-- the plain form of a zone
abbrev pub plain_zone : code.Zone → Zone
plain_zone z = plain_zone_kind z.place z.size z.align z.kind.value
