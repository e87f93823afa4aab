-- Ours: zones as the code has them (ACSL 2.7): their plain form, and what a range asks of its bounds.
use Rattle.c_syntax.specs.declared.logic.Zone.{Zone}
use Rattle.c_syntax.specs.declared.logic.Zones.{Zones}
use Rattle.c_syntax.specs.Logic as plain
use Rattle.c_syntax.specs.Logic.{LogicTerm, Elements, plain_zone_kind, plain_zones}
use Rattle.c_syntax.specs.declared.place.Place.{Place}
use Rattle.c_syntax.specs.Ctypes.{PlainType}
use Rattle.c_syntax.specs.Layouts.{align_of, size_of}
use Rattle.c_model.specs.Checked.{Checked, Good, one_part}
use Rattle.c_model.specs.ExpressionTyping.{Sight}
use Rattle.c_model.specs.PredicateTyping.{Sorted, as_integer}

abbrev pub plain_zone : Zone → plain.Zone
plain_zone z = plain_zone_kind z.place z.size z.align z.kind.value

-- a zone, and those behind it
abbrev pub plain_zone_and_rest : (Zone × Zones) → (plain.Zone × plain.Zones)
plain_zone_and_rest p = (plain_zone p.0, plain_zones p.1)

-- the elements of this type behind a pointer from one bound to another, which have to be integers
abbrev pub elements_between : Sight → Place → PlainType → LogicTerm → Sorted → Sorted → Checked plain.Zone
elements_between s at u p lo hi =
    one_part (as_integer at lo) (λ l. one_part (as_integer at hi) (λ h. Good (Elements at (size_of s.structs u) (align_of s.structs u) p l h)))
