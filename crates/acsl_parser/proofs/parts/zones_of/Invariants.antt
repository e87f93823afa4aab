use Rattle.std.proofs.Common.{◌≡◌, map, length}
use Rattle.c_syntax.specs.Formulas.{plain_form_zone, plain_form_zones}
use Rattle.c_model.specs.AnnotationGrammar.{zones_of}
use Rattle.acsl_parser.proofs.Zones.{zones_before}
use Rattle.acsl_parser.proofs.parts.zones_of.Given as goal

abbrev pub invariant-turn : goal.invariant-turn
invariant-turn l = zones_before (map plain_form_zone l.zones.items) (plain_form_zones l.all) ≡ zones_of (map plain_form_zone l.fn.zones.items)

abbrev pub decreases-turn : goal.decreases-turn
decreases-turn l = length l.zones.items
