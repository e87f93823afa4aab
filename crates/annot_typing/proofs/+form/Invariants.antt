use Rattle.std.proofs.Common.{◌+◌, ◌*◌}
use Rattle.std.specs.Prelude.{max}
use Rattle.c_syntax.specs.declared.logic.Formula.{size-Formula}
use Rattle.c_syntax.specs.declared.logic.FormulaKind.{size-FormulaKind}
use Rattle.c_syntax.specs.declared.logic.FormulaLinks.{size-FormulaLinks}
use Rattle.c_syntax.specs.declared.logic.FormulaZone.{size-FormulaZone}
use Rattle.c_syntax.specs.declared.logic.FormulaZones.{size-FormulaZones}
use Rattle.annot_typing.proofs.+form.Given as goal

abbrev pub decreases-form::type_form : goal.decreases-form::type_form
decreases-form::type_form l = 8 * size-Formula l.f.now

abbrev pub decreases-form::type_value : goal.decreases-form::type_value
decreases-form::type_value l = 8 * size-Formula l.f.now + 1

abbrev pub decreases-form::type_kind : goal.decreases-form::type_kind
decreases-form::type_kind l = 8 * size-FormulaKind l.kind.now

abbrev pub decreases-form::type_unary : goal.decreases-form::type_unary
decreases-form::type_unary l = 8 * size-Formula l.a.now + 1

abbrev pub decreases-form::type_binary : goal.decreases-form::type_binary
decreases-form::type_binary l = 8 * max (size-Formula l.a.now) (size-Formula l.b.now) + 3

abbrev pub decreases-form::type_connected : goal.decreases-form::type_connected
decreases-form::type_connected l = 8 * max (size-Formula l.a.now) (size-Formula l.b.now) + 3

abbrev pub decreases-form::type_choice : goal.decreases-form::type_choice
decreases-form::type_choice l = 8 * max (size-Formula l.c.now) (max (size-Formula l.a.now) (size-Formula l.b.now)) + 4

abbrev pub decreases-form::type_chain : goal.decreases-form::type_chain
decreases-form::type_chain l = 8 * max (size-Formula l.a.now) (size-FormulaLinks l.links.now) + 3

abbrev pub decreases-form::type_index : goal.decreases-form::type_index
decreases-form::type_index l = 8 * max (size-Formula l.a.now) (size-Formula l.b.now) + 3

abbrev pub decreases-form::type_dot : goal.decreases-form::type_dot
decreases-form::type_dot l = 8 * size-Formula l.a.now + 1

abbrev pub decreases-form::type_arrow : goal.decreases-form::type_arrow
decreases-form::type_arrow l = 8 * size-Formula l.a.now + 2

abbrev pub decreases-form::type_told : goal.decreases-form::type_told
decreases-form::type_told l = 8 * size-Formula l.a.now + 2

abbrev pub decreases-form::type_asked : goal.decreases-form::type_asked
decreases-form::type_asked l = 8 * size-FormulaZone l.z.now + 1

abbrev pub decreases-form::type_separated : goal.decreases-form::type_separated
decreases-form::type_separated l = 8 * size-FormulaZones l.zones.now + 1

abbrev pub decreases-form::type_two : goal.decreases-form::type_two
decreases-form::type_two l = 8 * max (size-Formula l.a.now) (size-Formula l.b.now) + 2

abbrev pub decreases-form::type_three : goal.decreases-form::type_three
decreases-form::type_three l = 8 * max (size-Formula l.c.now) (max (size-Formula l.a.now) (size-Formula l.b.now)) + 3

abbrev pub decreases-form::type_cast : goal.decreases-form::type_cast
decreases-form::type_cast l = 8 * size-Formula l.a.now + 2

abbrev pub decreases-form::type_sides : goal.decreases-form::type_sides
decreases-form::type_sides l = 8 * max (size-Formula l.a.now) (size-FormulaLinks l.links.now) + 2

abbrev pub decreases-form::type_links : goal.decreases-form::type_links
decreases-form::type_links l = 8 * size-FormulaLinks l.links.now

abbrev pub decreases-form::type_link : goal.decreases-form::type_link
decreases-form::type_link l = 8 * max (size-Formula l.b.now) (size-FormulaLinks l.rest.now) + 2

abbrev pub decreases-form::type_zone : goal.decreases-form::type_zone
decreases-form::type_zone l = 8 * size-FormulaZone l.z.now

abbrev pub decreases-form::type_zones : goal.decreases-form::type_zones
decreases-form::type_zones l = 8 * size-FormulaZones l.zones.now

abbrev pub decreases-form::type_first_zone : goal.decreases-form::type_first_zone
decreases-form::type_first_zone l = 8 * max (size-FormulaZone l.z.now) (size-FormulaZones l.rest.now) + 1

abbrev pub decreases-form::type_in_view : goal.decreases-form::type_in_view
decreases-form::type_in_view l = 8 * size-Formula l.a.now + 2

abbrev pub decreases-form::type_unlabelled : goal.decreases-form::type_unlabelled
decreases-form::type_unlabelled l = 8 * size-Formula l.a.now + 2

abbrev pub decreases-form::type_seen : goal.decreases-form::type_seen
decreases-form::type_seen l = 8 * size-Formula l.a.now + 3

abbrev pub decreases-form::type_labelled : goal.decreases-form::type_labelled
decreases-form::type_labelled l = 8 * size-Formula l.a.now + 4

abbrev pub decreases-quantified::type_quantified : goal.decreases-quantified::type_quantified
decreases-quantified::type_quantified l = 8 * size-Formula l.a.now + 7

abbrev pub decreases-quantified::type_inside : goal.decreases-quantified::type_inside
decreases-quantified::type_inside l = 8 * size-Formula l.f.now + 6

abbrev pub decreases-quantified::type_implication : goal.decreases-quantified::type_implication
decreases-quantified::type_implication l = 8 * max (size-Formula l.a.now) (size-Formula l.b.now) + 4

abbrev pub decreases-quantified::type_conjunction : goal.decreases-quantified::type_conjunction
decreases-quantified::type_conjunction l = 8 * max (size-Formula l.a.now) (size-Formula l.b.now) + 4

abbrev pub decreases-quantified::type_conjuncts : goal.decreases-quantified::type_conjuncts
decreases-quantified::type_conjuncts l = 8 * size-Formula l.f.now + 3

abbrev pub decreases-quantified::type_another : goal.decreases-quantified::type_another
decreases-quantified::type_another l = 8 * size-Formula l.f.now + 2

abbrev pub decreases-quantified::type_bounds : goal.decreases-quantified::type_bounds
decreases-quantified::type_bounds l = 8 * max (size-Formula l.a.now) (size-FormulaLinks l.links.now) + 3

abbrev pub decreases-quantified::type_bound : goal.decreases-quantified::type_bound
decreases-quantified::type_bound l = 8 * size-Formula l.a.now + 2

abbrev pub decreases-quantified::type_upper : goal.decreases-quantified::type_upper
decreases-quantified::type_upper l = 8 * size-FormulaLinks l.links.now
