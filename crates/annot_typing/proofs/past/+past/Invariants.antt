use Rattle.c_syntax.specs.declared.logic.Formula.{size-Formula}
use Rattle.c_syntax.specs.declared.logic.FormulaKind.{size-FormulaKind}
use Rattle.c_syntax.specs.declared.logic.FormulaLinks.{size-FormulaLinks}
use Rattle.c_syntax.specs.declared.logic.FormulaZone.{size-FormulaZone}
use Rattle.c_syntax.specs.declared.logic.FormulaZones.{size-FormulaZones}
use Rattle.annot_typing.proofs.past.+past.Given as goal

abbrev pub decreases-has_past : goal.decreases-has_past
decreases-has_past l = size-Formula l.f.now

abbrev pub decreases-kind_has_past : goal.decreases-kind_has_past
decreases-kind_has_past l = size-FormulaKind l.kind.now

abbrev pub decreases-links_have_past : goal.decreases-links_have_past
decreases-links_have_past l = size-FormulaLinks l.links.now

abbrev pub decreases-zone_has_past : goal.decreases-zone_has_past
decreases-zone_has_past l = size-FormulaZone l.z.now

abbrev pub decreases-zones_have_past : goal.decreases-zones_have_past
decreases-zones_have_past l = size-FormulaZones l.zones.now
