use Rattle.c_syntax.specs.declared.logic.Formula.{size-Formula}
use Rattle.c_syntax.specs.declared.logic.FormulaKind.{size-FormulaKind}
use Rattle.c_syntax.specs.declared.logic.FormulaLinks.{size-FormulaLinks}
use Rattle.c_syntax.specs.declared.logic.FormulaZone.{size-FormulaZone}
use Rattle.c_syntax.specs.declared.logic.FormulaZones.{size-FormulaZones}
use Rattle.quantifier_guards.proofs.form.+unguarded.Given as goal

abbrev pub decreases-unguarded_in : goal.decreases-unguarded_in
decreases-unguarded_in l = size-Formula l.f.now

abbrev pub decreases-unguarded_in_kind : goal.decreases-unguarded_in_kind
decreases-unguarded_in_kind l = size-FormulaKind l.kind.now

abbrev pub decreases-unguarded_in_links : goal.decreases-unguarded_in_links
decreases-unguarded_in_links l = size-FormulaLinks l.links.now

abbrev pub decreases-unguarded_in_zone : goal.decreases-unguarded_in_zone
decreases-unguarded_in_zone l = size-FormulaZone l.z.now

abbrev pub decreases-unguarded_in_zones : goal.decreases-unguarded_in_zones
decreases-unguarded_in_zones l = size-FormulaZones l.zones.now
