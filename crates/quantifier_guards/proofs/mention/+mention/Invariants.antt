use Rattle.c_syntax.specs.declared.logic.Formula.{size-Formula}
use Rattle.c_syntax.specs.declared.logic.FormulaKind.{size-FormulaKind}
use Rattle.c_syntax.specs.declared.logic.FormulaLinks.{size-FormulaLinks}
use Rattle.c_syntax.specs.declared.logic.FormulaZone.{size-FormulaZone}
use Rattle.c_syntax.specs.declared.logic.FormulaZones.{size-FormulaZones}
use Rattle.quantifier_guards.proofs.mention.+mention.Given as goal

abbrev pub decreases-mentions : goal.decreases-mentions
decreases-mentions l = size-Formula l.f.now

abbrev pub decreases-kind_mentions : goal.decreases-kind_mentions
decreases-kind_mentions l = size-FormulaKind l.kind.now

abbrev pub decreases-links_mention : goal.decreases-links_mention
decreases-links_mention l = size-FormulaLinks l.links.now

abbrev pub decreases-zone_mentions : goal.decreases-zone_mentions
decreases-zone_mentions l = size-FormulaZone l.z.now

abbrev pub decreases-zones_mention : goal.decreases-zones_mention
decreases-zones_mention l = size-FormulaZones l.zones.now
