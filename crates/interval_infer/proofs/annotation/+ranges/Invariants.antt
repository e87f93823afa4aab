use Rattle.std.proofs.Common.{◌+◌, ◌*◌}
use Rattle.std.specs.Prelude.{max}
use Rattle.c_syntax.specs.declared.logic.Guards.{size-Guards}
use Rattle.c_syntax.specs.declared.logic.Links.{size-Links}
use Rattle.c_syntax.specs.declared.logic.Pred.{size-Pred}
use Rattle.c_syntax.specs.declared.logic.PredKind.{size-PredKind}
use Rattle.c_syntax.specs.declared.logic.Term.{size-Term}
use Rattle.c_syntax.specs.declared.logic.TermKind.{size-TermKind}
use Rattle.c_syntax.specs.declared.logic.Zone.{size-Zone}
use Rattle.c_syntax.specs.declared.logic.ZoneKind.{size-ZoneKind}
use Rattle.c_syntax.specs.declared.logic.Zones.{size-Zones}
use Rattle.interval_infer.proofs.annotation.+ranges.Given as goal

abbrev pub decreases-range_term : goal.decreases-range_term
decreases-range_term l = 2 * size-Term l.t.now

abbrev pub decreases-range_kind : goal.decreases-range_kind
decreases-range_kind l = 2 * size-TermKind l.kind.now

abbrev pub decreases-range_one : goal.decreases-range_one
decreases-range_one l = 2 * size-Term l.t.now + 1

abbrev pub decreases-range_place : goal.decreases-range_place
decreases-range_place l = 2 * size-Term l.t.now + 1

abbrev pub decreases-range_two : goal.decreases-range_two
decreases-range_two l = 2 * max (size-Term l.a.now) (size-Term l.b.now) + 1

abbrev pub decreases-range_zone : goal.decreases-range_zone
decreases-range_zone l = 2 * size-Zone l.z.now

abbrev pub decreases-range_zone_kind : goal.decreases-range_zone_kind
decreases-range_zone_kind l = 2 * size-ZoneKind l.kind.now

abbrev pub decreases-range_zones : goal.decreases-range_zones
decreases-range_zones l = 2 * size-Zones l.zones.now

abbrev pub decreases-range_links : goal.decreases-range_links
decreases-range_links l = 2 * size-Links l.links.now

abbrev pub decreases-range_pred : goal.decreases-range_pred
decreases-range_pred l = 2 * size-Pred l.p.now

abbrev pub decreases-range_pred_kind : goal.decreases-range_pred_kind
decreases-range_pred_kind l = 2 * size-PredKind l.kind.now

abbrev pub decreases-range_guards : goal.decreases-range_guards
decreases-range_guards l = 2 * size-Guards l.guards.now + 1

abbrev pub decreases-range_within : goal.decreases-range_within
decreases-range_within l = 2 * size-Pred l.p.now + 1

abbrev pub decreases-range_rest : goal.decreases-range_rest
decreases-range_rest l = 2 * size-Guards l.rest.now + 2
