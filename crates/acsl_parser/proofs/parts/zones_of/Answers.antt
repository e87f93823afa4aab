use Rattle.std.proofs.Common.{sym, ap, ◌∙◌, map}
use Rattle.c_syntax.specs.Formulas.{Another, plain_form_zone, plain_form_zones}
use Rattle.acsl_parser.proofs.Zones.{zones_before, before_last}
use Rattle.acsl_parser.proofs.parts.zones_of.Goals as goal

pub turn-preserved : goal.turn-preserved
turn-preserved c =
    ap (λ t. zones_before (map plain_form_zone c.pop.new.self.items) (Another (plain_form_zone c.in-Some.zone) (plain_form_zones t))) c.in_ok-new.ensures.ok
    ∙ sym (before_last c.pop.new.self.items c.in-Some.zone (plain_form_zones c.turn.all))
    ∙ ap (λ l. zones_before (map plain_form_zone l) (plain_form_zones c.turn.all)) (sym c.in-Some.ensures.items)
    ∙ c.turn.invariant
