use Rattle.std.proofs.Common.{◌+◌, ◌*◌}
use Rattle.std.specs.Prelude.{max}
use Rattle.c_syntax.specs.declared.logic.Guard.{size-Guard}
use Rattle.c_syntax.specs.declared.logic.Guards.{size-Guards}
use Rattle.c_syntax.specs.declared.logic.Links.{size-Links}
use Rattle.c_syntax.specs.declared.logic.Pred.{size-Pred}
use Rattle.c_syntax.specs.declared.logic.Term.{size-Term}
use Rattle.c_syntax.specs.declared.logic.Zone.{size-Zone}
use Rattle.c_syntax.specs.declared.logic.Zones.{size-Zones}
use Rattle.annot_code.proofs.+code.Given as goal

abbrev pub decreases-predicate::term_code : goal.decreases-predicate::term_code
decreases-predicate::term_code l = 8 * size-Term l.t.now

abbrev pub decreases-predicate::here : goal.decreases-predicate::here
decreases-predicate::here l = 8 * size-Term l.a.now + 1

abbrev pub decreases-predicate::prefixed : goal.decreases-predicate::prefixed
decreases-predicate::prefixed l = 8 * size-Term l.a.now + 1

abbrev pub decreases-predicate::cast : goal.decreases-predicate::cast
decreases-predicate::cast l = 8 * size-Term l.a.now + 1

abbrev pub decreases-predicate::binary : goal.decreases-predicate::binary
decreases-predicate::binary l = 8 * max (size-Term l.operands.0.now) (size-Term l.operands.1.now) + 1

abbrev pub decreases-predicate::choice : goal.decreases-predicate::choice
decreases-predicate::choice l = 8 * max (size-Pred l.c.now) (max (size-Term l.values.0.now) (size-Term l.values.1.now)) + 1

abbrev pub decreases-predicate::chain_code : goal.decreases-predicate::chain_code
decreases-predicate::chain_code l = 8 * size-Links l.links.now

abbrev pub decreases-predicate::link : goal.decreases-predicate::link
decreases-predicate::link l = 8 * max (size-Term l.sides.1.now) (size-Links l.rest.now) + 2

abbrev pub decreases-predicate::more_links : goal.decreases-predicate::more_links
decreases-predicate::more_links l = 8 * size-Links l.rest.now + 1

abbrev pub decreases-predicate::pred_code : goal.decreases-predicate::pred_code
decreases-predicate::pred_code l = 8 * size-Pred l.p.now

abbrev pub decreases-predicate::nonzero : goal.decreases-predicate::nonzero
decreases-predicate::nonzero l = 8 * size-Term l.t.now + 1

abbrev pub decreases-predicate::chain : goal.decreases-predicate::chain
decreases-predicate::chain l = 8 * max (size-Term l.t.now) (size-Links l.links.now) + 2

abbrev pub decreases-predicate::denied : goal.decreases-predicate::denied
decreases-predicate::denied l = 8 * size-Pred l.q.now + 1

abbrev pub decreases-predicate::sides : goal.decreases-predicate::sides
decreases-predicate::sides l = 8 * max (size-Pred l.parts.0.now) (size-Pred l.parts.1.now) + 1

abbrev pub decreases-predicate::one_of : goal.decreases-predicate::one_of
decreases-predicate::one_of l = 8 * max (size-Pred l.c.now) (max (size-Pred l.parts.0.now) (size-Pred l.parts.1.now)) + 1

abbrev pub decreases-predicate::deref : goal.decreases-predicate::deref
decreases-predicate::deref l = 8 * size-Term l.a.now + 1

abbrev pub decreases-predicate::member : goal.decreases-predicate::member
decreases-predicate::member l = 8 * size-Term l.a.now + 1

abbrev pub decreases-predicate::told : goal.decreases-predicate::told
decreases-predicate::told l = 8 * size-Term l.a.now + 1

abbrev pub decreases-predicate::pointer_deref : goal.decreases-predicate::pointer_deref
decreases-predicate::pointer_deref l = 8 * size-Term l.a.now + 1

abbrev pub decreases-predicate::pointer_member : goal.decreases-predicate::pointer_member
decreases-predicate::pointer_member l = 8 * size-Term l.a.now + 1

abbrev pub decreases-predicate::start_told : goal.decreases-predicate::start_told
decreases-predicate::start_told l = 8 * size-Term l.a.now + 1

abbrev pub decreases-predicate::difference : goal.decreases-predicate::difference
decreases-predicate::difference l = 8 * max (size-Term l.operands.0.now) (size-Term l.operands.1.now) + 1

abbrev pub decreases-predicate::moved : goal.decreases-predicate::moved
decreases-predicate::moved l = 8 * max (size-Term l.operands.0.now) (size-Term l.operands.1.now) + 1

abbrev pub decreases-predicate::pointer_code : goal.decreases-predicate::pointer_code
decreases-predicate::pointer_code l = 8 * size-Term l.t.now

abbrev pub decreases-predicate::place_code : goal.decreases-predicate::place_code
decreases-predicate::place_code l = 8 * size-Term l.t.now

abbrev pub decreases-predicate::side_code : goal.decreases-predicate::side_code
decreases-predicate::side_code l = 8 * size-Term l.t.now + 1

abbrev pub decreases-predicate::pointer_choice : goal.decreases-predicate::pointer_choice
decreases-predicate::pointer_choice l = 8 * max (size-Pred l.c.now) (max (size-Term l.values.0.now) (size-Term l.values.1.now)) + 1

abbrev pub decreases-predicate::zone_code : goal.decreases-predicate::zone_code
decreases-predicate::zone_code l = 8 * size-Zone l.z.now

abbrev pub decreases-predicate::elements : goal.decreases-predicate::elements
decreases-predicate::elements l = 8 * max (size-Term l.a.now) (max (size-Term l.bounds.0.now) (size-Term l.bounds.1.now)) + 1

abbrev pub decreases-predicate::zones_code : goal.decreases-predicate::zones_code
decreases-predicate::zones_code l = 8 * size-Zones l.zones.now

abbrev pub decreases-predicate::more_zones : goal.decreases-predicate::more_zones
decreases-predicate::more_zones l = 8 * max (size-Zone l.z.now) (size-Zones l.rest.now) + 1

abbrev pub decreases-predicate::asks : goal.decreases-predicate::asks
decreases-predicate::asks l = 8 * size-Zone l.z.now + 1

abbrev pub decreases-predicate::separated : goal.decreases-predicate::separated
decreases-predicate::separated l = 8 * size-Zones l.zones.now + 1

abbrev pub decreases-quantifier::quantified : goal.decreases-quantifier::quantified
decreases-quantifier::quantified l = 8 * max (size-Guards l.parts.0.now) (size-Pred l.parts.1.now) + 2

abbrev pub decreases-quantifier::open_guards : goal.decreases-quantifier::open_guards
decreases-quantifier::open_guards l = 8 * size-Guards l.guards.now

abbrev pub decreases-quantifier::open_more : goal.decreases-quantifier::open_more
decreases-quantifier::open_more l = 8 * max (size-Guard l.guard.now) (size-Guards l.rest.now) + 2
