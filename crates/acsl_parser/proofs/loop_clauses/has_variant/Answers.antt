use Rattle.std.proofs.Common.{◌∙◌, sym}
use Rattle.acsl_parser.proofs.LoopVariants.{variant_later}
use Rattle.acsl_parser.proofs.loop_clauses.has_variant.Goals as goal

pub turn-preserved : goal.turn-preserved
turn-preserved c =
    variant_later c.turn.rest.now c.clause-item.result c.in-len1-up.len_at_least c.clause-item.is (sym c.is_variant.ensures ∙ c.if-is_variant.false) ∙ c.turn.invariant
