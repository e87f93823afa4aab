use Rattle.std.proofs.Common.{ap, map, ◌∙◌, sym}
use Rattle.c_syntax.specs.Logic.{plain_annot}
use Rattle.c_model.specs.ClauseGrammar.{has_variant}
use Rattle.acsl_parser.specs.Reading.{plain_loop}
use Rattle.acsl_parser.proofs.LoopVariants.{again_here, first_one, not_again}
use Rattle.acsl_parser.proofs.loop_clauses.again_with.Goals as goal
use Rattle.acsl_parser.proofs.loop_clauses.again_with.Goals.{else-is_variant-via-then-is_variant+else-has_variant, else-is_variant-via-else-is_variant}

pub returns-then-has_variant : goal.returns-then-has_variant
returns-then-has_variant c =
    again_here (plain_loop c.args.all.now) (plain_annot c.args.clause.now) c.in-None.is (sym c.is_variant.ensures ∙ c.if-is_variant.true)
    (ap (λ l. has_variant (map plain_annot l)) (sym c.as_slice.ensures.value) ∙ sym c.has_variant.ensures ∙ c.if-has_variant.true)

pub returns-else-is_variant : goal.returns-else-is_variant
returns-else-is_variant c = elim c.else-is_variant.branch [
  | else-is_variant-via-then-is_variant+else-has_variant w ↦
      first_one (plain_loop c.args.all.now) (plain_annot c.args.clause.now) c.in-None.is (sym c.is_variant.ensures ∙ w.if-is_variant.true)
      (ap (λ l. has_variant (map plain_annot l)) (sym w.as_slice.ensures.value) ∙ sym w.has_variant.ensures ∙ w.if-has_variant.false)
  | else-is_variant-via-else-is_variant w ↦ not_again (plain_loop c.args.all.now) (plain_annot c.args.clause.now) c.in-None.is (sym c.is_variant.ensures ∙ w.if-is_variant.false)
]
