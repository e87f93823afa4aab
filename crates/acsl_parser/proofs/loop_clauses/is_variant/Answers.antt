use Rattle.c_syntax.specs.Logic.{plain_annot}
use Rattle.acsl_parser.proofs.LoopVariants.{no_variant}
use Rattle.acsl_parser.proofs.loop_clauses.is_variant.Goals as goal

pub returns-in_default : goal.returns-in_default
returns-in_default c =
    let a = plain_annot c.args.clause.now in
    no_variant a.number a.kind a.place a.body c.in_default.not-Variant
