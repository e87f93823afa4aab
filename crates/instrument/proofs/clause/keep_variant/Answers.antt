use Rattle.std.proofs.Common.{ap, sym, ◌∙◌, option_map}
use Rattle.c_effects.specs.Named.{unit_of}
use Rattle.c_effects.proofs.Sequences.{nothing}
use Rattle.annot_pieces.specs.Tables.{plain_plan}
use Rattle.instrument.specs.LoopClauses.{variant_kept}
use Rattle.instrument.specs.LoopForms.{plain_variant}
use Rattle.instrument.proofs.clause.keep_variant.Goals as goal

pub returns-in-None-clause-code : goal.returns-in-None-clause-code
returns-in-None-clause-code c =
    let n = c.args.names.now in
    nothing _ _ (ap (variant_kept (unit_of n) n.table.bound (plain_plan c.args.plan.now.kept.now) n.table.kinds) (sym c.variant_of.ensures ∙ ap (option_map plain_variant) c.in-None.is))
