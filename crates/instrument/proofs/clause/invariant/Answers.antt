use Rattle.std.proofs.Common.{ap}
use Rattle.c_syntax.specs.Logic.{plain_annot, plain_body}
use Rattle.c_effects.specs.Named.{unit_of}
use Rattle.c_effects.proofs.Sequences.{nothing}
use Rattle.annot_pieces.specs.Tables.{plain_plan}
use Rattle.instrument.specs.LoopClauses.{invariant_code}
use Rattle.instrument.proofs.clause.invariant.Goals as goal

pub returns-in-Value-clause-code : goal.returns-in-Value-clause-code
returns-in-Value-clause-code c =
    let n = c.args.names.now in
    nothing _ _ (ap (λ b. invariant_code (unit_of n) n.table.bound (plain_plan c.args.plan.now.kept.now) n.table.kinds (plain_annot c.args.annot.now) (plain_body b)) c.in-Value.is)
