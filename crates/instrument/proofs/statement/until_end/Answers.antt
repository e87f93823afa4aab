use Rattle.std.proofs.Common.{ap, ◌∙◌}
use Rattle.mon_syntax.specs.Trees.{Labelled, plain_stmts}
use Rattle.mon_syntax.proofs.Rows.{labelled_is}
use Rattle.c_effects.specs.Expressions.{before, one}
use Rattle.c_effects.proofs.Trees.{on_ok_then}
use Rattle.instrument.proofs.statement.until_end.Goals as goal

pub returns : goal.returns
returns c =
    let whole = labelled_is c.args.code c.in_ok-label.label ∙ ap (Labelled (plain_stmts c.args.code.items)) c.in_ok-label.ensures in
    on_ok_then c.then.result (λ last. last ∙ ap (λ s. before (plain_stmts c.args.to.now.items) (one s)) whole) c.then.ensures
