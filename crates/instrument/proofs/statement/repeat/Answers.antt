use Rattle.std.proofs.Common.{ap, ◌∙◌}
use Rattle.mon_syntax.specs.Trees.{Labelled, plain_stmts}
use Rattle.mon_syntax.proofs.Rows.{loop_is}
use Rattle.c_effects.specs.Expressions.{before, one}
use Rattle.c_effects.proofs.Trees.{on_ok_then}
use Rattle.c_simulation.specs.Labels.{end_label}
use Rattle.instrument.proofs.statement.repeat.Goals as goal

pub returns : goal.returns
returns c =
    let turns = c.in_ok-turns.ensures ∙ ap one (loop_is c.args.front c.args.behind) in
    on_ok_then c.until_end.result (λ last. last ∙ ap (λ a. before (plain_stmts c.args.to.now.items) (one (Labelled a (end_label c.args.loops)))) turns) c.until_end.ensures
