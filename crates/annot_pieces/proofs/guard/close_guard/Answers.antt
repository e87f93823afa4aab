use Rattle.std.proofs.Common.{[], ap, ◌∙◌}
use Rattle.mon_syntax.specs.Trees.{plain_stmts}
use Rattle.c_effects.specs.Expressions.{before}
use Rattle.annot_simulation.specs.Code.{truth_code}
use Rattle.annot_pieces.specs.Plain.{code_of}
use Rattle.annot_pieces.proofs.Around.{guard_closed}
use Rattle.annot_pieces.proofs.guard.close_guard.Goals as goal

pub returns-clause-code : goal.returns-clause-code
returns-clause-code c =
    let inner = c.in_ok-c.c in
    let stmts = c.in_ok-then_all.ensures ∙ ap (λ s. before s (plain_stmts inner.stmts.items)) c.in_ok-stmts.ensures in
    guard_closed c.branched.result c.args.q c.branched.new.names.table.kinds c.args.names.now.table.kinds c.args.g c.args.c inner
    (record { stmts = c.then_all.new.to; flag = inner.flag; value = inner.value }) c.in_ok-otherwise.otherwise c.in_ok-c.ensures
    (ap (λ s. record (code_of inner []) { stmts = s }) stmts) (c.in_ok-otherwise.ensures ∙ ap (λ b. truth_code b []) c.undecided.ensures) c.branched.ensures.code
