use Rattle.std.proofs.Common.{ap, ◌∙◌}
use Rattle.c_syntax.specs.Statements.{plain_cases}
use Rattle.mon_syntax.specs.Trees.{Labelled, plain_stmt_kind, plain_stmts}
use Rattle.mon_syntax.specs.declared.tree.MonStmtKind as code
use Rattle.mon_syntax.proofs.Rows.{labelled_is}
use Rattle.c_effects.proofs.Trees.{on_ok_then}
use Rattle.instrument.proofs.SwitchCode.{search_code}
use Rattle.instrument.proofs.switch.search.Goals as goal

pub returns : goal.returns
returns c =
    let choice = c.args.choice in
    let tests = plain_stmts c.in_ok-tests.tests.items in
    on_ok_then c.then.result
    (search_code c.args.levels choice.kind choice.value choice.index (plain_cases c.args.cases.now) (plain_stmts c.args.to.now.items) (plain_stmts c.set_index.new.to.items) (plain_stmts c.then.new.to.items) tests
    (plain_stmt_kind (code.Labelled c.in_ok-tests.tests c.in_ok-label.label)) c.default_of.result c.in_ok-set_index.ensures c.default_of.ensures
    (labelled_is c.in_ok-tests.tests c.in_ok-label.label ∙ ap (Labelled tests) c.in_ok-label.ensures) c.in_ok-tests.ensures)
    c.then.ensures
