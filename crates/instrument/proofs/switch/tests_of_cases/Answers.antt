use Rattle.std.proofs.Common.{option_map, ap, sym, ◌∙◌}
use Rattle.c_syntax.specs.declared.statement.Case.{Case}
use Rattle.c_syntax.specs.Expressions.{plain_expr}
use Rattle.c_syntax.specs.Statements.{plain_cases}
use Rattle.mon_syntax.specs.Trees.{plain_stmts}
use Rattle.c_effects.specs.Expressions.{before}
use Rattle.c_effects.proofs.Sequences.{all_there, none_left}
use Rattle.instrument.specs.Translation.{test_case, tests_of_cases}
use Rattle.instrument.proofs.SwitchCode.{one_more_test}
use Rattle.instrument.proofs.switch.tests_of_cases.Goals as goal

pub loop-index-preserved : goal.loop-index-preserved
loop-index-preserved c =
    let choice = c.args.choice in
    let i = c.loop-index.index in
    let t = plain_stmts c.loop-index.code.items in
    let put = c.in_ok-test_case.ensures ∙ ap (λ (x : Case). before t (test_case c.args.levels choice.kind choice.value choice.index i (option_map plain_expr x.value))) (sym c.index-cases-index.is) in
    one_more_test c.args.levels choice.kind choice.value choice.index i c.args.cases.now c.index-cases-index.result t (plain_stmts c.test_case.new.to.items) c.loop-index-test.true c.index-cases-index.is put c.loop-index.invariant

pub returns : goal.returns
returns c =
    let choice = c.args.choice in
    all_there (none_left (λ l. tests_of_cases c.args.levels choice.kind choice.value choice.index c.loop-index.index (plain_cases l)) c.args.cases.now c.loop-index.index c.loop-index-test.false) c.loop-index.invariant
