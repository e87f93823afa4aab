use Rattle.std.proofs.Common.{map, ap, ◌∙◌}
use Rattle.c_syntax.specs.Statements.{plain_decl}
use Rattle.mon_syntax.specs.Trees as mon
use Rattle.mon_syntax.specs.Trees.{plain_expr, plain_stmts}
use Rattle.c_effects.specs.Expressions.{before, one}
use Rattle.c_effects.proofs.Trees.{on_ok_then}
use Rattle.instrument.proofs.Entries.{parameter_code}
use Rattle.instrument.proofs.parameter.enter_parameter.Goals as goal

pub returns-clause-code : goal.returns-clause-code
returns-clause-code c =
    let t1 = plain_stmts c.enter.new.to.items in
    on_ok_then c.then.result
    (λ last. parameter_code c.args.names.now c.in_ok-block.block c.args.argument (plain_decl c.args.d.now) (map plain_decl c.from_ref.result.now) (plain_stmts c.args.to.now.items) t1 (plain_stmts c.then.new.to.items)
    (plain_expr c.in_ok-value.value) c.in_ok-block.ensures.number (ap (map plain_decl) c.from_ref.ensures.value) c.in_ok-enter.ensures.born c.in_ok-value.ensures
    (last ∙ ap (λ k. before t1 (one (mon.Store c.in_ok-block.block k (plain_expr c.in_ok-value.value)))) c.value_type.ensures))
    c.then.ensures
