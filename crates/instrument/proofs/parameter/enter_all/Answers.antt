use Rattle.std.proofs.Common.{◌+◌, drop, map, refl, sym, ◌∙◌}
use Rattle.c_syntax.specs.Statements.{plain_decl}
use Rattle.mon_syntax.specs.Registers.{next_register}
use Rattle.mon_syntax.specs.Trees.{plain_stmts}
use Rattle.c_effects.specs.Named.{unit_of}
use Rattle.c_effects.proofs.Sequences.{left_at, none_left, all_there}
use Rattle.instrument.specs.Options.{entering}
use Rattle.instrument.specs.Translation.{parameters}
use Rattle.instrument.proofs.Entries.{parameter_more, entering_more}
use Rattle.instrument.proofs.parameter.enter_all.Goals as goal

pub returns-clause-code : goal.returns-clause-code
returns-clause-code c =
    all_there (none_left (λ l. parameters (unit_of c.params.names) (next_register c.params.names.table) c.params.argument (map plain_decl l)) c.args.params.now c.params.d-index c.params-test.false) c.params.invariant.code

pub returns-clause-names : goal.returns-clause-names
returns-clause-names c = sym (none_left (λ l. entering (map plain_decl l) c.params.names) c.args.params.now c.params.d-index c.params-test.false) ∙ c.params.invariant.names

pub params-preserved : goal.params-preserved
params-preserved c =
    let n = c.params.names in
    let n1 = c.enter_parameter.new.names in
    let d = plain_decl c.d-item.result in
    let rest = map plain_decl (drop (c.params.d-index + 1) c.args.params.now) in
    let left = left_at (map plain_decl) c.args.params.now c.params.d-index _ _ c.params-test.true c.d-item.is refl in
    record {
      code = parameter_more n n1 c.params.argument c.in_ok-argument.argument d rest (map plain_decl (drop c.params.d-index c.args.params.now)) left c.in_ok-enter_parameter.ensures.names (plain_stmts c.params.to.items)
          (plain_stmts c.enter_parameter.new.to.items) _ c.in_ok-argument.ensures c.in_ok-enter_parameter.ensures.code c.params.invariant.code;
      names = entering_more n n1 c.params.argument c.in_ok-argument.argument d rest (map plain_decl (drop c.params.d-index c.args.params.now)) left c.in_ok-enter_parameter.ensures.names _ c.params.invariant.names;
    }
