use Rattle.std.proofs.Common.{ap, ◌∙◌}
use Rattle.mon_syntax.specs.Registers.{Names, next_register}
use Rattle.c_syntax.specs.Programs.{plain_func}
use Rattle.annot_simulation.specs.Plan.{kept_types, planned}
use Rattle.c_effects.specs.Named.{with_registers}
use Rattle.instrument.specs.Translation.{contract_types}
use Rattle.instrument.proofs.OwnRegisters.{made_two, next_behind, types_kept}
use Rattle.instrument.proofs.keeping.keep.Goals as goal

pub returns-clause-given : goal.returns-clause-given
returns-clause-given c =
    let n = c.args.names.now in
    let f = plain_func c.args.f.now in
    c.in_ok-given.ensures.number
    ∙ ap (λ (m : Names). next_register m.table) (c.in_ok-keep_terms.ensures ∙ ap (λ ts. with_registers ts n) (types_kept _ c.in_ok-first.first (planned f) _ c.deref.ensures.value c.in_ok-kept.ensures))
    ∙ next_behind n (kept_types (planned f))

pub returns-clause-names : goal.returns-clause-names
returns-clause-names c =
    let n = c.args.names.now in
    let f = plain_func c.args.f.now in
    made_two n c.keep_terms.new.names c.keep_contract.new.names (kept_types (planned f)) (contract_types f.result f.contract)
    (c.in_ok-keep_terms.ensures ∙ ap (λ ts. with_registers ts n) (types_kept _ c.in_ok-first.first (planned f) _ c.deref.ensures.value c.in_ok-kept.ensures)) c.in_ok-keep_contract.ensures
