use Rattle.std.proofs.Common.{suc, map, reverse, ap, ◌∙◌}
use Rattle.c_syntax.specs.Programs.{plain_contract}
use Rattle.c_syntax.specs.Statements.{plain_decl}
use Rattle.mon_syntax.specs.Trees.{plain_stmts}
use Rattle.mon_syntax.proofs.Rows.{labelled_is}
use Rattle.c_effects.proofs.Trees.{on_ok_then}
use Rattle.instrument.specs.Options.{func_in, kept_in, with_these_alone}
use Rattle.instrument.proofs.ContractBodies.{checked_is, room_at_end}
use Rattle.instrument.proofs.Grown.{body_grows}
use Rattle.instrument.proofs.contract.checked_body.Goals as goal

pub leave_scopes-requires : goal.leave_scopes-requires
leave_scopes-requires c =
    let x = c.args.frame.now in
    let f = func_in x in
    let grown = body_grows (kept_in x) (suc x.given) _ (plain_contract c.args.c.now) f.body c.args.names.now c.begin_body.new.names c.inner_body.new.names c.requires c.in_ok-begin_body.ensures.names c.in_ok-inner.ensures.names in
    room_at_end x.first x.func.now.params.items c.deref.result.now c.deref.ensures.value grown

pub returns-clause-code : goal.returns-clause-code
returns-clause-code c =
    let x = c.args.frame.now in
    let f = func_in x in
    let n = c.args.names.now in
    on_ok_then c.end_body.result (checked_is (kept_in x) x.given x.first (reverse x.params.now) f c.args.is_main (plain_contract c.args.c.now) n c.begin_body.new.names c.inner_body.new.names c.leave_scopes.new.names
    c.in_ok-begin_body.ensures.names c.in_ok-inner.ensures.names (c.in_ok-leave_scopes.ensures ∙ ap (λ l. with_these_alone x.first (map plain_decl l) c.inner_body.new.names) c.deref.ensures.value)
    (plain_stmts c.args.to.now.items) (plain_stmts c.begin_body.new.to.items) (plain_stmts c.then.new.to.items) (plain_stmts c.end_body.new.to.items) (plain_stmts c.in_ok-inner.inner.items) _ c.in_ok-label.label
    c.in_ok-begin_body.ensures.code c.in_ok-inner.ensures.code (labelled_is c.in_ok-inner.inner c.in_ok-label.label) c.in_ok-label.ensures c.in_ok-then.ensures)
    c.end_body.ensures.code

pub returns-clause-contract : goal.returns-clause-contract
returns-clause-contract c = on_ok_then c.end_body.result (λ leave. (c.in_ok-begin_body.ensures.numbered, leave, c.in_ok-begin_body.ensures.few (suc c.args.frame.now.given))) c.end_body.ensures.numbered
