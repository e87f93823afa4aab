use Rattle.std.proofs.Common.{ap, ◌∙◌}
use Rattle.c_syntax.specs.Logic.{plain_annot, plain_term}
use Rattle.mon_syntax.specs.Trees.{plain_expr, plain_stmt_kind, plain_stmts}
use Rattle.c_effects.specs.Named.{unit_of}
use Rattle.annot_simulation.specs.Code.{valuation}
use Rattle.annot_pieces.specs.Tables.{plain_helds, plain_plan}
use Rattle.instrument.specs.LoopForms.{plain_variant, value_by}
use Rattle.instrument.proofs.ClauseCode.{wanted_code}
use Rattle.instrument.proofs.clause.wanted.Goals as goal

pub returns-clause-code : goal.returns-clause-code
returns-clause-code c =
    let n = c.args.names.now in
    let ks = plain_plan c.args.plan.now.kept.now in
    let none = c.deref.ensures.value ∙ c.new-held.ensures.items in
    let value = c.in_ok-stmts.ensures.code ∙ ap (λ l. valuation (unit_of n) n.table.bound ks (plain_helds l) (plain_term c.args.variant.1.now) n.table.kinds) none in
    wanted_code (plain_stmts c.args.to.now.items) (plain_stmts c.then_all.new.to.items) (plain_stmts c.then.new.to.items) (plain_stmts c.in_ok-stmts.field-0.stmts.items) (plain_expr c.in_ok-flag.flag)
    (plain_expr c.in_ok-always.always) c.in_ok-stmts.field-0.flag (plain_stmt_kind c.assert_of.result) (plain_annot c.args.variant.0.now) (value_by ks n (plain_variant c.args.variant)) c.in_ok-then_all.ensures
    c.in_ok-flag.ensures c.in_ok-always.ensures c.assert_of.ensures.code c.in_ok-then.ensures (ap (λ v. v.stmts) value) (ap (λ v. v.flag) value)
