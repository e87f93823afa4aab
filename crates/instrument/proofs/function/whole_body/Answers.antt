use Rattle.std.proofs.Common.{List, [], map, reverse, ap, ◌∙◌}
use Rattle.c_syntax.specs.declared.statement.Decl.{Decl}
use Rattle.c_syntax.specs.Programs.{plain_func}
use Rattle.c_syntax.specs.Statements.{plain_decl}
use Rattle.mon_syntax.specs.Registers.{next_register}
use Rattle.mon_syntax.specs.Trees.{plain_stmts}
use Rattle.track_scopes.specs.Blocks.{with_born}
use Rattle.c_effects.specs.Expressions.{before}
use Rattle.c_effects.specs.Named.{unit_of}
use Rattle.c_effects.proofs.Trees.{on_ok_then}
use Rattle.annot_pieces.specs.Tables.{plain_plan}
use Rattle.instrument.specs.Options.{entering}
use Rattle.instrument.specs.Translation.{parameters}
use Rattle.instrument.proofs.ContractBodies.{born_room, own_code_is}
use Rattle.instrument.proofs.Grown.{passage_grows}
use Rattle.instrument.proofs.function.whole_body.Goals as goal

pub body-requires : goal.body-requires
body-requires c =
    let n = c.args.names.now in
    let f = plain_func c.args.f.now in
    born_room (next_register n.table) c.in_ok-first.first f.params c.in_ok-first.ensures.number
    (passage_grows (plain_plan c.in_ok-plan.plan.kept.now) _ f.params n c.enter_parameters.new.names c.snapshot.new.names
    (c.in_ok-params.ensures.names ∙ ap (λ (l : List Decl). entering (map plain_decl l) n) c.deref-2.ensures.value) c.in_ok-snapshot.ensures.names)

pub returns-clause-code : goal.returns-clause-code
returns-clause-code c =
    let n = c.args.names.now in
    let f = plain_func c.args.f.now in
    on_ok_then c.body.result (own_code_is (plain_plan c.args.own.now.kept.items) (plain_plan c.in_ok-plan.plan.kept.now) c.args.own.now.given c.in_ok-first.first _ f n c.enter_parameters.new.names c.snapshot.new.names
    (c.in_ok-plan.ensures ∙ ap plain_plan c.deref.ensures.value) c.in_ok-first.ensures.number
    (ap reverse c.deref-3.ensures.value ∙ c.in_ok-params.ensures.own ∙ ap (λ (l : List Decl). with_born (next_register n.table) (map plain_decl l) []) c.deref-2.ensures.value)
    (c.in_ok-params.ensures.names ∙ ap (λ (l : List Decl). entering (map plain_decl l) n) c.deref-2.ensures.value) c.in_ok-snapshot.ensures.names
    c.args.is_main (plain_stmts c.args.to.now.items) (plain_stmts c.enter_parameters.new.to.items) (plain_stmts c.snapshot.new.to.items) (plain_stmts c.body.new.to.items)
    (c.in_ok-params.ensures.code ∙ ap (λ (l : List Decl). before (plain_stmts c.args.to.now.items) (parameters (unit_of n) (next_register n.table) 0 (map plain_decl l))) c.deref-2.ensures.value) c.in_ok-snapshot.ensures.code)
    c.body.ensures.code
