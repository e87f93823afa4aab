use Rattle.std.proofs.Common.{List, map, ap, ◌∙◌}
use Rattle.c_syntax.specs.declared.statement.Decl.{Decl}
use Rattle.c_syntax.specs.Programs.{plain_func}
use Rattle.c_syntax.specs.Statements.{plain_decl}
use Rattle.mon_syntax.specs.Registers.{no_registers, with_kinds, with_table}
use Rattle.mon_syntax.specs.Trees.{plain_stmts}
use Rattle.annot_pieces.specs.Tables.{plain_plan}
use Rattle.instrument.specs.Translation.{value_types}
use Rattle.instrument.proofs.Definitions.{code_is, code_kinds}
use Rattle.instrument.proofs.function.code_of.Goals as goal

pub returns-clause-code : goal.returns-clause-code
returns-clause-code c =
    let n = c.args.names.now in
    code_is n c.args.is_main (plain_func c.args.f.now) c.make_arguments.new.names c.keep.new.names c.front.new.names c.whole_body.new.names (plain_plan c.in_ok-own.own.kept.items) c.in_ok-own.own.given
    (c.in_ok-make_arguments.ensures ∙ ap (λ (l : List Decl). with_table (with_kinds (value_types (map plain_decl l)) no_registers) n) c.deref.ensures.value) c.in_ok-own.ensures.kept c.in_ok-own.ensures.given
    c.in_ok-own.ensures.names c.in_ok-front.ensures.names
    (plain_stmts c.new-code.result.items) (plain_stmts c.front.new.to.items) (plain_stmts c.whole_body.new.to.items) (ap plain_stmts c.new-code.ensures.items) c.in_ok-front.ensures.code c.in_ok-whole_body.ensures.code

pub returns-clause-kinds : goal.returns-clause-kinds
returns-clause-kinds c =
    let n = c.args.names.now in
    code_kinds n c.args.is_main (plain_func c.args.f.now) c.make_arguments.new.names c.keep.new.names c.front.new.names c.whole_body.new.names (plain_plan c.in_ok-own.own.kept.items) c.in_ok-own.own.given
    (c.in_ok-make_arguments.ensures ∙ ap (λ (l : List Decl). with_table (with_kinds (value_types (map plain_decl l)) no_registers) n) c.deref.ensures.value) c.in_ok-own.ensures.kept c.in_ok-own.ensures.given
    c.in_ok-own.ensures.names c.in_ok-front.ensures.names c.in_ok-whole_body.ensures.names
