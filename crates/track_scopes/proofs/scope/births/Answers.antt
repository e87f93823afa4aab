use Rattle.std.proofs.Common.{map, sym, ap, ◌++◌, ◌+◌, drop, ◌∙◌, subst, List}
use Rattle.std.proofs.lemmas.List.{append-nil}
use Rattle.c_syntax.specs.declared.program.Layout.{Layout}
use Rattle.c_syntax.specs.Programs.{plain_layout}
use Rattle.c_syntax.specs.Statements.{plain_decl}
use Rattle.mon_syntax.specs.Registers.{next_register, with_table}
use Rattle.mon_syntax.specs.Trees.{plain_stmt}
use Rattle.track_scopes.specs.Blocks.{AreSmall, births, entered}
use Rattle.track_scopes.proofs.Sequences.{birth_list, births_are, none_left, birth_pushed, entered_more, small_more}
use Rattle.track_scopes.proofs.scope.births.Goals as goal

pub returns-clause-code : goal.returns-clause-code
returns-clause-code c =
    let ds = c.args.decls.now in
    let structs = map plain_layout c.layouts-structs.result.now in
    let first = next_register c.args.names.now.table in
    let left = none_left (birth_list structs (next_register c.decls.names.table)) ds c.decls.d-index c.decls-test.false in
    births_are structs first c.decls.code.items (map plain_decl ds)
    (sym (append-nil (map plain_stmt c.decls.code.items)) ∙ ap (λ l. map plain_stmt c.decls.code.items ++ l) (sym left) ∙ c.decls.invariant.code)
    ∙ ap (λ (l : List Layout). births (map plain_layout l) first (map plain_decl ds)) c.layouts-structs.ensures

pub returns-clause-names : goal.returns-clause-names
returns-clause-names c =
    sym (none_left (λ ds. with_table (entered ds c.decls.names.table) c.decls.names) c.args.decls.now c.decls.d-index c.decls-test.false) ∙ c.decls.invariant.names

pub returns-clause-small : goal.returns-clause-small
returns-clause-small c =
    let ds = c.args.decls.now in
    let structs = map plain_layout c.layouts-structs.result.now in
    subst (λ (l : List Layout). AreSmall (map plain_layout l) (map plain_decl ds)) c.layouts-structs.ensures
    (c.decls.invariant.small (subst (λ (p : Type 0). p) (sym (none_left (AreSmall structs) ds c.decls.d-index c.decls-test.false)) tt))

pub decls-preserved : goal.decls-preserved
decls-preserved c =
    let ds = c.args.decls.now in
    let i = c.decls.d-index in
    let structs = map plain_layout c.layouts-structs.result.now in
    record {
      code =
          ap (λ l. map plain_stmt l ++ birth_list structs (next_register c.pointer.new.names.table) (map plain_decl (drop (i + 1) ds))) c.in_ok-push.ensures.items
          ∙ birth_pushed structs c.decls.names c.pointer.new.names ds i _ _ c.decls-test.true c.d-item.is c.in_ok-register.ensures.names c.decls.code.items _ _ _
          c.in_ok-register.ensures.number c.in_ok-birth.ensures.code c.decls.invariant.code;
      names = entered_more structs c.decls.names c.pointer.new.names ds i _ _ c.decls-test.true c.d-item.is c.in_ok-register.ensures.names _ c.decls.invariant.names;
      small = λ h. c.decls.invariant.small (small_more structs c.decls.names c.pointer.new.names ds i _ _ c.decls-test.true c.d-item.is c.in_ok-register.ensures.names c.in_ok-birth.ensures.small h);
    }
