use Rattle.std.proofs.Common.{◌≡◌, ◌+◌, drop, refl, map, ap, subst, sym, ◌∙◌}
use Rattle.std.specs.Prelude.{OnOk}
use Rattle.c_syntax.specs.Ctypes.{plain_type}
use Rattle.c_syntax.specs.Programs.{plain_layout}
use Rattle.c_syntax.specs.Statements.{Initialiser, plain_init, plain_inits}
use Rattle.c_syntax.proofs.Rows.{many_is}
use Rattle.mon_syntax.specs.Trees.{plain_stmts}
use Rattle.c_initialisers.specs.Letters.{InitialiserHasLetters, InitialisersHaveLetters}
use Rattle.c_effects.specs.Expressions.{before}
use Rattle.c_initialisers.specs.Translation.{fill_temporaries, parts_temporaries}
use Rattle.c_initialisers.specs.Initialisers.{fill_by, fill_first_by, fill_parts_by, plain_parts, parts_in}
use Rattle.c_effects.specs.Named.{unit_of, with_registers}
use Rattle.c_effects.proofs.Sequences.{left_at, more_behind, nothing}
use Rattle.c_effects.proofs.Trees.{on_ok, on_ok_then}
use Rattle.c_initialisers.proofs.InitialiserTrees.{filled_more, many_filled, many_names, none_filled, registers_more}
use Rattle.c_initialisers.proofs.initialiser.+fill.Goals as goal

pub fill-returns-in_ok-parts-in-Many-clause-code : goal.fill-returns-in_ok-parts-in-Many-clause-code
fill-returns-in_ok-parts-in-Many-clause-code t c =
    let n = c.args.names.now in
    let u = plain_type c.args.t.now in
    let t0 = plain_stmts c.args.to.now.items in
    let parts = c.in_ok-parts-in-Many.ensures ∙ ap (λ l. parts_in (map plain_layout l) u) c.layouts.ensures in
    subst (λ (x : Initialiser). OnOk c.fill_parts.result (plain_stmts c.fill_parts.new.to.items ≡ before t0 (fill_by n c.args.part.object c.args.part.offset u x))) (sym (ap plain_init c.in-Many.is ∙ many_is c.in-Many.field-0 c.in-Many.inits))
    (on_ok_then c.fill_parts.result (many_filled n c.args.part.object u c.in-Many.field-0 _ (plain_inits c.in-Many.inits.items) _
    t0 (plain_stmts c.fill_parts.new.to.items) parts (ap plain_inits c.deref.ensures.value) c.args.part.offset) c.fill_parts.ensures.code)

pub fill-returns-in_ok-parts-in-Many-clause-names : goal.fill-returns-in_ok-parts-in-Many-clause-names
fill-returns-in_ok-parts-in-Many-clause-names t c =
    let n = c.args.names.now in
    subst (λ (x : Initialiser). OnOk c.fill_parts.result (c.fill_parts.new.names ≡ with_registers (fill_temporaries (unit_of n) x) n)) (sym (ap plain_init c.in-Many.is ∙ many_is c.in-Many.field-0 c.in-Many.inits))
    (on_ok_then c.fill_parts.result (many_names n c.fill_parts.new.names c.in-Many.field-0 _ (plain_inits c.in-Many.inits.items) (ap plain_inits c.deref.ensures.value)) c.fill_parts.ensures.names)

pub fill-returns-in_ok-parts-in-Many-clause-letters : goal.fill-returns-in_ok-parts-in-Many-clause-letters
fill-returns-in_ok-parts-in-Many-clause-letters t c =
    subst (λ (x : Initialiser). OnOk c.fill_parts.result (InitialiserHasLetters x)) (sym (ap plain_init c.in-Many.is ∙ many_is c.in-Many.field-0 c.in-Many.inits))
    (on_ok_then c.fill_parts.result (subst (λ x. InitialisersHaveLetters (plain_inits x)) c.deref.ensures.value) c.fill_parts.ensures.letters)

pub fill_first-returns-in_ok-fill-in-None-clause-code : goal.fill_first-returns-in_ok-fill-in-None-clause-code
fill_first-returns-in_ok-fill-in-None-clause-code t c =
    let n = c.args.names.now in
    let cs = plain_parts c.args.parts in
    let i = plain_init c.args.i.now in
    let none = rw c.in-None.is at c.first.ensures in
    on_ok c.rest-in-None.result (nothing (plain_stmts c.args.to.now.items) (fill_first_by n c.args.part.object c.args.part.offset cs i) (sym (none_filled n c.args.part.object c.args.part.offset cs i none)))

pub fill_parts-inits-preserved : goal.fill_parts-inits-preserved
fill_parts-inits-preserved t c =
    let n = c.inits.names in
    let r = c.args.part.object in
    let d = c.args.part.offset in
    let cs = plain_parts c.inits.left in
    let i = plain_init c.i-item.result in
    let t0 = plain_stmts c.inits.to.items in
    let rest = plain_inits (drop (c.inits.i-index + 1) c.args.inits.now) in
    let left = left_at plain_inits c.args.inits.now c.inits.i-index _ _ c.inits-test.true c.i-item.is refl in
    record {
      code =
          ap (λ l. before (plain_stmts c.fill_first.new.to.items) (fill_parts_by c.fill_first.new.names r d l rest)) c.in_ok-left.ensures.rest
          ∙ more_behind t0 (fill_first_by n r d cs i) (with_registers (fill_temporaries (unit_of n) i) n) (λ m. fill_parts_by m r d (drop 1 cs) rest) (ap (fill_parts_by n r d cs) left ∙ filled_more n r d cs i rest)
          c.in_ok-left.ensures.code c.in_ok-left.ensures.names c.inits.invariant.code;
      names = registers_more n (fill_temporaries (unit_of n) i) (λ p. parts_temporaries p rest) (ap (parts_temporaries (unit_of n)) left) c.in_ok-left.ensures.names c.inits.invariant.names;
      letters = λ rest. c.inits.invariant.letters (subst InitialisersHaveLetters (sym left) (c.in_ok-left.ensures.letters, rest));
    }
