use Rattle.std.proofs.Common.{◌≡◌, map, ap, subst, sym, ◌∙◌}
use Rattle.std.specs.Prelude.{OnOk}
use Rattle.c_syntax.specs.Ctypes.{plain_type}
use Rattle.c_syntax.specs.Programs.{plain_layout}
use Rattle.c_syntax.specs.Statements.{Initialiser, plain_init, plain_inits}
use Rattle.c_syntax.proofs.Rows.{many_is}
use Rattle.mon_syntax.specs.Trees.{plain_stmts}
use Rattle.c_initialisers.specs.Letters.{InitialiserHasLetters, InitialisersHaveLetters}
use Rattle.c_effects.specs.Expressions.{before}
use Rattle.c_initialisers.specs.Translation.{parts_temporaries}
use Rattle.c_initialisers.specs.Initialisers.{initialise_object_by, object_temporaries, parts_in}
use Rattle.c_effects.specs.Named.{unit_of, with_registers}
use Rattle.c_effects.proofs.Trees.{on_ok_then}
use Rattle.c_initialisers.proofs.InitialiserTrees.{many_initialised, object_names}
use Rattle.c_initialisers.proofs.initialiser.initialise_object.Goals as goal

pub returns-in_ok-parts-in-Many-clause-code : goal.returns-in_ok-parts-in-Many-clause-code
returns-in_ok-parts-in-Many-clause-code c =
    let n = c.args.names.now in
    let u = plain_type c.args.t.now in
    let t0 = plain_stmts c.args.to.now.items in
    let parts = c.in_ok-parts-in-Many.ensures ∙ ap (λ l. parts_in (map plain_layout l) u) c.layouts.ensures in
    subst (λ (x : Initialiser). OnOk c.fill_parts.result (plain_stmts c.fill_parts.new.to.items ≡ before t0 (initialise_object_by n c.args.block u x))) (sym (ap plain_init c.in-Many.is ∙ many_is c.in-Many.field-0 c.in-Many.inits))
    (on_ok_then c.fill_parts.result (many_initialised n c.args.block u c.in-Many.field-0 _ (plain_inits c.in-Many.inits.items) _ t0 (plain_stmts c.fill_parts.new.to.items) parts (ap plain_inits c.deref.ensures.value)) c.fill_parts.ensures.code)

pub returns-in_ok-parts-in-Many-clause-names : goal.returns-in_ok-parts-in-Many-clause-names
returns-in_ok-parts-in-Many-clause-names c =
    let n = c.args.names.now in
    subst (λ (x : Initialiser). OnOk c.fill_parts.result (c.fill_parts.new.names ≡ with_registers (object_temporaries (unit_of n) x) n)) (sym (ap plain_init c.in-Many.is ∙ many_is c.in-Many.field-0 c.in-Many.inits))
    (on_ok_then c.fill_parts.result (object_names n c.fill_parts.new.names c.in-Many.field-0 _ (plain_inits c.in-Many.inits.items) (ap plain_inits c.deref.ensures.value)) c.fill_parts.ensures.names)

pub returns-in_ok-parts-in-Many-clause-letters : goal.returns-in_ok-parts-in-Many-clause-letters
returns-in_ok-parts-in-Many-clause-letters c =
    subst (λ (x : Initialiser). OnOk c.fill_parts.result (InitialiserHasLetters x)) (sym (ap plain_init c.in-Many.is ∙ many_is c.in-Many.field-0 c.in-Many.inits))
    (on_ok_then c.fill_parts.result (subst (λ x. InitialisersHaveLetters (plain_inits x)) c.deref.ensures.value) c.fill_parts.ensures.letters)
