use Rattle.std.proofs.Common.{◌+◌, drop, map, refl, ap, subst, sym, ◌∙◌}
use Rattle.c_syntax.specs.Statements.{plain_decl}
use Rattle.mon_syntax.specs.Trees.{plain_stmts}
use Rattle.c_initialisers.specs.Letters.{InitialsHaveLetters}
use Rattle.c_effects.specs.Expressions.{before}
use Rattle.c_effects.specs.Named.{unit_of, with_registers}
use Rattle.c_effects.proofs.Sequences.{left_at, none_left, all_there, more_behind}
use Rattle.c_initialisers.proofs.InitialiserTrees.{registers_more}
use Rattle.instrument.specs.Options.{global_initialised, globals_initialised}
use Rattle.instrument.specs.Translation.{all_global_temporaries, global_temporaries}
use Rattle.instrument.proofs.global.initialise_globals.Goals as goal

pub returns-clause-code : goal.returns-clause-code
returns-clause-code c =
    let ds = c.globals-decls.result.now in
    all_there (none_left (λ l. globals_initialised c.decls.names (map plain_decl l)) ds c.decls.d-index c.decls-test.false) c.decls.invariant.code
    ∙ ap (λ l. before (plain_stmts c.args.to.now.items) (globals_initialised c.args.names.now (map plain_decl l))) c.globals-decls.ensures

pub decls-preserved : goal.decls-preserved
decls-preserved c =
    let n = c.decls.names in
    let ds = c.globals-decls.result.now in
    let d = plain_decl c.d-item.result in
    let rest = map plain_decl (drop (c.decls.d-index + 1) ds) in
    let left = left_at (map plain_decl) ds c.decls.d-index _ _ c.decls-test.true c.d-item.is refl in
    record {
      code =
          more_behind (plain_stmts c.decls.to.items) (global_initialised n d) (with_registers (global_temporaries (unit_of n) d.init) n) (λ m. globals_initialised m rest) (ap (globals_initialised n) left)
          c.in_ok-initialise_global.ensures.code c.in_ok-initialise_global.ensures.names c.decls.invariant.code;
      names = registers_more n (global_temporaries (unit_of n) d.init) (λ p. all_global_temporaries p rest) (ap (all_global_temporaries (unit_of n)) left) c.in_ok-initialise_global.ensures.names c.decls.invariant.names;
      letters = λ rest. c.decls.invariant.letters (subst InitialsHaveLetters (sym left) (c.in_ok-initialise_global.ensures.letters, rest));
    }
