use Rattle.std.proofs.Common.{◌+◌, drop, map, refl, ap, subst, sym}
use Rattle.c_syntax.specs.Statements.{plain_decl}
use Rattle.mon_syntax.specs.Trees.{plain_stmts}
use Rattle.c_initialisers.specs.Letters.{InitialsHaveLetters}
use Rattle.c_initialisers.specs.Translation.{declaration_temporaries, initial_temporaries}
use Rattle.c_initialisers.specs.Initialisers.{initialise_all_by, initialise_local_by}
use Rattle.c_effects.specs.Named.{unit_of, with_registers}
use Rattle.c_effects.proofs.Sequences.{left_at, none_left, all_there, more_behind, registers_complete}
use Rattle.c_initialisers.proofs.InitialiserTrees.{registers_more}
use Rattle.c_initialisers.proofs.initialiser.initialise_all.Goals as goal

pub returns-clause-code : goal.returns-clause-code
returns-clause-code c =
    all_there (none_left (λ l. initialise_all_by c.decls.names (map plain_decl l)) c.args.decls.now c.decls.d-index c.decls-test.false) c.decls.invariant.code

pub returns-clause-names : goal.returns-clause-names
returns-clause-names c =
    registers_complete c.decls.names (none_left (λ l. declaration_temporaries (unit_of c.decls.names) (map plain_decl l)) c.args.decls.now c.decls.d-index c.decls-test.false) c.decls.invariant.names

pub returns-clause-letters : goal.returns-clause-letters
returns-clause-letters c = c.decls.invariant.letters (subst InitialsHaveLetters (sym (none_left (map plain_decl) c.args.decls.now c.decls.d-index c.decls-test.false)) tt)

pub decls-preserved : goal.decls-preserved
decls-preserved c =
    let n = c.decls.names in
    let d = plain_decl c.d-item.result in
    let t = plain_stmts c.decls.to.items in
    let rest = map plain_decl (drop (c.decls.d-index + 1) c.args.decls.now) in
    let left = left_at (map plain_decl) c.args.decls.now c.decls.d-index _ _ c.decls-test.true c.d-item.is refl in
    record {
      code = more_behind t (initialise_local_by n d) (with_registers (initial_temporaries (unit_of n) d.init) n) (λ m. initialise_all_by m rest)
          (ap (initialise_all_by n) left) c.in_ok-initialise_local.ensures.code c.in_ok-initialise_local.ensures.names c.decls.invariant.code;
      names = registers_more n (initial_temporaries (unit_of n) d.init) (λ p. declaration_temporaries p rest) (ap (declaration_temporaries (unit_of n)) left) c.in_ok-initialise_local.ensures.names c.decls.invariant.names;
      letters = λ rest. c.decls.invariant.letters (subst InitialsHaveLetters (sym left) (c.in_ok-initialise_local.ensures.letters, rest));
    }
