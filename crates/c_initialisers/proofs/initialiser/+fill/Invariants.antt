use Rattle.std.proofs.Common.{◌≡◌, drop}
use Rattle.c_syntax.specs.Statements.{plain_inits}
use Rattle.mon_syntax.specs.Trees.{plain_stmts}
use Rattle.c_initialisers.specs.Letters.{InitialisersHaveLetters}
use Rattle.c_effects.specs.Expressions.{before}
use Rattle.c_initialisers.specs.Translation.{parts_temporaries}
use Rattle.c_initialisers.specs.Initialisers.{fill_parts_by, plain_parts}
use Rattle.c_effects.specs.Named.{unit_of, with_registers}
use Rattle.c_initialisers.proofs.initialiser.+fill.Given as goal

abbrev pub invariant-fill_parts-inits : goal.invariant-fill_parts-inits
invariant-fill_parts-inits l = record {
  code : before (plain_stmts l.to.items) (fill_parts_by l.names l.part.object l.part.offset (plain_parts l.left) (plain_inits (drop l.i-index l.inits))) ≡
      before (plain_stmts l.initial.to.items) (fill_parts_by l.initial.names l.part.object l.part.offset (plain_parts l.parts) (plain_inits l.inits));
  names : with_registers (parts_temporaries (unit_of l.names) (plain_inits (drop l.i-index l.inits))) l.names ≡ with_registers (parts_temporaries (unit_of l.initial.names) (plain_inits l.inits)) l.initial.names;
  letters : InitialisersHaveLetters (plain_inits (drop l.i-index l.inits)) → InitialisersHaveLetters (plain_inits l.inits);
}
