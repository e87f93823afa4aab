use Rattle.std.proofs.Common.{◌≡◌, None, drop, map}
use Rattle.mon_syntax.specs.Trees.{plain_stmts}
use Rattle.behavior_split.specs.Checks.{plain_clause}
use Rattle.c_effects.specs.Expressions.{before}
use Rattle.annot_code.specs.Checks.{annotations_of, checks_by, names_behind_checks, plain_flags}
use Rattle.annot_simulation.specs.Numbered.{AreNumbered}
use Rattle.annot_pieces.specs.Plain.{plain_stored}
use Rattle.annot_code.proofs.contract.checks.Given as goal

abbrev pub invariant-turn : goal.invariant-turn
invariant-turn l = record {
  code : before (plain_stmts l.to.items) (checks_by (plain_stored l.stored) (plain_flags l.flags) l.names l.counted (map plain_clause (drop l.clause-index l.checks)))
      ≡ before (plain_stmts l.initial.to.items) (checks_by (plain_stored l.stored) (plain_flags l.flags) l.initial.names None (map plain_clause l.checks));
  names : names_behind_checks (plain_stored l.stored) (plain_flags l.flags) l.counted (map plain_clause (drop l.clause-index l.checks)) l.names
      ≡ names_behind_checks (plain_stored l.stored) (plain_flags l.flags) None (map plain_clause l.checks) l.initial.names;
  numbered : AreNumbered (annotations_of (map plain_clause (drop l.clause-index l.checks))) → AreNumbered (annotations_of (map plain_clause l.checks));
}
