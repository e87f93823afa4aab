use Rattle.std.proofs.Common.{◌≡◌, drop}
use Rattle.mon_syntax.specs.Trees.{plain_stmts}
use Rattle.c_effects.specs.Expressions.{before}
use Rattle.annot_code.specs.Passages.{names_behind_snapshot, snapshot_by}
use Rattle.annot_pieces.specs.Tables.{plain_plan}
use Rattle.annot_code.proofs.snapshot.snapshot.Given as goal

abbrev pub invariant-terms : goal.invariant-terms
invariant-terms l = record {
  code : before (plain_stmts l.to.items) (snapshot_by l.names l.label (plain_plan (drop l.entry-index l.kept))) ≡ before (plain_stmts l.initial.to.items) (snapshot_by l.initial.names l.label (plain_plan l.kept));
  names : names_behind_snapshot l.label (plain_plan (drop l.entry-index l.kept)) l.names ≡ names_behind_snapshot l.label (plain_plan l.kept) l.initial.names;
}
