use Rattle.std.proofs.Common.{◌+◌, drop, sym, refl, ap, ◌∙◌}
use Rattle.mon_syntax.specs.Trees.{plain_stmts}
use Rattle.c_effects.proofs.Sequences.{left_at, none_left, all_there, more_behind}
use Rattle.annot_code.specs.Passages.{names_behind_passed, names_behind_snapshot, passed_by, snapshot_by}
use Rattle.annot_pieces.specs.Tables.{plain_kept, plain_plan}
use Rattle.annot_code.proofs.Passages.{behind_passed, code_passed}
use Rattle.annot_code.proofs.snapshot.snapshot.Goals as goal

pub returns-clause-code : goal.returns-clause-code
returns-clause-code c =
    all_there (none_left (λ l. snapshot_by c.terms.names c.args.label (plain_plan l)) c.args.kept.now c.terms.entry-index c.terms-test.false) c.terms.invariant.code

pub returns-clause-names : goal.returns-clause-names
returns-clause-names c = sym (none_left (λ l. names_behind_snapshot c.args.label (plain_plan l) c.terms.names) c.args.kept.now c.terms.entry-index c.terms-test.false) ∙ c.terms.invariant.names

pub terms-preserved : goal.terms-preserved
terms-preserved c =
    let n = c.terms.names in
    let l = c.args.label in
    let k = plain_kept c.entry-item.result in
    let rest = plain_plan (drop (c.terms.entry-index + 1) c.args.kept.now) in
    let left = left_at plain_plan c.args.kept.now c.terms.entry-index _ _ c.terms-test.true c.entry-item.is refl in
    record {
      code = more_behind (plain_stmts c.terms.to.items) (passed_by n l k) (names_behind_passed l k n) (λ m. snapshot_by m l rest) (ap (snapshot_by n l) left ∙ code_passed n l k rest)
          c.in_ok-keep_passed.ensures.code c.in_ok-keep_passed.ensures.names c.terms.invariant.code;
      names = ap (names_behind_snapshot l rest) c.in_ok-keep_passed.ensures.names ∙ sym (behind_passed n l k rest) ∙ ap (λ ks. names_behind_snapshot l ks n) (sym left) ∙ c.terms.invariant.names;
    }
