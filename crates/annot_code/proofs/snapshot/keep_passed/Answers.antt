use Rattle.std.proofs.Common.{cond, ap, sym, ◌∙◌}
use Rattle.mon_syntax.specs.Trees.{NoStatement, plain_stmts}
use Rattle.c_effects.specs.Expressions.{before}
use Rattle.c_effects.proofs.Sequences.{before_none}
use Rattle.annot_code.specs.Passages.{kept_by}
use Rattle.annot_pieces.specs.Tables.{plain_kept}
use Rattle.annot_code.proofs.snapshot.keep_passed.Goals as goal

pub returns-else-same_label-clause-code : goal.returns-else-same_label-clause-code
returns-else-same_label-clause-code c =
    let t = plain_stmts c.args.to.now.items in
    sym (before_none t) ∙ ap (λ b. before t (cond b (kept_by c.args.names.now (plain_kept c.args.entry.now)) NoStatement)) (sym (sym c.same_label.ensures ∙ c.if-same_label.false))
