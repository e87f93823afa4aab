use Rattle.std.proofs.Common.{◌≡◌, ap, subst, ◌∙◌}
use Rattle.std.specs.Prelude.{Vec, IfOk}
use Rattle.std.specs.declared.alloc.Global.{Global}
use Rattle.mon_syntax.specs.declared.tree.MonStmt.{MonStmt}
use Rattle.mon_syntax.specs.Trees.{MonStatement, Labelled, plain_stmts}
use Rattle.mon_syntax.proofs.Rows.{labelled_is}
use Rattle.c_effects.specs.Expressions.{one}
use Rattle.instrument.proofs.statement.labelled.Goals as goal

pub returns : goal.returns
returns c =
    subst (λ (x : MonStatement). IfOk c.alone.result (λ (code : Vec MonStmt Global). plain_stmts code.items ≡ one x))
    (labelled_is c.args.body c.in_ok-next_label.field-0 ∙ ap (Labelled (plain_stmts c.args.body.items)) c.in_ok-next_label.ensures) c.alone.ensures
