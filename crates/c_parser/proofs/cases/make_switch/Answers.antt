use Rattle.std.proofs.Common.{◌∙◌}
use Rattle.std.proofs.lemmas.Result.{IfOk-weaker}
use Rattle.c_parser.proofs.Rows.{switch_is_read}
use Rattle.c_parser.proofs.cases.make_switch.Goals as goal

pub returns : goal.returns
returns c = IfOk-weaker c.statement_at.result _ _ (λ s h. h ∙ switch_is_read c.args.place c.args.e c.args.all) c.statement_at.ensures
