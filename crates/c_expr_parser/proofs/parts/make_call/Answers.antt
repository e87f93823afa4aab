use Rattle.std.proofs.Common.{◌∙◌}
use Rattle.std.proofs.lemmas.Result.{IfOk-weaker}
use Rattle.c_expr_parser.proofs.Calls.{call_is_read}
use Rattle.c_expr_parser.proofs.parts.make_call.Goals as goal

pub returns : goal.returns
returns c = IfOk-weaker c.read_as.result _ _ (λ e h. h ∙ call_is_read c.args.place _ c.args.arguments) c.read_as.ensures
