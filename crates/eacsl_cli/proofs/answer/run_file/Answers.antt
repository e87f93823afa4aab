use Rattle.eacsl_cli.proofs.Due.{run_answered}
use Rattle.eacsl_cli.proofs.answer.run_file.Goals as goal

pub returns : goal.returns
returns g c = run_answered c.run_text-ended.result c.run_text-ended.ensures c.report_ended.ensures
