use Rattle.eacsl_cli.proofs.Due.{exec_answered}
use Rattle.eacsl_cli.proofs.answer.exec_file.Goals as goal

pub returns : goal.returns
returns g c = exec_answered c.exec_text-ended.result c.exec_text-ended.ensures c.report_ended.ensures
