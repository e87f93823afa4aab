use Rattle.eacsl_cli.proofs.Due.{instrument_answered}
use Rattle.eacsl_cli.proofs.answer.instrument_file.Goals as goal

pub returns : goal.returns
returns g c = instrument_answered c.instrument_text-done.result c.instrument_text-done.ensures c.report_done.ensures
