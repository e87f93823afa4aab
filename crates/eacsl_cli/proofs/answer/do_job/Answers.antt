use Rattle.std.proofs.Common.{Some}
use Rattle.eacsl_cli.proofs.Due.{unread_besides}
use Rattle.eacsl_cli.proofs.Sources.{unasked, unasked_leaves}
use Rattle.eacsl_cli.proofs.answer.do_job.Goals as goal

pub returns-in-Run-clause-answered : goal.returns-in-Run-clause-answered
returns-in-Run-clause-answered g c = rw c.in-Run.is c.run_file.ensures

pub returns-in-Run-clause-unread : goal.returns-in-Run-clause-unread
returns-in-Run-clause-unread g c = rw c.in-Run.is (record { unread = λ e. absurd cc })

pub returns-in-Instrument-clause-answered : goal.returns-in-Instrument-clause-answered
returns-in-Instrument-clause-answered g c = rw c.in-Instrument.is (unread_besides unasked c.instrument_file.ensures)

pub returns-in-Instrument-clause-unread : goal.returns-in-Instrument-clause-unread
returns-in-Instrument-clause-unread g c = unasked_leaves (Some c.args.job.now) _ _

pub returns-in-Exec-clause-answered : goal.returns-in-Exec-clause-answered
returns-in-Exec-clause-answered g c = rw c.in-Exec.is c.exec_file.ensures

pub returns-in-Exec-clause-unread : goal.returns-in-Exec-clause-unread
returns-in-Exec-clause-unread g c = rw c.in-Exec.is (record { unread = λ e. absurd cc })
