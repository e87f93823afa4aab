use Rattle.std.proofs.Common.{refl, ◌∙◌}
use Rattle.c_model.specs.Reports.{line_of, broken_words}
use Rattle.eacsl_cli.specs.Settled.{Said, Wanting}
use Rattle.eacsl_cli.proofs.answer.report_broken.Goals as goal

pub returns-in-Ok : goal.returns-in-Ok
returns-in-Ok g c = record { said = record { status = 1; line = line_of (broken_words c.args.number c.args.line c.args.kind c.args.how) }; is = refl; settled = Said (rw (c.deref.ensures.value ∙ c.in-Ok.ensures) at c.say.ensures) }

pub returns-in-Err : goal.returns-in-Err
returns-in-Err g c = record { said = record { status = 1; line = line_of (broken_words c.args.number c.args.line c.args.kind c.args.how) }; is = refl; settled = Wanting c.out_of_memory.ensures }
