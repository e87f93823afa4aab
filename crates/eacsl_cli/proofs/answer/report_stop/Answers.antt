use Rattle.std.proofs.Common.{refl, codes, FitsSigned, rules}
use Rattle.std.specs.Int.{w128}
use Rattle.std.proofs.lemmas.Int.{to_z-of_z}
use Rattle.c_model.specs.Reports.{line_of}
use Rattle.eacsl_cli.proofs.answer.report_stop.Goals as goal

pub returns-in-Exit : goal.returns-in-Exit
returns-in-Exit g c =
    let f : FitsSigned w128 c.in-Exit.value = search rules in
    rw c.in-Exit.is (simp to_z-of_z at c.report_exit.ensures)

pub returns-in-Broken : goal.returns-in-Broken
returns-in-Broken g c = rw c.in-Broken.is c.report_broken.ensures

pub returns-in-Spent : goal.returns-in-Spent
returns-in-Spent g c = rw c.in-Spent.is (record { said = record { status = 5; line = line_of (codes "steps spent") }; is = refl; told = c.say.ensures })

pub returns-in-Fault : goal.returns-in-Fault
returns-in-Fault g c = rw c.in-Fault.is (record { said = record { status = 6; line = line_of (codes "fault") }; is = refl; told = c.say-in-Fault.ensures })

pub returns-in-ReadFault : goal.returns-in-ReadFault
returns-in-ReadFault g c = rw c.in-ReadFault.is (record { said = record { status = 7; line = line_of (codes "read fault") }; is = refl; told = c.say-in-ReadFault.ensures })

pub returns-in-OutOfMemory : goal.returns-in-OutOfMemory
returns-in-OutOfMemory g c = rw c.in-OutOfMemory.is c.out_of_memory.ensures
