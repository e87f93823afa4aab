use Rattle.std.proofs.Common.{refl, codes}
use Rattle.c_model.specs.Reports.{line_of}
use Rattle.eacsl_cli.proofs.answer.report_full.Goals as goal

pub returns-in-Heap : goal.returns-in-Heap
returns-in-Heap g c = rw c.in-Heap.is (record { said = record { status = 4; line = line_of (codes "full heap") }; is = refl; told = c.say.ensures })

pub returns-in-Stack : goal.returns-in-Stack
returns-in-Stack g c = rw c.in-Stack.is (record { said = record { status = 4; line = line_of (codes "full stack") }; is = refl; told = c.say-in-Stack.ensures })

pub returns-in-Frames : goal.returns-in-Frames
returns-in-Frames g c = rw c.in-Frames.is (record { said = record { status = 4; line = line_of (codes "full frames") }; is = refl; told = c.say-in-Frames.ensures })

pub returns-in-Numbers : goal.returns-in-Numbers
returns-in-Numbers g c = rw c.in-Numbers.is (record { said = record { status = 4; line = line_of (codes "full numbers") }; is = refl; told = c.say-in-Numbers.ensures })
