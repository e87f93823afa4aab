use Rattle.c_machine.proofs.machine.Cursor.act.Goals as goal

pub returns-in-Number : goal.returns-in-Number
returns-in-Number c links ports = rw c.in-Number.is (c.ask.ensures links ports)
