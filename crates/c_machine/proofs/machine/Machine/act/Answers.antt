use Rattle.std.proofs.Common.{arith}
use Rattle.c_machine.proofs.Acted.{neither}
use Rattle.c_machine.proofs.machine.Machine.act.Goals as goal

pub returns-in-1 : goal.returns-in-1
returns-in-1 c links ports = rw c.in-1.is (c.act_on_one.ensures links ports)

pub returns-in-2 : goal.returns-in-2
returns-in-2 c links ports = rw c.in-2.is (c.act_on_two.ensures links ports)

pub returns-in_default : goal.returns-in_default
returns-in_default c links ports =
    neither links c.args.f c.args.count c.args.self.now.cursor c.args.self.now c.requires.change (λ one. omega (arith, one, c.in_default)) (λ two. omega (arith, two, c.in_default)) ports
