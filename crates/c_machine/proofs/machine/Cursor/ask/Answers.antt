use Rattle.std.proofs.Common.{rules, FitsSigned}
use Rattle.std.specs.Int.{w128}
use Rattle.c_machine.proofs.Acted.{no_two, ask_goes}
use Rattle.c_machine.proofs.machine.Cursor.ask.Goals as goal

pub returns-then-count-ne2 : goal.returns-then-count-ne2
returns-then-count-ne2 c links ports = no_two links c.args.size c.args.count c.args.self.now c.args.self.now c.args.self.now c.args.machine.now c.if-count-ne2.true ports

pub returns-in-Some-pop : goal.returns-in-Some-pop
returns-in-Some-pop c links ports =
    let fo : FitsSigned w128 c.in-Some.o = search rules in
    let fp : FitsSigned w128 c.in-Some-pop.p = search rules in
    let fv : FitsSigned w128 c.number-answer.result = search rules in
    ask_goes links c.args.size c.args.count c.args.self.now c.pop.new.self c.pop-in-Some.new.self c.args.machine.now c.in-Some.o c.in-Some-pop.p c.if-count-ne2.false
    c.in-Some.ensures.top c.in-Some.ensures.others c.in-Some-pop.ensures.top c.in-Some-pop.ensures.others fo fp _ _ c.number-answer.result fv c.number-answer.ensures c.give.ensures ports
