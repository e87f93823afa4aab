use Rattle.std.proofs.Common.{rules, FitsSigned}
use Rattle.std.specs.Int.{w128}
use Rattle.c_machine.proofs.Pointing.{point_goes, point_halts}
use Rattle.c_machine.proofs.machine.Cursor.point.Goals as goal

pub returns-in-Some-pointed : goal.returns-in-Some-pointed
returns-in-Some-pointed c links ports =
    let fx : FitsSigned w128 c.in-Some-pop.x = search rules in
    let fy : FitsSigned w128 c.in-Some.y = search rules in
    let fz : FitsSigned w128 c.in-Some-pointed.z = search rules in
    point_goes links c.args.self.now c.pop.new.self c.pop-in-Some.new.self c.args.machine.now c.in-Some-pop.x c.in-Some.y
    c.in-Some.ensures.top c.in-Some.ensures.others c.in-Some-pop.ensures.top c.in-Some-pop.ensures.others fx fy c.args.op _ _ c.in-Some-pointed.z fz
    (c.in-Some-pointed.ensures c.args.machine.now.memory) c.give.ensures ports

pub returns-in-None-pointed : goal.returns-in-None-pointed
returns-in-None-pointed c links ports =
    let fx : FitsSigned w128 c.in-Some-pop.x = search rules in
    let fy : FitsSigned w128 c.in-Some.y = search rules in
    point_halts links c.args.self.now c.pop.new.self c.pop-in-Some.new.self c.args.machine.now c.in-Some-pop.x c.in-Some.y
    c.in-Some.ensures.top c.in-Some.ensures.others c.in-Some-pop.ensures.top c.in-Some-pop.ensures.others fx fy c.args.op (c.in-None-pointed.ensures c.args.machine.now.memory) ports
