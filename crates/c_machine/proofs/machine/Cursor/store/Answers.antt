use Rattle.std.proofs.Common.{rules, FitsSigned}
use Rattle.std.specs.Int.{w128}
use Rattle.c_machine.proofs.Pointing.{store_goes, store_halts}
use Rattle.c_machine.proofs.machine.Cursor.store.Goals as goal

pub returns-then-store : goal.returns-then-store
returns-then-store c links ports =
    let fx : FitsSigned w128 c.in-Some-pop.p = search rules in
    let fy : FitsSigned w128 c.in-Some.z = search rules in
    store_goes links c.args.self.now c.pop.new.self c.pop-in-Some.new.self c.args.machine.now c.in-Some-pop.p c.in-Some.z
    c.in-Some.ensures.top c.in-Some.ensures.others c.in-Some-pop.ensures.top c.in-Some-pop.ensures.others fx fy c.args.t c.store.new.memory c.if-store.ensures c.in-Some.ensures.height c.in-Some-pop.ensures.height c.requires.fit ports

pub returns-else-store : goal.returns-else-store
returns-else-store c links ports =
    let fx : FitsSigned w128 c.in-Some-pop.p = search rules in
    let fy : FitsSigned w128 c.in-Some.z = search rules in
    store_halts links c.args.self.now c.pop.new.self c.pop-in-Some.new.self c.args.machine.now c.in-Some-pop.p c.in-Some.z
    c.in-Some.ensures.top c.in-Some.ensures.others c.in-Some-pop.ensures.top c.in-Some-pop.ensures.others fx fy c.args.t c.if-store.ensures.0 ports
