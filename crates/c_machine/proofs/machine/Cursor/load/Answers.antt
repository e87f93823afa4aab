use Rattle.std.proofs.Common.{rules, FitsSigned, [], refl}
use Rattle.std.specs.Int.{w128}
use Rattle.c_machine.proofs.Pointing.{load_goes}
use Rattle.c_machine.proofs.machine.Cursor.load.Goals as goal

pub returns-in-Some-load : goal.returns-in-Some-load
returns-in-Some-load c links ports =
    let fp : FitsSigned w128 c.in-Some.p = search rules in
    let fz : FitsSigned w128 c.in-Some-load.z = search rules in
    load_goes links c.args.t c.args.self.now c.pop.new.self c.args.machine.now c.in-Some.p c.in-Some.ensures.top c.in-Some.ensures.others fp _ _ c.in-Some-load.z fz c.in-Some-load.ensures c.give.ensures ports

pub returns-in-None-load : goal.returns-in-None-load
returns-in-None-load c links ports = record {
  feed = refl;
  bytes = [];
  wrote = search rules;
  run = λ input next. search rules;
}
