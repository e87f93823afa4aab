use Rattle.std.proofs.Common.{rules, FitsSigned, ◌≤◌, ◌<◌, ◌∷◌, length, get_or, pos, refl, arith}
use Rattle.std.specs.Int.{w128}
use Rattle.std.proofs.lemmas.Option.{slice_get-get_or, slice_get_past}
use Rattle.c_model.specs.MonitoredRuns.{Fault}
use Rattle.c_lower.specs.declared.code.Instr.TheVariants as instr
use Rattle.c_machine.specs.Held.{links_of, from_top, machine_of}
use Rattle.c_machine.proofs.Moves.{goes_by, goes_with, halts_by}
use Rattle.c_machine.proofs.States.{global_done, global_faults}
use Rattle.c_machine.proofs.machine.Cursor.global.Goals as goal

pub returns-then-at-globals : goal.returns-then-at-globals
returns-then-at-globals c es ports =
    let at = c.args.self.now in
    let m = c.args.machine.now in
    let gs = c.args.globals.now in
    let past : length gs ≤ c.args.g = omega arith in
    halts_by (links_of gs es) (instr.Global c.args.g) at m Fault at.steps (λ input next. global_faults (machine_of at m input) next gs es c.args.g (slice_get_past gs c.args.g past)) ports

pub returns : goal.returns
returns c es ports =
    let at = c.args.self.now in
    let m = c.args.machine.now in
    let gs = c.args.globals.now in
    let z = get_or gs c.args.g (pos 0) in
    let below = from_top at.height m.operands.items in
    let within : c.args.g < length gs = omega arith in
    let fz : FitsSigned w128 z = search rules in
    goes_by (links_of gs es) (instr.Global c.args.g) at m _ _ (z ∷ below) refl (λ input next. global_done (machine_of at m input) next gs es c.args.g z (slice_get-get_or gs c.args.g (pos 0) within))
    (goes_with at m _ _ z z below fz refl c.give.ensures) ports
