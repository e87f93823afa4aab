use Rattle.std.proofs.Common.{rules, FitsSigned, refl, arith}
use Rattle.std.specs.Int.{w128}
use Rattle.c_lower.specs.declared.code.Instr.TheVariants as instr
use Rattle.c_machine.specs.Held.{from_top}
use Rattle.c_machine.proofs.Moves.{goes_with, goes_kept}
use Rattle.c_machine.proofs.Writes.{starved_by}
use Rattle.c_machine.proofs.Acted.{char_read}
use Rattle.c_machine.proofs.machine.Machine.get_char.Goals as goal

pub returns-then-cursor-len : goal.returns-then-cursor-len
returns-then-cursor-len g c links port = starved_by links instr.GetChar c.args.self.now.cursor c.args.self.now _ (omega (arith, c.if-cursor-len.true, c.len.ensures, c.args.self.now.operands.ok))

pub returns-in-Ok : goal.returns-in-Ok
returns-in-Ok g c links port =
    let m = c.args.self.now in
    let z = c.in-Ok.z in
    let below = from_top m.cursor.height m.operands.items in
    let fz : FitsSigned w128 z = search rules in
    char_read links m.cursor m _ _ port _ _ z c.in-Ok.ensures
    (goes_kept m.cursor m c.give.new.self c.give.new.machine _ _ (goes_with m.cursor m _ _ z z below fz refl c.give.ensures))
