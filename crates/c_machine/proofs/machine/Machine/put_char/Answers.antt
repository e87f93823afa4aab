use Rattle.std.proofs.Common.{rules, FitsSigned, ◌≡◌, ◌∷◌, [], pos, refl, ap, ◌∙◌}
use Rattle.std.specs.Int.{w128}
use Rattle.std.proofs.lemmas.Int.{to_z-of_z}
use Rattle.c_model.specs.Integers.{byte_of}
use Rattle.c_lower.specs.declared.code.Instr.TheVariants as instr
use Rattle.c_lower.specs.Machine.{on_with}
use Rattle.mon_syntax.specs.FlatMemory.{over_flat}
use Rattle.ea_ports.specs.Buffered.{port_of}
use Rattle.c_machine.specs.Held.{from_top, machine_of}
use Rattle.c_machine.proofs.Moves.{goes_after, goes_with, goes_kept}
use Rattle.c_machine.proofs.Writes.{writes_by, cut_by, char_written}
use Rattle.c_machine.proofs.machine.Machine.put_char.Goals as goal

pub returns-in-Ok : goal.returns-in-Ok
returns-in-Ok g c links feed =
    let m = c.args.self.now in
    let z = c.in-Some.z in
    let below = from_top c.pop.new.self.height m.operands.items in
    let fz : FitsSigned w128 z = search rules in
    let ff : FitsSigned w128 c.from.result = search rules in
    let byte : c.low_byte-byte.result ≡ byte_of z = c.low_byte-byte.ensures ∙ ap byte_of (to_z-of_z w128 z fz) in
    writes_by links instr.PutChar m.cursor m (c.low_byte-byte.result ∷ []) feed _ _ (pos (byte_of z) ∷ below) _ _ refl
    (λ input next. char_written (machine_of m.cursor m input) next links z c.low_byte-byte.result below c.in-Some.ensures.top byte)
    (goes_after m.cursor c.pop.new.self m _ _ (pos (byte_of z) ∷ below) c.in-Some.ensures.others
    (goes_kept c.pop.new.self m c.give.new.self c.give.new.machine (pos (byte_of z) ∷ below) _
    (goes_with c.pop.new.self m _ _ c.from.result (pos (byte_of z)) below ff (c.from.ensures ∙ ap pos byte) c.give.ensures)))
    c.in-Ok.ensures

pub returns-in-Err : goal.returns-in-Err
returns-in-Err g c links feed =
    let m = c.args.self.now in
    let z = c.in-Some.z in
    let below = from_top c.pop.new.self.height m.operands.items in
    let fz : FitsSigned w128 z = search rules in
    let byte : c.low_byte-byte.result ≡ byte_of z = c.low_byte-byte.ensures ∙ ap byte_of (to_z-of_z w128 z fz) in
    let port = port_of (g.O.Sink.told c.args.out.now) c.args.waiting.now (g.O.Sink.faults c.args.out.now) in
    let port' = port_of (g.O.Sink.told c.byte.new.out) c.byte.new.self (g.O.Sink.faults c.byte.new.out) in
    rw c.refused.ensures (cut_by links instr.PutChar m.cursor m (c.low_byte-byte.result ∷ []) feed m.cursor m
    (λ input next. next (on_with over_flat (machine_of m.cursor m input) (pos (byte_of z) ∷ below))) port port' c.in-Err.fault
    (λ input next. char_written (machine_of m.cursor m input) next links z c.low_byte-byte.result below c.in-Some.ensures.top byte) c.in-Err.ensures tt)

pub returns-in-None : goal.returns-in-None
returns-in-None g c links feed = record {
  feed = refl;
  bytes = [];
  wrote = search rules;
  run = λ input next. search rules;
}
