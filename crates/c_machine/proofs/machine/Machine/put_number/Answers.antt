use Rattle.std.proofs.Common.{rules, FitsSigned, ◌≡◌, [], refl, ap, ◌∙◌}
use Rattle.std.specs.Int.{w128}
use Rattle.std.specs.Fmt.{signed_decimal}
use Rattle.std.proofs.lemmas.Int.{to_z-of_z}
use Rattle.c_lower.specs.declared.code.Instr.TheVariants as instr
use Rattle.c_lower.specs.Machine.{on_with}
use Rattle.mon_syntax.specs.FlatMemory.{over_flat}
use Rattle.ea_ports.specs.Buffered.{port_of}
use Rattle.c_machine.specs.Held.{from_top, machine_of}
use Rattle.c_machine.proofs.Writes.{writes_by, cut_by, number_written}
use Rattle.c_machine.proofs.Moves.{goes_kept, drops_one}
use Rattle.c_machine.proofs.machine.Machine.put_number.Goals as goal

pub returns-in-Err : goal.returns-in-Err
returns-in-Err g c links feed =
    let m = c.args.self.now in
    let z = c.in-Some.z in
    let below = from_top c.pop.new.self.height m.operands.items in
    let fz : FitsSigned w128 z = search rules in
    let text : c.as_bytes.result.now ≡ signed_decimal z = c.as_bytes.ensures.value ∙ c.format.ensures.text ∙ ap signed_decimal (to_z-of_z w128 z fz) in
    let port = port_of (g.O.Sink.told c.args.out.now) c.args.waiting.now (g.O.Sink.faults c.args.out.now) in
    let port' = port_of (g.O.Sink.told c.bytes.new.out) c.bytes.new.self (g.O.Sink.faults c.bytes.new.out) in
    rw c.refused.ensures (cut_by links instr.PutNumber m.cursor m c.as_bytes.result.now feed m.cursor m
    (λ input next. next (on_with over_flat (machine_of m.cursor m input) below)) port port' c.in-Err.fault
    (λ input next. number_written (machine_of m.cursor m input) next links z c.as_bytes.result.now below c.in-Some.ensures.top text) c.in-Err.ensures tt)

pub returns-in-Ok : goal.returns-in-Ok
returns-in-Ok g c links feed =
    let m = c.args.self.now in
    let z = c.in-Some.z in
    let below = from_top c.pop.new.self.height m.operands.items in
    let fz : FitsSigned w128 z = search rules in
    let text : c.as_bytes.result.now ≡ signed_decimal z = c.as_bytes.ensures.value ∙ c.format.ensures.text ∙ ap signed_decimal (to_z-of_z w128 z fz) in
    writes_by links instr.PutNumber m.cursor m c.as_bytes.result.now feed _ _ below _ _ refl
    (λ input next. number_written (machine_of m.cursor m input) next links z c.as_bytes.result.now below c.in-Some.ensures.top text)
    (goes_kept m.cursor m _ m below _ (drops_one m.cursor c.pop.new.self m c.in-Some.ensures.others c.in-Some.ensures.height c.requires.fit)) c.in-Ok.ensures

pub returns-in-None : goal.returns-in-None
returns-in-None g c links feed = record {
  feed = refl;
  bytes = [];
  wrote = search rules;
  run = λ input next. search rules;
}
