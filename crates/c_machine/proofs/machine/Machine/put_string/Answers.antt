use Rattle.std.proofs.Common.{rules, FitsSigned, ◌≡◌, true, false, [], if◌then◌else◌, refl, sym, ap, ◌∙◌, subst}
use Rattle.std.specs.Int.{w128}
use Rattle.std.proofs.lemmas.Int.{to_z-of_z}
use Rattle.c_model.specs.MonitoredRuns.{Fault}
use Rattle.ea_ports.specs.Buffered.{Wrote, Lost, port_of}
use Rattle.mon_syntax.specs.Flat.{flat_string}
use Rattle.mon_syntax.specs.FlatMemory.{over_flat, pointer_in}
use Rattle.c_lower.specs.declared.code.Instr.TheVariants as instr
use Rattle.c_lower.specs.Machine.{Over, on_with}
use Rattle.c_machine.specs.Held.{from_top, machine_of}
use Rattle.c_machine.proofs.Moves.{goes_kept, drops_one}
use Rattle.c_machine.proofs.Writes.{writes_by, cut_by}
use Rattle.c_machine.proofs.Strings.{string_written, string_breaks, string_begins}
use Rattle.c_machine.proofs.machine.Machine.put_string.Goals as goal

pub returns-in-Ok-true : goal.returns-in-Ok-true
returns-in-Ok-true g c links feed =
    let m = c.args.self.now in
    let z = c.in-Some.p in
    let below = from_top c.pop.new.self.height m.operands.items in
    let fz : FitsSigned w128 z = search rules in
    let p : c.pointer_in.result ≡ pointer_in z = c.pointer_in.ensures ∙ ap pointer_in (to_z-of_z w128 z fz) in
    let ended : true ≡ (flat_string m.memory (pointer_in z)).1 = subst (λ q. true ≡ (flat_string m.memory q).1) p (sym c.in-Ok-true.field-0-test ∙ c.in-Ok-true.ensures.ended) in
    writes_by links instr.PutString m.cursor m (flat_string m.memory (pointer_in z)).0 feed _ _ below _ _ refl
    (λ input next. string_written (machine_of m.cursor m input) links z below c.in-Some.ensures.top ended next)
    (goes_kept m.cursor m _ m below _ (drops_one m.cursor c.pop.new.self m c.in-Some.ensures.others c.in-Some.ensures.height c.requires.fit))
    (subst (λ q. Wrote (port_of (g.O.Sink.told c.args.out.now) c.args.waiting.now (g.O.Sink.faults c.args.out.now))
    (port_of (g.O.Sink.told c.put_string.new.out) c.put_string.new.waiting (g.O.Sink.faults c.put_string.new.out)) (flat_string m.memory q).0) p c.in-Ok-true.ensures.written)

pub returns-in-Ok-false : goal.returns-in-Ok-false
returns-in-Ok-false g c links feed =
    let m = c.args.self.now in
    let z = c.in-Some.p in
    let below = from_top c.pop.new.self.height m.operands.items in
    let fz : FitsSigned w128 z = search rules in
    let p : c.pointer_in.result ≡ pointer_in z = c.pointer_in.ensures ∙ ap pointer_in (to_z-of_z w128 z fz) in
    let ended : false ≡ (flat_string m.memory (pointer_in z)).1 = subst (λ q. false ≡ (flat_string m.memory q).1) p (sym c.in-Ok-false.field-0-test ∙ c.in-Ok-false.ensures.ended) in
    record {
      feed = refl;
      bytes = (flat_string m.memory (pointer_in z)).0;
      wrote = subst (λ q. Wrote (port_of (g.O.Sink.told c.args.out.now) c.args.waiting.now (g.O.Sink.faults c.args.out.now))
          (port_of (g.O.Sink.told c.put_string.new.out) c.put_string.new.waiting (g.O.Sink.faults c.put_string.new.out)) (flat_string m.memory q).0) p c.in-Ok-false.ensures.written;
      run = λ input next. string_breaks (machine_of m.cursor m input) links z below c.in-Some.ensures.top ended next;
    }

pub returns-in-Err : goal.returns-in-Err
returns-in-Err g c links feed =
    let m = c.args.self.now in
    let z = c.in-Some.p in
    let below = from_top c.pop.new.self.height m.operands.items in
    let fz : FitsSigned w128 z = search rules in
    let p : c.pointer_in.result ≡ pointer_in z = c.pointer_in.ensures ∙ ap pointer_in (to_z-of_z w128 z fz) in
    let string = flat_string m.memory (pointer_in z) in
    let port = port_of (g.O.Sink.told c.args.out.now) c.args.waiting.now (g.O.Sink.faults c.args.out.now) in
    let port' = port_of (g.O.Sink.told c.put_string.new.out) c.put_string.new.waiting (g.O.Sink.faults c.put_string.new.out) in
    rw c.refused.ensures (cut_by links instr.PutString m.cursor m string.0 feed m.cursor m
    (λ input next. if string.1 then next (on_with over_flat (machine_of m.cursor m input) below) else Over Fault m.cursor.steps []) port port' c.in-Err.fault
    (λ input next. string_begins (machine_of m.cursor m input) links z below c.in-Some.ensures.top next)
    (subst (λ q. Lost port port'.told port'.faults (flat_string m.memory q).0 c.in-Err.fault) p c.in-Err.ensures.written) tt)

pub returns-in_default : goal.returns-in_default
returns-in_default g c links feed = record {
  feed = refl;
  bytes = [];
  wrote = search rules;
  run = λ input next. search rules;
}
