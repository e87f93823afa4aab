use Rattle.std.proofs.Common.{◌≤◌, ◌+◌, ◌*◌, ◌/◌, length, refl, ap, arith}
use Rattle.shadow_segments.specs.declared.BlockNote.{BlockNote}
use Rattle.flat_mem.proofs.Tidied.{tidy_born}
use Rattle.flat_mem.proofs.FlatMem.global_birth.Goals as goal

pub invariant_of-self : goal.invariant_of-self
invariant_of-self c =
    let old = c.self.inside in
    let note : BlockNote = record { base = old.placed; length = c.args.len; number = old.births + 1; kind = c.args.kind } in
    let next = old.placed + (c.args.len / 16 + 1) * 16 in
    let placed = ap (λ m. m.placed) c.self.view_is in
    let long = ap (λ m. length m.globals.bytes) c.self.view_is in
    let room : next ≤ length old.globals.bytes = omega (arith, c.requires.place, placed, long) in
    (tidy_born old.globals c.birth.new.self old.placed next note c.self.invariant.0 refl (omega arith) room c.birth.ensures, c.self.invariant.1, c.self.invariant.2)
