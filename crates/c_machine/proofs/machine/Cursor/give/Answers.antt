use Rattle.std.proofs.Common.{◌+◌, refl, ap, ◌∙◌, ◌∷◌, arith}
use Rattle.std.specs.Int.{w128}
use Rattle.std.proofs.lemmas.Int.{to_z-of_z}
use Rattle.std.proofs.lemmas.List.{length-set}
use Rattle.c_lower.specs.Machine.{at_with}
use Rattle.mon_syntax.specs.FlatMemory.{over_flat}
use Rattle.c_machine.specs.Held.{from_top, machine_of}
use Rattle.c_machine.proofs.Operands.{from_top-push}
use Rattle.c_machine.proofs.machine.Cursor.give.Goals as goal

pub returns : goal.returns
returns c =
    let at = c.args.self.now in
    let m = c.args.machine.now in
    record {
      state = λ input. ap (λ l. at_with over_flat (machine_of at m input) (at.place + 1) l)
          (from_top-push at.height m.operands.items _ c.requires.room ∙ ap (λ z. z ∷ from_top at.height m.operands.items) (to_z-of_z w128 c.args.z c.ranges.z));
      calls = refl;
      onward = omega arith;
      fit = record { height = simp length-set (omega arith); base = c.requires.fit.base; nested = c.requires.fit.nested };
      roomy = simp length-set (omega arith);
    }
