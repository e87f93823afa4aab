use Rattle.std.proofs.Common.{◌≤◌, ◌+◌, ◌*◌, ◌/◌, length, refl, arith}
use Rattle.c_syntax.specs.declared.types.BlockKind.TheVariants.{Stack}
use Rattle.flat_mem.proofs.Tidied.{tidy_born}
use Rattle.flat_mem.proofs.FlatMem.stack_birth.Goals as goal

pub invariant_of-self : goal.invariant_of-self
invariant_of-self c =
    let room : c.self.inside.top + (c.args.len / 16 + 1) * 16 ≤ length c.self.inside.stack.bytes = omega (arith, c.if-units-from.false, c.from.ensures, c.len.ensures, c.self.invariant.1.inside) in (
      c.self.invariant.0,
      tidy_born c.self.inside.stack c.birth.new.self c.self.inside.top (c.self.inside.top + (c.args.len / 16 + 1) * 16)
          (record { base = c.self.inside.top; length = c.args.len; number = c.self.inside.births + 1; kind = Stack }) c.self.invariant.1 refl (omega arith) room c.birth.ensures,
      c.self.invariant.2,
    )
