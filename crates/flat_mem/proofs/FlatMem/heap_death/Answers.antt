use Rattle.std.proofs.Common.{sym, subst}
use Rattle.shadow_segments.specs.Shadow.{IsLiveBase}
use Rattle.flat_mem.proofs.HeapBlocks.{placed_freed}
use Rattle.flat_mem.proofs.FlatMem.heap_death.Goals as goal

pub invariant_of-self : goal.invariant_of-self
invariant_of-self c =
    let live = subst (λ m. IsLiveBase m.heap.shadow.notes c.args.at) (sym c.self.view_is) c.requires in (
      c.self.invariant.0,
      c.self.invariant.1,
      placed_freed c.self.inside.places c.give.new.self c.self.inside.heap c.death.new.self c.args.at c.self.invariant.2 live c.give.ensures.given c.give.ensures.apart c.death.ensures,
    )
