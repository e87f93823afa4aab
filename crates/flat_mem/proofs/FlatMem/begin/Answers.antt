use Rattle.std.proofs.Common.{ap}
use Rattle.flat_mem.proofs.Tidied.{tidy_bytes}
use Rattle.flat_mem.proofs.FlatMem.begin.Goals as goal

pub invariant_of-self : goal.invariant_of-self
invariant_of-self c = (
  tidy_bytes _ c.fill_with.new.self _ c.self-2.invariant.0 c.fill_with.ensures.len (ap (λ r. r.shadow.notes) c.fill_with.ensures.value),
  c.self-2.invariant.1,
  c.self-2.invariant.2,
)
