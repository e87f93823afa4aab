use Rattle.std.proofs.Common.{ap}
use Rattle.flat_mem.proofs.Placed.{placed_none}
use Rattle.flat_mem.proofs.Tidied.{tidy_empty}
use Rattle.flat_mem.proofs.FlatMem.new.Goals as goal

pub invariant_of-result : goal.invariant_of-result
invariant_of-result c = (
  tidy_empty c.in_ok-new.field-0 c.args.sizes.globals c.in_ok-new.ensures,
  tidy_empty c.in_ok-new-2.field-0 c.args.sizes.stack c.in_ok-new-2.ensures,
  placed_none c.in_ok-new-4.field-0 c.in_ok-new-3.field-0.shadow.notes c.args.sizes.heap c.requires.2.0 c.in_ok-new-4.ensures.0 c.in_ok-new-4.ensures.1 (ap (λ r. r.shadow.notes) c.in_ok-new-3.ensures),
)
