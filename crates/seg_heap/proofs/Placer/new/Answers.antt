use Rattle.std.proofs.Common.{refl}
use Rattle.seg_heap.proofs.Empty.{empty_heap, kept_empty}
use Rattle.seg_heap.proofs.Placer.new.Goals as goal

pub invariant_of-result : goal.invariant_of-result
invariant_of-result c = kept_empty c.args.units _ _ _ _ c.requires c.in_ok-starts.ensures c.in_ok-before.ensures c.in_ok-gaps.ensures.0 c.in_ok-gaps.ensures.1 c.set.ensures

pub returns : goal.returns
returns c = (refl, empty_heap c.args.units _ c.in_ok-starts.ensures)
