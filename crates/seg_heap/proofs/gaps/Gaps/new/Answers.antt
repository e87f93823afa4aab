use Rattle.std.proofs.Common.{◌*◌, ◌^◌, replicate, sym, ap, ◌∙◌, arith}
use Rattle.seg_heap.proofs.Blocks.{length-leaves_of, fresh_leaves}
use Rattle.seg_heap.proofs.gaps.Gaps.new.Goals as goal

pub returns : goal.returns
returns c =
    let n = 1024 * 2 ^ c.depth_for-depth.result in
    let blocks = c.in_ok-with_capacity.field-0.items in
    let size = length-leaves_of n blocks in
    (omega (arith, size, c.depth_for-depth.ensures.enough), fresh_leaves n blocks c.in_ok-with_capacity.ensures.items ∙ ap (λ k. replicate k 0) (sym size))
