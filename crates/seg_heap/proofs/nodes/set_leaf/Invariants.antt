use Rattle.std.proofs.Common.{◌^◌, drop}
use Rattle.seg_heap.proofs.Tree.{IsRising}
use Rattle.seg_heap.proofs.nodes.set_leaf.Given as goal

abbrev pub invariant-loop-node : goal.invariant-loop-node
invariant-loop-node l = IsRising l.depth l.node l.nodes (drop (2 ^ l.depth) l.initial.nodes)

abbrev pub decreases-loop-node : goal.decreases-loop-node
decreases-loop-node l = l.node
