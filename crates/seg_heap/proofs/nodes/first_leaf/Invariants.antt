use Rattle.seg_heap.proofs.Tree.{IsFirst}
use Rattle.seg_heap.proofs.nodes.first_leaf.Given as goal

abbrev pub invariant-loop-level : goal.invariant-loop-level
invariant-loop-level l = IsFirst l.depth l._level l.node l.count l.nodes
