use Rattle.std.proofs.Common.{◌≡◌, ◌+◌, ◌*◌, ◌<◌, ◌≤◌, get_or, subst, arith}
use Rattle.seg_heap.proofs.Tree.{IsFirst, starts, goes_left, goes_right, room}
use Rattle.seg_heap.proofs.nodes.first_leaf.Goals as goal
use Rattle.seg_heap.proofs.nodes.first_leaf.Goals.{then-nodes-node, else-nodes-node}

pub loop-level-init : goal.loop-level-init
loop-level-init c = starts c.args.depth c.args.count c.args.nodes.now c.requires.some

pub bounds-nodes-node : goal.bounds-nodes-node
bounds-nodes-node c =
    let more = room c.args.depth c.loop-level._level c.loop-level.node c.args.count c.args.nodes.now c.requires.tree c.loop-level-test.true c.loop-level.invariant in
    omega (arith, more, c.requires.tree.size)

pub loop-level-preserved : goal.loop-level-preserved
loop-level-preserved c =
    let depth = c.args.depth in
    let nodes = c.args.nodes.now in
    let node = c.loop-level.node in
    let twice : node * 2 ≡ 2 * node = omega arith in
    elim c.if-nodes-node.branch [
      | then-nodes-node w ↦
          (let less : get_or nodes (2 * node) 0 < c.args.count = subst (λ k. get_or nodes k 0 < c.args.count) twice w.if-nodes-node.true in
          let next : 2 * node + 1 ≡ c.if-nodes-node.node = omega (arith, w.node-is) in
          subst (λ n. IsFirst depth (c.loop-level._level + 1) n c.args.count nodes) next (goes_right depth c.loop-level._level node c.args.count nodes c.requires.tree c.loop-level-test.true c.loop-level.invariant less))
      | else-nodes-node w ↦
          (let enough : c.args.count ≤ get_or nodes (2 * node) 0 = subst (λ k. c.args.count ≤ get_or nodes k 0) twice (omega (arith, w.if-nodes-node.false)) in
          let next : 2 * node ≡ c.if-nodes-node.node = omega (arith, w.node-is) in
          subst (λ n. IsFirst depth (c.loop-level._level + 1) n c.args.count nodes) next (goes_left depth c.loop-level._level node c.args.count nodes c.requires.tree c.loop-level-test.true c.loop-level.invariant enough))
    ]
