use Rattle.std.proofs.Common.{◌≡◌, ◌+◌, ◌*◌, ◌^◌, ◌<◌, ◌≤◌, ℕ, length, get_or, drop, refl, subst, sym, arith}
use Rattle.std.proofs.lemmas.Nat.{pow_pos}
use Rattle.seg_heap.specs.Gaps.{IsTree}
use Rattle.seg_heap.proofs.Blocks.{none_of, first_of, there, item}
use Rattle.seg_heap.proofs.Tree.{read}
use Rattle.seg_heap.proofs.gaps.Gaps.first.Goals as goal

pub returns-then-index-count : goal.returns-then-index-count
returns-then-index-count c =
    let depth = c.self.inside.depth in
    let top = c.self.inside.top.items in
    let inside : 1 < length top = omega (arith, c.self.invariant.0.above.size, pow_pos depth) in
    let is : get_or top 1 0 ≡ c.index.result.now = read top 1 1 c.index.result.now c.index.ensures refl inside in
    let less : get_or top 1 0 < c.args.count = omega (arith, is, c.if-index-count.true) in
    subst (λ l. (unit : ℕ) → get_or l unit 0 < c.args.count) c.self.view_is (none_of depth top c.self.inside.blocks.items c.args.count c.self.invariant.0 less)

pub first_leaf-unit-requires-clause-tree : goal.first_leaf-unit-requires-clause-tree
first_leaf-unit-requires-clause-tree c =
    let depth = c.self.inside.depth in
    let blocks = c.self.inside.blocks.items in
    let block = c.first_leaf-block.result in
    let long = subst (λ t. c.args.count ≤ get_or (drop (2 ^ depth) t) block 0) c.deref.ensures.value c.first_leaf-block.ensures.long in
    let lt = there depth c.self.inside.top.items blocks block c.args.count c.self.invariant.0 c.requires long in
    subst (IsTree 10) (sym (item blocks block c.index-2.result.now c.index-2.ensures lt)) (c.self.invariant.0.each block lt)

pub returns : goal.returns
returns c =
    let depth = c.self.inside.depth in
    let top = c.self.inside.top.items in
    let blocks = c.self.inside.blocks.items in
    let block = c.first_leaf-block.result in
    let unit = c.first_leaf-unit.result in
    let count = c.args.count in
    let long = subst (λ t. count ≤ get_or (drop (2 ^ depth) t) block 0) c.deref.ensures.value c.first_leaf-block.ensures.long in
    let before = subst (λ t. (b : ℕ) → b < block → get_or (drop (2 ^ depth) t) b 0 < count) c.deref.ensures.value c.first_leaf-block.ensures.before in
    let lt = there depth top blocks block count c.self.invariant.0 c.requires long in
    let is = item blocks block c.index-2.result.now c.index-2.ensures lt in
    subst (λ l. (count ≤ get_or l (1024 * block + unit) 0) × ((u : ℕ) → u < 1024 * block + unit → get_or l u 0 < count)) c.self.view_is
    (first_of depth top blocks count block unit c.self.invariant.0 c.first_leaf-unit.ensures.inside before
    (subst (λ b. count ≤ get_or (drop 1024 b) unit 0) is c.first_leaf-unit.ensures.long)
    (subst (λ b. (u : ℕ) → u < unit → get_or (drop 1024 b) u 0 < count) is c.first_leaf-unit.ensures.before))
