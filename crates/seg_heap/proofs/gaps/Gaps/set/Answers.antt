use Rattle.std.proofs.Common.{◌≡◌, ◌+◌, ◌*◌, ◌/◌, ◌%◌, ◌^◌, ◌<◌, ◌≤◌, set, drop, subst, ap, ◌∙◌, arith}
use Rattle.std.proofs.lemmas.Nat.{one_shl}
use Rattle.seg_heap.proofs.Blocks.{reached, set_trees, set_leaves, set_past}
use Rattle.seg_heap.proofs.gaps.Gaps.set.Goals as goal

pub set_in-longest-requires-clause-tree : goal.set_in-longest-requires-clause-tree
set_in-longest-requires-clause-tree c =
    let depth = c.self.inside.depth in
    let top = c.self.inside.top.items in
    let blocks = c.self.inside.blocks.items in
    let block = c.args.unit / 1024 in
    let more = c.reach.new.blocks.items in
    let there = reached depth top blocks more block c.self.inside.blocks.len c.reach.new.blocks.len c.self.invariant.0 c.self.inside.blocks.ok.0 c.reach.new.blocks.ok.0 c.reach.ensures.blocks c.reach.ensures.len c.if-block-self.true in
    there.trees.each block there.inside

pub invariant_of-self : goal.invariant_of-self
invariant_of-self c =
    let depth = c.self.inside.depth in
    let top = c.self.inside.top.items in
    let blocks = c.self.inside.blocks.items in
    let block = c.args.unit / 1024 in
    let more = c.reach.new.blocks.items in
    let there = reached depth top blocks more block c.self.inside.blocks.len c.reach.new.blocks.len c.self.invariant.0 c.self.inside.blocks.ok.0 c.reach.new.blocks.ok.0 c.reach.ensures.blocks c.reach.ensures.len c.if-block-self.true in (
      set_trees depth top c.set_above.new.top.items more c.set_in-longest.new.blocks.items block (c.args.unit % 1024) c.args.units there.trees there.inside (omega arith)
          c.set_in-longest.ensures.tree c.set_in-longest.ensures.leaves c.set_in-longest.ensures.others c.set_above.ensures.tree (c.set_above.ensures.leaves ∙ ap (set (drop (2 ^ depth) top) block) c.set_in-longest.ensures.root),
      omega (arith, c.self.invariant.1, c.reach.ensures.room, c.set_in-longest.ensures.room),
    )

pub returns-then-block-self : goal.returns-then-block-self
returns-then-block-self c =
    let depth = c.self.inside.depth in
    let top = c.self.inside.top.items in
    let blocks = c.self.inside.blocks.items in
    let block = c.args.unit / 1024 in
    let more = c.reach.new.blocks.items in
    let there = reached depth top blocks more block c.self.inside.blocks.len c.reach.new.blocks.len c.self.invariant.0 c.self.inside.blocks.ok.0 c.reach.new.blocks.ok.0 c.reach.ensures.blocks c.reach.ensures.len c.if-block-self.true in
    let whole : 1024 * (c.args.unit / 1024) + c.args.unit % 1024 ≡ c.args.unit = omega arith in
    set_leaves depth top c.set_above.new.top.items more c.set_in-longest.new.blocks.items block (c.args.unit % 1024) c.args.units there.trees there.inside (omega arith)
    c.set_in-longest.ensures.tree c.set_in-longest.ensures.leaves c.set_in-longest.ensures.others c.set_above.ensures.tree (c.set_above.ensures.leaves ∙ ap (set (drop (2 ^ depth) top) block) c.set_in-longest.ensures.root)
    ∙ ap (λ l. set l (1024 * block + c.args.unit % 1024) c.args.units) (there.same ∙ c.self.view_is)
    ∙ ap (λ u. set c.args.self.now u c.args.units) whole

pub returns-else-block-self : goal.returns-else-block-self
returns-else-block-self c =
    let depth = c.self.inside.depth in
    let small : depth < 64 = omega (arith, c.self.invariant.0.small) in
    let past : 2 ^ depth ≤ c.args.unit / 1024 = omega (arith, c.if-block-self.false, one_shl depth 64 small) in
    subst (λ l. l ≡ set l c.args.unit c.args.units) c.self.view_is (set_past depth c.args.unit c.args.units c.self.inside.blocks.items past)
