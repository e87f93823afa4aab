use Rattle.std.proofs.Common.{get_or, sym, ap, ◌∙◌, arith}
use Rattle.seg_heap.proofs.Blocks.{leaf_of, no_leaf_of, item_leaf}
use Rattle.seg_heap.proofs.gaps.Gaps.at.Goals as goal

pub returns-then-block-len : goal.returns-then-block-len
returns-then-block-len c =
    let blocks = c.self.inside.blocks.items in
    item_leaf blocks c.args.unit c.index.result.now c.index.ensures (omega (arith, c.if-block-len.true, c.len.ensures, c.self.inside.blocks.ok.0))
    ∙ sym (leaf_of c.self.inside.depth c.self.inside.top.items blocks c.self.invariant.0 c.args.unit)
    ∙ ap (λ l. get_or l c.args.unit 0) c.self.view_is

pub returns-else-block-len : goal.returns-else-block-len
returns-else-block-len c =
    no_leaf_of c.self.inside.depth c.self.inside.top.items c.self.inside.blocks.items c.self.invariant.0 c.args.unit (omega (arith, c.if-block-len.false, c.len.ensures, c.self.inside.blocks.ok.0))
    ∙ ap (λ l. get_or l c.args.unit 0) c.self.view_is
