use Rattle.std.proofs.Common.{arith}
use Rattle.raw_seg.proofs.Zeros.{length-zeros_to, number_behind}
use Rattle.raw_seg.proofs.Seg.number_8.Goals as goal

pub returns-else-at-len : goal.returns-else-at-len
returns-else-at-len c =
    let bytes = c.self.inside.bytes.items in
    let long = length-zeros_to c.self.inside.len bytes c.args.self.now c.self.view_is c.self.invariant.0 in
    number_behind c.self.inside.len bytes c.args.self.now c.args.at 8 c.self.view_is (omega (arith, c.if-at-len.false, c.len-2.ensures, c.self.inside.bytes.ok.0)) (omega (arith, c.requires.inside, long))
