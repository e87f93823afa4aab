use Rattle.std.proofs.Common.{arith}
use Rattle.raw_seg.proofs.Zeros.{length-zeros_to, number_behind, bytes_behind}
use Rattle.raw_seg.proofs.Seg.load.Goals as goal

pub returns-else-at-len-clause-value : goal.returns-else-at-len-clause-value
returns-else-at-len-clause-value c =
    let bytes = c.self.inside.bytes.items in
    let long = length-zeros_to c.self.inside.len bytes c.args.self.now c.self.view_is c.self.invariant.0 in
    number_behind c.self.inside.len bytes c.args.self.now c.args.at c.args.width c.self.view_is (omega (arith, c.if-at-len.false, c.len.ensures, c.self.inside.bytes.ok.0)) (omega (arith, c.requires.inside, long))

pub returns-else-at-len-clause-bytes : goal.returns-else-at-len-clause-bytes
returns-else-at-len-clause-bytes c =
    let bytes = c.self.inside.bytes.items in
    let long = length-zeros_to c.self.inside.len bytes c.args.self.now c.self.view_is c.self.invariant.0 in
    bytes_behind c.self.inside.len bytes c.args.self.now c.args.at c.args.width c.self.view_is (omega (arith, c.if-at-len.false, c.len.ensures, c.self.inside.bytes.ok.0)) (omega (arith, c.requires.inside, long))
