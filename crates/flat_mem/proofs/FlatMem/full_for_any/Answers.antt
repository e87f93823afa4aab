use Rattle.std.proofs.Common.{arith}
use Rattle.flat_mem.proofs.HeapBlocks.{block_past}
use Rattle.flat_mem.proofs.FlatMem.full_for_any.Goals as goal

pub returns-then-self-lt4294967295 : goal.returns-then-self-lt4294967295
returns-then-self-lt4294967295 c n long = block_past _ _ n c.self.view_is c.if-self-lt4294967295.true (omega (arith, c.len.ensures)) long
