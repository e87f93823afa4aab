use Rattle.std.proofs.Common.{◌≡◌, length}
use Rattle.bench_raw_seg.proofs.run.Given as goal

abbrev pub invariant-loop-value : goal.invariant-loop-value
invariant-loop-value l = length l.seg ≡ 32768
