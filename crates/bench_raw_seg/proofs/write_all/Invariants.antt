use Rattle.std.proofs.Common.{◌≡◌, length}
use Rattle.bench_raw_seg.proofs.write_all.Given as goal

abbrev pub invariant-loop-i : goal.invariant-loop-i
invariant-loop-i l = length l.seg ≡ 32768
