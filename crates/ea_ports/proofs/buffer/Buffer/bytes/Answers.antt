use Rattle.std.proofs.lemmas.Result.{err_from_is_err_and}
use Rattle.ea_ports.proofs.Buffered.{wrote_next, lost_next}
use Rattle.ea_ports.proofs.buffer.Buffer.bytes.Goals as goal

pub loop-byte-preserved : goal.loop-byte-preserved
loop-byte-preserved g c =
    wrote_next c.args.bytes.now c.loop-byte.byte-index c.loop-byte-test.true c.loop-byte.invariant c.in_ok-byte.ensures

pub returns-in_err-byte : goal.returns-in_err-byte
returns-in_err-byte g c =
    let refused = err_from_is_err_and c.from_residual.result c.from_residual.ensures.1 in
    rw (refused.1, refused.2) (lost_next c.args.bytes.now c.loop-byte.byte-index c.loop-byte-test.true c.loop-byte.invariant c.in_err-byte.ensures)
