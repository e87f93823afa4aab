use Rattle.std.proofs.Common.{◌≡◌, ◌<◌, ◌≤◌, Some, true, false, ap, ◌∙◌, arith}
use Rattle.std.proofs.lemmas.Result.{err_from_is_err_and}
use Rattle.mon_syntax.specs.Flat.{flat_byte, region_length}
use Rattle.c_machine.proofs.Strings.{wrote_to_none, wrote_to_more, lost_at, end_at, break_at, break_after, wrote_whole, ends_whole}
use Rattle.c_machine.proofs.writing.put_string.Goals as goal

pub loop-at-init : goal.loop-at-init
loop-at-init g c = wrote_to_none (flat_byte c.args.memory.now c.args.p) (region_length c.args.memory.now c.args.p) _

pub loop-at-preserved : goal.loop-at-preserved
loop-at-preserved g c =
    let byte = flat_byte c.args.memory.now c.args.p in
    let n = region_length c.args.memory.now c.args.p in
    let lt : c.loop-at.at < n = omega (arith, c.loop-at-test.true, c.from-at-end.ensures, c.region_length.ensures) in
    wrote_to_more byte n c.loop-at.at lt _ _ c.loop-at.invariant c.in-Ok.byte _ c.in-Ok.ensures (omega (arith, c.if-byte-eq0.false)) c.in_ok-byte-in-Ok.ensures

-- the 0 that ends it
pub returns-then-byte-eq0-clause-written : goal.returns-then-byte-eq0-clause-written
returns-then-byte-eq0-clause-written g c =
    let byte = flat_byte c.args.memory.now c.args.p in
    let n = region_length c.args.memory.now c.args.p in
    let lt : c.loop-at.at < n = omega (arith, c.loop-at-test.true, c.from-at-end.ensures, c.region_length.ensures) in
    wrote_whole byte n true c.loop-at.at _ _ c.loop-at.invariant (end_at byte n c.loop-at.at lt _ _ c.loop-at.invariant (c.in-Ok.ensures ∙ ap Some c.if-byte-eq0.true))

pub returns-then-byte-eq0-clause-ended : goal.returns-then-byte-eq0-clause-ended
returns-then-byte-eq0-clause-ended g c =
    let byte = flat_byte c.args.memory.now c.args.p in
    let n = region_length c.args.memory.now c.args.p in
    let lt : c.loop-at.at < n = omega (arith, c.loop-at-test.true, c.from-at-end.ensures, c.region_length.ensures) in
    ends_whole byte n true c.loop-at.at _ _ c.loop-at.invariant (end_at byte n c.loop-at.at lt _ _ c.loop-at.invariant (c.in-Ok.ensures ∙ ap Some c.if-byte-eq0.true))

pub returns-in_err-byte-in-Ok-clause-written : goal.returns-in_err-byte-in-Ok-clause-written
returns-in_err-byte-in-Ok-clause-written g c =
    let byte = flat_byte c.args.memory.now c.args.p in
    let n = region_length c.args.memory.now c.args.p in
    let lt : c.loop-at.at < n = omega (arith, c.loop-at-test.true, c.from-at-end.ensures, c.region_length.ensures) in
    let refused = err_from_is_err_and c.from_residual.result c.from_residual.ensures.1 in
    rw (refused.1, refused.2)
    (lost_at byte n c.loop-at.at lt _ _ c.loop-at.invariant c.in-Ok.byte _ _ _ c.in-Ok.ensures (omega (arith, c.if-byte-eq0.false)) c.in_err-byte-in-Ok.ensures)

-- no byte is there
pub returns-in-Err-clause-written : goal.returns-in-Err-clause-written
returns-in-Err-clause-written g c =
    let byte = flat_byte c.args.memory.now c.args.p in
    let n = region_length c.args.memory.now c.args.p in
    let lt : c.loop-at.at < n = omega (arith, c.loop-at-test.true, c.from-at-end.ensures, c.region_length.ensures) in
    wrote_whole byte n false c.loop-at.at _ _ c.loop-at.invariant (break_at byte n c.loop-at.at lt _ _ c.loop-at.invariant c.in-Err.ensures.0)

pub returns-in-Err-clause-ended : goal.returns-in-Err-clause-ended
returns-in-Err-clause-ended g c =
    let byte = flat_byte c.args.memory.now c.args.p in
    let n = region_length c.args.memory.now c.args.p in
    let lt : c.loop-at.at < n = omega (arith, c.loop-at-test.true, c.from-at-end.ensures, c.region_length.ensures) in
    ends_whole byte n false c.loop-at.at _ _ c.loop-at.invariant (break_at byte n c.loop-at.at lt _ _ c.loop-at.invariant c.in-Err.ensures.0)

-- the region ends
pub returns-clause-written : goal.returns-clause-written
returns-clause-written g c =
    let byte = flat_byte c.args.memory.now c.args.p in
    let n = region_length c.args.memory.now c.args.p in
    let le : n ≤ c.loop-at.at = omega (arith, c.loop-at-test.false, c.from-at-end.ensures, c.region_length.ensures) in
    wrote_whole byte n false c.loop-at.at _ _ c.loop-at.invariant (break_after byte n c.loop-at.at _ _ c.loop-at.invariant le)

pub returns-clause-ended : goal.returns-clause-ended
returns-clause-ended g c =
    let byte = flat_byte c.args.memory.now c.args.p in
    let n = region_length c.args.memory.now c.args.p in
    let le : n ≤ c.loop-at.at = omega (arith, c.loop-at-test.false, c.from-at-end.ensures, c.region_length.ensures) in
    ends_whole byte n false c.loop-at.at _ _ c.loop-at.invariant (break_after byte n c.loop-at.at _ _ c.loop-at.invariant le)
