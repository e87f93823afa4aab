use Rattle.std.proofs.Common.{◌+◌, ◌<◌, rules, arith, length, slice_set, take}
use Rattle.c_scopes.proofs.InPlace.{done, seen, unvisited_step, within_step}
use Rattle.interval_infer.specs.Seen.{plain_result}
use Rattle.interval_infer.proofs.Rows.{rows_step}
use Rattle.interval_infer.proofs.annotation.annotation_ranges.Goals as goal

pub loop-i-preserved : goal.loop-i-preserved
loop-i-preserved c =
    let old = c.args.annots.now.items in
    let cur = c.loop-i.annots.items in
    let i = c.loop-i.i in
    let x = c.index_mut-annot.result.now in
    let y = record x { body = c.range_body-clause.new.body } in
    let lt : i < length cur = search (rules, arith) in
    let was = seen old cur i x lt c.loop-i.invariant.unvisited c.index_mut-annot.ensures.value in
    record {
      unvisited = unvisited_step old cur i y c.loop-i.invariant.unvisited;
      within = within_step cur i y lt;
      done = rw c.both-done.ensures.is (rows_step (plain_result c.args.returns) (take i old) (take (i + 1) old) (take i cur) (take (i + 1) (slice_set cur i y)) x c.range_body-clause.new.body c.loop-i.done c.range_body-clause.result was
          (done cur i y lt) c.loop-i.invariant.done c.range_body-clause.ensures.ranged);
      sure = c.both-done.ensures.sure c.loop-i.invariant.sure c.range_body-clause.ensures.sure;
    }
