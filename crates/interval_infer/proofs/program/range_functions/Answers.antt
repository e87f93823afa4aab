use Rattle.std.proofs.Common.{◌+◌, ◌<◌, rules, arith, length, slice_set, take}
use Rattle.c_scopes.proofs.InPlace.{done, seen, unvisited_step, within_step}
use Rattle.interval_infer.proofs.FunctionRows.{functions_step}
use Rattle.interval_infer.proofs.program.range_functions.Goals as goal

pub loop-i-preserved : goal.loop-i-preserved
loop-i-preserved c =
    let old = c.args.funcs.now.items in
    let cur = c.loop-i.funcs.items in
    let i = c.loop-i.i in
    let x = c.index_mut.result.now in
    let y = c.range_function-function.new.f in
    let lt : i < length cur = search (rules, arith) in
    let was = seen old cur i x lt c.loop-i.invariant.unvisited c.index_mut.ensures.value in
    record {
      unvisited = unvisited_step old cur i y c.loop-i.invariant.unvisited;
      within = within_step cur i y lt;
      done = rw c.both-done.ensures.is (functions_step (take i old) (take (i + 1) old) (take i cur) (take (i + 1) (slice_set cur i y)) x y c.loop-i.done c.range_function-function.result was
          (done cur i y lt) c.loop-i.invariant.done c.range_function-function.ensures.ranged);
      sure = c.both-done.ensures.sure c.loop-i.invariant.sure c.range_function-function.ensures.sure;
    }
