use Rattle.std.proofs.Common.{◌+◌, ◌<◌, rules, arith, refl, drop, length, map, slice_set, take}
use Rattle.c_syntax.specs.Ctypes.{plain_type}
use Rattle.c_syntax.specs.Programs.{plain_behavior}
use Rattle.c_model.specs.AnnotationRanges.{seen_result}
use Rattle.c_scopes.proofs.InPlace.{done, left, unvisited_step, within_step}
use Rattle.interval_infer.proofs.Contracts.{behaviors_more}
use Rattle.interval_infer.proofs.contract.range_behaviors.Goals as goal

pub loop-i-preserved : goal.loop-i-preserved
loop-i-preserved c =
    let old = c.args.behaviors.now.items in
    let cur = c.loop-i.behaviors.items in
    let i = c.loop-i.i in
    let x = c.index_mut-behavior.result.now in
    let y = record x { clauses = c.annotation_ranges.new.annots } in
    let lt : i < length cur = search (rules, arith) in
    record {
      unvisited = unvisited_step old cur i y c.loop-i.invariant.unvisited;
      within = within_step cur i y lt;
      ranged = behaviors_more (seen_result (plain_type c.args.ctype.now)) (map plain_behavior old) (drop i old) (take i cur) (take (i + 1) (slice_set cur i y)) x y (drop (i + 1) old) c.loop-i.invariant.ranged
          (left old cur i x lt c.loop-i.invariant.unvisited c.index_mut-behavior.ensures.value) c.in_ok-annotation_ranges.ensures.ranged refl (done cur i y lt);
    }
