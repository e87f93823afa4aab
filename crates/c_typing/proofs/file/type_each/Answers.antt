use Rattle.std.proofs.Common.{◌<◌, ◌+◌, ◌≤◌, rules, map, ◌∙◌, ◌≡◌, Err, ap, arith, drop, length, nat_eq, slice_set, take}
use Rattle.indexmap.specs.IndexMap.{get}
use Rattle.c_model.specs.Checked.{Good}
use Rattle.c_scopes.specs.Sights.{plain_sight}
use Rattle.c_typing.specs.Files.{all_kept, items_in_turn, kept, plain_course, plain_file_item}
use Rattle.c_typing.proofs.Turns.{items_done, items_more, items_refused}
use Rattle.c_scopes.proofs.InPlace.{all_done, done, left, none_left, unvisited_step, within_step}
use Rattle.c_typing.proofs.file.type_each.Goals as goal

pub loop-i-init : goal.loop-i-init
loop-i-init c = let begun = c.new-begun.ensures (plain_sight c.args.course.now.sight).structs in search (rules, begun)

pub loop-i-preserved : goal.loop-i-preserved
loop-i-preserved c =
    let numbers = get nat_eq c.args.numbers.now in
    let old = c.args.items.now.items in
    let cur = c.loop-i.items.items in
    let i = c.loop-i.i in
    let x = c.index_mut.result.now in
    let y = c.type_item.new.item in
    let lt : i < length cur = search (rules, arith) in
    let rest = left old cur i x lt c.loop-i.invariant.unvisited c.index_mut.ensures.value in
    record {
      unvisited = unvisited_step old cur i y c.loop-i.invariant.unvisited;
      within = within_step cur i y lt;
      typed = items_more numbers (items_in_turn numbers (plain_course c.args.course.now) (map plain_file_item old)) (plain_course c.loop-i.course) (take i cur) (drop i old) x (drop (i + 1) old)
          c.loop-i.invariant.typed rest (plain_course c.type_item.new.course) (take (i + 1) (slice_set cur i y)) y c.in_ok-type_item.ensures.typed (done cur i y lt);
      begun = c.in_ok-type_item.ensures.begun;
    }

pub returns-in_err-type_item : goal.returns-in_err-type_item
returns-in_err-type_item c =
    let numbers = get nat_eq c.args.numbers.now in
    let e : c.from_residual.result ≡ Err c.in_err-type_item.field-0.0 = search rules in
    let old = c.args.items.now.items in
    let cur = c.loop-i.items.items in
    let i = c.loop-i.i in
    let x = c.index_mut.result.now in
    let lt : i < length cur = search (rules, arith) in
    let whole = items_refused numbers (items_in_turn numbers (plain_course c.args.course.now) (map plain_file_item old)) (plain_course c.loop-i.course) (take i cur) (drop i old) x (drop (i + 1) old)
    c.loop-i.invariant.typed (left old cur i x lt c.loop-i.invariant.unvisited c.index_mut.ensures.value)
    (λ (u : Unit {0}). (plain_course c.type_item.new.course, kept (plain_file_item c.type_item.new.item)))
    (λ (u : Unit {0}). (plain_course c.loop-i.course, all_kept (map plain_file_item old))) c.in_err-type_item.field-0.0 c.in_err-type_item.ensures.typed in
    search (rules, e, whole)

pub returns : goal.returns
returns c =
    let numbers = get nat_eq c.args.numbers.now in
    let old = c.args.items.now.items in
    let cur = c.loop-i.items.items in
    let i = c.loop-i.i in
    let long : length cur ≡ length old = c.loop-i.invariant.unvisited.0 in
    let past : length old ≤ i = search (rules, arith) in
    items_done numbers (items_in_turn numbers (plain_course c.args.course.now) (map plain_file_item old)) (plain_course c.loop-i.course) (take i cur) (drop i old) c.loop-i.invariant.typed (none_left old i past)
    ∙ ap (λ zs. Good (plain_course c.loop-i.course, all_kept (map plain_file_item zs))) (all_done cur i (omega (arith, past, long)))
