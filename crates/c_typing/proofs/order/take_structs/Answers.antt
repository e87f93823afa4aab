use Rattle.std.proofs.Common.{◌<◌, ◌+◌, ◌≤◌, ◌≡◌, ◌∙◌, ◌++◌, rules, add-one, ap, sym, arith, drop, length, map, slice_set, take}
use Rattle.std.proofs.lemmas.List.{append-nil}
use Rattle.c_syntax.specs.Programs.{plain_layout}
use Rattle.c_model.specs.UnitTyping.{struct_items, unknown}
use Rattle.c_typing.specs.Files.{bare, plain_file_item}
use Rattle.c_typing.proofs.Items.{structs_left, structs_more}
use Rattle.c_scopes.proofs.InPlace.{all_done, done, left, none_left, seen, unvisited_step, within_step}
use Rattle.c_typing.proofs.order.take_structs.Goals as goal

pub loop-k-preserved : goal.loop-k-preserved
loop-k-preserved c =
    let old = c.args.structs.now.items in
    let cur = c.loop-k.structs.items in
    let i = c.loop-k.k in
    let x = c.index_mut.result.now in
    let y = c.take_struct.new.s in
    let lt : i < length cur = search (rules, arith) in
    let at = c.index_mut.ensures.value in
    let rest = left old cur i x lt c.loop-k.invariant.unvisited at in
    record {
      unvisited = unvisited_step old cur i y c.loop-k.invariant.unvisited;
      within = within_step cur i y lt;
      items = ap (λ n. map plain_file_item c.take_struct.new.items.items ++ map bare (struct_items n (map plain_layout (drop (i + 1) old)))) (add-one i)
          ∙ structs_more i (map plain_file_item c.loop-k.items.items) (map plain_file_item c.take_struct.new.items.items) (map plain_file_item c.args.items.now.items ++ map bare (struct_items 0 (map plain_layout old)))
          (drop i old) x (drop (i + 1) old) c.loop-k.invariant.items rest c.in_ok-take_struct.ensures.items;
      left = structs_left (take i old) (take (i + 1) old) (take i cur) (take (i + 1) (slice_set cur i y)) x y (seen old cur i x lt c.loop-k.invariant.unvisited at) (done cur i y lt) c.loop-k.invariant.left c.in_ok-take_struct.ensures.left;
    }

pub returns-clause-items : goal.returns-clause-items
returns-clause-items c =
    let old = c.args.structs.now.items in
    let cur = c.loop-k.structs.items in
    let i = c.loop-k.k in
    let long : length cur ≡ length old = c.loop-k.invariant.unvisited.0 in
    let past : length old ≤ i = search (rules, arith) in
    sym (append-nil (map plain_file_item c.loop-k.items.items))
    ∙ ap (λ l. map plain_file_item c.loop-k.items.items ++ map bare (struct_items i (map plain_layout l))) (sym (none_left old i past)) ∙ c.loop-k.invariant.items

pub returns-clause-left : goal.returns-clause-left
returns-clause-left c =
    let old = c.args.structs.now.items in
    let cur = c.loop-k.structs.items in
    let i = c.loop-k.k in
    let long : length cur ≡ length old = c.loop-k.invariant.unvisited.0 in
    let past : length old ≤ i = search (rules, arith) in
    ap (map plain_layout) (sym (all_done cur i (omega (arith, past, long)))) ∙ c.loop-k.invariant.left ∙ ap (λ l. map unknown (map plain_layout l)) (all_done old i past)
