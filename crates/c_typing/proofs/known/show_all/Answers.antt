use Rattle.std.proofs.Common.{◌<◌, ◌+◌, ◌≤◌, ◌≡◌, ◌∙◌, ◌++◌, rules, ap, sym, arith, drop, length, map, slice_set, take}
use Rattle.std.proofs.lemmas.List.{append-nil}
use Rattle.c_syntax.specs.Programs.{plain_layout}
use Rattle.c_scopes.proofs.InPlace.{all_done, done, left, none_left, unvisited_step, within_step}
use Rattle.c_typing.specs.KnownStructs.{with_sizes}
use Rattle.c_typing.proofs.KnownStructs.{no_more, shown_more}
use Rattle.c_typing.proofs.known.show_all.Goals as goal

pub loop-k-preserved : goal.loop-k-preserved
loop-k-preserved c =
    let old = c.args.structs.now.items in
    let cur = c.loop-k.structs.items in
    let i = c.loop-k.k in
    let x = c.index_mut.result.now in
    let y = c.show-rest.new.s in
    let lt : i < length cur = search (rules, arith) in
    record {
      unvisited = unvisited_step old cur i y c.loop-k.invariant.unvisited;
      within = within_step cur i y lt;
      shown = shown_more (take i cur) (take (i + 1) (slice_set cur i y)) c.loop-k.rest.now c.show-rest.result.now (drop i old) (drop (i + 1) old) x y (with_sizes c.args.sizes.now (map plain_layout old))
          (done cur i y lt) (left old cur i x lt c.loop-k.invariant.unvisited c.index_mut.ensures.value) c.show-rest.ensures c.loop-k.invariant.shown;
    }

pub returns : goal.returns
returns c =
    let old = c.args.structs.now.items in
    let cur = c.loop-k.structs.items in
    let i = c.loop-k.k in
    let long : length cur ≡ length old = c.loop-k.invariant.unvisited.0 in
    let past : length old ≤ i = search (rules, arith) in
    ap (map plain_layout) (sym (all_done cur i (omega (arith, past, long)))) ∙ sym (append-nil (map plain_layout (take i cur)))
    ∙ ap (λ l. map plain_layout (take i cur) ++ l) (sym (ap (λ l. with_sizes c.loop-k.rest.now (map plain_layout l)) (none_left old i past) ∙ no_more c.loop-k.rest.now)) ∙ c.loop-k.invariant.shown
