use Rattle.std.proofs.Common.{◌<◌, ◌+◌, ◌≤◌, ◌≡◌, ◌∙◌, [], ◌∷◌, ◌++◌, rules, ap, sym, arith, length, map, slice_set, take}
use Rattle.c_syntax.specs.Programs.{plain_layout}
use Rattle.c_model.specs.AnnotationTyping.{known_before}
use Rattle.c_scopes.proofs.InPlace.{all_done, done, seen, unvisited_step, within_step}
use Rattle.c_typing.specs.KnownStructs.{sizes_of}
use Rattle.c_typing.proofs.KnownStructs.{hidden_more, sizes_more}
use Rattle.c_typing.proofs.known.hide_later.Goals as goal

pub loop-k-preserved : goal.loop-k-preserved
loop-k-preserved c =
    let old = c.args.structs.now.items in
    let cur = c.loop-k.structs.items in
    let i = c.loop-k.k in
    let x = c.index_mut.result.now in
    let y = c.hide-size.new.s in
    let lt : i < length cur = search (rules, arith) in
    let before = seen old cur i x lt c.loop-k.invariant.unvisited c.index_mut.ensures.value in
    record {
      unvisited = unvisited_step old cur i y c.loop-k.invariant.unvisited;
      within = within_step cur i y lt;
      hidden = hidden_more c.args.at (take i old) (take (i + 1) old) (take i cur) (take (i + 1) (slice_set cur i y)) x y before (done cur i y lt) c.loop-k.invariant.hidden c.hide-size.ensures.hidden;
      sizes = c.in_ok-push.ensures.items ∙ ap (λ n. c.loop-k.sizes.items ++ n ∷ []) c.hide-size.ensures.size ∙ sizes_more (take i old) (take (i + 1) old) x c.loop-k.sizes.items before c.loop-k.invariant.sizes;
    }

pub returns-clause-hidden : goal.returns-clause-hidden
returns-clause-hidden c =
    let old = c.args.structs.now.items in
    let cur = c.loop-k.structs.items in
    let i = c.loop-k.k in
    let long : length cur ≡ length old = c.loop-k.invariant.unvisited.0 in
    let past : length old ≤ i = search (rules, arith) in
    ap (map plain_layout) (sym (all_done cur i (omega (arith, past, long)))) ∙ c.loop-k.invariant.hidden ∙ ap (λ l. map (known_before c.args.at) (map plain_layout l)) (all_done old i past)

pub returns-clause-sizes : goal.returns-clause-sizes
returns-clause-sizes c =
    let old = c.args.structs.now.items in
    let cur = c.loop-k.structs.items in
    let i = c.loop-k.k in
    let long : length cur ≡ length old = c.loop-k.invariant.unvisited.0 in
    let past : length old ≤ i = search (rules, arith) in
    c.loop-k.invariant.sizes ∙ ap sizes_of (all_done old i past)
