use Rattle.std.proofs.Common.{◌<◌, ◌+◌, ◌≤◌, ◌≡◌, ◌∙◌, ◌∷◌, ◌++◌, rules, ap, sym, arith, drop, length, map, slice_set, take}
use Rattle.std.proofs.lemmas.List.{map-append}
use Rattle.c_syntax.specs.Programs.{plain_func}
use Rattle.c_scopes.proofs.InPlace.{all_done, done, left, seen, split, unvisited_step, within_step}
use Rattle.c_typing.specs.NotedContracts.{contracts_in, given_contract}
use Rattle.c_typing.proofs.NotedContracts.{given_same, kept_less, mapped_more}
use Rattle.c_typing.proofs.contract.give_contracts.Goals as goal

pub loop-k-preserved : goal.loop-k-preserved
loop-k-preserved c =
    let first = contracts_in c.args.contracts.now in
    let now = contracts_in c.loop-k.contracts in
    let next = contracts_in c.give_contract.new.contracts in
    let old = c.args.funcs.now.items in
    let cur = c.loop-k.funcs.items in
    let i = c.loop-k.k in
    let x = c.index_mut.result.now in
    let y = c.give_contract.new.f in
    let lt : i < length cur = search (rules, arith) in
    let before = seen old cur i x lt c.loop-k.invariant.unvisited c.index_mut.ensures.value in
    let rest = left old cur i x lt c.loop-k.invariant.unvisited c.index_mut.ensures.value in
    let whole : map plain_func old ≡ map plain_func (take i old) ++ plain_func x ∷ map plain_func (drop (i + 1) old) =
    ap (map plain_func) (split old i x (drop (i + 1) old) rest) ∙ map-append plain_func (take i old) (x ∷ drop (i + 1) old) in
    let same = given_same first now next (map plain_func old) (take i old) (drop (i + 1) old) (take (i + 1) old) x whole before c.requires c.loop-k.invariant.kept c.give_contract.ensures.left in
    record {
      unvisited = unvisited_step old cur i y c.loop-k.invariant.unvisited;
      within = within_step cur i y lt;
      given = mapped_more plain_func (given_contract first) (take i old) (take (i + 1) old) (take i cur) (take (i + 1) (slice_set cur i y)) x y before (done cur i y lt) c.loop-k.invariant.given (c.give_contract.ensures.given ∙ same);
      kept = kept_less first now next (map plain_func old) (take i old) (drop (i + 1) old) (take (i + 1) old) x whole before c.requires c.loop-k.invariant.kept c.give_contract.ensures.left;
    }

pub returns : goal.returns
returns c =
    let old = c.args.funcs.now.items in
    let cur = c.loop-k.funcs.items in
    let i = c.loop-k.k in
    let long : length cur ≡ length old = c.loop-k.invariant.unvisited.0 in
    let past : length old ≤ i = search (rules, arith) in
    ap (map plain_func) (sym (all_done cur i (omega (arith, past, long)))) ∙ c.loop-k.invariant.given ∙ ap (λ l. map (given_contract (contracts_in c.args.contracts.now)) (map plain_func l)) (all_done old i past)
