use Rattle.std.proofs.Common.{◌<◌, ◌+◌, ◌≤◌, ◌≡◌, ◌∙◌, rules, ap, sym, arith, length, map, slice_set, take}
use Rattle.c_syntax.specs.Programs.{plain_func}
use Rattle.c_scopes.proofs.InPlace.{all_done, done, seen, unvisited_step, within_step}
use Rattle.c_typing.specs.NotedContracts.{contracts_in, left_contract, named_contracts, numbers_in}
use Rattle.c_typing.proofs.NotedContracts.{mapped_more, named_more}
use Rattle.c_typing.proofs.contract.take_contracts.Goals as goal

pub loop-k-preserved : goal.loop-k-preserved
loop-k-preserved c =
    let old = c.args.funcs.now.items in
    let cur = c.loop-k.funcs.items in
    let i = c.loop-k.k in
    let x = c.index_mut.result.now in
    let y = c.take_contract.new.f in
    let numbers = numbers_in c.args.definitions.now in
    let lt : i < length cur = search (rules, arith) in
    let before = seen old cur i x lt c.loop-k.invariant.unvisited c.index_mut.ensures.value in
    record {
      unvisited = unvisited_step old cur i y c.loop-k.invariant.unvisited;
      within = within_step cur i y lt;
      left = mapped_more plain_func (left_contract numbers) (take i old) (take (i + 1) old) (take i cur) (take (i + 1) (slice_set cur i y)) x y before (done cur i y lt) c.loop-k.invariant.left c.in_ok-take_contract.ensures.left;
      kept = named_more numbers (contracts_in c.loop-k.contracts) (contracts_in c.take_contract.new.contracts) (take i old) (take (i + 1) old) x before c.loop-k.invariant.kept c.in_ok-take_contract.ensures.kept;
    }

pub returns-clause-left : goal.returns-clause-left
returns-clause-left c =
    let old = c.args.funcs.now.items in
    let cur = c.loop-k.funcs.items in
    let i = c.loop-k.k in
    let long : length cur ≡ length old = c.loop-k.invariant.unvisited.0 in
    let past : length old ≤ i = search (rules, arith) in
    ap (map plain_func) (sym (all_done cur i (omega (arith, past, long)))) ∙ c.loop-k.invariant.left ∙ ap (λ l. map (left_contract (numbers_in c.args.definitions.now)) (map plain_func l)) (all_done old i past)

pub returns-clause-kept : goal.returns-clause-kept
returns-clause-kept c = λ x.
    let old = c.args.funcs.now.items in
    let cur = c.loop-k.funcs.items in
    let i = c.loop-k.k in
    let long : length cur ≡ length old = c.loop-k.invariant.unvisited.0 in
    let past : length old ≤ i = search (rules, arith) in
    c.loop-k.invariant.kept x ∙ ap (λ l. named_contracts (numbers_in c.args.definitions.now) (map plain_func l) x) (all_done old i past)
