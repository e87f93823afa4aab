use Rattle.std.proofs.Common.{◌≡◌, ◌≤◌, ℕ, length, map, take}
use Rattle.c_syntax.specs.Programs.{plain_func}
use Rattle.c_scopes.proofs.InPlace.{Unvisited}
use Rattle.c_typing.specs.NotedContracts.{contracts_in, left_contract, named_contracts, numbers_in}
use Rattle.c_typing.proofs.contract.take_contracts.Given as goal

abbrev pub invariant-loop-k : goal.invariant-loop-k
invariant-loop-k l = record {
  unvisited : Unvisited l.funcs.items l.initial.funcs.items l.k;
  within : l.k ≤ length l.funcs.items;
  left : map plain_func (take l.k l.funcs.items) ≡ map (left_contract (numbers_in l.definitions)) (map plain_func (take l.k l.initial.funcs.items));
  kept : (x : ℕ) → contracts_in l.contracts x ≡ named_contracts (numbers_in l.definitions) (map plain_func (take l.k l.initial.funcs.items)) x;
}
