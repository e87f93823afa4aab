use Rattle.std.proofs.Common.{◌≡◌, ◌≤◌, ℕ, None, cond, length, map, take}
use Rattle.c_syntax.specs.Programs.{plain_func}
use Rattle.c_scopes.proofs.InPlace.{Unvisited}
use Rattle.c_typing.specs.NotedContracts.{contracts_in, defines, given_contract}
use Rattle.c_typing.proofs.contract.give_contracts.Given as goal

abbrev pub invariant-loop-k : goal.invariant-loop-k
invariant-loop-k l = record {
  unvisited : Unvisited l.funcs.items l.initial.funcs.items l.k;
  within : l.k ≤ length l.funcs.items;
  given : map plain_func (take l.k l.funcs.items) ≡ map (given_contract (contracts_in l.initial.contracts)) (map plain_func (take l.k l.initial.funcs.items));
  kept : (x : ℕ) → contracts_in l.contracts x ≡ cond (defines x (map plain_func (take l.k l.initial.funcs.items))) None (contracts_in l.initial.contracts x);
}
