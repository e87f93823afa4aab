use Rattle.std.proofs.Common.{◌≡◌, ◌++◌, length, map}
use Rattle.c_syntax.specs.Statements.{plain_decl}
use Rattle.c_scopes.specs.Sights.{plain_sight}
use Rattle.c_typing.specs.NotedContracts.{all_numbered, numbers_by}
use Rattle.c_typing.proofs.contract.see_numbered.Given as goal

abbrev pub invariant-turn : goal.invariant-turn
invariant-turn l = record {
  seen : all_numbered (plain_sight l.sight) (map plain_decl l.rest) l.left ≡ all_numbered (plain_sight l.initial.sight) (map plain_decl l.params) l.numbers;
  numbers : l.seen.list.items ++ numbers_by (map plain_decl l.rest) l.left ≡ numbers_by (map plain_decl l.params) l.numbers;
}

abbrev pub decreases-turn : goal.decreases-turn
decreases-turn l = length l.rest
