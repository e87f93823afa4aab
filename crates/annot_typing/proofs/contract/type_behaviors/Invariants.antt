use Rattle.std.proofs.Common.{◌≡◌, ◌≤◌, [], drop, length, map, take}
use Rattle.c_syntax.specs.Ctypes.{plain_type}
use Rattle.c_syntax.specs.Programs.{plain_behavior}
use Rattle.c_model.specs.ContractTyping.{names_of_behaviors, sight_of_clause, typed_behaviors}
use Rattle.c_scopes.specs.Sights.{plain_sight}
use Rattle.c_scopes.proofs.InPlace.{Unvisited}
use Rattle.c_scopes.proofs.Lists.{behind_parts}
use Rattle.annot_typing.proofs.contract.type_behaviors.Given as goal

abbrev pub invariant-loop-i : goal.invariant-loop-i
invariant-loop-i l = record {
  unvisited : Unvisited l.behaviors.items l.initial.behaviors.items l.i;
  within : l.i ≤ length l.behaviors.items;
  typed : typed_behaviors (sight_of_clause (plain_sight l.initial.sight) l.formals.list.items (plain_type l.ctype)) [] (map plain_behavior l.initial.behaviors.items)
      ≡ behind_parts (map plain_behavior (take l.i l.behaviors.items))
      (typed_behaviors (sight_of_clause (plain_sight l.initial.sight) l.formals.list.items (plain_type l.ctype)) l.names.list.items (map plain_behavior (drop l.i l.initial.behaviors.items)));
  names : l.names.list.items ≡ names_of_behaviors (map plain_behavior (take l.i l.initial.behaviors.items));
  same : l.sight ≡ l.initial.sight;
}
