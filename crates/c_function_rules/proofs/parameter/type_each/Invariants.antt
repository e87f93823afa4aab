use Rattle.std.proofs.Common.{◌≡◌, ◌≤◌, drop, length, map, take}
use Rattle.c_syntax.specs.Statements.{plain_decl}
use Rattle.c_model.specs.UnitTyping.{with_parameters}
use Rattle.c_model.specs.UnitTyping.{typed_parameters}
use Rattle.c_scopes.specs.Sights.{plain_sight}
use Rattle.c_scopes.proofs.InPlace.{Unvisited}
use Rattle.c_scopes.proofs.Lists.{behind_parts}
use Rattle.c_function_rules.proofs.parameter.type_each.Given as goal

abbrev pub invariant-loop-i : goal.invariant-loop-i
invariant-loop-i l = record {
  unvisited : Unvisited l.params.items l.initial.params.items l.i;
  within : l.i ≤ length l.params.items;
  typed : typed_parameters (plain_sight l.initial.sight) l.defined (map plain_decl l.initial.params.items)
      ≡ behind_parts (map plain_decl (take l.i l.params.items)) (typed_parameters (plain_sight l.sight) l.defined (map plain_decl (drop l.i l.initial.params.items)));
  sight : plain_sight l.sight ≡ with_parameters (plain_sight l.initial.sight) (map plain_decl (take l.i l.params.items));
}
