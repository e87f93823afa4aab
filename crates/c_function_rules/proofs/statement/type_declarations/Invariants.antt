use Rattle.std.proofs.Common.{◌≡◌, ◌≤◌, drop, length, map, take}
use Rattle.c_syntax.specs.Statements.{plain_decl}
use Rattle.c_model.specs.ExpressionTyping.{with_objects}
use Rattle.c_model.specs.StatementTyping.{typed_declarations}
use Rattle.c_scopes.specs.Sights.{plain_sight}
use Rattle.c_scopes.proofs.InPlace.{Unvisited}
use Rattle.c_scopes.proofs.Lists.{behind_parts}
use Rattle.c_function_rules.proofs.statement.type_declarations.Given as goal

abbrev pub invariant-loop-i : goal.invariant-loop-i
invariant-loop-i l = record {
  unvisited : Unvisited l.list.items l.initial.list.items l.i;
  within : l.i ≤ length l.list.items;
  typed : typed_declarations (plain_sight l.initial.sight) (map plain_decl l.initial.list.items) ≡ behind_parts (map plain_decl (take l.i l.list.items)) (typed_declarations (plain_sight l.sight) (map plain_decl (drop l.i l.initial.list.items)));
  sight : plain_sight l.sight ≡ with_objects (plain_sight l.initial.sight) (map plain_decl (take l.i l.list.items));
}
