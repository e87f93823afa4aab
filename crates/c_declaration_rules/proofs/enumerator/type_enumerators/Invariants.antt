use Rattle.std.proofs.Common.{◌≡◌, ◌≤◌, drop, length, map, pos, take}
use Rattle.c_syntax.specs.Programs.{plain_enumerator}
use Rattle.c_model.specs.DeclarationTyping.{typed_enumerators}
use Rattle.c_scopes.specs.Sights.{plain_sight}
use Rattle.c_scopes.proofs.InPlace.{Unvisited}
use Rattle.c_declaration_rules.specs.Enumerators.{behind_enumerators}
use Rattle.c_declaration_rules.proofs.enumerator.type_enumerators.Given as goal

abbrev pub invariant-loop-i : goal.invariant-loop-i
invariant-loop-i l = record {
  unvisited : Unvisited l.items.items l.initial.items.items l.i;
  within : l.i ≤ length l.items.items;
  typed : typed_enumerators (plain_sight l.initial.sight) (pos 0) (map plain_enumerator l.initial.items.items)
      ≡ behind_enumerators (map plain_enumerator (take l.i l.items.items)) (typed_enumerators (plain_sight l.sight) l.next (map plain_enumerator (drop l.i l.initial.items.items)));
}
