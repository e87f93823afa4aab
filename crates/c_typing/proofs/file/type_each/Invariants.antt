use Rattle.std.proofs.Common.{◌≡◌, ◌≤◌, drop, length, map, nat_eq, take}
use Rattle.indexmap.specs.IndexMap.{get}
use Rattle.c_scopes.specs.Sights.{plain_sight}
use Rattle.c_scopes.proofs.InPlace.{Unvisited}
use Rattle.c_declaration_rules.specs.OpenStructs.{IsOpen}
use Rattle.c_typing.specs.Files.{all_kept, items_in_turn, plain_course, plain_file_item}
use Rattle.c_typing.proofs.Turns.{behind_kept}
use Rattle.c_typing.proofs.file.type_each.Given as goal

abbrev pub invariant-loop-i : goal.invariant-loop-i
invariant-loop-i l = record {
  unvisited : Unvisited l.items.items l.initial.items.items l.i;
  within : l.i ≤ length l.items.items;
  typed : items_in_turn (get nat_eq l.numbers) (plain_course l.initial.course) (map plain_file_item l.initial.items.items)
      ≡ behind_kept (all_kept (map plain_file_item (take l.i l.items.items))) (items_in_turn (get nat_eq l.numbers) (plain_course l.course) (map plain_file_item (drop l.i l.initial.items.items)));
  begun : IsOpen (plain_sight l.course.sight).structs l.begun;
}
