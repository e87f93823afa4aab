use Rattle.std.proofs.Common.{◌≡◌, ◌≤◌, drop, length, map, nat_eq, take}
use Rattle.indexmap.specs.IndexMap.{get}
use Rattle.c_scopes.specs.Sights.{plain_sight}
use Rattle.c_scopes.proofs.InPlace.{Unvisited}
use Rattle.c_typing.specs.Files.{plain_file_item}
use Rattle.c_typing.specs.NotedContracts.{numbers_in}
use Rattle.c_typing.specs.NotedFiles.{all_behind, known_in_turn, notes_in_turn}
use Rattle.c_scopes.proofs.Lists.{behind_parts}
use Rattle.c_typing.proofs.noted_file.note_each.Given as goal

abbrev pub invariant-loop-i : goal.invariant-loop-i
invariant-loop-i l = record {
  unvisited : Unvisited l.items.items l.initial.items.items l.i;
  within : l.i ≤ length l.items.items;
  noted : notes_in_turn (get nat_eq l.numbers) (numbers_in l.definitions) (plain_sight l.initial.sight) (map plain_file_item l.initial.items.items)
      ≡ behind_parts (map plain_file_item (take l.i l.items.items)) (notes_in_turn (get nat_eq l.numbers) (numbers_in l.definitions) (plain_sight l.sight) (map plain_file_item (drop l.i l.initial.items.items)));
  sight : all_behind (get nat_eq l.numbers) (plain_sight l.sight) (map plain_file_item (drop l.i l.initial.items.items))
      ≡ all_behind (get nat_eq l.numbers) (plain_sight l.initial.sight) (map plain_file_item l.initial.items.items);
  known : known_in_turn (get nat_eq l.numbers) (plain_sight l.sight) (map plain_file_item (drop l.i l.initial.items.items));
}
