use Rattle.std.proofs.Common.{◌≡◌, ◌≤◌, ◌++◌, drop, length, map, take}
use Rattle.c_syntax.specs.Programs.{plain_layout}
use Rattle.c_model.specs.UnitTyping.{struct_items, unknown}
use Rattle.c_scopes.proofs.InPlace.{Unvisited}
use Rattle.c_typing.specs.Files.{bare, plain_file_item}
use Rattle.c_typing.proofs.order.take_structs.Given as goal

abbrev pub invariant-loop-k : goal.invariant-loop-k
invariant-loop-k l = record {
  unvisited : Unvisited l.structs.items l.initial.structs.items l.k;
  within : l.k ≤ length l.structs.items;
  items : map plain_file_item l.items.items ++ map bare (struct_items l.k (map plain_layout (drop l.k l.initial.structs.items)))
      ≡ map plain_file_item l.initial.items.items ++ map bare (struct_items 0 (map plain_layout l.initial.structs.items));
  left : map plain_layout (take l.k l.structs.items) ≡ map unknown (map plain_layout (take l.k l.initial.structs.items));
}
