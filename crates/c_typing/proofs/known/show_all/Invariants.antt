use Rattle.std.proofs.Common.{◌≡◌, ◌≤◌, ◌++◌, drop, length, map, take}
use Rattle.c_syntax.specs.Programs.{plain_layout}
use Rattle.c_scopes.proofs.InPlace.{Unvisited}
use Rattle.c_typing.specs.KnownStructs.{with_sizes}
use Rattle.c_typing.proofs.known.show_all.Given as goal

abbrev pub invariant-loop-k : goal.invariant-loop-k
invariant-loop-k l = record {
  unvisited : Unvisited l.structs.items l.initial.structs.items l.k;
  within : l.k ≤ length l.structs.items;
  shown : map plain_layout (take l.k l.structs.items) ++ with_sizes l.rest (map plain_layout (drop l.k l.initial.structs.items)) ≡ with_sizes l.sizes (map plain_layout l.initial.structs.items);
}
