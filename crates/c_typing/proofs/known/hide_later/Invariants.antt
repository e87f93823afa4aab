use Rattle.std.proofs.Common.{◌≡◌, ◌≤◌, length, map, take}
use Rattle.c_syntax.specs.Programs.{plain_layout}
use Rattle.c_model.specs.AnnotationTyping.{known_before}
use Rattle.c_scopes.proofs.InPlace.{Unvisited}
use Rattle.c_typing.specs.KnownStructs.{sizes_of}
use Rattle.c_typing.proofs.known.hide_later.Given as goal

abbrev pub invariant-loop-k : goal.invariant-loop-k
invariant-loop-k l = record {
  unvisited : Unvisited l.structs.items l.initial.structs.items l.k;
  within : l.k ≤ length l.structs.items;
  hidden : map plain_layout (take l.k l.structs.items) ≡ map (known_before l.at) (map plain_layout (take l.k l.initial.structs.items));
  sizes : l.sizes.items ≡ sizes_of (take l.k l.initial.structs.items);
}
