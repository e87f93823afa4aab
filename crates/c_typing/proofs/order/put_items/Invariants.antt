use Rattle.std.proofs.Common.{◌≡◌, map}
use Rattle.c_syntax.specs.Programs.{plain_program}
use Rattle.c_typing.specs.Files.{plain_file_item, with_items}
use Rattle.c_typing.proofs.order.put_items.Given as goal

abbrev pub invariant-loop-item : goal.invariant-loop-item
invariant-loop-item l = with_items (plain_program l.program) (map plain_file_item l.item-iterator.rest.items) ≡ with_items (plain_program l.initial.program) (map plain_file_item l.fn.items.items)
