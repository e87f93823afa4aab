use Rattle.std.proofs.Common.{◌≡◌, ◌++◌, map}
use Rattle.c_syntax.specs.Programs.{plain_enum}
use Rattle.c_model.specs.UnitTyping.{AnEnum}
use Rattle.c_typing.specs.Files.{plain_file_item}
use Rattle.c_typing.proofs.order.add_enums.Given as goal

abbrev pub invariant-loop-one : goal.invariant-loop-one
invariant-loop-one l = map plain_file_item l.items.items ++ map AnEnum (map plain_enum l.one-iterator.rest.items) ≡ map plain_file_item l.initial.items.items ++ map AnEnum (map plain_enum l.fn.list.items)
