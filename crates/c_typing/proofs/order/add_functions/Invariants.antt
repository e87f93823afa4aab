use Rattle.std.proofs.Common.{◌≡◌, ◌++◌, map}
use Rattle.c_syntax.specs.Programs.{plain_func}
use Rattle.c_model.specs.UnitTyping.{AFunction}
use Rattle.c_typing.specs.Files.{plain_file_item}
use Rattle.c_typing.proofs.order.add_functions.Given as goal

abbrev pub invariant-loop-one : goal.invariant-loop-one
invariant-loop-one l = map plain_file_item l.items.items ++ map AFunction (map plain_func l.one-iterator.rest.items) ≡ map plain_file_item l.initial.items.items ++ map AFunction (map plain_func l.fn.list.items)
