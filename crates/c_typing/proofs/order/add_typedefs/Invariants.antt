use Rattle.std.proofs.Common.{◌≡◌, ◌++◌, map}
use Rattle.c_syntax.specs.Statements.{plain_decl}
use Rattle.c_model.specs.UnitTyping.{ATypedef}
use Rattle.c_typing.specs.Files.{plain_file_item}
use Rattle.c_typing.proofs.order.add_typedefs.Given as goal

abbrev pub invariant-loop-one : goal.invariant-loop-one
invariant-loop-one l = map plain_file_item l.items.items ++ map ATypedef (map plain_decl l.one-iterator.rest.items) ≡ map plain_file_item l.initial.items.items ++ map ATypedef (map plain_decl l.fn.list.items)
