use Rattle.std.proofs.Common.{◌≡◌, ◌++◌, length, map}
use Rattle.c_syntax.specs.Programs.{plain_member}
use Rattle.c_model.specs.UnitTyping.{member_items}
use Rattle.c_typing.specs.Files.{plain_file_item}
use Rattle.c_typing.proofs.order.add_members.Given as goal

abbrev pub invariant-loop-m : goal.invariant-loop-m
invariant-loop-m l =
    (l.left ≡ length l.m-iterator.rest.items)
    × (map plain_file_item l.items.items ++ member_items l.k (map plain_member l.m-iterator.rest.items) ≡ map plain_file_item l.initial.items.items ++ member_items l.k (map plain_member l.fn.members.items))
