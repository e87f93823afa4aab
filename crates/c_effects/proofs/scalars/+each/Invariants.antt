use Rattle.std.proofs.Common.{◌≡◌, ◌+◌, ◌*◌, drop, map}
use Rattle.c_syntax.specs.declared.types.CType.{size-CType}
use Rattle.c_syntax.specs.Ctypes.{plain_type}
use Rattle.c_syntax.specs.Programs.{plain_layout, plain_member}
use Rattle.c_syntax.specs.Layouts.{in_each, in_members, scalars_from}
use Rattle.mon_syntax.specs.Trees.{plain_stmts}
use Rattle.c_effects.specs.Expressions.{before}
use Rattle.c_effects.specs.Scalars.{done_to, task_after}
use Rattle.c_effects.proofs.Depths.{deepest, deepest_member}
use Rattle.c_effects.proofs.scalars.+each.Given as goal

abbrev pub decreases-each_scalar : goal.decreases-each_scalar
decreases-each_scalar l = 4 * (l.structs.deep * deepest l.structs.layouts.now + size-CType l.t.now) + 2

abbrev pub decreases-each_in_elements : goal.decreases-each_in_elements
decreases-each_in_elements l = 4 * (l.structs.deep * deepest l.structs.layouts.now + size-CType l.t.now) + 3

abbrev pub decreases-each_in_struct : goal.decreases-each_in_struct
decreases-each_in_struct l = 4 * (l.structs.deep * deepest l.structs.layouts.now) + 1

abbrev pub decreases-each_in_members : goal.decreases-each_in_members
decreases-each_in_members l = 4 * (l.structs.deep * deepest l.structs.layouts.now + deepest_member l.members.now) + 3

abbrev pub invariant-each_in_elements-elements : goal.invariant-each_in_elements-elements
invariant-each_in_elements-elements l = record {
  code : before (plain_stmts l.to.items) (done_to l.next (in_each l.at l.size l.left (scalars_from (map plain_layout l.structs.layouts.now) l.structs.deep (plain_type l.t)))) ≡
      before (plain_stmts l.initial.to.items) (done_to l.initial.next (in_each l.distance l.size l.count (scalars_from (map plain_layout l.structs.layouts.now) l.structs.deep (plain_type l.t))));
  task : task_after l.next (in_each l.at l.size l.left (scalars_from (map plain_layout l.structs.layouts.now) l.structs.deep (plain_type l.t))) ≡
      task_after l.initial.next (in_each l.distance l.size l.count (scalars_from (map plain_layout l.structs.layouts.now) l.structs.deep (plain_type l.t)));
}

abbrev pub decreases-each_in_elements-elements : goal.decreases-each_in_elements-elements
decreases-each_in_elements-elements l = l.left

abbrev pub invariant-each_in_members-members : goal.invariant-each_in_members-members
invariant-each_in_members-members l = record {
  code : before (plain_stmts l.to.items) (done_to l.next (in_members (map plain_member (drop l.m-index l.members)) l.distance (scalars_from (map plain_layout l.structs.layouts.now) l.structs.deep))) ≡
      before (plain_stmts l.initial.to.items) (done_to l.initial.next (in_members (map plain_member l.members) l.distance (scalars_from (map plain_layout l.structs.layouts.now) l.structs.deep)));
  task : task_after l.next (in_members (map plain_member (drop l.m-index l.members)) l.distance (scalars_from (map plain_layout l.structs.layouts.now) l.structs.deep)) ≡
      task_after l.initial.next (in_members (map plain_member l.members) l.distance (scalars_from (map plain_layout l.structs.layouts.now) l.structs.deep));
}
