use Rattle.std.proofs.Common.{length, nat_eq}
use Rattle.indexmap.specs.IndexMap.{get}
use Rattle.c_syntax.specs.Programs.{plain_program}
use Rattle.c_model.specs.ObjectsLeft.{objects_left}
use Rattle.c_model.specs.StaticObjects.{static_objects}
use Rattle.mon_syntax.specs.ObjectIndices.{TellGlobals, TellLiterals, TellWhich}
use Rattle.mon_syntax.proofs.object_indices.indices_of.Given as goal

abbrev pub invariant-turn : goal.invariant-turn
invariant-turn l = record {
  globals : TellGlobals (get nat_eq l.indices.globals) l.indices.count (objects_left l.left) (static_objects (plain_program l.program));
  which : TellWhich (get nat_eq l.indices.globals) (objects_left l.left) (static_objects (plain_program l.program));
  literals : TellLiterals l.indices.literals.items l.indices.count (objects_left l.left) (static_objects (plain_program l.program));
}

abbrev pub decreases-turn : goal.decreases-turn
decreases-turn l = length (objects_left l.left)
