use Rattle.std.proofs.Common.{◌≡◌, length, map}
use Rattle.c_syntax.specs.Ctypes.{plain_type}
use Rattle.c_syntax.specs.Statements.{plain_decl}
use Rattle.c_model.specs.UnitTyping.{same_types, types_of}
use Rattle.c_function_rules.proofs.heading.same_types.Given as goal

abbrev pub invariant-turn : goal.invariant-turn
invariant-turn l = same_types (map plain_type l.left) (types_of (map plain_decl l.right)) ≡ same_types (map plain_type l.types) (types_of (map plain_decl l.params))

abbrev pub decreases-turn : goal.decreases-turn
decreases-turn l = length l.left
