-- Ours: plain forms.
-- Assignments and increments in parts: what is ready to be stored, in which part of which object, after which statements.
use Rattle.std.specs.Prelude.{ℕ, pos, List, ◌∷◌, ◌++◌, [], length, if◌then◌else◌}
use Rattle.c_syntax.specs.declared.expression.BinOp.{BinOp}
use Rattle.c_syntax.specs.declared.expression.BumpOp.{BumpOp}
use Rattle.c_syntax.specs.Ctypes.{PlainType, int_type}
use Rattle.c_syntax.specs.Expressions.{Expression, type_of}
use Rattle.c_syntax.specs.Layouts.{scalars_of}
use Rattle.c_model.specs.Meaning.{bump_operator}
use Rattle.mon_syntax.specs.declared.tree.MonType.{MonType}
use Rattle.mon_syntax.specs.declared.tree.MonType.TheVariants.{I32}
use Rattle.mon_syntax.specs.Registers.{Names}
use Rattle.mon_syntax.specs.Trees.{MonExpression, MonStatements, NoStatement, Register, Constant}
use Rattle.c_effects.specs.Expressions.{before, compound, value_type}
use Rattle.c_effects.specs.Effects.{copies_at, current}
use Rattle.c_effects.specs.Full.{inner_offset, is_pure, member_type, object_takes, old_setup, part_of, reached, takes}
use Rattle.c_evaluation.specs.Evaluated.{object_by, object_setup_by, prepare_by, result_by}
use Rattle.c_effects.specs.Named.{unit_of, with_registers}

-- ---- the member is reached after the right side

abbrev pub right_member : Names → Expression → Expression → ℕ
right_member n a b = length (n.table.kinds ++ object_takes (unit_of n) a ++ takes (unit_of n) b)

abbrev pub right_part : Names → Expression → Expression → ℕ
right_part n a b = part_of (unit_of n) n.table.bound n.table.kinds (right_member n a b) a

abbrev pub right_new : Names → Expression → Expression → MonExpression
right_new n a b = result_by (with_registers (object_takes (unit_of n) a) n) b

abbrev pub right_setup : Names → Expression → Expression → MonStatements
right_setup n a b =
    reached (unit_of n).structs (object_setup_by n a) (prepare_by (with_registers (object_takes (unit_of n) a) n) b) (object_by n a) (right_member n a b) a

abbrev pub right_types : Names → Expression → Expression → List MonType
right_types n a b = object_takes (unit_of n) a ++ takes (unit_of n) b ++ member_type a

-- what the operator makes of the old value, which is read then
abbrev pub late_new : Names → BinOp → PlainType → Expression → Expression → MonExpression
late_new n op t a b = compound (unit_of n).structs op t (type_of b) (current (right_part n a b) t) (right_new n a b)

-- ---- the old value is read before it, into a register

abbrev pub old_part : Names → Expression → ℕ
old_part n a = part_of (unit_of n) n.table.bound n.table.kinds (length (n.table.kinds ++ object_takes (unit_of n) a)) a

abbrev pub old_register : Names → Expression → ℕ
old_register n a = length (n.table.kinds ++ object_takes (unit_of n) a ++ member_type a)

abbrev pub old_taken : Names → PlainType → Expression → MonStatements
old_taken n t a = old_setup (unit_of n) n.table.bound n.table.kinds t a (object_setup_by n a)

abbrev pub old_types : Names → PlainType → Expression → List MonType
old_types n t a = object_takes (unit_of n) a ++ member_type a ++ value_type t ∷ []

abbrev pub early_new : Names → BinOp → PlainType → Expression → Expression → MonExpression
early_new n op t a b =
    compound (unit_of n).structs op t (type_of b) (Register (old_register n a)) (result_by (with_registers (old_types n t a) n) b)

abbrev pub early_setup : Names → PlainType → Expression → Expression → MonStatements
early_setup n t a b = before (old_taken n t a) (prepare_by (with_registers (old_types n t a) n) b)

abbrev pub early_types : Names → PlainType → Expression → Expression → List MonType
early_types n t a b = object_takes (unit_of n) a ++ member_type a ++ (value_type t ∷ []) ++ takes (unit_of n) b

-- ---- `op=`, by whether its right side is pure

abbrev pub change_part : Names → Expression → Expression → ℕ
change_part n a b = if is_pure b then right_part n a b else old_part n a

abbrev pub change_new : Names → BinOp → PlainType → Expression → Expression → MonExpression
change_new n op t a b = if is_pure b then late_new n op t a b else early_new n op t a b

abbrev pub change_setup : Names → PlainType → Expression → Expression → MonStatements
change_setup n t a b = if is_pure b then right_setup n a b else early_setup n t a b

abbrev pub change_types : Names → PlainType → Expression → Expression → List MonType
change_types n t a b = if is_pure b then right_types n a b else early_types n t a b

-- ---- `++` and `--`, of which the old value isn't given

abbrev pub bump_new : Names → BumpOp → PlainType → Expression → MonExpression
bump_new n op t a = compound (unit_of n).structs (bump_operator op) t int_type (current (old_part n a) t) (Constant I32 (pos 1))

abbrev pub bump_setup : Names → Expression → MonStatements
bump_setup n a = reached (unit_of n).structs (object_setup_by n a) NoStatement (object_by n a) (length (n.table.kinds ++ object_takes (unit_of n) a)) a

abbrev pub bump_types : Names → Expression → List MonType
bump_types n a = object_takes (unit_of n) a ++ member_type a

-- ---- structs (C99 6.5.16.1)

abbrev pub objects_assigned : Names → PlainType → Expression → Expression → MonStatements
objects_assigned n t a b =
    before (object_setup_by n a) (before (object_setup_by (with_registers (object_takes (unit_of n) a) n) b)
    (copies_at (object_by n a) (inner_offset (unit_of n).structs a) (object_by (with_registers (object_takes (unit_of n) a) n) b)
    (inner_offset (unit_of n).structs b) (scalars_of (unit_of n).structs t)))
