-- What is done to scalars in order, each at its offset in an object.
use Rattle.std.specs.Prelude.{ℕ, ◌+◌, List, [], ◌∷◌}
use Rattle.c_syntax.specs.Layouts.{Scalar, IntegerType, PointerType, scalar_size}
use Rattle.mon_syntax.specs.Trees.{MonStatements, NoStatement}
use Rattle.c_effects.specs.declared.scalars.ScalarType.{ScalarType}
use Rattle.c_effects.specs.declared.scalars.ScalarType.TheVariants.{Integer, Pointer}
use Rattle.c_effects.specs.declared.scalars.Task.{Task}
use Rattle.c_effects.specs.declared.scalars.Task.TheVariants.{Zero, Copy}
use Rattle.c_effects.specs.declared.slot.Slot.{Slot}
use Rattle.c_effects.specs.declared.zeros.Row.{Row}
use Rattle.c_effects.specs.Expressions.{before}
use Rattle.c_effects.specs.Effects.{copies_at}
use Rattle.c_effects.specs.Zeros.{row_stored, row_with}

abbrev pub plain_scalar : ScalarType → Scalar
plain_scalar (Integer k) = IntegerType k
plain_scalar Pointer = PointerType

-- the row of zero bytes after these scalars, and what is stored before that
abbrev pub row_after : Slot → Row → List (ℕ × Scalar) → Row
row_after s row [] = row
row_after s row (c ∷ cs) = row_after s (row_with row (s.offset + c.0) (scalar_size c.1)) cs

abbrev pub rows_stored : Slot → Row → List (ℕ × Scalar) → MonStatements
rows_stored s row [] = NoStatement
rows_stored s row (c ∷ cs) = before (row_stored s row (s.offset + c.0)) (rows_stored s (row_with row (s.offset + c.0) (scalar_size c.1)) cs)

-- what is done to scalars, and the task after them
abbrev pub done_to : Task → List (ℕ × Scalar) → MonStatements
done_to (Zero s row) cs = rows_stored s row cs
done_to (Copy a b) cs = copies_at a.object a.offset b.object b.offset cs

abbrev pub task_after : Task → List (ℕ × Scalar) → Task
task_after (Zero s row) cs = Zero s (row_after s row cs)
task_after (Copy a b) cs = Copy a b

-- the row that a task leaves; a copy leaves the one that is given
abbrev pub row_of : Row → Task → Row
row_of row (Zero s after) = after
row_of row (Copy a b) = row
