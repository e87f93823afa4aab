-- Objects that are assigned to, and effects from their parts.
use Rattle.std.specs.Prelude.{ℕ, if◌then◌else◌, Option, Some, None}
use Rattle.c_syntax.specs.declared.expression.Expr.{Expr}
use Rattle.c_syntax.specs.declared.expression.BinOp.{BinOp}
use Rattle.c_syntax.specs.declared.expression.BumpOp.{BumpOp}
use Rattle.c_syntax.specs.declared.types.CType.{CType}
use Rattle.c_syntax.specs.Ctypes.{plain_type}
use Rattle.c_syntax.specs.Expressions.{Expression, Node, Assign, Bump, plain_expr}
use Rattle.mon_syntax.specs.Registers.{Names}
use Rattle.c_effects.specs.Effects.{is_direct, variable_register}
use Rattle.c_effects.specs.Named.{unit_of}

-- the register that points to the block of a variable of a function
abbrev pub direct_register : Names → Expression → Option ℕ
direct_register n e = if is_direct (unit_of n) e then Some (variable_register n.table.bound e) else None

-- effects from their parts, of which this is the type of what is assigned to
abbrev pub assign_of : Option BinOp → CType → Expr → Expr → Expression
assign_of op t a b = Node a.place (plain_type t) (Assign op (plain_expr a) (plain_expr b))

abbrev pub bump_of : BumpOp → CType → Expr → Expression
bump_of op t a = Node a.place (plain_type t) (Bump op (plain_expr a))
