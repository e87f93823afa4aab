-- Ours: how the printer finds a name by its number.
-- The names in a printed statement: of the functions and the globals of its program, and of the registers of its own.
use Rattle.std.specs.Prelude.{List, [], ◌++◌, map}
use Rattle.mon_syntax.specs.declared.tree.MonFunc.{MonFunc}
use Rattle.mon_syntax.specs.Trees.{MonFunction, plain_func, plain_global, plain_register}
use Rattle.mon_syntax.specs.Text.{FunctionNames, InSight}
use Rattle.c_printer.specs.declared.expression.Named.{Named}

-- the parameters come first
abbrev pub in_sight : Named → InSight
in_sight named = record { registers = map plain_register (named.parameters.now ++ named.registers.now); globals = map plain_global named.globals.now }

-- of what names nothing
abbrev pub no_names : InSight
no_names = record { registers = []; globals = [] }

abbrev pub names_of : List MonFunc → FunctionNames
names_of fs = map (λ (f : MonFunction). f.name) (map plain_func fs)

abbrev pub functions_of : Named → FunctionNames
functions_of named = names_of named.functions.now
