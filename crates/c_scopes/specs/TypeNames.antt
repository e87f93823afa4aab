-- Ours: the plain form of names of types (C99 6.7.7).
use Rattle.std.specs.Prelude.{ℕ}
use Rattle.c_syntax.specs.Ctypes.{plain_type}
use Rattle.c_model.specs.ExpressionTyping as plain
use Rattle.c_scopes.specs.declared.type_name.TypeName.{TypeName}

abbrev pub plain_type_name : TypeName → plain.TypeName
plain_type_name t = record { name = t.name; ctype = plain_type t.ctype }

abbrev pub name_of_type : TypeName → ℕ
name_of_type t = t.name
