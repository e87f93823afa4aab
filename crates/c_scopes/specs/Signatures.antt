-- Ours: the plain form of what a call asks of a function (C99 6.5.2.2).
-- What functions tell their callers, and their names.
use Rattle.std.specs.Prelude.{ℕ, map}
use Rattle.c_syntax.specs.Ctypes.{plain_type}
use Rattle.c_model.specs.ExpressionTyping as plain
use Rattle.c_scopes.specs.declared.signature.Signature.{Signature}

abbrev pub plain_signature : Signature → plain.Signature
plain_signature f = record { name = f.name; decl = f.decl; defined = f.defined; params = map plain_type f.params.items; result = plain_type f.result }

abbrev pub name_of_function : Signature → ℕ
name_of_function f = f.name
