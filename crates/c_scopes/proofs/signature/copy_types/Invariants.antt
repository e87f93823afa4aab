use Rattle.std.proofs.Common.{◌≡◌, ◌++◌, map, drop}
use Rattle.c_syntax.specs.Ctypes.{plain_type}
use Rattle.c_scopes.proofs.signature.copy_types.Given as goal

abbrev pub invariant-loop-t : goal.invariant-loop-t
invariant-loop-t l = map plain_type l.copy.items ++ map plain_type (drop l.t-index l.types) ≡ map plain_type l.types
