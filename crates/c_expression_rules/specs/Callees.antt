-- Ours: callees as the code finds them (C99 6.5.2.2).
use Rattle.std.specs.Prelude.{ℕ, List, [], map, not, codes, bytes_eq, Some, None, Result, Ok, Err}
use Rattle.c_syntax.specs.declared.place.Place.{Place}
use Rattle.c_syntax.specs.Ctypes.{PlainType, plain_type}
use Rattle.c_model.specs.Checked.{Checked, Good, where_so}
use Rattle.c_model.specs.ExpressionTyping as plain
use Rattle.c_scopes.specs.declared.fault.TypeFault.{TypeFault}
use Rattle.c_scopes.specs.declared.signature.Signature.{Signature}

-- the parameters' types of a callee, and none where it has a fault
abbrev pub known_params : Result Signature TypeFault → List PlainType
known_params (Ok f) = map plain_type f.params.items
known_params (Err e) = []

-- a function that is called, where the file defines it and it isn't `main`
abbrev pub callable : Place → List ℕ → plain.Signature → Checked plain.Signature
callable at w f = where_so f.defined (plain.no_name at) (where_so (not (bytes_eq w (codes "main"))) (plain.no_type at) (Good f))

-- a name that is called and that the file doesn't declare
abbrev pub library_callee : plain.Sight → Place → ℕ → Checked plain.Signature
library_callee s at x = elim (plain.library_function x (plain.name_at s.names x)) [
  | None ↦ plain.no_function s at x
  | Some f ↦ callable at (plain.name_at s.names x) f
]
