use Rattle.std.proofs.Common.{◌≡◌, ◌++◌, map, drop}
use Rattle.c_syntax.specs.Ctypes.{plain_type}
use Rattle.c_syntax.specs.Statements.{Declaration, plain_decl}
use Rattle.c_function_rules.proofs.heading.types_of.Given as goal

abbrev pub invariant-loop-d : goal.invariant-loop-d
invariant-loop-d l = map plain_type l.types.items ++ map (λ (d : Declaration). d.ctype) (map plain_decl (drop l.d-index l.params)) ≡ map (λ (d : Declaration). d.ctype) (map plain_decl l.params)
