use Rattle.std.proofs.Common.{◌≡◌, drop, map}
use Rattle.c_syntax.specs.Programs.{plain_func}
use Rattle.c_model.specs.QuantifierGuards.{first_place}
use Rattle.c_model.specs.UnguardedPrograms.{unguarded_in_functions}
use Rattle.quantifier_guards.proofs.program.unguarded_in_unit.Given as goal

abbrev pub invariant-functions : goal.invariant-functions
invariant-functions l = first_place l.found (unguarded_in_functions (map plain_func (drop l.f-index l.p.funcs.items))) ≡ unguarded_in_functions (map plain_func l.p.funcs.items)
