use Rattle.std.proofs.Common.{◌≡◌, ℕ, None, nat_eq, map, drop}
use Rattle.indexmap.specs.IndexMap.{get}
use Rattle.c_syntax.specs.Programs.{plain_func}
use Rattle.c_function_rules.proofs.Headings.{told_from}
use Rattle.c_function_rules.proofs.heading.denoted.Given as goal

abbrev pub invariant-loop-f : goal.invariant-loop-f
invariant-loop-f l = (x : ℕ) → told_from (get nat_eq l.numbers x) (map plain_func (drop l.f-index l.funcs)) x ≡ told_from None (map plain_func l.funcs) x
