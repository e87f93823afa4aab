-- Ours: what is kept of the cases before one (C99 6.8.4.2).
use Rattle.std.specs.Prelude.{ℤ, Bool}
use Rattle.std.specs.Ordering.{int_cmp}
use Rattle.std.specs.BTreeSet.{contains}
use Rattle.c_function_rules.specs.declared.switch.Passed.{Passed}

-- whether a case before has the value
abbrev pub holds : Passed → ℤ → Bool
holds p z = contains int_cmp p.values z
