-- Ours: the limits on a type that is written (C99 5.2.4.1).
use Rattle.c_syntax.specs.declared.place.Place.{Place}
use Rattle.c_syntax.specs.Ctypes.{PlainType}
use Rattle.c_model.specs.Checked.{Checked, Good, one_part, both_parts}
use Rattle.c_model.specs.ExpressionTyping.{Sight, known_type, limited, typed_type}
use Rattle.c_model.specs.PredicateTyping.{Sorted, size_in}
use Rattle.c_expression_rules.specs.Operators.{has_size}
use Rattle.c_expression_rules.specs.Structs.{within_limits}

-- a type that has a size, and that passes no limit
abbrev pub has_small_size : Sight → Place → PlainType → Checked (Unit {0})
has_small_size s at t = both_parts (has_size s at t) (within_limits s at t) (λ u v. Good tt)

-- `sizeof` of a type that is written
abbrev pub written_size : Sight → Place → PlainType → Checked Sorted
written_size s at u = limited s at (known_type s u) (one_part (typed_type s at u) (size_in s at))
