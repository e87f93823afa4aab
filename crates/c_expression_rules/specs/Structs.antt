-- Ours: the limits on a type as the code has them (C99 5.2.4.1).
use Rattle.std.specs.Prelude.{cond, Result, Ok, Err}
use Rattle.c_syntax.specs.RefusalCodes.{limit_code}
use Rattle.c_syntax.specs.Ctypes.{PlainType}
use Rattle.c_syntax.specs.declared.place.Place.{Place}
use Rattle.c_model.specs.Checked.{Checked, Good, where_so}
use Rattle.c_model.specs.ExpressionTyping.{Sight, is_within_limits, too_large}
use Rattle.c_scopes.specs.declared.fault.TypeFault.{TypeFault}
use Rattle.c_scopes.specs.declared.fault.TypeFault.TheVariants.{Refused}

-- a type that passes no limit
abbrev pub within_limits : Sight → Place → PlainType → Checked (Unit {0})
within_limits s at t = where_so (is_within_limits s t) (too_large at) (Good tt)

-- the same as an answer, for which no memory is wanted
abbrev pub limit_answer : Sight → Place → PlainType → Result (Unit {0}) TypeFault
limit_answer s at t = cond (is_within_limits s t) (Ok tt) (Err (Refused (record { code = limit_code; place = at })))
