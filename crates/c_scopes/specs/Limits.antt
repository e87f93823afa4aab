-- Ours: sizes as the code has them, where they are within the limit (C99 5.2.4.1).
use Rattle.std.specs.Prelude.{ℕ, nat_le, cond, Option, Some, None}
use Rattle.c_model.specs.ExpressionTyping as plain
use Rattle.c_model.specs.ExpressionTyping.{most_bytes}
use Rattle.c_scopes.specs.declared.limits.KnownSize.{KnownSize}
use Rattle.c_scopes.specs.declared.limits.KnownSize.TheVariants as code

abbrev pub plain_sized : KnownSize → plain.Sized
plain_sized code.HasSize = plain.HasSize
plain_sized code.HasNoSize = plain.HasNoSize
plain_sized code.NotYet = plain.NotYet

-- a size within the limit
abbrev pub small : ℕ → Option ℕ
small n = cond (nat_le n most_bytes) (Some n) None
