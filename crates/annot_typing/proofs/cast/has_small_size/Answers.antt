use Rattle.std.proofs.Common.{sym}
use Rattle.c_syntax.specs.Ctypes.{plain_type}
use Rattle.c_scopes.specs.Sights.{plain_sight}
use Rattle.c_scopes.proofs.Least.{both_made}
use Rattle.c_expression_rules.specs.Operators.{has_size}
use Rattle.c_expression_rules.specs.Structs.{within_limits}
use Rattle.annot_typing.proofs.cast.has_small_size.Goals as goal

pub returns : goal.returns
returns c =
    let s = plain_sight c.args.sight.now in
    let t = plain_type c.args.u.now in
    both_made (λ (u v : Unit {0}). u) (λ (u : Unit {0}). u) (λ (u : Unit {0}). u) (has_size s c.args.place t) (within_limits s c.args.place t) c.has_size.result c.within_limits.result c.both.result
    c.has_size.ensures.checked c.within_limits.ensures.checked (sym c.both.ensures.is)
