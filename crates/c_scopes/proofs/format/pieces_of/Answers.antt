use Rattle.std.proofs.Common.{rules, length, arith, ◌<◌}
use Rattle.c_scopes.proofs.FormatParts.{all_parts}
use Rattle.c_scopes.proofs.format.pieces_of.Goals as goal

pub returns : goal.returns
returns c =
    let short : length c.turn.rest.now < 1 = omega (arith, c.in_default.len_below) in
    all_parts _ _ c.turn.text.items c.turn.rest.now _ short (search rules) c.turn.invariant
