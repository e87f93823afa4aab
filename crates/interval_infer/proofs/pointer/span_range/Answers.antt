use Rattle.std.proofs.Common.{sym}
use Rattle.c_model.specs.Ranges.{IsRange}
use Rattle.ea_num.proofs.Ordered.{difference_range-ordered, sum_range-ordered}
use Rattle.interval_infer.proofs.pointer.span_range.Goals as goal

pub scaled_range-requires : goal.scaled_range-requires
scaled_range-requires c =
    let distance = c.in_ok-distance.distance in
    let ordered : IsRange distance = difference_range-ordered c.args.hi c.args.lo distance c.requires.last c.requires.first (sym c.in_ok-distance.ensures) in
    sum_range-ordered distance c.exactly.result c.in_ok-add.field-0 ordered c.exactly.ensures.ordered (sym c.in_ok-add.ensures)
