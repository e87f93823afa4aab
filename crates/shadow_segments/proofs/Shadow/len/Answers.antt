use Rattle.std.proofs.Common.{length, ap, arith}
use Rattle.shadow_segments.proofs.Kept.{length-notes}
use Rattle.shadow_segments.proofs.Marks.{marks_long}
use Rattle.shadow_segments.proofs.Shadow.len.Goals as goal

pub returns-clause-units : goal.returns-clause-units
returns-clause-units c =
    let same = ap (λ s. length s.notes) c.self.view_is in
    omega (arith, same, length-notes c.self.inside.words, c.len.ensures.states)

pub returns-clause-bytes : goal.returns-clause-bytes
returns-clause-bytes c = let long = marks_long _ _ c.self.view_is in omega (arith, long, c.len.ensures.states)
