use Rattle.std.proofs.Common.{◌/◌, ◌<◌, get_or, None, subst, ◌∙◌, sym, ap, arith}
use Rattle.shadow_segments.specs.Shadow.{IsWhole}
use Rattle.shadow_segments.proofs.Kept.{look_nothing, look_inside, look_some}
use Rattle.shadow_segments.proofs.Shadow.lookup_written.Goals as goal

pub returns-then-number-eq0-clause-value : goal.returns-then-number-eq0-clause-value
returns-then-number-eq0-clause-value g c =
    look_nothing c.self.inside.words _ (c.args.addr / 16) c.in_ok-words.words.state c.self.view_is c.in_ok-words.ensures.state c.if-number-eq0.true

pub returns-clause-value : goal.returns-clause-value
returns-clause-value g c =
    let some : 0 < c.in_ok-words.words.state / 4294967296 = grind (arith, c.if-number-eq0.false) in
    look_some c.self.inside.words _ (c.args.addr / 16) c.in_ok-words.words.state c.in_ok-words.words.place c.unpacked.result c.self.view_is
    (look_inside c.self.inside.words (c.args.addr / 16) c.in_ok-words.words.state c.in_ok-words.ensures.state some) c.in_ok-words.ensures.state c.in_ok-words.ensures.place some c.unpacked.ensures

pub returns-clause-whole : goal.returns-clause-whole
returns-clause-whole g c =
    subst (λ s. IsWhole s.notes (c.args.addr / 16) c.unpacked.result) c.self.view_is (c.self.invariant (c.args.addr / 16) c.unpacked.result (ap (λ s. get_or s.notes (c.args.addr / 16) None) c.self.view_is ∙ sym (returns-clause-value g c)))
