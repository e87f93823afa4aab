use Rattle.std.proofs.Common.{◌+◌, ◌≤◌, ◌⊎◌, inl, inr, ⊎_elim, length, ◌∙◌, arith}
use Rattle.shadow_segments.specs.Words.{pair_at}
use Rattle.shadow_segments.proofs.Pairs.{count_is, words_same, filled_run}
use Rattle.shadow_segments.proofs.words.Words.begin_run.Goals as goal

pub written_to-from-requires-clause-inside : goal.written_to-from-requires-clause-inside
written_to-from-requires-clause-inside c =
    let room : c.args.first + c.args.count ≤ c.self.inside.len = omega (arith, c.requires, (count_is _ _ _ c.self.view_is).0) in
    let inside : c.end_besides-besides.result ≤ c.self.inside.len = ⊎_elim (λ a. omega (arith, a, room)) (λ b. omega (arith, b, c.self.invariant)) c.end_besides-besides.ensures.inside in
    (omega (arith, c.self.invariant, c.self.inside.units.ok.0), omega (arith, c.self.invariant, c.self.inside.units.ok.0), omega (arith, c.self.invariant), inside)

pub invariant_of-self : goal.invariant_of-self
invariant_of-self c =
    let room : c.args.first + c.args.count ≤ c.self.inside.len = omega (arith, c.requires, (count_is _ _ _ c.self.view_is).0) in
    let least : c.args.first ≤ length c.written_to-from.new.units.items =
    ⊎_elim (λ a. omega (arith, a, c.written_to-from.ensures.to, c.written_to-from.new.units.ok.0)) (λ b. omega (arith, b, c.written_to-from.ensures.to, c.written_to-from.new.units.ok.0)) c.end_besides-besides.ensures.least in
    (least, omega (arith, c.written_to-from.ensures.inside, c.written_to-from.new.units.ok.0), c.written_to-from.ensures.room, room, c.self.invariant.4)

pub returns : goal.returns
returns c =
    let written = c.written_to-from in
    let still =
    words_same c.self.inside.len (pair_at c.self.inside.units.items c.self.inside.from c.self.inside.to c.self.inside.run)
    (pair_at written.new.units.items written.result c.self.inside.to c.self.inside.run) written.ensures.same ∙ c.self.view_is in
    let least : c.args.first ≤ written.result = ⊎_elim (λ a. omega (arith, a, written.ensures.to)) (λ b. omega (arith, b, written.ensures.to)) c.end_besides-besides.ensures.least in
    let besides : (c.self.inside.to ≤ c.args.first + c.args.count) ⊎ (c.self.inside.to ≤ written.result) = ⊎_elim (λ a. inl a) (λ b. inr (omega (arith, b, written.ensures.to))) c.end_besides-besides.ensures.besides in
    filled_run c.self.inside.len written.result c.self.inside.to written.new.units.items c.self.inside.run _ still c.args.first c.args.count c.args.pair least besides c.requires
