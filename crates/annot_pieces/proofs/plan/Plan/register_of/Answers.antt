use Rattle.std.proofs.Common.{◌≡◌, ◌∙◌, ap, nat_eq, rules, sym}
use Rattle.indexmap.specs.IndexMap.{get}
use Rattle.annot_simulation.specs.Held.{kept_at}
use Rattle.annot_pieces.specs.Tables.{plain_plan, register_in}
use Rattle.annot_pieces.proofs.Stored.{place_is}
use Rattle.annot_pieces.proofs.plan.Plan.register_of.Goals as goal

pub returns : goal.returns
returns c =
    let self = c.args.self.now in
    let t = c.args.t.now in
    let there : c.copied.result ≡ get nat_eq self.registers t.place.offset = search rules in
    there ∙ self.found t.place.offset ∙ ap (λ p. register_in (kept_at p.offset (plain_plan self.kept.now))) (sym (place_is t))
