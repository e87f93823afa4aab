use Rattle.std.proofs.Common.{length, ap, ◌∙◌}
use Rattle.flat_mem.proofs.Lengths.{length-marked, region_kept}
use Rattle.flat_mem.proofs.region.Region.birth.Goals as goal

pub invariant_of-self : goal.invariant_of-self
invariant_of-self c =
    region_kept c.self.inside.bytes c.self.inside.shadow c.mark.new.self (ap (λ s. length s.notes) c.mark.ensures ∙ length-marked c.self.inside.shadow c.args.note) c.self.invariant
