use Rattle.std.proofs.Common.{◌/◌, None, length, get_or, ap, ◌∙◌}
use Rattle.flat_mem.proofs.Lengths.{length-cleared, region_kept}
use Rattle.flat_mem.proofs.region.Region.death.Goals as goal

pub invariant_of-self : goal.invariant_of-self
invariant_of-self c =
    region_kept c.self.inside.bytes c.self.inside.shadow c.clear.new.self (ap (λ s. length s.notes) c.clear.ensures ∙ length-cleared c.self.inside.shadow (get_or c.self.inside.shadow.notes (c.args.base / 16) None)) c.self.invariant
