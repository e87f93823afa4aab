use Rattle.shadow_segments.proofs.Pairs.{put_both}
use Rattle.shadow_segments.proofs.words.Words.set_both.Goals as goal

pub returns-then-unit-self : goal.returns-then-unit-self
returns-then-unit-self c =
    put_both c.self.inside.len c.self.inside.from c.self.inside.to c.self.inside.units.items c.self.inside.run _ c.self.view_is
    c.args.unit (record { state = c.args.state; place = c.args.place }) c.if-unit-self.true c.self.invariant.0 c.requires
