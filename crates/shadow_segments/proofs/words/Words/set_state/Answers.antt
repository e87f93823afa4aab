use Rattle.shadow_segments.proofs.Pairs.{put_state}
use Rattle.shadow_segments.proofs.words.Words.set_state.Goals as goal

pub returns-then-unit-self : goal.returns-then-unit-self
returns-then-unit-self c =
    put_state c.self.inside.len c.self.inside.from c.self.inside.to c.self.inside.units.items c.self.inside.run _ c.self.view_is
    c.args.unit c.args.value c.index_mut.result.now c.if-unit-self.true c.self.invariant.0 c.requires c.index_mut.ensures.value
