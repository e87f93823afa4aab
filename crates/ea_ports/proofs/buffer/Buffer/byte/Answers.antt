use Rattle.std.proofs.Common.{◌≡◌, ◌+◌, ◌++◌, ◌∷◌, [], ap, ◌∙◌, length, arith}
use Rattle.ea_ports.proofs.Buffered.{put_all, last_set}
use Rattle.ea_ports.proofs.buffer.Buffer.byte.Goals as goal

pub returns : goal.returns
returns g c =
    let last : length c.self.inside.room ≡ c.self.inside.count + 1 = omega (arith, c.self.told, c.self.invariant, c.if-self-lt-ROOM.false) in
    put_all _ _ _ _ _ _ _ _ (last_set _ _ _ last ∙ ap (λ l. l ++ c.args.byte ∷ []) c.self.view_is) c.put.ensures.bytes c.put.ensures.count
