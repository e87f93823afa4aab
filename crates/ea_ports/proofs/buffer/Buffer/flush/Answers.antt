use Rattle.std.proofs.Common.{sym, ◌∙◌}
use Rattle.std.proofs.lemmas.List.{append-nil}
use Rattle.ea_ports.proofs.Buffered.{put_all}
use Rattle.ea_ports.proofs.buffer.Buffer.flush.Goals as goal

pub returns-clause-written : goal.returns-clause-written
returns-clause-written g c =
    put_all _ _ _ _ _ _ _ _ (c.self.view_is ∙ sym (append-nil _)) c.put.ensures.bytes c.put.ensures.count
