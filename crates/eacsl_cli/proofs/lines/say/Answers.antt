use Rattle.std.proofs.Common.{refl}
use Rattle.eacsl_cli.specs.Answers.{Failed, Wanting}
use Rattle.eacsl_cli.proofs.lines.say.Goals as goal

pub returns-in-Err-Failed : goal.returns-in-Err-Failed
returns-in-Err-Failed g c =
    let h = c.in-Err-Failed.ensures.bytes in
    Failed h.0 refl h.1 (rw c.in-Err-Failed.field-0-is at c.in-Err-Failed.ensures.count)

pub returns-in-Err-Memory : goal.returns-in-Err-Memory
returns-in-Err-Memory g c =
    let h = c.in-Err-Memory.ensures.bytes in
    Wanting h.0 refl h.1 (rw c.in-Err-Memory.field-0-is at c.in-Err-Memory.ensures.count)
