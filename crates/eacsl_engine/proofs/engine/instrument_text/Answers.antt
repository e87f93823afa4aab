use Rattle.std.proofs.Common.{refl, inl}
use Rattle.eacsl_engine.proofs.engine.instrument_text.Goals as goal

pub returns-in-Ok : goal.returns-in-Ok
returns-in-Ok g c = c.written.ensures c.args.text.now c.in-Ok.ensures.translated

pub returns-in-Err-Refused : goal.returns-in-Err-Refused
returns-in-Err-Refused g c = (rw c.in-Err-Refused.field-0-is at c.in-Err-Refused.ensures, refl)

pub returns-in-Err-Memory : goal.returns-in-Err-Memory
returns-in-Err-Memory g c = inl refl
