-- A production fails as a part of it does.
use Rattle.std.proofs.Common.{◌≡◌, Result, Err}
use Rattle.grammar.specs.Syntax.{ParseFault, At, Over}
use Rattle.c_syntax.specs.declared.fault.ReadFault.{ReadFault}
use Rattle.c_syntax.specs.declared.fault.ReadFault.TheVariants as fault
use Rattle.token_reader.specs.Reading.{label, Fails}

pub again : {X Y : Type 0} {r : Result X ParseFault} {s : Result Y ParseFault} (e : ReadFault) → ((d : ParseFault) → r ≡ Err d → s ≡ Err d) → Fails e r → Fails e s
again (fault.At n) f h = f (At n) h
again (fault.Over limit n) f h = f (Over (label limit) n) h
again fault.Memory f h = tt
