use Rattle.std.proofs.Common.{ℕ, length, ap, arith}
use Rattle.std.proofs.lemmas.List.{length-replicate}
use Rattle.eacsl_tests.proofs.runtime.a_literal_is_read_and_copied.Goals as goal

pub begin-requires-clause-room : goal.begin-requires-clause-room
begin-requires-clause-room g c =
    let made = rw c.made-memory.ensures at c.new.ensures in
    let long = ap (λ m. length m.globals.bytes) made in
    let placed = ap (λ m. m.placed) made in
    omega (arith, long, placed, c.small.ensures.globals, length-replicate {A = ℕ} c.small.result.globals 0)
