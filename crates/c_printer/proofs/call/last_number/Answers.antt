use Rattle.std.proofs.Common.{ap, ◌∷◌}
use Rattle.std.proofs.lemmas.List.{append-nil}
use Rattle.std.specs.Fmt.{decimal}
use Rattle.c_printer.proofs.Written.{then, shown}
use Rattle.c_printer.proofs.call.last_number.Goals as goal

pub returns : goal.returns
returns g c = shown (ap (λ l. 44 ∷ 32 ∷ l) (append-nil (decimal c.args.n))) (then c.write.ensures c.number.ensures)
