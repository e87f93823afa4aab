use Rattle.std.proofs.Common.{ap}
use Rattle.mon_syntax.specs.Text.{set_or_none, spelled}
use Rattle.c_printer.specs.Sight.{in_sight}
use Rattle.c_printer.proofs.Written.{nothing, shown}
use Rattle.c_printer.proofs.call.target.Goals as goal

pub returns-in-None : goal.returns-in-None
returns-in-None g c = shown (ap (λ r. spelled (set_or_none (in_sight c.args.named.now) r)) c.in-None.is) (nothing _)

pub returns-in-Some : goal.returns-in-Some
returns-in-Some g c = shown (ap (λ r. spelled (set_or_none (in_sight c.args.named.now) r)) c.in-Some.is) c.set.ensures
