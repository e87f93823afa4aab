use Rattle.c_printer.proofs.Written.{shown}
use Rattle.c_printer.proofs.Texts.{at_return}
use Rattle.c_printer.specs.Sight.{in_sight}
use Rattle.c_printer.proofs.statement.give_back.Goals as goal

pub returns-in-Some : goal.returns-in-Some
returns-in-Some g c =
    shown (at_return (in_sight c.args.named.now) c.args.value.now c.in-Some.e c.in-Some.is) c.between.ensures
