use Rattle.mon_typing.proofs.GlobalNumbers.{find_is}
use Rattle.mon_typing.proofs.global.Globals.find.Goals as goal
use Rattle.std.proofs.Common.{◌∙◌}

pub returns-in-Some : goal.returns-in-Some
returns-in-Some c = c.in-Some.ensures.index ∙ find_is c.args.self.now.numbers.keys c.args.name

pub returns-in-None : goal.returns-in-None
returns-in-None c = c.in-None.ensures.index ∙ find_is c.args.self.now.numbers.keys c.args.name
