use Rattle.std.proofs.Common.{rules}
use Rattle.mon_typing.proofs.Registers.{new_is}
use Rattle.mon_typing.proofs.function.is_new.Goals as goal

pub returns-then-is_new : goal.returns-then-is_new
returns-then-is_new c = new_is c.args.words.now c.args.globals.now.numbers.keys c.args.known.now.entries c.args.number c.contains_key.result c.contains_key.ensures (search rules)
