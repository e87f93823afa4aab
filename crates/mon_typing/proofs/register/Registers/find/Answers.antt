use Rattle.std.proofs.Common.{refl}
use Rattle.mon_typing.proofs.Registers.{register_found, register_absent}
use Rattle.mon_typing.proofs.register.Registers.find.Goals as goal

pub returns-in-Some : goal.returns-in-Some
returns-in-Some c = register_found c.args.self.now.kinds.entries c.args.name _ _ _ c.in-Some.ensures.index c.in-Some.ensures.value refl

pub returns-in-None : goal.returns-in-None
returns-in-None c = register_absent c.args.self.now.kinds.entries c.args.name c.in-None.ensures.value
