use Rattle.c_lower.specs.declared.code.Instr.TheVariants as instr
use Rattle.c_machine.proofs.Kept.{acts_kept}
use Rattle.c_machine.proofs.machine.Cursor.get_char.Goals as goal

pub returns : goal.returns
returns g c links port = acts_kept links instr.GetChar c.args.self.now c.args.machine.now c.args.self.now _ _ _ _ _ (c.get_char-goes_on.ensures links port)
