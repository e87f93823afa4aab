use Rattle.c_lower.specs.declared.code.Instr.TheVariants as instr
use Rattle.c_machine.proofs.Kept.{acts_kept}
use Rattle.c_machine.proofs.machine.Cursor.put_string.Goals as goal

pub returns : goal.returns
returns g c links feed = acts_kept links instr.PutString c.args.self.now c.args.machine.now c.args.self.now _ _ _ _ _ (c.put_string-goes_on.ensures links feed)
