use Rattle.mon_typing.proofs.Functions.{no_register, next_named}
use Rattle.mon_typing.proofs.function.named_registers.Goals as goal

pub each-preserved : goal.each-preserved
each-preserved c = next_named c.args.names.now c.args.registers.now c.each.register-index no_register c.each.all.items c.push.new.self.items c.in_ok-named_register.field-0 _ c.each-test.true c.in_ok-push.ensures.items c.in_ok-named_register.ensures
    c.each.invariant
