use Rattle.std.proofs.Common.{rules, ◌≡◌, get_or, true, false}
use Rattle.mon_typing.specs.Scopes.{is_new_register}
use Rattle.mon_typing.proofs.Functions.{no_register, next_register, register_clashes}
use Rattle.mon_typing.proofs.function.checked_registers.Goals as goal

pub returns-then-not-is_new : goal.returns-then-not-is_new
returns-then-not-is_new c =
    let h : is_new_register c.args.words.now c.args.globals.now.numbers.keys c.each.known.entries (get_or c.args.registers.now c.each.register-index no_register).name.number ≡ false = search rules in
    register_clashes c.args.words.now c.args.globals.now.numbers.keys c.args.registers.now c.each.register-index no_register c.each.known.entries _ c.each-test.true h c.each.invariant

pub each-preserved : goal.each-preserved
each-preserved c =
    let h : is_new_register c.args.words.now c.args.globals.now.numbers.keys c.each.known.entries (get_or c.args.registers.now c.each.register-index no_register).name.number ≡ true = search rules in
    next_register c.args.words.now c.args.globals.now.numbers.keys c.args.registers.now c.each.register-index no_register c.each.known.entries c.insert.new.self.entries _ c.each-test.true h c.in_ok-insert.ensures.entries c.each.invariant
