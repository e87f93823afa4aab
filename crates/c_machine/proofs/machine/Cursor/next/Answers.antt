use Rattle.std.proofs.Common.{◌+◌, sym, ◌∙◌, arith}
use Rattle.std.specs.Bool.{OnTrue}
use Rattle.std.proofs.lemmas.Bool.{OnTrue_at}
use Rattle.mon_syntax.specs.declared.tree.MonOp.TheVariants.{Add, Lt}
use Rattle.mon_syntax.specs.declared.tree.MonType.TheVariants.{I32}
use Rattle.c_forms.specs.declared.form.Form.TheVariants as form
use Rattle.c_forms.specs.Runs.{HasAt, HasTest}
use Rattle.c_machine.specs.Forms.{Does, DoesTest}
use Rattle.c_forms.specs.Table.{HasForm, change_run, changed_run}
use Rattle.c_machine.proofs.Sequence.{leapt_both}
use Rattle.c_machine.proofs.Valued.{said_of_own}
use Rattle.c_machine.proofs.machine.Cursor.next.Goals as goal

-- the first form was done
pub repeat_while-requires-clause-fit : goal.repeat_while-requires-clause-fit
repeat_while-requires-clause-fit c = OnTrue_at (sym c.counted.ensures.same ∙ c.if-not-counted.false) c.set_changed.ensures.fit

pub repeat_while-requires-clause-place : goal.repeat_while-requires-clause-place
repeat_while-requires-clause-place c = let lands = OnTrue_at (sym c.counted.ensures.same ∙ c.if-not-counted.false) c.set_changed.ensures.lands in omega (arith, lands, c.requires.place)

pub returns-clause-leapt : goal.returns-clause-leapt
returns-clause-leapt c =
    let at = c.args.self.now in
    let m = c.args.machine.now in
    let done = sym c.counted.ensures.same ∙ c.if-not-counted.false in
    let goes = said_of_own (λ z. OnTrue c.set_changed.result (Does (change_run Add I32 c.args.a c.args.a z) 6 at m c.set_changed.new.self c.set_changed.new.machine)) c.args.k c.ranges.k c.set_changed.ensures.goes_on in
    leapt_both (λ code. HasForm code at.place (form.Next c.args.a c.args.k c.args.limit c.args.back)) (λ code. HasAt code at.place (change_run Add I32 c.args.a c.args.a c.args.k))
    (λ p code. HasTest code p (changed_run Lt I32 c.args.a c.args.limit) c.args.back) at m c.set_changed.new.self c.set_changed.new.machine c.repeat_while.new.self _ _ _ 6 8 (at.place + 6)
    (λ code has. has) (OnTrue_at done c.set_changed.ensures.lands) (OnTrue_at done c.counted.ensures.counts) (OnTrue_at done goes)
    c.repeat_while.result c.counted-2.ensures.counts c.counted-2.ensures.nothing (said_of_own (λ z. OnTrue c.repeat_while.result
    (DoesTest (changed_run Lt I32 c.args.a z) c.args.back 8 c.set_changed.new.self c.set_changed.new.machine c.repeat_while.new.self c.set_changed.new.machine)) c.args.limit c.ranges.limit c.repeat_while.ensures.goes_on)
    c.repeat_while.ensures.nothing
