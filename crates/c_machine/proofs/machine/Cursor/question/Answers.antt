use Rattle.std.proofs.Common.{rules, FitsSigned, ◌-◌, sym, ap, ◌∙◌}
use Rattle.std.specs.Int.{w128}
use Rattle.std.specs.Prelude.{slice_range}
use Rattle.mon_syntax.specs.FlatMemory.{act_on_flat}
use Rattle.c_machine.proofs.Asked.{too_few, none_given, question_goes, question_ends}
use Rattle.c_machine.proofs.machine.Cursor.question.Goals as goal
use Rattle.c_machine.proofs.machine.Cursor.question.Goals.{then-count-eq0-via-then-count-eq0, then-count-eq0-via-else-count-eq0+then-self-count}

pub returns-then-count-eq0 : goal.returns-then-count-eq0
returns-then-count-eq0 c links ports = elim c.then-count-eq0.branch [
  | then-count-eq0-via-then-count-eq0 w ↦ none_given links c.args.f c.args.count c.args.self.now c.args.machine.now c.requires.question w.if-count-eq0.true ports
  | then-count-eq0-via-else-count-eq0+then-self-count w ↦ too_few links c.args.f c.args.count c.args.self.now c.args.machine.now w.if-self-count.true ports
]

pub returns-in-Some : goal.returns-in-Some
returns-in-Some c links ports =
    let at = c.args.self.now in
    let m = c.args.machine.now in
    let fv : FitsSigned w128 c.in-Some.answer = search rules in
    question_goes links c.args.f c.args.count at m c.if-self-count.false c.requires.fit c.give.new.self c.give.new.machine c.in-Some.answer fv
    (ap (λ l. act_on_flat c.args.f (slice_range l (at.height - c.args.count) at.height) m.memory) (sym c.deref.ensures.value) ∙ c.in-Some.ensures) c.give.ensures ports

pub returns-in-None : goal.returns-in-None
returns-in-None c links ports =
    let at = c.args.self.now in
    let m = c.args.machine.now in
    question_ends links c.args.f c.args.count at m c.if-self-count.false c.requires.fit
    (ap (λ l. act_on_flat c.args.f (slice_range l (at.height - c.args.count) at.height) m.memory) (sym c.deref.ensures.value) ∙ c.in-None.ensures) ports
