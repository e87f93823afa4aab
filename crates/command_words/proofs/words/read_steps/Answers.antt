use Rattle.std.proofs.Common.{◌∙◌, sym}
use Rattle.command_words.proofs.StepNumbers.{not_plus, step_number-none, step_number-some}
use Rattle.command_words.proofs.words.read_steps.Goals as goal

pub returns-in_err-steps : goal.returns-in_err-steps
returns-in_err-steps c =
    c.from_residual.ensures ∙ sym (step_number-none c.args.text.now c.parse.result c.parse.ensures.value.0
    (not_plus c.args.text.now c.if-starts_with.ensures.cases) (sym c.ok.ensures.value ∙ c.in_err-steps.was))

pub returns-then-steps-le-MOST_STEPS : goal.returns-then-steps-le-MOST_STEPS
returns-then-steps-le-MOST_STEPS c =
    sym (step_number-some c.args.text.now c.parse.result c.in_ok-steps.steps c.parse.ensures.value.0
    (not_plus c.args.text.now c.if-starts_with.ensures.cases) (sym c.ok.ensures.value ∙ c.in_ok-steps.was) c.if-steps-le-MOST_STEPS.true)
