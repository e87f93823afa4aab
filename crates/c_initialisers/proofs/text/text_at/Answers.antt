use Rattle.std.proofs.Common.{◌∙◌}
use Rattle.c_effects.proofs.Layouts.{found, missing, text_missing, text_there}
use Rattle.c_initialisers.proofs.text.text_at.Goals as goal

pub returns-in-Some : goal.returns-in-Some
returns-in-Some c =
    let at = c.in-Some.ensures.lookup in
    c.bytes.ensures ∙ text_there c.args.texts.now c.args.number c.in-Some.text.now (found c.args.texts.now c.args.number c.in-Some.text.now at.0 at.1)

pub returns-in-None : goal.returns-in-None
returns-in-None c = text_missing c.args.texts.now c.args.number (missing c.args.texts.now c.args.number c.in-None.ensures.lookup.0)
