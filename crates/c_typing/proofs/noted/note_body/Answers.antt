use Rattle.std.proofs.Common.{rules}
use Rattle.c_typing.proofs.noted.note_body.Goals as goal

pub returns-in-Some-clause-noted : goal.returns-in-Some-clause-noted
returns-in-Some-clause-noted c =
    let h = c.note_body_kind.ensures.noted c.in-Some.s.place in
    search (rules, h)
