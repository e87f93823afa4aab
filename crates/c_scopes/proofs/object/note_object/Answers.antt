use Rattle.std.proofs.Common.{ℕ, sym, subst}
use Rattle.std.specs.Prelude.{Option, OnOk}
use Rattle.c_scopes.specs.Objects.{NotesObject}
use Rattle.c_scopes.proofs.Objects.{ok_noted, none_noted}
use Rattle.c_scopes.proofs.object.note_object.Goals as goal

pub returns-in-Some-clause-noted : goal.returns-in-Some-clause-noted
returns-in-Some-clause-noted c =
    let old = c.args.firsts.now.entries in
    let new = c.note.new.firsts.entries in
    subst (λ (o : Option ℕ). OnOk c.note.result (NotesObject old o c.args.number new)) (sym c.in-Some.is) (ok_noted c.note.result old new c.in-Some.decl c.args.number c.note.ensures.each)

pub returns-in-None-clause-noted : goal.returns-in-None-clause-noted
returns-in-None-clause-noted c =
    let old = c.args.firsts.now.entries in
    subst (λ (o : Option ℕ). NotesObject old o c.args.number old) (sym c.in-None.is) (none_noted old c.args.number)
