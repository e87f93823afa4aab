use Rattle.flat_mem.proofs.looks.note_at.Given as goal

abbrev pub ghosts-note_for : goal.ghosts-note_for
ghosts-note_for a = record { name = a.blank.name; parts = a.blank.parts }
