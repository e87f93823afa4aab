use Rattle.flat_mem.proofs.looks.note_written.Given as goal

abbrev pub ghosts-written_note_for : goal.ghosts-written_note_for
ghosts-written_note_for a = record { name = a.blank.name; parts = a.blank.parts }
