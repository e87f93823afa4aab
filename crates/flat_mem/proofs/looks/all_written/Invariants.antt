use Rattle.flat_mem.proofs.looks.all_written.Given as goal

abbrev pub ghosts-written_for : goal.ghosts-written_for
ghosts-written_for a = record { name = a.blank.name; parts = a.blank.parts }
