use Rattle.flat_mem.proofs.looks.all_in_unit_written.Given as goal

abbrev pub ghosts-written_unit_for : goal.ghosts-written_unit_for
ghosts-written_unit_for a = record { name = a.blank.name; parts = a.blank.parts }
