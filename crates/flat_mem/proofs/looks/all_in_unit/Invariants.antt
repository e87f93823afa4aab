use Rattle.flat_mem.proofs.looks.all_in_unit.Given as goal

abbrev pub ghosts-unit_for : goal.ghosts-unit_for
ghosts-unit_for a = record { name = a.blank.name; parts = a.blank.parts }
