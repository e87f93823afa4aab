use Rattle.eacsl_tests.proofs.memory.a_region_is_filled_and_copied.Given as goal

abbrev pub ghosts-word_of : goal.ghosts-word_of
ghosts-word_of g a = record { name = a.blank.name; parts = a.blank.parts }
