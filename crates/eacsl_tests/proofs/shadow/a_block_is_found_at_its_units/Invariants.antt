use Rattle.eacsl_tests.proofs.shadow.a_block_is_found_at_its_units.Given as goal

abbrev pub ghosts-found : goal.ghosts-found
ghosts-found g a = record { name = a.blank.name; parts = a.blank.parts }
