use Rattle.eacsl_tests.proofs.shadow.known_of.Given as goal

abbrev pub ghosts-known : goal.ghosts-known
ghosts-known a = record { name = a.blank.name; parts = a.blank.parts }
