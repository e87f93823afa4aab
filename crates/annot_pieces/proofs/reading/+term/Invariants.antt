use Rattle.c_syntax.specs.declared.logic.Term.{size-Term}
use Rattle.annot_pieces.proofs.reading.+term.Given as goal

abbrev pub decreases-read_in_term : goal.decreases-read_in_term
decreases-read_in_term l = size-Term l.t.now

abbrev pub decreases-read_in_place : goal.decreases-read_in_place
decreases-read_in_place l = size-Term l.t.now
