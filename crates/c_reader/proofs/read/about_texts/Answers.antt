use Rattle.c_model.proofs.NeverStuck.{programs_never_stuck}
use Rattle.c_reader.proofs.AcceptedTexts.{accepted_program, accepted_ranges}
use Rattle.c_reader.proofs.Texts.{one_program, apart, one_refusal}
use Rattle.c_reader.proofs.read.about_texts.Goals as goal

pub returns-clause-one : goal.returns-clause-one
returns-clause-one c = one_program

pub returns-clause-apart : goal.returns-clause-apart
returns-clause-apart c = apart

pub returns-clause-single : goal.returns-clause-single
returns-clause-single c = one_refusal

pub returns-clause-program : goal.returns-clause-program
returns-clause-program c = accepted_program

pub returns-clause-never_stuck : goal.returns-clause-never_stuck
returns-clause-never_stuck c = λ text p a. programs_never_stuck p (accepted_program text p a)

pub returns-clause-ranged : goal.returns-clause-ranged
returns-clause-ranged c = accepted_ranges
