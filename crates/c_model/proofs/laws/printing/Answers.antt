use Rattle.c_model.proofs.Printing.{bytes_are_printed, literals_are_found}
use Rattle.c_model.proofs.FormatSpelling.{formats_are_spelled}
use Rattle.c_model.proofs.laws.printing.Goals as goal

pub returns-clause-bytes : goal.returns-clause-bytes
returns-clause-bytes c = bytes_are_printed

pub returns-clause-literals : goal.returns-clause-literals
returns-clause-literals c = literals_are_found

pub returns-clause-formats : goal.returns-clause-formats
returns-clause-formats c = formats_are_spelled
