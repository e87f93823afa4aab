use Rattle.grammar_laws.proofs.FileProductions.{spec_line, external_line, unit_line}
use Rattle.grammar_laws.proofs.files.files.Goals as goal

pub returns-clause-spec : goal.returns-clause-spec
returns-clause-spec c = spec_line

pub returns-clause-external : goal.returns-clause-external
returns-clause-external c = external_line

pub returns-clause-unit : goal.returns-clause-unit
returns-clause-unit c = unit_line
