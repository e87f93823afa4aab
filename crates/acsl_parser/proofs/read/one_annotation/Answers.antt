use Rattle.acsl_parser.proofs.AnnotationAnswers.{one, begun, fronts, limits}
use Rattle.acsl_parser.proofs.read.one_annotation.Goals as goal

pub returns-clause-one : goal.returns-clause-one
returns-clause-one c = one

pub returns-clause-begun : goal.returns-clause-begun
returns-clause-begun c = begun

pub returns-clause-fronts : goal.returns-clause-fronts
returns-clause-fronts c = fronts

pub returns-clause-limits : goal.returns-clause-limits
returns-clause-limits c = limits
