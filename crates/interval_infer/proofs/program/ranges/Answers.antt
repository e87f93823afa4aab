use Rattle.c_syntax.specs.Programs.{plain_program}
use Rattle.c_syntax.specs.Tokens.{plain_tokens}
use Rattle.c_model.specs.AnnotationRanges.{ranged_unit}
use Rattle.c_phases.proofs.Phases.{keeps_ranged, phase_refused}
use Rattle.interval_infer.proofs.program.ranges.Goals as goal

pub invariant_of-result : goal.invariant_of-result
invariant_of-result c = record { ranged = keeps_ranged (plain_tokens c.args.noted.tokens) (plain_program c.args.noted.program) (plain_program c.range_program.new.program) c.args.noted.noted c.in-Ok.ensures.ranged }

pub returns-in-Err-clause-ranged : goal.returns-in-Err-clause-ranged
returns-in-Err-clause-ranged c =
    phase_refused (plain_tokens c.args.noted.tokens) (ranged_unit (plain_program c.args.noted.program)) (plain_program c.range_program.new.program) c.in-Err.fault c.refuse.result c.in-Err.ensures.ranged c.refuse.ensures
