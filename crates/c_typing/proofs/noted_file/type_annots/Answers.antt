use Rattle.c_syntax.specs.Programs.{plain_program}
use Rattle.c_syntax.specs.Tokens.{plain_tokens}
use Rattle.c_model.specs.AnnotationTyping.{noted_unit}
use Rattle.c_phases.proofs.Phases.{keeps_noted, phase_refused}
use Rattle.c_typing.proofs.Standing.{ordered_of}
use Rattle.c_typing.proofs.noted_file.type_annots.Goals as goal

pub note_unit-requires : goal.note_unit-requires
note_unit-requires c = ordered_of (plain_program c.args.typed.program) c.args.typed.stands

pub invariant_of-result : goal.invariant_of-result
invariant_of-result c = record { noted = keeps_noted (plain_tokens c.args.typed.tokens) (plain_program c.args.typed.program) (plain_program c.note_unit.new.program) c.args.typed.checked c.in-Ok.ensures }

pub returns-in-Err-clause-noted : goal.returns-in-Err-clause-noted
returns-in-Err-clause-noted c =
    phase_refused (plain_tokens c.args.typed.tokens) (noted_unit (plain_program c.args.typed.program)) (plain_program c.note_unit.new.program) c.in-Err.fault c.refuse.result c.in-Err.ensures c.refuse.ensures
