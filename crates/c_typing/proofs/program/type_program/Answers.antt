use Rattle.c_syntax.specs.Programs.{plain_program}
use Rattle.c_syntax.specs.Tokens.{plain_tokens}
use Rattle.c_typing.proofs.Phases.{keeps_standing, keeps_typed, program_refused}
use Rattle.c_typing.proofs.program.type_program.Goals as goal

pub invariant_of-result : goal.invariant_of-result
invariant_of-result c =
    let ts = plain_tokens c.args.tree.tokens in
    let p = plain_program c.args.tree.program in
    let q = plain_program c.check_program.new.program in
    record { checked = keeps_typed ts p q c.args.tree.read c.in-Ok.ensures; stands = keeps_standing ts p q c.args.tree.read c.in-Ok.ensures }

pub returns-in-Err-clause-typed : goal.returns-in-Err-clause-typed
returns-in-Err-clause-typed c =
    program_refused (plain_tokens c.args.tree.tokens) (plain_program c.args.tree.program) (plain_program c.check_program.new.program) c.in-Err.fault c.refuse_program.result c.in-Err.ensures c.refuse_program.ensures
