use Rattle.std.proofs.Common.{rules, ◌≡◌, Err}
use Rattle.mon_parser.specs.ParsedTrees.{plain_program}
use Rattle.mon_typing.proofs.WholeTexts.{globals_fail, parts_given}
use Rattle.mon_typing.proofs.program.checked_parts.Goals as goal

pub returns-in_err-globals : goal.returns-in_err-globals
returns-in_err-globals c =
    let e : c.from_residual.result ≡ Err c.in_err-globals.field-0.0 = search rules in
    rw e (globals_fail c.args.names.now c.args.words.now (plain_program c.args.program.now) c.in_err-globals.field-0.0 c.in_err-globals.ensures)

pub returns : goal.returns
returns c =
    parts_given c.args.names.now c.args.words.now (plain_program c.args.program.now) c.in_ok-globals.globals.numbers.keys c.functions_of.result c.in_ok-globals.ensures c.functions_of.ensures
