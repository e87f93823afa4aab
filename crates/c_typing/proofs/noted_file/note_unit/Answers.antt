use Rattle.std.proofs.Common.{List, ap, map}
use Rattle.c_syntax.specs.Programs.{Function, plain_func, plain_program}
use Rattle.c_typing.proofs.NotedFiles.{moved_found, standing_once}
use Rattle.c_typing.proofs.noted_file.note_unit.Goals as goal

pub move_contracts-requires : goal.move_contracts-requires
move_contracts-requires c = standing_once (plain_program c.args.program.now) (plain_program c.note_standing.new.program) c.requires c.in_ok-note_standing.ensures

pub returns : goal.returns
returns c =
    let q = plain_program c.note_standing.new.program in
    moved_found (plain_program c.args.program.now) q (record q { funcs = map plain_func c.move_contracts.new.funcs.items }) c.in_ok-note_standing.ensures
    (ap (λ (fs : List Function). record q { funcs = fs }) c.in_ok-move_contracts.ensures)
