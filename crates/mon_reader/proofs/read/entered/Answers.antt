use Rattle.c_syntax.specs.Tokens.{plain_tokens}
use Rattle.mon_syntax.specs.Trees as tree
use Rattle.mon_parser.specs.ParsedTrees.{plain_name, plain_program}
use Rattle.mon_reader.proofs.Phases.{missing_refuses, room_refuses, wrong_refuses}
use Rattle.mon_reader.proofs.read.entered.Goals as goal

pub returns-in-Missing : goal.returns-in-Missing
returns-in-Missing c =
    missing_refuses (plain_tokens c.args.tokens.now) (plain_program c.args.tree.now) c.as_slice-names.result.now c.as_slice-names.ensures.value
    (tree.plain_program c.in-Ok.program) c.first_place.result c.no_main.result c.in-Ok.ensures c.in-Missing.ensures c.first_place.ensures c.no_main.ensures

pub returns-in-Wrong : goal.returns-in-Wrong
returns-in-Wrong c =
    wrong_refuses (plain_tokens c.args.tokens.now) (plain_program c.args.tree.now) c.as_slice-names.result.now c.as_slice-names.ensures.value
    (tree.plain_program c.in-Ok.program) c.in-Wrong.place c.no_main-in-Wrong.result c.in-Ok.ensures c.in-Wrong.ensures c.no_main-in-Wrong.ensures

pub returns-in-Err-TooLarge : goal.returns-in-Err-TooLarge
returns-in-Err-TooLarge c =
    room_refuses (plain_tokens c.args.tokens.now) (plain_program c.args.tree.now) c.as_slice-names.result.now c.as_slice-names.ensures.value
    (plain_name c.in-Err-TooLarge.global) c.without_room.result (rw c.in-Err-TooLarge.field-0-is at c.in-Err-TooLarge.ensures) c.without_room.ensures
