use Rattle.c_parser.specs.Reading.{plain_parts}
use Rattle.c_parser.proofs.FileSteps.{externals_shorter}
use Rattle.c_parser.proofs.program.more_external.Goals as goal

pub turn-smaller : goal.turn-smaller
turn-smaller c = externals_shorter (plain_parts c.turn.parts) (plain_parts c.in_ok-more.more) c.turn.rest.now c.in_ok-more.after.now c.in_ok-more.ensures
