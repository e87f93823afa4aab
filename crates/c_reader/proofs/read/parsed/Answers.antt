use Rattle.c_syntax.specs.Programs.{plain_program}
use Rattle.c_syntax.specs.Tokens.{plain_tokens}
use Rattle.c_reader.proofs.Phases.{keeps_tree}
use Rattle.c_reader.proofs.read.parsed.Goals as goal

pub invariant_of-result : goal.invariant_of-result
invariant_of-result c =
    record { read = keeps_tree c.args.text.now (plain_tokens c.args.tokens) (plain_program c.args.program) c.requires.bytes c.requires.few c.requires.read }
