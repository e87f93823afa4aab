use Rattle.c_syntax.specs.Tokens.{plain_tokens}
use Rattle.c_reader.proofs.Phases.{refused_by_grammar}
use Rattle.c_reader.proofs.read.tree_of.Goals as goal

pub parsed-requires-clause-read : goal.parsed-requires-clause-read
parsed-requires-clause-read c = record { has = c.in-Ok.ensures.exact; read = c.in-Ok-read_program.ensures.read }

pub returns-in-Err-read_program-clause-read : goal.returns-in-Err-read_program-clause-read
returns-in-Err-read_program-clause-read c =
    refused_by_grammar c.args.text.now (plain_tokens c.in-Ok.tokens) c.in-Ok.ensures.exact c.in-Err-read_program.fault c.in-Err-read_program.ensures.read
