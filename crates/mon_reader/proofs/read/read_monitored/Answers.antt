use Rattle.c_syntax.specs.Tokens.{plain_tokens}
use Rattle.mon_parser.specs.ParsedTrees.{plain_program}
use Rattle.mon_reader.proofs.Phases.{refused_by_grammar, answered}
use Rattle.mon_reader.proofs.WithinTexts.{answer_valid}
use Rattle.mon_reader.proofs.read.read_monitored.Goals as goal

pub returns-in-Err-read_tokens-clause-spelled : goal.returns-in-Err-read_tokens-clause-spelled
returns-in-Err-read_tokens-clause-spelled c = refused_by_grammar c.args.text.now (plain_tokens c.in-Ok.tokens) c.in-Ok.ensures.exact c.in-Err-read_tokens.fault c.in-Err-read_tokens.ensures

pub returns-clause-spelled : goal.returns-clause-spelled
returns-clause-spelled c =
    answered c.args.text.now (plain_tokens c.in-Ok.tokens) c.in-Ok.ensures.exact (plain_program c.in-Ok-read_tokens.tree) c.in-Ok-read_tokens.ensures c.entered.result c.entered.ensures

pub returns-clause-valid : goal.returns-clause-valid
returns-clause-valid c =
    answer_valid c.args.text.now c.entered.result
    (answered c.args.text.now (plain_tokens c.in-Ok.tokens) c.in-Ok.ensures.exact (plain_program c.in-Ok-read_tokens.tree) c.in-Ok-read_tokens.ensures c.entered.result c.entered.ensures)
