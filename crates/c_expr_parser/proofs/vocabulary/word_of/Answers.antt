use Rattle.c_expr_parser.proofs.Words.{the_word}
use Rattle.c_expr_parser.proofs.vocabulary.word_of.Goals as goal

pub returns : goal.returns
returns c = the_word c.args.bytes.now _ _ _ _ c.name_or_logic-other.ensures c.other_word-other.ensures c.kept_keyword-other.ensures c.keyword.ensures
