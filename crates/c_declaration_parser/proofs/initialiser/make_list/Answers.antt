use Rattle.c_declaration_parser.proofs.Rows.{list_is_read}
use Rattle.c_declaration_parser.proofs.initialiser.make_list.Goals as goal

pub returns : goal.returns
returns c = list_is_read c.args.place c.args.all
