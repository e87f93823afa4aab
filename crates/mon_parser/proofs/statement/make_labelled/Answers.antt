use Rattle.mon_parser.proofs.Rows.{made, labelled_list}
use Rattle.mon_parser.proofs.statement.make_labelled.Goals as goal

pub returns : goal.returns
returns c = made (labelled_list c.args.body c.args.label) _ c.new.ensures
