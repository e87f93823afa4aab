use Rattle.mon_parser.proofs.Rows.{made, if_list}
use Rattle.mon_parser.proofs.statement.make_if.Goals as goal

pub returns : goal.returns
returns c = made (if_list c.args.condition c.args.then c.args.otherwise) _ c.new.ensures
