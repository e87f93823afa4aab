use Rattle.mon_parser.proofs.Rows.{made, loop_list}
use Rattle.mon_parser.proofs.statement.make_loop.Goals as goal

pub returns : goal.returns
returns c = made (loop_list c.args.before c.args.behind) _ c.new.ensures
