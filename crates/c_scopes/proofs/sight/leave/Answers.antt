use Rattle.std.proofs.Common.{ap}
use Rattle.c_scopes.specs.Sights.{plain_sight}
use Rattle.c_scopes.proofs.sight.leave.Goals as goal

pub returns : goal.returns
returns c = let s = plain_sight c.args.sight.now in ap (λ es. record s { entities = es; innermost = c.args.mark.innermost }) c.truncate.ensures
