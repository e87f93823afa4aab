use Rattle.ea_num.proofs.Multiplied.{products_lie, quotients_lie, remainders_lie, division_truncates}
use Rattle.ea_num.proofs.laws.products.Goals as goal

pub returns-clause-products : goal.returns-clause-products
returns-clause-products c = products_lie

pub returns-clause-quotients : goal.returns-clause-quotients
returns-clause-quotients c = quotients_lie

pub returns-clause-remainders : goal.returns-clause-remainders
returns-clause-remainders c = remainders_lie

pub returns-clause-truncates : goal.returns-clause-truncates
returns-clause-truncates c = division_truncates
