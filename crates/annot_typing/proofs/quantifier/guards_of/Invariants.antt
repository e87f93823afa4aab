use Rattle.std.proofs.Common.{◌≡◌, length, map}
use Rattle.c_syntax.specs.Logic.{plain_guards}
use Rattle.c_model.specs.QuantifierTyping.{guards_of}
use Rattle.annot_typing.specs.Quantifiers.{guards_before, plain_chain}
use Rattle.annot_typing.proofs.quantifier.guards_of.Given as goal

abbrev pub invariant-chains : goal.invariant-chains
invariant-chains l = guards_before (map plain_chain l.left.items) (plain_guards l.guards) ≡ guards_of (map plain_chain l.fn.chains.items)

abbrev pub decreases-chains : goal.decreases-chains
decreases-chains l = length l.left.items
