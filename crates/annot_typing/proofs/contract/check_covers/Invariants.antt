use Rattle.std.proofs.Common.{◌≡◌, length, map}
use Rattle.c_syntax.specs.Logic.{plain_annot}
use Rattle.c_model.specs.ContractTyping.{typed_covers}
use Rattle.annot_typing.proofs.contract.check_covers.Given as goal

abbrev pub invariant-turn : goal.invariant-turn
invariant-turn l = typed_covers l.names.list.items (map plain_annot l.rest) ≡ typed_covers l.names.list.items (map plain_annot l.covers)

abbrev pub decreases-turn : goal.decreases-turn
decreases-turn l = length l.rest
