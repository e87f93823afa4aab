use Rattle.std.proofs.Common.{◌≡◌, ◌++◌, drop, map}
use Rattle.c_syntax.specs.Ctypes.{plain_type}
use Rattle.c_model.specs.Formats.{types_of}
use Rattle.c_scopes.specs.Pieces.{plain_piece}
use Rattle.c_expression_rules.proofs.format.put_types_of.Given as goal

abbrev pub invariant-loop-piece : goal.invariant-loop-piece
invariant-loop-piece l = map plain_type l.types.items ++ types_of (map plain_piece (drop l.piece-index l.pieces)) ≡ map plain_type l.initial.types.items ++ types_of (map plain_piece l.pieces)
