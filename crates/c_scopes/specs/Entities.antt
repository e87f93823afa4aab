-- Ours: the plain form of what is in sight (C99 6.2.1).
-- Objects and enumerators that are in sight, in their order.
use Rattle.std.specs.Prelude.{List, take}
use Rattle.c_model.specs.ExpressionTyping as plain
use Rattle.c_scopes.specs.declared.entities.Entities.{Entities}
use Rattle.c_scopes.specs.Newest.{entities_of}

abbrev pub plain_entities : Entities → List plain.Entity
plain_entities s = take s.seen (entities_of s.all.declared.items)
