-- Ours: the plain form of what is in sight (C99 6.2.1).
-- What is in sight, without vectors.
use Rattle.std.specs.Prelude.{ℕ, Bool, false, nat_eq, Option, Some, None, map, take}
use Rattle.c_syntax.specs.Programs.{plain_layout, plain_text}
use Rattle.c_model.specs.ExpressionTyping as plain
use Rattle.c_scopes.specs.declared.sight.Sight.{Sight}
use Rattle.c_scopes.specs.declared.sight.Mark.{Mark}
use Rattle.c_scopes.specs.Entities.{plain_entities}
use Rattle.c_scopes.specs.Signatures.{plain_signature}
use Rattle.c_scopes.specs.TypeNames.{plain_type_name}

abbrev pub plain_sight : Sight → plain.Sight
plain_sight s = record {
  names = s.names.items;
  texts = map plain_text s.texts.list.items;
  functions = map plain_signature s.functions.signatures.items;
  entities = plain_entities s.entities;
  innermost = s.innermost;
  types = map plain_type_name s.types.list.items;
  structs = map plain_layout s.structs.items;
  levels = s.levels.items;
  enum_tags = s.enum_tags.list.items;
  enums = s.enums.list.items;
}

-- what is in sight after a block, around which so many entities are
abbrev pub left : ℕ → ℕ → plain.Sight → plain.Sight
left count innermost s = record s { entities = take count s.entities; innermost = innermost }

-- with as many in sight as there were, and the innermost scope of then
abbrev pub seen_again : Mark → Sight → Sight
seen_again m s = record s { entities = record s.entities { seen = m.count }; innermost = m.innermost }

-- whether the tag of a struct is this one
abbrev pub has_tag : ℕ → Option ℕ → Bool
has_tag x None = false
has_tag x (Some y) = nat_eq x y
