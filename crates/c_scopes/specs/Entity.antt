-- Ours: the plain form of what a name stands for (C99 6.2.3).
-- Objects and enumerators, without vectors.
use Rattle.c_syntax.specs.Ctypes.{plain_type}
use Rattle.c_model.specs.ExpressionTyping as plain
use Rattle.c_scopes.specs.declared.entity.Object.{Object}
use Rattle.c_scopes.specs.declared.entity.Enumerator.{Enumerator}
use Rattle.c_scopes.specs.declared.entity.Entity.{Entity}
use Rattle.c_scopes.specs.declared.entity.Entity.TheVariants as code

abbrev pub plain_object : Object → plain.Object
plain_object b = record { name = b.name; decl = b.decl; ctype = plain_type b.ctype }

abbrev pub plain_enumerator : Enumerator → plain.Enumerator
plain_enumerator c = record { name = c.name; value = c.value }

abbrev pub plain_entity : Entity → plain.Entity
plain_entity (code.AnObject b) = plain.AnObject (plain_object b)
plain_entity (code.AnEnumerator c) = plain.AnEnumerator (plain_enumerator c)
