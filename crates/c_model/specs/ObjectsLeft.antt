-- Ours: the plain forms of objects in text order as the code takes them one by one (C99 6.2.4 p3).
use Rattle.std.specs.Prelude.{List, [], ◌∷◌, map, Option, Some, None}
use Rattle.c_syntax.specs.Programs.{plain_text}
use Rattle.c_syntax.specs.Statements.{plain_decl}
use Rattle.c_model.specs.StaticObjects.{StaticObject, OfGlobal, OfLiteral, in_text_order}
use Rattle.c_model.specs.declared.objects.Object.{Object}
use Rattle.c_model.specs.declared.objects.Object.TheVariants.{Global, Literal}
use Rattle.c_model.specs.declared.objects.Objects.{Objects}

abbrev pub plain_object : Object → StaticObject
plain_object (Global d) = OfGlobal (plain_decl d.now)
plain_object (Literal l) = OfLiteral (plain_text l.now)

-- what is left, in text order
abbrev pub objects_left : Objects → List StaticObject
objects_left left = in_text_order (map plain_decl left.globals.now) (map plain_text left.literals.now)

-- the first and the others, as one list
abbrev pub first_and_rest : Option (Object × Objects) → List StaticObject
first_and_rest None = []
first_and_rest (Some (o, rest)) = plain_object o ∷ objects_left rest
