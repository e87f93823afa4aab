-- Ours: the typing of enumerators (c_model/specs/DeclarationTyping) one by one, as the code does it.
-- An enumerator, and what is in sight behind it.
use Rattle.std.specs.Prelude.{ℤ, pos, List, ◌++◌, Option, Some}
use Rattle.c_syntax.specs.declared.place.Place.{Place}
use Rattle.c_syntax.specs.declared.types.CInt.TheVariants.{I32}
use Rattle.c_syntax.specs.Expressions.{Expression, place_of}
use Rattle.c_syntax.specs.Programs.{EnumConstant}
use Rattle.c_model.specs.Integers.{fits}
use Rattle.c_model.specs.Checked.{Checked, Good, both_parts, given, one_part, where_so}
use Rattle.c_model.specs.ExpressionTyping.{Sight, no_type}
use Rattle.c_model.specs.DeclarationTyping.{is_declared_in_file, own_name, typed_value}

-- an enumerator, where the value after the one before it is this, with its value
abbrev pub enumerator_typed : Sight → ℤ → EnumConstant → Checked (ℤ × EnumConstant)
enumerator_typed s next e =
    both_parts (own_name s (is_declared_in_file s e.name) e.place e.name) (typed_value s e.place next e.value) (λ n v. Good (v.0, record e { value = v.1 }))

-- enumerators before those of a list
abbrev pub behind_enumerators : List EnumConstant → Checked (Sight × List EnumConstant) → Checked (Sight × List EnumConstant)
behind_enumerators done c = one_part c (λ p. Good (p.0, done ++ p.1))

-- a value that an `int` holds
abbrev pub int_value : Place → Option ℤ → Checked ℤ
int_value at z = given z (no_type at) (λ z. where_so (fits I32 z) (no_type at) (Good z))

-- the constant expression that an enumerator has the value of
abbrev pub constant_value : Sight → Expression → Checked (ℤ × Option Expression)
constant_value s e = typed_value s (place_of e) (pos 0) (Some e)
