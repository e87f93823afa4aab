-- Ours: the typing of declarations (c_model/specs/DeclarationTyping) in the steps that the code takes.
-- A declarator, its initialiser, and types that pass no limit.
use Rattle.std.specs.Prelude.{Bool}
use Rattle.c_syntax.specs.declared.place.Place.{Place}
use Rattle.c_syntax.specs.Ctypes.{PlainType}
use Rattle.c_syntax.specs.Statements.{Declaration}
use Rattle.c_model.specs.Checked.{Checked, Good, both_parts, one_part}
use Rattle.c_model.specs.ExpressionTyping.{Sight, known_type, limited, typed_type, with_object}
use Rattle.c_model.specs.DeclarationTyping.{is_declared_in_file, known_parameter_type, own_name, scalar_type}
use Rattle.c_model.specs.DeclarationTyping.{typed_maybe_initialiser, typed_object_type, typed_parameter_type}
use Rattle.c_declaration_rules.specs.Initialisers.{allowed}

-- a declaration with the type of its object
abbrev pub declarator_typed : Sight → Bool → Declaration → Checked Declaration
declarator_typed s declared d = both_parts (own_name s declared d.place d.name) (typed_object_type s d) (λ n t. Good (record d { ctype = t }))

abbrev pub initialised : Sight → Bool → Declaration → Checked Declaration
initialised s global d =
    let own = with_object s d in one_part (typed_maybe_initialiser own (allowed own global) d.ctype d.init) (λ i. Good (record d { init = i }))

abbrev pub declaration_typed : Sight → Bool → Bool → Declaration → Checked Declaration
declaration_typed s declared global d = one_part (declarator_typed s declared d) (initialised s global)

abbrev pub limited_type : Sight → Place → PlainType → Checked PlainType
limited_type s at t = limited s at (known_type s t) (typed_type s at t)

abbrev pub limited_declaration : Sight → Declaration → Checked Declaration
limited_declaration s d =
    both_parts (own_name s (is_declared_in_file s d.name) d.place d.name) (limited_type s d.place d.ctype) (λ n t. Good (record d { ctype = t }))

abbrev pub scalar_parts : Sight → Bool → Place → PlainType → Checked PlainType
scalar_parts s defined at t = one_part (typed_parameter_type s at t) (scalar_type s defined at)

abbrev pub scalar_parameter : Sight → Bool → Place → PlainType → Checked PlainType
scalar_parameter s defined at t = limited s at (known_parameter_type s t) (scalar_parts s defined at t)
