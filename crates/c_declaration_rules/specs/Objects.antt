-- Ours: the types of declared objects (c_model/specs/DeclarationTyping) as the code gives them.
-- Types that an initialiser completes in their places, and answers behind that of another part.
use Rattle.std.specs.Prelude.{ℕ, List, length, Bool, true, false, cond, Option, None, option_map, Result, Ok, Err}
use Rattle.c_syntax.specs.declared.place.Place.{Place}
use Rattle.c_syntax.specs.declared.statement.Init.{Init}
use Rattle.c_syntax.specs.Ctypes.{PlainType, Array, PlainLength, Left}
use Rattle.c_syntax.specs.Expressions.{Expression, Node, Text}
use Rattle.c_syntax.specs.Statements.{Initialiser, One, Initialisers, NoInitialiser, Listed, plain_init}
use Rattle.c_model.specs.Library.{is_there}
use Rattle.c_model.specs.Checked.{Checked, Good, one_part}
use Rattle.c_model.specs.ExpressionTyping.{Sight, is_void, known_type, limited, literal_at, typed_type}
use Rattle.c_model.specs.DeclarationTyping.{completed, elements_of_parameter, object_type, scalar_type, typed_outer}
use Rattle.c_scopes.specs.declared.fault.TypeFault.{TypeFault}
use Rattle.c_scopes.specs.Answers.{lesser_of}

abbrev pub plain_maybe_init : Option (Place × Init) → Option (Place × Initialiser)
plain_maybe_init i = option_map (λ i. (i.0, plain_init i.1)) i

abbrev pub is_left : PlainLength → Bool
is_left Left = true
is_left _ = false

-- an array whose length is left out
abbrev pub leaves_length : PlainType → Bool
leaves_length (Array t n) = is_left n
leaves_length _ = false

-- the type of a declared object, whose length its initialiser may give
abbrev pub sized_object : Sight → Place → PlainType → Option (Place × Initialiser) → Checked PlainType
sized_object s at t i = one_part (typed_outer (is_there i) s at t) (λ u. object_type s at (completed s u i))

abbrev pub object_typed : Sight → Place → PlainType → Option (Place × Initialiser) → Checked PlainType
object_typed s at t i = limited s at (completed s (known_type s t) i) (sized_object s at t i)

-- an answer, and before it that of another part, which tells no more than its fault, as one
abbrev pub both_after : {T : Type 0} → Result (Unit {0}) TypeFault → Result T TypeFault → Result T TypeFault
both_after (Ok u) b = b
both_after (Err f) (Ok x) = Err f
both_after (Err f) (Err g) = Err (lesser_of f g)

-- the elements of a parameter that is written as an array are pointed to
abbrev pub typed_pointed : Sight → Place → PlainType → Checked PlainType
typed_pointed s at t = one_part (typed_type s at t) (elements_of_parameter s at)

-- the count of bytes of the string literal that an expression is, where it is one
abbrev pub bytes_read : Sight → Expression → Option ℕ
bytes_read s (Node at t (Text offset)) = option_map (λ (l : ℕ × List ℕ). length l.1) (literal_at offset 0 s.texts)
bytes_read s e = None

-- what a function gives: nothing or a scalar
abbrev pub function_result : Sight → Bool → Place → PlainType → Checked PlainType
function_result s defined at t = cond (is_void t) (Good t) (scalar_type s defined at t)

-- the same of a type that is written
abbrev pub written_result : Sight → Bool → Place → PlainType → Checked PlainType
written_result s defined at t = one_part (typed_type s at t) (function_result s defined at)

-- the same of a list that is one expression
abbrev pub bytes_alone : Sight → Initialisers → Option ℕ
bytes_alone s (Listed (One e) NoInitialiser) = bytes_read s e
bytes_alone s _ = None
