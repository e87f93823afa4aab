-- Ours: the typing of initialisers (c_model/specs/DeclarationTyping) as the code does it.
-- Which expressions may initialise, and the objects that items initialise by their index.
use Rattle.std.specs.Prelude.{ℕ, List, ◌&&◌, ◌||◌, cond, nat_lt, nat_eq, slice_get, Bool, true, false, Option, Some, None, option_map}
use Rattle.c_syntax.specs.declared.place.Place.{Place}
use Rattle.c_syntax.specs.Ctypes.{PlainType, Array, Struct}
use Rattle.c_syntax.specs.Expressions.{Expression}
use Rattle.c_syntax.specs.Statements.{Initialiser, One, Many, Initialisers, NoInitialiser, Listed}
use Rattle.c_syntax.specs.Programs.{StructMember}
use Rattle.c_syntax.specs.Layouts.{count_of, members_of_struct}
use Rattle.c_model.specs.Library.{is_there}
use Rattle.c_model.specs.Checked.{Checked, Good, where_so}
use Rattle.c_model.specs.ExpressionTyping.{Sight, constant, in_type, is_assigned, is_scalar, no_type}
use Rattle.c_model.specs.DeclarationTyping.{is_address, is_anything, is_static, is_text}

-- ---- which expressions may initialise

-- any expression, or, where the initialiser is a global's, a constant
abbrev pub allowed : Sight → Bool → Expression → Expression → Bool
allowed s false = is_anything
allowed s true = is_static s

-- the same of an expression that was read as a string literal or wasn't
abbrev pub allowed_where : Sight → Bool → Bool → Expression → Bool
allowed_where s false text e = true
allowed_where s true text e = text || is_there (constant s e) || is_address s e

-- ---- items

-- the type of the member of an index
abbrev pub type_at : List StructMember → ℕ → Option PlainType
type_at ms k = option_map (λ (m : StructMember). m.ctype) (slice_get ms k)

-- the type of the object that the item of an index initialises
abbrev pub slot : Sight → PlainType → ℕ → Option PlainType
slot s (Array t n) k = cond (nat_lt k (count_of n)) (Some t) None
slot s (Struct n) k = type_at (members_of_struct (slice_get s.structs n)) k
slot s t k = cond (nat_eq k 0) (Some t) None

-- an item without its braces, where it has some
abbrev pub last_item : Initialiser → Initialisers → Initialiser
last_item i NoInitialiser = i
last_item i (Listed j is) = last_item j is

abbrev pub without_braces : Initialiser → Initialiser
without_braces (One e) = One e
without_braces (Many at is) = last_item (Many at is) is

-- a value, which is decayed, for an object of the type
abbrev pub valued : Sight → Bool → Bool → Place → PlainType → Expression → Checked Initialiser
valued s global text here t e =
    where_so (is_scalar t && is_assigned s e t && allowed_where s global text (in_type t e)) (no_type here) (Good (One (in_type t e)))

-- whether a list is a string
abbrev pub is_text_alone : Initialisers → Bool
is_text_alone (Listed (One e) NoInitialiser) = is_text e
is_text_alone _ = false
