-- Ours: the typing of members (c_model/specs/DeclarationTyping) as the code does it.
-- A member of a struct of the file, and what a struct is with it.
use Rattle.std.specs.Prelude.{◌≡◌, ℕ, suc, not, nat_le, if◌then◌else◌, List, [], ◌∷◌, ◌++◌, slice_get, Bool, Some, None}
use Rattle.c_syntax.specs.declared.place.Place.{Place}
use Rattle.c_syntax.specs.Ctypes.{PlainType}
use Rattle.c_syntax.specs.Programs.{StructMember, StructType}
use Rattle.c_syntax.specs.Layouts.{member_among}
use Rattle.c_model.specs.Library.{is_there}
use Rattle.c_model.specs.Checked.{Checked, Good, both_parts, one_part, where_so}
use Rattle.c_model.specs.ExpressionTyping.{Sight, known_type, levels_of, limited, most_bytes, no_name, number_at, too_large, typed_type}
use Rattle.c_model.specs.DeclarationTyping.{greater, object_type, typed_member, typed_member_type, with_struct}
use Rattle.c_declaration_rules.specs.declared.layout.Grown.{Grown}
use Rattle.c_declaration_rules.specs.Layouts.{IsLaidBehind}

-- a member of the struct of an index, where the file has so many: the arm of a member in UnitTyping
abbrev pub member_typed : Sight → ℕ → StructMember → Bool → Checked Sight
member_typed s k m ends = elim (slice_get s.structs k) [ None ↦ Good s | Some struct ↦ typed_member s k struct m ends ]

-- a struct with a typed member behind its others
abbrev pub with_last_member : StructType → StructMember → Grown → StructType
with_last_member struct m g = record struct { members = struct.members ++ record m { offset = g.offset } ∷ []; align = g.align; size = g.size }

-- it has a size where it ends
abbrev pub ended : Bool → StructType → StructType
ended ends struct = if ends then struct else record struct { size = 0 }

-- what is in sight with a typed member in the struct of the index
abbrev pub with_grown : Sight → ℕ → StructType → StructMember → Grown → Bool → Sight
with_grown s k struct m g ends =
    with_struct s k (ended ends (with_last_member struct m g)) (greater (number_at s.levels k) (suc (levels_of s.levels m.ctype)))

abbrev pub GrownTo : Sight → ℕ → StructMember → Grown → Bool → Sight → Type 0
GrownTo s k m g ends t = (struct : StructType) → slice_get s.structs k ≡ Some struct → t ≡ with_grown s k struct m g ends

abbrev pub GrowsTo : Sight → StructType → PlainType → Grown → Type 0
GrowsTo s struct t g = IsLaidBehind s.structs struct.members t g.offset g.align g.size

-- the type of a member as an object's within the limits
abbrev pub object_member : Sight → Place → PlainType → Checked PlainType
object_member s at t = limited s at (known_type s t) (one_part (typed_type s at t) (object_type s at))

-- a name that isn't among those that there are
abbrev pub name_besides : Bool → Place → Checked (Unit {0})
name_besides known at = where_so (not known) (no_name at) (Good (tt {0}))

abbrev pub new_member : ℕ → Place → List StructMember → Checked (Unit {0})
new_member x at ms = name_besides (is_there (member_among x ms)) at

-- the type of a member whose name is new in its struct
abbrev pub checked_member : Sight → StructType → StructMember → Checked PlainType
checked_member s struct m = both_parts (new_member m.name m.place struct.members) (typed_member_type s struct m) (λ n t. Good t)

-- a layout whose size passes no limit
abbrev pub small_layout : Place → Grown → Checked Grown
small_layout at g = where_so (nat_le g.size most_bytes) (too_large at) (Good g)
