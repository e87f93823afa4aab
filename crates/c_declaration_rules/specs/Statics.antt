-- Ours: the addresses that initialise globals (C99 6.6 p9) as the code finds them, without a run: null, or so many bytes behind the start of
-- an object of so many bytes. Their meaning is in c_model/specs/DeclarationTyping.
use Rattle.std.specs.Prelude.{ℕ, ◌+◌, ℤ, pos, negsuc, ◌+ℤ◌, ◌-ℤ◌, ◌*ℤ◌, List, ◌&&◌, cond, if◌then◌else◌, nat_le, Option, Some, None}
use Rattle.std.specs.Prelude.{option_map}
use Rattle.c_syntax.specs.declared.expression.UnOp.TheVariants as unary
use Rattle.c_syntax.specs.declared.expression.BinOp.TheVariants as operator
use Rattle.c_syntax.specs.Expressions.{Expression, Node, Variable, Unary, Binary, Cast, Index, Dot, Arrow, type_of}
use Rattle.c_syntax.specs.Programs.{StructType}
use Rattle.c_syntax.specs.Layouts.{offset_of, size_of, target_of}
use Rattle.c_model.specs.Meaning.{is_array, is_member, is_of_library, is_pointer, unit_of}
use Rattle.c_model.specs.ExpressionTyping.{Sight, Entity, Object, constant}
use Rattle.c_scopes.specs.Objects.{object_with}
use Rattle.c_declaration_rules.specs.declared.constant.Spot.{Spot}
use Rattle.c_declaration_rules.specs.declared.constant.Spot.TheVariants.{Null, Within}

-- the size of the first object with the number of a declaration
abbrev pub object_size : List StructType → ℕ → List Entity → Option ℕ
object_size structs x es = option_map (λ (b : Object). size_of structs b.ctype) (object_with x es)

abbrev pub start_spot : Option ℕ → Option Spot
start_spot o = option_map (Within 0) o

-- an offset from 0 to the size of the object
abbrev pub spot_in : ℤ → ℕ → Option Spot
spot_in (pos i) size = cond (nat_le i size) (Some (Within i size)) None
spot_in (negsuc i) size = None

-- so many bytes farther, within the object or one after its end
abbrev pub moved_spot : Spot → ℤ → Option Spot
moved_spot Null d = None
moved_spot (Within i size) d = spot_in (pos i +ℤ d) size

-- so many elements of a size farther
abbrev pub stepped : Option Spot → ℕ → ℤ → Option Spot
stepped None unit i = None
stepped (Some p) unit i = moved_spot p (i *ℤ pos unit)

-- an address that is taken of an expression: that of a member lies in its object, or one after its end
abbrev pub taken_spot : Expression → Option Spot → Option Spot
taken_spot e None = None
taken_spot e (Some p) = if is_member e then moved_spot p (pos 0) else Some p

-- a member of an object; of null it is null, whose address isn't taken
abbrev pub member_spot : ℕ → Option Spot → Option Spot
member_spot offset None = None
member_spot offset (Some Null) = Some Null
member_spot offset (Some (Within i size)) = Some (Within (i + offset) size)

-- an address and a number, or a number and an address
abbrev pub element_spot : ℕ → Option Spot → Option ℤ → Option ℤ → Option Spot → Option Spot
element_spot unit p (Some y) x q = stepped p unit y
element_spot unit p None (Some x) q = stepped q unit x
element_spot unit p None None q = None

abbrev pub null_or : Option ℤ → Option Spot → Option Spot
null_or (Some z) p = Some Null
null_or None p = p

abbrev pub difference_spot : ℕ → Option Spot → Option ℤ → Option Spot
difference_spot unit p None = None
difference_spot unit p (Some y) = stepped p unit (pos 0 -ℤ y)

module _ (s : Sight) where
  abbrev mutual
    -- where a constant address points
    pub address_spot : Expression → Option Spot
    address_spot (Node at t (Variable x)) = if is_of_library x && is_pointer t then Some Null else None
    address_spot (Node at t (Unary unary.Address a)) = taken_spot a (place_spot a)
    address_spot (Node at t (Binary operator.Add a b)) =
        element_spot (unit_of s.structs (type_of a) (type_of b)) (address_spot a) (constant s b) (constant s a) (address_spot b)
    address_spot (Node at t (Binary operator.Sub a b)) = difference_spot (unit_of s.structs (type_of a) (type_of b)) (address_spot a) (constant s b)
    address_spot (Node at t (Cast to a)) =
        if is_pointer to then (if is_array (type_of a) then taken_spot a (place_spot a) else null_or (constant s a) (address_spot a)) else None
    address_spot _ = None

    -- and where an object stands whose address is constant
    pub place_spot : Expression → Option Spot
    place_spot (Node at t (Variable x)) = if is_of_library x then None else start_spot (object_size s.structs x.decl s.entities)
    place_spot (Node at t (Unary unary.Deref a)) = address_spot a
    place_spot (Node at t (Index a b)) =
        element_spot (unit_of s.structs (type_of a) (type_of b)) (address_spot a) (constant s b) (constant s a) (address_spot b)
    place_spot (Node at t (Dot a m)) = member_spot (offset_of s.structs (type_of a) m) (place_spot a)
    place_spot (Node at t (Arrow a m)) = member_spot (offset_of s.structs (target_of (type_of a)) m) (address_spot a)
    place_spot _ = None

  abbrev pub element_of : Expression → Expression → Option Spot
  element_of a b = element_spot (unit_of s.structs (type_of a) (type_of b)) (address_spot a) (constant s b) (constant s a) (address_spot b)

  abbrev pub difference_of : Expression → Expression → Option Spot
  difference_of a b = difference_spot (unit_of s.structs (type_of a) (type_of b)) (address_spot a) (constant s b)

  abbrev pub pointer_of : Expression → Option Spot
  pointer_of a = if is_array (type_of a) then taken_spot a (place_spot a) else null_or (constant s a) (address_spot a)
