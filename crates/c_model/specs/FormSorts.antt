-- What a form of annotations is by its sort (ACSL 2.2): a term, of unbounded integers or of pointers, a predicate, or a place, which a term reads; and what
-- forms demand of the sorts of their parts.
use Rattle.std.specs.Prelude.{pos, Option, Some, None, Bool, true, false}
use Rattle.c_syntax.specs.declared.place.Place.{Place}
use Rattle.c_syntax.specs.declared.annotation.Range.{Range}
use Rattle.c_syntax.specs.Ctypes.{PlainType, Void, Int, Ptr, Array, Struct, StructTag, EnumTag}
use Rattle.c_syntax.specs.Ctypes as ctype
use Rattle.c_syntax.specs.Logic.{LogicTerm, Number, Letter, Variable, Unary, Binary, Cast, Choice, Named, Predicate, Truth, NonZero, Chain, Not, Connected}
use Rattle.c_syntax.specs.Logic.{Branch, At, Null, Deref, Member, Address, Moved, Difference, Told, Asks, Separated, Quantified}
use Rattle.c_model.specs.Ranges.{from_to}
use Rattle.c_model.specs.Checked.{Checked, Good, faulty, given, where_so, one_part}
use Rattle.c_model.specs.ExpressionTyping.{no_type}

-- what a form is by its sort
pub data Sorted : Type 0 where
  ATerm : LogicTerm → Sorted
  APredicate : Predicate → Sorted
  -- a place of any type, which a term reads
  APlace : LogicTerm → Sorted

-- the range of a term, until ranges are inferred
abbrev pub range_to_infer : Range
range_to_infer = from_to (pos 0) (pos 0)

abbrev pub place_of_term : LogicTerm → Place
place_of_term (Number at t r n) = at
place_of_term (Letter at t r n) = at
place_of_term (Variable at t r x) = at
place_of_term (Unary at t r op a) = at
place_of_term (Binary at t r op a b) = at
place_of_term (Cast at t r to a) = at
place_of_term (Choice at t r c a b) = at
place_of_term (Named at t r x) = at
place_of_term (At at t r l a) = at
place_of_term (Null at t r) = at
place_of_term (Deref at t r a) = at
place_of_term (Member at t r d a) = at
place_of_term (Address at t r a) = at
place_of_term (Moved at t r op n a b) = at
place_of_term (Difference at t r n a b) = at
place_of_term (Told at t r f a) = at

abbrev pub place_of_predicate : Predicate → Place
place_of_predicate (Truth at b) = at
place_of_predicate (NonZero at t) = at
place_of_predicate (Chain at t links) = at
place_of_predicate (Not at p) = at
place_of_predicate (Connected at k p q) = at
place_of_predicate (Branch at k p q) = at
place_of_predicate (Quantified at q gs p) = at
place_of_predicate (Asks at f z) = at
place_of_predicate (Separated at zs) = at

-- the type that a term keeps: of what it reads, or of the pointer that it is
abbrev pub type_of_term : LogicTerm → Option PlainType
type_of_term (Number at t r n) = t
type_of_term (Letter at t r n) = t
type_of_term (Variable at t r x) = t
type_of_term (Unary at t r op a) = t
type_of_term (Binary at t r op a b) = t
type_of_term (Cast at t r to a) = t
type_of_term (Choice at t r c a b) = t
type_of_term (Named at t r x) = t
type_of_term (At at t r l a) = t
type_of_term (Null at t r) = t
type_of_term (Deref at t r a) = t
type_of_term (Member at t r d a) = t
type_of_term (Address at t r a) = t
type_of_term (Moved at t r op n a b) = t
type_of_term (Difference at t r n a b) = t
type_of_term (Told at t r f a) = t

-- ---- sorts of values

-- what a value is; a struct is none
pub data ValueSort : Type 0 where
  AnInteger : ValueSort
  APointer : PlainType → ValueSort
  NoValue : ValueSort

-- an array is the pointer to its first element (C99 6.3.2.1 p3)
abbrev pub sort_of_type : PlainType → ValueSort
sort_of_type (Int k) = AnInteger
sort_of_type (Ptr t) = APointer t
sort_of_type (Array t n) = APointer t
sort_of_type (Struct n) = NoValue
sort_of_type Void = NoValue
sort_of_type (ctype.Named x) = NoValue
sort_of_type (StructTag x tag) = NoValue
sort_of_type (EnumTag x at) = NoValue

abbrev pub sort_of : Option PlainType → ValueSort
sort_of None = AnInteger
sort_of (Some t) = sort_of_type t

abbrev pub sort_of_term : LogicTerm → ValueSort
sort_of_term t = sort_of (type_of_term t)

-- a predicate is no value
abbrev pub sort_of_sorted : Sorted → ValueSort
sort_of_sorted (ATerm t) = sort_of_term t
sort_of_sorted (APredicate p) = NoValue
sort_of_sorted (APlace t) = sort_of_term t

abbrev pub is_integer : ValueSort → Bool
is_integer AnInteger = true
is_integer (APointer t) = false
is_integer NoValue = false

abbrev pub pointee : ValueSort → Option PlainType
pointee AnInteger = None
pointee (APointer t) = Some t
pointee NoValue = None

-- ---- what a form demands of its parts, which have no fault

-- a value: no struct, which is a fault at the struct's own place
abbrev pub as_value : Sorted → Checked Sorted
as_value (ATerm t) = Good (ATerm t)
as_value (APredicate p) = Good (APredicate p)
as_value (APlace t) = elim (sort_of_term t) [
  | AnInteger ↦ Good (ATerm t)
  | APointer u ↦ Good (ATerm t)
  | NoValue ↦ faulty (no_type (place_of_term t))
]

abbrev pub value_in : Checked Sorted → Checked Sorted
value_in c = one_part c as_value

-- a term, which this place wants
abbrev pub as_term : Place → Sorted → Checked LogicTerm
as_term at (ATerm t) = Good t
as_term at (APredicate p) = faulty (no_type at)
as_term at (APlace t) = Good t

-- an integer
abbrev pub as_integer : Place → Sorted → Checked LogicTerm
as_integer at a = one_part (as_term at a) (λ t. where_so (is_integer (sort_of_term t)) (no_type at) (Good t))

-- a pointer, with the type of what it points to
abbrev pub as_pointer : Place → Sorted → Checked (PlainType × LogicTerm)
as_pointer at a = one_part (as_term at a) (λ t. given (pointee (sort_of_term t)) (no_type at) (λ u. Good (u, t)))

-- a predicate, which this place wants; an integer is one where it isn't 0 (ACSL 2.2)
abbrev pub integer_holds : Place → LogicTerm → Checked Predicate
integer_holds at t = where_so (is_integer (sort_of_term t)) (no_type at) (Good (NonZero (place_of_term t) t))

abbrev pub as_predicate : Place → Sorted → Checked Predicate
as_predicate at (ATerm t) = integer_holds at t
as_predicate at (APredicate p) = Good p
as_predicate at (APlace t) = integer_holds at t
