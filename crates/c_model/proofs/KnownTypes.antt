-- What is known of a type as it is written is the type that it is, where it has no fault.
use Rattle.std.proofs.Common.{◌≡◌, refl, ap, ◌∙◌, Bool, true, false, not}
use Rattle.c_syntax.specs.declared.place.Place.{Place}
use Rattle.c_syntax.specs.Ctypes.{PlainType, Void, Int, Ptr, Array, Struct, Named, StructTag, EnumTag, PlainLength, Left, Written, Count, int_type}
use Rattle.c_syntax.specs.Expressions.{place_of}
use Rattle.c_model.specs.Checked.{Checked, Good, Bad, faulty, one_part, both_parts}
use Rattle.c_model.specs.ExpressionTyping.{no_name, no_type, Sight, type_named, is_among, Sized, HasSize, HasNoSize, NotYet, sized, constant, counted, element_type, known_struct, known_name}
use Rattle.c_model.specs.ExpressionTyping.{least_length, typed, typed_type, typed_length, known_type, known_length}
use Rattle.c_model.specs.DeclarationTyping.{typed_outer, elements_of_parameter, pointer_where_array, typed_parameter_type, known_parameter_type}
use Rattle.c_model.proofs.TypedParts.{Gives, gives_one, gives_both, gives_given, gives_where, gives_sized}

least_is : (c : Checked PlainLength) → Gives (λ m. least_length c ≡ m) c
least_is (Good n) = refl
least_is (Bad f fs) = tt

length_is_known : (s : Sight) (at : Place) (n : PlainLength) → Gives (λ m. known_length s n ≡ m) (typed_length s at n)
length_is_known s at Left = tt
length_is_known s at (Written e) = least_is (one_part (typed s e) (λ x. counted (place_of e) (constant s x)))
length_is_known s at (Count n) = refl

elements_known : (s : Sight) (at : Place) (t : PlainType) (c : Checked PlainType) → Gives (λ u. t ≡ u) c → Gives (λ u. t ≡ u) (one_part c (element_type s at))
elements_known s at t c g = gives_one (λ u. t ≡ u) (λ u. t ≡ u) c (element_type s at) g (λ u e. gives_sized (λ u. t ≡ u) s at u (Good u) (λ k. e))

pub type_is_known : (s : Sight) (at : Place) (t : PlainType) → Gives (λ u. known_type s t ≡ u) (typed_type s at t)
type_is_known s at Void = refl
type_is_known s at (Int k) = refl
type_is_known s at (Ptr t) = gives_one (λ u. known_type s t ≡ u) (λ u. known_type s (Ptr t) ≡ u) (typed_type s at t) (λ u. Good (Ptr u)) (type_is_known s at t) (λ u e. ap Ptr e)
type_is_known s at (Array t n) =
    gives_both (λ u. known_type s t ≡ u) (λ m. known_length s n ≡ m) (λ u. known_type s (Array t n) ≡ u) (one_part (typed_type s at t) (element_type s at)) (typed_length s at n) (λ u m. Good (Array u m))
    (elements_known s at (known_type s t) (typed_type s at t) (type_is_known s at t)) (length_is_known s at n) (λ u m e f. ap (λ x. Array x (known_length s n)) e ∙ ap (Array u) f)
type_is_known s at (Struct n) = refl
type_is_known s at (Named x) = gives_given (λ u. known_name (type_named x s.types) ≡ u) (type_named x s.types) (no_name at) Good (λ t e. ap known_name e)
type_is_known s at (StructTag x tag) = gives_where (λ u. known_struct s x ≡ u) (not (is_among x s.enum_tags)) (no_name tag) _ (λ e. refl)
type_is_known s at (EnumTag x tag) = gives_where (λ u. int_type ≡ u) (is_among x s.enums) (no_name tag) _ (λ e. refl)

-- an array whose length is left out
pub outer_is_known : (may_leave : Bool) (s : Sight) (at : Place) (t : PlainType) → Gives (λ u. known_type s t ≡ u) (typed_outer may_leave s at t)
outer_is_known true s at (Array t Left) =
    gives_one (λ u. known_type s t ≡ u) (λ u. known_type s (Array t Left) ≡ u) (one_part (typed_type s at t) (element_type s at)) (λ u. Good (Array u Left))
    (elements_known s at (known_type s t) (typed_type s at t) (type_is_known s at t)) (λ u e. ap (λ x. Array x Left) e)
outer_is_known true s at (Array t (Written e)) = type_is_known s at (Array t (Written e))
outer_is_known true s at (Array t (Count n)) = type_is_known s at (Array t (Count n))
outer_is_known true s at Void = refl
outer_is_known true s at (Int k) = refl
outer_is_known true s at (Ptr t) = type_is_known s at (Ptr t)
outer_is_known true s at (Struct n) = refl
outer_is_known true s at (Named x) = type_is_known s at (Named x)
outer_is_known true s at (StructTag x tag) = type_is_known s at (StructTag x tag)
outer_is_known true s at (EnumTag x tag) = type_is_known s at (EnumTag x tag)
outer_is_known false s at t = type_is_known s at t

-- the type of a parameter
element_is_known : (s : Sight) (at : Place) (t u : PlainType) → t ≡ u → Gives (λ v. Ptr t ≡ v) (elements_of_parameter s at u)
element_is_known s at t u e = by (sized s.structs u)
  where
    by : (z : Sized) → Gives (λ v. Ptr t ≡ v) (elim z [ HasSize ↦ Good (Ptr u) | HasNoSize ↦ faulty (no_type at) | NotYet ↦ Good (Ptr u) ])
    by HasSize = ap Ptr e
    by HasNoSize = tt
    by NotYet = ap Ptr e

pointed_is_known : (s : Sight) (at : Place) (t : PlainType) → Gives (λ v. Ptr (known_type s t) ≡ v) (one_part (typed_type s at t) (elements_of_parameter s at))
pointed_is_known s at t = gives_one (λ u. known_type s t ≡ u) (λ v. Ptr (known_type s t) ≡ v) (typed_type s at t) (elements_of_parameter s at) (type_is_known s at t) (λ u e. element_is_known s at (known_type s t) u e)

array_is_known : (s : Sight) (at : Place) (t : PlainType) (n : PlainLength)
    → Gives (λ v. Ptr (known_type s t) ≡ v) (both_parts (one_part (typed_type s at t) (elements_of_parameter s at)) (typed_length s at n) (λ u m. Good u))
array_is_known s at t n =
    gives_both (λ v. Ptr (known_type s t) ≡ v) (λ m. known_length s n ≡ m) (λ v. Ptr (known_type s t) ≡ v) (one_part (typed_type s at t) (elements_of_parameter s at)) (typed_length s at n) (λ u m. Good u)
    (pointed_is_known s at t) (length_is_known s at n) (λ u m e f. e)

plain_is_known : (s : Sight) (at : Place) (t : PlainType) → Gives (λ u. known_parameter_type s t ≡ u) (one_part (typed_type s at t) (λ u. Good (pointer_where_array u)))
plain_is_known s at t = gives_one (λ u. known_type s t ≡ u) (λ u. known_parameter_type s t ≡ u) (typed_type s at t) (λ u. Good (pointer_where_array u)) (type_is_known s at t) (λ u e. ap pointer_where_array e)

pub parameter_is_known : (s : Sight) (at : Place) (t : PlainType) → Gives (λ u. known_parameter_type s t ≡ u) (typed_parameter_type s at t)
parameter_is_known s at (Array t Left) = pointed_is_known s at t
parameter_is_known s at (Array t (Written e)) = array_is_known s at t (Written e)
parameter_is_known s at (Array t (Count n)) = array_is_known s at t (Count n)
parameter_is_known s at Void = plain_is_known s at Void
parameter_is_known s at (Int k) = plain_is_known s at (Int k)
parameter_is_known s at (Ptr t) = plain_is_known s at (Ptr t)
parameter_is_known s at (Struct n) = plain_is_known s at (Struct n)
parameter_is_known s at (Named x) = plain_is_known s at (Named x)
parameter_is_known s at (StructTag x tag) = plain_is_known s at (StructTag x tag)
parameter_is_known s at (EnumTag x tag) = plain_is_known s at (EnumTag x tag)
