-- The typing of annotations (ACSL 2.2, 2.3, 2.4.3, 2.7), after that of the text's C: of each form that is read, whether it is a term, of unbounded
-- integers or of pointers, a predicate, or a place, which a term reads and `&` and `.` take as it is. A name denotes an object that is in sight where
-- the annotation stands, or an integer that an enumerator or a constant of the library stands for; `NULL` is a null pointer. In the typed tree each
-- use has its declaration, each place and each pointer its type, each step of a pointer the size of its elements, each member its offset, and each
-- constant is its value. Where C99 has a form too, the demands are those of its expressions (6.5.2.1, 6.5.2.3, 6.5.3.2, 6.5.6), with one aside: any two
-- pointers are compared, and a literal of value 0 is a null pointer beside one.
-- A term at a label is typed with what is in sight there. A parameter in an `ensures` has its value at the beginning of the call, and is no place.
-- A binder is an integer. The bounds in a guard see the binders of the chains before, what stands behind the guard sees all of them.
-- Faults are of code 5 for a name and for a struct whose members aren't known, of code 6 for a sort or a type, of code 8 for a quantifier without a guard,
-- of code 9 for a label or for what may not stand under one, of code 11 for a type that passes a limit: also where a size, an alignment or an offset is
-- kept, whose types are within limits by their declarations.
use Rattle.std.specs.Prelude.{ℕ, ℤ, pos, List, [], ◌∷◌, Option, Some, None, Bool, true, false, not, ◌||◌, ◌&&◌, cond, nat_le, nat_eq}
use Rattle.std.specs.Ordering.{int_eq}
use Rattle.c_syntax.specs.declared.place.Place.{Place}
use Rattle.c_syntax.specs.declared.types.CInt.TheVariants.{I8}
use Rattle.c_syntax.specs.declared.annotation.Kind.{Kind}
use Rattle.c_syntax.specs.declared.annotation.Kind.TheVariants.{Variant}
use Rattle.c_syntax.specs.declared.expression.BinOp.{BinOp}
use Rattle.c_syntax.specs.declared.expression.BinOp.TheVariants as operator
use Rattle.c_syntax.specs.declared.expression.UnOp.{UnOp}
use Rattle.c_syntax.specs.declared.expression.UnOp.TheVariants as unary
use Rattle.c_syntax.specs.declared.logic.BlockFact.{BlockFact}
use Rattle.c_syntax.specs.declared.logic.BlockFact.TheVariants.{BaseAddr, BlockLength, Offset}
use Rattle.c_syntax.specs.RefusalCodes.{label_code}
use Rattle.c_syntax.specs.declared.expression.Use.{Use}
use Rattle.c_syntax.specs.declared.logic.Connective.{Connective}
use Rattle.c_syntax.specs.declared.logic.Connective.TheVariants.{And}
use Rattle.c_syntax.specs.declared.logic.Label.{Label}
use Rattle.c_syntax.specs.declared.logic.Label.TheVariants.{Pre}
use Rattle.c_syntax.specs.declared.logic.MemoryQuestion.{MemoryQuestion}
use Rattle.c_syntax.specs.declared.logic.MemoryQuestion.TheVariants.{Valid, ValidRead, Initialized}
use Rattle.c_syntax.specs.declared.logic.Quantifier.{Quantifier}
use Rattle.c_syntax.specs.declared.logic.PointerOp.{PointerOp}
use Rattle.c_syntax.specs.declared.logic.PointerOp.TheVariants.{Plus, Minus}
use Rattle.c_syntax.specs.Ctypes.{PlainType, Void, Int, Ptr}
use Rattle.c_syntax.specs.Programs.{StructMember}
use Rattle.c_syntax.specs.Formulas as read
use Rattle.c_syntax.specs.Formulas.{CastType, Integers, OfC, Form, FormLinks, FormZone, FormZones}
use Rattle.c_syntax.specs.Logic.{LogicTerm, Number, Letter, Variable, Unary, Binary, Cast, Choice, Named, Links, NoLink, Linked, Predicate, Truth, NonZero}
use Rattle.c_syntax.specs.Logic.{Chain, Not, Connected, Branch, ClauseBody, Raw, Holds, Value, Annotation, At, Behaviors, Null, Deref, Member, Address, Moved}
use Rattle.c_syntax.specs.Logic.{Difference, Told, Asks, Separated, Zone, Object, Elements, Zones, NoZone, Another, Quantified}
use Rattle.c_syntax.specs.Layouts.{size_of, align_of, member_among, members_of}
use Rattle.c_model.specs.Integers.{integer_type}
use Rattle.c_model.specs.Library.{library_constant}
use Rattle.c_model.specs.Checked.{Fault, Checked, Good, Bad, faulty, given, where_so, one_part, pair_of}
use Rattle.c_model.specs.ContractChecks.{result_number}
use Rattle.c_model.specs.AnnotationSights.{ClauseSight, InBody, AtEntry, AtEnd, UnderLabel, AnnotationSight, formals_in, sight_at, label_named, is_past}
use Rattle.c_model.specs.AnnotationSights.{with_binders, binder_named}
use Rattle.c_model.specs.QuantifierGuards.{mentions_any, is_guarded, left_behind, guarded_by}
use Rattle.c_model.specs.QuantifierTyping.{Conjuncts, no_guard, binder_type, conjunction, other_conjunct, bound_at, chain_conjunct, quantified}
pub use Rattle.c_model.specs.FormSorts.{Sorted, ATerm, APredicate, APlace, range_to_infer, place_of_term, place_of_predicate, type_of_term, ValueSort}
pub use Rattle.c_model.specs.FormSorts.{AnInteger, APointer, NoValue, sort_of_type, sort_of, sort_of_term, sort_of_sorted, is_integer, pointee}
pub use Rattle.c_model.specs.FormSorts.{as_value, value_in, as_term, as_integer, as_pointer, integer_holds, as_predicate}
use Rattle.c_model.specs.ExpressionTyping as c
use Rattle.c_model.specs.ExpressionTyping.{no_name, no_type, AnObject, AnEnumerator, Sight, name_at, entity_named, use_as, same_type, is_void, is_unknown}
use Rattle.c_model.specs.ExpressionTyping.{limited, known_type, typed_type, sized, where_sized, most_bytes, too_large, is_struct, is_scalar, is_null_word}
use Rattle.c_model.specs.ExpressionTyping.{is_among}

-- ---- names

abbrev pub variable : Place → ℕ → c.Object → LogicTerm
variable at x b = Variable at (Some b.ctype) range_to_infer (use_as x b.decl)

-- a parameter in an `ensures` is read at the beginning of the call (ACSL 2.3.2), where what is under a label is evaluated
abbrev pub formal_value : ClauseSight → LogicTerm → LogicTerm
formal_value (InBody s) t = t
formal_value AtEntry t = t
formal_value (AtEnd formals result) t = At (place_of_term t) (type_of_term t) range_to_infer Pre t
formal_value (UnderLabel formals) t = t

abbrev pub object_place : ClauseSight → Place → ℕ → c.Object → Sorted
object_place k at x b = cond (is_among b.decl (formals_in k)) (ATerm (formal_value k (variable at x b))) (APlace (variable at x b))

abbrev pub number : Place → ℤ → Sorted
number at n = ATerm (Number at None range_to_infer n)

abbrev pub null : Place → Sorted
null at = ATerm (Null at (Some (Ptr Void)) range_to_infer)

-- a name of the library: a constant, or `NULL`
abbrev pub library_term : Sight → Place → ℕ → Checked Sorted
library_term s at x = elim (library_constant (name_at s.names x)) [
  | Some k ↦ Good (number at k.1)
  | None ↦ cond (is_null_word s x) (Good (null at)) (faulty (no_name at))
]

-- a name of C; that of a function has no meaning in annotations
abbrev pub named_in_c : AnnotationSight → Place → ℕ → Checked Sorted
named_in_c s at x = elim (entity_named x s.here.entities) [
  | Some e ↦ elim e [ AnObject b ↦ Good (object_place s.clause at x b) | AnEnumerator k ↦ Good (number at k.value) ]
  | None ↦ library_term s.here at x
]

-- a binder, by its number, which is the offset of its declaration
abbrev pub bound : Place → ℕ → Place → Sorted
bound at x place = ATerm (Named at None range_to_infer (use_as x place.offset))

-- a name; a binder hides what has its name
abbrev pub term_named : AnnotationSight → Place → ℕ → Checked Sorted
term_named s at x = elim (binder_named x s.binders) [ Some place ↦ Good (bound at x place) | None ↦ named_in_c s at x ]

-- ---- the result of a function (ACSL 2.3.1)

-- its number is no declaration's
abbrev pub result_use : Use
result_use = use_as result_number result_number

abbrev pub result_of : Place → PlainType → Checked Sorted
result_of at t = where_so (not (is_void t)) (no_type at) (Good (ATerm (Named at (Some t) range_to_infer result_use)))

-- `\result`, in an `ensures` of a function that gives a value
abbrev pub result_in : ClauseSight → Place → Checked Sorted
result_in (InBody s) at = faulty (no_type at)
result_in AtEntry at = faulty (no_type at)
result_in (AtEnd formals t) at = result_of at t
result_in (UnderLabel formals) at = faulty (no_type at)

-- ---- terms at labels (ACSL 2.4.3)

abbrev pub no_label : Place → Fault
no_label at = record { code = label_code; place = at }

-- whether `\old` or `\at`, or one of them or `\result`, stands in a form
abbrev mutual
  pub has_past : Bool → Form → Bool
  has_past b (read.Number at n) = false
  has_past b (read.Letter at n) = false
  has_past b (read.Truth at v) = false
  has_past b (read.Name at x) = false
  has_past b (read.Unary at op a) = has_past b a
  has_past b (read.Binary at op a c) = has_past b a || has_past b c
  has_past b (read.Cast at to a) = has_past b a
  has_past b (read.SizeOf at u) = false
  has_past b (read.Chain at a links) = has_past b a || links_have_past b links
  has_past b (read.Connected at k a c) = has_past b a || has_past b c
  has_past b (read.Choice at k a c) = has_past b k || has_past b a || has_past b c
  has_past b (read.Null at) = false
  has_past b (read.Index at a c) = has_past b a || has_past b c
  has_past b (read.Dot at a m) = has_past b a
  has_past b (read.Arrow at a m) = has_past b a
  has_past b (read.Told at f a) = has_past b a
  has_past b (read.Asks at q z) = zone_has_past b z
  has_past b (read.Separated at zs) = zones_have_past b zs
  has_past b (read.Result at) = b
  has_past b (read.Old at a) = true
  has_past b (read.At at a place l) = true
  has_past b (read.Quantified at q to names a) = has_past b a

  pub links_have_past : Bool → FormLinks → Bool
  links_have_past b read.NoLink = false
  links_have_past b (read.Linked at r a rest) = has_past b a || links_have_past b rest

  pub zone_has_past : Bool → FormZone → Bool
  zone_has_past b (read.Object a) = has_past b a
  zone_has_past b (read.Elements at a lo hi) = has_past b a || has_past b lo || has_past b hi

  pub zones_have_past : Bool → FormZones → Bool
  zones_have_past b read.NoZone = false
  zones_have_past b (read.Another z rest) = zone_has_past b z || zones_have_past b rest

-- what may not stand under a label where `\result` may not either, or may: one of those, or a binder
abbrev pub is_refused : AnnotationSight → Form → Bool → Bool
is_refused s f b = has_past b f || mentions_any s.binders f

-- a term where `\old` or `\at` stands at this place
abbrev pub at_label : Place → Label → Sorted → Checked Sorted
at_label at l a = one_part (as_term at a) (λ t. Good (ATerm (At at (type_of_term t) range_to_infer l t)))

-- `\old` stands in an `ensures`
abbrev pub has_old : ClauseSight → Bool
has_old (InBody v) = false
has_old AtEntry = false
has_old (AtEnd formals t) = true
has_old (UnderLabel formals) = false

-- a form at this label, by what typing makes of it in a sight
abbrev pub where_seen : AnnotationSight → Label → Place → (AnnotationSight → Checked Sorted) → Checked Sorted
where_seen s l at k = given (sight_at s l) (no_label at) (λ u. one_part (value_in (k u)) (at_label at l))

-- a form at a label whose name stands at the second place, where it isn't refused for what stands in it
abbrev pub labelled : AnnotationSight → Place → Place → Option Label → (Bool → Bool) → (AnnotationSight → Checked Sorted) → Checked Sorted
labelled s at place None refused k = where_so (not (refused true)) (no_label at) (one_part (value_in (k s)) (λ a. faulty (no_label place)))
labelled s at place (Some l) refused k = where_so (not (refused (is_past l))) (no_label at) (where_seen s l at k)

-- ---- operators on integers

abbrev pub on_integer : Place → UnOp → Sorted → Checked Sorted
on_integer at op a = one_part (as_integer at a) (λ t. Good (ATerm (Unary at None range_to_infer op t)))

abbrev pub on_integers : Place → BinOp → Sorted → Sorted → Checked Sorted
on_integers at op a b = one_part (as_integer at a) (λ t. one_part (as_integer at b) (λ u. Good (ATerm (Binary at None range_to_infer op t u))))

-- ---- sizes that trees keep

-- an alignment of a type of C (C99 3.2)
abbrev pub is_alignment : ℕ → Bool
is_alignment n = nat_eq n 1 || nat_eq n 2 || nat_eq n 4 || nat_eq n 8

abbrev pub is_measured : Sight → PlainType → Bool
is_measured s u = nat_le 1 (size_of s.structs u) && nat_le (size_of s.structs u) most_bytes && is_alignment (align_of s.structs u)

-- goes on with a type whose size and alignment are kept
abbrev pub where_measured : {A : Type 0} → Sight → Place → PlainType → Checked A → Checked A
where_measured s at u c = where_sized s at u (where_so (is_measured s u) (too_large at) c)

-- ---- places

-- what a pointer points to, unless that is void
abbrev pub deref : Place → Sorted → Checked Sorted
deref at a = one_part (as_pointer at a) (λ p. where_so (not (is_void p.0)) (no_type at) (Good (APlace (Deref at (Some p.0) range_to_infer p.1))))

-- a pointer to a place
abbrev pub address_at : Place → LogicTerm → PlainType → Checked Sorted
address_at at t u = Good (ATerm (Address at (Some (Ptr u)) range_to_infer t))

abbrev pub address : Place → Sorted → Checked Sorted
address at (ATerm t) = faulty (no_type at)
address at (APredicate p) = faulty (no_type at)
address at (APlace t) = given (type_of_term t) (no_type at) (address_at at t)

-- the place of a member in that of a struct
abbrev pub member_at : Place → LogicTerm → StructMember → Checked Sorted
member_at at t f = where_so (nat_le f.offset most_bytes) (too_large at) (Good (APlace (Member at (Some f.ctype) range_to_infer f.offset t)))

-- a member of the struct of this type, whose place is given
abbrev pub member_of : Sight → Place → ℕ → LogicTerm → PlainType → Checked Sorted
member_of s at m t u =
    where_so (is_struct u) (no_type at) (where_sized s at u (
    given (member_among m (members_of s.structs u)) (no_name at) (member_at at t)))

abbrev pub dot : Sight → Place → ℕ → Sorted → Checked Sorted
dot s at m (ATerm t) = faulty (no_type at)
dot s at m (APredicate p) = faulty (no_type at)
dot s at m (APlace t) = given (type_of_term t) (no_type at) (member_of s at m t)

-- `p->m` is `(*p).m`
abbrev pub arrow : Sight → Place → ℕ → Sorted → Checked Sorted
arrow s at m a = one_part (as_pointer at a) (λ p. member_of s at m (Deref at (Some p.0) range_to_infer p.1) p.0)

-- ---- pointers that go on by elements

-- so many elements on, or back
abbrev pub moved : Sight → Place → PointerOp → PlainType → LogicTerm → LogicTerm → LogicTerm
moved s at op u p i = Moved at (Some (Ptr u)) range_to_infer op (size_of s.structs u) p i

abbrev pub stepped : Sight → Place → PointerOp → PlainType → LogicTerm → LogicTerm → Checked Sorted
stepped s at op u p i = where_measured s at u (Good (ATerm (moved s at op u p i)))

-- two pointers to one type
abbrev pub distance : Sight → Place → PlainType → PlainType → LogicTerm → LogicTerm → Checked Sorted
distance s at u v p q =
    where_so (same_type u v) (no_type at) (where_measured s at u (Good (ATerm (Difference at None range_to_infer (size_of s.structs u) p q))))

abbrev pub points_to_unknown : Sight → ValueSort → Bool
points_to_unknown s AnInteger = false
points_to_unknown s (APointer t) = is_unknown (sized s.structs t)
points_to_unknown s NoValue = false

-- whether what pointers among two operands point to is known
abbrev pub are_known : Sight → Sorted → Sorted → Bool
are_known s a b = not (points_to_unknown s (sort_of_sorted a) || points_to_unknown s (sort_of_sorted b))

-- goes on with two terms of which that is so; of two demands at one place that of names comes first
abbrev pub with_terms : Sight → Place → Sorted → Sorted → (LogicTerm → LogicTerm → Checked Sorted) → Checked Sorted
with_terms s at a b k = where_so (are_known s a b) (no_name at) (one_part (as_term at a) (λ t. one_part (as_term at b) (k t)))

-- the sum of two terms: of integers, or of a pointer and an integer, where the pointer comes first in the tree
abbrev pub sum_of : Sight → Place → LogicTerm → LogicTerm → ValueSort → ValueSort → Checked Sorted
sum_of s at t u AnInteger AnInteger = Good (ATerm (Binary at None range_to_infer operator.Add t u))
sum_of s at t u (APointer v) AnInteger = stepped s at Plus v t u
sum_of s at t u AnInteger (APointer v) = stepped s at Plus v u t
sum_of s at t u (APointer v) (APointer w) = faulty (no_type at)
sum_of s at t u NoValue b = faulty (no_type at)
sum_of s at t u AnInteger NoValue = faulty (no_type at)
sum_of s at t u (APointer v) NoValue = faulty (no_type at)

-- their difference: of integers, of a pointer and an integer, or of two pointers
abbrev pub difference_of : Sight → Place → LogicTerm → LogicTerm → ValueSort → ValueSort → Checked Sorted
difference_of s at t u AnInteger AnInteger = Good (ATerm (Binary at None range_to_infer operator.Sub t u))
difference_of s at t u (APointer v) AnInteger = stepped s at Minus v t u
difference_of s at t u (APointer v) (APointer w) = distance s at v w t u
difference_of s at t u AnInteger (APointer v) = faulty (no_type at)
difference_of s at t u NoValue b = faulty (no_type at)
difference_of s at t u AnInteger NoValue = faulty (no_type at)
difference_of s at t u (APointer v) NoValue = faulty (no_type at)

abbrev pub sum : Sight → Place → Sorted → Sorted → Checked Sorted
sum s at a b = with_terms s at a b (λ t u. sum_of s at t u (sort_of_term t) (sort_of_term u))

abbrev pub difference : Sight → Place → Sorted → Sorted → Checked Sorted
difference s at a b = with_terms s at a b (λ t u. difference_of s at t u (sort_of_term t) (sort_of_term u))

-- `p[i]` is `*(p + i)`, where either side is the pointer
abbrev pub element : Sight → Place → PlainType → LogicTerm → LogicTerm → Checked Sorted
element s at u p i = where_measured s at u (Good (APlace (Deref at (Some u) range_to_infer (moved s at Plus u p i))))

abbrev pub element_of : Sight → Place → LogicTerm → LogicTerm → ValueSort → ValueSort → Checked Sorted
element_of s at t u (APointer v) AnInteger = element s at v t u
element_of s at t u AnInteger (APointer v) = element s at v u t
element_of s at t u AnInteger AnInteger = faulty (no_type at)
element_of s at t u (APointer v) (APointer w) = faulty (no_type at)
element_of s at t u NoValue b = faulty (no_type at)
element_of s at t u AnInteger NoValue = faulty (no_type at)
element_of s at t u (APointer v) NoValue = faulty (no_type at)

abbrev pub index : Sight → Place → Sorted → Sorted → Checked Sorted
index s at a b = with_terms s at a b (λ t u. element_of s at t u (sort_of_term t) (sort_of_term u))

-- ---- operators

abbrev pub unary_on : Place → UnOp → Sorted → Checked Sorted
unary_on at unary.Plus a = one_part (as_value a) (on_integer at unary.Plus)
unary_on at unary.Minus a = one_part (as_value a) (on_integer at unary.Minus)
unary_on at unary.Flip a = one_part (as_value a) (on_integer at unary.Flip)
unary_on at unary.Not a = one_part (as_value a) (λ v. one_part (as_predicate at v) (λ p. Good (APredicate (Not at p))))
unary_on at unary.Deref a = one_part (as_value a) (deref at)
unary_on at unary.Address a = address at a

abbrev pub binary_on : Sight → Place → BinOp → Sorted → Sorted → Checked Sorted
binary_on s at operator.Add a b = sum s at a b
binary_on s at operator.Sub a b = difference s at a b
binary_on s at op a b = on_integers at op a b

-- ---- casts and sizes

-- a cast of an integer (ACSL 2.2.3), to the unbounded integers or to an integer type of C
abbrev pub cast_integer : Place → CastType → Sorted → Checked Sorted
cast_integer at to a = one_part (as_integer at a) (λ t. Good (ATerm (Cast at None range_to_infer to t)))

-- a cast of a pointer, to a type of pointers
abbrev pub cast_pointer : Place → PlainType → Sorted → Checked Sorted
cast_pointer at u a = one_part (as_pointer at a) (λ p. Good (ATerm (Cast at (Some (Ptr u)) range_to_infer (OfC (Ptr u)) p.1)))

abbrev pub cast : Place → PlainType → Sorted → Checked Sorted
cast at to a = elim (integer_type to) [ Some k ↦ cast_integer at (OfC to) a | None ↦ given (c.pointed to) (no_type at) (λ u. cast_pointer at u a) ]

-- the size of a type that has one (C99 6.5.3.4)
abbrev pub size_in : Sight → Place → PlainType → Checked Sorted
size_in s at u = where_sized s at u (Good (number at (pos (size_of s.structs u))))

-- ---- what joins predicates

abbrev pub connected : Place → Connective → Sorted → Sorted → Checked Sorted
connected at k a b = one_part (as_predicate at a) (λ p. one_part (as_predicate at b) (λ q. Good (APredicate (Connected at k p q))))

-- a choice between terms is one: of two integers, or of two pointers to one type, or of which one points to void
abbrev pub integer_choice : Place → Predicate → LogicTerm → LogicTerm → Sorted
integer_choice at p t u = ATerm (Choice at None range_to_infer p t u)

abbrev pub choice_target : PlainType → PlainType → Option PlainType
choice_target v w = cond (same_type v w || is_void w) (Some v) (cond (is_void v) (Some w) None)

abbrev pub pointer_choice : Place → Predicate → LogicTerm → LogicTerm → PlainType → Sorted
pointer_choice at p t u v = ATerm (Choice at (Some (Ptr v)) range_to_infer p t u)

abbrev pub choice_of_terms : Place → Predicate → LogicTerm → LogicTerm → ValueSort → ValueSort → Checked Sorted
choice_of_terms at p t u AnInteger AnInteger = Good (integer_choice at p t u)
choice_of_terms at p t u (APointer v) (APointer w) = given (choice_target v w) (no_type at) (λ x. Good (pointer_choice at p t u x))
choice_of_terms at p t u AnInteger (APointer v) = faulty (no_type at)
choice_of_terms at p t u (APointer v) AnInteger = faulty (no_type at)
choice_of_terms at p t u NoValue b = faulty (no_type at)
choice_of_terms at p t u AnInteger NoValue = faulty (no_type at)
choice_of_terms at p t u (APointer v) NoValue = faulty (no_type at)

abbrev pub branch : Place → Predicate → Sorted → Sorted → Checked Sorted
branch at p a b = one_part (as_predicate at a) (λ q. one_part (as_predicate at b) (λ r. Good (APredicate (Branch at p q r))))

-- the first quantifier of a predicate; a term has none
abbrev pub quantifier_in : Predicate → Option Place
quantifier_in (Truth at b) = None
quantifier_in (NonZero at t) = None
quantifier_in (Chain at t links) = None
quantifier_in (Not at p) = quantifier_in p
quantifier_in (Connected at k p q) = c.or_else (quantifier_in p) (quantifier_in q)
quantifier_in (Branch at k p q) = c.or_else (quantifier_in k) (c.or_else (quantifier_in p) (quantifier_in q))
quantifier_in (Quantified at q gs p) = Some at
quantifier_in (Asks at f z) = None
quantifier_in (Separated at zs) = None

-- goes on with a condition that takes no steps
abbrev pub where_quiet : {A : Type 0} → Predicate → Checked A → Checked A
where_quiet p k = elim (quantifier_in p) [ None ↦ k | Some at ↦ faulty (no_type at) ]

-- a choice is a term where both parts are terms, which are values here; the condition of one has no quantifier
abbrev pub choice_between : Place → Predicate → Sorted → Sorted → Checked Sorted
choice_between at p (ATerm t) (ATerm u) = where_quiet p (choice_of_terms at p t u (sort_of_term t) (sort_of_term u))
choice_between at p a b = branch at p a b

abbrev pub chosen : Place → Sorted → Sorted → Sorted → Checked Sorted
chosen at k a b = one_part (as_predicate at k) (λ p. choice_between at p a b)

-- ---- relations

-- what a side of a relation is; one with a fault goes with any
pub data Side : Type 0 where
  AnySide : Side
  IntegerSide : Side
  -- a literal of value 0, in any parentheses
  ZeroSide : Side
  PointerSide : Side
  -- a predicate, or what is no value
  OtherSide : Side

abbrev pub side_of_sort : ValueSort → Side
side_of_sort AnInteger = IntegerSide
side_of_sort (APointer t) = PointerSide
side_of_sort NoValue = OtherSide

abbrev pub side_of_sorted : Sorted → Side
side_of_sorted a = side_of_sort (sort_of_sorted a)

abbrev pub side_of_value : Checked Sorted → Side
side_of_value (Good a) = side_of_sorted a
side_of_value (Bad f fs) = AnySide

-- a form that typing makes this of
abbrev pub side_of : Form → Checked Sorted → Side
side_of (read.Number at n) v = cond (int_eq n (pos 0)) ZeroSide (side_of_value v)
side_of f v = side_of_value v

abbrev pub are_related : Side → Side → Bool
are_related AnySide b = true
are_related OtherSide b = false
are_related a AnySide = true
are_related a OtherSide = false
are_related IntegerSide PointerSide = false
are_related PointerSide IntegerSide = false
are_related a b = true

-- the right side of a relation, which is this one, as its left side wants it
abbrev pub right_side : Place → Side → Side → Sorted → Checked LogicTerm
right_side at left right b = where_so (are_related left right) (no_type at) (as_term at b)

-- a chain has a relation
abbrev pub related : Place → Sorted → Links → Checked Sorted
related at a NoLink = faulty (no_type at)
related at a (Linked place r b rest) = one_part (as_term at a) (λ t. Good (APredicate (Chain at t (Linked place r b rest))))

-- ---- questions about memory

-- any pointer
abbrev pub told_type : BlockFact → Option PlainType
told_type BaseAddr = Some (Ptr (Int I8))
told_type BlockLength = None
told_type Offset = None

abbrev pub told : Place → BlockFact → Sorted → Checked Sorted
told at f a = one_part (as_pointer at a) (λ p. Good (ATerm (Told at (told_type f) range_to_infer f p.1)))

-- goes on where a question may be asked of what a pointer points to: of bytes of a known size, `\initialized` of a scalar
abbrev pub where_asked : {A : Type 0} → Sight → Place → MemoryQuestion → PlainType → Checked A → Checked A
where_asked s at Valid u k = where_measured s at u k
where_asked s at ValidRead u k = where_measured s at u k
where_asked s at Initialized u k = where_so (is_scalar u) (no_type at) (where_measured s at u k)

-- `\separated` asks as `\valid_read` does
abbrev pub object_zone : Sight → MemoryQuestion → Place → Sorted → Checked Zone
object_zone s q at a =
    one_part (as_pointer at a) (λ p.
    where_asked s at q p.0 (Good (Object (place_of_term p.1) (size_of s.structs p.0) (align_of s.structs p.0) p.1)))

abbrev pub elements_zone : Sight → MemoryQuestion → Place → Sorted → Sorted → Sorted → Checked Zone
elements_zone s q at a lo hi =
    one_part (as_pointer at a) (λ p. where_asked s at q p.0 (one_part (as_integer at lo) (λ l. one_part (as_integer at hi) (λ h.
    Good (Elements at (size_of s.structs p.0) (align_of s.structs p.0) p.1 l h)))))

-- ---- forms

abbrev mutual
  pub typed_form : AnnotationSight → Form → Checked Sorted
  typed_form s (read.Number at n) = Good (number at n)
  typed_form s (read.Letter at n) = Good (ATerm (Letter at None range_to_infer n))
  typed_form s (read.Truth at b) = Good (APredicate (Truth at b))
  typed_form s (read.Name at x) = term_named s at x.name
  typed_form s (read.Unary at op a) = one_part (typed_form s a) (unary_on at op)
  typed_form s (read.Binary at op a b) =
      one_part (pair_of (value_in (typed_form s a)) (value_in (typed_form s b))) (λ p. binary_on s.here at op p.0 p.1)
  typed_form s (read.Cast at Integers a) = one_part (value_in (typed_form s a)) (cast_integer at Integers)
  typed_form s (read.Cast at (OfC to) a) =
      limited s.here at (known_type s.here to) (one_part (pair_of (typed_type s.here at to) (value_in (typed_form s a))) (λ p. cast at p.0 p.1))
  typed_form s (read.SizeOf at u) = limited s.here at (known_type s.here u) (one_part (typed_type s.here at u) (size_in s.here at))
  typed_form s (read.Chain at a links) =
      one_part (pair_of (value_in (typed_form s a)) (typed_links s (side_of a (value_in (typed_form s a))) links)) (λ p. related at p.0 p.1)
  typed_form s (read.Connected at k a b) = one_part (pair_of (value_in (typed_form s a)) (value_in (typed_form s b))) (λ p. connected at k p.0 p.1)
  typed_form s (read.Choice at k a b) =
      one_part (pair_of (value_in (typed_form s k)) (pair_of (value_in (typed_form s a)) (value_in (typed_form s b)))) (λ p. chosen at p.0 (p.1).0 (p.1).1)
  typed_form s (read.Null at) = Good (null at)
  typed_form s (read.Index at a b) = one_part (pair_of (value_in (typed_form s a)) (value_in (typed_form s b))) (λ p. index s.here at p.0 p.1)
  typed_form s (read.Dot at a m) = one_part (typed_form s a) (dot s.here at m)
  typed_form s (read.Arrow at a m) = one_part (value_in (typed_form s a)) (arrow s.here at m)
  typed_form s (read.Told at f a) = one_part (value_in (typed_form s a)) (told at f)
  typed_form s (read.Asks at q z) = one_part (typed_zone s q at z) (λ z. Good (APredicate (Asks at q z)))
  typed_form s (read.Separated at zs) = one_part (typed_zones s at zs) (λ zs. Good (APredicate (Separated at zs)))
  typed_form s (read.Result at) = result_in s.clause at
  typed_form s (read.Old at a) =
      where_so (has_old s.clause) (no_label at) (labelled s at at (Some Pre) (is_refused s a) (λ u. typed_form u a))
  typed_form s (read.At at a place l) = labelled s at place (label_named s l) (is_refused s a) (λ u. typed_form u a)
  typed_form s (read.Quantified at q to names a) =
      where_so (is_guarded q names a) (no_guard at) (one_part (binder_type s.here at to) (λ k. typed_quantified s at q k names a))

  -- what a quantifier at this place says of binders of this type
  pub typed_quantified : AnnotationSight → Place → Quantifier → CastType → List (Place × ℕ) → Form → Checked Sorted
  typed_quantified s at q k bs (read.Connected place j a b) =
      quantified at place q j (typed_conjuncts s at k bs place a (typed_form s a))
      (let u = with_binders s (guarded_by bs a) in typed_conjuncts u at k (left_behind bs a) place b (typed_form u b))
      (value_in (typed_form (with_binders s bs) b))
  typed_quantified s at q k bs f = faulty (no_guard at)

  -- a part of the conjuncts of the quantifier at the first place, with these of its binders left: an operand of what stands at the second place, of which
  -- typing as a form makes this
  pub typed_conjuncts : AnnotationSight → Place → CastType → List (Place × ℕ) → Place → Form → Checked Sorted → Checked Conjuncts
  typed_conjuncts s at k bs place (read.Connected here And a b) typed =
      conjunction here (typed_conjuncts s at k bs here a (typed_form s a))
      (let u = with_binders s (guarded_by bs a) in typed_conjuncts u at k (left_behind bs a) here b (typed_form u b))
  typed_conjuncts s at k bs place (read.Chain here a links) typed =
      chain_conjunct at k bs place links (bound_at here (typed_form s a)) (typed_upper s at links) typed
  typed_conjuncts s at k bs place f typed = other_conjunct at bs place typed

  -- the last form of a chain in the guard of the quantifier at this place
  pub typed_upper : AnnotationSight → Place → FormLinks → Checked LogicTerm
  typed_upper s at read.NoLink = faulty (no_guard at)
  typed_upper s at (read.Linked place r a read.NoLink) = bound_at place (typed_form s a)
  typed_upper s at (read.Linked place r a rest) = typed_upper s at rest

  -- the relations of a chain behind a side; each wants sides that go together, where its right one has no fault, and all faults of its left side
  -- come before it
  pub typed_links : AnnotationSight → Side → FormLinks → Checked Links
  typed_links s left read.NoLink = Good NoLink
  typed_links s left (read.Linked at r b rest) =
      one_part (pair_of (one_part (value_in (typed_form s b)) (right_side at left (side_of b (value_in (typed_form s b)))))
      (typed_links s (side_of b (value_in (typed_form s b))) rest)) (λ p. Good (Linked at r p.0 p.1))

  -- the zone of a predicate whose word stands at this place
  pub typed_zone : AnnotationSight → MemoryQuestion → Place → FormZone → Checked Zone
  typed_zone s q at (read.Object a) = one_part (value_in (typed_form s a)) (object_zone s.here q at)
  typed_zone s q at (read.Elements plus a lo hi) =
      one_part (pair_of (value_in (typed_form s a)) (pair_of (value_in (typed_form s lo)) (value_in (typed_form s hi)))) (λ p.
      elements_zone s.here q plus p.0 (p.1).0 (p.1).1)

  pub typed_zones : AnnotationSight → Place → FormZones → Checked Zones
  typed_zones s at read.NoZone = Good NoZone
  typed_zones s at (read.Another z rest) = one_part (pair_of (typed_zone s ValidRead at z) (typed_zones s at rest)) (λ p. Good (Another p.0 p.1))

-- ---- clauses

-- a pointer is a fault at its own place
abbrev pub clause_holds : Sorted → Checked Predicate
clause_holds (ATerm t) = integer_holds (place_of_term t) t
clause_holds (APredicate p) = Good p
clause_holds (APlace t) = integer_holds (place_of_term t) t

-- a variant is an integer; what isn't one is a fault at its own place
abbrev pub integer_value : LogicTerm → Checked LogicTerm
integer_value t = where_so (is_integer (sort_of_term t)) (no_type (place_of_term t)) (Good t)

abbrev pub variant_value : Sorted → Checked LogicTerm
variant_value (ATerm t) = integer_value t
variant_value (APredicate p) = faulty (no_type (place_of_predicate p))
variant_value (APlace t) = integer_value t

-- what a clause of this kind says: a variant is a term, and all others are predicates
abbrev pub said : Kind → Sorted → Checked ClauseBody
said Variant a = one_part (variant_value a) (λ t. Good (Value t))
said k a = one_part (clause_holds a) (λ p. Good (Holds p))

abbrev pub typed_clause : AnnotationSight → Kind → ClauseBody → Checked ClauseBody
typed_clause s k (Raw f) = one_part (value_in (typed_form s f)) (said k)
typed_clause s k (Holds p) = Good (Holds p)
typed_clause s k (Value t) = Good (Value t)
typed_clause s k (Behaviors names) = Good (Behaviors names)

abbrev pub typed_annotations : AnnotationSight → List Annotation → Checked (List Annotation)
typed_annotations s [] = Good []
typed_annotations s (a ∷ rest) =
    one_part (typed_clause s a.kind a.body) (λ b. one_part (typed_annotations s rest) (λ rest. Good (record a { body = b } ∷ rest)))
