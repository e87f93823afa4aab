-- Ours: the inference of ranges, after typing. No standard bounds the integers of annotations.
-- The range of each term of a predicate (its operators are those of ACSL 2.2), or the faults of the smallest terms that have none, with code 10.
use Rattle.std.specs.Prelude.{◌≡◌, ℕ, ◌-◌, ◌^◌, ℤ, pos, neg_ℤ, ◌+ℤ◌, ◌-ℤ◌, Bool, true, ◌&&◌, if◌then◌else◌, cond, nat_eq, int_le, List, [], ◌∷◌, Option, Some}
use Rattle.std.specs.Prelude.{None, false}
use Rattle.std.specs.Int.{int_min, int_max}
use Rattle.c_syntax.specs.RefusalCodes.{range_code}
use Rattle.c_syntax.specs.declared.place.Place.{Place}
use Rattle.c_syntax.specs.declared.annotation.Range.{Range}
use Rattle.c_syntax.specs.declared.expression.BinOp.{BinOp}
use Rattle.c_syntax.specs.declared.expression.BinOp.TheVariants as operator
use Rattle.c_syntax.specs.declared.expression.UnOp.{UnOp}
use Rattle.c_syntax.specs.declared.expression.UnOp.TheVariants as unary
use Rattle.c_syntax.specs.declared.types.CInt.{CInt}
use Rattle.c_syntax.specs.declared.logic.BlockFact.{BlockFact}
use Rattle.c_syntax.specs.declared.logic.BlockFact.TheVariants.{BaseAddr, BlockLength, Offset}
use Rattle.c_syntax.specs.declared.logic.PointerOp.{PointerOp}
use Rattle.c_syntax.specs.declared.logic.PointerOp.TheVariants.{Plus, Minus}
use Rattle.c_syntax.specs.Ctypes.{PlainType, Void, Int, Ptr, Array, Struct, StructTag, EnumTag}
use Rattle.c_syntax.specs.Ctypes as ctype
use Rattle.c_syntax.specs.Formulas.{CastType, Integers, OfC}
use Rattle.c_syntax.specs.Logic.{LogicTerm, Number, Letter, Variable, Unary, Binary, Cast, Choice, Named, Links, NoLink, Linked, range_of, Predicate, Truth}
use Rattle.c_syntax.specs.Logic.{NonZero, Chain, Not, Connected, Branch, Quantified, Binder, Guards, NoGuard, Guarded, ClauseBody, Raw, Holds, Value}
use Rattle.c_syntax.specs.Logic.{Annotation, At, Behaviors, Null, Deref, Member, Address, Moved, Difference, Told, Asks, Separated, Zone, Object, Elements}
use Rattle.c_syntax.specs.Logic.{Zones, NoZone, Another}
use Rattle.c_model.specs.Checked.{Fault, Checked, Good, one_part, both_parts, pair_of, given, where_so}
use Rattle.c_model.specs.Integers.{integer_type, is_signed, value_bits}
use Rattle.c_model.specs.Ranges.{from_to, bounded, range_in_bits, sum_range, difference_range, negation_range, complement_range, product_range, quotient_range}
use Rattle.c_model.specs.Ranges.{remainder_range, shift_left_range, shift_right_range, bitwise_and_range, bitwise_or_range, bitwise_xor_range}

-- ---- the range of each form of terms

-- the values of an integer type (C99 6.2.6.2)
abbrev pub type_range : CInt → Range
type_range k = from_to (if is_signed k then neg_ℤ (pos (2 ^ value_bits k)) else pos 0) (pos (2 ^ value_bits k - 1))

-- the offset of a pointer that is read, and of an object's place: no block has more bytes
abbrev pub offset_range : Range
offset_range = from_to (pos 0) (pos (2 ^ 32))

-- the value of a place of another type, by the range of its address
abbrev pub pointed_range : PlainType → Range → Option Range
pointed_range (Ptr t) a = Some offset_range
pointed_range (Array t n) a = Some a
pointed_range (Struct n) a = Some a
pointed_range (Int k) a = None
pointed_range Void a = None
pointed_range (ctype.Named x) a = None
pointed_range (StructTag x tag) a = None
pointed_range (EnumTag x at) a = None

-- the value that a place of a C type holds, where its address has a range
abbrev pub held_range : Option PlainType → Option Range → Option Range
held_range t None = None
held_range None (Some a) = None
held_range (Some t) (Some a) = elim (integer_type t) [ None ↦ pointed_range t a | Some k ↦ Some (type_range k) ]

abbrev pub place_range : Option PlainType → Option Range
place_range t = held_range t (Some offset_range)

-- so many bytes of each element
abbrev pub scaled_range : ℕ → Range → Option Range
scaled_range n a = product_range (from_to (pos n) (pos n)) a

abbrev pub then_range : Option Range → (Range → Option Range) → Option Range
then_range None f = None
then_range (Some a) f = f a

-- the offset of a member of a place
abbrev pub member_range : ℕ → Option Range → Option Range
member_range d a = then_range a (sum_range (from_to (pos d) (pos d)))

abbrev pub moved_range : PointerOp → ℕ → Range → Range → Option Range
moved_range Plus n a b = then_range (scaled_range n b) (sum_range a)
moved_range Minus n a b = then_range (scaled_range n b) (difference_range a)

abbrev pub distance_range : Range
distance_range = from_to (neg_ℤ (pos (2 ^ 32))) (pos (2 ^ 32))

abbrev pub start_range : Range
start_range = from_to (pos 0) (pos 0)

abbrev pub told_range : BlockFact → Range
told_range BaseAddr = start_range
told_range BlockLength = offset_range
told_range Offset = offset_range

-- where elements begin, how many bytes they are, and where they end
abbrev pub begin_range : ℕ → Range → Range → Option Range
begin_range n a lo = then_range (scaled_range n lo) (sum_range a)

abbrev pub span_range : ℕ → Range → Range → Option Range
span_range n lo hi = then_range (difference_range hi lo) (λ d. then_range (sum_range d (from_to (pos 1) (pos 1))) (scaled_range n))

abbrev pub end_range : ℕ → Range → Range → Range → Option Range
end_range n a lo hi = then_range (span_range n lo hi) (sum_range a)

abbrev pub has_range : Option Range → Bool
has_range None = false
has_range (Some a) = true

abbrev pub has_extent : ℕ → Range → Range → Range → Bool
has_extent n a lo hi = has_range (begin_range n a lo) && has_range (end_range n a lo hi)

abbrev pub unary_range : UnOp → Range → Option Range
unary_range unary.Plus a = Some a
unary_range unary.Minus a = negation_range a
unary_range unary.Flip a = complement_range a
unary_range unary.Not a = None
unary_range unary.Deref a = None
unary_range unary.Address a = None

abbrev pub binary_range : BinOp → Range → Range → Option Range
binary_range operator.Add a b = sum_range a b
binary_range operator.Sub a b = difference_range a b
binary_range operator.Mul a b = product_range a b
binary_range operator.Div a b = quotient_range a b
binary_range operator.Rem a b = remainder_range a b
binary_range operator.Shl a b = shift_left_range a b
binary_range operator.Shr a b = shift_right_range a b
binary_range operator.BitAnd a b = bitwise_and_range a b
binary_range operator.BitOr a b = bitwise_or_range a b
binary_range operator.BitXor a b = bitwise_xor_range a b
binary_range operator.Eq a b = None
binary_range operator.Ne a b = None
binary_range operator.Lt a b = None
binary_range operator.Le a b = None
binary_range operator.Gt a b = None
binary_range operator.Ge a b = None

-- whether each number of a range lies in another
abbrev pub is_inside : Range → Range → Bool
is_inside a b = int_le b.lo a.lo && int_le a.hi b.hi

-- a pointer's offset stays as it is
abbrev pub pointer_cast_range : PlainType → Range → Option Range
pointer_cast_range (Ptr t) a = Some a
pointer_cast_range (Int k) a = None
pointer_cast_range (Array t n) a = None
pointer_cast_range (Struct n) a = None
pointer_cast_range Void a = None
pointer_cast_range (ctype.Named x) a = None
pointer_cast_range (StructTag x tag) a = None
pointer_cast_range (EnumTag x at) a = None

-- a value that the type has stays as it is
abbrev pub cast_range : CastType → Range → Option Range
cast_range Integers a = Some a
cast_range (OfC t) a = elim (integer_type t) [ None ↦ pointer_cast_range t a | Some k ↦ Some (if is_inside a (type_range k) then a else type_range k) ]

-- from the least to the greatest number of two ranges
abbrev pub hull : Range → Range → Range
hull a b = from_to (int_min a.lo b.lo) (int_max a.hi b.hi)

-- the range of a place's address, by what its parts keep
abbrev pub address_range : LogicTerm → Option Range
address_range (Variable at t r x) = Some offset_range
address_range (Deref at t r a) = Some (range_of a)
address_range (Member at t r d a) = member_range d (address_range a)
address_range _ = None

-- ---- binders

-- the ranges of the names in sight that annotations give a meaning, by their numbers, the innermost first
abbrev pub Seen : Type 0
Seen = List (ℕ × Range)

abbrev pub range_seen : ℕ → Seen → Option Range
range_seen x [] = None
range_seen x (entry ∷ rest) = cond (nat_eq entry.0 x) (Some entry.1) (range_seen x rest)

-- the least value behind a lower bound, by the sign between them
abbrev pub raised : Bool → ℤ → ℤ
raised above l = cond above (l +ℤ pos 1) l

-- the greatest one before an upper bound
abbrev pub lowered : Bool → ℤ → ℤ
lowered below h = cond below (h -ℤ pos 1) h

-- the values that a binder may have, from the least first one to the greatest last one
abbrev pub tried_range : CastType → ℤ → ℤ → Range
tried_range Integers l h = from_to l (int_max l h)
tried_range (OfC t) l h = elim (integer_type t) [ None ↦ from_to l (int_max l h) | Some k ↦ type_range k ]

-- the binders of a chain in sight, the first of which starts from a number, and each other from the one before it
abbrev pub seen_binders : ℤ → List Binder → ℤ → Seen → Seen
seen_binders l [] h seen = seen
seen_binders l (b ∷ bs) h seen =
    seen_binders (tried_range b.kind (raised b.above l) h).lo bs h ((b.place.offset, tried_range b.kind (raised b.above l) h) ∷ seen)

abbrev pub are_bounded : ℤ → List Binder → ℤ → Bool
are_bounded l [] h = true
are_bounded l (b ∷ bs) h =
    range_in_bits 127 (tried_range b.kind (raised b.above l) h) && are_bounded (tried_range b.kind (raised b.above l) h).lo bs h

-- ---- trees with their ranges

abbrev pub no_range : Place → Fault
no_range at = record { code = range_code; place = at }

abbrev mutual
  -- the same term with the range of each of its terms
  pub ranged_term : Seen → LogicTerm → Checked LogicTerm
  ranged_term seen (Number at t r z) = given (bounded (from_to z z)) (no_range at) (λ r. Good (Number at t r z))
  ranged_term seen (Letter at t r z) = given (bounded (from_to z z)) (no_range at) (λ r. Good (Letter at t r z))
  ranged_term seen (Variable at t r x) = given (place_range t) (no_range at) (λ r. Good (Variable at t r x))
  ranged_term seen (Unary at t r op a) = one_part (ranged_term seen a) (λ a. given (unary_range op (range_of a)) (no_range at) (λ r. Good (Unary at t r op a)))
  ranged_term seen (Binary at t r op a b) =
      both_parts (ranged_term seen a) (ranged_term seen b) (λ a b.
      given (binary_range op (range_of a) (range_of b)) (no_range at) (λ r. Good (Binary at t r op a b)))
  ranged_term seen (Cast at t r to a) = one_part (ranged_term seen a) (λ a. given (cast_range to (range_of a)) (no_range at) (λ r. Good (Cast at t r to a)))
  ranged_term seen (Choice at t r c a b) =
      both_parts (ranged_pred seen c) (pair_of (ranged_term seen a) (ranged_term seen b)) (λ c ab.
      Good (Choice at t (hull (range_of ab.0) (range_of ab.1)) c ab.0 ab.1))
  ranged_term seen (Named at t r x) = given (range_seen x.decl seen) (no_range at) (λ r. Good (Named at t r x))
  ranged_term seen (At at t r l a) = one_part (ranged_term seen a) (λ a. Good (At at t (range_of a) l a))
  ranged_term seen (Null at t r) = Good (Null at t start_range)
  ranged_term seen (Deref at t r a) = one_part (ranged_term seen a) (λ a. given (held_range t (Some (range_of a))) (no_range at) (λ r. Good (Deref at t r a)))
  ranged_term seen (Member at t r d a) =
      one_part (ranged_term seen a) (λ a. given (held_range t (member_range d (address_range a))) (no_range at) (λ r. Good (Member at t r d a)))
  ranged_term seen (Address at t r a) = one_part (ranged_term seen a) (λ a. given (address_range a) (no_range at) (λ r. Good (Address at t r a)))
  ranged_term seen (Moved at t r op n a b) =
      both_parts (ranged_term seen a) (ranged_term seen b) (λ a b.
      given (moved_range op n (range_of a) (range_of b)) (no_range at) (λ r. Good (Moved at t r op n a b)))
  ranged_term seen (Difference at t r n a b) = both_parts (ranged_term seen a) (ranged_term seen b) (λ a b. Good (Difference at t distance_range n a b))
  ranged_term seen (Told at t r f a) = one_part (ranged_term seen a) (λ a. Good (Told at t (told_range f) f a))

  pub ranged_zone : Seen → Zone → Checked Zone
  ranged_zone seen (Object at n m a) = one_part (ranged_term seen a) (λ a. Good (Object at n m a))
  ranged_zone seen (Elements at n m a lo hi) =
      both_parts (ranged_term seen a) (pair_of (ranged_term seen lo) (ranged_term seen hi)) (λ a lh.
      where_so (has_extent n (range_of a) (range_of lh.0) (range_of lh.1)) (no_range at) (Good (Elements at n m a lh.0 lh.1)))

  pub ranged_zones : Seen → Zones → Checked Zones
  ranged_zones seen NoZone = Good NoZone
  ranged_zones seen (Another z rest) = both_parts (ranged_zone seen z) (ranged_zones seen rest) (λ z rest. Good (Another z rest))

  pub ranged_links : Seen → Links → Checked Links
  ranged_links seen NoLink = Good NoLink
  ranged_links seen (Linked at r t rest) = both_parts (ranged_term seen t) (ranged_links seen rest) (λ t rest. Good (Linked at r t rest))

  pub ranged_pred : Seen → Predicate → Checked Predicate
  ranged_pred seen (Truth at b) = Good (Truth at b)
  ranged_pred seen (NonZero at t) = one_part (ranged_term seen t) (λ t. Good (NonZero at t))
  ranged_pred seen (Chain at t links) = both_parts (ranged_term seen t) (ranged_links seen links) (λ t links. Good (Chain at t links))
  ranged_pred seen (Not at p) = one_part (ranged_pred seen p) (λ p. Good (Not at p))
  ranged_pred seen (Connected at c p q) = both_parts (ranged_pred seen p) (ranged_pred seen q) (λ p q. Good (Connected at c p q))
  ranged_pred seen (Branch at c p q) =
      both_parts (ranged_pred seen c) (pair_of (ranged_pred seen p) (ranged_pred seen q)) (λ c pq. Good (Branch at c pq.0 pq.1))
  ranged_pred seen (Quantified at q gs p) =
      one_part (ranged_guards seen at gs (λ seen. ranged_pred seen p)) (λ gp. Good (Quantified at q gp.0 gp.1))
  ranged_pred seen (Asks at f z) = one_part (ranged_zone seen z) (λ z. Good (Asks at f z))
  ranged_pred seen (Separated at zs) = one_part (ranged_zones seen zs) (λ zs. Good (Separated at zs))

  -- the guards of a quantifier at this place, and what stands behind them, where their binders are in sight
  pub ranged_guards : Seen → Place → Guards → (Seen → Checked Predicate) → Checked (Guards × Predicate)
  ranged_guards seen at NoGuard p = one_part (p seen) (λ p. Good (NoGuard, p))
  ranged_guards seen at (Guarded a y ys below b rest) p =
      both_parts (ranged_term seen a) (ranged_term seen b) (λ a b.
      where_so (are_bounded (range_of a).lo (y ∷ ys) (lowered below (range_of b).hi)) (no_range at)
      (one_part (ranged_guards (seen_binders (range_of a).lo (y ∷ ys) (lowered below (range_of b).hi) seen) at rest p) (λ gp.
      Good (Guarded a y ys below b gp.0, gp.1))))

-- a clause that is typed is a predicate, or the value of a variant; these names are in sight
abbrev pub ranged_clause : Seen → ClauseBody → Checked ClauseBody
ranged_clause seen (Raw f) = Good (Raw f)
ranged_clause seen (Holds p) = one_part (ranged_pred seen p) (λ p. Good (Holds p))
ranged_clause seen (Value t) = one_part (ranged_term seen t) (λ t. Good (Value t))
ranged_clause seen (Behaviors names) = Good (Behaviors names)

abbrev pub ranged_annotations : Seen → List Annotation → Checked (List Annotation)
ranged_annotations seen [] = Good []
ranged_annotations seen (a ∷ rest) =
    both_parts (ranged_clause seen a.body) (ranged_annotations seen rest) (λ b rest. Good (record a { body = b } ∷ rest))

-- ---- trees that keep the range of each term

abbrev mutual
  pub TermRanged : Seen → LogicTerm → Type 0
  TermRanged seen (Number at t r n) = bounded (from_to n n) ≡ Some r
  TermRanged seen (Letter at t r n) = bounded (from_to n n) ≡ Some r
  TermRanged seen (Variable at t r x) = place_range t ≡ Some r
  TermRanged seen (Unary at t r op a) = (unary_range op (range_of a) ≡ Some r) × TermRanged seen a
  TermRanged seen (Binary at t r op a b) = (binary_range op (range_of a) (range_of b) ≡ Some r) × TermRanged seen a × TermRanged seen b
  TermRanged seen (Cast at t r to a) = (cast_range to (range_of a) ≡ Some r) × TermRanged seen a
  TermRanged seen (Choice at t r c a b) = (hull (range_of a) (range_of b) ≡ r) × PredicateRanged seen c × TermRanged seen a × TermRanged seen b
  TermRanged seen (Named at t r x) = range_seen x.decl seen ≡ Some r
  TermRanged seen (At at t r l a) = (range_of a ≡ r) × TermRanged seen a
  TermRanged seen (Null at t r) = start_range ≡ r
  TermRanged seen (Deref at t r a) = (held_range t (Some (range_of a)) ≡ Some r) × TermRanged seen a
  TermRanged seen (Member at t r d a) = (held_range t (member_range d (address_range a)) ≡ Some r) × TermRanged seen a
  TermRanged seen (Address at t r a) = (address_range a ≡ Some r) × TermRanged seen a
  TermRanged seen (Moved at t r op n a b) = (moved_range op n (range_of a) (range_of b) ≡ Some r) × TermRanged seen a × TermRanged seen b
  TermRanged seen (Difference at t r n a b) = (distance_range ≡ r) × TermRanged seen a × TermRanged seen b
  TermRanged seen (Told at t r f a) = (told_range f ≡ r) × TermRanged seen a

  pub ZoneRanged : Seen → Zone → Type 0
  ZoneRanged seen (Object at n m a) = TermRanged seen a
  ZoneRanged seen (Elements at n m a lo hi) =
      (has_extent n (range_of a) (range_of lo) (range_of hi) ≡ true) × TermRanged seen a × TermRanged seen lo × TermRanged seen hi

  pub ZonesRanged : Seen → Zones → Type 0
  ZonesRanged seen NoZone = Unit {0}
  ZonesRanged seen (Another z rest) = ZoneRanged seen z × ZonesRanged seen rest

  pub LinksRanged : Seen → Links → Type 0
  LinksRanged seen NoLink = Unit {0}
  LinksRanged seen (Linked at r t rest) = TermRanged seen t × LinksRanged seen rest

  pub PredicateRanged : Seen → Predicate → Type 0
  PredicateRanged seen (Truth at b) = Unit {0}
  PredicateRanged seen (NonZero at t) = TermRanged seen t
  PredicateRanged seen (Chain at t links) = TermRanged seen t × LinksRanged seen links
  PredicateRanged seen (Not at p) = PredicateRanged seen p
  PredicateRanged seen (Connected at c p q) = PredicateRanged seen p × PredicateRanged seen q
  PredicateRanged seen (Branch at c p q) = PredicateRanged seen c × PredicateRanged seen p × PredicateRanged seen q
  PredicateRanged seen (Quantified at q gs p) = GuardsRanged seen gs (λ seen. PredicateRanged seen p)
  PredicateRanged seen (Asks at f z) = ZoneRanged seen z
  PredicateRanged seen (Separated at zs) = ZonesRanged seen zs

  -- the guards, and what stands behind them
  pub GuardsRanged : Seen → Guards → (Seen → Type 0) → Type 0
  GuardsRanged seen NoGuard p = p seen
  GuardsRanged seen (Guarded a y ys below b rest) p =
      TermRanged seen a × TermRanged seen b × (are_bounded (range_of a).lo (y ∷ ys) (lowered below (range_of b).hi) ≡ true)
      × GuardsRanged (seen_binders (range_of a).lo (y ∷ ys) (lowered below (range_of b).hi) seen) rest p
