-- Each value of a term lies in the range that the term keeps.
use Rattle.std.proofs.Common.{◌≡◌, ◌-◌, ℤ, pos, negsuc, neg_ℤ, Bool, true, false, cond, ◌&&◌, if◌then◌else◌, int_le, Option, Some, None, refl, sym, ap, subst, arith, FitsSigned, lit<, ◌+ℤ◌, ◌-ℤ◌, ◌*ℤ◌, int_lt}
use Rattle.std.specs.Ordering.{int_eq}
use Rattle.std.proofs.lemmas.Bool.{ltb-true, lt-ltb}
use Rattle.std.specs.Int.{w128}
use Rattle.std.proofs.lemmas.Int.{ints, clamps}
use Rattle.c_syntax.specs.declared.annotation.Range.{Range}
use Rattle.c_syntax.specs.declared.expression.BinOp.{BinOp}
use Rattle.c_syntax.specs.declared.expression.BinOp.TheVariants as operator
use Rattle.c_syntax.specs.declared.expression.UnOp.{UnOp}
use Rattle.c_syntax.specs.declared.expression.UnOp.TheVariants as unary
use Rattle.c_syntax.specs.declared.types.CInt.{CInt}
use Rattle.c_syntax.specs.declared.types.CInt.TheVariants.{I8, U8, I16, U16, I32, U32, I64, U64}
use Rattle.c_syntax.specs.Ctypes.{PlainType, Void, Int, Ptr, Array, Struct, StructTag, EnumTag}
use Rattle.c_syntax.specs.Ctypes as ctype
use Rattle.c_syntax.specs.Formulas.{CastType, Integers, OfC}
use Rattle.c_syntax.specs.declared.logic.BlockFact.{BlockFact}
use Rattle.c_syntax.specs.declared.logic.BlockFact.TheVariants.{BaseAddr, BlockLength, Offset}
use Rattle.c_syntax.specs.declared.logic.PointerOp.{PointerOp}
use Rattle.c_syntax.specs.declared.logic.PointerOp.TheVariants.{Plus, Minus}
use Rattle.c_syntax.specs.Logic.{LogicTerm, Number, Letter, Variable, Unary, Binary, Cast, Choice, Named, At, Null, Deref, Member, Address, Moved, Difference, Told, range_of}
use Rattle.c_syntax.specs.Layouts.{IntegerType, PointerType}
use Rattle.c_model.specs.Integers.{integer_type, fits}
use Rattle.c_model.specs.Operators.{complement, quotient, remainder, shift_left, shift_right, bitwise_and, bitwise_or, bitwise_xor}
use Rattle.std.specs.Prelude.{ℕ, List, [], ◌∷◌, nat_eq, option_map}
use Rattle.c_model.specs.Memory.{Pointer, Value, Integer, Points, NoValue, Byte, Store, load_bytes, value_from, pointer_of, ◌>>=◌}
use Rattle.c_model.specs.State.{State, find, start_of}
use Rattle.c_model.specs.Logic.{TermValue, Mathematical, Answer, Says, SaysNothing, OutOfSteps, both, compute, mathematical, of_value, held_at, load_from, pointer_at, Addressed}
use Rattle.c_model.specs.MemoryQuestions.{address_of}
use Rattle.c_model.specs.BasicTerms.{IsBasicTerm}
use Rattle.c_model.specs.Predicates.{compute_one, converted, chosen, term, pred, pointed}
use Rattle.c_model.specs.Ranges.{from_to, bounded, wrapped, IsRange, IsWithin128, LiesIn, product_range, hull_of_four, least_i128, quotients, remainders, greatest_abs, power_of_count, shifted_by_count}
use Rattle.c_model.specs.Ranges.{sum_range, difference_range, common_bits, bits_range, bits_of_both}
use Rattle.c_model.specs.TermRanges.{Seen, TermRanged, range_seen, type_range, place_range, unary_range, binary_range, is_inside, cast_range, hull, offset_range, start_range, distance_range, held_range, then_range}
use Rattle.c_model.specs.TermRanges.{scaled_range, member_range, moved_range, told_range, address_range, pointer_cast_range}
use Rattle.ea_num.proofs.Bounded.{bounded_some, lies_in_bounded}
use Rattle.ea_num.proofs.Linear.{sums_lie, differences_lie, negations_lie, complements_lie}
use Rattle.ea_num.proofs.Multiplied.{products_lie, quotients_lie, remainders_lie}
use Rattle.ea_num.proofs.Shifted.{shifts_left_lie, shifts_right_lie}
use Rattle.ea_num.proofs.Masked.{ands_lie, ors_lie, xors_lie}
use Rattle.ea_num.proofs.Converted.{conversions_fit, conversions_keep_values}
use Rattle.ea_num.proofs.Ordered.{sum_range-ordered, difference_range-ordered, negation_range-ordered, complement_range-ordered, product_range-ordered, quotient_range-ordered, remainder_range-ordered, shift_left_range-ordered}
use Rattle.ea_num.proofs.Ordered.{shift_right_range-ordered, bitwise_and_range-ordered, bitwise_or_range-ordered, bitwise_xor_range-ordered}
use Rattle.interval_infer.specs.Laws.{LoadsFit, AreSeen, RangesAreOrdered, RangesAreWithin128, ValuesLieInRanges}
use Rattle.interval_infer.specs.Terms.{EachSeen}

pub some_is : {A : Type 0} (x y : A) → Some x ≡ Some y → x ≡ y
some_is x y e = cc

value_is : (r : Range) (x z : ℤ) → Some (Mathematical x) ≡ Some (Mathematical z) → LiesIn r x → LiesIn r z
value_is r x z e h = let q : x ≡ z = cc in subst (LiesIn r) q h

-- ---- types

-- a value of an integer type lies in the type's range
pub type_has : (k : CInt) (z : ℤ) → fits k z ≡ true → LiesIn (type_range k) z
type_has I8 (pos n) e = let l = ltb-true n 128 e in record { above = omega (arith, ints); below = omega (arith, ints) }
type_has I8 (negsuc n) e = let l = ltb-true n 128 e in record { above = omega (arith, ints); below = omega (arith, ints) }
type_has U8 (pos n) e = let l = ltb-true n 256 e in record { above = omega (arith, ints); below = omega (arith, ints) }
type_has U8 (negsuc n) e = absurd cc
type_has I16 (pos n) e = let l = ltb-true n 32768 e in record { above = omega (arith, ints); below = omega (arith, ints) }
type_has I16 (negsuc n) e = let l = ltb-true n 32768 e in record { above = omega (arith, ints); below = omega (arith, ints) }
type_has U16 (pos n) e = let l = ltb-true n 65536 e in record { above = omega (arith, ints); below = omega (arith, ints) }
type_has U16 (negsuc n) e = absurd cc
type_has I32 (pos n) e = let l = ltb-true n 2147483648 e in record { above = omega (arith, ints); below = omega (arith, ints) }
type_has I32 (negsuc n) e = let l = ltb-true n 2147483648 e in record { above = omega (arith, ints); below = omega (arith, ints) }
type_has U32 (pos n) e = let l = ltb-true n 4294967296 e in record { above = omega (arith, ints); below = omega (arith, ints) }
type_has U32 (negsuc n) e = absurd cc
type_has I64 (pos n) e = let l = ltb-true n 9223372036854775808 e in record { above = omega (arith, ints); below = omega (arith, ints) }
type_has I64 (negsuc n) e = let l = ltb-true n 9223372036854775808 e in record { above = omega (arith, ints); below = omega (arith, ints) }
type_has U64 (pos n) e = let l = ltb-true n 18446744073709551616 e in record { above = omega (arith, ints); below = omega (arith, ints) }
type_has U64 (negsuc n) e = absurd cc

-- what lies in the type's range is a value of it
pub has_type : (k : CInt) (z : ℤ) → LiesIn (type_range k) z → fits k z ≡ true
has_type I8 (pos n) h = let l = h.below in lt-ltb n 128 (omega (arith, ints, l))
has_type I8 (negsuc n) h = let l = h.above in lt-ltb n 128 (omega (arith, ints, l))
has_type U8 (pos n) h = let l = h.below in lt-ltb n 256 (omega (arith, ints, l))
has_type U8 (negsuc n) h = let l = h.above in absurd (omega (arith, ints, l))
has_type I16 (pos n) h = let l = h.below in lt-ltb n 32768 (omega (arith, ints, l))
has_type I16 (negsuc n) h = let l = h.above in lt-ltb n 32768 (omega (arith, ints, l))
has_type U16 (pos n) h = let l = h.below in lt-ltb n 65536 (omega (arith, ints, l))
has_type U16 (negsuc n) h = let l = h.above in absurd (omega (arith, ints, l))
has_type I32 (pos n) h = let l = h.below in lt-ltb n 2147483648 (omega (arith, ints, l))
has_type I32 (negsuc n) h = let l = h.above in lt-ltb n 2147483648 (omega (arith, ints, l))
has_type U32 (pos n) h = let l = h.below in lt-ltb n 4294967296 (omega (arith, ints, l))
has_type U32 (negsuc n) h = let l = h.above in absurd (omega (arith, ints, l))
has_type I64 (pos n) h = let l = h.below in lt-ltb n 9223372036854775808 (omega (arith, ints, l))
has_type I64 (negsuc n) h = let l = h.above in lt-ltb n 9223372036854775808 (omega (arith, ints, l))
has_type U64 (pos n) h = let l = h.below in lt-ltb n 18446744073709551616 (omega (arith, ints, l))
has_type U64 (negsuc n) h = let l = h.above in absurd (omega (arith, ints, l))

pub type_ordered : (k : CInt) → IsRange (type_range k)
type_ordered I8 = record { ordered = omega (arith, ints) }
type_ordered U8 = record { ordered = omega (arith, ints) }
type_ordered I16 = record { ordered = omega (arith, ints) }
type_ordered U16 = record { ordered = omega (arith, ints) }
type_ordered I32 = record { ordered = omega (arith, ints) }
type_ordered U32 = record { ordered = omega (arith, ints) }
type_ordered I64 = record { ordered = omega (arith, ints) }
type_ordered U64 = record { ordered = omega (arith, ints) }

pub type_within : (k : CInt) → IsWithin128 (type_range k)
type_within I8 = record { lo_fits = record { sfits = lit< tt }; hi_fits = record { sfits = lit< tt } }
type_within U8 = record { lo_fits = record { sfits = lit< tt }; hi_fits = record { sfits = lit< tt } }
type_within I16 = record { lo_fits = record { sfits = lit< tt }; hi_fits = record { sfits = lit< tt } }
type_within U16 = record { lo_fits = record { sfits = lit< tt }; hi_fits = record { sfits = lit< tt } }
type_within I32 = record { lo_fits = record { sfits = lit< tt }; hi_fits = record { sfits = lit< tt } }
type_within U32 = record { lo_fits = record { sfits = lit< tt }; hi_fits = record { sfits = lit< tt } }
type_within I64 = record { lo_fits = record { sfits = lit< tt }; hi_fits = record { sfits = lit< tt } }
type_within U64 = record { lo_fits = record { sfits = lit< tt }; hi_fits = record { sfits = lit< tt } }

inside_lies : (a b : Range) (z : ℤ) → is_inside a b ≡ true → LiesIn a z → LiesIn b z
inside_lies a b z e h = by (int_le b.lo a.lo) (int_le a.hi b.hi) refl refl e
  where
    by : (s t : Bool) → int_le b.lo a.lo ≡ s → int_le a.hi b.hi ≡ t → (s && t) ≡ true → LiesIn b z
    by true true p q f = let l = h.above in let u = h.below in record { above = omega (arith, ints, l, p); below = omega (arith, ints, u, q) }
    by true false p q f = absurd cc
    by false t p q f = absurd cc

-- ---- each range lies within 128 bits

pub at_bounded : (s r : Range) → bounded s ≡ Some r → IsWithin128 r
at_bounded s r e = (bounded_some s r e).within

unless_bounded : (t : Bool) (s r : Range) → cond t None (bounded s) ≡ Some r → IsWithin128 r
unless_bounded true s r e = absurd cc
unless_bounded false s r e = at_bounded s r e

pub product_within : (a b r : Range) → product_range a b ≡ Some r → IsWithin128 r
product_within a b r e = at_bounded (hull_of_four (a.lo *ℤ b.lo) (a.lo *ℤ b.hi) (a.hi *ℤ b.lo) (a.hi *ℤ b.hi)) r e

unary_within : (op : UnOp) (a r : Range) → IsWithin128 a → unary_range op a ≡ Some r → IsWithin128 r
unary_within unary.Plus a r h e = subst IsWithin128 (some_is a r e) h
unary_within unary.Minus a r h e = at_bounded (from_to (neg_ℤ a.hi) (neg_ℤ a.lo)) r e
unary_within unary.Flip a r h e = at_bounded (from_to (complement a.hi) (complement a.lo)) r e
unary_within unary.Not a r h e = absurd cc
unary_within unary.Deref a r h e = absurd cc
unary_within unary.Address a r h e = absurd cc

binary_within : (op : BinOp) (a b r : Range) → binary_range op a b ≡ Some r → IsWithin128 r
binary_within operator.Add a b r e = at_bounded (from_to (a.lo +ℤ b.lo) (a.hi +ℤ b.hi)) r e
binary_within operator.Sub a b r e = at_bounded (from_to (a.lo -ℤ b.hi) (a.hi -ℤ b.lo)) r e
binary_within operator.Mul a b r e = product_within a b r e
binary_within operator.Div a b r e = unless_bounded (int_eq a.lo least_i128) (quotients a b) r e
binary_within operator.Rem a b r e = unless_bounded (int_eq a.lo least_i128) (remainders a (greatest_abs b - 1)) r e
binary_within operator.Shl a b r e = by (int_le b.hi (pos 126)) e
  where
    by : (t : Bool) → cond t (product_range a (from_to (power_of_count b.lo) (power_of_count b.hi))) None ≡ Some r → IsWithin128 r
    by true f = product_within a (from_to (power_of_count b.lo) (power_of_count b.hi)) r f
    by false f = absurd cc
binary_within operator.Shr a b r e = at_bounded (hull_of_four (shifted_by_count a.lo b.lo) (shifted_by_count a.lo b.hi) (shifted_by_count a.hi b.lo) (shifted_by_count a.hi b.hi)) r e
binary_within operator.BitAnd a b r e = at_bounded (common_bits a b) r e
binary_within operator.BitOr a b r e = at_bounded (bits_range a b (bits_of_both a b)) r e
binary_within operator.BitXor a b r e = at_bounded (bits_range a b (bits_of_both a b)) r e
binary_within operator.Eq a b r e = absurd cc
binary_within operator.Ne a b r e = absurd cc
binary_within operator.Lt a b r e = absurd cc
binary_within operator.Le a b r e = absurd cc
binary_within operator.Gt a b r e = absurd cc
binary_within operator.Ge a b r e = absurd cc

-- a place's range is that of an integer type, that of offsets, or that of its address
held_of : (P : Range → Type 0) (t : Option PlainType) (o : Option Range) (r : Range) → ((k : CInt) → P (type_range k)) → P offset_range → ((a : Range) → o ≡ Some a → P a) → held_range t o ≡ Some r → P r
held_of P t None r h n p e = absurd cc
held_of P None (Some a) r h n p e = absurd cc
held_of P (Some Void) (Some a) r h n p e = absurd cc
held_of P (Some (Int k)) (Some a) r h n p e = subst P (some_is (type_range k) r e) (h k)
held_of P (Some (Ptr t)) (Some a) r h n p e = subst P (some_is offset_range r e) n
held_of P (Some (Array t m)) (Some a) r h n p e = subst P (some_is a r e) (p a refl)
held_of P (Some (Struct m)) (Some a) r h n p e = subst P (some_is a r e) (p a refl)
held_of P (Some (ctype.Named x)) (Some a) r h n p e = absurd cc
held_of P (Some (StructTag x tag)) (Some a) r h n p e = absurd cc
held_of P (Some (EnumTag x at)) (Some a) r h n p e = absurd cc

pub place_of : (P : Range → Type 0) (t : Option PlainType) (r : Range) → ((k : CInt) → P (type_range k)) → P offset_range → place_range t ≡ Some r → P r
place_of P t r h n e = held_of P t (Some offset_range) r h n (λ a q. subst P (some_is offset_range a q) n) e

-- what a range is made of
pub record Then (o : Option Range) (f : Range → Option Range) (r : Range) : Type 0 where
  pub first : Range
  pub there : o ≡ Some first
  pub is : f first ≡ Some r

pub then_parts : (o : Option Range) (f : Range → Option Range) (r : Range) → then_range o f ≡ Some r → Then o f r
then_parts None f r e = absurd cc
then_parts (Some a) f r e = record { first = a; there = refl; is = e }

seen_has : (P : Range → Type 0) (x : ℕ) (seen : Seen) (r : Range) → AreSeen P seen → range_seen x seen ≡ Some r → P r
seen_has P x [] r h e = absurd cc
seen_has P x (y ∷ rest) r h e = by (nat_eq y.0 x) (λ f. seen_has P x rest r h.1 f) e
  where
    by : (t : Bool) → (range_seen x rest ≡ Some r → P r) → cond t (Some y.1) (range_seen x rest) ≡ Some r → P r
    by true g f = subst P (some_is y.1 r f) h.0
    by false g f = g f

-- a cast's range is that of its operand, or that of an integer type
cast_of : (P : Range → Type 0) (to : CastType) (a r : Range) → P a → ((k : CInt) → P (type_range k)) → cast_range to a ≡ Some r → P r
cast_of P Integers a r p h e = subst P (some_is a r e) p
cast_of P (OfC t) a r p h e = by (integer_type t) e
  where
    pick : (k : CInt) (b : Bool) → P (if b then a else type_range k)
    pick k true = p
    pick k false = h k

    pointed : (t : PlainType) → pointer_cast_range t a ≡ Some r → P r
    pointed Void f = absurd cc
    pointed (Int k) f = absurd cc
    pointed (Ptr u) f = subst P (some_is a r f) p
    pointed (Array u n) f = absurd cc
    pointed (Struct n) f = absurd cc
    pointed (ctype.Named x) f = absurd cc
    pointed (StructTag x tag) f = absurd cc
    pointed (EnumTag x at) f = absurd cc

    by : (o : Option CInt) → elim o [ None ↦ pointer_cast_range t a | Some k ↦ Some (if is_inside a (type_range k) then a else type_range k) ] ≡ Some r → P r
    by None f = pointed t f
    by (Some k) f = subst P (some_is (if is_inside a (type_range k) then a else type_range k) r f) (pick k (is_inside a (type_range k)))

hull_within : (a b : Range) → IsWithin128 a → IsWithin128 b → IsWithin128 (hull a b)
hull_within a b h k = record { lo_fits = low (int_lt b.lo a.lo); hi_fits = high (int_lt b.hi a.hi) }
  where
    low : (t : Bool) → FitsSigned w128 (cond t b.lo a.lo)
    low true = k.lo_fits
    low false = h.lo_fits

    high : (t : Bool) → FitsSigned w128 (cond t a.hi b.hi)
    high true = h.hi_fits
    high false = k.hi_fits

pub offsets_within : IsWithin128 offset_range
offsets_within = record { lo_fits = record { sfits = lit< tt }; hi_fits = record { sfits = lit< tt } }

start_within : IsWithin128 start_range
start_within = record { lo_fits = record { sfits = lit< tt }; hi_fits = record { sfits = lit< tt } }

distance_within : IsWithin128 distance_range
distance_within = record { lo_fits = record { sfits = lit< tt }; hi_fits = record { sfits = lit< tt } }

told_within : (f : BlockFact) → IsWithin128 (told_range f)
told_within BaseAddr = start_within
told_within BlockLength = offsets_within
told_within Offset = offsets_within

moved_within : (op : PointerOp) (n : ℕ) (a b r : Range) → moved_range op n a b ≡ Some r → IsWithin128 r
moved_within Plus n a b r e = let t = then_parts (scaled_range n b) (sum_range a) r e in at_bounded (from_to (a.lo +ℤ t.first.lo) (a.hi +ℤ t.first.hi)) r t.is
moved_within Minus n a b r e = let t = then_parts (scaled_range n b) (difference_range a) r e in at_bounded (from_to (a.lo -ℤ t.first.hi) (a.hi -ℤ t.first.lo)) r t.is

member_within : (d : ℕ) (o : Option Range) (r : Range) → member_range d o ≡ Some r → IsWithin128 r
member_within d o r e = let t = then_parts o (sum_range (from_to (pos d) (pos d))) r e in at_bounded (from_to (pos d +ℤ t.first.lo) (pos d +ℤ t.first.hi)) r t.is

mutual
  pub term_within : (seen : Seen) (t : LogicTerm) → EachSeen IsWithin128 seen → TermRanged seen t → IsWithin128 (range_of t)
  term_within seen (Number at t r n) v h = at_bounded (from_to n n) r h
  term_within seen (Letter at t r n) v h = at_bounded (from_to n n) r h
  term_within seen (Variable at t r x) v h = place_of IsWithin128 t r type_within offsets_within h
  term_within seen (Unary at t r op a) v h = unary_within op (range_of a) r (term_within seen a v h.1) h.0
  term_within seen (Binary at t r op a b) v h = binary_within op (range_of a) (range_of b) r h.0
  term_within seen (Cast at t r to a) v h = cast_of IsWithin128 to (range_of a) r (term_within seen a v h.1) type_within h.0
  term_within seen (Choice at t r c a b) v h =
      subst IsWithin128 h.0 (hull_within (range_of a) (range_of b) (term_within seen a v h.2) (term_within seen b v h.3))
  term_within seen (Named at t r x) v h = v x.decl r h
  term_within seen (At at t r l a) v h = subst IsWithin128 h.0 (term_within seen a v h.1)
  term_within seen (Null at t r) v h = subst IsWithin128 h start_within
  term_within seen (Deref at t r a) v h =
      held_of IsWithin128 t (Some (range_of a)) r type_within offsets_within (λ q e. subst IsWithin128 (some_is (range_of a) q e) (term_within seen a v h.1)) h.0
  term_within seen (Member at t r d a) v h = held_of IsWithin128 t (member_range d (address_range a)) r type_within offsets_within (member_within d (address_range a)) h.0
  term_within seen (Address at t r a) v h = addresses_within seen a r v h.1 h.0
  term_within seen (Moved at t r op n a b) v h = moved_within op n (range_of a) (range_of b) r h.0
  term_within seen (Difference at t r n a b) v h = subst IsWithin128 h.0 distance_within
  term_within seen (Told at t r f a) v h = subst IsWithin128 h.0 (told_within f)

  addresses_within : (seen : Seen) (t : LogicTerm) (r : Range) → EachSeen IsWithin128 seen → TermRanged seen t → address_range t ≡ Some r → IsWithin128 r
  addresses_within seen (Variable at t q x) r v h e = subst IsWithin128 (some_is offset_range r e) offsets_within
  addresses_within seen (Deref at t q a) r v h e = subst IsWithin128 (some_is (range_of a) r e) (term_within seen a v h.1)
  addresses_within seen (Member at t q d a) r v h e = member_within d (address_range a) r e
  addresses_within seen (Number at t q n) r v h e = absurd cc
  addresses_within seen (Letter at t q n) r v h e = absurd cc
  addresses_within seen (Unary at t q op a) r v h e = absurd cc
  addresses_within seen (Binary at t q op a b) r v h e = absurd cc
  addresses_within seen (Cast at t q to a) r v h e = absurd cc
  addresses_within seen (Choice at t q c a b) r v h e = absurd cc
  addresses_within seen (Named at t q x) r v h e = absurd cc
  addresses_within seen (At at t q l a) r v h e = absurd cc
  addresses_within seen (Null at t q) r v h e = absurd cc
  addresses_within seen (Address at t q a) r v h e = absurd cc
  addresses_within seen (Moved at t q op n a b) r v h e = absurd cc
  addresses_within seen (Difference at t q n a b) r v h e = absurd cc
  addresses_within seen (Told at t q f a) r v h e = absurd cc

pub ranges_are_within_128 : RangesAreWithin128
ranges_are_within_128 seen t v h = term_within seen t (λ x r e. seen_has IsWithin128 x seen r v e) h

-- ---- each range has a number in it

one_ordered : (n : ℤ) (r : Range) → bounded (from_to n n) ≡ Some r → IsRange r
one_ordered n r e = subst IsRange (bounded_some (from_to n n) r e).same (record { ordered = omega (arith, ints) })

unary_ordered : (op : UnOp) (a r : Range) → IsRange a → unary_range op a ≡ Some r → IsRange r
unary_ordered unary.Plus a r h e = subst IsRange (some_is a r e) h
unary_ordered unary.Minus a r h e = negation_range-ordered a r h e
unary_ordered unary.Flip a r h e = complement_range-ordered a r h e
unary_ordered unary.Not a r h e = absurd cc
unary_ordered unary.Deref a r h e = absurd cc
unary_ordered unary.Address a r h e = absurd cc

binary_ordered : (op : BinOp) (a b r : Range) → IsRange a → IsRange b → binary_range op a b ≡ Some r → IsRange r
binary_ordered operator.Add a b r h k e = sum_range-ordered a b r h k e
binary_ordered operator.Sub a b r h k e = difference_range-ordered a b r h k e
binary_ordered operator.Mul a b r h k e = product_range-ordered a b r h k e
binary_ordered operator.Div a b r h k e = quotient_range-ordered a b r h k e
binary_ordered operator.Rem a b r h k e = remainder_range-ordered a b r h k e
binary_ordered operator.Shl a b r h k e = shift_left_range-ordered a b r h k e
binary_ordered operator.Shr a b r h k e = shift_right_range-ordered a b r h k e
binary_ordered operator.BitAnd a b r h k e = bitwise_and_range-ordered a b r h k e
binary_ordered operator.BitOr a b r h k e = bitwise_or_range-ordered a b r h k e
binary_ordered operator.BitXor a b r h k e = bitwise_xor_range-ordered a b r h k e
binary_ordered operator.Eq a b r h k e = absurd cc
binary_ordered operator.Ne a b r h k e = absurd cc
binary_ordered operator.Lt a b r h k e = absurd cc
binary_ordered operator.Le a b r h k e = absurd cc
binary_ordered operator.Gt a b r h k e = absurd cc
binary_ordered operator.Ge a b r h k e = absurd cc

hull_ordered : (a b : Range) → IsRange a → IsRange (hull a b)
hull_ordered a b h = let o = h.ordered in record { ordered = omega (arith, ints, clamps, o) }

pub offsets_ordered : IsRange offset_range
offsets_ordered = record { ordered = omega (arith, ints) }

start_ordered : IsRange start_range
start_ordered = record { ordered = omega (arith, ints) }

distance_ordered : IsRange distance_range
distance_ordered = record { ordered = omega (arith, ints) }

told_ordered : (f : BlockFact) → IsRange (told_range f)
told_ordered BaseAddr = start_ordered
told_ordered BlockLength = offsets_ordered
told_ordered Offset = offsets_ordered

number_ordered : (n : ℕ) → IsRange (from_to (pos n) (pos n))
number_ordered n = record { ordered = omega (arith, ints) }

moved_ordered : (op : PointerOp) (n : ℕ) (a b r : Range) → IsRange a → IsRange b → moved_range op n a b ≡ Some r → IsRange r
moved_ordered Plus n a b r h k e =
    let t = then_parts (scaled_range n b) (sum_range a) r e in
    sum_range-ordered a t.first r h (product_range-ordered (from_to (pos n) (pos n)) b t.first (number_ordered n) k t.there) t.is
moved_ordered Minus n a b r h k e =
    let t = then_parts (scaled_range n b) (difference_range a) r e in
    difference_range-ordered a t.first r h (product_range-ordered (from_to (pos n) (pos n)) b t.first (number_ordered n) k t.there) t.is

mutual
  pub ranges_are_ordered : RangesAreOrdered
  ranges_are_ordered seen (Number at t r n) v h = one_ordered n r h
  ranges_are_ordered seen (Letter at t r n) v h = one_ordered n r h
  ranges_are_ordered seen (Variable at t r x) v h = place_of IsRange t r type_ordered offsets_ordered h
  ranges_are_ordered seen (Unary at t r op a) v h = unary_ordered op (range_of a) r (ranges_are_ordered seen a v h.1) h.0
  ranges_are_ordered seen (Binary at t r op a b) v h = binary_ordered op (range_of a) (range_of b) r (ranges_are_ordered seen a v h.1) (ranges_are_ordered seen b v h.2) h.0
  ranges_are_ordered seen (Cast at t r to a) v h = cast_of IsRange to (range_of a) r (ranges_are_ordered seen a v h.1) type_ordered h.0
  ranges_are_ordered seen (Choice at t r c a b) v h = subst IsRange h.0 (hull_ordered (range_of a) (range_of b) (ranges_are_ordered seen a v h.2))
  ranges_are_ordered seen (Named at t r x) v h = seen_has IsRange x.decl seen r v h
  ranges_are_ordered seen (At at t r l a) v h = subst IsRange h.0 (ranges_are_ordered seen a v h.1)
  ranges_are_ordered seen (Null at t r) v h = subst IsRange h start_ordered
  ranges_are_ordered seen (Deref at t r a) v h =
      held_of IsRange t (Some (range_of a)) r type_ordered offsets_ordered (λ q e. subst IsRange (some_is (range_of a) q e) (ranges_are_ordered seen a v h.1)) h.0
  ranges_are_ordered seen (Member at t r d a) v h =
      held_of IsRange t (member_range d (address_range a)) r type_ordered offsets_ordered (λ q e.
      let m = then_parts (address_range a) (sum_range (from_to (pos d) (pos d))) q e in
      sum_range-ordered (from_to (pos d) (pos d)) m.first q (number_ordered d) (addresses_ordered seen a m.first v h.1 m.there) m.is) h.0
  ranges_are_ordered seen (Address at t r a) v h = addresses_ordered seen a r v h.1 h.0
  ranges_are_ordered seen (Moved at t r op n a b) v h = moved_ordered op n (range_of a) (range_of b) r (ranges_are_ordered seen a v h.1) (ranges_are_ordered seen b v h.2) h.0
  ranges_are_ordered seen (Difference at t r n a b) v h = subst IsRange h.0 distance_ordered
  ranges_are_ordered seen (Told at t r f a) v h = subst IsRange h.0 (told_ordered f)

  pub addresses_ordered : (seen : Seen) (t : LogicTerm) (r : Range) → AreSeen IsRange seen → TermRanged seen t → address_range t ≡ Some r → IsRange r
  addresses_ordered seen (Variable at t q x) r v h e = subst IsRange (some_is offset_range r e) offsets_ordered
  addresses_ordered seen (Deref at t q a) r v h e = subst IsRange (some_is (range_of a) r e) (ranges_are_ordered seen a v h.1)
  addresses_ordered seen (Member at t q d a) r v h e =
      let m = then_parts (address_range a) (sum_range (from_to (pos d) (pos d))) r e in
      sum_range-ordered (from_to (pos d) (pos d)) m.first r (number_ordered d) (addresses_ordered seen a m.first v h.1 m.there) m.is
  addresses_ordered seen (Number at t q n) r v h e = absurd cc
  addresses_ordered seen (Letter at t q n) r v h e = absurd cc
  addresses_ordered seen (Unary at t q op a) r v h e = absurd cc
  addresses_ordered seen (Binary at t q op a b) r v h e = absurd cc
  addresses_ordered seen (Cast at t q to a) r v h e = absurd cc
  addresses_ordered seen (Choice at t q c a b) r v h e = absurd cc
  addresses_ordered seen (Named at t q x) r v h e = absurd cc
  addresses_ordered seen (At at t q l a) r v h e = absurd cc
  addresses_ordered seen (Null at t q) r v h e = absurd cc
  addresses_ordered seen (Address at t q a) r v h e = absurd cc
  addresses_ordered seen (Moved at t q op n a b) r v h e = absurd cc
  addresses_ordered seen (Difference at t q n a b) r v h e = absurd cc
  addresses_ordered seen (Told at t q f a) r v h e = absurd cc

-- ---- each value lies in its range

one_lies : (n z : ℤ) (r : Range) → bounded (from_to n n) ≡ Some r → Some (Mathematical n) ≡ Some (Mathematical z) → LiesIn r z
one_lies n z r e g = value_is r n z g (lies_in_bounded (from_to n n) r n e (record { above = omega (arith, ints); below = omega (arith, ints) }))

-- what is read at a place is a value of its type
loaded_lies : (k : CInt) (o : Option Value) (z : ℤ) → ((y : ℤ) → o ≡ Some (Integer y) → fits k y ≡ true) → of_value o ≡ Some (Mathematical z) → LiesIn (type_range k) z
loaded_lies k None z h e = absurd cc
loaded_lies k (Some (Integer y)) z h e = value_is (type_range k) y z e (type_has k y (h y refl))
loaded_lies k (Some (Points p)) z h e = absurd cc
loaded_lies k (Some NoValue) z h e = absurd cc

from_fits : (store : Store) (k : CInt) (p : Option Pointer) (y : ℤ) → LoadsFit store → load_from store (IntegerType k) p ≡ Some (Integer y) → fits k y ≡ true
from_fits store k None y l e = absurd cc
from_fits store k (Some p) y l e = l.value p k y e

-- a pointer is no number
no_number : (store : Store) (p : Option Pointer) (z : ℤ) → of_value (load_from store PointerType p) ≡ Some (Mathematical z) → ⊥
no_number store None z e = absurd cc
no_number store (Some p) z e = by (load_bytes store p 8) e
  where
    pointed : (o : Option Pointer) → of_value (option_map Points o) ≡ Some (Mathematical z) → ⊥
    pointed None e = absurd cc
    pointed (Some q) e = absurd cc

    by : (o : Option (List Byte)) → of_value (o >>= value_from PointerType) ≡ Some (Mathematical z) → ⊥
    by None e = absurd cc
    by (Some bytes) e = pointed (pointer_of bytes) e

read_lies : (s : State) (p : Option Pointer) (t : Option PlainType) (r : Range) (z : ℤ) → LoadsFit s.store → place_range t ≡ Some r
    → held_at s.store t (option_map address_of p) ≡ Some (Mathematical z) → LiesIn r z
read_lies s None t r z l e g = absurd cc
read_lies s (Some p) None r z l e g = absurd cc
read_lies s (Some p) (Some (Int k)) r z l e g =
    subst (λ q. LiesIn q z) (some_is (type_range k) r e) (loaded_lies k (load_from s.store (IntegerType k) (pointer_at (address_of p))) z (λ y f. from_fits s.store k (pointer_at (address_of p)) y l f) g)
read_lies s (Some p) (Some (Ptr t)) r z l e g = absurd (no_number s.store (pointer_at (address_of p)) z g)
read_lies s (Some p) (Some (Array t n)) r z l e g = absurd cc
read_lies s (Some p) (Some (Struct n)) r z l e g = absurd cc
read_lies s (Some p) (Some Void) r z l e g = absurd cc
read_lies s (Some p) (Some (ctype.Named x)) r z l e g = absurd cc
read_lies s (Some p) (Some (StructTag x tag)) r z l e g = absurd cc
read_lies s (Some p) (Some (EnumTag x at)) r z l e g = absurd cc

-- each value that an operand has lies in its range
abbrev pub IntegersLie : Range → Option TermValue → Type 0
IntegersLie a o = (x : ℤ) → o ≡ Some (Mathematical x) → LiesIn a x

pub unary_lies : (op : UnOp) (o : Option TermValue) (a r : Range) (z : ℤ) → unary_range op a ≡ Some r → IntegersLie a o → compute_one op o ≡ Some (Mathematical z) → LiesIn r z
unary_lies unary.Plus None a r z e h g = absurd cc
unary_lies unary.Plus (Some (Addressed x)) a r z e h g = absurd cc
unary_lies unary.Plus (Some (Mathematical x)) a r z e h g = value_is r x z g (subst (λ q. LiesIn q x) (some_is a r e) (h x refl))
unary_lies unary.Minus None a r z e h g = absurd cc
unary_lies unary.Minus (Some (Addressed x)) a r z e h g = absurd cc
unary_lies unary.Minus (Some (Mathematical x)) a r z e h g = value_is r (neg_ℤ x) z g (negations_lie a r x e (h x refl))
unary_lies unary.Flip None a r z e h g = absurd cc
unary_lies unary.Flip (Some (Addressed x)) a r z e h g = absurd cc
unary_lies unary.Flip (Some (Mathematical x)) a r z e h g = value_is r (complement x) z g (complements_lie a r x e (h x refl))
unary_lies unary.Not o a r z e h g = absurd cc
unary_lies unary.Deref o a r z e h g = absurd cc
unary_lies unary.Address o a r z e h g = absurd cc

mathematical_is : (o : Option ℤ) (z : ℤ) → mathematical o ≡ Some (Mathematical z) → o ≡ Some z
mathematical_is None z e = absurd cc
mathematical_is (Some x) z e = let q : x ≡ z = cc in ap Some q

binary_lies : (op : BinOp) (a b r : Range) (x y z : ℤ) → IsWithin128 a → IsWithin128 b → binary_range op a b ≡ Some r → LiesIn a x → LiesIn b y → compute op x y ≡ Some (Mathematical z) → LiesIn r z
binary_lies operator.Add a b r x y z v w e h k g = value_is r (x +ℤ y) z g (sums_lie a b r x y e h k)
binary_lies operator.Sub a b r x y z v w e h k g = value_is r (x -ℤ y) z g (differences_lie a b r x y e h k)
binary_lies operator.Mul a b r x y z v w e h k g = value_is r (x *ℤ y) z g (products_lie a b r x y e h k)
binary_lies operator.Div a b r x y z v w e h k g = quotients_lie a b r x y z e h k (mathematical_is (quotient x y) z g)
binary_lies operator.Rem a b r x y z v w e h k g = remainders_lie a b r x y z e h k (mathematical_is (remainder x y) z g)
binary_lies operator.Shl a b r x y z v w e h k g = shifts_left_lie a b r x y z e h k (mathematical_is (shift_left x y) z g)
binary_lies operator.Shr a b r x y z v w e h k g = shifts_right_lie a b r x y z v e h k (mathematical_is (shift_right x y) z g)
binary_lies operator.BitAnd a b r x y z v w e h k g = value_is r (bitwise_and x y) z g (ands_lie a b r x y v w e h k)
binary_lies operator.BitOr a b r x y z v w e h k g = value_is r (bitwise_or x y) z g (ors_lie a b r x y v w e h k)
binary_lies operator.BitXor a b r x y z v w e h k g = value_is r (bitwise_xor x y) z g (xors_lie a b r x y v w e h k)
binary_lies operator.Eq a b r x y z v w e h k g = absurd cc
binary_lies operator.Ne a b r x y z v w e h k g = absurd cc
binary_lies operator.Lt a b r x y z v w e h k g = absurd cc
binary_lies operator.Le a b r x y z v w e h k g = absurd cc
binary_lies operator.Gt a b r x y z v w e h k g = absurd cc
binary_lies operator.Ge a b r x y z v w e h k g = absurd cc

pub both_lie : (op : BinOp) (o p : Option TermValue) (a b r : Range) (z : ℤ) → IsWithin128 a → IsWithin128 b → binary_range op a b ≡ Some r → IntegersLie a o → IntegersLie b p → both o p (compute op) ≡ Some (Mathematical z) → LiesIn r z
both_lie op None p a b r z v w e h k g = absurd cc
both_lie op (Some (Addressed x)) None a b r z v w e h k g = absurd cc
both_lie op (Some (Addressed x)) (Some y) a b r z v w e h k g = absurd cc
both_lie op (Some (Mathematical x)) None a b r z v w e h k g = absurd cc
both_lie op (Some (Mathematical x)) (Some (Addressed y)) a b r z v w e h k g = absurd cc
both_lie op (Some (Mathematical x)) (Some (Mathematical y)) a b r z v w e h k g = binary_lies op a b r x y z v w e (h x refl) (k y refl) g

-- a converted number is a value of the type, and as it was where the type has it
wrapped_lies : (k : CInt) (a : Range) (x : ℤ) → LiesIn a x → LiesIn (if is_inside a (type_range k) then a else type_range k) (wrapped k x)
wrapped_lies k a x h = by (is_inside a (type_range k)) refl
  where
    by : (b : Bool) → is_inside a (type_range k) ≡ b → LiesIn (if b then a else type_range k) (wrapped k x)
    by true e = subst (LiesIn a) (sym (conversions_keep_values k x (has_type k x (inside_lies a (type_range k) x e h)))) h
    by false e = type_has k (wrapped k x) (conversions_fit k x)

pub cast_lies : (to : CastType) (o : Option TermValue) (a r : Range) (z : ℤ) → cast_range to a ≡ Some r → IntegersLie a o → converted to o ≡ Some (Mathematical z) → LiesIn r z
cast_lies Integers o a r z e h g = subst (λ q. LiesIn q z) (some_is a r e) (h z g)
cast_lies (OfC t) None a r z e h g = absurd cc
cast_lies (OfC t) (Some (Addressed x)) a r z e h g = by t g
  where
    by : (t : PlainType) → pointed t x ≡ Some (Mathematical z) → LiesIn r z
    by Void g = absurd cc
    by (Int k) g = absurd cc
    by (Ptr u) g = absurd cc
    by (Array u n) g = absurd cc
    by (Struct n) g = absurd cc
    by (ctype.Named y) g = absurd cc
    by (StructTag y tag) g = absurd cc
    by (EnumTag y at) g = absurd cc
cast_lies (OfC t) (Some (Mathematical x)) a r z e h g = by (integer_type t) e g
  where
    by : (i : Option CInt) → elim i [ None ↦ pointer_cast_range t a | Some k ↦ Some (if is_inside a (type_range k) then a else type_range k) ] ≡ Some r → elim i [ None ↦ None | Some k ↦ Some (Mathematical (wrapped k x)) ] ≡ Some (Mathematical z)
        → LiesIn r z
    by None f g = absurd cc
    by (Some k) f g = value_is r (wrapped k x) z g (subst (λ q. LiesIn q (wrapped k x)) (some_is (if is_inside a (type_range k) then a else type_range k) r f) (wrapped_lies k a x (h x refl)))

pub hull_left : (a b : Range) (z : ℤ) → LiesIn a z → LiesIn (hull a b) z
hull_left a b z h = let l = h.above in let u = h.below in record { above = omega (arith, ints, clamps, l); below = omega (arith, ints, clamps, u) }

pub hull_right : (a b : Range) (z : ℤ) → LiesIn b z → LiesIn (hull a b) z
hull_right a b z h = let l = h.above in let u = h.below in record { above = omega (arith, ints, clamps, l); below = omega (arith, ints, clamps, u) }

chosen_lies : (c : Answer) (o p : Option TermValue) (a b : Range) (z : ℤ) → IntegersLie a o → IntegersLie b p → chosen c o p ≡ Some (Mathematical z) → LiesIn (hull a b) z
chosen_lies (Says true n) o p a b z h k g = hull_left a b z (h z g)
chosen_lies (Says false n) o p a b z h k g = hull_right a b z (k z g)
chosen_lies (SaysNothing n) o p a b z h k g = absurd cc
chosen_lies OutOfSteps o p a b z h k g = absurd cc

-- the range of a term over integers and variables doesn't look at names in sight
basic_within : (n : Seen) (t : LogicTerm) → IsBasicTerm t → TermRanged n t → IsWithin128 (range_of t)
basic_within n (Number at t r x) b h = at_bounded (from_to x x) r h
basic_within n (Letter at t r x) b h = at_bounded (from_to x x) r h
basic_within n (Variable at t r x) b h = place_of IsWithin128 t r type_within offsets_within h
basic_within n (Unary at t r op a) b h = unary_within op (range_of a) r (basic_within n a b h.1) h.0
basic_within n (Binary at t r op a c) b h = binary_within op (range_of a) (range_of c) r h.0
basic_within n (Cast at t r to a) b h = cast_of IsWithin128 to (range_of a) r (basic_within n a b h.1) type_within h.0
basic_within n (Choice at t r c a d) b h = subst IsWithin128 h.0 (hull_within (range_of a) (range_of d) (basic_within n a b.1 h.2) (basic_within n d b.2 h.3))
basic_within n (Named at t r x) b h = absurd b
basic_within n (At at t r l a) b h = absurd b
basic_within n (Null at t r) b h = absurd b
basic_within n (Deref at t r a) b h = absurd b
basic_within n (Member at t r d a) b h = absurd b
basic_within n (Address at t r a) b h = absurd b
basic_within n (Moved at t r op m a c) b h = absurd b
basic_within n (Difference at t r m a c) b h = absurd b
basic_within n (Told at t r f a) b h = absurd b

pub values_lie_in_ranges : ValuesLieInRanges
values_lie_in_ranges n (Number at t r x) s e z l b h g = one_lies x z r h g
values_lie_in_ranges n (Letter at t r x) s e z l b h g = one_lies x z r h g
values_lie_in_ranges n (Variable at t r x) s e z l b h g = read_lies s (start_of (find x.decl s.scope)) t r z l h g
values_lie_in_ranges n (Unary at t r op a) s e z l b h g = unary_lies op (term a s e) (range_of a) r z h.0 (λ x q. values_lie_in_ranges n a s e x l b h.1 q) g
values_lie_in_ranges n (Binary at t r op a c) s e z l b h g =
    both_lie op (term a s e) (term c s e) (range_of a) (range_of c) r z (basic_within n a b.0 h.1) (basic_within n c b.1 h.2) h.0 (λ x q. values_lie_in_ranges n a s e x l b.0 h.1 q)
    (λ y q. values_lie_in_ranges n c s e y l b.1 h.2 q) g
values_lie_in_ranges n (Cast at t r to a) s e z l b h g = cast_lies to (term a s e) (range_of a) r z h.0 (λ x q. values_lie_in_ranges n a s e x l b h.1 q) g
values_lie_in_ranges n (Choice at t r c a d) s e z l b h g =
    subst (λ q. LiesIn q z) h.0 (chosen_lies (pred c s e 0) (term a s e) (term d s e) (range_of a) (range_of d) z (λ x q. values_lie_in_ranges n a s e x l b.1 h.2 q) (λ y q. values_lie_in_ranges n d s e y l b.2 h.3 q) g)
values_lie_in_ranges n (Named at t r x) s e z l b h g = absurd b
values_lie_in_ranges n (At at t r label a) s e z l b h g = absurd b
values_lie_in_ranges n (Null at t r) s e z l b h g = absurd b
values_lie_in_ranges n (Deref at t r a) s e z l b h g = absurd b
values_lie_in_ranges n (Member at t r d a) s e z l b h g = absurd b
values_lie_in_ranges n (Address at t r a) s e z l b h g = absurd b
values_lie_in_ranges n (Moved at t r op m a c) s e z l b h g = absurd b
values_lie_in_ranges n (Difference at t r m a c) s e z l b h g = absurd b
values_lie_in_ranges n (Told at t r f a) s e z l b h g = absurd b
