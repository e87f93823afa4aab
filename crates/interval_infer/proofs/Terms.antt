-- Each value of a term of any form lies in the range that the term keeps, and so does the offset of a pointer.
use Rattle.std.proofs.Common.{[], ◌≡◌, ℕ, zero, suc, cond, nat_eq, ◌^◌, ◌≤◌, ℤ, pos, Bool, true, false, if◌then◌else◌, Option, Some, None, option_map, List, refl, sym, ap, ◌∙◌, subst, arith, ◌+ℤ◌, ◌-ℤ◌, ◌*ℤ◌}
use Rattle.std.proofs.lemmas.Int.{ints}
use Rattle.std.proofs.lemmas.Bool.{and_parts}
use Rattle.c_syntax.specs.declared.annotation.Range.{Range}
use Rattle.c_syntax.specs.declared.expression.BinOp.{BinOp}
use Rattle.c_syntax.specs.declared.expression.BinOp.TheVariants as operator
use Rattle.c_syntax.specs.declared.expression.UnOp.{UnOp}
use Rattle.c_syntax.specs.declared.expression.UnOp.TheVariants as unary
use Rattle.c_syntax.specs.declared.types.CInt.{CInt}
use Rattle.c_syntax.specs.declared.logic.BlockFact.{BlockFact}
use Rattle.c_syntax.specs.declared.logic.Label.{Label}
use Rattle.c_syntax.specs.declared.logic.Label.TheVariants.{Here, Pre, Marked}
use Rattle.c_syntax.specs.declared.logic.PointerOp.{PointerOp}
use Rattle.c_syntax.specs.Ctypes.{PlainType, Void, Int, Ptr, Array, Struct, StructTag, EnumTag}
use Rattle.c_syntax.specs.Ctypes as ctype
use Rattle.c_syntax.specs.Formulas.{CastType, Integers, OfC}
use Rattle.c_syntax.specs.Layouts.{IntegerType, PointerType, int_size}
use Rattle.c_syntax.specs.Logic.{Number, Letter, Variable, Unary, Binary, Cast, Choice, Named, At, Null, Deref, Member, Address, Moved, Difference, Told, range_of}
use Rattle.c_syntax.specs.Logic.{Object, Elements}
use Rattle.c_model.specs.Integers.{integer_type, fits, value_of_bits}
use Rattle.c_model.specs.Operators.{quotient, remainder, shift_left, shift_right}
use Rattle.c_model.specs.Memory.{Pointer, Into, Value, Integer, Points, Byte, Block, Store, block_at, load_bytes, value_from, number_of, pointer_of}
use Rattle.c_model.specs.Memory.{◌>>=◌ as bind}
use Rattle.c_model.specs.Memory as memory
use Rattle.c_model.specs.MemoryQuestions.{Part, address_of, address_farther, inside}
use Rattle.c_model.specs.MemoryQuestions as question
use Rattle.c_model.specs.State.{State, Mark, mark_of, find, start_of}
use Rattle.c_model.specs.Logic.{TermValue, Mathematical, Addressed, Answer, Says, SaysNothing, OutOfSteps, Environment, look, meant, both, compute, mathematical, of_value, held_at, load_from, pointer_at}
use Rattle.c_model.specs.Logic.{state_at, at_mark, at_label, valued_at, as_address, addressed, moved, moved_by, difference, are_together, fact, told, Extent, object_extent, elements_extent}
use Rattle.c_model.specs.Predicates.{compute_one, converted, chosen, term, place, pred, pointed}
use Rattle.c_model.specs.Ranges.{from_to, bounded, wrapped, IsWithin128, LiesIn, sum_range, difference_range}
use Rattle.c_model.specs.TermRanges.{Seen, range_seen, type_range, unary_range, binary_range, cast_range, hull, offset_range, distance_range, start_range, held_range, then_range}
use Rattle.c_model.specs.TermRanges.{place_range, member_range, moved_range, told_range, address_range, begin_range, span_range, end_range, has_extent, has_range, scaled_range}
use Rattle.ea_num.proofs.Bounded.{lies_in_bounded}
use Rattle.ea_num.proofs.Offsets.{members_lie, moves_lie, begins_lie, spans_lie, facts_lie, distances_lie, Within}
use Rattle.c_model.specs.SoundStates.{IsNear, IsSound}
use Rattle.c_model.specs.ContractChecks.{result_number}
use Rattle.c_model.proofs.SoundLoads.{placed_are_near, sound_stores_read}
use Rattle.interval_infer.specs.Laws.{SoundStoresLoad}
use Rattle.interval_infer.specs.Terms.{SoundTermsLieInRanges, StoreFits, StateFits, SoundStatesFit, ReturnedValuesFit, IsReturned, ValueLies, NamesFit, TermsLieInRanges, PlacesLieInRanges, ElementsLie, ZonesLieInRanges}
use Rattle.interval_infer.proofs.Sound.{some_is, type_has, then_parts, type_within, offsets_within, place_of, at_bounded, product_within, term_within, IntegersLie, unary_lies, both_lie, cast_lies, hull_left, hull_right}

value_lies : (r : Range) (w v : TermValue) → Some w ≡ Some v → ValueLies r w → ValueLies r v
value_lies r w v e h = subst (ValueLies r) (some_is w v e) h

number_lies : (r : Range) (x : ℤ) (v : TermValue) → Some (Mathematical x) ≡ Some v → LiesIn r x → ValueLies r v
number_lies r x v e h = value_lies r (Mathematical x) v e h

-- each value that an operand has lies in its range
abbrev pub Lies : Range → Option TermValue → Type 0
Lies a o = (v : TermValue) → o ≡ Some v → ValueLies a v

one_lies : (n : ℤ) (v : TermValue) (r : Range) → bounded (from_to n n) ≡ Some r → Some (Mathematical n) ≡ Some v → ValueLies r v
one_lies n v r e g = number_lies r n v g (lies_in_bounded (from_to n n) r n e (record { above = omega (arith, ints); below = omega (arith, ints) }))

-- ---- what is read

-- a number is read as a number alone
loaded_number : (k : CInt) (o : Option (List Byte)) (v : TermValue) → ((y : ℤ) → bind o (value_from (IntegerType k)) ≡ Some (Integer y) → fits k y ≡ true)
    → of_value (bind o (value_from (IntegerType k))) ≡ Some v → ValueLies (type_range k) v
loaded_number k None v h e = absurd cc
loaded_number k (Some bytes) v h e = by (number_of bytes) h e
  where
    by : (o : Option ℕ) → ((y : ℤ) → option_map (λ n. Integer (value_of_bits k n)) o ≡ Some (Integer y) → fits k y ≡ true)
        → of_value (option_map (λ n. Integer (value_of_bits k n)) o) ≡ Some v → ValueLies (type_range k) v
    by None h e = absurd cc
    by (Some n) h e = number_lies (type_range k) (value_of_bits k n) v e (type_has k (value_of_bits k n) (h (value_of_bits k n) refl))

natural_lies : (i : ℕ) → i ≤ 2 ^ 32 → LiesIn offset_range (pos i)
natural_lies i le = record { above = omega (arith, ints); below = omega (arith, ints, le) }

near_lies : (q : Pointer) → IsNear q → LiesIn offset_range (address_of q).offset
near_lies memory.Null n = record { above = omega (arith, ints); below = omega (arith, ints) }
near_lies (Into n i) h = natural_lies i h

loaded_place : (o : Option (List Byte)) (v : TermValue) → ((q : Pointer) → bind o (value_from PointerType) ≡ Some (Points q) → IsNear q)
    → of_value (bind o (value_from PointerType)) ≡ Some v → ValueLies offset_range v
loaded_place None v h e = absurd cc
loaded_place (Some bytes) v h e = by (pointer_of bytes) h e
  where
    by : (o : Option Pointer) → ((q : Pointer) → option_map Points o ≡ Some (Points q) → IsNear q) → of_value (option_map Points o) ≡ Some v → ValueLies offset_range v
    by None h e = absurd cc
    by (Some q) h e = value_lies offset_range (Addressed (address_of q)) v e (near_lies q (h q refl))

number_read : (store : Store) (k : CInt) (o : Option Pointer) (v : TermValue) → StoreFits store → of_value (load_from store (IntegerType k) o) ≡ Some v → ValueLies (type_range k) v
number_read store k None v l e = absurd cc
number_read store k (Some p) v l e = loaded_number k (load_bytes store p (int_size k)) v (l.value p k) e

place_read : (store : Store) (o : Option Pointer) (v : TermValue) → StoreFits store → of_value (load_from store PointerType o) ≡ Some v → ValueLies offset_range v
place_read store None v l e = absurd cc
place_read store (Some p) v l e = loaded_place (load_bytes store p 8) v (l.offset p) e

-- what a place holds, by the range of its address
held_lies : (store : Store) (t : Option PlainType) (o : Option question.Address) (a : Option Range) (r : Range) (v : TermValue) → StoreFits store → held_range t a ≡ Some r
    → ((x : question.Address) (q : Range) → o ≡ Some x → a ≡ Some q → LiesIn q x.offset) → held_at store t o ≡ Some v → ValueLies r v
held_lies store t None a r v l e h g = absurd cc
held_lies store t (Some x) None r v l e h g = absurd cc
held_lies store None (Some x) (Some q) r v l e h g = absurd cc
held_lies store (Some Void) (Some x) (Some q) r v l e h g = absurd cc
held_lies store (Some (Int k)) (Some x) (Some q) r v l e h g = subst (λ r. ValueLies r v) (some_is (type_range k) r e) (number_read store k (pointer_at x) v l g)
held_lies store (Some (Ptr t)) (Some x) (Some q) r v l e h g = subst (λ r. ValueLies r v) (some_is offset_range r e) (place_read store (pointer_at x) v l g)
held_lies store (Some (Array t n)) (Some x) (Some q) r v l e h g = subst (λ r. ValueLies r v) (some_is q r e) (value_lies q (Addressed x) v g (h x q refl refl))
held_lies store (Some (Struct n)) (Some x) (Some q) r v l e h g = absurd cc
held_lies store (Some (ctype.Named y)) (Some x) (Some q) r v l e h g = absurd cc
held_lies store (Some (StructTag y tag)) (Some x) (Some q) r v l e h g = absurd cc
held_lies store (Some (EnumTag y at)) (Some x) (Some q) r v l e h g = absurd cc

-- an object begins at its start
start_lies : (o : Option ℕ) (x : question.Address) → option_map address_of (start_of o) ≡ Some x → LiesIn offset_range x.offset
start_lies None x e = absurd cc
start_lies (Some n) x e =
    let same : address_of (Into n 0) ≡ x = cc in
    subst (λ y. LiesIn offset_range y.offset) same (natural_lies 0 (omega arith))

-- ---- operators

-- an operator on integers gives an integer
pub no_mathematical : (o : Option ℤ) (x : question.Address) → mathematical o ≡ Some (Addressed x) → ⊥
no_mathematical None x e = absurd cc
no_mathematical (Some z) x e = absurd cc

pub no_unary : (op : UnOp) (o : Option TermValue) (x : question.Address) → compute_one op o ≡ Some (Addressed x) → ⊥
no_unary op None x e = absurd cc
no_unary unary.Plus (Some (Addressed y)) x e = absurd cc
no_unary unary.Plus (Some (Mathematical y)) x e = absurd cc
no_unary unary.Minus (Some (Addressed y)) x e = absurd cc
no_unary unary.Minus (Some (Mathematical y)) x e = absurd cc
no_unary unary.Flip (Some (Addressed y)) x e = absurd cc
no_unary unary.Flip (Some (Mathematical y)) x e = absurd cc
no_unary unary.Not (Some y) x e = absurd cc
no_unary unary.Deref (Some y) x e = absurd cc
no_unary unary.Address (Some y) x e = absurd cc

no_compute : (op : BinOp) (y z : ℤ) (x : question.Address) → compute op y z ≡ Some (Addressed x) → ⊥
no_compute operator.Add y z x e = absurd cc
no_compute operator.Sub y z x e = absurd cc
no_compute operator.Mul y z x e = absurd cc
no_compute operator.Div y z x e = no_mathematical (quotient y z) x e
no_compute operator.Rem y z x e = no_mathematical (remainder y z) x e
no_compute operator.Shl y z x e = no_mathematical (shift_left y z) x e
no_compute operator.Shr y z x e = no_mathematical (shift_right y z) x e
no_compute operator.BitAnd y z x e = absurd cc
no_compute operator.BitOr y z x e = absurd cc
no_compute operator.BitXor y z x e = absurd cc
no_compute operator.Eq y z x e = absurd cc
no_compute operator.Ne y z x e = absurd cc
no_compute operator.Lt y z x e = absurd cc
no_compute operator.Le y z x e = absurd cc
no_compute operator.Gt y z x e = absurd cc
no_compute operator.Ge y z x e = absurd cc

pub no_binary : (op : BinOp) (o p : Option TermValue) (x : question.Address) → both o p (compute op) ≡ Some (Addressed x) → ⊥
no_binary op None p x e = absurd cc
no_binary op (Some (Addressed y)) None x e = absurd cc
no_binary op (Some (Addressed y)) (Some z) x e = absurd cc
no_binary op (Some (Mathematical y)) None x e = absurd cc
no_binary op (Some (Mathematical y)) (Some (Addressed z)) x e = absurd cc
no_binary op (Some (Mathematical y)) (Some (Mathematical z)) x e = no_compute op y z x e

-- what holds of the integers of an operand
numbers_lie : (a : Range) (o : Option TermValue) → Lies a o → IntegersLie a o
numbers_lie a o h x e = h (Mathematical x) e

unary_has : (op : UnOp) (o : Option TermValue) (a r : Range) (v : TermValue) → unary_range op a ≡ Some r → Lies a o → compute_one op o ≡ Some v → ValueLies r v
unary_has op o a r (Mathematical z) e h g = unary_lies op o a r z e (numbers_lie a o h) g
unary_has op o a r (Addressed x) e h g = absurd (no_unary op o x g)

both_have : (op : BinOp) (o p : Option TermValue) (a b r : Range) (v : TermValue) → IsWithin128 a → IsWithin128 b → binary_range op a b ≡ Some r → Lies a o → Lies b p → both o p (compute op) ≡ Some v → ValueLies r v
both_have op o p a b r (Mathematical z) v w e h k g = both_lie op o p a b r z v w e (numbers_lie a o h) (numbers_lie b p k) g
both_have op o p a b r (Addressed x) v w e h k g = absurd (no_binary op o p x g)

-- ---- casts and choices

-- a pointer keeps its offset in each type of pointers
pointed_lies : (t : PlainType) (x y : question.Address) (a r : Range) → cast_range (OfC t) a ≡ Some r → LiesIn a x.offset → pointed t x ≡ Some (Addressed y) → LiesIn r y.offset
pointed_lies Void x y a r e h g = absurd cc
pointed_lies (Int k) x y a r e h g = absurd cc
pointed_lies (Ptr u) x y a r e h g = value_lies r (Addressed x) (Addressed y) g (subst (λ q. LiesIn q x.offset) (some_is a r e) h)
pointed_lies (Array u n) x y a r e h g = absurd cc
pointed_lies (Struct n) x y a r e h g = absurd cc
pointed_lies (ctype.Named z) x y a r e h g = absurd cc
pointed_lies (StructTag z tag) x y a r e h g = absurd cc
pointed_lies (EnumTag z at) x y a r e h g = absurd cc

pub no_wrapped : (i : Option CInt) (z : ℤ) (x : question.Address) → elim i [ None ↦ None | Some k ↦ Some (Mathematical (wrapped k z)) ] ≡ Some (Addressed x) → ⊥
no_wrapped None z x e = absurd cc
no_wrapped (Some k) z x e = absurd cc

cast_address : (to : CastType) (o : Option TermValue) (a r : Range) (y : question.Address) → cast_range to a ≡ Some r → Lies a o → converted to o ≡ Some (Addressed y) → LiesIn r y.offset
cast_address Integers o a r y e h g = subst (λ q. LiesIn q y.offset) (some_is a r e) (h (Addressed y) g)
cast_address (OfC t) None a r y e h g = absurd cc
cast_address (OfC t) (Some (Addressed x)) a r y e h g = pointed_lies t x y a r e (h (Addressed x) refl) g
cast_address (OfC t) (Some (Mathematical z)) a r y e h g = absurd (no_wrapped (integer_type t) z y g)

cast_has : (to : CastType) (o : Option TermValue) (a r : Range) (v : TermValue) → cast_range to a ≡ Some r → Lies a o → converted to o ≡ Some v → ValueLies r v
cast_has to o a r (Mathematical z) e h g = cast_lies to o a r z e (numbers_lie a o h) g
cast_has to o a r (Addressed y) e h g = cast_address to o a r y e h g

left_lies : (a b : Range) (v : TermValue) → ValueLies a v → ValueLies (hull a b) v
left_lies a b (Mathematical z) h = hull_left a b z h
left_lies a b (Addressed x) h = hull_left a b x.offset h

right_lies : (a b : Range) (v : TermValue) → ValueLies b v → ValueLies (hull a b) v
right_lies a b (Mathematical z) h = hull_right a b z h
right_lies a b (Addressed x) h = hull_right a b x.offset h

choice_has : (c : Answer) (o p : Option TermValue) (a b : Range) (v : TermValue) → Lies a o → Lies b p → chosen c o p ≡ Some v → ValueLies (hull a b) v
choice_has (Says true n) o p a b v h k g = left_lies a b v (h v g)
choice_has (Says false n) o p a b v h k g = right_lies a b v (k v g)
choice_has (SaysNothing n) o p a b v h k g = absurd cc
choice_has OutOfSteps o p a b v h k g = absurd cc

-- ---- pointers

-- an address by the term's value
address_lies : (o : Option TermValue) (a : Range) (x : question.Address) → Lies a o → as_address o ≡ Some x → LiesIn a x.offset
address_lies None a x h e = absurd cc
address_lies (Some (Mathematical z)) a x h e = absurd cc
address_lies (Some (Addressed y)) a x h e = let same : y ≡ x = cc in subst (λ w. LiesIn a w.offset) same (h (Addressed y) refl)

addressed_lies : (o : Option question.Address) (r : Range) (v : TermValue) → ((x : question.Address) → o ≡ Some x → LiesIn r x.offset) → addressed o ≡ Some v → ValueLies r v
addressed_lies None r v h e = absurd cc
addressed_lies (Some x) r v h e = value_lies r (Addressed x) v e (h x refl)

member_lies : (o : Option question.Address) (d : ℕ) (a : Option Range) (r : Range) (x : question.Address) → member_range d a ≡ Some r
    → ((y : question.Address) (q : Range) → o ≡ Some y → a ≡ Some q → LiesIn q y.offset) → option_map (λ y. address_farther y (pos d)) o ≡ Some x → LiesIn r x.offset
member_lies None d a r x e h g = absurd cc
member_lies (Some y) d None r x e h g = absurd cc
member_lies (Some y) d (Some q) r x e h g =
    let same : address_farther y (pos d) ≡ x = cc in
    subst (λ w. LiesIn r w.offset) same (members_lie d q r y e (h y q refl refl))

moved_lies : (op : PointerOp) (n : ℕ) (o p : Option TermValue) (a b r : Range) (v : TermValue) → moved_range op n a b ≡ Some r → Lies a o → Lies b p → moved op n o p ≡ Some v → ValueLies r v
moved_lies op n None p a b r v e h k g = absurd cc
moved_lies op n (Some (Mathematical z)) p a b r v e h k g = absurd cc
moved_lies op n (Some (Addressed x)) None a b r v e h k g = absurd cc
moved_lies op n (Some (Addressed x)) (Some (Addressed y)) a b r v e h k g = absurd cc
moved_lies op n (Some (Addressed x)) (Some (Mathematical i)) a b r v e h k g =
    value_lies r (Addressed (moved_by op n x i)) v g (moves_lie op n a b r x i e (h (Addressed x) refl) (k (Mathematical i) refl))

difference_lies : (store : Store) (n : ℕ) (o p : Option question.Address) (v : TermValue) → StoreFits store → difference store n o p ≡ Some v → ValueLies distance_range v
difference_lies store n None p v l e = absurd cc
difference_lies store n (Some x) None v l e = absurd cc
difference_lies store n (Some x) (Some y) (Mathematical z) l e = distances_lie store n x y z l.small e
difference_lies store n (Some x) (Some y) (Addressed w) l e = absurd (by (are_together store x y) e)
  where
    none : (o : Option ℤ) → mathematical o ≡ Some (Addressed w) → ⊥
    none None e = absurd cc
    none (Some z) e = absurd cc

    by : (t : Bool) → (if t then mathematical (quotient (x.offset -ℤ y.offset) (pos n)) else None) ≡ Some (Addressed w) → ⊥
    by true e = none (quotient (x.offset -ℤ y.offset) (pos n)) e
    by false e = absurd cc

within_lies : (r : Range) (v : TermValue) → Within r v → ValueLies r v
within_lies r (Mathematical z) h = h
within_lies r (Addressed x) h = h

told_lies : (store : Store) (f : BlockFact) (o : Option question.Address) (v : TermValue) → StoreFits store → told store f o ≡ Some v → ValueLies (told_range f) v
told_lies store f None v l e = absurd cc
told_lies store f (Some x) v l e = by (inside store x) refl e
  where
    by : (o : Option Part) → inside store x ≡ o → option_map (fact f x) o ≡ Some v → ValueLies (told_range f) v
    by None at e = absurd cc
    by (Some p) at e = value_lies (told_range f) (fact f x p) v e (within_lies (told_range f) (fact f x p) (facts_lie store f x p l.small at))

-- ---- labels

-- a state at a label is sound, and what is at a label of it is itself
pub record AtLabel (seen : Seen) (u : State) (e : Environment) : Type 0 where
  pub sound : StateFits u
  pub fit : NamesFit seen u e

at_passed : (seen : Seen) (s u : State) (e : Environment) (l : Label) (o : Option Mark) → NamesFit seen s e → ((m : Mark) → o ≡ Some m → StoreFits m.store) → at_label l s ≡ at_mark o → at_mark o ≡ Some u → AtLabel seen u e
at_passed seen s u e l None ft old is g = absurd cc
at_passed seen s u e l (Some m) ft old is g =
    let same : state_at m ≡ u = cc in
    subst (λ w. AtLabel seen w e) same (record {
      sound = record { now = old m refl; past = λ k n e. absurd cc };
      fit = record { within = ft.within; lies = lies };
    })
  where
    lies : (k : Label) (w : State) (x : ℕ) (r : Range) (v : TermValue) → at_label k (state_at m) ≡ Some w → range_seen x seen ≡ Some r → meant w (look x e) ≡ Some v → ValueLies r v
    lies Here w x r v f g h = ft.lies l w x r v (is ∙ f) g h
    lies Pre w x r v f g h = absurd cc
    lies (Marked y) w x r v f g h = absurd cc

pub at_a_label : (seen : Seen) (s u : State) (e : Environment) (l : Label) → StateFits s → NamesFit seen s e → at_label l s ≡ Some u → AtLabel seen u e
at_a_label seen s u e Here st ft g = let same : s ≡ u = cc in subst (λ w. AtLabel seen w e) same (record { sound = st; fit = ft })
at_a_label seen s u e Pre st ft g = at_passed seen s u e Pre (mark_of None s.marks) ft (st.past None) refl g
at_a_label seen s u e (Marked y) st ft g = at_passed seen s u e (Marked y) (mark_of (Some y) s.marks) ft (st.past (Some y)) refl g

valued_lies : (o : Option State) (f : State → Option TermValue) (r : Range) (v : TermValue) → ((u : State) → o ≡ Some u → f u ≡ Some v → ValueLies r v) → valued_at o f ≡ Some v → ValueLies r v
valued_lies None f r v h e = absurd cc
valued_lies (Some u) f r v h e = h u refl e

-- ---- all terms

mutual
  pub terms_lie_in_ranges : TermsLieInRanges
  terms_lie_in_ranges n (Number at t r x) s e v st ft h g = one_lies x v r h g
  terms_lie_in_ranges n (Letter at t r x) s e v st ft h g = one_lies x v r h g
  terms_lie_in_ranges n (Variable at t r x) s e v st ft h g =
      held_lies s.store t (option_map address_of (start_of (find x.decl s.scope))) (Some offset_range) r v st.now h
      (λ y q f k. subst (λ q. LiesIn q y.offset) (some_is offset_range q k) (start_lies (find x.decl s.scope) y f)) g
  terms_lie_in_ranges n (Unary at t r op a) s e v st ft h g = unary_has op (term a s e) (range_of a) r v h.0 (λ w q. terms_lie_in_ranges n a s e w st ft h.1 q) g
  terms_lie_in_ranges n (Binary at t r op a c) s e v st ft h g =
      both_have op (term a s e) (term c s e) (range_of a) (range_of c) r v (term_within n a ft.within h.1) (term_within n c ft.within h.2) h.0
      (λ w q. terms_lie_in_ranges n a s e w st ft h.1 q) (λ w q. terms_lie_in_ranges n c s e w st ft h.2 q) g
  terms_lie_in_ranges n (Cast at t r to a) s e v st ft h g = cast_has to (term a s e) (range_of a) r v h.0 (λ w q. terms_lie_in_ranges n a s e w st ft h.1 q) g
  terms_lie_in_ranges n (Choice at t r c a d) s e v st ft h g =
      subst (λ q. ValueLies q v) h.0 (choice_has (pred c s e 0) (term a s e) (term d s e) (range_of a) (range_of d) v
      (λ w q. terms_lie_in_ranges n a s e w st ft h.2 q) (λ w q. terms_lie_in_ranges n d s e w st ft h.3 q) g)
  terms_lie_in_ranges n (Named at t r x) s e v st ft h g = ft.lies Here s x.decl r v refl h g
  terms_lie_in_ranges n (At at t r l a) s e v st ft h g =
      subst (λ q. ValueLies q v) h.0 (valued_lies (at_label l s) (λ u. term a u e) (range_of a) v
      (λ u f k. let there = at_a_label n s u e l st ft f in terms_lie_in_ranges n a u e v there.sound there.fit h.1 k) g)
  terms_lie_in_ranges n (Null at t r) s e v st ft h g = subst (λ q. ValueLies q v) h (value_lies start_range (Addressed question.null_address) v g (record { above = omega (arith, ints); below = omega (arith, ints) }))
  terms_lie_in_ranges n (Deref at t r a) s e v st ft h g =
      held_lies s.store t (as_address (term a s e)) (Some (range_of a)) r v st.now h.0
      (λ y q f k. subst (λ q. LiesIn q y.offset) (some_is (range_of a) q k) (address_lies (term a s e) (range_of a) y (λ w q. terms_lie_in_ranges n a s e w st ft h.1 q) f)) g
  terms_lie_in_ranges n (Member at t r d a) s e v st ft h g =
      held_lies s.store t (option_map (λ x. address_farther x (pos d)) (place a s e)) (member_range d (address_range a)) r v st.now h.0
      (λ y q f k. member_lies (place a s e) d (address_range a) q y k (λ z w i j. places_lie_in_ranges n a s e w z st ft h.1 j i) f) g
  terms_lie_in_ranges n (Address at t r a) s e v st ft h g = addressed_lies (place a s e) r v (λ x f. places_lie_in_ranges n a s e r x st ft h.1 h.0 f) g
  terms_lie_in_ranges n (Moved at t r op m a c) s e v st ft h g =
      moved_lies op m (term a s e) (term c s e) (range_of a) (range_of c) r v h.0 (λ w q. terms_lie_in_ranges n a s e w st ft h.1 q) (λ w q. terms_lie_in_ranges n c s e w st ft h.2 q) g
  terms_lie_in_ranges n (Difference at t r m a c) s e v st ft h g =
      subst (λ q. ValueLies q v) h.0 (difference_lies s.store m (as_address (term a s e)) (as_address (term c s e)) v st.now g)
  terms_lie_in_ranges n (Told at t r f a) s e v st ft h g = subst (λ q. ValueLies q v) h.0 (told_lies s.store f (as_address (term a s e)) v st.now g)

  pub places_lie_in_ranges : PlacesLieInRanges
  places_lie_in_ranges n (Variable at t q y) s e r x st ft h k g = subst (λ q. LiesIn q x.offset) (some_is offset_range r k) (start_lies (find y.decl s.scope) x g)
  places_lie_in_ranges n (Deref at t q a) s e r x st ft h k g =
      subst (λ q. LiesIn q x.offset) (some_is (range_of a) r k) (address_lies (term a s e) (range_of a) x (λ w q. terms_lie_in_ranges n a s e w st ft h.1 q) g)
  places_lie_in_ranges n (Member at t q d a) s e r x st ft h k g =
      member_lies (place a s e) d (address_range a) r x k (λ z w i j. places_lie_in_ranges n a s e w z st ft h.1 j i) g
  places_lie_in_ranges n (Number at t q z) s e r x st ft h k g = absurd cc
  places_lie_in_ranges n (Letter at t q z) s e r x st ft h k g = absurd cc
  places_lie_in_ranges n (Unary at t q op a) s e r x st ft h k g = absurd cc
  places_lie_in_ranges n (Binary at t q op a b) s e r x st ft h k g = absurd cc
  places_lie_in_ranges n (Cast at t q to a) s e r x st ft h k g = absurd cc
  places_lie_in_ranges n (Choice at t q c a b) s e r x st ft h k g = absurd cc
  places_lie_in_ranges n (Named at t q y) s e r x st ft h k g = absurd cc
  places_lie_in_ranges n (At at t q l a) s e r x st ft h k g = absurd cc
  places_lie_in_ranges n (Null at t q) s e r x st ft h k g = absurd cc
  places_lie_in_ranges n (Address at t q a) s e r x st ft h k g = absurd cc
  places_lie_in_ranges n (Moved at t q op m a b) s e r x st ft h k g = absurd cc
  places_lie_in_ranges n (Difference at t q m a b) s e r x st ft h k g = absurd cc
  places_lie_in_ranges n (Told at t q f a) s e r x st ft h k g = absurd cc

-- ---- zones

object_lies : (n : ℕ) (o : Option TermValue) (a : Range) (d : Extent) → Lies a o → object_extent n (as_address o) ≡ Some d → LiesIn a d.start.offset × (d.length ≡ pos n)
object_lies n None a d h e = absurd cc
object_lies n (Some (Mathematical z)) a d h e = absurd cc
object_lies n (Some (Addressed x)) a d h e =
    let same : (record { start = x; length = pos n }) ≡ d = cc in
    subst (λ w. LiesIn a w.start.offset × (w.length ≡ pos n)) same (h (Addressed x) refl, refl)

-- a range that is there
there_is : (o : Option Range) → has_range o ≡ true → (r : Range) × (o ≡ Some r)
there_is None e = absurd cc
there_is (Some r) e = (r, refl)

scaled_within : (n : ℕ) (a r : Range) → scaled_range n a ≡ Some r → IsWithin128 r
scaled_within n a r e = product_within (from_to (pos n) (pos n)) a r e

begin_within : (n : ℕ) (a lo r : Range) → begin_range n a lo ≡ Some r → IsWithin128 r
begin_within n a lo r e = let t = then_parts (scaled_range n lo) (sum_range a) r e in at_bounded (from_to (a.lo +ℤ t.first.lo) (a.hi +ℤ t.first.hi)) r t.is

span_within : (n : ℕ) (lo hi r : Range) → span_range n lo hi ≡ Some r → IsWithin128 r
span_within n lo hi r e =
    let t = then_parts (difference_range hi lo) (λ d. then_range (sum_range d (from_to (pos 1) (pos 1))) (scaled_range n)) r e in
    let u = then_parts (sum_range t.first (from_to (pos 1) (pos 1))) (scaled_range n) r t.is in
    scaled_within n u.first r u.is

elements_lie : (n : ℕ) (o p q : Option TermValue) (a lo hi : Range) (d : Extent) → has_extent n a lo hi ≡ true → Lies a o → Lies lo p → Lies hi q
    → elements_extent n o p q ≡ Some d → ElementsLie n a lo hi d
elements_lie n None p q a lo hi d e h k l g = absurd cc
elements_lie n (Some (Mathematical z)) p q a lo hi d e h k l g = absurd cc
elements_lie n (Some (Addressed x)) None q a lo hi d e h k l g = absurd cc
elements_lie n (Some (Addressed x)) (Some (Addressed y)) q a lo hi d e h k l g = absurd cc
elements_lie n (Some (Addressed x)) (Some (Mathematical i)) None a lo hi d e h k l g = absurd cc
elements_lie n (Some (Addressed x)) (Some (Mathematical i)) (Some (Addressed y)) a lo hi d e h k l g = absurd cc
elements_lie n (Some (Addressed x)) (Some (Mathematical i)) (Some (Mathematical j)) a lo hi d e h k l g =
    let parts = and_parts (has_range (begin_range n a lo)) (has_range (end_range n a lo hi)) e in
    let b = there_is (begin_range n a lo) parts.0 in
    let w = there_is (end_range n a lo hi) parts.1 in
    let c = then_parts (span_range n lo hi) (sum_range a) w.0 w.1 in
    let same : (record { start = address_farther x (pos n *ℤ i); length = pos n *ℤ (j -ℤ i +ℤ pos 1) }) ≡ d = cc in
    subst (ElementsLie n a lo hi) same (record {
      begin = b.0;
      begin_is = b.1;
      begin_within = begin_within n a lo b.0 b.1;
      starts = begins_lie n a lo b.0 x i b.1 (h (Addressed x) refl) (k (Mathematical i) refl);
      span = c.first;
      span_is = c.there;
      span_within = span_within n lo hi c.first c.there;
      spans = spans_lie n lo hi c.first i j c.there (k (Mathematical i) refl) (l (Mathematical j) refl);
    })

pub zones_lie_in_ranges : ZonesLieInRanges
zones_lie_in_ranges n (Object at m al a) s e d st ft h g = object_lies m (term a s e) (range_of a) d (λ w q. terms_lie_in_ranges n a s e w st ft h q) g
zones_lie_in_ranges n (Elements at m al a lo hi) s e d st ft h g =
    elements_lie m (term a s e) (term lo s e) (term hi s e) (range_of a) (range_of lo) (range_of hi) d h.0
    (λ w q. terms_lie_in_ranges n a s e w st ft h.1 q) (λ w q. terms_lie_in_ranges n lo s e w st ft h.2 q) (λ w q. terms_lie_in_ranges n hi s e w st ft h.3 q) g

-- ---- sound states

sound_store_fits : (store : Store) → IsSound store → StoreFits store
sound_store_fits store h = record {
  value = λ p k z e. (sound_stores_read store h).value p k z e;
  offset = λ p q e. placed_are_near store q h ((sound_stores_read store h).offset p q e);
  small = small;
}
  where
    small : (n : ℕ) (b : Block) → block_at store n ≡ Some b → b.size ≤ 2 ^ 32
    small zero b e = absurd cc
    small (suc k) b e = (h k b e).small

pub sound_stores_load : SoundStoresLoad
sound_stores_load store h = record { value = λ p k z e. (sound_store_fits store h).value p k z e }

pub sound_states_fit : SoundStatesFit
sound_states_fit p s h = record { now = sound_store_fits s.store h.now.blocks; past = λ l m e. sound_store_fits m.store (h.past l m e).blocks }

pub sound_terms_lie_in_ranges : SoundTermsLieInRanges
sound_terms_lie_in_ranges p t s v sound ranged e =
    terms_lie_in_ranges [] t s [] v (sound_states_fit p s sound) (record { within = λ x r f. absurd cc; lies = λ l u x r w at f g. absurd cc }) ranged e

-- ---- results

result_lies : (t : PlainType) (r : Range) (v : Value) (w : TermValue) → place_range (Some t) ≡ Some r → IsReturned t v → of_value (Some v) ≡ Some w → ValueLies r w
result_lies (Int k) r v w e h g =
    subst (λ q. ValueLies q w) (some_is (type_range k) r e) (number_lies (type_range k) h.0 w (ap (λ x. of_value (Some x)) (sym h.1) ∙ g) (type_has k h.0 h.2))
result_lies (Ptr t) r v w e h g =
    subst (λ q. ValueLies q w) (some_is offset_range r e) (value_lies offset_range (Addressed (address_of h.0)) w (ap (λ x. of_value (Some x)) (sym h.1) ∙ g) (near_lies h.0 h.2))
result_lies (Array t n) r v w e h g = absurd h
result_lies (Struct n) r v w e h g = absurd h
result_lies Void r v w e h g = absurd h
result_lies (ctype.Named x) r v w e h g = absurd h
result_lies (StructTag x tag) r v w e h g = absurd h
result_lies (EnumTag x at) r v w e h g = absurd h

result_within : (t : PlainType) (r : Range) → place_range (Some t) ≡ Some r → IsWithin128 r
result_within t r e = place_of IsWithin128 (Some t) r type_within offsets_within e

pub returned_values_fit : ReturnedValuesFit
returned_values_fit t r v s e h = record { within = λ x q f. by_range x q (nat_eq result_number x) f; lies = λ l u x q w at f g. by u x q w (nat_eq result_number x) f g }
  where
    by_range : (x : ℕ) (q : Range) (b : Bool) → cond b (Some r) None ≡ Some q → IsWithin128 q
    by_range x q true f = subst IsWithin128 (some_is r q f) (result_within t r e)
    by_range x q false f = absurd cc

    by : (u : State) (x : ℕ) (q : Range) (w : TermValue) (b : Bool) → cond b (Some r) None ≡ Some q → meant u (cond b (Some (λ s. of_value (Some v))) None) ≡ Some w → ValueLies q w
    by u x q w true f g = subst (λ q. ValueLies q w) (some_is r q f) (result_lies t r v w e h g)
    by u x q w false f g = absurd cc
