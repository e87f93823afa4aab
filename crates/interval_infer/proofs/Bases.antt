-- The base and the offset that code makes of a pointer of annotations are its value, and the offset lies in the term's range.
use Rattle.std.proofs.Common.{◌≡◌, List, ℕ, ℤ, pos, neg_ℤ, Bool, true, false, if◌then◌else◌, Option, Some, None, option_map, refl, sym, ap, ◌∙◌, subst, arith, ◌+ℤ◌, ◌-ℤ◌, ◌*ℤ◌}
use Rattle.std.proofs.lemmas.Int.{ints}
use Rattle.c_syntax.specs.declared.annotation.Range.{Range}
use Rattle.c_syntax.specs.declared.types.CInt.{CInt}
use Rattle.c_syntax.specs.declared.logic.BlockFact.{BlockFact}
use Rattle.c_syntax.specs.declared.logic.BlockFact.TheVariants.{BaseAddr, BlockLength, Offset}
use Rattle.c_syntax.specs.declared.logic.Label.{Label}
use Rattle.c_syntax.specs.declared.logic.Label.TheVariants.{Here, Pre, Marked}
use Rattle.c_syntax.specs.declared.logic.PointerOp.{PointerOp}
use Rattle.c_syntax.specs.declared.logic.PointerOp.TheVariants.{Plus, Minus}
use Rattle.c_syntax.specs.Ctypes.{PlainType, Void, Int, Ptr, Array, Struct, StructTag, EnumTag}
use Rattle.c_syntax.specs.Ctypes as ctype
use Rattle.c_syntax.specs.Formulas.{CastType, Integers, OfC}
use Rattle.c_syntax.specs.Layouts.{IntegerType, PointerType, int_size}
use Rattle.c_syntax.specs.Logic.{LogicTerm, Number, Letter, Variable, Unary, Binary, Cast, Choice, Named, At, Null, Deref, Member, Address, Moved, Difference, Told, range_of}
use Rattle.c_model.specs.Integers.{integer_type, value_of_bits}
use Rattle.c_model.specs.Operators.{quotient}
use Rattle.c_model.specs.Memory.{Pointer, Into, Value, Integer, Points, NoValue, Byte, Store, load_bytes, value_from, number_of}
use Rattle.c_model.specs.Memory.{◌>>=◌ as bind}
use Rattle.c_model.specs.Memory as memory
use Rattle.c_model.specs.MemoryQuestions.{Part, address_of, address_farther, inside}
use Rattle.c_model.specs.MemoryQuestions as question
use Rattle.c_model.specs.State.{State, Mark, mark_of, find, start_of}
use Rattle.c_model.specs.Logic.{TermValue, Mathematical, Addressed, Answer, Says, SaysNothing, OutOfSteps, Environment, look, meant, mathematical, of_value, held_at, load_from, pointer_at}
use Rattle.c_model.specs.Logic.{state_at, at_mark, at_label, valued_at, as_address, addressed, moved, moved_by, difference, are_together, fact, told}
use Rattle.c_model.specs.Predicates.{converted, chosen, term, place, pred, pointed}
use Rattle.c_model.specs.Ranges.{LiesIn}
use Rattle.c_model.specs.TermRanges.{Seen, range_seen, cast_range, hull, offset_range, start_range, held_range, member_range, moved_range, told_range, address_range}
use Rattle.ea_num.proofs.Offsets.{members_lie, moves_lie}
use Rattle.interval_infer.specs.Terms.{ValueLies}
use Rattle.interval_infer.specs.Bases.{Based, sum_of, at_base, on, moved_base, moved_based, base_of_value, held_based, cast_based, chosen_based, told_based, based_at, Bases, based_place, based}
use Rattle.interval_infer.specs.Bases.{SumsTo, BasesFit, BasesAddUp, BasedOffsetsLie, BasedPlacesLie}
use Rattle.interval_infer.proofs.Sound.{some_is, hull_left, hull_right}
use Rattle.interval_infer.proofs.Terms.{no_mathematical, no_unary, no_binary, no_wrapped, at_a_label, terms_lie_in_ranges}

-- ---- sums

abbrev address : ℕ → ℤ → question.Address
address n y = record { block = n; offset = y }

same_offset : (n : ℕ) (y z : ℤ) → y ≡ z → address n y ≡ address n z
same_offset n y z e = ap (address n) e

base_sums : (p : Pointer) → sum_of (at_base p) ≡ address_of p
base_sums memory.Null = refl
base_sums (Into n i) = same_offset n (pos i +ℤ pos 0) (pos i) (omega (arith, ints))

on_sums : (d : ℤ) (b : Based) → sum_of (on d b) ≡ address_farther (sum_of b) d
on_sums d b =
    let o = (address_of b.base).offset in
    same_offset (address_of b.base).block (o +ℤ (b.offset +ℤ d)) ((o +ℤ b.offset) +ℤ d) (omega (arith, ints))

moved_sums : (op : PointerOp) (n : ℕ) (b : Based) (i : ℤ) → sum_of (moved_base op n b i) ≡ moved_by op n (sum_of b) i
moved_sums Plus n b i = on_sums (pos n *ℤ i) b
moved_sums Minus n b i = on_sums (neg_ℤ (pos n *ℤ i)) b

address_is : (x y : question.Address) → Some (Addressed x) ≡ Some (Addressed y) → x ≡ y
address_is x y e = cc

start_sums : (o : Option ℕ) (x : question.Address) → option_map address_of (start_of o) ≡ Some x → SumsTo (option_map at_base (start_of o)) x
start_sums None x e = absurd cc
start_sums (Some n) x e =
    let same : address_of (Into n 0) ≡ x = cc in
    (at_base (Into n 0), refl, base_sums (Into n 0) ∙ same)

member_sums : (o : Option question.Address) (p : Option Based) (d : ℕ) (x : question.Address) → ((y : question.Address) → o ≡ Some y → SumsTo p y)
    → option_map (λ y. address_farther y (pos d)) o ≡ Some x → SumsTo (option_map (on (pos d)) p) x
member_sums None p d x h e = absurd cc
member_sums (Some y) p d x h e =
    let c = h y refl in
    let same : address_farther y (pos d) ≡ x = cc in
    (on (pos d) c.0, ap (option_map (on (pos d))) c.1, on_sums (pos d) c.0 ∙ ap (λ z. address_farther z (pos d)) c.2 ∙ same)

-- ---- what is read

no_number : (k : CInt) (o : Option (List Byte)) (x : question.Address) → of_value (bind o (value_from (IntegerType k))) ≡ Some (Addressed x) → ⊥
no_number k None x e = absurd cc
no_number k (Some bytes) x e = by (number_of bytes) e
  where
    by : (o : Option ℕ) → of_value (option_map (λ n. Integer (value_of_bits k n)) o) ≡ Some (Addressed x) → ⊥
    by None e = absurd cc
    by (Some n) e = absurd cc

number_read : (store : Store) (k : CInt) (o : Option Pointer) (x : question.Address) → of_value (load_from store (IntegerType k) o) ≡ Some (Addressed x) → ⊥
number_read store k None x e = absurd cc
number_read store k (Some p) x e = no_number k (load_bytes store p (int_size k)) x e

value_sums : (o : Option Value) (x : question.Address) → of_value o ≡ Some (Addressed x) → SumsTo (base_of_value o) x
value_sums None x e = absurd cc
value_sums (Some (Integer z)) x e = absurd cc
value_sums (Some (Points p)) x e = (at_base p, refl, base_sums p ∙ address_is (address_of p) x e)
value_sums (Some NoValue) x e = absurd cc

held_here : (store : Store) (t : PlainType) (b : Based) (x y : question.Address) → sum_of b ≡ x → held_at store (Some t) (Some x) ≡ Some (Addressed y) → SumsTo (held_based store (Some t) (Some b)) y
held_here store (Ptr u) b x y s e = subst (λ z. SumsTo (base_of_value (load_from store PointerType (pointer_at z))) y) (sym s) (value_sums (load_from store PointerType (pointer_at x)) y e)
held_here store (Array u n) b x y s e = (b, refl, s ∙ address_is x y e)
held_here store (Int k) b x y s e = absurd (number_read store k (pointer_at x) y e)
held_here store (Struct n) b x y s e = absurd cc
held_here store Void b x y s e = absurd cc
held_here store (ctype.Named z) b x y s e = absurd cc
held_here store (StructTag z tag) b x y s e = absurd cc
held_here store (EnumTag z at) b x y s e = absurd cc

held_sums : (store : Store) (t : Option PlainType) (o : Option question.Address) (p : Option Based) (y : question.Address) → ((x : question.Address) → o ≡ Some x → SumsTo p x)
    → held_at store t o ≡ Some (Addressed y) → SumsTo (held_based store t p) y
held_sums store t None p y h e = absurd cc
held_sums store None (Some x) p y h e = absurd cc
held_sums store (Some t) (Some x) p y h e =
    let c = h x refl in
    subst (λ q. SumsTo (held_based store (Some t) q) y) (sym c.1) (held_here store t c.0 x y c.2 e)

-- ---- operators

pointed_sums : (t : PlainType) (y x : question.Address) (p : Option Based) → SumsTo p y → pointed t y ≡ Some (Addressed x) → SumsTo (cast_based (OfC t) p) x
pointed_sums (Ptr u) y x p h e = subst (SumsTo p) (address_is y x e) h
pointed_sums (Int k) y x p h e = absurd cc
pointed_sums (Array u n) y x p h e = absurd cc
pointed_sums (Struct n) y x p h e = absurd cc
pointed_sums Void y x p h e = absurd cc
pointed_sums (ctype.Named z) y x p h e = absurd cc
pointed_sums (StructTag z tag) y x p h e = absurd cc
pointed_sums (EnumTag z at) y x p h e = absurd cc

cast_sums : (to : CastType) (o : Option TermValue) (p : Option Based) (x : question.Address) → ((y : question.Address) → o ≡ Some (Addressed y) → SumsTo p y)
    → converted to o ≡ Some (Addressed x) → SumsTo (cast_based to p) x
cast_sums Integers o p x h e = h x e
cast_sums (OfC t) None p x h e = absurd cc
cast_sums (OfC t) (Some (Addressed y)) p x h e = pointed_sums t y x p (h y refl) e
cast_sums (OfC t) (Some (Mathematical z)) p x h e = absurd (no_wrapped (integer_type t) z x e)

chosen_sums : (c : Answer) (o p : Option TermValue) (a b : Option Based) (x : question.Address) → (o ≡ Some (Addressed x) → SumsTo a x) → (p ≡ Some (Addressed x) → SumsTo b x)
    → chosen c o p ≡ Some (Addressed x) → SumsTo (chosen_based c a b) x
chosen_sums (Says true n) o p a b x h k e = h e
chosen_sums (Says false n) o p a b x h k e = k e
chosen_sums (SaysNothing n) o p a b x h k e = absurd cc
chosen_sums OutOfSteps o p a b x h k e = absurd cc

moves_sum : (op : PointerOp) (n : ℕ) (o t : Option TermValue) (p : Option Based) (x : question.Address) → ((y : question.Address) → o ≡ Some (Addressed y) → SumsTo p y)
    → moved op n o t ≡ Some (Addressed x) → SumsTo (moved_based op n p t) x
moves_sum op n None t p x h e = absurd cc
moves_sum op n (Some (Mathematical z)) t p x h e = absurd cc
moves_sum op n (Some (Addressed y)) None p x h e = absurd cc
moves_sum op n (Some (Addressed y)) (Some (Addressed z)) p x h e = absurd cc
moves_sum op n (Some (Addressed y)) (Some (Mathematical i)) p x h e =
    let c = h y refl in
    (moved_base op n c.0 i, ap (λ q. moved_based op n q (Some (Mathematical i))) c.1, moved_sums op n c.0 i ∙ ap (λ z. moved_by op n z i) c.2 ∙ address_is (moved_by op n y i) x e)

no_difference : (store : Store) (n : ℕ) (o p : Option question.Address) (x : question.Address) → difference store n o p ≡ Some (Addressed x) → ⊥
no_difference store n None p x e = absurd cc
no_difference store n (Some y) None x e = absurd cc
no_difference store n (Some y) (Some z) x e = by (are_together store y z) e
  where
    by : (t : Bool) → (if t then mathematical (quotient (y.offset -ℤ z.offset) (pos n)) else None) ≡ Some (Addressed x) → ⊥
    by true e = no_mathematical (quotient (y.offset -ℤ z.offset) (pos n)) x e
    by false e = absurd cc

told_sums : (store : Store) (f : BlockFact) (o : Option question.Address) (x : question.Address) → told store f o ≡ Some (Addressed x) → SumsTo (told_based store f o) x
told_sums store f None x e = absurd cc
told_sums store BaseAddr (Some y) x e = by (inside store y) e
  where
    by : (o : Option Part) → option_map (fact BaseAddr y) o ≡ Some (Addressed x) → SumsTo (option_map (λ (p : Part). at_base (Into y.block 0)) o) x
    by None e = absurd cc
    by (Some p) e = (at_base (Into y.block 0), refl, base_sums (Into y.block 0) ∙ address_is (address_of (Into y.block 0)) x e)
told_sums store BlockLength (Some y) x e = absurd (by (inside store y) e)
  where
    by : (o : Option Part) → option_map (fact BlockLength y) o ≡ Some (Addressed x) → ⊥
    by None e = absurd cc
    by (Some p) e = absurd cc
told_sums store Offset (Some y) x e = absurd (by (inside store y) e)
  where
    by : (o : Option Part) → option_map (fact Offset y) o ≡ Some (Addressed x) → ⊥
    by None e = absurd cc
    by (Some p) e = absurd cc

as_address_is : (o : Option TermValue) (x : question.Address) → as_address o ≡ Some x → o ≡ Some (Addressed x)
as_address_is None x e = absurd cc
as_address_is (Some (Mathematical z)) x e = absurd cc
as_address_is (Some (Addressed y)) x e = let same : y ≡ x = cc in ap (λ z. Some (Addressed z)) same

addressed_is : (o : Option question.Address) (x : question.Address) → addressed o ≡ Some (Addressed x) → o ≡ Some x
addressed_is None x e = absurd cc
addressed_is (Some y) x e = let same : y ≡ x = cc in ap Some same

-- ---- labels

passed_bases : (g : Bases) (seen : Seen) (s u : State) (e : Environment) (l : Label) (o : Option Mark) → BasesFit g seen s e → at_label l s ≡ at_mark o → at_mark o ≡ Some u → BasesFit g seen u e
passed_bases g seen s u e l None ft is k = absurd cc
passed_bases g seen s u e l (Some m) ft is k =
    let same : state_at m ≡ u = cc in
    subst (λ w. BasesFit g seen w e) same (record { sums = sums; lies = lies })
  where
    sums : (j : Label) (w : State) (x : ℕ) (y : question.Address) → at_label j (state_at m) ≡ Some w → meant w (look x e) ≡ Some (Addressed y) → SumsTo (g x w) y
    sums Here w x y f h = ft.sums l w x y (is ∙ f) h
    sums Pre w x y f h = absurd cc
    sums (Marked z) w x y f h = absurd cc

    lies : (j : Label) (w : State) (x : ℕ) (r : Range) (b : Based) → at_label j (state_at m) ≡ Some w → range_seen x seen ≡ Some r → g x w ≡ Some b → LiesIn r b.offset
    lies Here w x r b f q h = ft.lies l w x r b (is ∙ f) q h
    lies Pre w x r b f q h = absurd cc
    lies (Marked z) w x r b f q h = absurd cc

bases_at : (g : Bases) (seen : Seen) (s u : State) (e : Environment) (l : Label) → BasesFit g seen s e → at_label l s ≡ Some u → BasesFit g seen u e
bases_at g seen s u e Here ft k = let same : s ≡ u = cc in subst (λ w. BasesFit g seen w e) same ft
bases_at g seen s u e Pre ft k = passed_bases g seen s u e Pre (mark_of None s.marks) ft refl k
bases_at g seen s u e (Marked y) ft k = passed_bases g seen s u e (Marked y) (mark_of (Some y) s.marks) ft refl k

label_sums : (o : Option State) (f : State → Option TermValue) (h : State → Option Based) (x : question.Address) → ((u : State) → o ≡ Some u → f u ≡ Some (Addressed x) → SumsTo (h u) x)
    → valued_at o f ≡ Some (Addressed x) → SumsTo (based_at o h) x
label_sums None f h x k e = absurd cc
label_sums (Some u) f h x k e = k u refl e

-- ---- all terms: the pair is the value

mutual
  pub bases_add_up : BasesAddUp
  bases_add_up g n (Number at t r z) s e x ft h = absurd cc
  bases_add_up g n (Letter at t r z) s e x ft h = absurd cc
  bases_add_up g n (Variable at t r y) s e x ft h =
      held_sums s.store t (option_map address_of (start_of (find y.decl s.scope))) (option_map at_base (start_of (find y.decl s.scope))) x (start_sums (find y.decl s.scope)) h
  bases_add_up g n (Unary at t r op a) s e x ft h = absurd (no_unary op (term a s e) x h)
  bases_add_up g n (Binary at t r op a b) s e x ft h = absurd (no_binary op (term a s e) (term b s e) x h)
  bases_add_up g n (Cast at t r to a) s e x ft h = cast_sums to (term a s e) (based g a s e) x (λ y k. bases_add_up g n a s e y ft k) h
  bases_add_up g n (Choice at t r c a b) s e x ft h =
      chosen_sums (pred c s e 0) (term a s e) (term b s e) (based g a s e) (based g b s e) x (λ k. bases_add_up g n a s e x ft k) (λ k. bases_add_up g n b s e x ft k) h
  bases_add_up g n (Named at t r y) s e x ft h = ft.sums Here s y.decl x refl h
  bases_add_up g n (At at t r l a) s e x ft h =
      label_sums (at_label l s) (λ u. term a u e) (λ u. based g a u e) x (λ u f k. bases_add_up g n a u e x (bases_at g n s u e l ft f) k) h
  bases_add_up g n (Null at t r) s e x ft h = (at_base memory.Null, refl, address_is question.null_address x h)
  bases_add_up g n (Deref at t r a) s e x ft h =
      held_sums s.store t (as_address (term a s e)) (based g a s e) x (λ y k. bases_add_up g n a s e y ft (as_address_is (term a s e) y k)) h
  bases_add_up g n (Member at t r d a) s e x ft h =
      held_sums s.store t (option_map (λ x. address_farther x (pos d)) (place a s e)) (option_map (on (pos d)) (based_place g a s e)) x
      (λ y k. member_sums (place a s e) (based_place g a s e) d y (λ z j. places_add_up g n a s e z ft j) k) h
  bases_add_up g n (Address at t r a) s e x ft h = places_add_up g n a s e x ft (addressed_is (place a s e) x h)
  bases_add_up g n (Moved at t r op m a b) s e x ft h = moves_sum op m (term a s e) (term b s e) (based g a s e) x (λ y k. bases_add_up g n a s e y ft k) h
  bases_add_up g n (Difference at t r m a b) s e x ft h = absurd (no_difference s.store m (as_address (term a s e)) (as_address (term b s e)) x h)
  bases_add_up g n (Told at t r f a) s e x ft h = told_sums s.store f (as_address (term a s e)) x h

  places_add_up : (g : Bases) (n : Seen) (t : LogicTerm) (s : State) (e : Environment) (x : question.Address) → BasesFit g n s e → place t s e ≡ Some x → SumsTo (based_place g t s e) x
  places_add_up g n (Variable at t r y) s e x ft h = start_sums (find y.decl s.scope) x h
  places_add_up g n (Deref at t r a) s e x ft h = bases_add_up g n a s e x ft (as_address_is (term a s e) x h)
  places_add_up g n (Member at t r d a) s e x ft h = member_sums (place a s e) (based_place g a s e) d x (λ z j. places_add_up g n a s e z ft j) h
  places_add_up g n (Number at t r z) s e x ft h = absurd cc
  places_add_up g n (Letter at t r z) s e x ft h = absurd cc
  places_add_up g n (Unary at t r op a) s e x ft h = absurd cc
  places_add_up g n (Binary at t r op a b) s e x ft h = absurd cc
  places_add_up g n (Cast at t r to a) s e x ft h = absurd cc
  places_add_up g n (Choice at t r c a b) s e x ft h = absurd cc
  places_add_up g n (Named at t r y) s e x ft h = absurd cc
  places_add_up g n (At at t r l a) s e x ft h = absurd cc
  places_add_up g n (Null at t r) s e x ft h = absurd cc
  places_add_up g n (Address at t r a) s e x ft h = absurd cc
  places_add_up g n (Moved at t r op m a b) s e x ft h = absurd cc
  places_add_up g n (Difference at t r m a b) s e x ft h = absurd cc
  places_add_up g n (Told at t r f a) s e x ft h = absurd cc

-- ---- all terms: the offset from the base lies in the range

zero_lies : LiesIn offset_range (pos 0)
zero_lies = record { above = omega (arith, ints); below = omega (arith, ints) }

start_zero_lies : LiesIn start_range (pos 0)
start_zero_lies = record { above = omega (arith, ints); below = omega (arith, ints) }

based_is : (r : Range) (a b : Based) → Some a ≡ Some b → LiesIn r a.offset → LiesIn r b.offset
based_is r a b e h = subst (λ c. LiesIn r c.offset) (some_is a b e) h

value_based : (o : Option Value) (b : Based) → base_of_value o ≡ Some b → LiesIn offset_range b.offset
value_based None b e = absurd cc
value_based (Some (Integer z)) b e = absurd cc
value_based (Some (Points p)) b e = based_is offset_range (at_base p) b e zero_lies
value_based (Some NoValue) b e = absurd cc

held_offsets : (store : Store) (t : Option PlainType) (o : Option Based) (a : Option Range) (r : Range) (b : Based) → held_range t a ≡ Some r
    → ((c : Based) (q : Range) → o ≡ Some c → a ≡ Some q → LiesIn q c.offset) → held_based store t o ≡ Some b → LiesIn r b.offset
held_offsets store t None a r b e h g = absurd cc
held_offsets store t (Some c) None r b e h g = absurd cc
held_offsets store None (Some c) (Some q) r b e h g = absurd cc
held_offsets store (Some (Ptr u)) (Some c) (Some q) r b e h g = subst (λ r. LiesIn r b.offset) (some_is offset_range r e) (value_based (load_from store PointerType (pointer_at (sum_of c))) b g)
held_offsets store (Some (Array u n)) (Some c) (Some q) r b e h g = subst (λ r. LiesIn r b.offset) (some_is q r e) (based_is q c b g (h c q refl refl))
held_offsets store (Some (Int k)) (Some c) (Some q) r b e h g = absurd cc
held_offsets store (Some (Struct n)) (Some c) (Some q) r b e h g = absurd cc
held_offsets store (Some Void) (Some c) (Some q) r b e h g = absurd cc
held_offsets store (Some (ctype.Named y)) (Some c) (Some q) r b e h g = absurd cc
held_offsets store (Some (StructTag y tag)) (Some c) (Some q) r b e h g = absurd cc
held_offsets store (Some (EnumTag y at)) (Some c) (Some q) r b e h g = absurd cc

start_offsets : (o : Option ℕ) (b : Based) → option_map at_base (start_of o) ≡ Some b → LiesIn offset_range b.offset
start_offsets None b e = absurd cc
start_offsets (Some n) b e = based_is offset_range (at_base (Into n 0)) b e zero_lies

cast_offsets : (to : CastType) (o : Option Based) (a r : Range) (b : Based) → cast_range to a ≡ Some r → ((c : Based) → o ≡ Some c → LiesIn a c.offset) → cast_based to o ≡ Some b → LiesIn r b.offset
cast_offsets Integers o a r b e h g = subst (λ q. LiesIn q b.offset) (some_is a r e) (h b g)
cast_offsets (OfC (Ptr t)) o a r b e h g = subst (λ q. LiesIn q b.offset) (some_is a r e) (h b g)
cast_offsets (OfC (Int k)) o a r b e h g = absurd cc
cast_offsets (OfC (Array t n)) o a r b e h g = absurd cc
cast_offsets (OfC (Struct n)) o a r b e h g = absurd cc
cast_offsets (OfC Void) o a r b e h g = absurd cc
cast_offsets (OfC (ctype.Named y)) o a r b e h g = absurd cc
cast_offsets (OfC (StructTag y tag)) o a r b e h g = absurd cc
cast_offsets (OfC (EnumTag y at)) o a r b e h g = absurd cc

chosen_offsets : (c : Answer) (o p : Option Based) (a d : Range) (b : Based) → (o ≡ Some b → LiesIn a b.offset) → (p ≡ Some b → LiesIn d b.offset) → chosen_based c o p ≡ Some b → LiesIn (hull a d) b.offset
chosen_offsets (Says true n) o p a d b h k e = hull_left a d b.offset (h e)
chosen_offsets (Says false n) o p a d b h k e = hull_right a d b.offset (k e)
chosen_offsets (SaysNothing n) o p a d b h k e = absurd cc
chosen_offsets OutOfSteps o p a d b h k e = absurd cc

-- a place that is only an offset
abbrev only : ℤ → question.Address
only z = record { block = 0; offset = z }

member_offsets : (o : Option Based) (d : ℕ) (a : Option Range) (r : Range) (b : Based) → member_range d a ≡ Some r → ((c : Based) (q : Range) → o ≡ Some c → a ≡ Some q → LiesIn q c.offset)
    → option_map (on (pos d)) o ≡ Some b → LiesIn r b.offset
member_offsets None d a r b e h g = absurd cc
member_offsets (Some c) d None r b e h g = absurd cc
member_offsets (Some c) d (Some q) r b e h g = based_is r (on (pos d) c) b g (members_lie d q r (only c.offset) e (h c q refl refl))

moved_offsets : (op : PointerOp) (n : ℕ) (o : Option Based) (t : Option TermValue) (a c r : Range) (b : Based) → moved_range op n a c ≡ Some r → ((p : Based) → o ≡ Some p → LiesIn a p.offset)
    → ((v : TermValue) → t ≡ Some v → ValueLies c v) → moved_based op n o t ≡ Some b → LiesIn r b.offset
moved_offsets op n None t a c r b e h k g = absurd cc
moved_offsets op n (Some p) None a c r b e h k g = absurd cc
moved_offsets op n (Some p) (Some (Addressed x)) a c r b e h k g = absurd cc
moved_offsets op n (Some p) (Some (Mathematical i)) a c r b e h k g =
    based_is r (moved_base op n p i) b g (moves_lie op n a c r (only p.offset) i e (h p refl) (k (Mathematical i) refl))

told_offsets : (store : Store) (f : BlockFact) (o : Option question.Address) (b : Based) → told_based store f o ≡ Some b → LiesIn (told_range f) b.offset
told_offsets store f None b e = absurd cc
told_offsets store BaseAddr (Some y) b e = by (inside store y) e
  where
    by : (o : Option Part) → option_map (λ (p : Part). at_base (Into y.block 0)) o ≡ Some b → LiesIn start_range b.offset
    by None e = absurd cc
    by (Some p) e = based_is start_range (at_base (Into y.block 0)) b e start_zero_lies
told_offsets store BlockLength (Some y) b e = absurd cc
told_offsets store Offset (Some y) b e = absurd cc

label_offsets : (o : Option State) (h : State → Option Based) (r : Range) (b : Based) → ((u : State) → o ≡ Some u → h u ≡ Some b → LiesIn r b.offset) → based_at o h ≡ Some b → LiesIn r b.offset
label_offsets None h r b k e = absurd cc
label_offsets (Some u) h r b k e = k u refl e

mutual
  pub based_offsets_lie : BasedOffsetsLie
  based_offsets_lie g n (Variable at t r y) s e b st ft bs h k =
      held_offsets s.store t (option_map at_base (start_of (find y.decl s.scope))) (Some offset_range) r b h
      (λ c q f j. subst (λ q. LiesIn q c.offset) (some_is offset_range q j) (start_offsets (find y.decl s.scope) c f)) k
  based_offsets_lie g n (Cast at t r to a) s e b st ft bs h k = cast_offsets to (based g a s e) (range_of a) r b h.0 (λ c f. based_offsets_lie g n a s e c st ft bs h.1 f) k
  based_offsets_lie g n (Choice at t r c a d) s e b st ft bs h k =
      subst (λ q. LiesIn q b.offset) h.0 (chosen_offsets (pred c s e 0) (based g a s e) (based g d s e) (range_of a) (range_of d) b
      (λ f. based_offsets_lie g n a s e b st ft bs h.2 f) (λ f. based_offsets_lie g n d s e b st ft bs h.3 f) k)
  based_offsets_lie g n (Named at t r y) s e b st ft bs h k = bs.lies Here s y.decl r b refl h k
  based_offsets_lie g n (At at t r l a) s e b st ft bs h k =
      subst (λ q. LiesIn q b.offset) h.0 (label_offsets (at_label l s) (λ u. based g a u e) (range_of a) b
      (λ u f j. let there = at_a_label n s u e l st ft f in based_offsets_lie g n a u e b there.sound there.fit (bases_at g n s u e l bs f) h.1 j) k)
  based_offsets_lie g n (Null at t r) s e b st ft bs h k = subst (λ q. LiesIn q b.offset) h (based_is start_range (at_base memory.Null) b k start_zero_lies)
  based_offsets_lie g n (Deref at t r a) s e b st ft bs h k =
      held_offsets s.store t (based g a s e) (Some (range_of a)) r b h.0
      (λ c q f j. subst (λ q. LiesIn q c.offset) (some_is (range_of a) q j) (based_offsets_lie g n a s e c st ft bs h.1 f)) k
  based_offsets_lie g n (Member at t r d a) s e b st ft bs h k =
      held_offsets s.store t (option_map (on (pos d)) (based_place g a s e)) (member_range d (address_range a)) r b h.0
      (λ c q f j. member_offsets (based_place g a s e) d (address_range a) q c j (λ m w i z. based_places_lie g n a s e w m st ft bs h.1 z i) f) k
  based_offsets_lie g n (Address at t r a) s e b st ft bs h k = based_places_lie g n a s e r b st ft bs h.1 h.0 k
  based_offsets_lie g n (Moved at t r op m a c) s e b st ft bs h k =
      moved_offsets op m (based g a s e) (term c s e) (range_of a) (range_of c) r b h.0 (λ p f. based_offsets_lie g n a s e p st ft bs h.1 f)
      (λ v f. terms_lie_in_ranges n c s e v st ft h.2 f) k
  based_offsets_lie g n (Told at t r f a) s e b st ft bs h k = subst (λ q. LiesIn q b.offset) h.0 (told_offsets s.store f (as_address (term a s e)) b k)
  based_offsets_lie g n (Number at t r z) s e b st ft bs h k = absurd cc
  based_offsets_lie g n (Letter at t r z) s e b st ft bs h k = absurd cc
  based_offsets_lie g n (Unary at t r op a) s e b st ft bs h k = absurd cc
  based_offsets_lie g n (Binary at t r op a c) s e b st ft bs h k = absurd cc
  based_offsets_lie g n (Difference at t r m a c) s e b st ft bs h k = absurd cc

  pub based_places_lie : BasedPlacesLie
  based_places_lie g n (Variable at t q y) s e r b st ft bs h k j = subst (λ q. LiesIn q b.offset) (some_is offset_range r k) (start_offsets (find y.decl s.scope) b j)
  based_places_lie g n (Deref at t q a) s e r b st ft bs h k j = subst (λ q. LiesIn q b.offset) (some_is (range_of a) r k) (based_offsets_lie g n a s e b st ft bs h.1 j)
  based_places_lie g n (Member at t q d a) s e r b st ft bs h k j =
      member_offsets (based_place g a s e) d (address_range a) r b k (λ m w i z. based_places_lie g n a s e w m st ft bs h.1 z i) j
  based_places_lie g n (Number at t q z) s e r b st ft bs h k j = absurd cc
  based_places_lie g n (Letter at t q z) s e r b st ft bs h k j = absurd cc
  based_places_lie g n (Unary at t q op a) s e r b st ft bs h k j = absurd cc
  based_places_lie g n (Binary at t q op a c) s e r b st ft bs h k j = absurd cc
  based_places_lie g n (Cast at t q to a) s e r b st ft bs h k j = absurd cc
  based_places_lie g n (Choice at t q c a d) s e r b st ft bs h k j = absurd cc
  based_places_lie g n (Named at t q y) s e r b st ft bs h k j = absurd cc
  based_places_lie g n (At at t q l a) s e r b st ft bs h k j = absurd cc
  based_places_lie g n (Null at t q) s e r b st ft bs h k j = absurd cc
  based_places_lie g n (Address at t q a) s e r b st ft bs h k j = absurd cc
  based_places_lie g n (Moved at t q op m a c) s e r b st ft bs h k j = absurd cc
  based_places_lie g n (Difference at t q m a c) s e r b st ft bs h k j = absurd cc
  based_places_lie g n (Told at t q f a) s e r b st ft bs h k j = absurd cc
