-- Variables: whether one holds a number, and what is known of those that were read.
use Rattle.std.proofs.Common.{◌≡◌, ℕ, ℤ, pos, ◌-ℤ◌, Bool, true, false, ◌&&◌, ◌||◌, if◌then◌else◌, nat_eq, List, [], ◌∷◌, ◌++◌, Option, Some, None, option_map, refl, sym, ap, ◌∙◌, arith}
use Rattle.std.proofs.lemmas.Bool.Decides.{nat_tests}
use Rattle.c_syntax.specs.declared.annotation.Range.{Range}
use Rattle.c_syntax.specs.declared.annotation.Relation.{Relation}
use Rattle.c_syntax.specs.declared.annotation.Relation.TheVariants.{Ne}
use Rattle.c_syntax.specs.declared.expression.BinOp.{BinOp}
use Rattle.c_syntax.specs.declared.expression.BinOp.TheVariants as operator
use Rattle.c_syntax.specs.declared.expression.UnOp.{UnOp}
use Rattle.c_syntax.specs.declared.expression.UnOp.TheVariants as prefix
use Rattle.c_syntax.specs.declared.expression.Use.{Use}
use Rattle.c_syntax.specs.declared.logic.Connective.{Connective}
use Rattle.c_syntax.specs.declared.logic.Label.TheVariants.{Here, Pre, Marked}
use Rattle.c_syntax.specs.declared.logic.Connective.TheVariants.{And, Xor, Or, Implies, Iff}
use Rattle.c_syntax.specs.declared.place.Place.{Place}
use Rattle.c_syntax.specs.declared.types.CInt.{CInt}
use Rattle.c_syntax.specs.declared.types.CInt.TheVariants as c
use Rattle.c_syntax.specs.declared.logic.BlockFact.{BlockFact}
use Rattle.c_syntax.specs.declared.logic.BlockFact.TheVariants.{BaseAddr, BlockLength, Offset}
use Rattle.c_syntax.specs.declared.logic.PointerOp.{PointerOp}
use Rattle.c_syntax.specs.Ctypes.{PlainType, Int}
use Rattle.c_syntax.specs.Ctypes as ctype
use Rattle.c_syntax.specs.Formulas.{CastType, Integers, OfC}
use Rattle.c_syntax.specs.Logic.{LogicTerm, NoLink, Linked, Zone, Zones, NoZone, Another, Predicate}
use Rattle.c_syntax.specs.Logic as logic
use Rattle.c_syntax.specs.Layouts.{int_size, IntegerType, PointerType}
use Rattle.c_model.specs.Integers.{value_of_bits}
use Rattle.c_model.specs.Logic.{Environment, at_mark, valued_at, TermValue, Mathematical, Addressed, held_at, load_from, pointer_at, mathematical, both, Answer, Says, SaysNothing, OutOfSteps, compute, lazily, fully, silenced, said}
use Rattle.c_model.specs.Logic.{of_value, related, as_address, addressed, are_together, difference, fact, told, moved, Extent, object_extent, elements_extent, asks, all_apart}
use Rattle.c_model.specs.Library.{is_there}
use Rattle.c_model.specs.MemoryQuestions.{Address, Part, address_of, address_farther, inside, has_pointer}
use Rattle.c_model.specs.Operators.{quotient}
use Rattle.c_model.specs.Together.{AllTogether}
use Rattle.c_model.proofs.Together.{pointers_load}
use Rattle.c_model.specs.Memory.{Pointer, Into, Value, Integer, Points, NoValue, Byte, Store, number_of, pointer_of, value_from, load, load_bytes}
use Rattle.c_model.specs.Memory.{◌>>=◌ as bind_loaded}
use Rattle.c_model.specs.Predicates.{compute_one, converted, in_type, chosen as chosen_term, connected as connected_answers, same_as, other_than, with_extent, alignment_of, place, term, zone, zones, chain, pred}
use Rattle.c_model.specs.State.{State, Scope, find, mark_of, start_of}
use Rattle.c_model.specs.TermRanges.{Seen, type_range, place_range, TermRanged, ZoneRanged, ZonesRanged, PredicateRanged}
use Rattle.c_model.specs.TypedPredicates.{IsCastType}
use Rattle.mon_syntax.specs.declared.tree.MonType.{MonType}
use Rattle.mon_syntax.specs.declared.tree.MonType.TheVariants as kind
use Rattle.mon_syntax.specs.Arithmetic.{access_bytes, is_pointer}
use Rattle.mon_syntax.specs.BlockMemory.{Blocks, is_some, holds_number, load_block}
use Rattle.mon_syntax.specs.Checking.{same_type}
use Rattle.mon_syntax.specs.Meaning.{◌>>=◌ as bind}
use Rattle.c_effects.specs.Expressions.{register_type}
use Rattle.c_simulation.specs.Keeping.{Kept}
use Rattle.annot_simulation.specs.Held.{Sorted}
use Rattle.annot_simulation.specs.Code.{term_type, access_of, Reading}
use Rattle.annot_simulation.specs.Code.{is_same_reading, is_known, is_scalar, readings_of_variable, sure_readings_of_term, sure_readings_of_place, sure_readings_of_zone, sure_readings_of_zones, sure_readings, known_at_right, is_pointer_term}
use Rattle.annot_simulation.specs.Does.{HasIntegers, HasPointers, IsNumberFact, IsPointerFact, found_by, TermFound, PointerFound, PlaceFound, ZoneFound, ZonesFound, SideFound, PredicateFound}
use Rattle.annot_simulation.proofs.Exact.{value_of}
use Rattle.annot_simulation.proofs.Parts.{after, chosen}
use Rattle.annot_simulation.proofs.Connected.{IsStrict}
use Rattle.annot_simulation.proofs.Quiet.{AreSorted, none_sorted, IsNoPointer, IsNoNumber, said_again, said_by, related_quiet}

-- ---- the type of a variable with a range

pub record IsInteger (t : Option PlainType) (r : Range) : Type 0 where
  pub int : CInt
  pub is : t ≡ Some (Int int)
  pub range_is : type_range int ≡ r

pub some_same : {A : Type 0} (x y : A) → Some x ≡ Some y → x ≡ y
some_same x y e = cc

pub integer_of_range : (t : Option PlainType) (r : Range) → HasIntegers t → place_range t ≡ Some r → IsInteger t r
integer_of_range t r (k, is) e = record { int = k; is = is; range_is = some_same (type_range k) r (sym (ap place_range is) ∙ e) }

-- ---- where it holds a number

access_is : (k : CInt) → access_bytes (access_of (register_type k)) ≡ int_size k
access_is c.I8 = refl
access_is c.U8 = refl
access_is c.I16 = refl
access_is c.U16 = refl
access_is c.I32 = refl
access_is c.U32 = refl
access_is c.I64 = refl
access_is c.U64 = refl

pub load_is : (k : CInt) (number : ℕ) (mem : Blocks) → load_block (register_type k) (Points (Into number 0)) mem ≡ load mem.store (Into number 0) (IntegerType k)
load_is c.I8 number mem = refl
load_is c.U8 number mem = refl
load_is c.I16 number mem = refl
load_is c.U16 number mem = refl
load_is c.I32 number mem = refl
load_is c.U32 number mem = refl
load_is c.I64 number mem = refl
load_is c.U64 number mem = refl

-- a number can be read of an integer type exactly where the bytes hold one
read_where_held : (store : Store) (number : ℕ) (k : CInt) → is_some (value_of (of_value (load store (Into number 0) (IntegerType k)))) ≡ holds_number store (Into number 0) (pos 0) (int_size k)
read_where_held store number k = by (load_bytes store (Into number 0) (int_size k))
  where
    of_number : (o : Option ℕ) → is_some (value_of (of_value (option_map (λ n. Integer (value_of_bits k n)) o))) ≡ is_some o
    of_number None = refl
    of_number (Some n) = refl

    by : (o : Option (List Byte)) → is_some (value_of (of_value (bind_loaded o (value_from (IntegerType k))))) ≡ is_some (bind o number_of)
    by None = refl
    by (Some bytes) = of_number (number_of bytes)

-- a variable in sight: what is read, and where a number is read the memory has it
pub record Variable (s : State) (at : Place) (t : Option PlainType) (r : Range) (x : Use) : Type 0 where
  pub int : CInt
  pub is : t ≡ Some (Int int)
  pub number : ℕ
  pub found : find x.decl s.scope ≡ Some number
  pub there : is_some (value_of (term (logic.Variable at t r x) s [])) ≡ holds_number s.store (Into number 0) (pos 0) (access_bytes (access_of (term_type t)))
  pub loads : (z : ℤ) → value_of (term (logic.Variable at t r x) s []) ≡ Some z → load s.store (Into number 0) (IntegerType int) ≡ Some (Integer z)

pub variable_in_sight : (s : State) (at : Place) (t : Option PlainType) (r : Range) (x : Use) → place_range t ≡ Some r → TermFound [] s.scope [] (logic.Variable at t r x) → Variable s at t r x
variable_in_sight s at t r x e (int, number, found) = record {
  int = k;
  is = i.is;
  number = number;
  found = found;
  there =
      ap (λ o. is_some (value_of o)) reads ∙ read_where_held s.store number k ∙ sym (ap (holds_number s.store (Into number 0) (pos 0)) (access_is k))
      ∙ sym (ap (λ u. holds_number s.store (Into number 0) (pos 0) (access_bytes (access_of (term_type u)))) i.is);
  loads = λ z p. by (load s.store (Into number 0) (IntegerType k)) z (sym (ap value_of reads) ∙ p);
}
  where
    i : IsInteger t r
    i = integer_of_range t r int e

    k : CInt
    k = i.int

    reads : term (logic.Variable at t r x) s [] ≡ of_value (load s.store (Into number 0) (IntegerType k))
    reads = ap (λ o. held_at s.store t (option_map address_of (start_of o))) found ∙ ap (λ t. held_at s.store t (Some (address_of (Into number 0)))) i.is

    by : (o : Option Value) (z : ℤ) → value_of (of_value o) ≡ Some z → o ≡ Some (Integer z)
    by None z p = absurd cc
    by (Some NoValue) z p = absurd cc
    by (Some (Points q)) z p = absurd cc
    by (Some (Integer y)) z p = ap (λ y. Some (Integer y)) (some_same y z p)

-- ---- terms that are no pointers

no_address : (k : CInt) (store : Store) (p : Option Pointer) → IsNoPointer (of_value (load_from store (IntegerType k) p))
no_address k store None y e = cc
no_address k store (Some p) y e = by (load_bytes store p (int_size k)) e
  where
    number : (o : Option ℕ) → of_value (option_map (λ n. Integer (value_of_bits k n)) o) ≡ Some (Addressed y) → ⊥
    number None e = cc
    number (Some n) e = cc

    by : (o : Option (List Byte)) → of_value (bind_loaded o (value_from (IntegerType k))) ≡ Some (Addressed y) → ⊥
    by None e = cc
    by (Some bytes) e = number (number_of bytes) e

no_held : (t : Option PlainType) → HasIntegers t → (store : Store) (o : Option Address) → IsNoPointer (held_at store t o)
no_held t int store o y e = by o (ap (λ t. held_at store t o) (sym int.1) ∙ e)
  where
    by : (o : Option Address) → held_at store (Some (Int int.0)) o ≡ Some (Addressed y) → ⊥
    by None e = cc
    by (Some x) e = no_address int.0 store (pointer_at x) y e

no_unary : (op : UnOp) (o : Option TermValue) → IsNoPointer (compute_one op o)
no_unary op None y e = cc
no_unary prefix.Plus (Some (Mathematical x)) y e = cc
no_unary prefix.Plus (Some (Addressed x)) y e = cc
no_unary prefix.Minus (Some (Mathematical x)) y e = cc
no_unary prefix.Minus (Some (Addressed x)) y e = cc
no_unary prefix.Flip (Some (Mathematical x)) y e = cc
no_unary prefix.Flip (Some (Addressed x)) y e = cc
no_unary prefix.Not (Some x) y e = cc
no_unary prefix.Deref (Some x) y e = cc
no_unary prefix.Address (Some x) y e = cc

no_mathematical : (o : Option ℤ) → IsNoPointer (mathematical o)
no_mathematical None y e = cc
no_mathematical (Some z) y e = cc

no_compute : (op : BinOp) (i j : ℤ) → IsNoPointer (compute op i j)
no_compute operator.Add i j y e = cc
no_compute operator.Sub i j y e = cc
no_compute operator.Mul i j y e = cc
no_compute operator.Div i j y e = no_mathematical _ y e
no_compute operator.Rem i j y e = no_mathematical _ y e
no_compute operator.Shl i j y e = no_mathematical _ y e
no_compute operator.Shr i j y e = no_mathematical _ y e
no_compute operator.BitAnd i j y e = cc
no_compute operator.BitOr i j y e = cc
no_compute operator.BitXor i j y e = cc
no_compute operator.Eq i j y e = cc
no_compute operator.Ne i j y e = cc
no_compute operator.Lt i j y e = cc
no_compute operator.Le i j y e = cc
no_compute operator.Gt i j y e = cc
no_compute operator.Ge i j y e = cc

no_both : (op : BinOp) (a b : Option TermValue) → IsNoPointer (both a b (compute op))
no_both op None b y e = cc
no_both op (Some (Mathematical i)) None y e = cc
no_both op (Some (Mathematical i)) (Some (Mathematical j)) y e = no_compute op i j y e
no_both op (Some (Mathematical i)) (Some (Addressed j)) y e = cc
no_both op (Some (Addressed i)) None y e = cc
no_both op (Some (Addressed i)) (Some b) y e = cc

no_typed : (k : CInt) (o : Option TermValue) → IsNoPointer (in_type (Int k) o)
no_typed k None y e = cc
no_typed k (Some (Mathematical x)) y e = cc
no_typed k (Some (Addressed x)) y e = cc

no_chosen : (A : Answer) (a b : Option TermValue) → IsNoPointer a → IsNoPointer b → IsNoPointer (chosen_term A a b)
no_chosen (Says true n) a b na nb y e = na y e
no_chosen (Says false n) a b na nb y e = nb y e
no_chosen (SaysNothing n) a b na nb y e = cc
no_chosen OutOfSteps a b na nb y e = cc

no_apart : (t : Bool) (v : Option ℤ) → IsNoPointer (if t then mathematical v else None)
no_apart true v y e = no_mathematical v y e
no_apart false v y e = cc

no_difference : (store : Store) (n : ℕ) (o p : Option Address) → IsNoPointer (difference store n o p)
no_difference store n None p y e = cc
no_difference store n (Some x) None y e = cc
no_difference store n (Some x) (Some z) y e = no_apart (are_together store x z) (quotient (x.offset -ℤ z.offset) (pos n)) y e

no_told : (f : BlockFact) → IsNumberFact f → (store : Store) (o : Option Address) → IsNoPointer (told store f o)
no_told f n store None y e = cc
no_told f n store (Some x) y e = by f n (inside store x) e
  where
    by : (f : BlockFact) → IsNumberFact f → (o : Option Part) → option_map (fact f x) o ≡ Some (Addressed y) → ⊥
    by BaseAddr n o e = absurd n
    by BlockLength n None e = cc
    by BlockLength n (Some q) e = cc
    by Offset n None e = cc
    by Offset n (Some q) e = cc

pub no_past : (o : Option State) (f : State → Option TermValue) → ((u : State) → IsNoPointer (f u)) → IsNoPointer (valued_at o f)
no_past None f h y e = cc
no_past (Some u) f h y e = h u y e

-- the value of a found term is a number
pub number_found : (ks : List Kept) (ns : Sorted) (t : LogicTerm) (s : State) (e : Environment) (scope : Scope) → AreSorted ns s e → TermFound ks scope ns t → IsNoPointer (term t s e)
number_found ks ns (logic.Number at t r n) s e scope h f y q = cc
number_found ks ns (logic.Letter at t r n) s e scope h f y q = cc
number_found ks ns (logic.Variable at t r x) s e scope h f y q = no_held t f.0 s.store (option_map address_of (start_of (find x.decl s.scope))) y q
number_found ks ns (logic.Unary at t r op a) s e scope h f y q = no_unary op (term a s e) y q
number_found ks ns (logic.Binary at t r op a b) s e scope h f y q = no_both op (term a s e) (term b s e) y q
number_found ks ns (logic.Cast at t r Integers a) s e scope h f y q = number_found ks ns a s e scope h f.1 y q
number_found ks ns (logic.Cast at t r (OfC to) a) s e scope h f y q =
    let i = f.0 in
    no_typed i.int (term a s e) y (ap (λ k. in_type k (term a s e)) (sym i.is) ∙ q)
number_found ks ns (logic.Choice at t r c a b) s e scope h f y q =
    no_chosen (pred c s e 0) (term a s e) (term b s e) (number_found ks ns a s e scope h f.2) (number_found ks ns b s e scope h f.3) y q
number_found ks ns (logic.Deref at t r a) s e scope h f y q = no_held t f.0 s.store (as_address (term a s e)) y q
number_found ks ns (logic.Member at t r d a) s e scope h f y q = no_held t f.0 s.store (option_map (λ x. address_farther x (pos d)) (place a s e)) y q
number_found ks ns (logic.Difference at t r n a b) s e scope h f y q = no_difference s.store n (as_address (term a s e)) (as_address (term b s e)) y q
number_found ks ns (logic.Told at t r g a) s e scope h f y q = no_told g f.0 s.store (as_address (term a s e)) y q
number_found ks ns (logic.Named at t r x) s e scope h f y q = h.numbers x.decl f y q
number_found ks ns (logic.At at t r Here a) s e scope h f y q = number_found ks ns a s e scope h f y q
number_found ks ns (logic.At at t r Pre a) s e scope h f y q = no_past (at_mark (mark_of None s.marks)) (λ u. term a u e) (λ u. number_found [] [] a u e f.1 (none_sorted u e) f.2) y q
number_found ks ns (logic.At at t r (Marked l) a) s e scope h f y q = no_past (at_mark (mark_of (Some l) s.marks)) (λ u. term a u e) (λ u. number_found [] [] a u e f.1 (none_sorted u e) f.2) y q
number_found ks ns _ s e scope h f y q = absurd f

-- ---- terms that are pointers

loaded_pointer : (store : Store) (p : Option Pointer) → IsNoNumber (of_value (load_from store PointerType p))
loaded_pointer store None z e = cc
loaded_pointer store (Some p) z e = by (load_bytes store p 8) e
  where
    pointer : (o : Option Pointer) → of_value (option_map Points o) ≡ Some (Mathematical z) → ⊥
    pointer None e = cc
    pointer (Some p) e = cc

    by : (o : Option (List Byte)) → of_value (bind_loaded o (value_from PointerType)) ≡ Some (Mathematical z) → ⊥
    by None e = cc
    by (Some bytes) e = pointer (pointer_of bytes) e

held_pointer : (t : Option PlainType) → HasPointers t → (store : Store) (o : Option Address) → IsNoNumber (held_at store t o)
held_pointer t int store None z e = cc
held_pointer (Some (ctype.Ptr u)) int store (Some x) z e = loaded_pointer store (pointer_at x) z e
held_pointer (Some (ctype.Array u n)) int store (Some x) z e = cc
held_pointer None int store (Some x) z e = absurd int
held_pointer (Some (Int k)) int store (Some x) z e = absurd int
held_pointer (Some (ctype.Struct n)) int store (Some x) z e = absurd int
held_pointer (Some ctype.Void) int store (Some x) z e = absurd int
held_pointer (Some (ctype.Named y)) int store (Some x) z e = absurd int
held_pointer (Some (ctype.StructTag y tag)) int store (Some x) z e = absurd int
held_pointer (Some (ctype.EnumTag y at)) int store (Some x) z e = absurd int

addressed_pointer : (o : Option Address) → IsNoNumber (addressed o)
addressed_pointer None z e = cc
addressed_pointer (Some x) z e = cc

moved_pointer : (op : PointerOp) (n : ℕ) (a b : Option TermValue) → IsNoNumber (moved op n a b)
moved_pointer op n None b z e = cc
moved_pointer op n (Some (Mathematical x)) b z e = cc
moved_pointer op n (Some (Addressed x)) None z e = cc
moved_pointer op n (Some (Addressed x)) (Some (Mathematical i)) z e = cc
moved_pointer op n (Some (Addressed x)) (Some (Addressed y)) z e = cc

cast_pointer : (u : PlainType) (o : Option TermValue) → IsNoNumber (in_type (ctype.Ptr u) o)
cast_pointer u None z e = cc
cast_pointer u (Some (Mathematical x)) z e = cc
cast_pointer u (Some (Addressed x)) z e = cc

chosen_pointer : (A : Answer) (a b : Option TermValue) → IsNoNumber a → IsNoNumber b → IsNoNumber (chosen_term A a b)
chosen_pointer (Says true n) a b na nb z e = na z e
chosen_pointer (Says false n) a b na nb z e = nb z e
chosen_pointer (SaysNothing n) a b na nb z e = cc
chosen_pointer OutOfSteps a b na nb z e = cc

told_pointer : (f : BlockFact) → IsPointerFact f → (store : Store) (o : Option Address) → IsNoNumber (told store f o)
told_pointer f n store None z e = cc
told_pointer BaseAddr n store (Some x) z e = by (inside store x) e
  where
    by : (o : Option Part) → option_map (fact BaseAddr x) o ≡ Some (Mathematical z) → ⊥
    by None e = cc
    by (Some q) e = cc
told_pointer BlockLength n store (Some x) z e = absurd n
told_pointer Offset n store (Some x) z e = absurd n

pub past_pointer : (o : Option State) (f : State → Option TermValue) → ((u : State) → IsNoNumber (f u)) → IsNoNumber (valued_at o f)
past_pointer None f h z e = cc
past_pointer (Some u) f h z e = h u z e

pub pointer_found : (ks : List Kept) (ns : Sorted) (t : LogicTerm) (s : State) (e : Environment) (scope : Scope) → AreSorted ns s e → PointerFound ks scope ns t → IsNoNumber (term t s e)
pointer_found ks ns (logic.Variable at t r x) s e scope h f z q = held_pointer t f.0 s.store (option_map address_of (start_of (find x.decl s.scope))) z q
pointer_found ks ns (logic.Null at t r) s e scope h f z q = cc
pointer_found ks ns (logic.Deref at t r a) s e scope h f z q = held_pointer t f.0 s.store (as_address (term a s e)) z q
pointer_found ks ns (logic.Member at t r d a) s e scope h f z q = held_pointer t f.0 s.store (option_map (λ x. address_farther x (pos d)) (place a s e)) z q
pointer_found ks ns (logic.Address at t r a) s e scope h f z q = addressed_pointer (place a s e) z q
pointer_found ks ns (logic.Moved at t r op n a b) s e scope h f z q = moved_pointer op n (term a s e) (term b s e) z q
pointer_found ks ns (logic.Cast at t r Integers a) s e scope h f z q = absurd f.0
pointer_found ks ns (logic.Cast at t r (OfC to) a) s e scope h f z q = cast_pointer f.0.0 (term a s e) z (ap (λ k. in_type k (term a s e)) (sym f.0.1) ∙ q)
pointer_found ks ns (logic.Choice at t r c a b) s e scope h f z q =
    chosen_pointer (pred c s e 0) (term a s e) (term b s e) (pointer_found ks ns a s e scope h f.2) (pointer_found ks ns b s e scope h f.3) z q
pointer_found ks ns (logic.Told at t r g a) s e scope h f z q = told_pointer g f.0 s.store (as_address (term a s e)) z q
pointer_found ks ns (logic.Named at t r x) s e scope h f z q = h.pointers x.decl f z q
pointer_found ks ns (logic.At at t r Here a) s e scope h f z q = pointer_found ks ns a s e scope h f z q
pointer_found ks ns (logic.At at t r Pre a) s e scope h f z q = past_pointer (at_mark (mark_of None s.marks)) (λ u. term a u e) (λ u. pointer_found [] [] a u e f.2 (none_sorted u e) f.3) z q
pointer_found ks ns (logic.At at t r (Marked l) a) s e scope h f z q = past_pointer (at_mark (mark_of (Some l) s.marks)) (λ u. term a u e) (λ u. pointer_found [] [] a u e f.2 (none_sorted u e) f.3) z q
pointer_found ks ns _ s e scope h f z q = absurd f

-- ---- what is known

-- the start of a block holds a value of the type
abbrev pub is_held : Store → MonType → ℕ → Bool
is_held store k n = if is_pointer k then has_pointer store (address_of (Into n 0)) else holds_number store (Into n 0) (pos 0) (access_bytes (access_of k))

pub number_held : (k : CInt) (store : Store) (n : ℕ) → is_held store (register_type k) n ≡ holds_number store (Into n 0) (pos 0) (access_bytes (access_of (register_type k)))
number_held c.I8 store n = refl
number_held c.U8 store n = refl
number_held c.I16 store n = refl
number_held c.U16 store n = refl
number_held c.I32 store n = refl
number_held c.U32 store n = refl
number_held c.I64 store n = refl
number_held c.U64 store n = refl

-- it was asked of the variable, and it holds a value of its type
pub record IsRead (s : State) (x : Reading) : Type 0 where
  pub number : ℕ
  pub found : find x.decl s.scope ≡ Some number
  pub holds : is_held s.store x.kind number ≡ true

abbrev pub AllRead : State → List Reading → Type 0
AllRead s [] = Unit {0}
AllRead s (x ∷ xs) = IsRead s x × AllRead s xs

pub read-append : (s : State) (xs ys : List Reading) → AllRead s xs → AllRead s ys → AllRead s (xs ++ ys)
read-append s [] ys p q = q
read-append s (x ∷ xs) ys p q = (p.0, read-append s xs ys p.1 q)

pub same_mon : (t u : MonType) → same_type t u ≡ true → t ≡ u
same_mon kind.I8 kind.I8 e = refl
same_mon kind.U8 kind.U8 e = refl
same_mon kind.I16 kind.I16 e = refl
same_mon kind.U16 kind.U16 e = refl
same_mon kind.I32 kind.I32 e = refl
same_mon kind.U32 kind.U32 e = refl
same_mon kind.I64 kind.I64 e = refl
same_mon kind.U64 kind.U64 e = refl
same_mon kind.I128 kind.I128 e = refl
same_mon kind.Ptr kind.Ptr e = refl
same_mon _ _ e = absurd cc

both_true : (s t : Bool) → (s && t) ≡ true → (s ≡ true) × (t ≡ true)
both_true true t e = (refl, e)
both_true false t e = absurd cc

same_reading : (s : State) (x y : Reading) → is_same_reading x y ≡ true → IsRead s y → IsRead s x
same_reading s x y e h =
    let b = both_true (nat_eq x.decl y.decl) (same_type x.kind y.kind) e in
    let decls : x.decl ≡ y.decl = let d = b.0 in grind (arith, nat_tests) in
    let kinds : x.kind ≡ y.kind = same_mon x.kind y.kind b.1 in record {
      number = h.number;
      found = ap (λ d. find d s.scope) decls ∙ h.found;
      holds = ap (λ k. is_held s.store k h.number) kinds ∙ h.holds;
    }

pub known_is_read : (s : State) (known : List Reading) (x : Reading) → AllRead s known → is_known known x ≡ true → IsRead s x
known_is_read s [] x h e = absurd cc
known_is_read s (y ∷ ys) x h e = by (known_is_read s ys x h.1) (is_same_reading x y) refl e
  where
    by : (is_known ys x ≡ true → IsRead s x) → (t : Bool) → is_same_reading x y ≡ t → (t || is_known ys x) ≡ true → IsRead s x
    by rest true p f = same_reading s x y p h.0
    by rest false p f = rest f

-- the same of a variable of integers
pub held_number_is : (s : State) (at : Place) (t : Option PlainType) (r : Range) (x : Use) (n : ℕ) → (v : Variable s at t r x) → is_held s.store (term_type t) n ≡ holds_number s.store (Into n 0) (pos 0) (access_bytes (access_of (term_type t)))
held_number_is s at t r x n v =
    ap (λ u. is_held s.store (term_type u) n) v.is ∙ number_held v.int s.store n
    ∙ sym (ap (λ u. holds_number s.store (Into n 0) (pos 0) (access_bytes (access_of (term_type u)))) v.is)

-- a known variable has a value
pub read_value : (s : State) (at : Place) (t : Option PlainType) (r : Range) (x : Use) → (v : Variable s at t r x) → IsRead s (record { decl = x.decl; kind = term_type t }) → is_some (value_of (term (logic.Variable at t r x) s [])) ≡ true
read_value s at t r x v h =
    let same : h.number ≡ v.number = some_same h.number v.number (sym h.found ∙ v.found) in
    v.there ∙ sym (held_number_is s at t r x v.number v) ∙ ap (is_held s.store (term_type t)) (sym same) ∙ h.holds

-- ---- what is read

-- an answer that is made of one has that one
pub after_some : {A B : Type 0} (o : Option A) (f : A → Option B) (z : B) → after o f ≡ Some z → (x : A) × (o ≡ Some x) × (f x ≡ Some z)
after_some None f z e = absurd cc
after_some (Some x) f z e = (x, refl, e)

chosen_some : {A : Type 0} (u : Option Bool) (a b : Option A) (z : A) → chosen u a b ≡ Some z → (x : Bool) × (u ≡ Some x)
chosen_some None a b z e = absurd cc
chosen_some (Some x) a b z e = (x, refl)

pub unary_some : (op : UnOp) (o : Option TermValue) (z : ℤ) → value_of (compute_one op o) ≡ Some z → (x : ℤ) × (value_of o ≡ Some x)
unary_some op None z e = absurd cc
unary_some op (Some (Mathematical x)) z e = (x, refl)
unary_some op (Some (Addressed x)) z e = absurd (no_value op e)
  where
    no_value : (op : UnOp) → value_of (compute_one op (Some (Addressed x))) ≡ Some z → ⊥
    no_value prefix.Plus e = cc
    no_value prefix.Minus e = cc
    no_value prefix.Flip e = cc
    no_value prefix.Not e = cc
    no_value prefix.Deref e = cc
    no_value prefix.Address e = cc

pub cast_some : (to : CastType) → IsCastType to → (o : Option TermValue) (z : ℤ) → value_of (converted to o) ≡ Some z → (x : ℤ) × (value_of o ≡ Some x)
cast_some Integers g o z e = (z, e)
cast_some (OfC t) g None z e = absurd cc
cast_some (OfC t) g (Some (Mathematical x)) z e = (x, refl)
cast_some (OfC t) g (Some (Addressed x)) z e = absurd (by (ap (λ k. value_of (in_type k (Some (Addressed x)))) (sym g.is) ∙ e))
  where
    by : value_of (in_type (Int g.int) (Some (Addressed x))) ≡ Some z → ⊥
    by e = cc

abbrev IsThere : Option TermValue → Type 0
IsThere o = (v : TermValue) × (o ≡ Some v)

pub related_there : (store : Store) (r : Relation) (a b : Option TermValue) (x : Bool) → said_by (related store r a b 0) ≡ Some x → IsThere a × IsThere b
related_there store r None b x e = absurd cc
related_there store r (Some (Mathematical u)) None x e = absurd cc
related_there store r (Some (Addressed u)) None x e = absurd cc
related_there store r (Some u) (Some v) x e = ((u, refl), (v, refl))

number_some : (o : Option TermValue) (v : TermValue) → IsNoPointer o → o ≡ Some v → is_some (value_of o) ≡ true
number_some None v n e = absurd cc
number_some (Some (Mathematical z)) v n e = refl
number_some (Some (Addressed x)) v n e = absurd (n x refl)

object_there : (n : ℕ) (o : Option Address) (z : Extent) → object_extent n o ≡ Some z → (x : Address) × (o ≡ Some x)
object_there n None z e = absurd cc
object_there n (Some x) z e = (x, refl)

one_there : (op : UnOp) (o : Option TermValue) (v : TermValue) → compute_one op o ≡ Some v → IsThere o
one_there op None v e = absurd cc
one_there op (Some u) v e = (u, refl)

both_there : (op : BinOp) (a b : Option TermValue) (v : TermValue) → both a b (compute op) ≡ Some v → IsThere a × IsThere b
both_there op None b v e = absurd cc
both_there op (Some (Mathematical x)) None v e = absurd cc
both_there op (Some (Mathematical x)) (Some y) v e = ((Mathematical x, refl), (y, refl))
both_there op (Some (Addressed x)) None v e = absurd cc
both_there op (Some (Addressed x)) (Some y) v e = absurd cc

converted_there : (to : CastType) (o : Option TermValue) (v : TermValue) → converted to o ≡ Some v → IsThere o
converted_there Integers o v e = (v, e)
converted_there (OfC t) None v e = absurd cc
converted_there (OfC t) (Some u) v e = (u, refl)

held_there : (store : Store) (t : Option PlainType) (o : Option Address) (v : TermValue) → held_at store t o ≡ Some v → (x : Address) × (o ≡ Some x)
held_there store t None v e = absurd cc
held_there store t (Some x) v e = (x, refl)

address_there : (o : Option TermValue) (x : Address) → as_address o ≡ Some x → o ≡ Some (Addressed x)
address_there None x e = absurd cc
address_there (Some (Mathematical z)) x e = absurd cc
address_there (Some (Addressed y)) x e = ap (λ y. Some (Addressed y)) (some_same y x e)

farther_there : (d : ℤ) (o : Option Address) (x : Address) → option_map (λ x. address_farther x d) o ≡ Some x → (y : Address) × (o ≡ Some y)
farther_there d None x e = absurd cc
farther_there d (Some y) x e = (y, refl)

addressed_there : (o : Option Address) (v : TermValue) → addressed o ≡ Some v → (x : Address) × (o ≡ Some x)
addressed_there None v e = absurd cc
addressed_there (Some x) v e = (x, refl)

moved_there : (op : PointerOp) (n : ℕ) (a b : Option TermValue) (v : TermValue) → moved op n a b ≡ Some v → IsThere a × IsThere b
moved_there op n None b v e = absurd cc
moved_there op n (Some (Mathematical z)) b v e = absurd cc
moved_there op n (Some (Addressed x)) None v e = absurd cc
moved_there op n (Some (Addressed x)) (Some y) v e = ((Addressed x, refl), (y, refl))

difference_there : (store : Store) (n : ℕ) (o p : Option Address) (v : TermValue) → difference store n o p ≡ Some v → (x : Address) × (y : Address) × (o ≡ Some x) × (p ≡ Some y)
difference_there store n None p v e = absurd cc
difference_there store n (Some x) None v e = absurd cc
difference_there store n (Some x) (Some y) v e = (x, y, refl, refl)

told_there : (store : Store) (f : BlockFact) (o : Option Address) (v : TermValue) → told store f o ≡ Some v → (x : Address) × (o ≡ Some x)
told_there store f None v e = absurd cc
told_there store f (Some x) v e = (x, refl)

variable_read : (s : State) (t : Option PlainType) (x : ℕ) → IsRead s (record { decl = x; kind = term_type t }) → AllRead s (readings_of_variable t x)
variable_read s t x h = by (is_scalar t)
  where
    by : (b : Bool) → AllRead s (if b then record { decl = x; kind = term_type t } ∷ [] else [])
    by true = (h, tt)
    by false = tt

-- a variable of pointers
pointer_is_held : (store : Store) (n : ℕ) (u : PlainType) → AllTogether store → (v : TermValue) → held_at store (Some (ctype.Ptr u)) (Some (address_of (Into n 0))) ≡ Some v → is_held store (term_type (Some (ctype.Ptr u))) n ≡ true
pointer_is_held store n u all v e = pointers_load store (Into n 0) all ∙ by (load store (Into n 0) PointerType) e
  where
    by : (o : Option Value) → of_value o ≡ Some v → is_there o ≡ true
    by None e = absurd cc
    by (Some x) e = refl

pointer_variable_read : (s : State) (t : Option PlainType) (x number : ℕ) → HasPointers t → find x s.scope ≡ Some number → AllTogether s.store → (v : TermValue)
    → held_at s.store t (option_map address_of (start_of (find x s.scope))) ≡ Some v → AllRead s (readings_of_variable t x)
pointer_variable_read s (Some (ctype.Ptr u)) x number p found all v e =
    (record { number = number; found = found; holds = pointer_is_held s.store number u all v (sym (ap (λ o. held_at s.store (Some (ctype.Ptr u)) (option_map address_of (start_of o))) found) ∙ e) }, tt)
pointer_variable_read s (Some (ctype.Array u n)) x number p found all v e = tt
pointer_variable_read s None x number p found all v e = absurd p
pointer_variable_read s (Some (Int k)) x number p found all v e = absurd p
pointer_variable_read s (Some (ctype.Struct n)) x number p found all v e = absurd p
pointer_variable_read s (Some ctype.Void) x number p found all v e = absurd p
pointer_variable_read s (Some (ctype.Named y)) x number p found all v e = absurd p
pointer_variable_read s (Some (ctype.StructTag y tag)) x number p found all v e = absurd p
pointer_variable_read s (Some (ctype.EnumTag y at)) x number p found all v e = absurd p

elements_there : (n : ℕ) (a i j : Option TermValue) (z : Extent) → elements_extent n a i j ≡ Some z → IsThere a × IsThere i × IsThere j
elements_there n None i j z e = absurd cc
elements_there n (Some (Mathematical x)) i j z e = absurd cc
elements_there n (Some (Addressed x)) None j z e = absurd cc
elements_there n (Some (Addressed x)) (Some (Addressed y)) j z e = absurd cc
elements_there n (Some (Addressed x)) (Some (Mathematical u)) None z e = absurd cc
elements_there n (Some (Addressed x)) (Some (Mathematical u)) (Some (Addressed y)) z e = absurd cc
elements_there n (Some (Addressed x)) (Some (Mathematical u)) (Some (Mathematical v)) z e = ((Addressed x, refl), (Mathematical u, refl), (Mathematical v, refl))

with_there : (o : Option Extent) (os : Option (List Extent)) (es : List Extent) → with_extent o os ≡ Some es → (z : Extent) × (zs : List Extent) × (o ≡ Some z) × (os ≡ Some zs)
with_there None os es e = absurd cc
with_there (Some z) None es e = absurd cc
with_there (Some z) (Some zs) es e = (z, zs, refl, refl)

mapped_there : {A : Type 0} (f : A → Bool) (o : Option A) (b : Bool) → option_map f o ≡ Some b → (x : A) × (o ≡ Some x)
mapped_there f None b e = absurd cc
mapped_there f (Some x) b e = (x, refl)

module _ (ks : List Kept) (ns : Sorted) (seen : Seen) (s : State) (names : Environment) (sorted : AreSorted ns s names) (all : AllTogether s.store) where
  mutual
    pub term_read : (t : LogicTerm) → TermRanged seen t → TermFound ks s.scope ns t → (v : TermValue) → term t s names ≡ Some v → AllRead s (sure_readings_of_term t)
    term_read (logic.Number at t r n) q f v e = tt
    term_read (logic.Letter at t r n) q f v e = tt
    term_read (logic.Variable at t r x) q f v e =
        let i = variable_in_sight s at t r x q f in
        variable_read s t x.decl (record {
          number = i.number;
          found = i.found;
          holds = held_number_is s at t r x i.number i ∙ sym i.there ∙ number_some (term (logic.Variable at t r x) s names) v (number_found ks ns (logic.Variable at t r x) s names s.scope sorted f) e;
        })
    term_read (logic.Unary at t r op a) q f v e = let x = one_there op (term a s names) v e in term_read a q.1 f x.0 x.1
    term_read (logic.Binary at t r op a b) q f v e =
        let x = both_there op (term a s names) (term b s names) v e in
        read-append s (sure_readings_of_term a) (sure_readings_of_term b) (term_read a q.1 f.0 x.0.0 x.0.1) (term_read b q.2 f.1 x.1.0 x.1.1)
    term_read (logic.Cast at t r to a) q f v e = let x = converted_there to (term a s names) v e in term_read a q.1 f.1 x.0 x.1
    term_read (logic.Choice at t r c a b) q f v e = tt
    term_read (logic.Deref at t r a) q f v e =
        let x = held_there s.store t (as_address (term a s names)) v e in pointer_read a q.1 f.1 (Addressed x.0) (address_there (term a s names) x.0 x.1)
    term_read (logic.Member at t r d a) q f v e =
        let x = held_there s.store t (option_map (λ x. address_farther x (pos d)) (place a s names)) v e in
        let y = farther_there (pos d) (place a s names) x.0 x.1 in place_read a q.1 f.1 y.0 y.1
    term_read (logic.Difference at t r n a b) q f v e =
        let x = difference_there s.store n (as_address (term a s names)) (as_address (term b s names)) v e in
        read-append s (sure_readings_of_term a) (sure_readings_of_term b) (pointer_read a q.1 f.1 (Addressed x.0) (address_there (term a s names) x.0 x.2))
        (pointer_read b q.2 f.2 (Addressed x.1) (address_there (term b s names) x.1 x.3))
    term_read (logic.Told at t r g a) q f v e =
        let x = told_there s.store g (as_address (term a s names)) v e in pointer_read a q.1 f.1 (Addressed x.0) (address_there (term a s names) x.0 x.1)
    term_read (logic.Named at t r x) q f v e = tt
    term_read (logic.At at t r l a) q f v e = tt
    term_read _ q f v e = absurd f

    pub pointer_read : (t : LogicTerm) → TermRanged seen t → PointerFound ks s.scope ns t → (v : TermValue) → term t s names ≡ Some v → AllRead s (sure_readings_of_term t)
    pointer_read (logic.Variable at t r x) q f v e = pointer_variable_read s t x.decl f.1 f.0 f.2 all v e
    pointer_read (logic.Null at t r) q f v e = tt
    pointer_read (logic.Deref at t r a) q f v e =
        let x = held_there s.store t (as_address (term a s names)) v e in pointer_read a q.1 f.1 (Addressed x.0) (address_there (term a s names) x.0 x.1)
    pointer_read (logic.Member at t r d a) q f v e =
        let x = held_there s.store t (option_map (λ x. address_farther x (pos d)) (place a s names)) v e in
        let y = farther_there (pos d) (place a s names) x.0 x.1 in place_read a q.1 f.1 y.0 y.1
    pointer_read (logic.Address at t r a) q f v e = let x = addressed_there (place a s names) v e in place_read a q.1 f x.0 x.1
    pointer_read (logic.Moved at t r op n a b) q f v e =
        let x = moved_there op n (term a s names) (term b s names) v e in
        read-append s (sure_readings_of_term a) (sure_readings_of_term b) (pointer_read a q.1 f.0 x.0.0 x.0.1) (term_read b q.2 f.1 x.1.0 x.1.1)
    pointer_read (logic.Cast at t r to a) q f v e = let x = converted_there to (term a s names) v e in pointer_read a q.1 f.1 x.0 x.1
    pointer_read (logic.Choice at t r c a b) q f v e = tt
    pointer_read (logic.Told at t r g a) q f v e =
        let x = told_there s.store g (as_address (term a s names)) v e in pointer_read a q.1 f.1 (Addressed x.0) (address_there (term a s names) x.0 x.1)
    pointer_read (logic.Named at t r x) q f v e = tt
    pointer_read (logic.At at t r l a) q f v e = tt
    pointer_read _ q f v e = absurd f

    pub place_read : (t : LogicTerm) → TermRanged seen t → PlaceFound ks s.scope ns t → (x : Address) → place t s names ≡ Some x → AllRead s (sure_readings_of_place t)
    place_read (logic.Variable at t r y) q f x e = tt
    place_read (logic.Deref at t r a) q f x e = pointer_read a q.1 f (Addressed x) (address_there (term a s names) x e)
    place_read (logic.Member at t r d a) q f x e = let y = farther_there (pos d) (place a s names) x e in place_read a q.1 f y.0 y.1
    place_read _ q f x e = absurd f

  -- both sides of a relation
  pub side_read : (t : LogicTerm) → TermRanged seen t → SideFound ks s.scope ns t → (v : TermValue) → term t s names ≡ Some v → AllRead s (sure_readings_of_term t)
  side_read t q f v e = by (is_pointer_term t) f
    where
      by : (m : Bool) → found_by m (PointerFound ks s.scope ns t) (TermFound ks s.scope ns t) → AllRead s (sure_readings_of_term t)
      by true f = pointer_read t q f v e
      by false f = term_read t q f v e

  pub relation_read : (r : Relation) (t u : LogicTerm) → TermRanged seen t → TermRanged seen u → SideFound ks s.scope ns t → SideFound ks s.scope ns u
      → (b : Bool) → said_by (related s.store r (term t s names) (term u s names) 0) ≡ Some b → AllRead s (sure_readings_of_term t ++ sure_readings_of_term u)
  relation_read r t u p q f g b e =
      let x = related_there s.store r (term t s names) (term u s names) b e in
      read-append s (sure_readings_of_term t) (sure_readings_of_term u) (side_read t p f x.0.0 x.0.1) (side_read u q g x.1.0 x.1.1)

  -- the pointer and the bounds of a zone
  zone_read : (z : Zone) → ZoneRanged seen z → ZoneFound ks s.scope ns z → (e : Extent) → zone z s names ≡ Some e → AllRead s (sure_readings_of_zone z)
  zone_read (logic.Object at n m a) q f z e =
      let x = object_there n (as_address (term a s names)) z e in pointer_read a q f.1 (Addressed x.0) (address_there (term a s names) x.0 x.1)
  zone_read (logic.Elements at n m a lo hi) q f z e =
      let x = elements_there n (term a s names) (term lo s names) (term hi s names) z e in
      read-append s (sure_readings_of_term a) (sure_readings_of_term lo ++ sure_readings_of_term hi) (pointer_read a q.1 f.1 x.0.0 x.0.1)
      (read-append s (sure_readings_of_term lo) (sure_readings_of_term hi) (term_read lo q.2 f.2 x.1.0 x.1.1) (term_read hi q.3 f.3 x.2.0 x.2.1))

  zones_read : (zs : Zones) → ZonesRanged seen zs → ZonesFound ks s.scope ns zs → (es : List Extent) → zones zs s names ≡ Some es → AllRead s (sure_readings_of_zones zs)
  zones_read NoZone q f es e = tt
  zones_read (Another z rest) q f es e =
      let x = with_there (zone z s names) (zones rest s names) es e in
      read-append s (sure_readings_of_zone z) (sure_readings_of_zones rest) (zone_read z q.0 f.0 x.0 x.2) (zones_read rest q.1 f.1 x.1 x.3)

-- ---- what a predicate says with some steps

pub lazy_first : (a : Answer) (on off : ℕ → Answer) (b : Bool) (k : ℕ) → lazily a on off ≡ Says b k → (x : Bool) × (j : ℕ) × (a ≡ Says x j)
lazy_first (Says x j) on off b k is = (x, j, refl)
lazy_first (SaysNothing j) on off b k is = absurd cc
lazy_first OutOfSteps on off b k is = absurd cc

silent : (a : Answer) (b : Bool) (k : ℕ) → silenced a ≡ Says b k → ⊥
silent (Says x n) b k is = cc
silent (SaysNothing n) b k is = cc
silent OutOfSteps b k is = cc

full_first : (a : Answer) (g : ℕ → Answer) (f : Bool → Answer → Answer) (b : Bool) (k : ℕ) → fully a g f ≡ Says b k → (x : Bool) × (j : ℕ) × (a ≡ Says x j) × (f x (g j) ≡ Says b k)
full_first (Says x j) g f b k is = (x, j, refl, is)
full_first (SaysNothing j) g f b k is = absurd (silent (g j) b k is)
full_first OutOfSteps g f b k is = absurd cc

same_says : (x : Bool) (a : Answer) (b : Bool) (k : ℕ) → same_as x a ≡ Says b k → (y : Bool) × (j : ℕ) × (a ≡ Says y j)
same_says true a b k is = (b, k, is)
same_says false a b k is = lazy_first a _ _ b k is

other_says : (x : Bool) (a : Answer) (b : Bool) (k : ℕ) → other_than x a ≡ Says b k → (y : Bool) × (j : ℕ) × (a ≡ Says y j)
other_says true a b k is = lazy_first a _ _ b k is
other_says false a b k is = (b, k, is)

-- a relation takes no step
pub related_says : (store : Store) (r : Relation) (a b : Option TermValue) (n : ℕ) (x : Bool) (k : ℕ) → related store r a b n ≡ Says x k → said_by (related store r a b 0) ≡ Some x
related_says store r a b n x k is = sym (said_again (said_by (related store r a b 0)) n) ∙ ap said_by (sym (related_quiet store r a b n) ∙ is)

connected_read : (s : State) (e : Environment) (at : Place) (c : Connective) (p q : Predicate) (n : ℕ) (b : Bool) (k : ℕ) → ((x : Bool) (j : ℕ) → pred p s e n ≡ Says x j → AllRead s (sure_readings p))
    → ((i : ℕ) (y : Bool) (j : ℕ) → pred q s e i ≡ Says y j → AllRead s (sure_readings q))
    → connected_answers c (pred p s e n) (pred q s e) ≡ Says b k → AllRead s (sure_readings (logic.Connected at c p q))
connected_read s e at And p q n b k left right is = let x = lazy_first (pred p s e n) (pred q s e) (Says false) b k is in left x.0 x.1 x.2
connected_read s e at Or p q n b k left right is = let x = lazy_first (pred p s e n) (Says true) (pred q s e) b k is in left x.0 x.1 x.2
connected_read s e at Implies p q n b k left right is = let x = lazy_first (pred p s e n) (pred q s e) (Says true) b k is in left x.0 x.1 x.2
connected_read s e at Iff p q n b k left right is =
    let x = full_first (pred p s e n) (pred q s e) same_as b k is in
    let y = same_says x.0 (pred q s e x.1) b k x.3 in
    read-append s (sure_readings p) (sure_readings q) (left x.0 x.1 x.2) (right x.1 y.0 y.1 y.2)
connected_read s e at Xor p q n b k left right is =
    let x = full_first (pred p s e n) (pred q s e) other_than b k is in
    let y = other_says x.0 (pred q s e x.1) b k x.3 in
    read-append s (sure_readings p) (sure_readings q) (left x.0 x.1 x.2) (right x.1 y.0 y.1 y.2)

said_some : (o : Option Bool) (n : ℕ) (b : Bool) (k : ℕ) → said o n ≡ Says b k → o ≡ Some b
said_some o n b k is = sym (said_again o n) ∙ ap said_by is

module _ (ks : List Kept) (ns : Sorted) (seen : Seen) (s : State) (names : Environment) (sorted : AreSorted ns s names) (all : AllTogether s.store) where
  pub pred_read : (p : Predicate) → PredicateRanged seen p → PredicateFound ks s.scope ns p → (n : ℕ) (b : Bool) (k : ℕ) → pred p s names n ≡ Says b k → AllRead s (sure_readings p)
  pred_read (logic.Truth at v) q f n b k e = tt
  pred_read (logic.NonZero at t) q f n b k e =
      let x = related_there s.store Ne (term t s names) (Some (Mathematical (pos 0))) b (related_says s.store Ne (term t s names) (Some (Mathematical (pos 0))) n b k e) in
      term_read ks ns seen s names sorted all t q f x.0.0 x.0.1
  pred_read (logic.Chain at t NoLink) q f n b k e = tt
  pred_read (logic.Chain at t (Linked at2 r u rest)) q f n b k e =
      let x = lazy_first (related s.store r (term t s names) (term u s names) n) (chain (term u s names) rest s names) (Says false) b k e in
      relation_read ks ns seen s names sorted all r t u q.0 q.1.0 f.0 f.1.1 x.0 (related_says s.store r (term t s names) (term u s names) n x.0 x.1 x.2)
  pred_read (logic.Not at p) q f n b k e = let x = lazy_first (pred p s names n) (Says false) (Says true) b k e in pred_read p q f n x.0 x.1 x.2
  pred_read (logic.Connected at c p q) h f n b k e =
      connected_read s names at c p q n b k (λ x j g. pred_read p h.0 f.0 n x j g) (λ i y j g. pred_read q h.1 f.1 i y j g) e
  pred_read (logic.Branch at c p q) h f n b k e =
      let x = lazy_first (pred c s names n) (pred p s names) (pred q s names) b k e in pred_read c h.0 f.0 n x.0 x.1 x.2
  pred_read (logic.Asks at g z) q f n b k e =
      let x = mapped_there (asks g s.store (alignment_of z)) (zone z s names) b (said_some (option_map (asks g s.store (alignment_of z)) (zone z s names)) n b k e) in
      zone_read ks ns seen s names sorted all z q f x.0 x.1
  pred_read (logic.Separated at zs) q f n b k e =
      let x = mapped_there all_apart (zones zs s names) b (said_some (option_map all_apart (zones zs s names)) n b k e) in zones_read ks ns seen s names sorted all zs q f x.0 x.1
  pred_read (logic.Quantified at g gs p) q f n b k e = tt

  -- what is known at the right side of a connective, wherever that matters
  pub known_right : (c : Connective) (known : List Reading) (p : Predicate) → PredicateRanged seen p → PredicateFound ks s.scope ns p → AllRead s known
      → (n : ℕ) (b : Bool) (k : ℕ) → pred p s names n ≡ Says b k → AllRead s (known_at_right c known p)
  known_right And known p q f h n b k e = read-append s known (sure_readings p) h (pred_read p q f n b k e)
  known_right Or known p q f h n b k e = read-append s known (sure_readings p) h (pred_read p q f n b k e)
  known_right Implies known p q f h n b k e = read-append s known (sure_readings p) h (pred_read p q f n b k e)
  known_right Iff known p q f h n b k e = h
  known_right Xor known p q f h n b k e = h

-- the same where both sides are asked
pub known_strict : (s : State) (c : Connective) → IsStrict c → (known : List Reading) (p : Predicate) → AllRead s known → AllRead s (known_at_right c known p)
known_strict s And h known p all = elim h [ ]
known_strict s Or h known p all = elim h [ ]
known_strict s Implies h known p all = elim h [ ]
known_strict s Iff h known p all = all
known_strict s Xor h known p all = all
