-- Ours: how code holds a pointer of annotations (ACSL 2.7). It is a pointer of C, its base, and an offset from that: what is read from memory, the start of
-- an object and null are bases, and `+`, `-` and members move the offset alone. A term has one value and many such pairs; this is the one that code makes.
use Rattle.std.specs.Prelude.{◌≡◌, ℕ, ℤ, pos, ◌+ℤ◌, true, false, Option, Some, None, option_map}
use Rattle.c_syntax.specs.declared.annotation.Range.{Range}
use Rattle.c_syntax.specs.declared.logic.BlockFact.{BlockFact}
use Rattle.c_syntax.specs.declared.logic.BlockFact.TheVariants.{BaseAddr, BlockLength, Offset}
use Rattle.c_syntax.specs.declared.logic.Label.{Label}
use Rattle.c_syntax.specs.declared.logic.PointerOp.{PointerOp}
use Rattle.c_syntax.specs.Ctypes.{PlainType, Void, Int, Ptr, Array, Struct, StructTag, EnumTag}
use Rattle.c_syntax.specs.Ctypes as ctype
use Rattle.c_syntax.specs.Formulas.{CastType, Integers, OfC}
use Rattle.c_syntax.specs.Layouts.{PointerType}
use Rattle.c_syntax.specs.Logic.{LogicTerm, Variable, Cast, Choice, Named, At, Null, Deref, Member, Address, Moved, Told, range_of}
use Rattle.c_model.specs.Memory.{Pointer, Into, Value, Integer, Points, NoValue, Store}
use Rattle.c_model.specs.Memory as memory
use Rattle.c_model.specs.MemoryQuestions.{Part, address_of, address_farther, inside}
use Rattle.c_model.specs.MemoryQuestions as question
use Rattle.c_model.specs.State.{State, find, start_of}
use Rattle.c_model.specs.Logic.{TermValue, Mathematical, Addressed, Answer, Says, SaysNothing, OutOfSteps, Environment, look, meant, at_label, as_address}
use Rattle.c_model.specs.Logic.{pointer_at, load_from, moved_by}
use Rattle.c_model.specs.Predicates.{term, pred}
use Rattle.c_model.specs.Ranges.{LiesIn}
use Rattle.c_model.specs.TermRanges.{Seen, range_seen, TermRanged, address_range}
use Rattle.interval_infer.specs.Terms.{StateFits, NamesFit}

pub record Based : Type 0 where
  pub base : Pointer
  pub offset : ℤ

-- the place that it is
abbrev pub sum_of : Based → question.Address
sum_of b = address_farther (address_of b.base) b.offset

abbrev pub at_base : Pointer → Based
at_base p = record { base = p; offset = pos 0 }

abbrev pub on : ℤ → Based → Based
on d b = record { base = b.base; offset = b.offset +ℤ d }

-- as `moved_by`, with the base left as it is
abbrev pub moved_base : PointerOp → ℕ → Based → ℤ → Based
moved_base op n b i = record { base = b.base; offset = (moved_by op n (record { block = 0; offset = b.offset }) i).offset }

abbrev pub moved_based : PointerOp → ℕ → Option Based → Option TermValue → Option Based
moved_based op n None t = None
moved_based op n (Some b) None = None
moved_based op n (Some b) (Some (Addressed x)) = None
moved_based op n (Some b) (Some (Mathematical i)) = Some (moved_base op n b i)

-- a pointer that is read
abbrev pub base_of_value : Option Value → Option Based
base_of_value None = None
base_of_value (Some (Integer z)) = None
base_of_value (Some (Points p)) = Some (at_base p)
base_of_value (Some NoValue) = None

-- what a place of a type holds: a pointer is read, and the value of an array is where it stands
abbrev pub held_based : Store → Option PlainType → Option Based → Option Based
held_based store t None = None
held_based store None (Some b) = None
held_based store (Some (Ptr u)) (Some b) = base_of_value (load_from store PointerType (pointer_at (sum_of b)))
held_based store (Some (Array u n)) (Some b) = Some b
held_based store (Some (Int k)) (Some b) = None
held_based store (Some (Struct n)) (Some b) = None
held_based store (Some Void) (Some b) = None
held_based store (Some (ctype.Named x)) (Some b) = None
held_based store (Some (StructTag x tag)) (Some b) = None
held_based store (Some (EnumTag x at)) (Some b) = None

abbrev pub cast_based : CastType → Option Based → Option Based
cast_based Integers o = o
cast_based (OfC (Ptr t)) o = o
cast_based (OfC (Int k)) o = None
cast_based (OfC (Array t n)) o = None
cast_based (OfC (Struct n)) o = None
cast_based (OfC Void) o = None
cast_based (OfC (ctype.Named x)) o = None
cast_based (OfC (StructTag x tag)) o = None
cast_based (OfC (EnumTag x at)) o = None

abbrev pub chosen_based : Answer → Option Based → Option Based → Option Based
chosen_based (Says true n) a b = a
chosen_based (Says false n) a b = b
chosen_based (SaysNothing n) a b = None
chosen_based OutOfSteps a b = None

abbrev pub told_based : Store → BlockFact → Option question.Address → Option Based
told_based store f None = None
told_based store BaseAddr (Some x) = option_map (λ (p : Part). at_base (Into x.block 0)) (inside store x)
told_based store BlockLength (Some x) = None
told_based store Offset (Some x) = None

abbrev pub based_at : Option State → (State → Option Based) → Option Based
based_at None f = None
based_at (Some s) f = f s

-- what each name stands for, by its number
abbrev pub Bases : Type 0
Bases = ℕ → State → Option Based

abbrev mutual
  pub based_place : Bases → LogicTerm → State → Environment → Option Based
  based_place g (Variable at t r x) s e = option_map at_base (start_of (find x.decl s.scope))
  based_place g (Deref at t r a) s e = based g a s e
  based_place g (Member at t r d a) s e = option_map (on (pos d)) (based_place g a s e)
  based_place g _ s e = None

  -- the pair of a term that is a pointer
  pub based : Bases → LogicTerm → State → Environment → Option Based
  based g (Variable at t r x) s e = held_based s.store t (option_map at_base (start_of (find x.decl s.scope)))
  based g (Cast at t r to a) s e = cast_based to (based g a s e)
  based g (Choice at t r c a b) s e = chosen_based (pred c s e 0) (based g a s e) (based g b s e)
  based g (Named at t r x) s e = g x.decl s
  based g (At at t r l a) s e = based_at (at_label l s) (λ u. based g a u e)
  based g (Null at t r) s e = Some (at_base memory.Null)
  based g (Deref at t r a) s e = held_based s.store t (based g a s e)
  based g (Member at t r d a) s e = held_based s.store t (option_map (on (pos d)) (based_place g a s e))
  based g (Address at t r a) s e = based_place g a s e
  based g (Moved at t r op n a b) s e = moved_based op n (based g a s e) (term b s e)
  based g (Told at t r f a) s e = told_based s.store f (as_address (term a s e))
  based g _ s e = None

-- a pair that is an address
abbrev pub SumsTo : Option Based → question.Address → Type 0
SumsTo o x = (b : Based) × (o ≡ Some b) × (sum_of b ≡ x)

-- each name has a pair where it has an address, and its offsets lie in its range, now and at each label
pub record BasesFit (g : Bases) (seen : Seen) (s : State) (e : Environment) : Type 0 where
  pub sums : (l : Label) (u : State) (x : ℕ) (y : question.Address) → at_label l s ≡ Some u → meant u (look x e) ≡ Some (Addressed y) → SumsTo (g x u) y
  pub lies : (l : Label) (u : State) (x : ℕ) (r : Range) (b : Based) → at_label l s ≡ Some u → range_seen x seen ≡ Some r → g x u ≡ Some b → LiesIn r b.offset

-- a term that is a pointer has a pair, and that is its value
abbrev pub BasesAddUp : Type 0
BasesAddUp = (g : Bases) (seen : Seen) (t : LogicTerm) (s : State) (e : Environment) (x : question.Address) → BasesFit g seen s e
    → term t s e ≡ Some (Addressed x) → SumsTo (based g t s e) x

-- the offset from the base lies in the term's range, too
abbrev pub BasedOffsetsLie : Type 0
BasedOffsetsLie = (g : Bases) (seen : Seen) (t : LogicTerm) (s : State) (e : Environment) (b : Based) → StateFits s → NamesFit seen s e → BasesFit g seen s e
    → TermRanged seen t → based g t s e ≡ Some b → LiesIn (range_of t) b.offset

abbrev pub BasedPlacesLie : Type 0
BasedPlacesLie = (g : Bases) (seen : Seen) (t : LogicTerm) (s : State) (e : Environment) (r : Range) (b : Based) → StateFits s → NamesFit seen s e
    → BasesFit g seen s e → TermRanged seen t → address_range t ≡ Some r → based_place g t s e ≡ Some b → LiesIn r b.offset
