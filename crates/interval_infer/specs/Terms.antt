-- Ours: the laws of the ranges that trees of annotations keep, over all their forms and in each sound state.
-- Each value of a term (ACSL 2.2), and of a pointer its offset (ACSL 2.7), lies in the range that the term keeps, and that range is one of signed 128 bits.
use Rattle.std.specs.Prelude.{◌≡◌, ℕ, ◌^◌, ◌≤◌, ℤ, pos, ◌≤ℤ◌, true, List, [], ◌∷◌, Option, Some}
use Rattle.c_syntax.specs.declared.annotation.Range.{Range}
use Rattle.c_syntax.specs.declared.types.CInt.{CInt}
use Rattle.c_syntax.specs.declared.logic.Label.{Label}
use Rattle.c_syntax.specs.declared.logic.Quantifier.{Quantifier}
use Rattle.c_syntax.specs.Ctypes.{PlainType, Void, Int, Ptr, Array, Struct, StructTag, EnumTag}
use Rattle.c_syntax.specs.Ctypes as ctype
use Rattle.c_syntax.specs.Layouts.{IntegerType, PointerType}
use Rattle.c_syntax.specs.Logic.{LogicTerm}
use Rattle.c_syntax.specs.Logic.{Binder, Predicate, Guards, NoGuard, Guarded, Zone, Object, Elements, range_of}
use Rattle.c_model.specs.Integers.{fits}
use Rattle.c_model.specs.Memory.{Value, Pointer, Integer, Points, Block, Store, block_at, load}
use Rattle.c_model.specs.MemoryQuestions as question
use Rattle.c_syntax.specs.Programs.{TranslationUnit}
use Rattle.c_model.specs.SoundStates.{IsNear, IsSoundState}
use Rattle.c_model.specs.State.{State, Mark, mark_of}
use Rattle.c_model.specs.Logic.{TermValue, Mathematical, Addressed, Answer, Environment, always, look, meant, at_label}
use Rattle.c_model.specs.Logic.{Extent}
use Rattle.c_model.specs.ContractChecks.{result_number, result_is}
use Rattle.c_model.specs.Quantifiers.{first_of, last_of, over}
use Rattle.c_model.specs.Predicates.{term, place, zone, guarded}
use Rattle.c_model.specs.Ranges.{IsWithin128, LiesIn}
use Rattle.c_model.specs.TermRanges.{Seen, range_seen, TermRanged, ZoneRanged, GuardsRanged, PredicateRanged, place_range, address_range, begin_range}
use Rattle.c_model.specs.TermRanges.{span_range, raised, lowered, seen_binders, are_bounded}

-- ---- states

-- what is read is a value of its type (C99 6.2.6.1 p5), a pointer that is read is at most 2 ^ 32 bytes from the start of its block, and no block is longer
pub record StoreFits (store : Store) : Type 0 where
  pub value : (p : Pointer) (k : CInt) (z : ℤ) → load store p (IntegerType k) ≡ Some (Integer z) → fits k z ≡ true
  pub offset : (p q : Pointer) → load store p PointerType ≡ Some (Points q) → IsNear q
  pub small : (n : ℕ) (b : Block) → block_at store n ≡ Some b → b.size ≤ 2 ^ 32

-- so it is now, and was at each label that can be asked for
pub record StateFits (s : State) : Type 0 where
  pub now : StoreFits s.store
  pub past : (l : Option ℕ) (m : Mark) → mark_of l s.marks ≡ Some m → StoreFits m.store

-- so it is of each sound state
abbrev pub SoundStatesFit : Type 0
SoundStatesFit = (p : TranslationUnit) (s : State) → IsSoundState p s → StateFits s

-- ---- values and names

-- an integer itself, a pointer by its offset in its block
abbrev pub ValueLies : Range → TermValue → Type 0
ValueLies r (Mathematical z) = LiesIn r z
ValueLies r (Addressed x) = LiesIn r x.offset

-- what holds of the range of each name in sight
abbrev pub EachSeen : (Range → Type 0) → Seen → Type 0
EachSeen P seen = (x : ℕ) (r : Range) → range_seen x seen ≡ Some r → P r

-- each name in sight has, now and at each label, no other values than those of its range
pub record NamesFit (seen : Seen) (s : State) (e : Environment) : Type 0 where
  pub within : EachSeen IsWithin128 seen
  pub lies : (l : Label) (u : State) (x : ℕ) (r : Range) (v : TermValue) → at_label l s ≡ Some u → range_seen x seen ≡ Some r
      → meant u (look x e) ≡ Some v → ValueLies r v

-- the value that a call of a function of this type gives
abbrev pub IsReturned : PlainType → Value → Type 0
IsReturned (Int k) v = (z : ℤ) × (v ≡ Integer z) × (fits k z ≡ true)
IsReturned (Ptr t) v = (p : Pointer) × (v ≡ Points p) × IsNear p
IsReturned (Array t n) v = ⊥
IsReturned (Struct n) v = ⊥
IsReturned Void v = ⊥
IsReturned (ctype.Named x) v = ⊥
IsReturned (StructTag x tag) v = ⊥
IsReturned (EnumTag x at) v = ⊥

-- so `\result` fits, by the range of the type
abbrev pub ReturnedValuesFit : Type 0
ReturnedValuesFit = (t : PlainType) (r : Range) (v : Value) (s : State) → place_range (Some t) ≡ Some r → IsReturned t v
    → NamesFit ((result_number, r) ∷ []) s (result_is v)

-- ---- terms

abbrev pub TermsLieInRanges : Type 0
TermsLieInRanges = (seen : Seen) (t : LogicTerm) (s : State) (e : Environment) (v : TermValue) → StateFits s → NamesFit seen s e → TermRanged seen t
    → term t s e ≡ Some v → ValueLies (range_of t) v

-- so it is in each sound state of a term in which no names of annotations are in sight
abbrev pub SoundTermsLieInRanges : Type 0
SoundTermsLieInRanges = (p : TranslationUnit) (t : LogicTerm) (s : State) (v : TermValue) → IsSoundState p s → TermRanged [] t
    → term t s [] ≡ Some v → ValueLies (range_of t) v

-- a place stands at an offset of its address's range
abbrev pub PlacesLieInRanges : Type 0
PlacesLieInRanges = (seen : Seen) (t : LogicTerm) (s : State) (e : Environment) (r : Range) (x : question.Address) → StateFits s → NamesFit seen s e
    → TermRanged seen t → address_range t ≡ Some r → place t s e ≡ Some x → LiesIn r x.offset

-- ---- zones

-- where the bytes of elements begin, and how many they are
pub record ElementsLie (n : ℕ) (a lo hi : Range) (d : Extent) : Type 0 where
  pub begin : Range
  pub begin_is : begin_range n a lo ≡ Some begin
  pub begin_within : IsWithin128 begin
  pub starts : LiesIn begin d.start.offset
  pub span : Range
  pub span_is : span_range n lo hi ≡ Some span
  pub span_within : IsWithin128 span
  pub spans : LiesIn span d.length

abbrev pub ZoneLies : Zone → Extent → Type 0
ZoneLies (Object at n m a) d = LiesIn (range_of a) d.start.offset × (d.length ≡ pos n)
ZoneLies (Elements at n m a lo hi) d = ElementsLie n (range_of a) (range_of lo) (range_of hi) d

abbrev pub ZonesLieInRanges : Type 0
ZonesLieInRanges = (seen : Seen) (z : Zone) (s : State) (e : Environment) (d : Extent) → StateFits s → NamesFit seen s e → ZoneRanged seen z
    → zone z s e ≡ Some d → ZoneLies z d

-- ---- binders

-- the environments in which the binders of a chain have values that are tried
abbrev pub Reaches : ℤ → List Binder → ℤ → Environment → Environment → Type 0
Reaches l [] h e d = d ≡ e
Reaches l (b ∷ bs) h e d =
    (v : ℤ) × (first_of b.kind (raised b.above l) ≤ℤ v) × (v ≤ℤ last_of b.kind h) × Reaches v bs h ((b.place.offset, always (Mathematical v)) ∷ e) d

-- what stands behind the binders matters in these alone
abbrev pub BindersReach : Type 0
BindersReach = (q : Quantifier) (l : ℤ) (bs : List Binder) (h : ℤ) (p r : Environment → ℕ → Answer) (e : Environment) (n : ℕ)
    → ((d : Environment) (m : ℕ) → Reaches l bs h e d → p d m ≡ r d m) → over q l bs h p e n ≡ over q l bs h r e n

-- each value tried lies in its binder's range, and that range is one of signed 128 bits
abbrev pub BindersFit : Type 0
BindersFit = (seen : Seen) (bs : List Binder) (lr l h hr : ℤ) (s : State) (e d : Environment) → lr ≤ℤ l → h ≤ℤ hr → are_bounded lr bs hr ≡ true
    → NamesFit seen s e → Reaches l bs h e d → NamesFit (seen_binders lr bs hr seen) s d

-- the environments in which what stands behind guards is asked
abbrev pub GuardsReach : Guards → State → Environment → Environment → Type 0
GuardsReach NoGuard s e d = d ≡ e
GuardsReach (Guarded a y ys below b rest) s e d =
    (l : ℤ) × (h : ℤ) × (f : Environment) × (term a s e ≡ Some (Mathematical l)) × (term b s e ≡ Some (Mathematical h))
    × Reaches l (y ∷ ys) (lowered below h) e f × GuardsReach rest s f d

abbrev pub GuardedReaches : Type 0
GuardedReaches = (q : Quantifier) (gs : Guards) (p r : Environment → ℕ → Answer) (s : State) (e : Environment) (n : ℕ)
    → ((d : Environment) (m : ℕ) → GuardsReach gs s e d → p d m ≡ r d m) → guarded q gs p s e n ≡ guarded q gs r s e n

-- behind guards the names in sight fit, by the ranges with which that is ranged
pub record Behind (p : Predicate) (s : State) (d : Environment) : Type 0 where
  pub seen : Seen
  pub fits : NamesFit seen s d
  pub ranged : PredicateRanged seen p

abbrev pub GuardsFit : Type 0
GuardsFit = (seen : Seen) (gs : Guards) (p : Predicate) (s : State) (e d : Environment) → StateFits s → NamesFit seen s e
    → GuardsRanged seen gs (λ m. PredicateRanged m p) → GuardsReach gs s e d → Behind p s d
