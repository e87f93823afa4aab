-- What the code of a predicate does, over the blocks of the source's store: its flag register says whether the predicate says something, and its truth
-- register whether that is true.
use Rattle.std.specs.Prelude.{◌≡◌, ℕ, ◌+◌, ◌≤◌, ℤ, pos, Bool, true, false, List, [], length, Option, Some, None, slice_get, ◌∷◌}
use Rattle.c_syntax.specs.declared.annotation.Range.{Range}
use Rattle.c_syntax.specs.declared.types.CInt.{CInt}
use Rattle.c_syntax.specs.declared.logic.BlockFact.{BlockFact}
use Rattle.c_syntax.specs.declared.logic.BlockFact.TheVariants.{BaseAddr, BlockLength, Offset}
use Rattle.c_syntax.specs.declared.logic.Label.TheVariants.{Here, Pre, Marked}
use Rattle.c_syntax.specs.Ctypes.{PlainType, Int}
use Rattle.c_syntax.specs.Ctypes as ctype
use Rattle.c_syntax.specs.Formulas.{CastType, Integers, OfC}
use Rattle.c_syntax.specs.Logic.{LogicTerm, Links, NoLink, Linked, Zone, Zones, NoZone, Another, Predicate, Guards, NoGuard, Guarded}
use Rattle.c_syntax.specs.Logic as logic
use Rattle.c_syntax.specs.Programs.{TranslationUnit}
use Rattle.c_model.specs.Integers.{truth as number_of}
use Rattle.c_model.specs.Memory.{Pointer, Into, Value, Integer, Points, Store}
use Rattle.c_model.specs.MemoryQuestions.{Address}
use Rattle.c_model.specs.Together.{AllTogether}
use Rattle.c_model.specs.QuietPredicates.{IsQuiet}
use Rattle.c_model.specs.Logic.{TermValue, Mathematical, Environment, look, meant, of_value, Answer, Says, SaysNothing, OutOfSteps, said}
use Rattle.c_model.specs.Predicates.{term, pred}
use Rattle.c_model.specs.Ranges.{LiesIn}
use Rattle.c_model.specs.State.{State, Scope, find}
use Rattle.c_model.specs.TermRanges.{Seen, range_seen, TermRanged, PredicateRanged}
use Rattle.c_model.specs.TypedPredicates.{IsCastType}
use Rattle.mon_syntax.specs.declared.tree.MonType.{MonType}
use Rattle.mon_syntax.specs.Arithmetic.{access_bytes}
use Rattle.mon_syntax.specs.BlockMemory.{Blocks, over_blocks, is_some}
use Rattle.c_model.specs.MonitoredRuns.{Spent}
use Rattle.mon_syntax.specs.Meaning.{Result, Done, Stops, Flow, Next, eval, exec_all}
use Rattle.mon_syntax.specs.Meaning as monitored
use Rattle.mon_syntax.specs.Registers.{Bindings}
use Rattle.mon_syntax.specs.Trees.{MonStatements}
use Rattle.c_effects.specs.Expressions.{pointer_to}
use Rattle.c_simulation.specs.SameRegisters.{Same}
use Rattle.mem_preds.specs.Questions.{size_of}
use Rattle.mem_preds.specs.Reads.{AreSmall, IsSmall, pointer_held}
use Rattle.c_model.specs.PredicateTyping.{place_of_term}
use Rattle.mon_syntax.specs.declared.tree.MonType.TheVariants.{Ptr}
use Rattle.mon_syntax.specs.Checking.{same_type}
use Rattle.c_simulation.specs.Keeping.{Kept, GivesTerm, kept_value, registers_of}
use Rattle.interval_infer.specs.Terms.{NamesFit, StateFits}
use Rattle.annot_simulation.specs.Code.{is_pointer_term, Judgement, judgement, valuation}
use Rattle.annot_simulation.specs.Held.{Held, Sorted, held_by, kept_at, sort_held, sorts_held, sorts_within}

abbrev pub Target : Type 0
Target = monitored.State Blocks

abbrev pub Did : Type 0
Did = Result Target (Flow Value)

-- where code runs: the program, the registers bound to its variables, all of them below `low`, the pointers to globals, what calls do and how many turns
-- loops make, the state of the source, the state of the target, and the registers
pub record Setting : Type 0 where
  pub unit : TranslationUnit
  pub bound : Bindings
  -- the terms that are kept
  pub plan : List Kept
  pub low : ℕ
  pub globals : List Value
  pub calls : monitored.Calls over_blocks
  pub turns : ℕ
  pub now : State
  -- what names of annotations stand for there, in which registers, and the ranges that they keep
  pub names : Environment
  pub held : List Held
  pub seen : Seen
  pub target : Target
  pub regs : List Value

-- the same place with so many steps left
abbrev pub with_steps : ℕ → Setting → Setting
with_steps n w = record w { target = record w.target { steps = n } }

-- what statements do there
abbrev pub runs : Setting → MonStatements → List Value → Did
runs w a regs = exec_all over_blocks w.globals a w.calls w.turns regs w.target

-- blocks are small, pieces of pointers stand together, and pointers that are kept in memory are small
pub record IsSound (store : Store) : Type 0 where
  pub small : AreSmall store
  pub together : AllTogether store
  pub bounded : (x : Address) (p : Pointer) → pointer_held store x ≡ Some (Points p) → IsSmall p

-- a number that is no pointer's, or a small pointer
abbrev pub IsSorted : Bool → Value → Type 0
IsSorted false v = (z : ℤ) × (v ≡ Integer z)
IsSorted true v = (p : Pointer) × (v ≡ Points p) × IsSmall p

-- a name has the value that its register holds
pub record IsHeld (w : Setting) (x : ℕ) (h : Held) : Type 0 where
  pub value : Value
  pub sorted : IsSorted (same_type h.kind Ptr) value
  -- the start of a pointer lies in its range
  pub starts : same_type h.kind Ptr ≡ true → (r : Range) → range_seen x w.seen ≡ Some r → LiesIn r (pos 0)
  pub is : meant w.now (look x w.names) ≡ of_value (Some value)
  pub holds : (later : List Value) → Same w.low w.regs later → slice_get later h.register ≡ Some value

-- a kept term has registers below `low`, which hold what the marks say
pub record HasKept (w : Setting) (k : Kept) : Type 0 where
  pub below : k.register + registers_of k.term ≤ w.low
  pub gives : GivesTerm k.term (kept_value k w.now.marks) k.register w.regs

-- the target has the source's blocks, and points to those of the variables in sight; registers hold what names stand for, and what the marks say
pub record Stands (w : Setting) : Type 0 where
  pub store_is : w.target.mem.store ≡ w.now.store
  pub points : (x number : ℕ) → find x w.now.scope ≡ Some number → (later : List Value) → Same w.low w.regs later
      → eval over_blocks w.globals (pointer_to w.unit w.bound x) later w.target.mem ≡ Some (Points (Into number 0))
  pub held : (x : ℕ) (h : Held) → held_by x w.held ≡ Some h → IsHeld w x h
  pub keeps : (at : ℕ) (k : Kept) → kept_at at w.plan ≡ Some k → HasKept w k
  pub sound : IsSound w.now.store

-- ---- what code is made of

-- a type of integers
abbrev pub HasIntegers : Option PlainType → Type 0
HasIntegers t = (k : CInt) × (t ≡ Some (Int k))

-- a type of pointers, or of arrays
abbrev pub HasPointers : Option PlainType → Type 0
HasPointers (Some (ctype.Ptr t)) = Unit {0}
HasPointers (Some (ctype.Array t n)) = Unit {0}
HasPointers _ = ⊥

abbrev pub GivesPointers : CastType → Type 0
GivesPointers Integers = ⊥
GivesPointers (OfC t) = (u : PlainType) × (t ≡ ctype.Ptr u)

-- what is told of a block as a number, and as a pointer
abbrev pub IsNumberFact : BlockFact → Type 0
IsNumberFact BaseAddr = ⊥
IsNumberFact BlockLength = Unit {0}
IsNumberFact Offset = Unit {0}

abbrev pub IsPointerFact : BlockFact → Type 0
IsPointerFact BaseAddr = Unit {0}
IsPointerFact BlockLength = ⊥
IsPointerFact Offset = ⊥

-- the number 0, which is null beside a pointer
abbrev pub IsZero : LogicTerm → Type 0
IsZero (logic.Number at t r z) = z ≡ pos 0
IsZero _ = ⊥

-- sides of a relation, by whether they are pointers
abbrev pub AreSides : (m n : Bool) → LogicTerm → LogicTerm → Type 0
AreSides false false t u = Unit {0}
AreSides false true t u = IsZero t
AreSides true false t u = IsZero u
AreSides true true t u = Unit {0}

abbrev pub found_by : Bool → Type 0 → Type 0 → Type 0
found_by true p n = p
found_by false p n = n

-- a term that is kept at a label, under the offset of its place
pub record Planned (ks : List Kept) (l : Option ℕ) (a : LogicTerm) : Type 0 where
  pub entry : Kept
  pub is : kept_at (place_of_term a).offset ks ≡ Some entry
  pub label_is : entry.label ≡ l
  pub term_is : entry.term ≡ a

-- the variables and the names that are read are in sight; terms are of the sorts that their forms want, and their conditions take no step
abbrev mutual
  -- an integer
  pub TermFound : List Kept → Scope → Sorted → LogicTerm → Type 0
  TermFound ks scope ns (logic.Number at t r n) = Unit {0}
  TermFound ks scope ns (logic.Letter at t r n) = Unit {0}
  TermFound ks scope ns (logic.Variable at t r x) = HasIntegers t × (number : ℕ) × (find x.decl scope ≡ Some number)
  TermFound ks scope ns (logic.Unary at t r op a) = TermFound ks scope ns a
  TermFound ks scope ns (logic.Binary at t r op a b) = TermFound ks scope ns a × TermFound ks scope ns b
  TermFound ks scope ns (logic.Cast at t r to a) = IsCastType to × TermFound ks scope ns a
  TermFound ks scope ns (logic.Choice at t r c a b) =
      IsQuiet c × PredicateFound ks scope ns c × TermFound ks scope ns a × TermFound ks scope ns b
  TermFound ks scope ns (logic.Deref at t r a) = HasIntegers t × PointerFound ks scope ns a
  TermFound ks scope ns (logic.Member at t r d a) = HasIntegers t × PlaceFound ks scope ns a
  -- no element has no bytes
  TermFound ks scope ns (logic.Difference at t r n a b) = (1 ≤ n) × PointerFound ks scope ns a × PointerFound ks scope ns b
  TermFound ks scope ns (logic.Told at t r f a) = IsNumberFact f × PointerFound ks scope ns a
  TermFound ks scope ns (logic.Named at t r x) = sort_held x.decl ns ≡ Some false
  TermFound ks scope ns (logic.At at t r Here a) = TermFound ks scope ns a
  -- it is kept, and no name and no label stands in it; what it reads was in sight where its label stands
  TermFound ks scope ns (logic.At at t r Pre a) = Planned ks None a × (there : Scope) × TermFound [] there [] a
  TermFound ks scope ns (logic.At at t r (Marked l) a) = Planned ks (Some l) a × (there : Scope) × TermFound [] there [] a
  TermFound ks scope ns _ = ⊥

  -- a pointer
  pub PointerFound : List Kept → Scope → Sorted → LogicTerm → Type 0
  PointerFound ks scope ns (logic.Variable at t r x) = HasPointers t × (number : ℕ) × (find x.decl scope ≡ Some number)
  PointerFound ks scope ns (logic.Null at t r) = Unit {0}
  PointerFound ks scope ns (logic.Deref at t r a) = HasPointers t × PointerFound ks scope ns a
  PointerFound ks scope ns (logic.Member at t r d a) = HasPointers t × PlaceFound ks scope ns a
  PointerFound ks scope ns (logic.Address at t r a) = PlaceFound ks scope ns a
  PointerFound ks scope ns (logic.Moved at t r op n a b) = PointerFound ks scope ns a × TermFound ks scope ns b
  PointerFound ks scope ns (logic.Cast at t r to a) = GivesPointers to × PointerFound ks scope ns a
  PointerFound ks scope ns (logic.Choice at t r c a b) =
      IsQuiet c × PredicateFound ks scope ns c × PointerFound ks scope ns a × PointerFound ks scope ns b
  PointerFound ks scope ns (logic.Told at t r f a) = IsPointerFact f × PointerFound ks scope ns a
  PointerFound ks scope ns (logic.Named at t r x) = sort_held x.decl ns ≡ Some true
  PointerFound ks scope ns (logic.At at t r Here a) = PointerFound ks scope ns a
  PointerFound ks scope ns (logic.At at t r Pre a) = Planned ks None a × (is_pointer_term a ≡ true) × (there : Scope) × PointerFound [] there [] a
  PointerFound ks scope ns (logic.At at t r (Marked l) a) = Planned ks (Some l) a × (is_pointer_term a ≡ true) × (there : Scope) × PointerFound [] there [] a
  PointerFound ks scope ns _ = ⊥

  pub PlaceFound : List Kept → Scope → Sorted → LogicTerm → Type 0
  PlaceFound ks scope ns (logic.Variable at t r x) = (number : ℕ) × (find x.decl scope ≡ Some number)
  PlaceFound ks scope ns (logic.Deref at t r a) = PointerFound ks scope ns a
  PlaceFound ks scope ns (logic.Member at t r d a) = PlaceFound ks scope ns a
  PlaceFound ks scope ns _ = ⊥

  -- the alignment is one that questions have
  pub ZoneFound : List Kept → Scope → Sorted → Zone → Type 0
  ZoneFound ks scope ns (logic.Object at n m a) = (access_bytes (size_of m) ≡ m) × PointerFound ks scope ns a
  ZoneFound ks scope ns (logic.Elements at n m a lo hi) =
      (access_bytes (size_of m) ≡ m) × PointerFound ks scope ns a × TermFound ks scope ns lo × TermFound ks scope ns hi

  pub ZonesFound : List Kept → Scope → Sorted → Zones → Type 0
  ZonesFound ks scope ns NoZone = Unit {0}
  ZonesFound ks scope ns (Another z rest) = ZoneFound ks scope ns z × ZonesFound ks scope ns rest

  -- relations behind a side
  pub LinksFound : List Kept → Scope → Sorted → LogicTerm → Links → Type 0
  LinksFound ks scope ns t NoLink = Unit {0}
  LinksFound ks scope ns t (Linked at r u rest) =
      AreSides (is_pointer_term t) (is_pointer_term u) t u × found_by (is_pointer_term u) (PointerFound ks scope ns u)
      (TermFound ks scope ns u) × LinksFound ks scope ns u rest

  pub PredicateFound : List Kept → Scope → Sorted → Predicate → Type 0
  PredicateFound ks scope ns (logic.Truth at b) = Unit {0}
  PredicateFound ks scope ns (logic.NonZero at t) = TermFound ks scope ns t
  PredicateFound ks scope ns (logic.Chain at t links) =
      found_by (is_pointer_term t) (PointerFound ks scope ns t) (TermFound ks scope ns t) × LinksFound ks scope ns t links
  PredicateFound ks scope ns (logic.Not at p) = PredicateFound ks scope ns p
  PredicateFound ks scope ns (logic.Connected at c p q) = PredicateFound ks scope ns p × PredicateFound ks scope ns q
  PredicateFound ks scope ns (logic.Branch at c p q) = PredicateFound ks scope ns c × PredicateFound ks scope ns p × PredicateFound ks scope ns q
  PredicateFound ks scope ns (logic.Quantified at q gs p) = GuardsFound ks scope ns gs (λ ns. PredicateFound ks scope ns p)
  PredicateFound ks scope ns (logic.Asks at f z) = ZoneFound ks scope ns z
  PredicateFound ks scope ns (logic.Separated at zs) = ZonesFound ks scope ns zs

  -- bounds are integers, and what stands within guards is found where their binders are names
  pub GuardsFound : List Kept → Scope → Sorted → Guards → (Sorted → Type 0) → Type 0
  GuardsFound ks scope ns NoGuard p = p ns
  GuardsFound ks scope ns (Guarded a y ys below b rest) p =
      TermFound ks scope ns a × TermFound ks scope ns b × GuardsFound ks scope (sorts_within (y ∷ ys) ns) rest p

abbrev pub SideFound : List Kept → Scope → Sorted → LogicTerm → Type 0
SideFound ks scope ns t = found_by (is_pointer_term t) (PointerFound ks scope ns t) (TermFound ks scope ns t)

-- terms that keep their ranges have their values in them: what memory holds has its type, and names have values of these ranges
pub record RangesHold (m : Seen) (s : State) (e : Environment) : Type 0 where
  pub state : StateFits s
  pub names : NamesFit m s e

-- ---- what statements come to

-- they come to their end with so many steps left, and leave memory, input and output as they were, and each register below `low`
pub record Finishes (w : Setting) (a : MonStatements) (low : ℕ) (k : ℕ) (P : List Value → Type 0) : Type 0 where
  pub after : List Value
  pub same : Same low w.regs after
  pub is : runs w a w.regs ≡ Done (Next after) (record w.target { steps = k }) []
  pub holds : P after

-- no step is left for them
abbrev pub IsSpent : Setting → MonStatements → Type 0
IsSpent w a = runs w a w.regs ≡ Stops Spent 0 []

abbrev pub is_true : Option Bool → Bool
is_true None = false
is_true (Some b) = b

-- the flag says whether something is said, and the truth whether that is true
pub record IsJudged (flag truth : ℕ) (says : Option Bool) (after : List Value) : Type 0 where
  pub flag_is : slice_get after flag ≡ Some (Integer (number_of (is_some says)))
  pub truth_is : slice_get after truth ≡ Some (Integer (number_of (is_true says)))

-- the statements of a predicate do as an answer says, with the steps that it leaves
abbrev pub Judges : Setting → List MonType → Judgement → Answer → Type 0
Judges w rs j (Says b k) = Finishes w j.stmts (length rs) k (IsJudged j.flag j.truth (Some b))
Judges w rs j (SaysNothing k) = Finishes w j.stmts (length rs) k (IsJudged j.flag j.truth None)
Judges w rs j OutOfSteps = IsSpent w j.stmts

-- so it is for each predicate that keeps its ranges, where there are registers enough and turns enough for the steps that are left
abbrev pub CodeJudges : Type 0
CodeJudges =
    (w : Setting) (p : Predicate) (rs : List MonType) → Stands w → RangesHold w.seen w.now w.names → PredicateRanged w.seen p
    → PredicateFound w.plan w.now.scope (sorts_held w.held) p → w.target.steps ≤ w.turns
    → w.low ≤ length rs → length (judgement w.unit w.bound w.plan w.held p rs).used ≤ length w.regs
    → Judges w rs (judgement w.unit w.bound w.plan w.held p rs) (pred p w.now w.names w.target.steps)

-- the flag says whether a term has a value, and that is the number in the other register
pub record IsValued (flag value : ℕ) (o : Option TermValue) (after : List Value) : Type 0 where
  pub flag_is : slice_get after flag ≡ Some (Integer (number_of (is_some o)))
  pub value_is : (v : TermValue) → o ≡ Some v → (z : ℤ) × (v ≡ Mathematical z) × (slice_get after value ≡ Some (Integer z))

-- so does the code of each integer term that keeps its range; it takes no step
abbrev pub CodeValues : Type 0
CodeValues =
    (w : Setting) (t : LogicTerm) (rs : List MonType) → Stands w → RangesHold w.seen w.now w.names → TermRanged w.seen t
    → TermFound w.plan w.now.scope (sorts_held w.held) t → w.target.steps ≤ w.turns
    → w.low ≤ length rs → length (valuation w.unit w.bound w.plan w.held t rs).used ≤ length w.regs
    → Finishes w (valuation w.unit w.bound w.plan w.held t rs).stmts (length rs) w.target.steps
    (IsValued (valuation w.unit w.bound w.plan w.held t rs).flag (valuation w.unit w.bound w.plan w.held t rs).value (term t w.now w.names))

-- predicates without quantifiers take no step: their answer is the same for all
abbrev pub TakesNoStep : Type 0
TakesNoStep = (p : Predicate) (s : State) (e : Environment) → IsQuiet p → (says : Option Bool) × ((n : ℕ) → pred p s e n ≡ said says n)
