-- Laws that the definitions meet: of integers and memory, of runs, and of the order of runs.
use Rattle.std.specs.Prelude.{◌≡◌, ℕ, suc, ◌+◌, ◌%◌, ◌^◌, ◌<◌, ◌≤◌, ◌≢◌, ℤ, pos, true, false, if◌then◌else◌, List, [], ◌∷◌, length, take, drop, Option, Some}
use Rattle.std.specs.Prelude.{None}
use Rattle.c_syntax.specs.declared.place.Place.{Place}
use Rattle.c_syntax.specs.declared.types.CInt.{CInt}
use Rattle.c_syntax.specs.declared.types.CInt.TheVariants.{I32}
use Rattle.c_syntax.specs.declared.expression.UnOp.{UnOp}
use Rattle.c_syntax.specs.declared.expression.UnOp.TheVariants.{Not}
use Rattle.c_syntax.specs.declared.expression.BinOp.{BinOp}
use Rattle.c_syntax.specs.Expressions.{Expression}
use Rattle.c_syntax.specs.Logic.{Annotation}
use Rattle.c_syntax.specs.Statements.{Statement, While, Do}
use Rattle.c_syntax.specs.Programs.{TranslationUnit}
use Rattle.c_syntax.specs.Layouts.{Scalar, IntegerType, PointerType, scalar_size}
use Rattle.c_model.specs.Integers.{fits, is_signed, value_bits, bits_of, value_of_bits, convert, result_in, operate_in, operate_one_in}
use Rattle.c_model.specs.Conversions.{is_shift, is_relation}
use Rattle.c_model.specs.Memory.{Pointer, Into, Value, Integer, Points, NoValue, Block, Store, block_at, load, save}
use Rattle.c_model.specs.State.{Input, State, Breaks, Continues, Returns, Leaves, Over, Stuck, Outcome, Normal, Stop, Evaluation, ◌>>=◌, ◌>>◌, done, step}
use Rattle.c_model.specs.Predicates.{invariants, variant}
use Rattle.c_model.specs.Meaning.{choose, after_body, turn_with, turns, condition_with, effect_with, call_of, tables_of, condition, exec, whole, start, ran}
use Rattle.c_model.specs.Meaning.{run}
use Rattle.c_model.specs.Meaning as source
use Rattle.c_model.specs.MonitoredRuns.{Ran}
use Rattle.c_model.specs.Reports.{Agrees, AgreesToFault}
use Rattle.c_model.specs.AcceptedPrograms.{IsProgram}
use Rattle.c_model.specs.Growth.{Grows}
use Rattle.c_model.specs.Steps.{steps_after}

-- ---- integers

-- a value of a type is the value of its bits (C99 6.2.6.2)
abbrev pub BitsHoldValues : Type 0
BitsHoldValues = (k : CInt) (z : ℤ) → fits k z ≡ true → value_of_bits k (bits_of k z) ≡ z

-- a result that the type has is the result (C99 6.5)
abbrev pub FittingResultsStand : Type 0
FittingResultsStand = (k : CInt) (z : ℤ) → fits k z ≡ true → result_in k z ≡ Some z

-- a result that a signed type does not have is undefined (C99 6.5 p5)
abbrev pub SignedResultsFit : Type 0
SignedResultsFit = (k : CInt) (z : ℤ) → is_signed k ≡ true → fits k z ≡ false → result_in k z ≡ None

-- an unsigned result wraps (C99 6.2.5 p9)
abbrev pub UnsignedResultsWrap : Type 0
UnsignedResultsWrap = (k : CInt) (n : ℕ) → is_signed k ≡ false → result_in k (pos n) ≡ Some (pos (n % 2 ^ value_bits k))

-- a defined result is a value of the type
abbrev pub ResultsFit : Type 0
ResultsFit = (k : CInt) (z w : ℤ) → result_in k z ≡ Some w → fits k w ≡ true

-- a converted number is a value of the type (C99 6.3.1.3)
abbrev pub ConversionsFit : Type 0
ConversionsFit = (k : CInt) (z : ℤ) → fits k (convert k z) ≡ true

-- a value of the type is converted to itself (C99 6.3.1.3 p1)
abbrev pub ConversionsKeepValues : Type 0
ConversionsKeepValues = (k : CInt) (z : ℤ) → fits k z ≡ true → convert k z ≡ z

-- the type of an operator's result on operands of a type: `int` for a relation and for `!` (C99 6.5.3.3 p5, 6.5.8 p6, 6.5.9 p3)
abbrev pub type_of_result : BinOp → CInt → CInt
type_of_result op k = if is_relation op then I32 else k

abbrev pub type_of_one : UnOp → CInt → CInt
type_of_one Not k = I32
type_of_one _ k = k

-- a defined result on values of a type is a value of the result's type; a count of bits may be any number
abbrev pub OperatorsFit : Type 0
OperatorsFit = (k : CInt) (op : BinOp) (x y w : ℤ) → fits k x ≡ true → (is_shift op ≡ false → fits k y ≡ true) → operate_in k op x y ≡ Some w
    → fits (type_of_result op k) w ≡ true

-- the same of operators of one operand
abbrev pub OperatorsOfOneFit : Type 0
OperatorsOfOneFit = (k : CInt) (op : UnOp) (x w : ℤ) → fits k x ≡ true → operate_one_in k op x ≡ Some w → fits (type_of_one op k) w ≡ true

-- ---- memory

-- each block has as many bytes as its size says
abbrev pub AreWhole : Store → Type 0
AreWhole [] = Unit {0}
AreWhole (b ∷ bs) = (length b.bytes ≡ b.size) × AreWhole bs

-- what is saved is loaded again (C99 6.5.16)
abbrev pub SavedValuesLoad : Type 0
SavedValuesLoad = (store saved : Store) (p : Pointer) (k : CInt) (z : ℤ) → AreWhole store → fits k z ≡ true
    → save store p (IntegerType k) (Integer z) ≡ Some saved → load saved p (IntegerType k) ≡ Some (Integer z)

-- a pointer that is saved is loaded again
abbrev pub SavedPointersLoad : Type 0
SavedPointersLoad = (store saved : Store) (p q : Pointer) → AreWhole store → save store p PointerType (Points q) ≡ Some saved
    → load saved p PointerType ≡ Some (Points q)

-- a save changes no other block
abbrev pub SavesKeepBlocks : Type 0
SavesKeepBlocks = (store saved : Store) (n offset : ℕ) (k : Scalar) (v : Value) → save store (Into n offset) k v ≡ Some saved → (m : ℕ) → m ≢ n
    → block_at saved m ≡ block_at store m

-- the same block but for so many bytes at the offset
pub record SameButAt (offset size : ℕ) (b written : Block) : Type 0 where
  pub kind : written.kind ≡ b.kind
  pub size_is : written.size ≡ b.size
  pub live : written.live ≡ b.live
  pub place : written.place ≡ b.place
  pub before : take offset written.bytes ≡ take offset b.bytes
  pub behind : drop (offset + size) written.bytes ≡ drop (offset + size) b.bytes

-- a save changes no byte of its block outside the object
abbrev pub SavesKeepBytes : Type 0
SavesKeepBytes = (store saved : Store) (n offset : ℕ) (k : Scalar) (v : Value) → AreWhole store → save store (Into n offset) k v ≡ Some saved
    → (b written : Block) → block_at store n ≡ Some b → block_at saved n ≡ Some written → SameButAt offset (scalar_size k) b written

-- a save leaves each block its number of bytes
abbrev pub SavesKeepWhole : Type 0
SavesKeepWhole = (store saved : Store) (p : Pointer) (k : Scalar) (v : Value) → AreWhole store → save store p k v ≡ Some saved → AreWhole saved

-- the store at an outcome
abbrev pub store_after : {A : Type 0} → Outcome A → Store
store_after (Normal a s) = s.store
store_after (Stop e s) = s.store

-- from every state the blocks stay whole
pub record KeepsWhole {A : Type 0} (m : Evaluation A) : Type 0 where
  pub at : (s : State) → AreWhole s.store → AreWhole (store_after (m s))

-- a statement leaves each block its number of bytes
abbrev pub StatementsKeepWhole : Type 0
StatementsKeepWhole = (p : TranslationUnit) (a : Statement) (n : ℕ) → KeepsWhole (exec p n a)

-- ---- runs

-- more turns and deeper calls than steps change nothing
abbrev pub FuelIsEnough : Type 0
FuelIsEnough = (p : TranslationUnit) (a : Statement) (m n : ℕ) (s : State) → s.steps < m → s.steps < n → exec p m a s ≡ exec p n a s

-- no step is gained
abbrev pub StepsFall : Type 0
StepsFall = (p : TranslationUnit) (a : Statement) (n : ℕ) (s : State) → s.steps < n → steps_after (exec p n a s) ≤ s.steps

-- a `while` is one turn and then the loop again (C99 6.8.5.1)
abbrev pub LoopsTurn : Type 0
LoopsTurn = (p : TranslationUnit) (at : Place) (annots : List Annotation) (e : Expression) (a : Statement) (n : ℕ) (s : State) → s.steps < n
    → exec p n (While at annots e a) s ≡ (invariants annots >> condition p n e >>=
    λ v. choose v (step >> turn_with (variant annots) (exec p n a) done (exec p n (While at annots e a))) done) s

-- a `do` is a step, its body and its condition, and then the loop again where that isn't 0 (C99 6.8.5.2)
abbrev pub DoLoopsTurn : Type 0
DoLoopsTurn = (p : TranslationUnit) (at : Place) (a : Statement) (e : Expression) (n : ℕ) (s : State) → s.steps < n
    → exec p n (Do at a e) s ≡ (step >> λ t. after_body (exec p n a t) (condition p n e >>= λ v. choose v (exec p n (Do at a e)) done)) s

-- the turns of a `for`
abbrev pub for_turns : TranslationUnit → ℕ → List Annotation → Option Expression → Option Expression → Statement → Evaluation (Unit {0})
for_turns p n annots e behind a =
    turns n (invariants annots >> condition_with (tables_of p) e (call_of p n))
    (turn_with (variant annots) (exec p n a) (effect_with (tables_of p) behind (call_of p n)))

-- they are one turn, what stands after the body, and then the turns again (C99 6.8.5.3)
abbrev pub ForLoopsTurn : Type 0
ForLoopsTurn = (p : TranslationUnit) (annots : List Annotation) (e behind : Option Expression) (a : Statement) (n : ℕ) (s : State) → s.steps < n
    → for_turns p n annots e behind a s ≡ (invariants annots >> condition_with (tables_of p) e (call_of p n) >>=
    λ v. choose v (step >> turn_with (variant annots) (exec p n a) (effect_with (tables_of p) behind (call_of p n)) (for_turns p n annots e behind a)) done) s

-- a run is the same with any number of turns above its steps
abbrev pub RunsNeedNoFuel : Type 0
RunsNeedNoFuel = (p : TranslationUnit) (input : Input) (n m : ℕ) → n < m → run p input n ≡ ran (whole p m (start p input n))

-- the output of a run only grows
abbrev pub OutputGrows : Type 0
OutputGrows = (p : TranslationUnit) (n : ℕ) → Grows (whole p n)

-- a run leaves no more steps than it had
abbrev pub RunsSpendSteps : Type 0
RunsSpendSteps = (p : TranslationUnit) (input : Input) (n : ℕ) → (run p input n).left ≤ n

-- what a run comes to: the closing brace of `main`, a number that `main` returns, or an end before that
abbrev pub EndsProperly : Outcome (Unit {0}) → Type 0
EndsProperly (Normal u s) = Unit {0}
EndsProperly (Stop (Leaves Breaks) s) = ⊥
EndsProperly (Stop (Leaves Continues) s) = ⊥
EndsProperly (Stop (Leaves (Returns None)) s) = ⊥
EndsProperly (Stop (Leaves (Returns (Some NoValue))) s) = ⊥
EndsProperly (Stop (Leaves (Returns (Some (Points p)))) s) = ⊥
EndsProperly (Stop (Leaves (Returns (Some (Integer z)))) s) = Unit {0}
EndsProperly (Stop (Over e) s) = Unit {0}
EndsProperly (Stop Stuck s) = ⊥

-- No run of the program comes to what typing rules out: a jump outside loops, a definition without a body, an operand of a type that its
-- operator doesn't take, as of `*` one that is no address, or a `main` that is missing or returns no number
-- (C99 6.8.6.2, 6.8.6.3, 6.9.1, 6.5.3.2, 6.5.16, 5.1.2.2.1, 5.1.2.2.3).
abbrev pub NeverStuck : TranslationUnit → Type 0
NeverStuck p = (input : Input) (n : ℕ) → EndsProperly (whole p (suc n) (start p input n))

-- so it is with each program of an accepted text
abbrev pub ProgramsNeverStuck : Type 0
ProgramsNeverStuck = (p : TranslationUnit) → IsProgram p → NeverStuck p

-- ---- agreement

-- each run of a monitored program agrees with itself
abbrev pub AgreementIsReflexive : Type 0
AgreementIsReflexive = (a : Ran) → AgreesToFault a a

-- what agrees with a run in two steps agrees with it
abbrev pub AgreementIsTransitive : Type 0
AgreementIsTransitive = (a b c : Ran) → AgreesToFault a b → AgreesToFault b c → AgreesToFault a c

-- and so it is if that is the source's run
abbrev pub AgreementGoesOn : Type 0
AgreementGoesOn = (a : source.Ran) (b c : Ran) → Agrees a b → AgreesToFault b c → Agrees a c
