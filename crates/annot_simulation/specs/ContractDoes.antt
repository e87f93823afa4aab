-- What the code of checks does, over the blocks of the source's store: it goes on with the flags of the behaviors that hold then, or stops where a check does.
use Rattle.std.specs.Prelude.{◌≡◌, ◌⊎◌, ℕ, suc, pos, ◌+◌, ◌<◌, ◌≤◌, Bool, true, cond, nat_eq, List, [], ◌∷◌, length, Option, Some, None, slice_get}
use Rattle.c_syntax.specs.declared.annotation.Range.{Range}
use Rattle.c_syntax.specs.declared.place.Place.{Place}
use Rattle.c_syntax.specs.Logic as logic
use Rattle.c_syntax.specs.Logic.{Predicate, ClauseBody, Raw, Holds, Behaviors, Annotation}
use Rattle.c_syntax.specs.Programs.{NamedBehavior}
use Rattle.c_model.specs.ContractChecks.{Check, is_assumes, all_checked}
use Rattle.c_model.specs.Integers.{truth}
use Rattle.c_model.specs.Logic.{look, meant, of_value}
use Rattle.c_model.specs.Memory.{Value, Integer}
use Rattle.c_model.specs.MonitoredRuns.{machine_end}
use Rattle.c_model.specs.MonitoredRuns as machine
use Rattle.c_model.specs.State.{State, Final, Over, Outcome, Normal, Stop}
use Rattle.c_model.specs.Ranges.{LiesIn}
use Rattle.c_model.specs.TermRanges.{range_seen, PredicateRanged}
use Rattle.mon_syntax.specs.declared.tree.MonType.{MonType}
use Rattle.mon_syntax.specs.Meaning.{Done, Stops, Next}
use Rattle.mon_syntax.specs.declared.tree.MonType.TheVariants.{Ptr}
use Rattle.mon_syntax.specs.Checking.{same_type}
use Rattle.c_simulation.specs.Keeping.{Kept, registers_of}
use Rattle.c_simulation.specs.SameRegisters.{Same, Stays}
use Rattle.annot_simulation.specs.ContractCode.{named_flags, checks_code, behind_checks}
use Rattle.annot_simulation.specs.Does.{Did, Setting, HasKept, IsSorted, runs, with_steps, RangesHold, PredicateFound}
use Rattle.annot_simulation.specs.Held.{Held, held_by, kept_at, sorts_held}
use Rattle.annot_simulation.specs.Snapshots.{StandsApart}

-- ---- flags of behaviors

-- the registers from h on hold which behaviors hold
abbrev pub Flagged : ℕ → List Bool → List Value → Type 0
Flagged h [] regs = Unit {0}
Flagged h (b ∷ hs) regs = (slice_get regs h ≡ Some (Integer (truth b))) × Flagged (suc h) hs regs

-- ---- what checks come to

-- the source with so many steps left
abbrev pub left_with : ℕ → State → State
left_with k s = record s { steps = k }

-- where source and target have so many steps left, from these registers
abbrev pub from_here : ℕ → Setting → List Value → Setting
from_here i w regs = record w { now = left_with i w.now; target = record w.target { steps = i }; regs = regs }

module _ (w : Setting) (i : ℕ) where
  -- a demand is met, or broken, or no step is left for it
  pub data Demanded (r : Outcome (Unit {0})) (q : Did) (rs : List MonType) (regs : List Value) : Type 0 where
    Met : (k : ℕ) (after : List Value) → k ≤ i → Same (length rs) regs after → r ≡ Normal tt (left_with k w.now)
        → q ≡ Done (Next after) (record w.target { steps = k }) [] → Demanded r q rs regs
    Failed : (e : Final) (z : machine.Final) (k : ℕ) → machine_end e ≡ Some z → r ≡ Stop (Over e) (left_with k w.now) → q ≡ Stops z k []
        → Demanded r q rs regs

  -- checks go on with these behaviors, or one stops the run; of the registers that were taken before only the flags change
  pub data Checked (h : ℕ) (hs : List Bool) (r : Outcome (List Bool)) (q : Did) (rs : List MonType) (regs : List Value) : Type 0 where
    Goes : (k : ℕ) (held : List Bool) (after : List Value) → k ≤ i → length held ≡ length hs → Stays h (h + length hs) (length rs) regs after
        → Flagged h held after
        → r ≡ Normal held (left_with k w.now) → q ≡ Done (Next after) (record w.target { steps = k }) [] → Checked h hs r q rs regs
    Breaks : (e : Final) (z : machine.Final) (k : ℕ) → machine_end e ≡ Some z → r ≡ Stop (Over e) (left_with k w.now) → q ≡ Stops z k []
        → Checked h hs r q rs regs

-- ---- where checks run

-- a name has the value that its register holds, whatever steps are left
pub record IsHeldApart (n m : ℕ) (w : Setting) (x : ℕ) (h : Held) : Type 0 where
  pub value : Value
  pub sorted : IsSorted (same_type h.kind Ptr) value
  pub starts : same_type h.kind Ptr ≡ true → (r : Range) → range_seen x w.seen ≡ Some r → LiesIn r (pos 0)
  pub is : (k : ℕ) → meant (left_with k w.now) (look x w.names) ≡ of_value (Some value)
  pub holds : (later : List Value) → Stays n m w.low w.regs later → slice_get later h.register ≡ Some value

-- what checks need, whatever the registers from n on and below m hold
pub record StandsFor (n m : ℕ) (w : Setting) : Type 0 where
  pub apart : StandsApart n m w
  pub held : (x : ℕ) (h : Held) → held_by x w.held ≡ Some h → IsHeldApart n m w x h
  pub keeps : (at : ℕ) (k : Kept) → kept_at at w.plan ≡ Some k → HasKept w k × ((k.register + registers_of k.term ≤ n) ⊎ (m ≤ k.register))
  pub ranges : (k : ℕ) → RangesHold w.seen (left_with k w.now) w.names

-- ---- what checks are made of

-- a behavior has the name
abbrev pub IsNamed : List NamedBehavior → ℕ → Type 0
IsNamed [] x = ⊥
IsNamed (b ∷ bs) x = cond (nat_eq x b.name) (Unit {0}) (IsNamed bs x)

abbrev pub AreNamed : List NamedBehavior → List (Place × ℕ) → Type 0
AreNamed bs [] = Unit {0}
AreNamed bs (n ∷ names) = IsNamed bs n.1 × AreNamed bs names

module _ (w : Setting) (bs : List NamedBehavior) (h : ℕ) where
  -- a clause that is typed and ranged, or that names behaviors there are
  abbrev pub ClauseGood : ClauseBody → Type 0
  ClauseGood (Raw f) = ⊥
  ClauseGood (Holds q) = PredicateRanged w.seen q × PredicateFound w.plan w.now.scope (sorts_held w.held) q
  ClauseGood (logic.Value t) = ⊥
  ClauseGood (Behaviors names) = AreNamed bs names × (length (named_flags names h bs) < 2147483647)

  -- an `assumes` is a predicate, which stands where no name is known; and a behavior is there
  abbrev pub IsGood : ℕ → Annotation → Option ℕ → Type 0
  IsGood count a None = ClauseGood a.body
  IsGood count a (Some k) = ClauseGood a.body × (k < count) × (is_assumes a.kind ≡ true → (q : Predicate) × (a.body ≡ Holds q) × (w.names ≡ []))

  abbrev pub AreGood : ℕ → List Check → Type 0
  AreGood count [] = Unit {0}
  AreGood count (c ∷ cs) = IsGood count c.annotation c.behavior × AreGood count cs

-- ---- the law

-- the code of checks does what they do, in their order, from so many steps on; the flags stand from h on, and the registers from n to m may change meanwhile
abbrev pub ChecksFollow : Type 0
ChecksFollow =
    (w : Setting) (n m : ℕ) → StandsFor n m w → (bs : List NamedBehavior) (h : ℕ) → n ≤ h → (cs : List Check) (i : ℕ) → i ≤ w.turns
    → (hs : List Bool) → length hs ≡ length bs → AreGood w bs h (length hs) cs → (h + length hs) ≤ m
    → (rs : List MonType) → w.low ≤ length rs → (h + length hs) ≤ length rs
    → (regs : List Value) → length (behind_checks w.unit w.bound w.plan w.held bs h None rs cs) ≤ length regs → Flagged h hs regs
    → Stays n m w.low w.regs regs
    → Checked w i h hs (all_checked bs w.names cs hs (left_with i w.now))
    (runs (with_steps i w) (checks_code w.unit w.bound w.plan w.held bs h None rs cs) regs) rs regs
