-- The terms that a function keeps at its labels (ACSL 2.4.3): the code at a passage of a label, and what registers hold of the marks then.
use Rattle.std.specs.Prelude.{◌≡◌, ℕ, suc, ◌+◌, ◌≤◌, pos, true, cond, List, [], ◌∷◌, ◌++◌, length, Option, Some}
use Rattle.c_syntax.specs.Programs.{TranslationUnit}
use Rattle.c_model.specs.Memory.{Into, Value, Points}
use Rattle.c_model.specs.State.{State, Mark, same_label, find}
use Rattle.c_model.specs.TermRanges.{TermRanged}
use Rattle.mon_syntax.specs.declared.tree.MonType.{MonType}
use Rattle.mon_syntax.specs.declared.tree.MonType.TheVariants.{I32, I128}
use Rattle.mon_syntax.specs.BlockMemory.{over_blocks}
use Rattle.mon_syntax.specs.Meaning.{Done, Next, eval}
use Rattle.mon_syntax.specs.Registers.{Bindings}
use Rattle.mon_syntax.specs.Trees.{Register, Constant, Set, MonStatements, NoStatement, Then}
use Rattle.c_effects.specs.Expressions.{before, set, pointer_to}
use Rattle.c_simulation.specs.Keeping.{Kept, GiveTerms, registers_of}
use Rattle.c_simulation.specs.SameRegisters.{Stays}
use Rattle.annot_simulation.specs.Code.{Side, OfNumber, OfPointer, side_code}
use Rattle.annot_simulation.specs.Does.{IsSound, Setting, runs, RangesHold, SideFound}
use Rattle.annot_simulation.specs.Pieces.{Code, guarded}
use Rattle.annot_simulation.specs.Pointers.{PointerCode}

-- ---- the plan of a function

-- its registers stand in order between these numbers
abbrev pub Ascend : ℕ → List Kept → ℕ → Type 0
Ascend n [] m = n ≤ m
Ascend n (k ∷ ks) m = (n ≤ k.register) × Ascend (k.register + registers_of k.term) ks m

-- ---- the code at a passage of a label

-- no value
abbrev pub keep_none : ℕ → MonStatements
keep_none r = set r (Constant I32 (pos 0))

-- the value where there is one, and then the flag
abbrev pub keep_number : Code → ℕ → MonStatements
keep_number c r = before c.stmts (guarded c.flag (Then (Set (suc r) c.value) (set r (Constant I32 (pos 1)))) (keep_none r))

-- the offset goes by a register of its own, so that both parts are evaluated before one of them is kept
abbrev pub keep_pointer : PointerCode → ℕ → MonStatements
keep_pointer c r =
    let q = length c.used in
    before c.stmts
    (guarded c.flag
    (Then (Set q c.offset) (Then (Set (suc r) c.base) (Then (Set (suc (suc r)) (Register q)) (set r (Constant I32 (pos 1)))))) (keep_none r))

abbrev pub keep : Side → ℕ → MonStatements
keep (OfNumber c) r = keep_number c r
keep (OfPointer c) r = keep_pointer c r

-- the types of all registers that are taken after it
abbrev pub behind_keep : Side → List MonType
behind_keep (OfNumber c) = c.used
behind_keep (OfPointer c) = c.used ++ I128 ∷ []

-- no name and no label stands in a term that is kept
abbrev pub entry_side : TranslationUnit → Bindings → List MonType → Kept → Side
entry_side p bound rs k = side_code p bound [] k.term [] [] rs

-- each term of the label is evaluated and kept
abbrev pub snapshot : TranslationUnit → Bindings → Option ℕ → List MonType → List Kept → MonStatements
snapshot p bound l rs [] = NoStatement
snapshot p bound l rs (k ∷ ks) =
    let x = entry_side p bound rs k in
    cond (same_label k.label l) (before (keep x k.register) (snapshot p bound l (behind_keep x) ks)) (snapshot p bound l rs ks)

-- the types of all registers that are taken after it
abbrev pub behind_snapshot : TranslationUnit → Bindings → Option ℕ → List MonType → List Kept → List MonType
behind_snapshot p bound l rs [] = rs
behind_snapshot p bound l rs (k ∷ ks) =
    cond (same_label k.label l) (behind_snapshot p bound l (behind_keep (entry_side p bound rs k)) ks) (behind_snapshot p bound l rs ks)

-- ---- where it runs

-- the target has the source's blocks, and points to those of the variables in sight, whatever the registers from n on and below m hold
pub record StandsApart (n m : ℕ) (w : Setting) : Type 0 where
  pub store_is : w.target.mem.store ≡ w.now.store
  pub sound : IsSound w.now.store
  pub points : (x number : ℕ) → find x w.now.scope ≡ Some number → (later : List Value) → Stays n m w.low w.regs later
      → eval over_blocks w.globals (pointer_to w.unit w.bound x) later w.target.mem ≡ Some (Points (Into number 0))

-- what is known of the terms that are kept at a label
abbrev pub AreKept : Setting → Option ℕ → List Kept → Type 0
AreKept w l [] = Unit {0}
AreKept w l (k ∷ ks) = (same_label k.label l ≡ true → TermRanged [] k.term × SideFound [] w.now.scope [] k.term) × AreKept w l ks

-- ---- the law

abbrev pub marked : Option ℕ → State → Mark
marked l s = record { label = l; scope = s.scope; store = s.store }

-- code comes to its end without a step, leaves all registers that were taken before but those from a number to m, and leaves this in registers
pub record Passed (w : Setting) (m from : ℕ) (a : MonStatements) (rs : List MonType) (regs : List Value) (K : List Value → Type 0) : Type 0 where
  pub after : List Value
  pub is : runs w a regs ≡ Done (Next after) w.target []
  pub stays : Stays from m (length rs) regs after
  pub keeps : K after

-- after a passage of a label the registers of the plan hold what the new marks say
abbrev pub SnapshotKeeps : Type 0
SnapshotKeeps =
    (w : Setting) (n m : ℕ) → StandsApart n m w → RangesHold [] w.now [] → w.target.steps ≤ w.turns → (l : Option ℕ) (ks : List Kept) → AreKept w l ks
    → Ascend n ks m
    → (marks : List Mark) (rs : List MonType) → w.low ≤ length rs → m ≤ length rs → length (behind_snapshot w.unit w.bound l rs ks) ≤ length w.regs
    → GiveTerms ks marks w.regs → Passed w m n (snapshot w.unit w.bound l rs ks) rs w.regs (GiveTerms ks (marked l w.now ∷ marks))
