-- What registers keep of the labels of annotations that a call has passed (ACSL 2.4.3): the values that terms had there. A plan says which terms these are, and
-- in which registers they stand.
use Rattle.std.specs.Prelude.{◌≡◌, ℕ, suc, ◌+◌, ◌<◌, ◌≤◌, ℤ, Bool, true, false, List, [], ◌∷◌, Option, Some, None, slice_get}
use Rattle.c_syntax.specs.declared.annotation.Range.{Range}
use Rattle.c_syntax.specs.Logic.{LogicTerm, range_of}
use Rattle.c_model.specs.Integers.{truth}
use Rattle.c_model.specs.Logic.{TermValue, Mathematical, Addressed, at_mark, valued_at}
use Rattle.c_model.specs.Memory.{Pointer, Value, Integer, Points}
use Rattle.c_model.specs.MemoryQuestions.{Address, address_of, address_farther}
use Rattle.c_model.specs.PredicateTyping.{ValueSort, AnInteger, APointer, NoValue, sort_of_term}
use Rattle.c_model.specs.Predicates.{term}
use Rattle.c_model.specs.Ranges.{LiesIn}
use Rattle.c_model.specs.State.{Mark, mark_of}
use Rattle.mon_syntax.specs.BlockMemory.{is_some}
use Rattle.mem_preds.specs.Reads.{IsSmall}

-- ---- the terms that are kept

-- a term that is valued where a label is passed, or at the beginning of the call, where no label is; its flag stands in the register, and behind that its
-- value: a number in the next one, or a pointer in the next two, which are a base and an offset from it in bytes
pub record Kept : Type 0 where
  pub label : Option ℕ
  pub term : LogicTerm
  pub register : ℕ

-- a pointer, and no number
abbrev pub is_pointer_sort : ValueSort → Bool
is_pointer_sort AnInteger = false
is_pointer_sort (APointer t) = true
is_pointer_sort NoValue = false

abbrev pub is_pointer_term : LogicTerm → Bool
is_pointer_term t = is_pointer_sort (sort_of_term t)

-- how many registers a term takes
abbrev pub registers_by : Bool → ℕ
registers_by true = 3
registers_by false = 2

abbrev pub registers_of : LogicTerm → ℕ
registers_of t = registers_by (is_pointer_term t)

-- ---- what registers have of them

-- the value of a kept term at the last passage of its label, where that was passed and the term had a value there
abbrev pub kept_value : Kept → List Mark → Option TermValue
kept_value k marks = valued_at (at_mark (mark_of k.label marks)) (λ s. term k.term s [])

-- a base and an offset from it are an address; the offset lies in a range
pub record GivesAddress (x : Address) (within : Range) (r : ℕ) (regs : List Value) : Type 0 where
  pub pointer : Pointer
  pub distance : ℤ
  pub base_is : slice_get regs r ≡ Some (Points pointer)
  pub offset_is : slice_get regs (suc r) ≡ Some (Integer distance)
  pub is : address_farther (address_of pointer) distance ≡ x
  pub small : IsSmall pointer
  pub lies : LiesIn within distance

-- a flag, and next to it a value of the term where it is 1
pub record GivesTerm (t : LogicTerm) (o : Option TermValue) (r : ℕ) (regs : List Value) : Type 0 where
  pub flag_is : slice_get regs r ≡ Some (Integer (truth (is_some o)))
  pub value_is : (z : ℤ) → o ≡ Some (Mathematical z) → slice_get regs (suc r) ≡ Some (Integer z)
  pub pointer_is : is_pointer_term t ≡ true → (x : Address) → o ≡ Some (Addressed x) → GivesAddress x (range_of t) (suc r) regs

-- registers hold what the marks say of each term of the plan
abbrev pub GiveTerms : List Kept → List Mark → List Value → Type 0
GiveTerms [] marks regs = Unit {0}
GiveTerms (k ∷ ks) marks regs = GivesTerm k.term (kept_value k marks) k.register regs × GiveTerms ks marks regs

-- all of them stand below a number
abbrev pub StandBelow : ℕ → List Kept → Type 0
StandBelow n [] = Unit {0}
StandBelow n (k ∷ ks) = (k.register + registers_of k.term ≤ n) × StandBelow n ks

-- the register of what a call gives, if there is one, stands behind those of the plan, from one number on and below another
abbrev pub StandsBehind : ℕ → ℕ → List Kept → Option ℕ → Type 0
StandsBehind n m ks None = Unit {0}
StandsBehind n m ks (Some r) = StandBelow r ks × (n ≤ r) × (r < m)
