-- Ours: how two words of 64 bits for each unit keep the record of its block and the marks of its bytes.
use Rattle.std.specs.Prelude.{◌≡◌, ℕ, zero, suc, ◌+◌, ◌-◌, ◌*◌, ◌/◌, ◌%◌, ◌^◌, ◌<◌, ◌≤◌, ◌⊎◌, List, length}
use Rattle.std.specs.Prelude.{get_or, map, Option, Some, None, nat_eq, nat_lt, if◌then◌else◌, Bool, true, ◌&&◌}
use Rattle.std.specs.Int.{bit_at}
use Rattle.std.specs.List.{range_with_len}
use Rattle.c_syntax.specs.declared.types.BlockKind.{BlockKind}
use Rattle.c_syntax.specs.declared.types.BlockKind.TheVariants.{Global, Literal, Stack, Heap}
use Rattle.shadow_segments.specs.declared.BlockNote.{BlockNote}
use Rattle.shadow_segments.specs.declared.words.Pair.{Pair}
use Rattle.shadow_segments.specs.Shadow.{longest_segment, Mark, Unwritten, NumberByte, PieceByte, LooseByte, Shadowed, loosened}

-- a list by its entries
unfoldable pub list_by : {A : Type 0} → (ℕ → A) → ℕ → List A
list_by f n = map f (range_with_len 0 n)

-- ---- words

-- by unit: the number of its block above the marks of its bytes; and the block's place, kind and length
pub record UnitWords : Type 0 where
  pub states : List ℕ
  pub places : List ℕ

abbrev pub nothing : Pair
nothing = record { state = 0; place = 0 }

-- a pair without its number
abbrev pub low_pair : Pair → Pair
low_pair p = record { state = p.state % 2 ^ 32; place = p.place }

-- the words of a unit: those of a run, which goes from one unit up to another, or else those that are written for it
abbrev pub pair_at : List Pair → ℕ → ℕ → Pair → ℕ → Pair
pair_at written from to run u = if nat_lt u from then get_or written u nothing else if nat_lt u to then run else get_or written u nothing

-- how many units are written lies between where the run begins and how many there are, for which there is room; and the run lies inside
abbrev pub HasRoom : (from to written len capacity : ℕ) → Type 0
HasRoom from to written len capacity = (from ≤ written) × (written ≤ len) × (len ≤ capacity) × (to ≤ len) × (16 * len ≤ longest_segment)

-- the words of so many units
abbrev pub words_by : ℕ → (ℕ → Pair) → UnitWords
words_by len pairs = record { states = list_by (λ u. (pairs u).state) len; places = list_by (λ u. (pairs u).place) len }

-- ---- the record of a unit

abbrev pub kind_of : ℕ → BlockKind
kind_of zero = Global
kind_of (suc zero) = Literal
kind_of (suc (suc zero)) = Stack
kind_of _ = Heap

abbrev pub code_of : BlockKind → ℕ
code_of Global = 0
code_of Literal = 1
code_of Stack = 2
code_of Heap = 3

-- a base is a multiple of 16, so the kind stands in its low bits
abbrev pub note_by : ℕ → ℕ → BlockNote
note_by number place = record {
  base = place / 2 ^ 32 / 16 * 16;
  length = place % 2 ^ 32;
  number = number;
  kind = kind_of (place / 2 ^ 32 % 16);
}

-- a unit without a record has the number 0
abbrev pub note_of : ℕ → ℕ → Option BlockNote
note_of state place = if nat_eq (state / 2 ^ 32) 0 then None else Some (note_by (state / 2 ^ 32) place)

-- ---- the marks of a unit

-- a byte has two bits: the first if it is of a number or a piece, the second if it is a piece or a loose one
abbrev pub mark_by : ℕ → ℕ → Mark
mark_by zero zero = Unwritten
mark_by zero (suc p) = LooseByte
mark_by (suc w) zero = NumberByte
mark_by (suc w) (suc p) = PieceByte

abbrev pub mark_at : ℕ → ℕ → Mark
mark_at state i = mark_by (bit_at state i) (bit_at state (16 + i))

-- the bits from `from` up to `to`
abbrev pub ones : ℕ → ℕ → ℕ
ones from to = 2 ^ to - 2 ^ from

-- so many marks of a word pass a test
abbrev pub all_from : (Mark → Bool) → ℕ → ℕ → ℕ → Bool
all_from test state from zero = true
all_from test state from (suc k) = test (mark_at state from) && all_from test state (suc from) k

-- a word in which the bytes from `from` up to `to` have this mark, and all else is as before
pub record HasMarks (old new from to : ℕ) (x : Mark) : Type 0 where
  pub number : new / 2 ^ 32 ≡ old / 2 ^ 32
  pub here : (i : ℕ) → from ≤ i → i < to → mark_at new i ≡ x
  pub others : (i : ℕ) → i < 16 → (i < from) ⊎ (to ≤ i) → mark_at new i ≡ mark_at old i

-- the bits of k marks, as a copy of n bytes takes them
pub record HasTaken (source from n k written pointers : ℕ) : Type 0 where
  pub marks : (i : ℕ) → i < k → mark_by (bit_at written i) (bit_at pointers i) ≡ loosened n (mark_at source (from + i))
  pub none : (i : ℕ) → k ≤ i → (bit_at written i ≡ 0) × (bit_at pointers i ≡ 0)

-- a word to which k marks of another are copied, of a copy of n bytes
pub record HasCopied (source from old new to n k : ℕ) : Type 0 where
  pub number : new / 2 ^ 32 ≡ old / 2 ^ 32
  pub here : (i : ℕ) → i < k → mark_at new (to + i) ≡ loosened n (mark_at source (from + i))
  pub others : (i : ℕ) → i < 16 → (i < to) ⊎ (to + k ≤ i) → mark_at new i ≡ mark_at old i

-- ---- what the words of a segment keep

abbrev pub notes_in : UnitWords → List (Option BlockNote)
notes_in p = list_by (λ u. note_of (get_or p.states u 0) (get_or p.places u 0)) (length p.states)

abbrev pub marks_in : UnitWords → List Mark
marks_in p = list_by (λ i. mark_at (get_or p.states (i / 16) 0) (i % 16)) (16 * length p.states)

abbrev pub shadow_in : UnitWords → Shadowed
shadow_in p = record { notes = notes_in p; marks = marks_in p }
