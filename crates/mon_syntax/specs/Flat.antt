-- Ours: flat memory, and what the runtime's calls do to it. A segment of the machine's memory is a region: its bytes with their shadow.
use Rattle.std.specs.Prelude.{ℕ, zero, suc, ◌+◌, ◌-◌, ◌*◌, ◌/◌, ◌%◌, ◌^◌, List, [], length, get_or, Option, Some, None}
use Rattle.std.specs.Prelude.{nat_eq, nat_le, nat_lt, if◌then◌else◌, Bool, true, false, ◌&&◌, not, ℤ}
use Rattle.c_syntax.specs.declared.types.BlockKind.{BlockKind}
use Rattle.c_syntax.specs.declared.types.BlockKind.TheVariants as kind
use Rattle.c_syntax.specs.declared.types.Segment.TheVariants as segment
use Rattle.c_model.specs.Memory.{rounded, greatest_number, first_passing}
use Rattle.shadow_segments.specs.declared.BlockNote.{BlockNote}
use Rattle.shadow_segments.specs.Shadow.{units}
use Rattle.mon_syntax.specs.declared.spot.RegionName.{RegionName}
use Rattle.mon_syntax.specs.declared.spot.RegionName.TheVariants.{Globals, Stack, Heap}
use Rattle.mon_syntax.specs.declared.spot.Spot.{Spot}
use Rattle.mon_syntax.specs.declared.spot.Spot.TheVariants.{Nowhere, In}
use Rattle.mon_syntax.specs.Memory.{Reply, Gives, IsFull, Faults}
use Rattle.mon_syntax.specs.Strings.{string_from}
use Rattle.mon_syntax.specs.Regions.{Region, empty_region, region_load, region_store, region_copy, filled_with, with_birth, with_death}
use Rattle.mon_syntax.specs.Questions.{live_at, plus, minus, region_valid, region_valid_read, region_initialized, region_number}
use Rattle.mon_syntax.specs.Questions.{region_pointer, region_inside, region_offset}

-- ---- addresses

-- where the regions begin
abbrev pub globals_start : ℕ
globals_start = 268435456

abbrev pub stack_start : ℕ
stack_start = 1073741824

abbrev pub heap_start : ℕ
heap_start = 2147483648

abbrev pub start_of : RegionName → ℕ
start_of Globals = globals_start
start_of Stack = stack_start
start_of Heap = heap_start

abbrev pub spot_at : ℕ → Spot
spot_at address =
    if nat_lt address globals_start then Nowhere
    else (if nat_lt address stack_start then In Globals (address - globals_start)
    else (if nat_lt address heap_start then In Stack (address - stack_start) else In Heap (address - heap_start)))

-- a pointer is the number of a block above an address of 32 bits
abbrev pub number_in : ℕ → ℕ
number_in p = p / 2 ^ 32

abbrev pub spot_of : ℕ → Spot
spot_of p = spot_at (p % 2 ^ 32)

abbrev pub pointer_to : ℕ → RegionName → ℕ → ℕ
pointer_to number name at = number * 2 ^ 32 + (start_of name + at)

-- ---- the memory

pub record Flat : Type 0 where
  -- active calls, and how many there may be
  pub frames : ℕ
  pub most_frames : ℕ
  -- numbers of blocks that were used
  pub births : ℕ
  -- what globals and literals take of their region, and live stack blocks of theirs, in bytes
  pub placed : ℕ
  pub top : ℕ
  pub globals : Region
  pub stack : Region
  pub heap : Region

-- nothing was born
abbrev pub flat_empty : ℕ → ℕ → ℕ → ℕ → Flat
flat_empty globals stack heap frames = record {
  frames = 0;
  most_frames = frames;
  births = 0;
  placed = 0;
  top = 0;
  globals = empty_region globals;
  stack = empty_region stack;
  heap = empty_region heap;
}

abbrev pub region : Flat → RegionName → Region
region f Globals = f.globals
region f Stack = f.stack
region f Heap = f.heap

abbrev pub with_region : Flat → RegionName → Region → Flat
with_region f Globals r = record f { globals = r }
with_region f Stack r = record f { stack = r }
with_region f Heap r = record f { heap = r }

abbrev pub with_region_if : Flat → RegionName → Option Region → Option Flat
with_region_if f name None = None
with_region_if f name (Some r) = Some (with_region f name r)

-- what a call of the runtime answers
abbrev pub Answer : Type 0 → Type 0
Answer A = Reply Flat A

-- ---- loads and stores: they fault if the bytes aren't aligned or aren't inside one region, and never else

abbrev pub load_spot : Flat → Spot → ℕ → Option ℕ
load_spot f Nowhere width = None
load_spot f (In name at) width = region_load (region f name) at width

abbrev pub flat_load : Flat → ℕ → ℕ → Option ℕ
flat_load f p width = load_spot f (spot_of p) width

abbrev pub store_spot : Flat → Spot → ℕ → ℕ → Bool → Option Flat
store_spot f Nowhere width value pointer = None
store_spot f (In name at) width value pointer = with_region_if f name (region_store (region f name) at width value pointer)

abbrev pub flat_store : Flat → ℕ → ℕ → ℕ → Bool → Option Flat
flat_store f p width value pointer = store_spot f (spot_of p) width value pointer

-- `__e_acsl_copy(P, Q, A)`
abbrev pub copy_spots : Flat → Spot → Spot → ℕ → Option Flat
copy_spots f Nowhere from width = None
copy_spots f (In name at) Nowhere width = None
copy_spots f (In name at) (In other from) width = with_region_if f name (region_copy (region f name) at (region f other) from width)

abbrev pub flat_copy : Flat → ℕ → ℕ → ℕ → Option Flat
flat_copy f p q width = copy_spots f (spot_of p) (spot_of q) width

-- ---- calls

abbrev pub flat_enter : Flat → Answer ℕ
flat_enter f = if nat_lt f.frames f.most_frames then Gives 0 (record f { frames = f.frames + 1 }) else IsFull segment.Frames

abbrev pub flat_leave : Flat → Flat
flat_leave f = record f { frames = f.frames - 1 }

-- ---- births and deaths

abbrev pub has_no_number : Flat → Bool
has_no_number f = nat_le greatest_number f.births

abbrev pub note_for : Flat → BlockKind → ℕ → ℕ → BlockNote
note_for f k at n = record { base = at; length = n; number = f.births + 1; kind = k }

abbrev pub born : Flat → RegionName → BlockKind → ℕ → ℕ → Flat
born f name k at n = record (with_region f name (with_birth (region f name) (note_for f k at n))) { births = f.births + 1 }

abbrev pub dead : Flat → RegionName → BlockNote → Flat
dead f name n = with_region f name (with_death (region f name) n)

-- `__e_acsl_store_block(n)`: a number is asked for first, and then a place
abbrev pub flat_store_block : Flat → ℕ → Answer ℕ
flat_store_block f n =
    if has_no_number f then IsFull segment.Numbers
    else (if nat_lt (length f.stack.bytes) (f.top + rounded n) then IsFull segment.Stack
    else Gives (pointer_to (f.births + 1) Stack f.top) (record (born f Stack kind.Stack f.top n) { top = f.top + rounded n }))

-- `__e_acsl_delete_block(P)`: it faults unless P is the start of the youngest live stack block
abbrev pub delete_by : Flat → ℕ → Option BlockNote → Option Flat
delete_by f at None = None
delete_by f at (Some n) =
    if nat_eq n.base at && nat_eq (n.base + rounded n.length) f.top then Some (record (dead f Stack n) { top = n.base }) else None

abbrev pub delete_spot : Flat → ℕ → Spot → Option Flat
delete_spot f number Nowhere = None
delete_spot f number (In Globals at) = None
delete_spot f number (In Stack at) = delete_by f at (live_at f.stack at number)
delete_spot f number (In Heap at) = None

abbrev pub flat_delete_block : Flat → ℕ → Option Flat
flat_delete_block f p = delete_spot f (number_in p) (spot_of p)

-- a global or a literal is born after those before it, with these first bytes and then zeros, all written
abbrev pub flat_begin : Flat → BlockKind → ℕ → List ℕ → Flat
flat_begin f k n bytes =
    let b = born f Globals k f.placed n in
    record b { placed = f.placed + rounded n; globals = filled_with b.globals f.placed n bytes }

-- ---- the least place on the heap, in units

abbrev pub is_none : Option BlockNote → Bool
is_none None = true
is_none (Some n) = false

abbrev pub are_free : List (Option BlockNote) → ℕ → ℕ → Bool
are_free ns u zero = true
are_free ns u (suc c) = is_none (get_or ns u None) && are_free ns (suc u) c

abbrev pub heap_place : List (Option BlockNote) → ℕ → Option ℕ
heap_place ns c = first_passing (λ u. nat_le (u + c) (length ns) && are_free ns u c) (suc (length ns)) 0

-- ---- the heap

abbrev pub heap_birth : Flat → ℕ → Option ℕ → Answer ℕ
heap_birth f n None = IsFull segment.Heap
heap_birth f n (Some u) = Gives (pointer_to (f.births + 1) Heap (16 * u)) (born f Heap kind.Heap (16 * u) n)

-- a number is asked for first, and then a place
abbrev pub heap_block : Flat → ℕ → Answer ℕ
heap_block f n = if has_no_number f then IsFull segment.Numbers else heap_birth f n (heap_place f.heap.shadow.notes (units n))

-- `__e_acsl_malloc(n)` (C99 7.20.3.3): no bytes give null and take no number
abbrev pub flat_malloc : Flat → ℕ → Answer ℕ
flat_malloc f n = if nat_eq n 0 then Gives 0 f else heap_block f n

-- so many bytes of the heap are the number 0
abbrev pub zeroed : Flat → ℕ → ℕ → Flat
zeroed f at n = record f { heap = filled_with f.heap at n [] }

abbrev pub zeroed_block : Answer ℕ → ℕ → Answer ℕ
zeroed_block (Gives p f) n = Gives p (if nat_eq p 0 then f else zeroed f (p % 2 ^ 32 - heap_start) n)
zeroed_block (IsFull full) n = IsFull full
zeroed_block Faults n = Faults

-- `__e_acsl_calloc(n, m)` (C99 7.20.3.1): as many bytes as the unbounded product says
abbrev pub flat_calloc : Flat → ℕ → ℕ → Answer ℕ
flat_calloc f n m = zeroed_block (flat_malloc f (n * m)) (n * m)

-- `__e_acsl_free(P)` (C99 7.20.3.2): null is let be; it faults unless P is the start of a live heap block
abbrev pub free_by : Flat → ℕ → Option BlockNote → Option Flat
free_by f at None = None
free_by f at (Some n) = if nat_eq n.base at then Some (dead f Heap n) else None

abbrev pub free_spot : Flat → ℕ → Spot → Option Flat
free_spot f number Nowhere = None
free_spot f number (In Globals at) = None
free_spot f number (In Stack at) = None
free_spot f number (In Heap at) = free_by f at (live_at f.heap at number)

abbrev pub flat_free : Flat → ℕ → Option Flat
flat_free f p = if nat_eq p 0 then Some f else free_spot f (number_in p) (spot_of p)

-- ---- questions: none of them faults

-- the answer of the region that an address is in
abbrev pub ask : {A : Type 0} → Flat → Spot → A → (Region → ℕ → A) → A
ask f Nowhere none question = none
ask f (In name at) none question = question (region f name) at

-- `__e_acsl_valid(P, O, N, A)`, `__e_acsl_valid_read`, `__e_acsl_initialized`: a range of N bytes, which always is so if N isn't positive
abbrev pub flat_valid : Flat → ℕ → ℤ → ℤ → ℕ → Bool
flat_valid f p o n a =
    if nat_eq (plus n) 0 then true else ask f (spot_of p) false (λ r at. region_valid r at (number_in p) o (plus n) a)

abbrev pub flat_valid_read : Flat → ℕ → ℤ → ℤ → ℕ → Bool
flat_valid_read f p o n a =
    if nat_eq (plus n) 0 then true else ask f (spot_of p) false (λ r at. region_valid_read r at (number_in p) o (plus n) a)

abbrev pub flat_initialized : Flat → ℕ → ℤ → ℤ → ℕ → Bool
flat_initialized f p o n a =
    if nat_eq (plus n) 0 then true else ask f (spot_of p) false (λ r at. region_initialized r at (number_in p) o (plus n) a)

-- `__e_acsl_number(P, O, A)`, `__e_acsl_pointer(P, O)`
abbrev pub flat_number : Flat → ℕ → ℤ → ℕ → Bool
flat_number f p o a = ask f (spot_of p) false (λ r at. region_number r at (number_in p) o a)

abbrev pub flat_pointer : Flat → ℕ → ℤ → Bool
flat_pointer f p o = ask f (spot_of p) false (λ r at. region_pointer r at (number_in p) o)

-- `__e_acsl_inside(P, O)`: the record of the block, if the place is inside it
abbrev pub flat_inside : Flat → ℕ → ℤ → Option BlockNote
flat_inside f p o = ask f (spot_of p) None (λ r at. region_inside r at (number_in p) o)

-- `__e_acsl_base_addr(P, O)`: the pointer to the block's start
abbrev pub base_pointer : ℕ → Spot → Option BlockNote → ℕ
base_pointer number spot None = 0
base_pointer number Nowhere (Some n) = 0
base_pointer number (In name at) (Some n) = pointer_to number name n.base

abbrev pub flat_base_addr : Flat → ℕ → ℤ → ℕ
flat_base_addr f p o = base_pointer (number_in p) (spot_of p) (flat_inside f p o)

-- `__e_acsl_block_length(P, O)`
abbrev pub length_of : Option BlockNote → ℕ
length_of None = 0
length_of (Some n) = n.length

abbrev pub flat_block_length : Flat → ℕ → ℤ → ℕ
flat_block_length f p o = length_of (flat_inside f p o)

-- `__e_acsl_offset(P, O)`
abbrev pub flat_offset : Flat → ℕ → ℤ → ℕ
flat_offset f p o = ask f (spot_of p) 0 (λ r at. region_offset r at (number_in p) o)

-- `__e_acsl_separated(P, O, N, Q, U, M)`: two ranges of one number's addresses don't meet, whether or not a block with it lives. Parts of
-- the sums that are negative stand on the other side.
abbrev pub ranges_meet : ℕ → ℤ → ℤ → ℕ → ℤ → ℤ → Bool
ranges_meet a o n b u m =
    nat_lt (b + plus u + minus o) (a + plus o + minus u + plus n) && nat_lt (a + plus o + minus u) (b + plus u + minus o + plus m)

abbrev pub flat_separated : ℕ → ℤ → ℤ → ℕ → ℤ → ℤ → Bool
flat_separated p o n q u m =
    not (nat_lt 0 (plus n) && (nat_lt 0 (plus m) && (nat_eq (number_in p) (number_in q) && ranges_meet (p % 2 ^ 32) o n (q % 2 ^ 32) u m)))

-- ---- strings

-- the byte that lies so many bytes after P, in the same region
abbrev pub flat_byte : Flat → ℕ → ℕ → Option ℕ
flat_byte f p i = ask f (spot_of p) None (λ r at. region_load r (at + i) 1)

-- how many bytes the region of an address has
abbrev pub region_length : Flat → ℕ → ℕ
region_length f p = ask f (spot_of p) 0 (λ r at. length r.bytes)

-- `__e_acsl_print_str(P)`: a string ends in its region, or breaks off at the region's end; which bytes were written isn't asked, nor whose they are
abbrev pub flat_string : Flat → ℕ → List ℕ × Bool
flat_string f p = string_from (flat_byte f p) (region_length f p) 0
