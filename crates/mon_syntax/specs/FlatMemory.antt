-- Ours: what the machine does.
-- Monitored programs over flat memory: each register holds a number, a pointer being the number of a block above an address of 32 bits.
use Rattle.std.specs.Prelude.{Bool, ℕ, ◌+◌, ◌*◌, ◌%◌, ◌^◌, nat_eq, nat_lt, nat_le, not, ℤ, pos, ◌+ℤ◌, ◌-ℤ◌, List, [], ◌∷◌, Option, Some, None, option_map}
use Rattle.c_model.specs.Integers.{truth}
use Rattle.c_model.specs.Limits.{globals_bytes, stack_bytes, heap_bytes, most_frames}
use Rattle.c_model.specs.Memory.{rounded}
use Rattle.c_model.specs.State.{Input}
use Rattle.c_model.specs.MonitoredRuns.{Ran}
use Rattle.mon_syntax.specs.declared.spot.RegionName.TheVariants.{Globals}
use Rattle.mon_syntax.specs.declared.tree.MonType.{MonType}
use Rattle.mon_syntax.specs.declared.tree.MonType.TheVariants.{U32, U64, Ptr}
use Rattle.mon_syntax.specs.declared.tree.MonOp.{MonOp}
use Rattle.mon_syntax.specs.declared.tree.MonOp.TheVariants.{Add, Sub, Mul, Div, Rem, Shl, Shr, And, Or, Xor, Eq, Ne, Lt, Le, Gt, Ge}
use Rattle.mon_syntax.specs.declared.tree.MemoryCall.{MemoryCall}
use Rattle.mon_syntax.specs.declared.tree.MemoryCall.TheVariants as call
use Rattle.mon_syntax.specs.Arithmetic.{access_bytes, byte_count, copy_bytes, is_pointer, lowest_bits, wrap}
use Rattle.mon_syntax.specs.Trees.{MonitoredGlobal, MonitoredProgram}
use Rattle.mon_syntax.specs.Globals.{kind_of_content, size_of_content, first_bytes, size_of_global}
use Rattle.mon_syntax.specs.Memory.{Memory, Reply, Gives, IsFull, Faults}
use Rattle.mon_syntax.specs.Flat.{Flat, flat_empty, flat_load, flat_store, flat_enter, flat_leave, flat_store_block, flat_delete_block, flat_begin, flat_number}
use Rattle.mon_syntax.specs.Flat.{flat_copy, flat_malloc, flat_calloc, flat_free, flat_string, number_in, pointer_to}
use Rattle.mon_syntax.specs.Flat.{flat_valid, flat_valid_read, flat_initialized, flat_pointer, flat_inside, flat_base_addr, flat_block_length, flat_offset}
use Rattle.mon_syntax.specs.Flat.{flat_separated}
use Rattle.mon_syntax.specs.Questions.{is_some}
use Rattle.mon_syntax.specs.declared.tree.AccessSize.{AccessSize}
use Rattle.mon_syntax.specs.Meaning.{run}

-- a value as a pointer: its lowest 64 bits
abbrev pub pointer_in : ℤ → ℕ
pointer_in z = lowest_bits Ptr z

-- the address of a pointer, its lower half
abbrev pub address_in : ℕ → ℕ
address_in p = p % 2 ^ 32

-- ---- loads and stores

abbrev pub load_flat : MonType → ℤ → Flat → Option ℤ
load_flat t p f = option_map (λ n. wrap t (pos n)) (flat_load f (pointer_in p) (byte_count t))

abbrev pub store_flat : MonType → ℤ → ℤ → Flat → Option Flat
store_flat t p z f = flat_store f (pointer_in p) (byte_count t) (lowest_bits t z) (is_pointer t)

-- ---- operators on pointers

-- a pointer so many bytes farther: its address wraps
abbrev pub farther : ℕ → ℤ → ℕ
farther p d = number_in p * 2 ^ 32 + lowest_bits U32 (pos (address_in p) +ℤ d)

-- `==` and `!=` compare whole pointers, the other relations and `-` their addresses
abbrev pub two_pointers : MonOp → ℕ → ℕ → Option ℤ
two_pointers Sub p q = Some (pos (address_in p) -ℤ pos (address_in q))
two_pointers Eq p q = Some (truth (nat_eq p q))
two_pointers Ne p q = Some (truth (not (nat_eq p q)))
two_pointers Lt p q = Some (truth (nat_lt (address_in p) (address_in q)))
two_pointers Le p q = Some (truth (nat_le (address_in p) (address_in q)))
two_pointers Gt p q = Some (truth (nat_lt (address_in q) (address_in p)))
two_pointers Ge p q = Some (truth (nat_le (address_in q) (address_in p)))
two_pointers Add p q = None
two_pointers Mul p q = None
two_pointers Div p q = None
two_pointers Rem p q = None
two_pointers Shl p q = None
two_pointers Shr p q = None
two_pointers And p q = None
two_pointers Or p q = None
two_pointers Xor p q = None

abbrev pub pointed_flat : MonOp → ℤ → ℤ → Flat → Option ℤ
pointed_flat Add x y f = Some (pos (farther (pointer_in x) y))
pointed_flat op x y f = two_pointers op (pointer_in x) (pointer_in y)

-- ---- calls of the runtime

-- a number of the runtime as a value
abbrev pub valued : Reply Flat ℕ → Reply Flat ℤ
valued (Gives n f) = Gives (pos n) f
valued (IsFull full) = IsFull full
valued Faults = Faults

-- a change that gives no value
abbrev pub changed : Option Flat → Reply Flat ℤ
changed None = Faults
changed (Some f) = Gives (pos 0) f

-- a question about a range of bytes, at an offset from a pointer
abbrev pub range_question : (Flat → ℕ → ℤ → ℤ → ℕ → Bool) → AccessSize → List ℤ → Flat → Reply Flat ℤ
range_question asked a (p ∷ o ∷ n ∷ []) f = Gives (truth (asked f (pointer_in p) o n (access_bytes a))) f
range_question asked a _ f = Faults

-- what is told of a place, at an offset from a pointer
abbrev pub place_question : (Flat → ℕ → ℤ → ℤ) → List ℤ → Flat → Reply Flat ℤ
place_question told (p ∷ o ∷ []) f = Gives (told f (pointer_in p) o) f
place_question told _ f = Faults

abbrev pub told_pointer : Flat → ℕ → ℤ → ℤ
told_pointer f p o = truth (flat_pointer f p o)

abbrev pub told_inside : Flat → ℕ → ℤ → ℤ
told_inside f p o = truth (is_some (flat_inside f p o))

abbrev pub told_base : Flat → ℕ → ℤ → ℤ
told_base f p o = pos (flat_base_addr f p o)

abbrev pub told_length : Flat → ℕ → ℤ → ℤ
told_length f p o = pos (flat_block_length f p o)

abbrev pub told_offset : Flat → ℕ → ℤ → ℤ
told_offset f p o = pos (flat_offset f p o)

abbrev pub separated_question : List ℤ → Flat → Reply Flat ℤ
separated_question (p ∷ o ∷ n ∷ q ∷ u ∷ m ∷ []) f = Gives (truth (flat_separated (pointer_in p) o n (pointer_in q) u m)) f
separated_question _ f = Faults

abbrev pub act_on_flat : MemoryCall → List ℤ → Flat → Reply Flat ℤ
act_on_flat call.StoreBlock (n ∷ []) f = valued (flat_store_block f (lowest_bits U64 n))
act_on_flat call.DeleteBlock (p ∷ []) f = changed (flat_delete_block f (pointer_in p))
act_on_flat (call.Copy a) (p ∷ q ∷ []) f = changed (flat_copy f (pointer_in p) (pointer_in q) (copy_bytes a))
act_on_flat (call.Number a) (p ∷ o ∷ []) f = Gives (truth (flat_number f (pointer_in p) o (access_bytes a))) f
act_on_flat (call.Valid a) args f = range_question flat_valid a args f
act_on_flat (call.ValidRead a) args f = range_question flat_valid_read a args f
act_on_flat (call.Initialized a) args f = range_question flat_initialized a args f
act_on_flat call.Pointer args f = place_question told_pointer args f
act_on_flat call.Inside args f = place_question told_inside args f
act_on_flat call.BaseAddr args f = place_question told_base args f
act_on_flat call.BlockLength args f = place_question told_length args f
act_on_flat call.Offset args f = place_question told_offset args f
act_on_flat call.Separated args f = separated_question args f
act_on_flat call.Malloc (n ∷ []) f = valued (flat_malloc f (lowest_bits U64 n))
act_on_flat call.Calloc (n ∷ m ∷ []) f = valued (flat_calloc f (lowest_bits U64 n) (lowest_bits U64 m))
act_on_flat call.Free (p ∷ []) f = changed (flat_free f (pointer_in p))
act_on_flat f args m = Faults

-- ---- globals and literals

abbrev pub begun_with : Flat → MonitoredGlobal → Flat
begun_with f g = flat_begin f (kind_of_content g.content) (size_of_content g.content) (first_bytes g.content)

abbrev pub begun : Flat → List MonitoredGlobal → Flat
begun f [] = f
begun f (g ∷ gs) = begun (begun_with f g) gs

-- the pointers to their starts, the first of which has this number and stands there
abbrev pub pointers_from : ℕ → ℕ → List MonitoredGlobal → List ℤ
pointers_from number at [] = []
pointers_from number at (g ∷ gs) = pos (pointer_to number Globals at) ∷ pointers_from (number + 1) (at + rounded (size_of_global g)) gs

-- ---- the memory, and a run over it

abbrev pub over_flat : Memory
over_flat = record {
  Mem = Flat;
  Val = ℤ;
  number = λ z. z;
  number_of = Some;
  null = pos 0;
  load = load_flat;
  store = store_flat;
  pointed = pointed_flat;
  act = act_on_flat;
  string = λ p f. flat_string f (pointer_in p);
  enter = λ f. valued (flat_enter f);
  leave = flat_leave;
  starts = pointers_from 1 0;
}

-- the memory of this profile in which nothing was born
abbrev pub flat_nothing : Flat
flat_nothing = flat_empty globals_bytes stack_bytes heap_bytes most_frames

-- the memory in which a run begins: globals and literals are born first, in text order
abbrev pub flat_start : List MonitoredGlobal → Flat
flat_start gs = begun flat_nothing gs

-- the run of a program over flat memory: what the machine does
abbrev pub flat_run : MonitoredProgram → Input → ℕ → Ran
flat_run m input n = run over_flat m (flat_start m.globals) input n
