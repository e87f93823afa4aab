-- Ours: blocks are those of C99 6.2.4.
-- Monitored programs over numbered blocks. Memory is that of annotated C, and a register holds a value as an expression of annotated C has one.
use Rattle.std.specs.Prelude.{ℕ, zero, suc, ◌+◌, ◌-◌, ◌*◌, nat_lt, nat_eq, Bool, false, true, not, ◌&&◌, if◌then◌else◌, ℤ, pos, negsuc, ◌+ℤ◌, int_lt, int_le}
use Rattle.std.specs.Prelude.{List, [], ◌∷◌, ◌++◌, length, map, replicate, Option, Some, None, option_map, slice_get, slice_set}
use Rattle.c_syntax.specs.declared.types.BlockKind.TheVariants.{Stack}
use Rattle.c_syntax.specs.declared.types.CInt.TheVariants as cint
use Rattle.c_syntax.specs.declared.types.Segment.{Segment}
use Rattle.c_syntax.specs.declared.types.Segment.TheVariants as segment
use Rattle.c_syntax.specs.Layouts.{Scalar, IntegerType, PointerType}
use Rattle.c_model.specs.Integers.{truth}
use Rattle.c_model.specs.Limits.{most_frames}
use Rattle.c_model.specs.Memory.{Pointer, Null, Into, Value, Integer, Points, NoValue, Byte, Unwritten, Number, Block, Store, block_of, new_block, is_stack}
use Rattle.c_model.specs.Memory.{standard_sizes, full_at_stack_birth, number_of, bytes_of, load_bytes, save_bytes, load, save, moved, distance, equal_pointers}
use Rattle.c_model.specs.Memory.{copy, Room, At, NoRoom, heap_room, heap_block, freed}
use Rattle.c_model.specs.State.{Input}
use Rattle.c_model.specs.MonitoredRuns.{Ran}
use Rattle.mon_syntax.specs.declared.tree.MonType.{MonType}
use Rattle.mon_syntax.specs.declared.tree.MonType.TheVariants.{I8, U8, I16, U16, I32, U32, I64, U64, I128, Ptr}
use Rattle.mon_syntax.specs.declared.tree.MonOp.{MonOp}
use Rattle.mon_syntax.specs.declared.tree.MonOp.TheVariants.{Add, Sub, Mul, Div, Rem, Shl, Shr, And, Or, Xor, Eq, Ne, Lt, Le, Gt, Ge}
use Rattle.mon_syntax.specs.declared.tree.AccessSize.{AccessSize}
use Rattle.mon_syntax.specs.declared.tree.CopySize.{CopySize}
use Rattle.mon_syntax.specs.declared.tree.MemoryCall.{MemoryCall}
use Rattle.mon_syntax.specs.declared.tree.MemoryCall.TheVariants as call
use Rattle.mon_syntax.specs.Arithmetic.{access_bytes, copy_bytes, lowest_bits, wrap}
use Rattle.mon_syntax.specs.Trees.{PlainContent, MonitoredGlobal, MonitoredProgram}
use Rattle.mon_syntax.specs.Globals.{kind_of_content, size_of_content, first_bytes}
use Rattle.c_model.specs.MemoryQuestions.{Address, address_of, address_farther, is_valid, is_readable, is_initialized, has_pointer, is_inside, base_of}
use Rattle.c_model.specs.MemoryQuestions.{length_of, offset_in_block, are_separated}
use Rattle.mon_syntax.specs.Memory.{Memory, Reply, Gives, IsFull, Faults}
pub use Rattle.c_model.specs.Strings.{byte_after, size_in, size_around}
use Rattle.c_model.specs.Strings.{string_at}
use Rattle.mon_syntax.specs.Meaning.{◌>>=◌, run}

pub record Blocks : Type 0 where
  pub store : Store
  -- active calls
  pub frames : ℕ

abbrev pub integer_of : Value → Option ℤ
integer_of (Integer z) = Some z
integer_of (Points p) = None
integer_of NoValue = None

abbrev pub pointer_of : Value → Option Pointer
pointer_of (Integer z) = None
pointer_of (Points p) = Some p
pointer_of NoValue = None

-- ---- loads and stores

-- the type of annotated C that a type stands for; i128 stands for none
abbrev pub scalar_type : MonType → Option Scalar
scalar_type I8 = Some (IntegerType cint.I8)
scalar_type U8 = Some (IntegerType cint.U8)
scalar_type I16 = Some (IntegerType cint.I16)
scalar_type U16 = Some (IntegerType cint.U16)
scalar_type I32 = Some (IntegerType cint.I32)
scalar_type U32 = Some (IntegerType cint.U32)
scalar_type I64 = Some (IntegerType cint.I64)
scalar_type U64 = Some (IntegerType cint.U64)
scalar_type I128 = None
scalar_type Ptr = Some PointerType

-- sixteen bytes that hold an i128
abbrev pub load_wide : Store → Pointer → Option Value
load_wide store p = load_bytes store p 16 >>= number_of >>= λ n. Some (Integer (wrap I128 (pos n)))

abbrev pub load_scalar : Option Scalar → Store → Pointer → Option Value
load_scalar None store p = load_wide store p
load_scalar (Some k) store p = load store p k

abbrev pub load_block : MonType → Value → Blocks → Option Value
load_block t v b = pointer_of v >>= load_scalar (scalar_type t) b.store

-- a value is saved where it is one of the type
abbrev pub save_scalar : Option Scalar → Store → Pointer → Value → Option Store
save_scalar None store p (Integer z) = save_bytes store p 16 (bytes_of 16 (lowest_bits I128 z))
save_scalar (Some (IntegerType k)) store p (Integer z) = save store p (IntegerType k) (Integer z)
save_scalar (Some PointerType) store p (Points q) = save store p PointerType (Points q)
save_scalar _ store p v = None

abbrev pub stored_in : Blocks → Option Store → Option Blocks
stored_in b None = None
stored_in b (Some store) = Some (record b { store = store })

abbrev pub store_value : MonType → Value → Value → Blocks → Option Blocks
store_value t v w b = pointer_of v >>= λ p. stored_in b (save_scalar (scalar_type t) b.store p w)

-- ---- operators on pointers

abbrev pub two_blocks : MonOp → Store → Pointer → Pointer → Option Value
two_blocks Sub store p q = option_map Integer (distance store p q)
two_blocks Eq store p q = option_map (λ same. Integer (truth same)) (equal_pointers store p q)
two_blocks Ne store p q = option_map (λ same. Integer (truth (not same))) (equal_pointers store p q)
two_blocks Lt store p q = option_map (λ d. Integer (truth (int_lt d (pos 0)))) (distance store p q)
two_blocks Le store p q = option_map (λ d. Integer (truth (int_le d (pos 0)))) (distance store p q)
two_blocks Gt store p q = option_map (λ d. Integer (truth (int_lt (pos 0) d))) (distance store p q)
two_blocks Ge store p q = option_map (λ d. Integer (truth (int_le (pos 0) d))) (distance store p q)
two_blocks Add store p q = None
two_blocks Mul store p q = None
two_blocks Div store p q = None
two_blocks Rem store p q = None
two_blocks Shl store p q = None
two_blocks Shr store p q = None
two_blocks And store p q = None
two_blocks Or store p q = None
two_blocks Xor store p q = None

abbrev pub pointed_block : MonOp → Value → Value → Blocks → Option Value
pointed_block Add (Points p) (Integer d) b = option_map Points (moved b.store p d)
pointed_block op (Points p) (Points q) b = two_blocks op b.store p q
pointed_block op v w b = None

-- ---- questions

-- a pointer at an offset from another one, wherever its block ends
abbrev pub at_offset : ℕ → ℤ → Option Pointer
at_offset n (pos i) = Some (Into n i)
at_offset n (negsuc i) = None

abbrev pub displaced : Pointer → ℤ → Option Pointer
displaced Null o = None
displaced (Into n i) o = at_offset n (pos i +ℤ o)

abbrev pub is_some : {A : Type 0} → Option A → Bool
is_some None = false
is_some (Some a) = true

-- `__e_acsl_number(P, O, A)`: so many bytes can be read there, aligned to their number, and hold a number
abbrev pub holds_number : Store → Pointer → ℤ → ℕ → Bool
holds_number store p o width = is_some (displaced p o >>= λ q. load_bytes store q width >>= number_of)

abbrev pub number_question : AccessSize → List Value → Blocks → Reply Blocks Value
number_question a (Points p ∷ Integer o ∷ []) b = Gives (Integer (truth (holds_number b.store p o (access_bytes a)))) b
number_question a _ b = Faults

-- a question about a range of bytes, at an offset from a pointer
abbrev pub range_question : (Store → Address → ℤ → ℕ → Bool) → AccessSize → List Value → Blocks → Reply Blocks Value
range_question asked a (Points p ∷ Integer o ∷ Integer n ∷ []) b =
    Gives (Integer (truth (asked b.store (address_farther (address_of p) o) n (access_bytes a)))) b
range_question asked a _ b = Faults

-- what is told of a place, at an offset from a pointer
abbrev pub place_question : (Store → Address → Value) → List Value → Blocks → Reply Blocks Value
place_question told (Points p ∷ Integer o ∷ []) b = Gives (told b.store (address_farther (address_of p) o)) b
place_question told _ b = Faults

abbrev pub told_pointer : Store → Address → Value
told_pointer store x = Integer (truth (has_pointer store x))

abbrev pub told_inside : Store → Address → Value
told_inside store x = Integer (truth (is_inside store x))

abbrev pub told_base : Store → Address → Value
told_base store x = Points (base_of store x)

abbrev pub told_length : Store → Address → Value
told_length store x = Integer (pos (length_of store x))

abbrev pub told_offset : Store → Address → Value
told_offset store x = Integer (pos (offset_in_block store x))

-- whether two ranges share no byte, each at an offset from a pointer
abbrev pub separated_question : List Value → Blocks → Reply Blocks Value
separated_question (Points p ∷ Integer o ∷ Integer n ∷ Points q ∷ Integer u ∷ Integer m ∷ []) b =
    Gives (Integer (truth (are_separated (address_farther (address_of p) o) n (address_farther (address_of q) u) m))) b
separated_question _ b = Faults

-- ---- strings

-- a string ends inside its block, or breaks off there
abbrev pub string_in : Value → Blocks → List ℕ × Bool
string_in (Points p) b = string_at b.store p
string_in v b = ([], false)

-- ---- frames, births and deaths

abbrev pub enter_blocks : Blocks → Reply Blocks Value
enter_blocks b =
    if nat_lt b.frames most_frames then Gives (Integer (pos 0)) (record b { frames = b.frames + 1 }) else IsFull segment.Frames

-- the birth of a stack block, where nothing is full
abbrev pub stack_block : Option Segment → ℕ → Blocks → Reply Blocks Value
stack_block (Some full) size b = IsFull full
stack_block None size b = Gives (Points (Into (length b.store + 1) 0)) (record b { store = b.store ++ new_block Stack size ∷ [] })

abbrev pub birth_of : ℕ → Blocks → Reply Blocks Value
birth_of size b = stack_block (full_at_stack_birth standard_sizes b.store size) size b

abbrev pub store_block : List Value → Blocks → Reply Blocks Value
store_block (Integer n ∷ []) b = birth_of (lowest_bits U64 n) b
store_block _ b = Faults

abbrev pub is_live_on_stack : Block → Bool
is_live_on_stack b = b.live && is_stack b.kind

-- the index of the last block that lives on the stack, the first one having this index
abbrev pub youngest_from : ℕ → Store → Option ℕ → Option ℕ
youngest_from k [] found = found
youngest_from k (b ∷ bs) found = youngest_from (suc k) bs (if is_live_on_stack b then Some k else found)

abbrev pub youngest : Store → Option ℕ
youngest store = youngest_from 0 store None

abbrev pub is_index : ℕ → Option ℕ → Bool
is_index k None = false
is_index k (Some i) = nat_eq k i

-- the block with this index is dead
abbrev pub dead_at : ℕ → Option Block → Store → Store
dead_at k None store = store
dead_at k (Some b) store = slice_set store k (record b { live = false })

-- a pointer to the start of the youngest live stack block ends its life
abbrev pub delete_block : List Value → Blocks → Reply Blocks Value
delete_block (Points (Into (suc k) zero) ∷ []) b =
    if is_index k (youngest b.store) then Gives (Integer (pos 0)) (record b { store = dead_at k (slice_get b.store k) b.store }) else Faults
delete_block _ b = Faults

-- ---- the heap (C99 7.20.3) and copies

abbrev pub heap_birth : Room → List Byte → Blocks → Reply Blocks Value
heap_birth (NoRoom full) bytes b = IsFull full
heap_birth (At place) bytes b = Gives (Points (Into (length b.store + 1) 0)) (record b { store = b.store ++ heap_block place bytes ∷ [] })

-- so many bytes of the heap, each of them this one; none give null
abbrev pub allocate : ℕ → Byte → Blocks → Reply Blocks Value
allocate n byte b = if nat_eq n 0 then Gives (Points Null) b else heap_birth (heap_room standard_sizes b.store n) (replicate n byte) b

abbrev pub malloc_block : List Value → Blocks → Reply Blocks Value
malloc_block (Integer n ∷ []) b = allocate (lowest_bits U64 n) Unwritten b
malloc_block _ b = Faults

-- the product is unbounded
abbrev pub calloc_block : List Value → Blocks → Reply Blocks Value
calloc_block (Integer n ∷ Integer m ∷ []) b = allocate (lowest_bits U64 n * lowest_bits U64 m) (Number 0) b
calloc_block _ b = Faults

-- a change that gives no value
abbrev pub becomes : Blocks → Option Store → Reply Blocks Value
becomes b None = Faults
becomes b (Some store) = Gives (Integer (pos 0)) (record b { store = store })

abbrev pub free_block : List Value → Blocks → Reply Blocks Value
free_block (Points p ∷ []) b = becomes b (freed b.store p)
free_block _ b = Faults

abbrev pub copy_block : CopySize → List Value → Blocks → Reply Blocks Value
copy_block a (Points p ∷ Points q ∷ []) b = becomes b (copy b.store p q (copy_bytes a))
copy_block a _ b = Faults

abbrev pub act_on_blocks : MemoryCall → List Value → Blocks → Reply Blocks Value
act_on_blocks call.StoreBlock args b = store_block args b
act_on_blocks call.DeleteBlock args b = delete_block args b
act_on_blocks (call.Copy a) args b = copy_block a args b
act_on_blocks (call.Number a) args b = number_question a args b
act_on_blocks (call.Valid a) args b = range_question is_valid a args b
act_on_blocks (call.ValidRead a) args b = range_question is_readable a args b
act_on_blocks (call.Initialized a) args b = range_question is_initialized a args b
act_on_blocks call.Pointer args b = place_question told_pointer args b
act_on_blocks call.Inside args b = place_question told_inside args b
act_on_blocks call.BaseAddr args b = place_question told_base args b
act_on_blocks call.BlockLength args b = place_question told_length args b
act_on_blocks call.Offset args b = place_question told_offset args b
act_on_blocks call.Separated args b = separated_question args b
act_on_blocks call.Malloc args b = malloc_block args b
act_on_blocks call.Calloc args b = calloc_block args b
act_on_blocks call.Free args b = free_block args b

-- ---- globals and literals

-- these first bytes of a block, and then zeros, all written as numbers
abbrev pub number_bytes : ℕ → List ℕ → List Byte
number_bytes size first = map Number first ++ replicate (size - length first) (Number 0)

abbrev pub content_block : PlainContent → Block
content_block c = block_of (kind_of_content c) (number_bytes (size_of_content c) (first_bytes c))

abbrev pub block_of_global : MonitoredGlobal → Block
block_of_global g = content_block g.content

abbrev pub pointers_from : ℕ → List MonitoredGlobal → List Value
pointers_from number [] = []
pointers_from number (g ∷ gs) = Points (Into number 0) ∷ pointers_from (suc number) gs

-- ---- the memory, and a run over it

abbrev pub over_blocks : Memory
over_blocks = record {
  Mem = Blocks;
  Val = Value;
  number = Integer;
  number_of = integer_of;
  null = Points Null;
  load = load_block;
  store = store_value;
  pointed = pointed_block;
  act = act_on_blocks;
  string = string_in;
  enter = enter_blocks;
  leave = λ b. record b { frames = b.frames - 1 };
  starts = pointers_from 1;
}

-- the memory in which a run begins: globals and literals are born first, in text order
abbrev pub blocks_start : List MonitoredGlobal → Blocks
blocks_start gs = record { store = map block_of_global gs; frames = 0 }

-- the run of a program over blocks
abbrev pub block_run : MonitoredProgram → Input → ℕ → Ran
block_run m input n = run over_blocks m (blocks_start m.globals) input n
