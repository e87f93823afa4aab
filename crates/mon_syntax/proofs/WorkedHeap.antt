-- Places on a heap, and small programs with blocks there and with copies, by computation: how they end, what they print and the steps left.
use Rattle.std.proofs.Common.{◌≡◌, ℕ, false, ◌+◌, ◌*◌, ◌^◌, pos, List, [], ◌∷◌, ◌++◌, replicate, Option, Some, None, codes, refl}
use Rattle.c_syntax.specs.declared.types.BlockKind.TheVariants as kind
use Rattle.c_syntax.specs.declared.types.Segment.TheVariants.{Heap}
use Rattle.c_model.specs.Memory.{Into, Unwritten, Block, Sizes, At, NoRoom, heap_place, heap_room, heap_block, freed, new_block}
use Rattle.c_model.specs.MonitoredRuns.{Exits, Fault, Full}
use Rattle.shadow_segments.specs.declared.BlockNote.{BlockNote}
use Rattle.mon_syntax.specs.declared.tree.MonType.TheVariants.{I32, I64, U64, Ptr}
use Rattle.mon_syntax.specs.declared.tree.MonOp.TheVariants.{Eq}
use Rattle.mon_syntax.specs.declared.tree.AccessSize.TheVariants.{Four, Eight}
use Rattle.mon_syntax.specs.declared.tree.CopySize.{CopySize}
use Rattle.mon_syntax.specs.declared.tree.CopySize.TheVariants as copy_size
use Rattle.mon_syntax.specs.declared.tree.MemoryCall.TheVariants.{Malloc, Calloc, Free, Copy}
use Rattle.mon_syntax.specs.Trees.{MonExpression, Global, Constant, Binary, Load, MonStatement, Store, Act, MonitoredProgram}
use Rattle.mon_syntax.specs.Memory.{Reply, Gives, IsFull, Faults}
use Rattle.mon_syntax.specs.BlockMemory.{block_run}
use Rattle.mon_syntax.specs.Flat.{Flat, flat_malloc}
use Rattle.mon_syntax.specs.Flat as flat
use Rattle.mon_syntax.proofs.WorkedRuns.{i32, no_input, ends}
use Rattle.mon_syntax.proofs.WorkedCalls.{small, small_run, born}
use Rattle.mon_syntax.proofs.WorkedMemory.{with_globals, with_memory, two_globals, p, q, shows, shows_number, farther, null}

-- ---- places on a heap of four units

abbrev small_sizes : Sizes
small_sizes = record { globals = 64; stack = 64; heap = 64 }

-- a block of 15 bytes takes one unit, and one of 16 takes two
abbrev lives_at : ℕ → Block
lives_at place = heap_block place (replicate 15 Unwritten)

abbrev died_at : ℕ → Block
died_at place = record (lives_at place) { live = false }

room-all : heap_room small_sizes [] 63 ≡ At 0
unfolding heap_place
room-all = refl

room-more : heap_room small_sizes [] 64 ≡ NoRoom Heap
unfolding heap_place
room-more = refl

room-behind : heap_room small_sizes (lives_at 0 ∷ []) 15 ≡ At 1
unfolding heap_place
room-behind = refl

-- blocks of the stack and dead blocks take nothing, and the least place is taken
room-again : heap_room small_sizes (new_block kind.Stack 40 ∷ died_at 0 ∷ lives_at 1 ∷ []) 15 ≡ At 0
unfolding heap_place
room-again = refl

-- a gap of one unit is one for 15 bytes, and none for 16
room-gap : heap_room small_sizes (lives_at 0 ∷ died_at 1 ∷ lives_at 2 ∷ []) 15 ≡ At 1
unfolding heap_place
room-gap = refl

room-small_gap : heap_room small_sizes (lives_at 0 ∷ died_at 1 ∷ lives_at 2 ∷ []) 16 ≡ NoRoom Heap
unfolding heap_place
room-small_gap = refl

-- the same by the records
abbrev note : Option BlockNote
note = Some (record { base = 0; length = 15; number = 1; kind = kind.Heap })

place-gap : flat.heap_place (note ∷ None ∷ note ∷ None ∷ []) 1 ≡ Some 1
place-gap = refl

place-small_gap : flat.heap_place (note ∷ None ∷ note ∷ None ∷ []) 2 ≡ None
place-small_gap = refl

place-least : flat.heap_place (None ∷ None ∷ note ∷ None ∷ []) 1 ≡ Some 0
place-least = refl

-- ---- births

-- the pointer to a birth's block
abbrev born_at : Reply Flat ℕ → Option ℕ
born_at (Gives p f) = Some p
born_at (IsFull g) = None
born_at Faults = None

first_birth : born_at (flat_malloc small 15) ≡ Some (1 * 2 ^ 32 + 2147483648)
first_birth = refl

no_birth : born_at (flat_malloc small 0) ≡ Some 0
no_birth = refl

abbrev gets : ℕ → ℕ → MonStatement
gets r n = Act (Some r) Malloc (Constant U64 (pos n) ∷ [])

abbrev gets_zeros : ℕ → ℕ → ℕ → MonStatement
gets_zeros r n m = Act (Some r) Calloc (Constant U64 (pos n) ∷ Constant U64 (pos m) ∷ [])

abbrev frees : MonExpression → MonStatement
frees e = Act None Free (e ∷ [])

-- no bytes give null, which may be freed
abbrev gets_none : MonitoredProgram
gets_none = with_memory (gets 0 0 ∷ shows (Binary Eq Ptr p null) ∷ frees p ∷ gets_zeros 1 7 0 ∷ shows (Binary Eq Ptr q null) ∷ frees q ∷ [])

block_run-gets_none : block_run gets_none no_input 5 ≡ ends (Exits (pos 0)) (codes "11") 5
block_run-gets_none = refl

small_run-gets_none : small_run gets_none no_input 5 ≡ ends (Exits (pos 0)) (codes "11") 5
small_run-gets_none = refl

-- the greatest block that fits into 64 bytes has 63
small_run-fits : small_run (with_memory (gets 0 63 ∷ [])) no_input 5 ≡ ends (Exits (pos 0)) [] 5
small_run-fits = refl

small_run-full : small_run (with_memory (gets 0 64 ∷ [])) no_input 5 ≡ ends (Full Heap) [] 5
small_run-full = refl

-- the product is unbounded
small_run-product : small_run (with_memory (gets_zeros 0 4294967296 4294967296 ∷ [])) no_input 5 ≡ ends (Full Heap) [] 5
small_run-product = refl

-- bytes of `malloc` aren't written, and those of `calloc` are 0
small_run-bytes : small_run (with_memory ((gets 0 8 ∷ gets_zeros 1 2 4 ∷ []) ++ (shows_number 0 Eight ++ (shows_number 1 Eight ++ (shows (Load I32 (farther q (pos 4))) ∷ []))))) no_input 5
    ≡ ends (Exits (pos 0)) (codes "010") 5
small_run-bytes = refl

-- ---- deaths

-- a place is taken again, and no byte of the new block is written; the old pointer finds nothing
abbrev gets_again : List MonStatement → MonitoredProgram
gets_again rest = with_memory ((gets 0 48 ∷ Store 0 I32 (i32 (pos 65)) ∷ frees p ∷ gets 1 48 ∷ []) ++ (shows_number 0 Four ++ (shows_number 1 Four ++ ((Store 1 I32 (i32 (pos 66)) ∷ []) ++ (shows_number 0 Four ++ (shows_number 1 Four ++ rest))))))

small_run-gets_again : small_run (gets_again []) no_input 5 ≡ ends (Exits (pos 0)) (codes "0001") 5
small_run-gets_again = refl

small_run-frees_old : small_run (gets_again (frees p ∷ [])) no_input 5 ≡ ends Fault (codes "0001") 5
small_run-frees_old = refl

small_run-frees_twice : small_run (with_memory (gets 0 15 ∷ frees p ∷ frees p ∷ [])) no_input 5 ≡ ends Fault [] 5
small_run-frees_twice = refl

small_run-frees_middle : small_run (with_memory (gets 0 15 ∷ frees (farther p (pos 1)) ∷ [])) no_input 5 ≡ ends Fault [] 5
small_run-frees_middle = refl

-- over blocks
freed-live : freed (lives_at 0 ∷ lives_at 1 ∷ []) (Into 2 0) ≡ Some (lives_at 0 ∷ died_at 1 ∷ [])
freed-live = refl

freed-dead : freed (lives_at 0 ∷ died_at 1 ∷ []) (Into 2 0) ≡ None
freed-dead = refl

freed-middle : freed (lives_at 0 ∷ lives_at 1 ∷ []) (Into 2 1) ≡ None
freed-middle = refl

-- blocks of the stack and globals aren't freed
block_run-frees_stack : block_run (with_memory (born 0 4 ∷ frees p ∷ [])) no_input 5 ≡ ends Fault [] 5
block_run-frees_stack = refl

small_run-frees_stack : small_run (with_memory (born 0 4 ∷ frees p ∷ [])) no_input 5 ≡ ends Fault [] 5
small_run-frees_stack = refl

block_run-frees_global : block_run (with_globals two_globals (frees (Global 0) ∷ [])) no_input 5 ≡ ends Fault [] 5
block_run-frees_global = refl

small_run-frees_global : small_run (with_globals two_globals (frees (Global 0) ∷ [])) no_input 5 ≡ ends Fault [] 5
small_run-frees_global = refl

-- ---- copies

abbrev copies : MonExpression → MonExpression → CopySize → MonStatement
copies to from a = Act None (Copy a) (to ∷ from ∷ [])

-- a number, and bytes that aren't written; only those four change
abbrev copies_number : MonitoredProgram
copies_number = with_memory ((born 0 4 ∷ born 1 8 ∷ Store 0 I32 (i32 (pos 7)) ∷ copies (farther q (pos 4)) p copy_size.Four ∷ shows (Load I32 (farther q (pos 4))) ∷ []) ++ (shows_number 1 Four ++ (copies p q copy_size.Four ∷ shows_number 0 Four)))

block_run-copies_number : block_run copies_number no_input 5 ≡ ends (Exits (pos 0)) (codes "700") 5
block_run-copies_number = refl

small_run-copies_number : small_run copies_number no_input 5 ≡ ends (Exits (pos 0)) (codes "700") 5
small_run-copies_number = refl

-- eight bytes keep a pointer, and fewer are loose
abbrev copies_pointer : CopySize → MonStatement → MonitoredProgram
copies_pointer a last = with_memory (born 0 16 ∷ Store 0 Ptr p ∷ copies (farther p (pos 8)) p a ∷ last ∷ [])

abbrev same_pointer : MonStatement
same_pointer = shows (Binary Eq Ptr (Load Ptr (farther p (pos 8))) p)

block_run-copies_pointer : block_run (copies_pointer copy_size.Eight same_pointer) no_input 5 ≡ ends (Exits (pos 0)) (codes "1") 5
block_run-copies_pointer = refl

small_run-copies_pointer : small_run (copies_pointer copy_size.Eight same_pointer) no_input 5 ≡ ends (Exits (pos 0)) (codes "1") 5
small_run-copies_pointer = refl

block_run-copies_piece : block_run (copies_pointer copy_size.Four (shows (Load I32 (farther p (pos 8))))) no_input 5 ≡ ends Fault [] 5
block_run-copies_piece = refl

-- both halves of a pointer are no pointer any more
abbrev copies_halves : MonitoredProgram
copies_halves = with_memory (born 0 16 ∷ Store 0 Ptr p ∷ copies (farther p (pos 8)) p copy_size.Four ∷ copies (farther p (pos 12)) (farther p (pos 4)) copy_size.Four ∷ same_pointer ∷ [])

block_run-copies_halves : block_run copies_halves no_input 5 ≡ ends Fault [] 5
block_run-copies_halves = refl

small_run-copies_halves : small_run copies_halves no_input 5 ≡ ends (Exits (pos 0)) (codes "1") 5
small_run-copies_halves = refl

-- bytes onto themselves, off their alignment, and from behind a block
abbrev copies_within : ℕ → ℕ → CopySize → MonitoredProgram
copies_within to from a = with_memory (born 0 8 ∷ Store 0 I64 (Constant I64 (pos 5)) ∷ copies (farther p (pos to)) (farther p (pos from)) a ∷ shows (Load I32 p) ∷ [])

block_run-copies_itself : block_run (copies_within 0 0 copy_size.Eight) no_input 5 ≡ ends (Exits (pos 0)) (codes "5") 5
block_run-copies_itself = refl

small_run-copies_itself : small_run (copies_within 0 0 copy_size.Eight) no_input 5 ≡ ends (Exits (pos 0)) (codes "5") 5
small_run-copies_itself = refl

block_run-copies_unaligned : block_run (copies_within 1 4 copy_size.Two) no_input 5 ≡ ends Fault [] 5
block_run-copies_unaligned = refl

small_run-copies_unaligned : small_run (copies_within 1 4 copy_size.Two) no_input 5 ≡ ends Fault [] 5
small_run-copies_unaligned = refl

block_run-copies_behind : block_run (copies_within 0 8 copy_size.One) no_input 5 ≡ ends Fault [] 5
block_run-copies_behind = refl
