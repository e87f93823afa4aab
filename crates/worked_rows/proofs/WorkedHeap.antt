-- Runs that take from the heap and give back, struct assignments, and where blocks stand, by computation.
use Rattle.std.proofs.Common.{◌≡◌, ℕ, zero, suc, ◌*◌, ◌<◌, pos, true, false, [], ◌∷◌, ◌++◌, length, replicate, Some, None, codes, refl, ap, arith}
use Rattle.c_syntax.specs.declared.types.CInt.TheVariants.{I8, U64}
use Rattle.c_syntax.specs.declared.types.BlockKind.TheVariants.{Stack}
use Rattle.c_syntax.specs.declared.types.Segment.TheVariants as segment
use Rattle.c_syntax.specs.declared.expression.BinOp.TheVariants.{Add, Eq}
use Rattle.c_syntax.specs.declared.expression.UnOp.TheVariants as unary
use Rattle.c_syntax.specs.declared.place.Place.{Place}
use Rattle.c_syntax.specs.Ctypes.{PlainType, Void, Int, Ptr, Struct, int_type}
use Rattle.c_syntax.specs.Expressions.{Expression, Node, Variable, Unary, Assign, Cast, Dot, place_of}
use Rattle.c_syntax.specs.Statements.{Statement, Eval, Block, If, NoElse, Return, BlockItem, Declare, Run}
use Rattle.c_syntax.specs.Programs.{TranslationUnit}
use Rattle.c_syntax.specs.Layouts.{PointerType}
use Rattle.c_model.specs.Memory.{Null, Into, Integer, Points, Unwritten, Number as NumberByte, LoosePiece, Store, block_of, new_block, bytes_of, pieces, load_bytes, load, ◌>>=◌, copy, copy_all}
use Rattle.c_model.specs.Memory.{standard_sizes, greatest_number, kill_from, At, NoRoom, room_at, heap_room, heap_block, freed}
use Rattle.c_model.specs.Integers.{bits_of}
use Rattle.c_model.specs.State.{State, Normal, Stop, Over, Exits, Undefined, Full, allocate}
use Rattle.c_model.specs.Meaning.{calloc_with, exec, run, ran}
use Rattle.c_model.proofs.HeapPlaces.{fits_at, heap_place-at, heap_place-zero, heap_place-too_many}
use Rattle.c_model.proofs.HeapBlocks.{born_where_room, too_large_is_full}
use Rattle.worked_rows.proofs.WorkedTrees.{place, literal, letter, binary, library_call, putchar_call, object_of, items_of, definition, unit_of, main_alone, no_input}

-- ---- the place of a block

-- the heap holds one block of one byte less than it has
pub takes_all : heap_room standard_sizes [] 16777215 ≡ At 0
takes_all = ap room_at (heap_place-zero 1048576 [] 1048576 refl)

pub takes_too_much : heap_room standard_sizes [] 16777216 ≡ NoRoom segment.Heap
takes_too_much = ap room_at (heap_place-too_many 1048576 [] 1048577 (omega arith))

-- after a block of one unit stands one of two; the first is dead
abbrev pub has_a_gap : Store
has_a_gap = record (heap_block 0 (replicate 8 Unwritten)) { live = false } ∷ heap_block 1 (replicate 16 Unwritten) ∷ []

pub fits_the_gap : heap_room standard_sizes has_a_gap 15 ≡ At 0
fits_the_gap = ap room_at (heap_place-zero 1048576 has_a_gap 1 refl)

pub exceeds_the_gap : heap_room standard_sizes has_a_gap 16 ≡ At 3
exceeds_the_gap = ap room_at (heap_place-at 1048576 has_a_gap 2 3 (omega arith) refl before)
  where
    before : (w : ℕ) → w < 3 → fits_at 1048576 has_a_gap 2 w ≡ false
    before zero l = refl
    before (suc zero) l = refl
    before (suc (suc zero)) l = refl
    before (suc (suc (suc w))) l = absurd (omega (arith, l))

-- the block that is born in the gap stands where the first one did, and has another number
pub born_in_the_gap : (s : State)
    → allocate 8 Unwritten (record s { store = has_a_gap }) ≡ Normal (Points (Into 3 0)) (record s { store = has_a_gap ++ heap_block 0 (replicate 8 Unwritten) ∷ [] })
born_in_the_gap s = born_where_room 8 Unwritten (record s { store = has_a_gap }) 0 refl (ap room_at (heap_place-zero 1048576 has_a_gap 1 refl))

-- a block of the heap outlives the block and the call in which it was born
pub kills_variables_alone : kill_from 0 (heap_block 0 [] ∷ new_block Stack 1 ∷ []) ≡ heap_block 0 [] ∷ record (new_block Stack 1) { live = false } ∷ []
kills_variables_alone = refl

-- ---- what `free` takes

abbrev pub one_block : Store
one_block = heap_block 0 (replicate 8 Unwritten) ∷ []

pub frees_the_start : freed one_block (Into 1 0) ≡ Some (record (heap_block 0 (replicate 8 Unwritten)) { live = false } ∷ [])
frees_the_start = refl

pub frees_again : (freed one_block (Into 1 0) >>= λ after. freed after (Into 1 0)) ≡ None
frees_again = refl

pub frees_the_middle : freed one_block (Into 1 4) ≡ None
frees_the_middle = refl

pub frees_a_variable : freed (new_block Stack 4 ∷ []) (Into 1 0) ≡ None
frees_a_variable = refl

pub frees_null : freed one_block Null ≡ Some one_block
frees_null = refl

-- ---- copies

-- a block that holds a pointer, and one to which nothing was written
abbrev pub holds_a_pointer : Store
holds_a_pointer = block_of Stack (pieces (Into 1 4) 0 8) ∷ new_block Stack 8 ∷ []

pub copies_a_pointer : (copy holds_a_pointer (Into 2 0) (Into 1 0) 8 >>= λ after. load after (Into 2 0) PointerType) ≡ Some (Points (Into 1 4))
copies_a_pointer = refl

-- its two halves are none, copied one by one
pub copies_halves : (copy_all holds_a_pointer (Into 2 0) (Into 1 0) ((0, 4) ∷ (4, 4) ∷ []) >>= λ after. load_bytes after (Into 2 0) 8) ≡ Some (replicate 8 LoosePiece)
copies_halves = refl

pub copies_no_pointer : (copy_all holds_a_pointer (Into 2 0) (Into 1 0) ((0, 4) ∷ (4, 4) ∷ []) >>= λ after. load after (Into 2 0) PointerType) ≡ None
copies_no_pointer = refl

pub copies_onto_itself : copy_all holds_a_pointer (Into 1 0) (Into 1 0) ((0, 8) ∷ []) ≡ Some holds_a_pointer
copies_onto_itself = refl

-- what lies between members stays
pub leaves_padding : (copy_all (block_of Stack (bytes_of 8 0) ∷ new_block Stack 8 ∷ []) (Into 2 0) (Into 1 0) ((0, 1) ∷ (4, 4) ∷ []) >>= λ after. load_bytes after (Into 2 0) 8)
    ≡ Some (NumberByte 0 ∷ Unwritten ∷ Unwritten ∷ Unwritten ∷ bytes_of 4 0)
leaves_padding = refl

-- ---- whole runs

-- trees of texts of one line, by offsets in it
abbrev pub here : ℕ → Place
here offset = place 1 (suc offset) offset

-- a variable of the type `char *`, what is pointed to, a variable of the first struct, and a member of an object
abbrev pub pointer : ℕ → ℕ → ℕ → Expression
pointer at name decl = Node (here at) (Ptr (Int I8)) (Variable (record { name = name; decl = decl }))

abbrev pub pointed : ℕ → Expression → Expression
pointed at e = Node (here at) (Int I8) (Unary unary.Deref e)

abbrev pub struct_named : ℕ → ℕ → ℕ → Expression
struct_named at name decl = Node (here at) (Struct 0) (Variable (record { name = name; decl = decl }))

abbrev pub member : ℕ → PlainType → Expression → ℕ → Expression
member at t e name = Node (here at) t (Dot e name)

-- the conversion that typing puts around an operand
abbrev pub converted : PlainType → Expression → Expression
converted t e = Node (place_of e) t (Cast t e)

abbrev pub assigned : ℕ → PlainType → Expression → Expression → Expression
assigned at t a b = Node (here at) t (Assign None a b)

abbrev pub does : ℕ → Expression → BlockItem
does at e = Run (Eval (here at) e)

abbrev pub unwritten_struct : ℕ → ℕ → BlockItem
unwritten_struct at name = Declare (record { place = here at; name = name; named = true; ctype = Struct 0; init = None } ∷ [])

--     int main(void) { char *p = malloc(0); if (p == NULL) { putchar('0'); } free(p); return 0; }
abbrev pub asks_for_nothing : TranslationUnit
asks_for_nothing =
    main_alone (codes "main" ∷ codes "p" ∷ codes "malloc" ∷ codes "NULL" ∷ codes "putchar" ∷ codes "free" ∷ []) (here 4) (here 15) (here 90)
    (Declare (object_of (Ptr (Int I8)) (here 23) 1 (here 25) (converted (Ptr (Int I8)) (library_call (Ptr Void) (here 33) 2 (converted (Int U64) (literal (here 34) 0) ∷ []))) ∷ [])
    ∷ Run (If (here 38) (binary (here 44) Eq (converted (Ptr Void) (pointer 42 1 23)) (Node (here 47) (Ptr Void) (Variable (record { name = 3; decl = 4294967295 }))))
    (Block (here 53) (items_of (does 55 (putchar_call (here 62) 4 (letter (here 63) 48)) ∷ []))) NoElse)
    ∷ does 71 (library_call Void (here 75) 5 (converted (Ptr Void) (pointer 76 1 23) ∷ []))
    ∷ Run (Return (here 80) (Some (literal (here 87) 0))) ∷ [])

pub asks_for_nothing-runs : run asks_for_nothing no_input 10 ≡ record { final = Exits (pos 0); output = codes "0"; left = 10 }
asks_for_nothing-runs = refl

-- `calloc(4294967296, 4294967296)`: the product isn't wrapped
pub asks_for_too_much : (s : State) → length s.store < greatest_number
    → calloc_with (here 0) (Integer (pos 4294967296) ∷ Integer (pos 4294967296) ∷ []) s ≡ Stop (Over (Full segment.Heap)) s
asks_for_too_much s few = too_large_is_full (bits_of U64 (pos 4294967296) * bits_of U64 (pos 4294967296)) (NumberByte 0) s few refl

-- a program of these names, and a state in which `char *p` points to a block of one byte, 0, on the heap
abbrev pub names_the_heap : TranslationUnit
names_the_heap = unit_of (codes "putchar" ∷ codes "free" ∷ codes "p" ∷ []) []

abbrev pub points_to_a_byte : State
points_to_a_byte = record {
  store = block_of Stack (pieces (Into 2 0) 0 8) ∷ heap_block 0 (NumberByte 0 ∷ []) ∷ [];
  scope = (100, 1) ∷ [];
  marks = [];
  calls = 1;
  steps = 10;
  input = no_input;
  output = [];
}

-- `free(p)` in it, by the places of `(` and `p`
abbrev pub free_call : ℕ → ℕ → Expression
free_call at argument = library_call Void (here at) 1 (converted (Ptr Void) (pointer argument 2 100) ∷ [])

--     { putchar(*p + 65); free(p); free(p); }
abbrev pub frees_twice : Statement
frees_twice =
    Block (here 0) (items_of (does 2 (putchar_call (here 9) 0 (binary (here 13) Add (converted int_type (pointed 10 (pointer 11 2 100))) (literal (here 15) 65)))
    ∷ does 20 (free_call 24 25) ∷ does 29 (free_call 33 34) ∷ []))

pub frees_twice-runs : ran (exec names_the_heap 10 frees_twice points_to_a_byte) ≡ record { final = Undefined (here 33); output = codes "A"; left = 10 }
frees_twice-runs = refl

--     { free(p); *p = 'x'; }
abbrev pub writes_to_a_dead_block : Statement
writes_to_a_dead_block =
    Block (here 0) (items_of (does 2 (free_call 6 7) ∷ does 11 (assigned 14 (Int I8) (pointed 11 (pointer 12 2 100)) (converted (Int I8) (letter (here 16) 120))) ∷ []))

pub writes_to_a_dead_block-runs : ran (exec names_the_heap 10 writes_to_a_dead_block points_to_a_byte) ≡ record { final = Undefined (here 14); output = []; left = 10 }
writes_to_a_dead_block-runs = refl

-- a member to which nothing was written is copied so, and a struct can be assigned to itself
--     struct s { int n; char c; }; int main(void) { struct s a; struct s b; a.c = 'q'; b = a; b = b; putchar(b.c); return b.n; }
abbrev pub copies_an_unwritten_member : TranslationUnit
copies_an_unwritten_member = record {
  names = codes "s" ∷ codes "n" ∷ codes "c" ∷ codes "main" ∷ codes "a" ∷ codes "b" ∷ codes "putchar" ∷ [];
  texts = [];
  structs =
      record {
        place = here 7;
        tag = Some 0;
        members = record { place = here 15; name = 1; ctype = int_type; offset = 0 } ∷ record { place = here 23; name = 2; ctype = Int I8; offset = 4 } ∷ [];
        size = 8;
        align = 4;
      } ∷ [];
  enums = [];
  typedefs = [];
  globals = [];
  strays = [];
  funcs =
      definition int_type (here 33) 3 [] (here 44) (here 121)
      (unwritten_struct 55 4
      ∷ unwritten_struct 67 5
      ∷ does 70 (assigned 74 (Int I8) (member 71 (Int I8) (struct_named 70 4 55) 2) (converted (Int I8) (letter (here 76) 113)))
      ∷ does 81 (assigned 83 (Struct 0) (struct_named 81 5 67) (struct_named 85 4 55))
      ∷ does 88 (assigned 90 (Struct 0) (struct_named 88 5 67) (struct_named 92 5 67))
      ∷ does 95 (putchar_call (here 102) 6 (converted int_type (member 104 (Int I8) (struct_named 103 5 67) 2)))
      ∷ Run (Return (here 109) (Some (member 117 int_type (struct_named 116 5 67) 1))) ∷ []) ∷ [];
}

pub copies_an_unwritten_member-runs : run copies_an_unwritten_member no_input 10 ≡ record { final = Undefined (here 117); output = codes "q"; left = 10 }
copies_an_unwritten_member-runs = refl
