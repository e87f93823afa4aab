-- How terms, predicates and zones of annotations are written by hand, at one place and without ranges; and a memory to ask about.
use Rattle.std.specs.Prelude.{ℕ, ℤ, pos, false, List, [], ◌∷◌, ◌++◌, replicate, Option, Some, None}
use Rattle.c_syntax.specs.declared.place.Place.{Place}
use Rattle.c_syntax.specs.declared.annotation.Range.{Range}
use Rattle.c_syntax.specs.declared.annotation.Relation.{Relation}
use Rattle.c_syntax.specs.declared.annotation.Relation.TheVariants.{Eq, Ne}
use Rattle.c_syntax.specs.declared.expression.BinOp.{BinOp}
use Rattle.c_syntax.specs.declared.types.CInt.TheVariants.{I8, I32, I64}
use Rattle.c_syntax.specs.declared.types.BlockKind.TheVariants as block
use Rattle.c_syntax.specs.declared.logic.BlockFact.{BlockFact}
use Rattle.c_syntax.specs.declared.logic.Connective.{Connective}
use Rattle.c_syntax.specs.declared.logic.MemoryQuestion.{MemoryQuestion}
use Rattle.c_syntax.specs.declared.logic.PointerOp.TheVariants.{Plus, Minus}
use Rattle.c_syntax.specs.Ctypes.{PlainType, Int, Ptr, Array, Struct, Count}
use Rattle.c_syntax.specs.Formulas.{OfC}
use Rattle.c_syntax.specs.Logic.{LogicTerm, Number, Variable, Binary, Cast, Named, Null, Deref, Member, Address, Moved, Difference, Told}
use Rattle.c_syntax.specs.Logic.{Predicate, Chain, Linked, NoLink, Connected, Asks, Separated, Zone, Object, Elements, Zones, NoZone, Another}
use Rattle.c_model.specs.Memory.{Store, Pointer, Null as NullPointer, Into, Block, Unwritten, LoosePiece, Number as Byte, pieces, block_of, bytes_of, heap_block}
use Rattle.c_model.specs.State.{Scope, State, EndOfInput}
use Rattle.c_model.specs.Logic.{TermValue, Mathematical, Addressed, Answer}
use Rattle.c_model.specs.Predicates.{term, pred}
use Rattle.c_model.specs.Ranges.{from_to}

abbrev pub here : Place
here = record { line = 1; column = 1; offset = 0 }

abbrev pub any : Range
any = from_to (pos 0) (pos 0)

abbrev pub int : PlainType
int = Int I32

abbrev pub char : PlainType
char = Int I8

-- ---- terms

abbrev pub number : ℤ → LogicTerm
number n = Number here None any n

abbrev pub variable : PlainType → ℕ → LogicTerm
variable t x = Variable here (Some t) any (record { name = x; decl = x })

-- a binder, by its number, and `\result`
abbrev pub bound : ℕ → LogicTerm
bound x = Named here None any (record { name = x; decl = x })

abbrev pub result_of : PlainType → LogicTerm
result_of t = Named here (Some t) any (record { name = 0; decl = 4294967294 })

abbrev pub operated : BinOp → LogicTerm → LogicTerm → LogicTerm
operated op t u = Binary here None any op t u

-- the place of a type that a pointer points to, and the address of a place
abbrev pub deref : PlainType → LogicTerm → LogicTerm
deref t p = Deref here (Some t) any p

abbrev pub member : PlainType → ℕ → LogicTerm → LogicTerm
member t d s = Member here (Some t) any d s

abbrev pub at_address : LogicTerm → LogicTerm
at_address t = Address here (Some (Ptr int)) any t

-- so many elements of a size on, and back
abbrev pub moved_on : ℕ → LogicTerm → LogicTerm → LogicTerm
moved_on size p i = Moved here (Some (Ptr int)) any Plus size p i

abbrev pub moved_back : ℕ → LogicTerm → LogicTerm → LogicTerm
moved_back size p i = Moved here (Some (Ptr int)) any Minus size p i

-- the same of ints
abbrev pub plus : LogicTerm → ℤ → LogicTerm
plus p i = moved_on 4 p (number i)

abbrev pub minus : LogicTerm → ℤ → LogicTerm
minus p i = moved_back 4 p (number i)

abbrev pub as_pointer : PlainType → LogicTerm → LogicTerm
as_pointer t p = Cast here (Some (Ptr t)) any (OfC (Ptr t)) p

-- a pointer so many bytes farther
abbrev pub bytes_on : LogicTerm → ℤ → LogicTerm
bytes_on p i = moved_on 1 (as_pointer char p) (number i)

abbrev pub difference : ℕ → LogicTerm → LogicTerm → LogicTerm
difference size p q = Difference here None any size p q

abbrev pub null : LogicTerm
null = Null here (Some (Ptr int)) any

abbrev pub told_of : BlockFact → LogicTerm → LogicTerm
told_of f p = Told here None any f p

-- ---- zones of ints, and of other elements

abbrev pub object : LogicTerm → Zone
object p = Object here 4 4 p

abbrev pub elements : LogicTerm → ℤ → ℤ → Zone
elements p lo hi = Elements here 4 4 p (number lo) (number hi)

abbrev pub bytes : LogicTerm → ℤ → ℤ → Zone
bytes p lo hi = Elements here 1 1 p (number lo) (number hi)

abbrev pub zones_of : List Zone → Zones
zones_of [] = NoZone
zones_of (z ∷ zs) = Another z (zones_of zs)

-- ---- predicates

abbrev pub related_by : Relation → LogicTerm → LogicTerm → Predicate
related_by r t u = Chain here t (Linked here r u NoLink)

abbrev pub same : LogicTerm → LogicTerm → Predicate
same t u = related_by Eq t u

abbrev pub other : LogicTerm → LogicTerm → Predicate
other t u = related_by Ne t u

abbrev pub connected_by : Connective → Predicate → Predicate → Predicate
connected_by c f g = Connected here c f g

abbrev pub asked : MemoryQuestion → Zone → Predicate
asked f z = Asks here f z

abbrev pub separated : List Zone → Predicate
separated zs = Separated here (zones_of zs)

-- ---- a memory

abbrev pub dead : Block → Block
dead b = record b { live = false }

abbrev pub state_of : Store → Scope → State
state_of store scope = record { store = store; scope = scope; marks = []; calls = 1; steps = 5; input = record { bytes = []; tail = EndOfInput }; output = [] }

abbrev pub holding : Pointer → Block
holding p = block_of block.Stack (pieces p 0 8)

-- 1: int a[4];  2: "ab";  3: int *p = a + 4;  4: int x;  5: heap, dead;  6: heap;  7: int *q, to 5;  8: struct { char c; int n; } s, with s.n = 7;
-- 9: char *w, to 2;  10: int *z, static;  11: int *u;  12: int **pp = &p;  13: int *n = NULL;  14: long l = 5;  15: loose pieces;
-- 16: int t[2][3] = {{0, 1, 2}, {3, 4, 5}};  17: char k[8], with k[0] = 200;  18: four pieces and a zero
abbrev pub now : State
now = state_of (
    block_of block.Global (replicate 16 (Byte 0)) ∷ block_of block.Literal (Byte 97 ∷ Byte 98 ∷ Byte 0 ∷ []) ∷ holding (Into 1 16) ∷ block_of block.Stack (replicate 4 Unwritten)
    ∷ dead (heap_block 0 (replicate 8 Unwritten)) ∷ heap_block 0 (replicate 8 Unwritten) ∷ holding (Into 5 0) ∷ block_of block.Stack (replicate 4 Unwritten ++ bytes_of 4 7)
    ∷ holding (Into 2 0) ∷ block_of block.Global (replicate 8 (Byte 0)) ∷ block_of block.Stack (replicate 8 Unwritten) ∷ holding (Into 3 0) ∷ holding NullPointer
    ∷ block_of block.Stack (bytes_of 8 5) ∷ block_of block.Stack (replicate 8 LoosePiece)
    ∷ block_of block.Global (bytes_of 4 0 ++ (bytes_of 4 1 ++ (bytes_of 4 2 ++ (bytes_of 4 3 ++ (bytes_of 4 4 ++ bytes_of 4 5)))))
    ∷ block_of block.Stack (Byte 200 ∷ replicate 7 Unwritten) ∷ block_of block.Stack (pieces (Into 1 0) 0 4 ++ replicate 4 (Byte 0)) ∷ [])
    ((10, 1) ∷ (30, 3) ∷ (40, 4) ∷ (70, 7) ∷ (80, 8) ∷ (90, 9) ∷ (100, 10) ∷ (110, 11) ∷ (120, 12) ∷ (130, 13) ∷ (140, 14) ∷ (150, 15) ∷ (160, 16) ∷ (170, 17) ∷ (180, 18) ∷ [])

abbrev pub a : LogicTerm
a = variable (Array int (Count 4)) 10

abbrev pub p : LogicTerm
p = variable (Ptr int) 30

abbrev pub x : LogicTerm
x = variable int 40

abbrev pub q : LogicTerm
q = variable (Ptr int) 70

abbrev pub s : LogicTerm
s = variable (Struct 0) 80

abbrev pub w : LogicTerm
w = variable (Ptr char) 90

abbrev pub z : LogicTerm
z = variable (Ptr int) 100

abbrev pub u : LogicTerm
u = variable (Ptr int) 110

abbrev pub pp : LogicTerm
pp = variable (Ptr (Ptr int)) 120

abbrev pub n : LogicTerm
n = variable (Ptr int) 130

abbrev pub l : LogicTerm
l = variable (Int I64) 140

abbrev pub loose : LogicTerm
loose = variable (Array char (Count 8)) 150

abbrev pub t : LogicTerm
t = variable (Array (Array int (Count 3)) (Count 2)) 160

abbrev pub k : LogicTerm
k = variable (Array char (Count 8)) 170

abbrev pub mixed : LogicTerm
mixed = variable (Array char (Count 8)) 180

-- ---- what terms and predicates say there

abbrev pub value : LogicTerm → Option TermValue
value t = term t now []

abbrev pub says : Predicate → Answer
says f = pred f now [] 5

abbrev pub is : ℤ → Option TermValue
is z = Some (Mathematical z)

-- a pointer into a block
abbrev pub into : ℕ → ℤ → Option TermValue
into block offset = Some (Addressed (record { block = block; offset = offset }))
