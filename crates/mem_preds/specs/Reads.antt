-- Ours: a choice of code, which reads a place of annotations (ACSL 2.2) only where it can be read.
use Rattle.std.specs.Prelude.{◌≡◌, ℕ, ◌≤◌, ◌^◌, ℤ, true, List, Option, Some, is_some}
use Rattle.c_syntax.specs.declared.types.CInt.{CInt}
use Rattle.c_syntax.specs.Layouts.{IntegerType, PointerType, int_size}
use Rattle.c_model.specs.Memory.{Pointer, Null, Into, Value, Points, Integer, Block, Store, block_at, load}
use Rattle.c_model.specs.MemoryQuestions.{Address, address_of, address_farther, has_number, has_pointer}
use Rattle.c_model.specs.Logic.{load_from, pointer_at}
use Rattle.c_model.specs.Together.{AllTogether}
use Rattle.mon_syntax.specs.declared.tree.MonType.{MonType}
use Rattle.mon_syntax.specs.declared.tree.MonType.TheVariants.{Ptr}
use Rattle.mon_syntax.specs.BlockMemory.{Blocks, over_blocks, scalar_type}
use Rattle.mon_syntax.specs.Meaning.{eval}
use Rattle.mon_syntax.specs.Trees.{MonExpression}
use Rattle.mem_preds.specs.Questions.{read_at}

-- offsets of pointers, and sizes of blocks, of which 64 bits with sign hold a difference
abbrev pub IsSmall : Pointer → Type 0
IsSmall Null = Unit {0}
IsSmall (Into n i) = i ≤ 2 ^ 62

abbrev pub AreSmall : Store → Type 0
AreSmall store = (n : ℕ) (b : Block) → block_at store n ≡ Some b → b.size ≤ 2 ^ 62

-- what a place holds as a type
abbrev pub held : Store → CInt → Address → Option Value
held store k x = load_from store (IntegerType k) (pointer_at x)

abbrev pub pointer_held : Store → Address → Option Value
pointer_held store x = load_from store PointerType (pointer_at x)

-- the question tells where a place holds a number, and there the load is its value
abbrev pub NumbersAreRead : Type 0
NumbersAreRead =
    (gs regs : List Value) (b : Blocks) (t : MonType) (k : CInt) (p o : MonExpression) (x : Pointer) (d : ℤ) → scalar_type t ≡ Some (IntegerType k)
    → AreSmall b.store → IsSmall x → eval over_blocks gs p regs b ≡ Some (Points x) → eval over_blocks gs o regs b ≡ Some (Integer d)
    → (has_number b.store (address_farther (address_of x) d) (int_size k) ≡ is_some (held b.store k (address_farther (address_of x) d)))
    × (has_number b.store (address_farther (address_of x) d) (int_size k) ≡ true
    → eval over_blocks gs (read_at t p o) regs b ≡ held b.store k (address_farther (address_of x) d))

-- the same of a pointer, where pieces stand together
abbrev pub PointersAreRead : Type 0
PointersAreRead =
    (gs regs : List Value) (b : Blocks) (p o : MonExpression) (x : Pointer) (d : ℤ) → AllTogether b.store
    → AreSmall b.store → IsSmall x → eval over_blocks gs p regs b ≡ Some (Points x) → eval over_blocks gs o regs b ≡ Some (Integer d)
    → (has_pointer b.store (address_farther (address_of x) d) ≡ is_some (pointer_held b.store (address_farther (address_of x) d)))
    × (has_pointer b.store (address_farther (address_of x) d) ≡ true
    → eval over_blocks gs (read_at Ptr p o) regs b ≡ pointer_held b.store (address_farther (address_of x) d))
