-- Ours: births of blocks of any kind.
use Rattle.std.specs.Prelude.{◌≡◌, ⊤, ℕ, ◌+◌, ◌<◌, ◌≤◌, length, Result, MatchResult}
use Rattle.c_syntax.specs.declared.types.BlockKind.{BlockKind}
use Rattle.c_syntax.specs.declared.types.BlockKind.TheVariants as kind
use Rattle.c_model.specs.Memory.{rounded, greatest_number}
use Rattle.mon_syntax.specs.declared.spot.RegionName.TheVariants.{Globals}
use Rattle.mon_syntax.specs.Memory.{Gives, IsFull}
use Rattle.mon_syntax.specs.Flat.{Flat, Answer, born, flat_store_block, heap_block, pointer_to}
use Rattle.flat_mem.specs.declared.BirthFault.{BirthFault}
use Rattle.flat_mem.specs.declared.BirthFault.TheVariants as fault

-- there are a number and a place behind the globals and literals
pub record HasRoom (f : Flat) (n : ℕ) : Type 0 where
  pub number : f.births < greatest_number
  pub place : f.placed + rounded n ≤ length f.globals.bytes

-- what must hold at a birth: nothing, but for globals and literals that there is room
abbrev pub MayBeBorn : Flat → BlockKind → ℕ → Type 0
MayBeBorn f kind.Global n = HasRoom f n
MayBeBorn f kind.Literal n = HasRoom f n
MayBeBorn f kind.Stack n = ⊤
MayBeBorn f kind.Heap n = ⊤

-- a block behind the globals and literals, no byte of it written
abbrev pub global_birth : Flat → BlockKind → ℕ → Flat
global_birth f k n = record (born f Globals k f.placed n) { placed = f.placed + rounded n }

abbrev pub flat_birth : Flat → BlockKind → ℕ → Answer ℕ
flat_birth f kind.Global n = Gives (pointer_to (f.births + 1) Globals f.placed) (global_birth f kind.Global n)
flat_birth f kind.Literal n = Gives (pointer_to (f.births + 1) Globals f.placed) (global_birth f kind.Literal n)
flat_birth f kind.Stack n = flat_store_block f n
flat_birth f kind.Heap n = heap_block f n

abbrev pub unborn : {A : Type 0} → BirthFault → Answer A
unborn (fault.Full full) = IsFull full

-- the pointer and the memory after it, or what is full, and then the memory is as before
abbrev pub Bears : {A : Type 0} → Answer A → Flat → Flat → Result A BirthFault → Type 0
Bears reply old new result = MatchResult result (λ p. reply ≡ Gives p new) (λ why. (reply ≡ unborn why) × (new ≡ old))
