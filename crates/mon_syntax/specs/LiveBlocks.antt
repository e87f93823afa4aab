-- The blocks of a store that live on the stack, the youngest first.
use Rattle.std.specs.Prelude.{ℕ, suc, ◌+◌, if◌then◌else◌, List, [], ◌∷◌}
use Rattle.c_model.specs.Memory.{Block, Store, rounded}
use Rattle.mon_syntax.specs.BlockMemory.{is_live_on_stack}

-- a block that lives on the stack: its number, and its size in bytes
pub record LiveBlock : Type 0 where
  pub number : ℕ
  pub size : ℕ

-- what live blocks take of the stack
abbrev pub taken_by : List LiveBlock → ℕ
taken_by [] = 0
taken_by (b ∷ bs) = rounded b.size + taken_by bs

-- a living block with its number
abbrev pub noted : ℕ → Block → LiveBlock
noted number b = record { number = number; size = b.size }

-- the blocks that live on the stack before those found before, the youngest first; the first block has the index k, and so the number k + 1
abbrev pub live_from : ℕ → Store → List LiveBlock → List LiveBlock
live_from k [] found = found
live_from k (b ∷ bs) found = live_from (suc k) bs (if is_live_on_stack b then noted (suc k) b ∷ found else found)

-- the blocks of a store that live on the stack, the youngest first
abbrev pub live_in : Store → List LiveBlock
live_in store = live_from 0 store []
