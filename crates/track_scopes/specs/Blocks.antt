-- Lifetimes are those of C99 6.2.4; registers and statements are ours.
-- The blocks of a function's variables in monitored C. A variable's value stands in its block, and a register points to the block, which is
-- born and dies where the variable's does.
use Rattle.std.specs.Prelude.{ℕ, suc, ◌<◌, ◌^◌, pos, List, [], ◌∷◌, ◌++◌, length, Some, None}
use Rattle.c_syntax.specs.Programs.{StructType}
use Rattle.c_syntax.specs.Statements.{Declaration}
use Rattle.c_syntax.specs.Layouts.{size_of}
use Rattle.c_model.specs.Formed.{number_of}
use Rattle.mon_syntax.specs.declared.tree.MonType.TheVariants.{U64, Ptr}
use Rattle.mon_syntax.specs.declared.tree.MemoryCall.TheVariants.{StoreBlock, DeleteBlock}
use Rattle.mon_syntax.specs.Registers.{RegisterTable, bound_with}
use Rattle.mon_syntax.specs.Trees.{MonStatement, Act, MonStatements, NoStatement, Then, Constant, Register}

-- with a further register that points to a variable's block, and is bound to the variable
abbrev pub with_pointer : Declaration → RegisterTable → RegisterTable
with_pointer d r = record { kinds = r.kinds ++ Ptr ∷ []; bound = bound_with (number_of d) (length r.kinds) r.bound }

-- the same for variables in order
abbrev pub entered : List Declaration → RegisterTable → RegisterTable
entered [] r = r
entered (d ∷ ds) r = entered ds (with_pointer d r)

-- `p = __e_acsl_store_block(size);`
abbrev pub birth : List StructType → ℕ → Declaration → MonStatement
birth structs p d = Act (Some p) StoreBlock (Constant U64 (pos (size_of structs d.ctype)) ∷ [])

-- the births of variables' blocks in order, to which the registers from this one on point
abbrev pub births : List StructType → ℕ → List Declaration → MonStatements
births structs p [] = NoStatement
births structs p (d ∷ ds) = Then (birth structs p d) (births structs (suc p) ds)

-- the sizes of these variables have 64 bits at most, as a constant of a birth has them
abbrev pub AreSmall : List StructType → List Declaration → Type 0
AreSmall structs [] = Unit {0}
AreSmall structs (d ∷ ds) = (size_of structs d.ctype < 2 ^ 64) × AreSmall structs ds

-- `__e_acsl_delete_block(p);`
abbrev pub death : ℕ → MonStatement
death p = Act None DeleteBlock (Register p ∷ [])

abbrev pub deaths : List ℕ → MonStatements
deaths [] = NoStatement
deaths (p ∷ live) = Then (death p) (deaths live)

-- the blocks that live after such births, by the registers that point to them, the youngest first
abbrev pub with_born : ℕ → List Declaration → List ℕ → List ℕ
with_born p [] live = live
with_born p (d ∷ ds) live = with_born (suc p) ds (p ∷ live)
