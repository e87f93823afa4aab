-- Ours: how registers are numbered.
-- The registers of a function in monitored C while it is made: their types, in the order of their numbers, and the register that is bound to
-- each declaration.
use Rattle.std.specs.Prelude.{ℕ, List, [], ◌∷◌, ◌++◌, length, Option, Some, None, cond, nat_eq}
use Rattle.c_syntax.specs.declared.program.Program.{Program}
use Rattle.mon_syntax.specs.declared.tree.MonType.{MonType}

-- declarations by their numbers, each with its register
abbrev pub Bindings : Type 0
Bindings = List (ℕ × ℕ)

pub record RegisterTable : Type 0 where
  pub kinds : List MonType
  pub bound : Bindings

-- before any register is made
abbrev pub no_registers : RegisterTable
no_registers = record { kinds = []; bound = [] }

-- with further registers of these types
abbrev pub with_kinds : List MonType → RegisterTable → RegisterTable
with_kinds ts r = record r { kinds = r.kinds ++ ts }

-- the number of the next register
abbrev pub next_register : RegisterTable → ℕ
next_register r = length r.kinds

-- the register of a declaration, where one is bound
abbrev pub register_of : Bindings → ℕ → Option ℕ
register_of [] x = None
register_of (b ∷ bs) x = cond (nat_eq b.0 x) (Some b.1) (register_of bs x)

-- this register is bound to the declaration, in the place of one that was bound before
abbrev pub bound_with : ℕ → ℕ → Bindings → Bindings
bound_with x r [] = (x, r) ∷ []
bound_with x r (b ∷ bs) = cond (nat_eq b.0 x) ((x, r) ∷ bs) (b ∷ bound_with x r bs)

-- with this register for the declaration
abbrev pub with_binding : ℕ → ℕ → RegisterTable → RegisterTable
with_binding x r t = record t { bound = bound_with x r t.bound }

-- what is known while a function of a program is made: the program, and the function's registers
pub record Names : Type 0 where
  pub program : Program
  pub table : RegisterTable

abbrev pub with_table : RegisterTable → Names → Names
with_table r n = record n { table = r }
