-- Stores into members, structs that are assigned, and what they become, by computation.
use Rattle.std.proofs.Common.{◌≡◌, ℕ, pos, [], ◌∷◌, Some, None, refl}
use Rattle.c_syntax.specs.declared.place.Place.{Place}
use Rattle.c_syntax.specs.declared.types.CInt.TheVariants as c
use Rattle.c_syntax.specs.declared.expression.BumpOp.TheVariants.{PostUp}
use Rattle.c_syntax.specs.declared.expression.UnOp.TheVariants as prefix
use Rattle.c_syntax.specs.Ctypes.{Ptr, Struct, int_type}
use Rattle.c_syntax.specs.Expressions as source
use Rattle.c_syntax.specs.Expressions.{Expression, Node}
use Rattle.c_syntax.specs.Programs.{StructMember, TranslationUnit}
use Rattle.mon_syntax.specs.declared.tree.MonOp.TheVariants as mon
use Rattle.mon_syntax.specs.declared.tree.MonType.TheVariants as kind
use Rattle.mon_syntax.specs.declared.tree.CopySize.TheVariants.{Four}
use Rattle.mon_syntax.specs.declared.tree.MemoryCall.TheVariants.{Copy}
use Rattle.mon_syntax.specs.Registers.{Bindings}
use Rattle.mon_syntax.specs.Trees.{MonExpression, Register, Constant, Binary, Load, Set, Store, Act, Then, NoStatement}
use Rattle.c_effects.specs.Full.{act, act_takes}

abbrev here : Place
here = record { line = 1; column = 1; offset = 1 }

-- `struct s { int a; int b; };`, whose members have the names 7 and 8
abbrev member : ℕ → ℕ → StructMember
member x offset = record { place = here; name = x; ctype = int_type; offset = offset }

abbrev program : TranslationUnit
program = record {
  names = [];
  structs = record { place = here; tag = Some 6; members = member 7 0 ∷ member 8 4 ∷ []; size = 8; align = 4 } ∷ [];
  enums = [];
  typedefs = [];
  globals = [];
  funcs = [];
  texts = [];
  strays = [];
}

-- register 0 points to the block of `p`, which is a pointer to the struct
abbrev bound : Bindings
bound = (1, 0) ∷ []

abbrev pointer : Expression
pointer = Node here (Ptr (Struct 0)) (source.Variable (record { name = 1; decl = 1 }))

abbrev second : Expression
second = Node here int_type (source.Arrow pointer 8)

abbrev one : Expression
one = Node here int_type (source.Number (pos 1) (Some c.I32))

-- `p->b = 1`: the pointer, the value, and then the member's place
assigned_is : act program bound (kind.Ptr ∷ []) (Node here int_type (source.Assign None second one))
    ≡ Then (Set 1 (Load kind.Ptr (Register 0))) (Then (Set 2 (Binary mon.Add kind.Ptr (Register 1) (Constant kind.I64 (pos 4)))) (Then (Store 2 kind.I32 (Constant kind.I32 (pos 1))) NoStatement))
assigned_is = refl

assigned_registers : act_takes program (Node here int_type (source.Assign None second one)) ≡ kind.Ptr ∷ kind.Ptr ∷ []
assigned_registers = refl

-- `p->b++`
bumped_is : act program bound (kind.Ptr ∷ []) (Node here int_type (source.Bump PostUp second))
    ≡ Then (Set 1 (Load kind.Ptr (Register 0))) (Then (Set 2 (Binary mon.Add kind.Ptr (Register 1) (Constant kind.I64 (pos 4))))
    (Then (Store 2 kind.I32 (Binary mon.Add kind.I32 (Load kind.I32 (Register 2)) (Constant kind.I32 (pos 1)))) NoStatement))
bumped_is = refl

-- the struct that a pointer points to, and a variable with one, to whose block register 1 points
abbrev target : Expression
target = Node here (Struct 0) (source.Unary prefix.Deref pointer)

abbrev whole : Expression
whole = Node here (Struct 0) (source.Variable (record { name = 2; decl = 2 }))

abbrev offset : ℕ → ℕ → MonExpression
offset r d = Binary mon.Add kind.Ptr (Register r) (Constant kind.I64 (pos d))

-- `*p = x`: the pointer, and then the two members
copied_is : act program ((1, 0) ∷ (2, 1) ∷ []) (kind.Ptr ∷ kind.Ptr ∷ []) (Node here (Struct 0) (source.Assign None target whole))
    ≡ Then (Set 2 (Load kind.Ptr (Register 0))) (Then (Act None (Copy Four) (offset 2 0 ∷ offset 1 0 ∷ [])) (Then (Act None (Copy Four) (offset 2 4 ∷ offset 1 4 ∷ [])) NoStatement))
copied_is = refl

copied_registers : act_takes program (Node here (Struct 0) (source.Assign None target whole)) ≡ kind.Ptr ∷ []
copied_registers = refl
