-- Ours: how the code compares with the typing of C99 6.5 that stands in c_model/specs/ExpressionTyping.
-- What a function returned is what the definition gives, unless memory ran out.
use Rattle.std.specs.Prelude.{◌≡◌, Some, cond, nat_lt, Result, Ok, Err}
use Rattle.c_model.specs.Checked.{Checked, Good, refusing, rank}
use Rattle.c_model.specs.Checked as plain
use Rattle.c_scopes.specs.declared.fault.Fault.{Fault}
use Rattle.c_scopes.specs.declared.fault.TypeFault.{TypeFault}
use Rattle.c_scopes.specs.declared.fault.TypeFault.TheVariants.{Refused, Memory}

abbrev pub plain_fault : Fault → plain.Fault
plain_fault f = record { code = f.code; place = f.place }

-- the tree, or the least of all faults
abbrev pub Answers : {T A : Type 0} → (T → A) → Checked A → Result T TypeFault → Type 0
Answers plain c (Ok t) = c ≡ Good (plain t)
Answers plain c (Err (Refused f)) = refusing c ≡ Some (plain_fault f)
Answers plain c (Err Memory) = Unit {0}

-- a statement that stands beside an answer, unless memory ran out
abbrev pub IfTold : {T : Type 0} → Result T TypeFault → Type 0 → Type 0
IfTold (Ok t) P = P
IfTold (Err (Refused f)) P = P
IfTold (Err Memory) P = Unit {0}

-- a fault of the text: memory was not wanting
abbrev pub IsRefusal : TypeFault → Type 0
IsRefusal (Refused f) = Unit {0}
IsRefusal Memory = ⊥

-- the fault that comes of two
abbrev pub lesser_of : TypeFault → TypeFault → TypeFault
lesser_of (Refused f) (Refused g) = Refused (cond (nat_lt (rank (plain_fault g)) (rank (plain_fault f))) g f)
lesser_of (Refused f) Memory = Memory
lesser_of Memory g = Memory

-- an answer and that of another part, which tells no more than its fault, as one
abbrev pub both : {T : Type 0} → Result T TypeFault → Result (Unit {0}) TypeFault → Result T TypeFault
both a (Ok u) = a
both (Ok x) (Err g) = Err g
both (Err f) (Err g) = Err (lesser_of f g)
