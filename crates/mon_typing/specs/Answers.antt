-- Ours: how the code compares with mon_syntax/specs/Checking.
-- What a function returned is what the definition gives, unless memory ran out.
use Rattle.std.specs.Prelude.{◌≡◌, ℕ, List, Some, None, Result, Ok, Err}
use Rattle.mon_syntax.specs.Checking.{Checked, Typed, name_fault, type_fault, checked_program}
use Rattle.mon_syntax.specs.declared.tree.MonType.{MonType}
use Rattle.mon_syntax.specs.declared.tree.MonExpr.{MonExpr}
use Rattle.mon_syntax.specs.Trees.{plain_expr}
use Rattle.mon_syntax.specs.declared.tree.MonProgram.{MonProgram}
use Rattle.mon_syntax.specs.Trees.{MonitoredProgram, plain_program}
use Rattle.mon_syntax.specs.Parsed.{ParsedProgram}
use Rattle.mon_syntax.specs.Grammar.{Vocabulary}
use Rattle.mon_syntax.specs.Spelled.{first_too_large}
use Rattle.mon_parser.specs.ParsedTrees.{plain_name}
use Rattle.mon_typing.specs.declared.fault.CheckFault.{CheckFault}
use Rattle.mon_typing.specs.declared.fault.CheckFault.TheVariants.{BadName, BadType, Memory}
use Rattle.mon_typing.specs.declared.fault.ProgramFault.{ProgramFault}
use Rattle.mon_typing.specs.declared.fault.ProgramFault.TheVariants.{InPart, TooLarge}

abbrev pub Fails : {A : Type 0} → CheckFault → Checked A → Type 0
Fails (BadName at) checked = checked ≡ name_fault at
Fails (BadType at) checked = checked ≡ type_fault at
Fails Memory checked = Unit {0}

-- a fault of the text: a call that takes no memory is never out of it
abbrev pub TakesNoMemory : CheckFault → Type 0
TakesNoMemory (BadName at) = Unit {0}
TakesNoMemory (BadType at) = Unit {0}
TakesNoMemory Memory = ⊥

abbrev pub Gives : {X A : Type 0} → (X → A) → Result X CheckFault → Checked A → Type 0
Gives view (Ok x) checked = checked ≡ Ok (view x)
Gives view (Err e) checked = Fails e checked

abbrev pub plain_typed : MonExpr × MonType → Typed
plain_typed x = (plain_expr x.0, x.1)

-- the program that a tree spells, which has room for its globals; a fault of names or types; or, where there is none, the
-- global that is too large
abbrev pub GivesProgram : List (List ℕ) → Vocabulary → ParsedProgram → Result MonProgram ProgramFault → Type 0
GivesProgram names ws p (Ok m) = (checked_program names ws p ≡ Ok (plain_program m)) × (first_too_large 0 p.globals ≡ None)
GivesProgram names ws p (Err (InPart e)) = Fails e (checked_program names ws p)
GivesProgram names ws p (Err (TooLarge x)) =
    ((m : MonitoredProgram) × (checked_program names ws p ≡ Ok m)) × (first_too_large 0 p.globals ≡ Some (plain_name x))
