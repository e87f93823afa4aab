-- Ours, in words of mon_syntax/specs/Spelled.
-- What the answers on a monitored text mean.
use Rattle.std.specs.Prelude.{◌≡◌, ℕ, List, Some, None, Ok, Err}
use Rattle.c_syntax.specs.RefusalCodes.{name_code, type_code}
use Rattle.c_syntax.specs.declared.refusal.FrontFault.{FrontFault}
use Rattle.c_syntax.specs.declared.refusal.FrontFault.TheVariants as front
use Rattle.c_syntax.specs.Tokens.{PlainTokens}
use Rattle.c_syntax.specs.Programs.{PlainRefusal, plain_refusal}
use Rattle.mon_syntax.specs.Trees.{MonitoredProgram}
use Rattle.mon_syntax.specs.Parsed.{ParsedProgram}
use Rattle.mon_syntax.specs.Checking.{Fault}
use Rattle.mon_syntax.specs.Spelled.{checked, check_refusal, last_refusal, IsMonitoredRefusal}
use Rattle.token_reader.specs.Answers.{RefusesWith}
use Rattle.mon_typing.specs.declared.fault.CheckFault.{CheckFault}
use Rattle.mon_typing.specs.declared.fault.CheckFault.TheVariants.{BadName, BadType, Memory}

-- a refusal is the text's; nothing is said when memory ran out
abbrev pub Refuses : FrontFault → List ℕ → Type 0
Refuses front.Memory text = Unit {0}
Refuses (front.Refused r) text = IsMonitoredRefusal text (plain_refusal r)

-- The refusal is that of the tree's first fault in names and types (E5, E6).
pub record IsCheckRefusal (ts : PlainTokens) (p : ParsedProgram) (r : PlainRefusal) : Type 0 where
  pub fault : Fault
  pub found : checked ts p ≡ Err fault
  pub is : r ≡ check_refusal ts fault

abbrev pub HasFault : FrontFault → PlainTokens → ParsedProgram → Type 0
HasFault front.Memory ts p = Unit {0}
HasFault (front.Refused r) ts p = IsCheckRefusal ts p (plain_refusal r)

-- A tree is refused for its first fault in names and types, or as a whole: for want of room for its globals (E12) or of `i32 main(void)` (E13).
pub data IsTreeRefusal (ts : PlainTokens) (p : ParsedProgram) (r : PlainRefusal) : Type 0 where
  ForFault : IsCheckRefusal ts p r → IsTreeRefusal ts p r
  AsAWhole : (m : MonitoredProgram) → checked ts p ≡ Ok m → last_refusal ts.names p ≡ Some r → IsTreeRefusal ts p r

abbrev pub RefusesTree : FrontFault → PlainTokens → ParsedProgram → Type 0
RefusesTree front.Memory ts p = Unit {0}
RefusesTree (front.Refused r) ts p = IsTreeRefusal ts p (plain_refusal r)

-- a tree without a fault spells the program, and is not refused as a whole
pub record IsEntered (ts : PlainTokens) (p : ParsedProgram) (m : MonitoredProgram) : Type 0 where
  pub is : checked ts p ≡ Ok m
  pub whole : last_refusal ts.names p ≡ None

-- the refusal for a fault in names and types
abbrev pub RefusesFault : PlainTokens → CheckFault → FrontFault → Type 0
RefusesFault ts (BadName at) e = RefusesWith (check_refusal ts (record { code = name_code; place = at })) e
RefusesFault ts (BadType at) e = RefusesWith (check_refusal ts (record { code = type_code; place = at })) e
RefusesFault ts Memory e = e ≡ front.Memory
