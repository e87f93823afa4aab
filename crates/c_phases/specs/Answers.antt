-- Ours, in words of the phases of c_model/specs/Phases.
-- What the answers of a phase mean: each refusal has its code, its place and its word.
use Rattle.std.specs.Prelude.{◌≡◌, Some}
use Rattle.c_syntax.specs.declared.refusal.FrontFault.{FrontFault}
use Rattle.c_syntax.specs.declared.refusal.FrontFault.TheVariants as front
use Rattle.c_syntax.specs.Tokens.{PlainTokens}
use Rattle.c_syntax.specs.Programs.{TranslationUnit, PlainRefusal, plain_refusal}
use Rattle.c_model.specs.Checked.{Fault, Checked, refusing}
use Rattle.c_model.specs.Phases.{checked_refusal}
use Rattle.token_reader.specs.Answers.{RefusesWith}
use Rattle.c_scopes.specs.declared.fault.TypeFault.{TypeFault}
use Rattle.c_scopes.specs.declared.fault.TypeFault.TheVariants.{Refused, Memory}
use Rattle.c_scopes.specs.Answers.{plain_fault}

-- the refusal for a fault in names and types
abbrev pub RefusesFault : PlainTokens → TypeFault → FrontFault → Type 0
RefusesFault ts (Refused f) e = RefusesWith (checked_refusal ts (plain_fault f)) e
RefusesFault ts Memory e = e ≡ front.Memory

-- a refusal for which this holds; nothing is said when memory ran out
abbrev pub RefusedBy : (PlainRefusal → Type 0) → FrontFault → Type 0
RefusedBy P front.Memory = Unit {0}
RefusedBy P (front.Refused r) = P (plain_refusal r)

-- the refusal for the first fault of a phase
pub record IsFaultRefusal (ts : PlainTokens) (c : Checked TranslationUnit) (r : PlainRefusal) : Type 0 where
  pub fault : Fault
  pub found : refusing c ≡ Some fault
  pub is : r ≡ checked_refusal ts fault
