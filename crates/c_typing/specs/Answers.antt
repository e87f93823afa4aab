-- Ours: how the code compares with the typing of C99 6.7 to 6.9 that stands in c_model/specs/UnitTyping.
-- What typing a program gives, each answer by its cause.
use Rattle.std.specs.Prelude.{◌≡◌, Some, None, Result, Ok, Err}
use Rattle.c_syntax.specs.declared.refusal.FrontFault.{FrontFault}
use Rattle.c_syntax.specs.declared.refusal.FrontFault.TheVariants as front
use Rattle.c_syntax.specs.Tokens.{PlainTokens}
use Rattle.c_syntax.specs.Programs.{TranslationUnit, PlainRefusal}
use Rattle.c_model.specs.Checked.{Fault, Good, refusing}
use Rattle.c_model.specs.UnitTyping.{typed_unit, room_fault, main_fault}
use Rattle.c_model.specs.Phases.{checked_refusal, main_refusal}
use Rattle.token_reader.specs.Answers.{RefusesWith}
use Rattle.c_scopes.specs.Answers.{plain_fault}
use Rattle.c_typing.specs.declared.checked.ProgramFault.{ProgramFault}
use Rattle.c_typing.specs.declared.checked.ProgramFault.TheVariants as cause

-- a typed program with room and `main`
pub record IsTypedAs (p q : TranslationUnit) : Type 0 where
  pub typed : typed_unit p ≡ Good q
  pub room : room_fault q ≡ None
  pub main : main_fault q.names q.funcs ≡ None

-- its names and types have no fault, and this is the first piece without room
pub record HasNoRoom (p : TranslationUnit) (f : Fault) : Type 0 where
  pub typed : TranslationUnit
  pub is : typed_unit p ≡ Good typed
  pub room : room_fault typed ≡ Some f

-- its names, types and room have no fault, and this is what is wrong with `main`
pub record HasNoMain (p : TranslationUnit) (f : Fault) : Type 0 where
  pub typed : TranslationUnit
  pub is : typed_unit p ≡ Good typed
  pub room : room_fault typed ≡ None
  pub main : main_fault typed.names typed.funcs ≡ Some f

-- names and types, then the room of globals and literals, and then `main`: the program q comes of the program p, or its fault
abbrev pub ChecksProgram : TranslationUnit → TranslationUnit → Result (Unit {0}) ProgramFault → Type 0
ChecksProgram p q (Ok u) = IsTypedAs p q
ChecksProgram p q (Err (cause.Refused f)) = refusing (typed_unit p) ≡ Some (plain_fault f)
ChecksProgram p q (Err (cause.NoRoom f)) = HasNoRoom p (plain_fault f)
ChecksProgram p q (Err (cause.NoMain f)) = HasNoMain p (plain_fault f)
ChecksProgram p q (Err cause.Memory) = Unit {0}

-- ---- refusals, by the tokens that are read as the program

-- why typing refuses a program, with the code, the place and the word that it tells
pub data IsTypingRefusal (ts : PlainTokens) (p : TranslationUnit) (r : PlainRefusal) : Type 0 where
  OfTypes : (f : Fault) → refusing (typed_unit p) ≡ Some f → r ≡ checked_refusal ts f → IsTypingRefusal ts p r
  OfRoom : (f : Fault) → HasNoRoom p f → r ≡ checked_refusal ts f → IsTypingRefusal ts p r
  OfMain : (f : Fault) → HasNoMain p f → r ≡ main_refusal f → IsTypingRefusal ts p r

-- the refusal for a fault
abbrev pub RefusesProgram : PlainTokens → ProgramFault → FrontFault → Type 0
RefusesProgram ts (cause.Refused f) e = RefusesWith (checked_refusal ts (plain_fault f)) e
RefusesProgram ts (cause.NoRoom f) e = RefusesWith (checked_refusal ts (plain_fault f)) e
RefusesProgram ts (cause.NoMain f) e = RefusesWith (main_refusal (plain_fault f)) e
RefusesProgram ts cause.Memory e = e ≡ front.Memory
