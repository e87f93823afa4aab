-- From what typing found to the answers of its phases.
use Rattle.std.proofs.Common.{Err, sym, subst}
use Rattle.std.proofs.Math.Logic.{∥∥₁_elim}
use Rattle.c_syntax.specs.declared.refusal.FrontFault.{FrontFault}
use Rattle.c_syntax.specs.declared.refusal.FrontFault.TheVariants as front
use Rattle.c_syntax.specs.Tokens.{PlainTokens}
use Rattle.c_syntax.specs.Programs.{TranslationUnit}
use Rattle.c_scopes.specs.Answers.{plain_fault}
use Rattle.c_phases.specs.Facts.{IsParsedTree, IsTypedProgram}
use Rattle.c_phases.specs.Answers.{RefusedBy}
use Rattle.c_typing.specs.declared.checked.ProgramFault.{ProgramFault}
use Rattle.c_typing.specs.declared.checked.ProgramFault.TheVariants as cause
use Rattle.c_typing.specs.Answers.{ChecksProgram, IsTypedAs, IsTypingRefusal, OfTypes, OfRoom, OfMain, RefusesProgram}
use Rattle.c_typing.specs.Standing.{Stands, Stands-prop}
use Rattle.c_typing.proofs.Standing.{stands}

pub program_refused : (ts : PlainTokens) (p q : TranslationUnit) (f : ProgramFault) (e : FrontFault) → ChecksProgram p q (Err f) → RefusesProgram ts f e → RefusedBy (IsTypingRefusal ts p) e
program_refused ts p q (cause.Refused f) front.Memory h g = tt
program_refused ts p q (cause.Refused f) (front.Refused r) h g = OfTypes (plain_fault f) h g
program_refused ts p q (cause.NoRoom f) front.Memory h g = tt
program_refused ts p q (cause.NoRoom f) (front.Refused r) h g = OfRoom (plain_fault f) h g
program_refused ts p q (cause.NoMain f) front.Memory h g = tt
program_refused ts p q (cause.NoMain f) (front.Refused r) h g = OfMain (plain_fault f) h g
program_refused ts p q cause.Memory e h g = subst (RefusedBy (IsTypingRefusal ts p)) (sym g) tt

-- ---- what the programs keep

pub keeps_typed : (ts : PlainTokens) (p q : TranslationUnit) → ∥ IsParsedTree ts p ∥₁ → IsTypedAs p q → ∥ IsTypedProgram ts q ∥₁
keeps_typed ts p q parsed h =
    ∥∥₁_elim parsed (λ x y. squash₁ x y) (λ tree. ∣ (record { tree = p; parsed = tree; typed = h.typed; room = h.room; main = h.main }) ∣₁)

pub keeps_standing : (ts : PlainTokens) (p q : TranslationUnit) → ∥ IsParsedTree ts p ∥₁ → IsTypedAs p q → Stands q
keeps_standing ts p q parsed h = ∥∥₁_elim parsed (Stands-prop q) (λ tree. stands p q tree.order h.typed)
