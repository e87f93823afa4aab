-- From what a pass over a program answered to what its phase answers.
use Rattle.std.proofs.Common.{◌≡◌, Err, sym, subst}
use Rattle.std.proofs.Math.Logic.{∥∥₁_elim}
use Rattle.c_syntax.specs.declared.refusal.FrontFault.{FrontFault}
use Rattle.c_syntax.specs.declared.refusal.FrontFault.TheVariants as front
use Rattle.c_syntax.specs.Tokens.{PlainTokens}
use Rattle.c_syntax.specs.Programs.{TranslationUnit}
use Rattle.c_model.specs.Checked.{Checked, Good}
use Rattle.c_model.specs.AnnotationTyping.{noted_unit}
use Rattle.c_model.specs.AnnotationRanges.{ranged_unit}
use Rattle.c_scopes.specs.declared.fault.TypeFault.{TypeFault}
use Rattle.c_scopes.specs.declared.fault.TypeFault.TheVariants as fault
use Rattle.c_scopes.specs.Answers.{plain_fault, Answers}
use Rattle.c_phases.specs.Facts.{IsTypedProgram, IsNotedProgram, IsRangedProgram}
use Rattle.c_phases.specs.Answers.{RefusesFault, RefusedBy, IsFaultRefusal}

pub phase_refused : (ts : PlainTokens) (c : Checked TranslationUnit) (q : TranslationUnit) (f : TypeFault) (e : FrontFault) → Answers (λ (u : Unit {0}). q) c (Err f) → RefusesFault ts f e → RefusedBy (IsFaultRefusal ts c) e
phase_refused ts c q (fault.Refused f) front.Memory h g = tt
phase_refused ts c q (fault.Refused f) (front.Refused r) h g = record { fault = plain_fault f; found = h; is = g }
phase_refused ts c q fault.Memory e h g = subst (RefusedBy (IsFaultRefusal ts c)) (sym g) tt

-- ---- what programs keep

module _ (ts : PlainTokens) (p q : TranslationUnit) where
  pub keeps_noted : ∥ IsTypedProgram ts p ∥₁ → noted_unit p ≡ Good q → ∥ IsNotedProgram ts q ∥₁
  keeps_noted typed h = ∥∥₁_elim typed (λ x y. squash₁ x y) (λ t. ∣ (record { typed = p; is_typed = t; noted = h }) ∣₁)

  pub keeps_ranged : ∥ IsNotedProgram ts p ∥₁ → ranged_unit p ≡ Good q → ∥ IsRangedProgram ts q ∥₁
  keeps_ranged noted h = ∥∥₁_elim noted (λ x y. squash₁ x y) (λ t. ∣ (record { noted = p; is_noted = t; ranged = h }) ∣₁)
