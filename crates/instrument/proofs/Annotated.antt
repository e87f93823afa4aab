-- What is known of the annotations of a function of an accepted program, by its text.
use Rattle.std.proofs.Common.{◌≡◌, List, [], ◌∷◌}
use Rattle.std.specs.List.{AllByRecursion}
use Rattle.c_syntax.specs.Programs.{Function, TranslationUnit}
use Rattle.c_model.specs.AcceptedPrograms.{IsProgram}
use Rattle.c_model.specs.AnnotationRanges.{seen_result}
use Rattle.c_model.specs.Formed.{IsShortClause}
use Rattle.c_model.specs.FormedContracts.{MaybeFormed, ContractsFormed}
use Rattle.c_model.specs.KeptTerms.{StandApart}
use Rattle.c_model.specs.TypedAnnotations.{ContractNoted}
use Rattle.c_model.specs.UnrangedPrograms.{ContractRanged, FunctionsRanged}
use Rattle.c_model.proofs.PlacedFunctions.{entries_are_one}
use Rattle.annot_simulation.specs.Plan.{Entry, IsIn, offset_of, planned}

-- no two of these terms stand at one place
abbrev pub AreApart : List Entry → Type 0
AreApart xs = (x y : Entry) → IsIn x xs → IsIn y xs → offset_of y ≡ offset_of x → y ≡ x

pub record IsAnnotated (p : TranslationUnit) (f : Function) : Type 0 where
  pub apart : AreApart (planned f)
  -- the contract is typed, its clauses are short, and its terms keep their ranges
  pub contract : ContractNoted p f
  pub formed : MaybeFormed IsShortClause f.contract
  pub ranged : ContractRanged (seen_result f.result) f.contract

-- each of these functions
abbrev pub AreAnnotated : TranslationUnit → List Function → Type 0
AreAnnotated p [] = Unit {0}
AreAnnotated p (f ∷ fs) = IsAnnotated p f × AreAnnotated p fs

each_annotated : (p : TranslationUnit) (fs : List Function) → AllByRecursion (λ (f : Function). StandApart (planned f)) fs → AllByRecursion (ContractNoted p) fs
    → ContractsFormed IsShortClause fs → FunctionsRanged fs → AreAnnotated p fs
each_annotated p [] apart contracts formed ranged = tt
each_annotated p (f ∷ fs) apart contracts formed ranged = (
  record { apart = entries_are_one (planned f) apart.0; contract = contracts.0; formed = formed.0; ranged = ranged.0.0 },
  each_annotated p fs apart.1 contracts.1 formed.1 ranged.1,
)

pub are_annotated : (p : TranslationUnit) → IsProgram p → FunctionsRanged p.funcs → AreAnnotated p p.funcs
are_annotated p q ranged = each_annotated p p.funcs q.kept_apart q.contracts_noted q.contracts ranged
