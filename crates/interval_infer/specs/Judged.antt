-- Ours: where a run of a program of an accepted text judges an annotation, loads fit and so do the names in sight, so that each value of
-- a term lies in its range.
use Rattle.std.specs.Prelude.{◌≡◌, ℕ, [], ◌∷◌, Option, Some, None}
use Rattle.std.specs.List.{AllByRecursion}
use Rattle.c_syntax.specs.declared.annotation.Range.{Range}
use Rattle.c_syntax.specs.Ctypes.{PlainType}
use Rattle.c_syntax.specs.Layouts.{scalar_of}
use Rattle.c_syntax.specs.Logic.{LogicTerm, range_of}
use Rattle.c_syntax.specs.Programs.{TranslationUnit}
use Rattle.c_model.specs.AcceptedPrograms.{IsProgram}
use Rattle.c_model.specs.ContractChecks.{result_number}
use Rattle.c_model.specs.JudgedStates.{Judgement, Result, judged, names_with}
use Rattle.c_model.specs.Logic.{TermValue}
use Rattle.c_model.specs.Predicates.{term}
use Rattle.c_model.specs.SoundJudgements.{IsSoundJudgement}
use Rattle.c_model.specs.State.{Input}
use Rattle.c_model.specs.TermRanges.{Seen, TermRanged, place_range}
use Rattle.interval_infer.specs.Terms.{NamesFit, StateFits, ValueLies}

-- `\result` with the range of a type
abbrev pub seen_as : Option Range → Seen
seen_as None = []
seen_as (Some r) = (result_number, r) ∷ []

-- what a function gives has a type that is scalar, if it gives anything (C99 6.9.1 p3)
abbrev pub seen_in : PlainType → Seen
seen_in t = elim (scalar_of t) [ None ↦ [] | Some k ↦ seen_as (place_range (Some t)) ]

-- the names in sight: `\result` alone, where it is
abbrev pub seen_with : Option Result → Seen
seen_with None = []
seen_with (Some r) = seen_in r.ctype

-- loads fit there, and so do the names in sight
pub record FitsThere (j : Judgement) : Type 0 where
  pub state : StateFits j.state
  pub names : NamesFit (seen_with j.result) j.state (names_with j.result)

-- as they do in each sound judgement
abbrev pub SoundJudgementsFit : Type 0
SoundJudgementsFit = (p : TranslationUnit) (j : Judgement) → IsSoundJudgement p j → FitsThere j

-- each value of a term lies in its range there
abbrev pub TermsLieThere : Judgement → Type 0
TermsLieThere j = (t : LogicTerm) (v : TermValue) → TermRanged (seen_with j.result) t → term t j.state (names_with j.result) ≡ Some v → ValueLies (range_of t) v

-- so it is with all judgements of each run of a program of an accepted text, from its start on
abbrev pub JudgedTermsLieInRanges : Type 0
JudgedTermsLieInRanges = (p : TranslationUnit) → IsProgram p → (input : Input) (n : ℕ) → AllByRecursion TermsLieThere (judged p input n)
