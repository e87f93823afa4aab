-- Ours: what is known of each tree that is read of a text, and of each run of the program of an accepted text, with nothing left to ask.
use Rattle.std.specs.Prelude.{◌≡◌, ℕ, ◌<◌, List, length, Some, Ok, slice_get}
use Rattle.std.specs.List.{AllByRecursion}
use Rattle.c_syntax.specs.Programs.{Function, TranslationUnit}
use Rattle.c_syntax.specs.Tokens.{PlainTokens}
use Rattle.c_model.specs.CTokens.{tokens_of}
use Rattle.c_model.specs.Checked.{Good}
use Rattle.c_model.specs.Formed.{AreReadAsserts, AreReadLoopClauses}
use Rattle.c_model.specs.FullExpressions.{EachExpression}
use Rattle.c_model.specs.JudgedStates.{judged, judged_whole}
use Rattle.c_model.specs.LetterValues.{LettersFit}
use Rattle.c_model.specs.Phases.{AcceptedText, IsRead}
use Rattle.c_model.specs.ReadTree.{AreBytes, FunctionsRead, ReadTree, functions_among}
use Rattle.c_model.specs.SoundJudgements.{GivesResult, IsSoundJudgement}
use Rattle.c_model.specs.SoundStates.{IsSoundState}
use Rattle.c_model.specs.State.{Input, State}
use Rattle.c_model.specs.UnitTyping.{items_of_file, typed_unit}
use Rattle.interval_infer.specs.InSight.{IsInSight}

-- ---- trees

-- the tree of a text is what typing asks for (`c_model` TextTypingLaws)
abbrev pub TreesAreRead : Type 0
TreesAreRead = (text : List ℕ) (ts : PlainTokens) (tree : TranslationUnit) → AreBytes text → length text < 4294967295 → tokens_of text ≡ Ok ts
    → IsRead ts tree → ReadTree tree

-- and what it is typed as has its asserts where the laws of their typing ask for them
abbrev pub TypedTreesKeepAsserts : Type 0
TypedTreesKeepAsserts = (tree typed : TranslationUnit) → ReadTree tree → typed_unit tree ≡ Good typed
    → FunctionsRead AreReadAsserts AreReadLoopClauses (functions_among (items_of_file typed))

-- ---- programs

-- each letter in its functions, and in the initialisers of its globals, is a value of `char` (C99 6.4.4.4 p10)
abbrev pub LettersAreCharacters : Type 0
LettersAreCharacters = (text : List ℕ) (p : TranslationUnit) → AcceptedText text p → EachExpression LettersFit p

-- what a function of it gives, from a sound state on and with any number of steps, is a value of the function's type
abbrev pub ResultsFit : Type 0
ResultsFit = (text : List ℕ) (p : TranslationUnit) → AcceptedText text p → (i : ℕ) (f : Function) → slice_get p.funcs i ≡ Some f → GivesResult p f

-- wherever a run of it judges an annotation the state is sound, and `\result` is a value of its type there: from its start on, on each input
abbrev pub RunsJudgeSoundly : Type 0
RunsJudgeSoundly = (text : List ℕ) (p : TranslationUnit) → AcceptedText text p → (input : Input) (n : ℕ)
    → AllByRecursion (IsSoundJudgement p) (judged p input n)

-- and so it is in each run from a sound state on
abbrev pub JudgementsAreSound : Type 0
JudgementsAreSound = (text : List ℕ) (p : TranslationUnit) → AcceptedText text p → (n : ℕ) (s : State) → IsSoundState p s
    → AllByRecursion (IsSoundJudgement p) (judged_whole p n s)

-- each annotation that a run of it judges is typed with what is in sight where it stands, and what it may name has blocks in the state in which it is asked:
-- from the run's start on, on each input
abbrev pub JudgementsAreInSight : Type 0
JudgementsAreInSight = (text : List ℕ) (p : TranslationUnit) → AcceptedText text p → (input : Input) (n : ℕ)
    → AllByRecursion IsInSight (judged p input n)
