-- Ours: laws of the command line that Words defines.
-- What holds of every list of words.
use Rattle.std.specs.Prelude.{◌≡◌, ◌≢◌, ℕ, ◌≤◌, ◌<◌, List, [], ◌∷◌, ◌++◌, length, Some, None, option_map, codes, false}
use Rattle.std.specs.List.{Contains}
use Rattle.std.specs.Fmt.{decimal}
use Rattle.c_model.specs.declared.job.Job.{Job}
use Rattle.c_model.specs.declared.job.Job.TheVariants.{Run, Instrument, Exec}
use Rattle.c_model.specs.Words.{Argument, before_dashes, arguments, step_number, run_of, exec_of, job_of}

-- the words are whole arguments, and none of them is `--`
pub record AreArguments (words : List (List ℕ)) : Type 0 where
  pub no_dashes : before_dashes words ≡ words
  pub found : List Argument
  pub are : arguments words ≡ Some found

abbrev pub with_steps : List ℕ → List ℕ
with_steps value = codes "--steps=" ++ value

-- arguments may change places
abbrev pub OrderIsFree : Type 0
OrderIsFree = (a b back : List (List ℕ)) → AreArguments a → AreArguments b → run_of (a ++ (b ++ back)) ≡ run_of (b ++ (a ++ back))

-- `--steps=N` is the same as `--steps N`
abbrev pub FormsAgree : Type 0
FormsAgree = (front : List (List ℕ)) (value : List ℕ) (back : List (List ℕ)) → AreArguments front
    → run_of (front ++ (with_steps value ∷ back)) ≡ run_of (front ++ (codes "--steps" ∷ (value ∷ back)))

-- an option twice has no value
abbrev pub OptionOnce : Type 0
OptionOnce = (front : List (List ℕ)) (first : List ℕ) (between : List (List ℕ)) (second : List ℕ) (back : List (List ℕ)) → AreArguments front
    → AreArguments between → run_of (front ++ (with_steps first ∷ (between ++ (with_steps second ∷ back)))) ≡ None

-- after `--` each word is an operand: alone it is the file, and two have no value
abbrev pub DashesEndOptions : Type 0
DashesEndOptions = (word : List ℕ) → word ≢ [] → word ≢ codes "-" → run_of (codes "--" ∷ (word ∷ [])) ≡ Some (Run word 10000000 false)

abbrev pub OneFileBehindDashes : Type 0
OneFileBehindDashes = (a b : List ℕ) (more : List (List ℕ)) → run_of (codes "--" ∷ (a ∷ (b ∷ more))) ≡ None

-- the file of a job, and the steps that it asks for
abbrev pub file_named : Job → List ℕ
file_named (Run file steps rte) = file
file_named (Instrument file rte) = file
file_named (Exec file steps) = file

abbrev pub steps_asked : Job → ℕ
steps_asked (Run file steps rte) = steps
steps_asked (Instrument file rte) = 0
steps_asked (Exec file steps) = steps

-- a job has at most 10^12 steps, and its file is one of the words, not empty and not `-`
pub record IsFromWords (words : List (List ℕ)) (file : List ℕ) (steps : ℕ) : Type 0 where
  pub small : steps ≤ 1000000000000
  pub word : Contains words file
  pub not_empty : file ≢ []
  pub not_dash : file ≢ codes "-"

abbrev pub JobsAreFromWords : Type 0
JobsAreFromWords = (words : List (List ℕ)) (job : Job) → job_of words ≡ Some job → IsFromWords words (file_named job) (steps_asked job)

-- `exec` takes the words that `run` takes
abbrev pub ExecTakesWordsOfRun : Type 0
ExecTakesWordsOfRun = (words : List (List ℕ)) → exec_of words ≡ option_map (λ job. Exec (file_named job) (steps_asked job)) (run_of words)

-- the number that is written is the one that is read, and a leading zero changes nothing
abbrev pub NumbersAreRead : Type 0
NumbersAreRead = (n : ℕ) → n ≤ 1000000000000 → step_number (decimal n) ≡ Some n

abbrev pub LeadingZeros : Type 0
LeadingZeros = (text : List ℕ) → 0 < length text → step_number (48 ∷ text) ≡ step_number text
