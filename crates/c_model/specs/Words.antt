-- Ours: the command line of this program.
-- The job that the words of a command line ask for. The first word is the command. After it stand, in any order,
-- one file and each option of the command at most once. A `--` ends the options: each word after it is an operand.
use Rattle.std.specs.Prelude.{ℕ, nat_le, Bool, true, false, ◌&&◌, not, if◌then◌else◌, nat_eq, List, [], ◌∷◌, ◌++◌, Option, Some, None, codes, bytes_eq}
use Rattle.std.specs.Str.{all_ascii_digits}
use Rattle.std.specs.Str.Parse.{digits_value}
use Rattle.c_model.specs.declared.job.Job.{Job}
use Rattle.c_model.specs.declared.job.Job.TheVariants.{Run, Instrument, Exec}

-- what stands after a command: an operand, or the option `--steps` with its value
pub data Argument : Type 0 where
  Operand : List ℕ → Argument
  Steps : List ℕ → Argument

infixl 10 ◌>>=◌
-- there is no value where a part has none
abbrev pub ◌>>=◌ : {A B : Type 0} → Option A → (A → Option B) → Option B
None >>= next = None
(Some a) >>= next = next a

-- the words before the first `--`, all where there is none
abbrev pub before_dashes : List (List ℕ) → List (List ℕ)
before_dashes [] = []
before_dashes (word ∷ words) = if bytes_eq word (codes "--") then [] else word ∷ before_dashes words

-- the words after the first `--`, a second `--` among them, and none where there is no `--`
abbrev pub behind_dashes : List (List ℕ) → List (List ℕ)
behind_dashes [] = []
behind_dashes (word ∷ words) = if bytes_eq word (codes "--") then words else behind_dashes words

-- what follows this front in a text that begins with it
abbrev pub without_front : List ℕ → List ℕ → Option (List ℕ)
without_front [] text = Some text
without_front (c ∷ front) [] = None
without_front (c ∷ front) (b ∷ text) = if nat_eq b c then without_front front text else None

-- a word is an operand where it doesn't begin with `-`
abbrev pub operand : List ℕ → Option Argument
operand word = elim (without_front (codes "-") word) [ Some rest ↦ None | None ↦ Some (Operand word) ]

-- a word alone is `--steps=N` or an operand
abbrev pub argument : List ℕ → Option Argument
argument word = elim (without_front (codes "--steps=") word) [ Some value ↦ Some (Steps value) | None ↦ operand word ]

-- The arguments of the words before `--`. The value of `--steps` is the next word, whatever it looks like. Where
-- none comes next, as directly before `--`, there are no arguments.
abbrev mutual
  pub arguments : List (List ℕ) → Option (List Argument)
  arguments [] = Some []
  arguments (word ∷ words) = if bytes_eq word (codes "--steps") then with_value words else (argument word >>= λ first. arguments words >>=
      λ more. Some (first ∷ more))

  pub with_value : List (List ℕ) → Option (List Argument)
  with_value [] = None
  with_value (value ∷ words) = arguments words >>= λ more. Some (Steps value ∷ more)

abbrev pub operands : List Argument → List (List ℕ)
operands [] = []
operands (Operand word ∷ more) = word ∷ operands more
operands (Steps value ∷ more) = operands more

-- the values of each `--steps`
abbrev pub step_values : List Argument → List (List ℕ)
step_values [] = []
step_values (Operand word ∷ more) = step_values more
step_values (Steps value ∷ more) = value ∷ step_values more

abbrev pub is_empty : List ℕ → Bool
is_empty [] = true
is_empty (c ∷ text) = false

-- N is one or more decimal digits of value at most 10^12, of which any number may be leading zeros
abbrev pub step_number : List ℕ → Option ℕ
step_number text = if not (is_empty text) && (all_ascii_digits text && nat_le (digits_value 10 text) 1000000000000) then Some (digits_value 10 text) else None

-- the option stands at most once, and 10^7 steps are the default
abbrev pub steps_of : List (List ℕ) → Option ℕ
steps_of [] = Some 10000000
steps_of (value ∷ []) = step_number value
steps_of (value ∷ again ∷ more) = None

-- there is one operand, which is not empty and not `-`
abbrev pub file_of : List (List ℕ) → Option (List ℕ)
file_of [] = None
file_of (word ∷ []) = if is_empty word then None else (if bytes_eq word (codes "-") then None else Some word)
file_of (word ∷ again ∷ more) = None

-- the job of the words after a command with the option `--steps`
abbrev pub timed : (List ℕ → ℕ → Job) → List (List ℕ) → Option Job
timed job words = do
  found ← arguments (before_dashes words)
  file ← file_of (operands found ++ behind_dashes words)
  steps ← steps_of (step_values found)
  Some (job file steps)

abbrev pub run_of : List (List ℕ) → Option Job
run_of words = timed (λ file steps. Run file steps false) words

abbrev pub exec_of : List (List ℕ) → Option Job
exec_of words = timed Exec words

-- there is a job where no option is given
abbrev pub without_options : List (List ℕ) → Job → Option Job
without_options [] job = Some job
without_options (value ∷ more) job = None

-- the job of the words after `instrument`, which has no option
abbrev pub instrument_of : List (List ℕ) → Option Job
instrument_of words = do
  found ← arguments (before_dashes words)
  file ← file_of (operands found ++ behind_dashes words)
  without_options (step_values found) (Instrument file false)

abbrev pub command_of : List ℕ → List (List ℕ) → Option Job
command_of command words =
    if bytes_eq command (codes "run") then run_of words
    else (if bytes_eq command (codes "instrument") then instrument_of words
    else (if bytes_eq command (codes "exec") then exec_of words else None))

-- the job of a list of words, without the program's name
abbrev pub job_of : List (List ℕ) → Option Job
job_of [] = None
job_of (command ∷ words) = command_of command words
