-- Ours: the commands of this program.
use Rattle.std.specs.Prelude.{ℕ, List, Option, Some, option_to_list, [], ◌∷◌, true, codes}
use Rattle.c_model.specs.declared.job.Job.{Job}
use Rattle.c_model.specs.Words.{file_of, steps_of, ◌>>=◌}
use Rattle.command_words.specs.Given.{Form, Text, given_by, text_of}

-- a file and `--steps N`
abbrev pub timed_form : Form
timed_form = record { operand = codes "file"; options = (codes "steps", true) ∷ [] }

-- an operand alone
abbrev pub single_form : Form
single_form = record { operand = codes "operand"; options = [] }

-- the job of a file and a number of steps, each at most once
abbrev pub job_from : (List ℕ → ℕ → Job) → Option Text → Option Text → Option Job
job_from job file steps = file_of (option_to_list file) >>= λ name. steps_of (option_to_list steps) >>= λ n. Some (job name n)

-- the operand of a command without options
abbrev pub operand_of : List Text → Option Text
operand_of words = given_by single_form words >>= λ given. text_of (codes "operand") given
