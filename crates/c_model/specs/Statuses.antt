-- Ours: the exit statuses of the program.
use Rattle.std.specs.Prelude.{ℕ}

-- the program ended, or its translation was written
abbrev pub exited_status : ℕ
exited_status = 0

-- an annotation is false or undefined
abbrev pub broken_status : ℕ
broken_status = 1

-- the text is refused
abbrev pub refused_status : ℕ
refused_status = 2

-- the words of the command line have no job
abbrev pub usage_status : ℕ
usage_status = 3

-- a run wants more room than there is
abbrev pub full_status : ℕ
full_status = 4

-- the steps are spent
abbrev pub spent_status : ℕ
spent_status = 5

-- the machine faulted
abbrev pub fault_status : ℕ
fault_status = 6

-- the folder or the input failed
abbrev pub read_fault_status : ℕ
read_fault_status = 7

-- an output failed
abbrev pub write_fault_status : ℕ
write_fault_status = 8

-- memory ran out
abbrev pub no_memory_status : ℕ
no_memory_status = 9

-- nothing stands under the name of the file
abbrev pub no_file_status : ℕ
no_file_status = 10

-- the file is longer than its limit
abbrev pub too_long_status : ℕ
too_long_status = 11
