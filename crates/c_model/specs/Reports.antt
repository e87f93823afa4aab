-- Ours: the statuses and the lines of this program.
-- What the program reports of a run, and when two runs agree.
use Rattle.std.specs.Prelude.{◌≡◌, ℕ, List, [], ◌∷◌, ◌++◌, Option, Some, None, option_map, codes}
use Rattle.std.specs.Fmt.{decimal, signed_decimal}
use Rattle.c_syntax.specs.declared.annotation.Kind.{Kind}
use Rattle.c_syntax.specs.declared.annotation.Kind.TheVariants.{Assert, Requires, Assumes, Ensures, Complete, Disjoint, Invariant, Variant, Rte}
use Rattle.c_syntax.specs.declared.types.How.{How}
use Rattle.c_syntax.specs.declared.types.How.TheVariants as how
use Rattle.c_syntax.specs.declared.types.Segment.{Segment}
use Rattle.c_syntax.specs.declared.types.Segment.TheVariants.{Heap, Stack, Frames, Numbers}
use Rattle.c_syntax.specs.Programs.{PlainRefusal}
use Rattle.c_model.specs.Statuses.{exited_status, broken_status, full_status, spent_status, fault_status, read_fault_status}
use Rattle.c_model.specs.State as source
use Rattle.c_model.specs.Meaning as source_run
use Rattle.c_model.specs.MonitoredRuns.{Final, Exits, Broken, Fault, Spent, Full, ReadFault, Ran, machine_end, end_without_fault}

-- an exit status, and the line on the error output that goes with it
pub record Report : Type 0 where
  pub status : ℕ
  pub line : List ℕ

-- a line of the program, with its end
abbrev pub line_of : List ℕ → List ℕ
line_of words = codes "eacsl: " ++ (words ++ 10 ∷ [])

abbrev pub kind_word : Kind → List ℕ
kind_word Assert = codes "assert"
kind_word Requires = codes "requires"
kind_word Assumes = codes "assumes"
kind_word Ensures = codes "ensures"
kind_word Complete = codes "complete"
kind_word Disjoint = codes "disjoint"
kind_word Invariant = codes "invariant"
kind_word Variant = codes "variant"
kind_word Rte = codes "rte"

abbrev pub how_word : How → List ℕ
how_word how.False = codes "false"
how_word how.Undefined = codes "undefined"

abbrev pub segment_word : Segment → List ℕ
segment_word Heap = codes "heap"
segment_word Stack = codes "stack"
segment_word Frames = codes "frames"
segment_word Numbers = codes "numbers"

-- annotation A, line L: KIND is HOW
abbrev pub broken_words : ℕ → ℕ → Kind → How → List ℕ
broken_words number line kind how = codes "annotation " ++ (decimal number ++
    (codes ", line " ++ (decimal line ++ (codes ": " ++ (kind_word kind ++ (codes " is " ++ how_word how))))))

-- refused EC at L:C: WORD
abbrev pub refused_words : PlainRefusal → List ℕ
refused_words r = codes "refused E" ++
    (decimal r.code ++ (codes " at " ++ (decimal r.place.line ++ (codes ":" ++ (decimal r.place.column ++ (codes ": " ++ r.construct))))))

-- the report of the end of a monitored program's run
abbrev pub machine_report : Final → Report
machine_report (Exits k) = record { status = exited_status; line = line_of (codes "exit " ++ signed_decimal k) }
machine_report (Broken number line kind how) = record { status = broken_status; line = line_of (broken_words number line kind how) }
machine_report Fault = record { status = fault_status; line = line_of (codes "fault") }
machine_report Spent = record { status = spent_status; line = line_of (codes "steps spent") }
machine_report (Full segment) = record { status = full_status; line = line_of (codes "full " ++ segment_word segment) }
machine_report ReadFault = record { status = read_fault_status; line = line_of (codes "read fault") }

-- that of the source's run; an undefined operation has none
abbrev pub report : source.Final → Option Report
report e = option_map machine_report (machine_end e)

-- b goes on from what a printed
pub record Extends (a b : List ℕ) : Type 0 where
  pub rest : List ℕ
  pub is : b ≡ a ++ rest

-- the run b of a monitored program has this end, output and number of steps left; where no end is named it prints at least this
abbrev pub agrees_at : Option Final → List ℕ → ℕ → Ran → Type 0
agrees_at None output left b = Extends output b.output
agrees_at (Some e) output left b = b ≡ record { final = e; output = output; left = left }

-- b is as the source's run a: the same end, output and steps left; or, where a ends undefined, a's output begins b's
abbrev pub Agrees : source_run.Ran → Ran → Type 0
Agrees a b = agrees_at (machine_end a.final) a.output a.left b

-- the same of two runs of a monitored program: where a ends in a fault, a's output begins b's
abbrev pub AgreesToFault : Ran → Ran → Type 0
AgreesToFault a b = agrees_at (end_without_fault a.final) a.output a.left b
