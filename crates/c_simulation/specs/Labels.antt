-- Ours: the names of the labels at which loops end and go on, and at which a body ends.
use Rattle.std.specs.Prelude.{ℕ, List, ◌++◌, codes}
use Rattle.std.specs.Fmt.{decimal}

-- `end_3`: the end of a loop, by how many loops stand around its body
abbrev pub end_label : ℕ → List ℕ
end_label loops = codes "end_" ++ decimal loops

-- `next_3`: the end of its body, where the next turn begins
abbrev pub next_label : ℕ → List ℕ
next_label loops = codes "next_" ++ decimal loops

-- `leave`: the end of a body behind which a contract is checked
abbrev pub leave_label : List ℕ
leave_label = codes "leave"
