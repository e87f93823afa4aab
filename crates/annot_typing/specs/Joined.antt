-- Ours: two answers as one. No standard says which of several faults is reported.
use Rattle.std.specs.Prelude.{Result, Ok, Err}
use Rattle.c_scopes.specs.declared.fault.TypeFault.{TypeFault}
use Rattle.c_scopes.specs.Answers.{lesser_of}

-- both parts, or the first fault of the two
abbrev pub both_answered : {A B : Type 0} → Result A TypeFault → Result B TypeFault → Result (A × B) TypeFault
both_answered (Ok x) (Ok y) = Ok (x, y)
both_answered (Ok x) (Err g) = Err g
both_answered (Err f) (Ok y) = Err f
both_answered (Err f) (Err g) = Err (lesser_of f g)
