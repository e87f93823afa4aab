use Rattle.std.proofs.Common.{◌≡◌, ◌++◌}
use Rattle.c_lexer.specs.Reading.{spelled, seen}
use Rattle.c_lexer.proofs.names.all_names.Given as goal

-- those that were moved out and those that are left are all
abbrev pub invariant-loop-name : goal.invariant-loop-name
invariant-loop-name l = l.all.items ++ spelled l.name-iterator ≡ seen l.fn.names
