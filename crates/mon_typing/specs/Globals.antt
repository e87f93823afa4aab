-- Ours: parts of mon_syntax/specs/Checking, as the code does them.
-- Globals from what is checked of them.
use Rattle.std.specs.Prelude.{ℕ, ◌+◌, unsigned_abs, nat_eq, length, List, [], ◌∷◌, ◌++◌, map, Some, None, Ok, if◌then◌else◌}
use Rattle.mon_syntax.specs.Trees.{PlainContent, Zeros, Literal, MonFunction, MonitoredGlobal, MonitoredProgram}
use Rattle.mon_syntax.specs.Parsed.{ParsedGlobal, ParsedProgram}
use Rattle.mon_syntax.specs.Grammar.{Vocabulary}
use Rattle.mon_syntax.specs.Checking.{Checked, ◌>>◌, name_fault, demanded, is_new, word_bytes, header_of, checked_functions}

-- the content that a global has where there is no fault
abbrev pub content_of : ParsedGlobal → PlainContent
content_of g = elim g.literal [ None ↦ Zeros (unsigned_abs g.size) | Some bytes ↦ Literal bytes ]

abbrev pub named_global : List (List ℕ) → ParsedGlobal → MonitoredGlobal
named_global names g = record { name = word_bytes names g.name.number; content = content_of g }

-- a literal's number is that of its bytes and one more
abbrev pub checked_size : ParsedGlobal → Checked (Unit {0})
checked_size g = elim g.literal [ None ↦ Ok tt | Some bytes ↦ demanded (nat_eq (unsigned_abs g.size) (length bytes + 1)) g.place ]

-- the names' numbers, those of globals after others
abbrev pub checked_numbers : Vocabulary → List ℕ → List ParsedGlobal → Checked (List ℕ)
checked_numbers ws known [] = Ok known
checked_numbers ws known (g ∷ gs) =
    if is_new ws known g.name.number then checked_size g >> checked_numbers ws (known ++ g.name.number ∷ []) gs else name_fault g.name.place

abbrev pub globals_of : Vocabulary → ParsedProgram → Checked (List ℕ)
globals_of ws p = checked_numbers ws [] p.globals

-- the functions of a text with these globals
abbrev pub functions_of : List (List ℕ) → Vocabulary → List ℕ → ParsedProgram → Checked (List MonFunction)
functions_of names ws globals p = checked_functions names ws (map header_of p.functions) globals [] p.functions

-- a program of these functions, and the globals of the text
abbrev pub named_program : List (List ℕ) → ParsedProgram → List MonFunction → MonitoredProgram
named_program names p fs = record { globals = map (named_global names) p.globals; functions = fs }
