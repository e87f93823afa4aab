-- Ours: globals and literals of monitored C.
-- What a global or a literal is in memory: its kind, its size, its first bytes, and what all of them take.
use Rattle.std.specs.Prelude.{ℕ, ◌+◌, List, [], ◌∷◌, length}
use Rattle.c_syntax.specs.declared.types.BlockKind.{BlockKind}
use Rattle.c_syntax.specs.declared.types.BlockKind.TheVariants as kind
use Rattle.c_model.specs.Memory.{rounded}
use Rattle.mon_syntax.specs.Trees.{PlainContent, Zeros, Literal, MonitoredGlobal}

abbrev pub kind_of_content : PlainContent → BlockKind
kind_of_content (Zeros n) = kind.Global
kind_of_content (Literal bytes) = kind.Literal

-- in bytes; a literal has a 0 after its bytes
abbrev pub size_of_content : PlainContent → ℕ
size_of_content (Zeros n) = n
size_of_content (Literal bytes) = length bytes + 1

-- the bytes before zeros
abbrev pub first_bytes : PlainContent → List ℕ
first_bytes (Zeros n) = []
first_bytes (Literal bytes) = bytes

abbrev pub size_of_global : MonitoredGlobal → ℕ
size_of_global g = size_of_content g.content

-- what they take of their segment
abbrev pub globals_taken : List MonitoredGlobal → ℕ
globals_taken [] = 0
globals_taken (g ∷ gs) = rounded (size_of_global g) + globals_taken gs
