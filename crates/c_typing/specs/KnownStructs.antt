-- Ours: sizes that are taken from structs and given back (c_model/specs/AnnotationTyping).
use Rattle.std.specs.Prelude.{ℕ, List, [], ◌∷◌, map}
use Rattle.c_syntax.specs.declared.program.Layout.{Layout}
use Rattle.c_syntax.specs.Programs.{StructType}

abbrev pub sizes_of : List Layout → List ℕ
sizes_of ls = map (λ (l : Layout). l.size) ls

-- structs with these sizes
abbrev pub with_sizes : List ℕ → List StructType → List StructType
with_sizes [] ss = ss
with_sizes (n ∷ ns) [] = []
with_sizes (n ∷ ns) (s ∷ ss) = record s { size = n } ∷ with_sizes ns ss
