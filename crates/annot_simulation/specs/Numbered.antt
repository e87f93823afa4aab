-- Ours: bounds that the trees have by their types.
-- The number and the line of an annotation are of 32 bits.
use Rattle.std.specs.Prelude.{◌≤◌, List, [], ◌∷◌}
use Rattle.c_syntax.specs.Logic.{Annotation}

pub record IsNumbered (a : Annotation) : Type 0 where
  pub number : a.number ≤ 4294967295
  pub line : a.place.line ≤ 4294967295

abbrev pub AreNumbered : List Annotation → Type 0
AreNumbered [] = Unit {0}
AreNumbered (a ∷ rest) = IsNumbered a × AreNumbered rest
