-- Ours: the plain form of the labels that lowering carries along.
-- The labels of the bodies around a statement, as a list.
use Rattle.std.specs.Prelude.{List, [], ◌∷◌, ◌++◌}
use Rattle.c_lower.specs.declared.labels.Labels.{Labels, Outside, Inside'}
use Rattle.c_lower.specs.Code.{OpenLabel}

-- the innermost last
abbrev pub open_labels : Labels → List OpenLabel
open_labels Outside = []
open_labels (Inside' p outer name behind) = open_labels outer ++ record { label = name.now; behind = behind } ∷ []
