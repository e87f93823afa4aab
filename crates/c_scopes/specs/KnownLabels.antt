-- Ours: labels of C (C99 6.8.1) that are known where an annotation stands, each with what is in sight where it stands itself.
use Rattle.std.specs.Prelude.{ℕ, List, [], ◌∷◌, ◌++◌}
use Rattle.c_model.specs.ExpressionTyping as plain
use Rattle.c_scopes.specs.declared.sight.Mark.{Mark}
use Rattle.c_scopes.specs.declared.label.Labels.{Labels}
use Rattle.c_scopes.specs.Labels.{plain_marks}
use Rattle.c_scopes.specs.Sights.{left}

-- names with marks, the newest last
abbrev pub marks_of : Labels → List (ℕ × Mark)
marks_of ls = plain_marks ls.known.items

-- what was in sight at a mark, where this is now
abbrev pub sight_of : plain.Sight → Mark → plain.Sight
sight_of s m = left m.count m.innermost s

-- the labels with what is in sight of each, the newest first
abbrev pub known_labels : plain.Sight → List (ℕ × Mark) → List (ℕ × plain.Sight)
known_labels s [] = []
known_labels s (l ∷ ls) = known_labels s ls ++ (l.0, sight_of s l.1) ∷ []
