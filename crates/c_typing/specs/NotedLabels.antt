-- Ours: the labels that are known where a statement of a body stands (C99 6.8.1, ACSL 2.4.3; c_model/specs/AnnotationTyping) in words of what the code keeps:
-- each with a mark of what is in sight where it stands itself.
use Rattle.std.specs.Prelude.{ℕ, ◌≤◌, List, [], ◌∷◌, ◌++◌, length}
use Rattle.c_syntax.specs.Statements.{Statement, Labelled, BlockItem, Run, BlockItems, NoItem, Then}
use Rattle.c_model.specs.ExpressionTyping.{Sight}
use Rattle.c_model.specs.AnnotationSights.{InBody, AnnotationSight}
use Rattle.c_model.specs.StatementTyping.{behind}
use Rattle.c_scopes.specs.declared.sight.Mark.{Mark}
use Rattle.c_scopes.specs.KnownLabels.{sight_of, known_labels}

-- the mark of what is in sight
abbrev pub here : Sight → Mark
here s = record { count = length s.entities; innermost = s.innermost }

-- the labels before a statement, all of which stand at one mark
abbrev pub marks_before : Mark → Statement → List (ℕ × Mark)
marks_before m (Labelled at l a) = (l, m) ∷ marks_before m a
marks_before m _ = []

abbrev pub marks_of_item : Mark → BlockItem → List (ℕ × Mark)
marks_of_item m (Run a) = marks_before m a
marks_of_item m _ = []

-- those before the items of a block
abbrev pub marks_in_items : Sight → BlockItems → List (ℕ × Mark)
marks_in_items s NoItem = []
marks_in_items s (Then i rest) = marks_of_item (here s) i ++ marks_in_items (behind s i) rest

-- and of a case, whose items declare nothing
abbrev pub marks_in_case : Mark → BlockItems → List (ℕ × Mark)
marks_in_case m NoItem = []
marks_in_case m (Then i rest) = marks_of_item m i ++ marks_in_case m rest

-- what a clause may name in a body that begins at a mark, where these labels are known
abbrev pub seen_in_body : Sight → Mark → List (ℕ × Mark) → AnnotationSight
seen_in_body s begin ls = record { here = s; labels = known_labels s ls; clause = InBody (sight_of s begin); binders = [] }

-- marks of what is in sight still
abbrev pub AreMarks : Sight → List (ℕ × Mark) → Type 0
AreMarks s [] = Unit {0}
AreMarks s (l ∷ ls) = (l.1.count ≤ length s.entities) × AreMarks s ls

pub record IsInBody (s : Sight) (begin : Mark) (ls : List (ℕ × Mark)) : Type 0 where
  pub start : begin.count ≤ length s.entities
  pub labels : AreMarks s ls
