-- Ours: the plain form of what a clause may name where it stands (ACSL 2.3.1, 2.4.3).
use Rattle.std.specs.Prelude.{ℕ, List, [], Option, None, Some}
use Rattle.std.specs.Borrow.{Bor}
use Rattle.c_syntax.specs.Ctypes.{plain_type}
use Rattle.c_model.specs.AnnotationSights as plain
use Rattle.c_model.specs.AnnotationSights.{AnnotationSight, InBody, AtEntry, AtEnd, UnderLabel}
use Rattle.c_model.specs.ExpressionTyping.{Sight}
use Rattle.c_scopes.specs.declared.tag.Tags.{Tags}
use Rattle.c_scopes.specs.KnownLabels.{known_labels, marks_of, sight_of}
use Rattle.annot_typing.specs.declared.clause_sight.ClauseSight.{ClauseSight}
use Rattle.annot_typing.specs.declared.clause_sight.ClauseSight.TheVariants as code
use Rattle.annot_typing.specs.declared.clause_sight.FormSight.{FormSight}
use Rattle.annot_typing.specs.declared.clause_sight.View.{View}

-- the numbers of parameters, if there are some
abbrev pub formals_of : Option (Bor Tags) → List ℕ
formals_of None = []
formals_of (Some formals) = formals.now.list.items

-- where this is in sight
abbrev pub plain_clause : Sight → ClauseSight → plain.ClauseSight
plain_clause s (code.InBody m ls) = InBody (sight_of s m)
plain_clause s code.AtEntry = AtEntry
plain_clause s (code.AtEnd formals t) = AtEnd formals.now.list.items (plain_type t.now)
plain_clause s (code.UnderLabel formals) = UnderLabel (formals_of formals)

abbrev pub labels_in : Sight → ClauseSight → List (ℕ × Sight)
labels_in s (code.InBody m ls) = known_labels s (marks_of ls.now)
labels_in s code.AtEntry = []
labels_in s (code.AtEnd formals t) = []
labels_in s (code.UnderLabel formals) = []

abbrev pub annotation_sight : Sight → ClauseSight → AnnotationSight
annotation_sight s k = record { here = s; labels = labels_in s k; clause = plain_clause s k; binders = [] }

-- with the binders of quantifiers
abbrev pub form_sight : Sight → FormSight → AnnotationSight
form_sight s f = record { here = s; labels = labels_in s f.clause; clause = plain_clause s f.clause; binders = f.binders.now }

-- what is in sight of a view, where this is
abbrev pub plain_view : Sight → View → AnnotationSight
plain_view s v = form_sight (sight_of s v.mark) v.clause
