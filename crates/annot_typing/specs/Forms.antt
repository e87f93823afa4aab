-- Ours: the answer to a form (ACSL 2.2).
use Rattle.std.specs.Prelude.{Result}
use Rattle.c_syntax.specs.Formulas.{Form}
use Rattle.c_model.specs.ExpressionTyping as plain
use Rattle.c_model.specs.PredicateTyping.{typed_form}
use Rattle.c_scopes.specs.declared.fault.TypeFault.{TypeFault}
use Rattle.c_scopes.specs.Answers.{Answers}
use Rattle.annot_typing.specs.declared.clause_sight.FormSight.{FormSight}
use Rattle.annot_typing.specs.declared.sorted.Sorted.{Sorted}
use Rattle.annot_typing.specs.Sights.{form_sight}
use Rattle.annot_typing.specs.Sorts.{plain_sorted}

-- what a form is, where this is in sight, or its first fault
abbrev pub FormTyped : plain.Sight → FormSight → Form → Result Sorted TypeFault → Type 0
FormTyped s names f result = Answers plain_sorted (typed_form (form_sight s names) f) result
