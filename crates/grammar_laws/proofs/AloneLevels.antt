-- Where no range is asked for, forms are read level by level, and nothing goes on behind what a quantifier ends.
use Rattle.std.proofs.Common.{ℕ, List, [], ◌∷◌, Some, None}
use Rattle.grammar.specs.Syntax.{Syntax}
use Rattle.grammar.specs.Exact.{Same}
use Rattle.grammar_laws.proofs.Inclusions.{Within, both, forth, back, itself, ◌so◌, each, on, turns}
use Rattle.grammar_laws.proofs.AnnotationKnots.{forms_knot, implication_knot}
use Rattle.c_syntax.specs.Formulas.{Form, FormZone}
use Rattle.c_syntax.specs.Tokens.{PlainToken}
use Rattle.c_model.specs.declared.formulas.FormulaMode.TheVariants.{Alone}
use Rattle.c_model.specs.declared.formulas.FormulaOperator.{FormulaOperator}
use Rattle.c_model.specs.Vocabulary.{Vocabulary}
use Rattle.c_model.specs.Punctuators.{question, implies}
use Rattle.c_model.specs.ExpressionGrammar.{kinds_of, mark_kind}
use Rattle.c_model.specs.AnnotationGrammar.{formula_kind, Spanned, unended, unended_kinds, as_it_is, joined, joined_more, joined_once, disjunction, implication, equivalence, implication_of, implication_behind, implied}
use Rattle.c_model.specs.AnnotationGrammar.{chosen_behind, choice_behind, zone, form_of, forms, form}
use Rattle.grammar_laws.specs.AnnotationProductions as production

-- a kind that nothing asks for
abbrev no : PlainToken → ℕ
no t = 0

module _ (ws : Vocabulary) where
  abbrev F : Syntax PlainToken Form
  F = form ws

  abbrev Z : Syntax PlainToken FormZone
  Z = zone ws (forms ws)

  abbrev L : Syntax PlainToken (Spanned Form)
  L = forms ws Alone

  pub joined_line : (table : List (ℕ × FormulaOperator)) (R : Syntax PlainToken (Spanned Form)) → Same (joined ws table R) (production.joined_from_left ws table R)
  unfolding joined joined_more joined_once
  joined_line table R =
      both (on R (λ x. turns (formula_kind ws) (unended_kinds (kinds_of table)) no (λ _. []) (λ y. itself _) x)) (on R (λ x. turns no (λ _. []) (formula_kind ws) (unended_kinds (kinds_of table)) (λ y. itself _) x))

  implication_forth : (x : Spanned Form) → Within (unended (implication_behind ws (implication ws F Z L Alone)) as_it_is x) (unended (production.implied ws) as_it_is x)
  unfolding implication_behind implied
  implication_forth (a, None) = each (formula_kind ws) (mark_kind implies ∷ []) no [] (itself _) (itself _)
  implication_forth (a, Some e) = itself _

  implication_back : (x : Spanned Form) → Within (unended (production.implied ws) as_it_is x) (unended (implication_behind ws (implication ws F Z L Alone)) as_it_is x)
  unfolding implication_behind implied
  implication_back (a, None) = each no [] (formula_kind ws) (mark_kind implies ∷ []) (itself _) (itself _)
  implication_back (a, Some e) = itself _

  pub implication_line : Same (implication ws F Z L Alone) (production.implication ws)
  unfolding implication_of
  implication_line =
      let k = implication_knot ws F Z L Alone in
      both (forth k so on (disjunction ws F Z L Alone) implication_forth) (on (disjunction ws F Z L Alone) implication_back so back k)

  choice_forth : (x : Spanned Form) → Within (unended (choice_behind ws F L) as_it_is x) (unended (production.chosen ws) as_it_is x)
  unfolding choice_behind chosen_behind
  choice_forth (a, None) = each (formula_kind ws) (mark_kind question ∷ []) no [] (itself _) (itself _)
  choice_forth (a, Some e) = itself _

  choice_back : (x : Spanned Form) → Within (unended (production.chosen ws) as_it_is x) (unended (choice_behind ws F L) as_it_is x)
  unfolding choice_behind chosen_behind
  choice_back (a, None) = each no [] (formula_kind ws) (mark_kind question ∷ []) (itself _) (itself _)
  choice_back (a, Some e) = itself _

  pub form_line : Same L (production.form ws)
  unfolding form_of
  form_line =
      let k = forms_knot ws Alone in
      both (forth k so on (equivalence ws F Z L Alone) choice_forth) (on (equivalence ws F Z L Alone) choice_back so back k)
