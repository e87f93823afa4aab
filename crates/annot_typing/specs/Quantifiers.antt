-- Ours: the plain form of the parts of quantifiers as the code has them (ACSL 2.2).
use Rattle.std.specs.Prelude.{List, [], ◌∷◌, map, option_map}
use Rattle.c_syntax.specs.declared.logic.Guard.{Guard}
use Rattle.c_syntax.specs.declared.logic.Term.{Term}
use Rattle.c_syntax.specs.Logic.{LogicTerm, Guards, Guarded, plain_binder, plain_pred, plain_term}
use Rattle.c_model.specs.PredicateTyping as typing
use Rattle.c_model.specs.QuantifierTyping as plain
use Rattle.c_model.specs.QuantifierTyping.{GuardChain}
use Rattle.annot_typing.specs.declared.quantifier.Conjuncts.{Conjuncts}
use Rattle.annot_typing.specs.declared.sorted.Sorted.{Sorted}
use Rattle.annot_typing.specs.Sorts.{plain_sorted}

abbrev pub plain_chain : Guard → GuardChain
plain_chain g = record {
  lower = plain_term g.lower;
  first = plain_binder g.first;
  others = map plain_binder g.others.items;
  below = g.below;
  upper = plain_term g.upper;
}

abbrev pub plain_conjuncts : Conjuncts → plain.Conjuncts
plain_conjuncts c = record { chains = map plain_chain c.chains.items; others = option_map plain_pred c.others }

-- two bounds, two parts of a conjunction, and conjuncts with what they are hypotheses of
abbrev pub plain_bounds : (Term × Term) → (LogicTerm × LogicTerm)
plain_bounds p = (plain_term p.0, plain_term p.1)

abbrev pub plain_parts : (Conjuncts × Conjuncts) → (plain.Conjuncts × plain.Conjuncts)
plain_parts p = (plain_conjuncts p.0, plain_conjuncts p.1)

abbrev pub plain_implication : (Conjuncts × Sorted) → (plain.Conjuncts × typing.Sorted)
plain_implication p = (plain_conjuncts p.0, plain_sorted p.1)

-- chains before a guard
abbrev pub guards_before : List GuardChain → Guards → Guards
guards_before [] gs = gs
guards_before (c ∷ cs) gs = Guarded c.lower c.first c.others c.below c.upper (guards_before cs gs)
